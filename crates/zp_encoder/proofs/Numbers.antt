-- Bytes as numbers: a byte more, runs of equal bytes, and a carry.
use Rattle.std.proofs.Common.{◌≡◌, ◌<◌, ◌≤◌, ◌+◌, ◌-◌, ◌*◌, ◌%◌, ◌^◌, ℕ, zero, suc, List, [], ◌∷◌, ◌++◌, length, replicate, sym, ap, ◌∙◌, arith}
use Rattle.std.proofs.Common.{length-append, append_assoc}
use Rattle.std.proofs.Math.Pow.{pow_mono}
use Rattle.std.proofs.lemmas.Nat.{mod_low}
use Rattle.std.proofs.lemmas.List.{append-nil}
use Rattle.zp_decoder.specs.Bits.{bits_from}
use Rattle.zp_decoder.specs.Window.{dent}
use Rattle.zp_decoder.proofs.Lemmas.{bits_from-join, ones_past, bits_with}
use Rattle.zp_encoder.specs.Digits.{number_of}

-- a byte takes away from ones what it lacks
dent_of_eight : (missing count : ℕ) → missing < 256 → 8 ≤ count → dent missing 8 % 2 ^ count ≡ missing
dent_of_eight missing count small enough =
    let most : 2 ^ 8 ≤ 2 ^ count = pow_mono enough in
    let within : missing < 2 ^ count = omega (arith, most) in
    let whole : dent missing 8 ≡ missing = omega arith in
    let high : 0 * 2 ^ count + missing ≡ missing = omega arith in
    ap (λ (n : ℕ). n % 2 ^ count) (whole ∙ sym high) ∙ mod_low 0 count missing within

pub number_of-push : (bytes : List ℕ) (byte : ℕ) → byte < 256 → number_of (bytes ++ byte ∷ []) ≡ 256 * number_of bytes + byte
number_of-push bytes byte small =
    let size : 8 * length (bytes ++ byte ∷ []) ≡ 8 * length bytes + 8 = omega (arith, length-append bytes (byte ∷ [])) in
    let with : bits_from bytes 0 (8 * length bytes + 8) ≡
    bits_from (bytes ++ byte ∷ []) 0 (8 * length bytes + 8) + dent (255 - byte) (0 + (8 * length bytes + 8) - 8 * length bytes) % 2 ^ (8 * length bytes + 8) =
    bits_with bytes byte 0 (8 * length bytes + 8) small in
    let join : bits_from bytes 0 (8 * length bytes + 8) ≡ number_of bytes * 2 ^ 8 + bits_from bytes (0 + 8 * length bytes) 8 =
    bits_from-join bytes 0 (8 * length bytes) 8 in
    let ones : bits_from bytes (0 + 8 * length bytes) 8 + 1 ≡ 2 ^ 8 = ones_past bytes (0 + 8 * length bytes) 8 (omega arith) in
    let lacks : dent (255 - byte) (0 + (8 * length bytes + 8) - 8 * length bytes) % 2 ^ (8 * length bytes + 8) ≡ 255 - byte =
    let place : 0 + (8 * length bytes + 8) - 8 * length bytes ≡ 8 = omega arith in
    rw place (dent_of_eight (255 - byte) (8 * length bytes + 8) (omega arith) (omega arith)) in
    rw size (omega (arith, with, join, ones, lacks))

-- digits of 255 behind a number become 0 behind the next one
pub carried : (lower higher : List ℕ) (run : ℕ) → number_of higher ≡ number_of lower + 1 →
    number_of (higher ++ replicate run 0) ≡ number_of (lower ++ replicate run 255) + 1
carried lower higher zero e = rw (append-nil lower, append-nil higher) e
carried lower higher (suc run) e =
    let zeros : number_of (higher ++ 0 ∷ []) ≡ 256 * number_of higher + 0 = number_of-push higher 0 (omega arith) in
    let ones : number_of (lower ++ 255 ∷ []) ≡ 256 * number_of lower + 255 = number_of-push lower 255 (omega arith) in
    let next : number_of (higher ++ 0 ∷ []) ≡ number_of (lower ++ 255 ∷ []) + 1 = omega (arith, zeros, ones, e) in
    let later = carried (lower ++ 255 ∷ []) (higher ++ 0 ∷ []) run next in
    let left : (higher ++ 0 ∷ []) ++ replicate run 0 ≡ higher ++ (0 ∷ replicate run 0) = append_assoc higher (0 ∷ []) (replicate run 0) in
    let right : (lower ++ 255 ∷ []) ++ replicate run 255 ≡ lower ++ (255 ∷ replicate run 255) = append_assoc lower (255 ∷ []) (replicate run 255) in
    rw (left, right) at later
