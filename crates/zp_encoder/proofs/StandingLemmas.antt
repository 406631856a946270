-- What is kept, lengthened by a bit, and at the end.
use Rattle.std.proofs.Common.{◌≡◌, ◌<◌, ◌≤◌, ◌+◌, ◌-◌, ◌*◌, ◌/◌, ◌%◌, ◌^◌, ℕ, zero, suc, Bool, true, false, List, length, refl, sym, ap, ◌∙◌, arith}
use Rattle.std.proofs.Common.{add-zero}
use Rattle.std.proofs.Math.Nat.{pow-suc, mul_assoc, mul_comm, add-mul}
use Rattle.std.proofs.Math.Pow.{pow_mono, shr_mono}
use Rattle.std.proofs.lemmas.Nat.{pow-add, pow_pos, shr_split, shr_high, mod_below}
use Rattle.zp_decoder.specs.Bits.{bits_from}
use Rattle.zp_decoder.proofs.Lemmas.{bits_from-join, ones_past}
use Rattle.zp_encoder.specs.declared.standing.Standing.{Standing}
use Rattle.zp_encoder.specs.Codes.{codes_from, longer, IsAmong}
use Rattle.zp_encoder.specs.Digits.{number_of, digits_of, is_raisable}
use Rattle.zp_encoder.specs.Encoder.{codes_of, IsSound, IsReady}

power_twice : (k bits : ℕ) → 2 ^ (k + (bits + 1)) ≡ 2 ^ (k + bits) * 2
power_twice k bits =
    let count : k + (bits + 1) ≡ suc (k + bits) = omega arith in
    rw count (pow-suc 2 (k + bits))

abbrev twice : Standing → Standing
twice kept = record { digits = kept.digits; bits = kept.bits + 1; low = kept.low * 2; a = 2 * kept.a - 0x10000 }

pub twice_codes : (kept : Standing) → codes_of (twice kept) ≡ longer (codes_of kept)
twice_codes kept =
    let number : ℕ = number_of (digits_of kept.digits) in
    let power : number * 2 ^ (16 + (kept.bits + 1)) ≡ number * 2 ^ (16 + kept.bits) * 2 =
    ap (λ (p : ℕ). number * p) (power_twice 16 kept.bits) ∙ sym (mul_assoc number (2 ^ (16 + kept.bits)) 2) in
    let low : number * 2 ^ (16 + (kept.bits + 1)) + kept.low * 2 ≡ 2 * (number * 2 ^ (16 + kept.bits) + kept.low) = omega (arith, power) in
    let bits : 8 * length (digits_of kept.digits) + (kept.bits + 1) ≡ 8 * length (digits_of kept.digits) + kept.bits + 1 = omega arith in
    ap (λ (low : ℕ). codes_from low (2 * kept.a - 0x10000) (8 * length (digits_of kept.digits) + (kept.bits + 1))) low
    ∙ ap (λ (n : ℕ). codes_from (2 * (number * 2 ^ (16 + kept.bits) + kept.low)) (2 * kept.a - 0x10000) n) bits

pub twice_sound : (kept : Standing) → IsSound kept → 0x8000 ≤ kept.a → kept.a < 0x10000 → kept.bits + 1 < 8 → IsSound (twice kept)
twice_sound kept sound high below few = record {
  room = sound.room;
  few = few;
  end = omega (arith, power_twice 17 kept.bits, sound.end);
  fixed = λ none. (let end = sound.fixed none in omega (arith, power_twice 16 kept.bits, end));
}

-- the end

eighth : (k bits : ℕ) → 2 ^ (k + 8 + bits) ≡ 2 ^ k * 2 ^ (8 + bits)
eighth k bits =
    let count : k + 8 + bits ≡ k + (8 + bits) = omega arith in
    rw count (pow-add 2 k (8 + bits))

quotient : (end bits most : ℕ) → end ≤ most * 2 ^ (8 + bits) → end / 2 ^ (8 + bits) ≤ most
quotient end bits most within =
    let less : end / 2 ^ (8 + bits) ≤ most * 2 ^ (8 + bits) / 2 ^ (8 + bits) = shr_mono (8 + bits) within in
    let exact : (most * 2 ^ (8 + bits) + 0) / 2 ^ (8 + bits) ≡ most = shr_high most (8 + bits) 0 (pow_pos (8 + bits)) in
    let plain : most * 2 ^ (8 + bits) / 2 ^ (8 + bits) ≡ most = rw add-zero at exact in
    omega (arith, less, plain)

pub digit_below : (kept : Standing) → IsSound kept → (kept.low + (0x10000 - kept.a)) / 2 ^ (8 + kept.bits) - 1 < 512
digit_below kept sound =
    let power : 2 ^ (17 + kept.bits) ≡ 512 * 2 ^ (8 + kept.bits) = eighth 9 kept.bits in
    let most = quotient (kept.low + (0x10000 - kept.a)) kept.bits 512 (rw power at sound.end) in
    omega (arith, most)

digit_fixed : (kept : Standing) → IsSound kept → is_raisable kept.digits ≡ false →
    (kept.low + (0x10000 - kept.a)) / 2 ^ (8 + kept.bits) - 1 < 256
digit_fixed kept sound none =
    let power : 2 ^ (16 + kept.bits) ≡ 256 * 2 ^ (8 + kept.bits) = eighth 8 kept.bits in
    let most = quotient (kept.low + (0x10000 - kept.a)) kept.bits 256 (rw power at (sound.fixed none)) in
    omega (arith, most)

raisable_by : (kept : Standing) (raisable : Bool) → is_raisable kept.digits ≡ raisable → IsSound kept →
    256 ≤ (kept.low + (0x10000 - kept.a)) / 2 ^ (8 + kept.bits) - 1 → raisable ≡ true
raisable_by kept true e sound large = refl
raisable_by kept false e sound large = absurd (omega (arith, digit_fixed kept sound e, large))

pub digit_raisable : (kept : Standing) → IsSound kept → 256 ≤ (kept.low + (0x10000 - kept.a)) / 2 ^ (8 + kept.bits) - 1 →
    is_raisable kept.digits ≡ true
digit_raisable kept sound = raisable_by kept (is_raisable kept.digits) refl sound

code_of_bytes : (bytes : List ℕ) (k bits : ℕ) → length bytes ≡ k + 1 →
    bits_from bytes 0 (16 + (8 * k + bits)) + 1 ≡ (number_of bytes + 1) * 2 ^ (8 + bits)
code_of_bytes bytes k bits e =
    let count : 16 + (8 * k + bits) ≡ 8 * length bytes + (8 + bits) = omega (arith, e) in
    let join : bits_from bytes 0 (8 * length bytes + (8 + bits)) ≡
    number_of bytes * 2 ^ (8 + bits) + bits_from bytes (0 + 8 * length bytes) (8 + bits) = bits_from-join bytes 0 (8 * length bytes) (8 + bits) in
    let ones : bits_from bytes (0 + 8 * length bytes) (8 + bits) + 1 ≡ 2 ^ (8 + bits) =
    ones_past bytes (0 + 8 * length bytes) (8 + bits) (omega arith) in
    let product : (number_of bytes + 1) * 2 ^ (8 + bits) ≡ number_of bytes * 2 ^ (8 + bits) + 1 * 2 ^ (8 + bits) =
    add-mul (number_of bytes) 1 (2 ^ (8 + bits)) in
    rw count (omega (arith, join, ones, product))

among_by : (bytes : List ℕ) (number k bits low a q : ℕ) → number_of bytes + 1 ≡ 256 * number + q → length bytes ≡ k + 1 → bits < 8 → a < 0x8000 →
    q * 2 ^ (8 + bits) ≤ low + (0x10000 - a) → low + (0x10000 - a) < q * 2 ^ (8 + bits) + 2 ^ (8 + bits) →
    IsAmong bytes (codes_from (number * 2 ^ (16 + bits) + low) a (8 * k + bits))
among_by bytes number k bits low a q e size few small least most =
    let code = code_of_bytes bytes k bits size in
    let product : (256 * number + q) * 2 ^ (8 + bits) ≡ 256 * number * 2 ^ (8 + bits) + q * 2 ^ (8 + bits) = add-mul (256 * number) q (2 ^ (8 + bits)) in
    let whole : bits_from bytes 0 (16 + (8 * k + bits)) + 1 ≡ 256 * number * 2 ^ (8 + bits) + q * 2 ^ (8 + bits) =
    code ∙ (ap (λ (n : ℕ). n * 2 ^ (8 + bits)) e ∙ product) in
    let high : number * 2 ^ (16 + bits) ≡ 256 * number * 2 ^ (8 + bits) =
    ap (λ (p : ℕ). number * p) (eighth 8 bits) ∙ (sym (mul_assoc number 256 (2 ^ (8 + bits))) ∙ ap (λ (n : ℕ). n * 2 ^ (8 + bits)) (mul_comm number 256)) in
    let power : 2 ^ (8 + bits) ≤ 2 ^ 15 = pow_mono (let within : 8 + bits ≤ 15 = omega arith in within) in
    record {
      least = omega (arith, whole, high, power, most);
      most = omega (arith, whole, high, least);
      within = omega (arith, size);
    }

pub among : (kept : Standing) (bytes : List ℕ) → IsReady kept →
    number_of bytes ≡ 256 * number_of (digits_of kept.digits) + ((kept.low + (0x10000 - kept.a)) / 2 ^ (8 + kept.bits) - 1) →
    length bytes ≡ length (digits_of kept.digits) + 1 → IsAmong bytes (codes_of kept)
among kept bytes ready number size =
    let end : ℕ = kept.low + (0x10000 - kept.a) in
    let q : ℕ = (kept.low + (0x10000 - kept.a)) / 2 ^ (8 + kept.bits) in
    let small : kept.a < 0x8000 = ready.low in
    let few : kept.bits < 8 = ready.sound.few in
    let power : 2 ^ (8 + kept.bits) ≤ 2 ^ 15 = pow_mono (let within : 8 + kept.bits ≤ 15 = omega arith in within) in
    let split : q * 2 ^ (8 + kept.bits) + end % 2 ^ (8 + kept.bits) ≡ end = shr_split end (8 + kept.bits) in
    let rest : end % 2 ^ (8 + kept.bits) < 2 ^ (8 + kept.bits) = mod_below end (2 ^ (8 + kept.bits)) (pow_pos (8 + kept.bits)) in
    let some : 0 < q = some_by q (2 ^ (8 + kept.bits)) end (omega (arith, split, rest)) (omega (arith, power)) in
    among_by bytes (number_of (digits_of kept.digits)) (length (digits_of kept.digits)) kept.bits kept.low kept.a q (omega (arith, number, some)) size few
    small (omega (arith, split)) (omega (arith, split, rest))
  where
    some_by : (q p end : ℕ) → end < q * p + p → p ≤ end → 0 < q
    some_by zero p end below more = absurd (omega arith)
    some_by (suc q) p end below more = omega arith
