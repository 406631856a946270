-- Digits that are settled, raised and appended.
use Rattle.std.proofs.Common.{◌≡◌, ◌<◌, ◌+◌, ◌*◌, ℕ, true, false, List, [], ◌∷◌, ◌++◌, length, replicate, refl, sym, ap, ◌∙◌, arith}
use Rattle.std.proofs.Common.{length-append, append_assoc, add-zero, inr, lit<}
use Rattle.std.specs.Prelude.{Option, Some, None, is_some}
use Rattle.std.specs.Option.{option_to_list, option_map}
use Rattle.std.proofs.lemmas.List.{append-nil, replicate-append-replicate, length-replicate}
use Rattle.zp_encoder.specs.declared.digits.Digits.{Digits}
use Rattle.zp_encoder.specs.Digits.{number_of, digits_of, is_raisable, LeavesRoom, carry_of, Settles, Carries, Appends}
use Rattle.zp_encoder.proofs.Numbers.{number_of-push, carried}

unraised : (last : Option ℕ) → option_to_list (option_map (λ (byte : ℕ). byte + carry_of false) last) ≡ option_to_list last
unraised None = refl
unraised (Some byte) = ap (λ (byte : ℕ). byte ∷ []) (add-zero byte)

-- once all digits are settled
settled_digits : (after : Digits) (items : List ℕ) → after.settled.items ≡ items → after.last ≡ None → after.run ≡ 0 → digits_of after ≡ items
settled_digits after items e last run = rw (e, last, run) (append-nil items)

raised_number : (settled : List ℕ) (byte run : ℕ) → byte < 255 →
    number_of (settled ++ (((byte + 1) ∷ []) ++ replicate run 0)) ≡ number_of (settled ++ ((byte ∷ []) ++ replicate run 255)) + 1
raised_number settled byte run room =
    let lower : number_of (settled ++ byte ∷ []) ≡ 256 * number_of settled + byte = number_of-push settled byte (omega arith) in
    let higher : number_of (settled ++ (byte + 1) ∷ []) ≡ 256 * number_of settled + (byte + 1) = number_of-push settled (byte + 1) (omega arith) in
    let next : number_of (settled ++ (byte + 1) ∷ []) ≡ number_of (settled ++ byte ∷ []) + 1 = omega (arith, lower, higher) in
    let left = append_assoc settled ((byte + 1) ∷ []) (replicate run 0) in
    let right = append_assoc settled (byte ∷ []) (replicate run 255) in
    rw (left, right) at (carried (settled ++ byte ∷ []) (settled ++ (byte + 1) ∷ []) run next)

raised_length : (settled : List ℕ) (byte run : ℕ) →
    length (settled ++ (((byte + 1) ∷ []) ++ replicate run 0)) ≡ length (settled ++ ((byte ∷ []) ++ replicate run 255))
raised_length settled byte run = simp (length-append, length-replicate)

raised_by : (settled : List ℕ) (last : Option ℕ) (run : ℕ) (after : Digits) → is_some last ≡ true → ((byte : ℕ) → last ≡ Some byte → byte < 255) →
    after.settled.items ≡ settled ++ (option_to_list (option_map (λ (byte : ℕ). byte + carry_of true) last) ++ replicate run 0) →
    after.last ≡ None → after.run ≡ 0 →
    (number_of (digits_of after) ≡ number_of (settled ++ (option_to_list last ++ replicate run 255)) + 1) ×
    (length (digits_of after) ≡ length (settled ++ (option_to_list last ++ replicate run 255)))
raised_by settled None run after some room e none zero' = absurd (cc)
raised_by settled (Some byte) run after some room e none zero' =
    let all = settled_digits after (settled ++ (((byte + 1) ∷ []) ++ replicate run 0)) e none zero' in
    (ap number_of all ∙ raised_number settled byte run (room byte refl), ap length all ∙ raised_length settled byte run)

no_room : (digits : Digits) → digits.last ≡ None → LeavesRoom digits
no_room digits none byte some = let other : None ≡ Some byte = sym none ∙ some in absurd (cc)

pub carries : (before after : Digits) → is_raisable before ≡ true → LeavesRoom before → Settles true before after → Carries true before after
carries before after some room s =
    let both = raised_by before.settled.items before.last before.run after some room s.items s.last s.run in
    record {
      number = both.0;
      length = both.1;
      room = no_room after s.last;
      fixed = λ _. ap is_some s.last;
      same = λ e. absurd (cc);
    }

-- a digit behind the others
appended : (items : List ℕ) (byte : ℕ) → byte < 256 → (number_of (items ++ byte ∷ []) ≡ 256 * number_of items + byte) ×
    (length (items ++ byte ∷ []) ≡ length items + 1)
appended items byte small = (number_of-push items byte small, omega (arith, length-append items (byte ∷ [])))

pub appends_run : (before after : Digits) → LeavesRoom before → after.settled.items ≡ before.settled.items → after.last ≡ before.last →
    after.run ≡ before.run + 1 → Appends 255 before after
appends_run before after room settled last run =
    let ones : replicate (before.run + 1) 255 ≡ replicate before.run 255 ++ 255 ∷ [] =
    let one : ℕ = 1 in let byte : ℕ = 255 in sym (replicate-append-replicate before.run one byte) in
    let all : digits_of after ≡ digits_of before ++ 255 ∷ [] =
    rw (settled, last, run, ones) (sym (append_assoc before.settled.items (option_to_list before.last ++ replicate before.run 255) (255 ∷ [])
    ∙ ap (λ (l : List ℕ). before.settled.items ++ l) (append_assoc (option_to_list before.last) (replicate before.run 255) (255 ∷ [])))) in
    let both = appended (digits_of before) 255 (lit< tt) in
    record {
      number = ap number_of all ∙ both.0;
      length = ap length all ∙ both.1;
      room = λ byte some. room byte (sym last ∙ some);
      fixed = λ none. inr (refl, sym (ap is_some last) ∙ none);
    }

pub appends_last : (before between after : Digits) (byte : ℕ) → byte < 255 → Settles false before between →
    after.settled.items ≡ between.settled.items → after.last ≡ Some byte → after.run ≡ between.run → Appends byte before after
appends_last before between after byte small s settled last run =
    let all : digits_of after ≡ digits_of before ++ byte ∷ [] =
    rw (settled, last, run, s.run, s.items, unraised before.last) refl in
    let both = appended (digits_of before) byte (omega arith) in
    record {
      number = ap number_of all ∙ both.0;
      length = ap length all ∙ both.1;
      room = λ other some. (let same : Some other ≡ Some byte = sym some ∙ last in let is : other ≡ byte = cc in omega (arith, is));
      fixed = λ no'. (let yes' : is_some (Some byte) ≡ false = sym (ap is_some last) ∙ no' in absurd (cc));
    }
