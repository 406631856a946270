-- Texts cut at a byte: parts, lines by their parts, and numbers.
use Rattle.std.proofs.Common.{◌≡◌, ℕ, ◌+◌, ◌-◌, ◌<◌, ◌≤◌, ◌^◌, Bool, true, false, cond, not, ◌&&◌, List, [], ◌∷◌, length, take, drop, get_or, Some, None, Result, Ok, Err, inl, inr, refl, sym, ap, subst, ◌∙◌, arith}
use Rattle.std.specs.Prelude.{◌==◌, nat_lt, position, IsUtf8, if◌then◌else◌}
use Rattle.std.specs.List.{slice_split, onto_first, position_or_len, join_with_byte}
use Rattle.std.specs.Result.{OkIff, result_ok}
use Rattle.std.specs.Str.{all_ascii_digits}
use Rattle.std.specs.Str.Parse.{digits_value, ParsesUnsigned}
use Rattle.std.proofs.lemmas.Bool.{true≢false, and_parts, cases_lt, eq-eqb}
use Rattle.std.proofs.lemmas.List.Splits.{slice_split_first, slice_split_none, join_with_byte-slice_split}
use Rattle.std.proofs.lemmas.List.Sums.{fails_before_first}
use Rattle.std.proofs.lemmas.Str.{IsUtf8-from_ascii}
use Rattle.std.proofs.lemmas.Str.Parse.{IsNumeralModel, numerals_by_value, tells_all_ascii_digits, parse_plain}
use Rattle.std.proofs.lemmas.Fmt.{IsAscii-from_digits}
use Rattle.std.proofs.Math.Seq.{take-length}
use Rattle.std.proofs.lemmas.List.{length-drop}
use Rattle.replay_core.specs.Script.{lines_of, words_of, line_of_two, line_of_words, is_numeral, has_leading_zero, is_within, number_within}
use Rattle.replay_core.specs.ScriptRead.{IsNumberOf}

-- ---- places

-- a place is the first one, and stands in the list
there : (b : Bool) (n i : ℕ) → cond b (Some n) None ≡ Some i → (b ≡ true) × (n ≡ i)
there true n i e = (refl, (cc))
there false n i e = absurd (let wrong : None ≡ Some i = e in cc)

nowhere : (b : Bool) (n : ℕ) → cond b (Some n) None ≡ None → b ≡ false
nowhere true n e = absurd (let wrong : Some n ≡ None = e in cc)
nowhere false n e = refl

is_less : (n m : ℕ) → n < m → nat_lt n m ≡ true
is_less n m e = grind (arith, e)

less : (n m : ℕ) → nat_lt n m ≡ true → n < m
less n m e = grind (arith, e)

not_less : (n m : ℕ) → nat_lt n m ≡ false → m ≤ n
not_less n m e = grind (arith, e)

rest_is : (n : ℕ) (xs : List ℕ) → take (length xs - n) (drop n xs) ≡ drop n xs
rest_is n xs = ap (λ k. take k (drop n xs)) (sym (length-drop n xs)) ∙ take-length (drop n xs)

pub cut_there : (test : ℕ → Bool) (xs : List ℕ) (place : ℕ) → position test xs ≡ Some place
    → slice_split test xs ≡ take place xs ∷ slice_split test (take (length xs - (place + 1)) (drop (place + 1) xs))
cut_there test xs place e =
    let at = there (nat_lt (position_or_len test xs) (length xs)) (position_or_len test xs) place e in
    slice_split_first test xs 0 (less (position_or_len test xs) (length xs) at.0)
    ∙ ap (λ n. take n xs ∷ slice_split test (drop (n + 1) xs)) at.1
    ∙ ap (λ rest. take place xs ∷ slice_split test rest) (sym (rest_is (place + 1) xs))

pub cut_nowhere : (test : ℕ → Bool) (xs : List ℕ) → position test xs ≡ None → slice_split test xs ≡ xs ∷ []
cut_nowhere test xs e =
    let far = not_less (position_or_len test xs) (length xs) (nowhere (nat_lt (position_or_len test xs) (length xs)) (position_or_len test xs) e) in
    slice_split_none test xs (λ k d within. fails_before_first test xs k d (omega (arith, within, far)))

-- ---- lines

abbrev is_newline : ℕ → Bool
is_newline byte = byte == 0x0A

abbrev last_part : List ℕ → List (List ℕ)
last_part [] = []
last_part (byte ∷ bytes) = (byte ∷ bytes) ∷ []

-- parts without an empty last one
abbrev trimmed : List (List ℕ) → List (List ℕ)
trimmed [] = []
trimmed (part ∷ []) = last_part part
trimmed (part ∷ next ∷ parts) = part ∷ trimmed (next ∷ parts)

onto : (byte : ℕ) (first : List ℕ) (others : List (List ℕ)) → onto_first byte (trimmed (first ∷ others)) ≡ trimmed ((byte ∷ first) ∷ others)
onto byte [] [] = refl
onto byte (next ∷ first) [] = refl
onto byte first (next ∷ others) = refl

trimmed_on : (b : Bool) (byte : ℕ) (lines : List (List ℕ)) (first : List ℕ) (others : List (List ℕ)) → lines ≡ trimmed (first ∷ others)
    → cond b ([] ∷ lines) (onto_first byte lines) ≡ trimmed (cond b ([] ∷ first ∷ others) (onto_first byte (first ∷ others)))
trimmed_on true byte lines first others same = ap (λ l. [] ∷ l) same
trimmed_on false byte lines first others same = ap (onto_first byte) same ∙ onto byte first others

-- there is a first part
abbrev HasFirst : List (List ℕ) → Type 0
HasFirst parts = (first : List ℕ) × (others : List (List ℕ)) × (parts ≡ first ∷ others)

first_on : (b : Bool) (byte : ℕ) (parts : List (List ℕ)) → HasFirst parts → HasFirst (cond b ([] ∷ parts) (onto_first byte parts))
first_on true byte parts has = ([], parts, refl)
first_on false byte parts has = (byte ∷ has.0, has.1, ap (onto_first byte) has.2)

has_first : (test : ℕ → Bool) (bytes : List ℕ) → HasFirst (slice_split test bytes)
has_first test [] = ([], [], refl)
has_first test (byte ∷ bytes) = first_on (test byte) byte (slice_split test bytes) (has_first test bytes)

lines_trimmed : (bytes : List ℕ) → lines_of bytes ≡ trimmed (slice_split is_newline bytes)
lines_trimmed [] = refl
lines_trimmed (byte ∷ bytes) =
    let has = has_first is_newline bytes in
    trimmed_on (is_newline byte) byte (lines_of bytes) has.0 has.1 (lines_trimmed bytes ∙ ap trimmed has.2)
    ∙ ap (λ parts. trimmed (cond (is_newline byte) ([] ∷ parts) (onto_first byte parts))) (sym has.2)

whole_part : (bytes : List ℕ) → 0 < length bytes → last_part bytes ≡ bytes ∷ []
whole_part [] some = absurd (omega (arith, some))
whole_part (byte ∷ bytes) some = refl

-- the last line, without a newline
pub last_line : (bytes line : List ℕ) → 0 < length bytes → slice_split is_newline bytes ≡ line ∷ [] → lines_of bytes ≡ line ∷ []
last_line bytes line some parts =
    let same : line ≡ bytes = sym (ap (join_with_byte 10) parts) ∙ join_with_byte-slice_split 10 bytes in
    lines_trimmed bytes ∙ ap trimmed parts ∙ whole_part line (subst (λ b. 0 < length b) (sym same) some)

-- a line before others
pub line_before : (bytes line others : List ℕ) → slice_split is_newline bytes ≡ line ∷ slice_split is_newline others → lines_of bytes ≡ line ∷ lines_of others
line_before bytes line others parts =
    let has = has_first is_newline others in
    lines_trimmed bytes ∙ ap trimmed parts ∙ ap (λ p. trimmed (line ∷ p)) has.2 ∙ ap (λ l. line ∷ l) (sym (ap trimmed has.2) ∙ sym (lines_trimmed others))

-- ---- numbers

own_numerals : IsNumeralModel (λ ds. all_ascii_digits ds ≡ true) (digits_value 10)
own_numerals = numerals_by_value (λ ds. all_ascii_digits ds ≡ true) tells_all_ascii_digits

all_three : (digits some lead : Bool) → digits ≡ true → some ≡ true → lead ≡ false → (digits && some && not lead) ≡ true
all_three true true false d s z = refl
all_three true true true d s z = absurd (true≢false z)
all_three true false lead d s z = absurd (true≢false (sym s))
all_three false some lead d s z = absurd (true≢false (sym d))

-- what a numeral is
record Digits (word : List ℕ) : Type 0 where
  digits : all_ascii_digits word ≡ true
  some : nat_lt 0 (length word) ≡ true
  lead : not (has_leading_zero word) ≡ true

digits_of : (word : List ℕ) → is_numeral word ≡ true → Digits word
digits_of word e =
    let parts = and_parts (all_ascii_digits word && nat_lt 0 (length word)) (not (has_leading_zero word)) e in
    let front = and_parts (all_ascii_digits word) (nat_lt 0 (length word)) parts.0 in
    record { digits = front.0; some = front.1; lead = parts.1 }

no_lead : (b : Bool) → not b ≡ true → b ≡ true → ⊥
no_lead true e is = true≢false (sym e)
no_lead false e is = true≢false (sym is)

pub lead_is_none : (word : List ℕ) → has_leading_zero word ≡ true → IsNumberOf word None
lead_is_none word lead = λ e. absurd (no_lead (has_leading_zero word) (digits_of word e).lead lead)

plus_no_digit : (word : List ℕ) → get_or word 0 0 ≡ 43 → all_ascii_digits word ≡ true → ⊥
plus_no_digit [] is all = omega (arith, is)
plus_no_digit (byte ∷ word) is all = true≢false (sym all ∙ ap (λ b. all_ascii_digits (b ∷ word)) is)

pub sign_is_none : (word : List ℕ) → get_or word 0 0 ≡ 43 → IsNumberOf word None
sign_is_none word sign = λ e. absurd (plus_no_digit word sign (digits_of word e).digits)

pub no_text_is_none : (word : List ℕ) → (IsUtf8 word → ⊥) → IsNumberOf word None
no_text_is_none word other = λ e. absurd (other (IsUtf8-from_ascii word (IsAscii-from_digits word (own_numerals.to word (digits_of word e).digits))))

number_where : {E : Type 0} (limit : ℕ) (word : List ℕ) (r : Result ℕ E) → limit ≡ 2 ^ 32 → has_leading_zero word ≡ false
    → OkIff r ((all_ascii_digits word ≡ true) × (0 < length word) × (digits_value 10 word < limit)) (digits_value 10 word) → IsNumberOf word (result_ok r)
number_where limit word (Ok number) is lead told =
    (all_three (all_ascii_digits word) (nat_lt 0 (length word)) (has_leading_zero word) told.0.0 (is_less 0 (length word) told.0.1) lead, sym told.1)
number_where limit word (Err error) is lead told =
    λ e. subst (λ l. l ≤ digits_value 10 word) is (elim (cases_lt (digits_value 10 word) limit) [
      | inl low ↦ absurd (told ((digits_of word e).digits, less 0 (length word) (digits_of word e).some, low))
      | inr high ↦ high
    ])

not_equal : (n m : ℕ) → (n == m) ≡ false → n ≡ m → ⊥
not_equal n m e is = true≢false (sym (eq-eqb n m is) ∙ e)

pub parsed : {E : Type 0} (word : List ℕ) (r : Result ℕ E) → (get_or word 0 0 == 43) ≡ false → has_leading_zero word ≡ false
    → ParsesUnsigned 32 10 word r → IsNumberOf word (result_ok r)
parsed word r sign lead told = number_where (2 ^ 32) word r refl lead (parse_plain own_numerals 32 word r told (not_equal (get_or word 0 0) 43 sign))

within : (least most number : ℕ) → least ≤ number → number ≤ most → is_within least most number ≡ true
within least most number low high = grind (arith, low, high)

above : (least most number : ℕ) → most < number → is_within least most number ≡ false
above least most number high = grind (arith, high)

below : (least most number : ℕ) → number < least → is_within least most number ≡ false
below least most number low = grind (arith, low)

outside : (b c : Bool) (number : ℕ) → (b ≡ true → c ≡ false) → None ≡ (if b && c then Some number else None)
outside true true number e = absurd (true≢false (e refl))
outside true false number e = refl
outside false c number e = refl

inside : (b c : Bool) (number : ℕ) → b ≡ true → c ≡ true → Some number ≡ (if b && c then Some number else None)
inside true true number e f = refl
inside true false number e f = absurd (true≢false (sym f))
inside false c number e f = absurd (true≢false (sym e))

pub number_none : (word : List ℕ) (least most : ℕ) → most < 2 ^ 32 → IsNumberOf word None → None ≡ number_within least most word
number_none word least most fits none =
    outside (is_numeral word) (is_within least most (digits_value 10 word)) (digits_value 10 word)
    (λ e. let far : 2 ^ 32 ≤ digits_value 10 word = none e in above least most (digits_value 10 word) (omega (arith, fits, far)))

pub number_some : (word : List ℕ) (least most number : ℕ) → IsNumberOf word (Some number) → least ≤ number → number ≤ most
    → Some number ≡ number_within least most word
number_some word least most number some low high =
    ap Some (sym some.1) ∙ inside (is_numeral word) (is_within least most (digits_value 10 word)) (digits_value 10 word) some.0
    (ap (is_within least most) some.1 ∙ within least most number low high)

pub number_below : (word : List ℕ) (least most number : ℕ) → IsNumberOf word (Some number) → number < least → None ≡ number_within least most word
number_below word least most number some low =
    outside (is_numeral word) (is_within least most (digits_value 10 word)) (digits_value 10 word)
    (λ e. ap (is_within least most) some.1 ∙ below least most number low)

pub number_above : (word : List ℕ) (least most number : ℕ) → IsNumberOf word (Some number) → most < number → None ≡ number_within least most word
number_above word least most number some high =
    outside (is_numeral word) (is_within least most (digits_value 10 word)) (digits_value 10 word)
    (λ e. ap (is_within least most) some.1 ∙ above least most number high)

-- ---- words of a line

module _ (names : List (List ℕ)) (pages : List ℕ) (word : List ℕ) where
  pub two_words : (others first : List ℕ) → words_of others ≡ first ∷ []
      → line_of_two names pages word first ≡ line_of_words names pages (word ∷ words_of others)
  two_words others first all = ap (λ words. line_of_words names pages (word ∷ words)) (sym all)

  pub more_words : (others first more second third : List ℕ) → words_of others ≡ first ∷ words_of more → words_of more ≡ second ∷ words_of third
      → None ≡ line_of_words names pages (word ∷ words_of others)
  more_words others first more second third all last =
      let has = has_first (λ byte. byte == 0x20) third in
      ap (λ words. line_of_words names pages (word ∷ words)) (sym (all ∙ ap (λ words. first ∷ words) (last ∙ ap (λ words. second ∷ words) has.2)))
