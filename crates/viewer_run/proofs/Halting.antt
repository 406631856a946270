-- Steps of a page, and the lines of its notices.
use Rattle.std.proofs.Common.{◌≡◌, ◌≢◌, ◌+◌, ◌≤◌, ℕ, zero, suc, Option, Some, None, List, [], ◌∷◌, ◌++◌, length, take, map, refl, sym, ap, ◌∙◌, arith, append_assoc}
use Rattle.std.specs.Prelude.{slice_get}
use Rattle.djvu_base.specs.Announced.{Announced}
use Rattle.page_decoder.specs.PageRead.{Drawing, Ending, notice_of, AscendFrom}
use Rattle.replay_core.specs.Machine.{Drew, AtEnd, step_answer, change_at}
use Rattle.viewer_words.specs.Lines.{notice_line}
use Rattle.viewer_run.specs.Texts.{lines_of}

pub next_of : (next : Option Announced) (end : Ending) (notice : Announced) → step_answer next end ≡ Drew notice → next ≡ Some notice
next_of None end notice e = cc
next_of (Some other) end notice e = cc

pub end_of : (next : Option Announced) (end told : Ending) → step_answer next end ≡ AtEnd told → (next ≡ None) × (end ≡ told)
end_of None end told e = (refl, cc)
end_of (Some other) end told e = cc

pub none_left : {A : Type 0} (list : List A) (at : ℕ) → slice_get list at ≡ None → length list ≤ at
none_left [] at e = omega arith
none_left (first ∷ list) zero e = cc
none_left (first ∷ list) (suc at) e = let rest = none_left list at e in omega (arith, rest)

pub take_next : {A : Type 0} (list : List A) (at : ℕ) (it : A) → slice_get list at ≡ Some it → take (suc at) list ≡ take at list ++ it ∷ []
take_next [] at it e = cc
take_next (first ∷ list) zero it e = let same : first ≡ it = cc in ap (λ x. x ∷ []) same
take_next (first ∷ list) (suc at) it e = ap (λ l. first ∷ l) (take_next list at it e)

pub lines_append : (name : List ℕ) (first more : List Announced) → lines_of name (first ++ more) ≡ lines_of name first ++ lines_of name more
lines_append name [] more = refl
lines_append name (notice ∷ first) more =
    ap (λ l. notice_line name notice.chunks notice.sum ++ l) (lines_append name first more)
    ∙ sym (append_assoc (notice_line name notice.chunks notice.sum) (lines_of name first) (lines_of name more))

-- the lines with that of one more notice
pub one_line : (name : List ℕ) (notices : List Announced) (at : ℕ) (notice : Announced) (lines more : List ℕ) → slice_get notices at ≡ Some notice
    → lines ≡ lines_of name (take at notices) → more ≡ lines ++ notice_line name notice.chunks notice.sum
    → more ≡ lines_of name (take (suc at) notices)
one_line name notices at notice lines more found before is =
    is ∙ ap (λ l. l ++ notice_line name notice.chunks notice.sum) before
    ∙ sym (ap (lines_of name) (take_next notices at notice found) ∙ lines_append name (take at notices) (notice ∷ [])
    ∙ ap (λ l. lines_of name (take at notices) ++ l) (alone (notice_line name notice.chunks notice.sum)))
  where
    alone : (l : List ℕ) → (l ++ []) ≡ l
    alone [] = refl
    alone (x ∷ l) = ap (λ m. x ∷ m) (alone l)

-- a drawing stands behind at least as many chunks as there are drawings up to it
pub chunks_grow : (drawings : List Drawing) (chunks decisions at : ℕ) (notice : Announced) → AscendFrom chunks decisions drawings
    → slice_get (map notice_of drawings) at ≡ Some notice → chunks + at + 1 ≤ notice.chunks
chunks_grow [] chunks decisions at notice ascend e = cc
chunks_grow (drawing ∷ drawings) chunks decisions zero notice ascend e =
    let same : drawing.chunks ≡ notice.chunks = ap (λ (o : Announced). o.chunks) (some_same (notice_of drawing) notice e) in
    let above = ascend.0 in omega (arith, same, above)
  where
    some_same : (a b : Announced) → Some a ≡ Some b → a ≡ b
    some_same a b e = cc
chunks_grow (drawing ∷ drawings) chunks decisions (suc at) notice ascend e =
    let rest = chunks_grow drawings drawing.chunks drawing.decisions at notice ascend.2 e in
    let above = ascend.0 in omega (arith, rest, above)

-- the item of this number, and the others
pub changed_at : {A : Type 0} (change : A → A) (number : ℕ) (list : List A) (it : A) → slice_get list number ≡ Some it
    → slice_get (change_at change number list) number ≡ Some (change it)
changed_at change number [] it e = cc
changed_at change zero (first ∷ list) it e = let same : first ≡ it = cc in ap (λ x. Some (change x)) same
changed_at change (suc number) (first ∷ list) it e = changed_at change number list it e

pub others_at : {A : Type 0} (change : A → A) (number other : ℕ) (list : List A) → other ≢ number
    → slice_get (change_at change number list) other ≡ slice_get list other
others_at change number other [] apart = refl
others_at change zero zero (first ∷ list) apart = absurd (apart refl)
others_at change zero (suc other) (first ∷ list) apart = refl
others_at change (suc number) zero (first ∷ list) apart = refl
others_at change (suc number) (suc other) (first ∷ list) apart = others_at change number other list (λ e. apart (ap suc e))
