-- The data of a chunk are as many as its header says once they are complete, and fewer before.
use Rattle.std.proofs.Common.{◌≡◌, ◌<◌, ◌≤◌, ◌+◌, ℕ, Bool, true, false, Option, Some, None, List, [], ◌∷◌, ◌++◌, length, refl, sym, ◌∙◌, subst, arith}
use Rattle.std.specs.List.{AllByRecursion}
use Rattle.std.proofs.lemmas.List.{length-append}
use Rattle.iff_chunks.specs.Chunks.{Form, Chunk, Tail, chunks_of}
use Rattle.iff_chunks.specs.Events.{events_of}
use Rattle.iff_chunks.specs.Order.{AtForm, InOrder}
use Rattle.iff_chunks.specs.Layout.{Laid, AtEnd, TooShort, Beginning, NoId, TooLong, DataArriving, PadMissing, Padded, Unpadded, IsLaidForm}
use Rattle.iw44_image.specs.Layer.{Data}
use Rattle.page_decoder.specs.Headers.{Head}
use Rattle.page_decoder.specs.Acts.{Act, Kind, Reads, form_acts, complete_acts, tail_acts, acts_of}
use Rattle.page_decoder.proofs.Acting.{none_before}

abbrev pub Sound : Bool → ℕ → ℕ → Type 0
Sound true count size = count ≡ size
Sound false count size = count < size

abbrev pub IsSound : Act → Type 0
IsSound (Kind kind) = Unit {0}
IsSound (Reads head given) = Sound given.ended (length given.bytes) head.size

all_append : (acts others : List Act) → AllByRecursion IsSound acts → AllByRecursion IsSound others → AllByRecursion IsSound (acts ++ others)
all_append [] others a b = b
all_append (act ∷ acts) others a b = (a.0, all_append acts others a.1 b)

one_of : (acts others : List Act) (act : Act) → AllByRecursion IsSound (acts ++ act ∷ others) → IsSound act
one_of [] others act a = a.0
one_of (first ∷ acts) others act a = one_of acts others act a.1

laid_sound : (offset left : ℕ) (chunks : List Chunk) (tail : Tail) (bytes : List ℕ) → Laid offset left chunks tail bytes
    → AllByRecursion IsSound (complete_acts chunks ++ tail_acts tail)
laid_sound _ _ _ _ _ (AtEnd offset bytes) = tt
laid_sound _ _ _ _ _ (TooShort offset left bytes some few) = tt
laid_sound _ _ _ _ _ (Beginning offset left bytes room few) = tt
laid_sound _ _ _ _ _ (NoId offset left size header id more room h bad) = tt
laid_sound _ _ _ _ _ (TooLong offset left size header id more room h good long) = tt
laid_sound _ _ _ _ _ (DataArriving offset left chunk header b few) = (few, tt)
laid_sound _ _ _ _ _ (PadMissing offset left chunk header b all pad) = (all, tt)
laid_sound _ _ _ _ _ (Padded offset left chunk header pad chunks tail after b all padded rest) = (all, laid_sound _ _ chunks tail after rest)
laid_sound _ _ _ _ _ (Unpadded offset left chunk header chunks tail after b all unpadded rest) = (all, laid_sound _ _ chunks tail after rest)

-- the laws of the container
pub record Container : Type 0 where
  pub laid : (bytes : List ℕ) (form : Form) → (chunks_of bytes).form ≡ Some form → IsLaidForm bytes form (chunks_of bytes).whole (chunks_of bytes).tail
  pub order : (bytes : List ℕ) → InOrder AtForm (events_of (chunks_of bytes))

all_sound : (law : Container) (bytes : List ℕ) (form : Option Form) → (chunks_of bytes).form ≡ form → AllByRecursion IsSound (acts_of (chunks_of bytes))
all_sound law bytes (Some form) e =
    subst (λ f. AllByRecursion IsSound (form_acts f ++ (complete_acts (chunks_of bytes).whole ++ tail_acts (chunks_of bytes).tail))) (sym e)
    (tt, laid_sound _ _ (chunks_of bytes).whole (chunks_of bytes).tail _ (law.laid bytes form e).body)
all_sound law bytes None e =
    let chunks = chunks_of bytes in
    let order = subst (λ f. InOrder AtForm (events_of (record { form = f; whole = chunks.whole; tail = chunks.tail }))) e (law.order bytes) in
    subst (λ f. AllByRecursion IsSound (form_acts f ++ (complete_acts chunks.whole ++ tail_acts chunks.tail))) (sym e)
    (subst (λ acts. AllByRecursion IsSound acts) (sym (none_before chunks.whole chunks.tail order)) tt)

-- the data of a chunk among a file's acts
pub data_sound : (law : Container) (bytes : List ℕ) (acts others : List Act) (head : Head) (given : Data)
    → acts_of (chunks_of bytes) ≡ acts ++ Reads head given ∷ others → Sound given.ended (length given.bytes) head.size
data_sound law bytes acts others head given e =
    one_of acts others (Reads head given) (subst (λ all. AllByRecursion IsSound all) e (all_sound law bytes (chunks_of bytes).form refl))

-- data that go on are no more than the header says
pub within_size : (bytes more : List ℕ) (ended : Bool) (size : ℕ) → Sound ended (length (bytes ++ more)) size → length bytes ≤ size
within_size bytes more true size s = let sizes = length-append bytes more in omega (arith, s, sizes)
within_size bytes more false size s = let sizes = length-append bytes more in omega (arith, s, sizes)
