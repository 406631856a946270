-- The reading of a file of which more is given, against that with less.
use Rattle.std.proofs.Common.{◌≡◌, ℕ, Bool, true, false, ◌⊎◌, List, [], ◌∷◌, ◌++◌, length, sym, ap, ◌∙◌, subst, inl, inr, arith}
use Rattle.std.proofs.lemmas.List.{append-nil, length-append}
use Rattle.djvu_base.specs.Library.{Mark, Open, Whole, Broken}
use Rattle.iff_chunks.specs.Chunks.{chunks_of}
use Rattle.page_decoder.specs.Given.{Home, Known, Given, KnowsMore, Within, Front}
use Rattle.page_decoder.specs.PageRead.{Ending, Finished, Refused, NeedBytes, NeedOutline, NeedFile, PageRead, at_start}
use Rattle.page_decoder.specs.Acts.{acts_of, close_in}
use Rattle.page_decoder.specs.Read.{read}
use Rattle.page_decoder.specs.Needs.{Below, Lacks}
use Rattle.page_decoder.proofs.Retaining.{below_same}
use Rattle.page_decoder.proofs.Further.{Met, Further, same, goes_on, Grows, longer_further}
use Rattle.page_decoder.proofs.Acting.{Stay, same_longer, bytes_longer}

-- whether there are more bytes or another mark, and then how the readings stand to each other
pub record Compared (a b : Given) : Type 0 where
  pub more : Bool
  pub told : more ≡ true → (a.bytes ≡ b.bytes) × (a.mark ≡ b.mark) → ⊥
  pub further : Further more b.known (read a) (read b)

abbrev given_so : Home → Known → List ℕ → Mark → Given
given_so home known bytes mark = record { home = home; known = known; bytes = bytes; mark = mark }

module _ (home : Home) (a b : Known) (on : KnowsMore a b) (grows : Grows home.table) where
  same_bytes : (bytes : List ℕ) (mark : Mark) → Compared (given_so home a bytes mark) (given_so home b bytes mark)
  same_bytes bytes mark =
      let close = close_in mark bytes in
      let acts = acts_of (chunks_of bytes) in
      record {
        more = false;
        told = λ e same. cc;
        further =
            longer_further false home a b on grows close close acts acts (same_longer false close acts) at_start;
      }

  more_bytes : (bytes rest : List ℕ) (mark : Mark) → Stay bytes rest → ((bytes ≡ bytes ++ rest) × (Open ≡ mark) → ⊥)
      → Compared (given_so home a bytes Open) (given_so home b (bytes ++ rest) mark)
  more_bytes bytes rest mark stay other = record {
    more = true;
    told = λ e both. other both;
    further = longer_further true home a b on grows (close_in Open bytes) (close_in mark (bytes ++ rest)) (acts_of (chunks_of bytes))
        (acts_of (chunks_of (bytes ++ rest))) (bytes_longer mark bytes rest stay) at_start;
  }

  open_bytes : (bytes rest : List ℕ) (mark : Mark) → Stay bytes rest → Compared (given_so home a bytes Open) (given_so home b (bytes ++ rest) mark)
  open_bytes bytes [] Open stay = subst (λ l. Compared (given_so home a bytes Open) (given_so home b l Open)) (sym (append-nil bytes)) (same_bytes bytes Open)
  open_bytes bytes [] Whole stay = more_bytes bytes [] Whole stay (λ both. let wrong = both.1 in cc)
  open_bytes bytes [] Broken stay = more_bytes bytes [] Broken stay (λ both. let wrong = both.1 in cc)
  open_bytes bytes (x ∷ rest) mark stay =
      more_bytes bytes (x ∷ rest) mark stay
      (λ both. let size : length bytes ≡ length (bytes ++ x ∷ rest) = ap length both.0 in omega (arith, size, length-append bytes (x ∷ rest)))

pub compared : ((bytes more : List ℕ) → Stay bytes more) → (a b : Given) → Grows a.home.table → Within a b → Compared a b
compared stay a b grows within = by within.bytes
  where
    by : ((a.mark ≡ Open) × Front a.bytes b.bytes) ⊎ ((a.bytes ≡ b.bytes) × (a.mark ≡ b.mark)) → Compared a b
    by (inl g) =
        let few = given_so a.home a.known a.bytes Open in
        let longer = open_bytes a.home a.known b.known within.known grows a.bytes g.1.0 b.mark (stay a.bytes g.1.0) in
        let all = subst (λ l. Compared few (given_so a.home b.known l b.mark)) (sym g.1.1) longer in
        let home = subst (λ h. Compared few (given_so h b.known b.bytes b.mark)) within.home all in
        subst (λ m. Compared (given_so a.home a.known a.bytes m) b) (sym g.0) home
    by (inr g) =
        let all = subst (λ l. Compared a (given_so a.home b.known l a.mark)) g.0 (same_bytes a.home a.known b.known within.known grows a.bytes a.mark) in
        let marks = subst (λ m. Compared a (given_so a.home b.known b.bytes m)) g.1 all in
        subst (λ h. Compared a (given_so h b.known b.bytes b.mark)) within.home marks

-- what follows from it

pub further_below : (more : Bool) (known : Known) (a b : PageRead) → Further more known a b → Below a.left.told b.left.told
further_below more known a b (same e) = subst (λ r. Below a.left.told r.left.told) e (below_same a.left.told)
further_below more known a b (goes_on need l) = l

unmet_same : (more : Bool) (known : Known) (a b : PageRead) → (Met more known a.end → ⊥) → Further more known a b → b ≡ a
unmet_same more known a b unmet (same e) = sym e
unmet_same more known a b unmet (goes_on need l) = absurd (unmet need)

unmet : (a b : Given) (c : Compared a b) (end : Ending) → Lacks a b end → Met c.more b.known end → ⊥
unmet a b c Finished lacks met = met
unmet a b c (Refused fault) lacks met = met
unmet a b c NeedBytes lacks met = c.told met lacks
unmet a b c (NeedOutline file) lacks met = let wrong = sym lacks ∙ met.1 in cc
unmet a b c (NeedFile file) lacks met = let wrong = sym lacks ∙ met.1 in cc

-- where what a reading waits for is lacking in the second one, too, they are the same
pub lacks_same : (a b : Given) → Compared a b → Lacks a b (read a).end → read b ≡ read a
lacks_same a b c lacks = unmet_same c.more b.known (read a) (read b) (unmet a b c (read a).end lacks) c.further
