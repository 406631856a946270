-- What holds where a reading ends: its need is one, what it reached is known, and with a known end of the file it waits for no bytes.
use Rattle.std.proofs.Common.{◌≡◌, ◌≢◌, ◌<◌, ℕ, Bool, true, false, cond, ◌||◌, eqb, Option, Some, ◌⊎◌, inl, inr, List, [], ◌∷◌, ◌++◌, length, refl, sym, ap, ◌∙◌, subst}
use Rattle.std.proofs.lemmas.Bool.{true≢false}
use Rattle.std.proofs.lemmas.List.Folds.{list_any-append}
use Rattle.djvu_base.specs.declared.faults.FaultKind.{FaultKind}
use Rattle.djvu_base.specs.declared.faults.FaultKind.TheVariants.{Read}
use Rattle.djvu_base.specs.Library.{Mark, Open, Whole}
use Rattle.djvu_base.specs.Library as library
use Rattle.iff_chunks.specs.Chunks.{Chunk, Tail, InHead, InHeader, InData, InPad, FormEnd, Broken, chunks_of, end_of}
use Rattle.iff_chunks.specs.Ends.{is_cut, broken_off}
use Rattle.include_graph.specs.Verdicts.{number_of, is_among}
use Rattle.page_decoder.specs.Results.{Result}
use Rattle.page_decoder.specs.Given.{Home, Known, Given, Front}
use Rattle.page_decoder.specs.PageRead.{Ending, NeedBytes, NeedFile, Told, Left, at_start}
use Rattle.page_decoder.specs.Headers.{Head}
use Rattle.page_decoder.specs.Acts.{Close, Waits, acts_of, origin_of, close_of, close_in}
use Rattle.page_decoder.specs.Read.{reaching, read}
use Rattle.page_decoder.specs.Needs.{Because}
use Rattle.page_decoder.proofs.Ruling.{Rules, from_holds, among_last, among_behind, any_chunk, any_include, any_acts, any_includes}

abbrev HasResult : Known → ℕ → Type 0
HasResult known file = (it : Result) × (known.results file ≡ Some it)

abbrev AllKnown : Known → Told → Type 0
AllKnown known told = (file : ℕ) → is_among file told.reached ≡ true → HasResult known file

pub record Ended (home : Home) (known : Known) (close : Close) (left : Left) (end : Ending) : Type 0 where
  pub because : Because home known left.decoded.pending end
  pub reached : (file : ℕ) → is_among file left.told.reached ≡ true → HasResult known file ⊎ (end ≡ NeedFile file)
  pub quiet : end ≡ NeedBytes → close ≡ Waits
  pub needed : (file : ℕ) → end ≡ NeedFile file → is_among file left.told.reached ≡ true

reached_last : (known : Known) (left : Left) (file : ℕ) → AllKnown known left.told → HasResult known file → AllKnown known (reaching file left).told
reached_last known left file all has other m = by (among_last other file left.told.reached m)
  where
    by : (is_among other left.told.reached ≡ true) ⊎ (other ≡ file) → HasResult known other
    by (inl n) = all other n
    by (inr e) = subst (λ h. HasResult known h) (sym e) has

lacking_last : (known : Known) (left : Left) (file : ℕ) → AllKnown known left.told → (other : ℕ) → is_among other (reaching file left).told.reached ≡ true
    → HasResult known other ⊎ (NeedFile file ≡ NeedFile other)
lacking_last known left file all other m = by (among_last other file left.told.reached m)
  where
    by : (is_among other left.told.reached ≡ true) ⊎ (other ≡ file) → HasResult known other ⊎ (NeedFile file ≡ NeedFile other)
    by (inl n) = inl (all other n)
    by (inr e) = inr (ap NeedFile (sym e))

needed_last : (left : Left) (file other : ℕ) → NeedFile file ≡ NeedFile other → is_among other (reaching file left).told.reached ≡ true
needed_last left file other e =
    let same : file ≡ other = cc in
    subst (λ f. is_among f (left.told.reached ++ file ∷ []) ≡ true) same (among_behind file left.told.reached [])

abbrev Kept : Known → Option Head → Left → Type 0
Kept known at left = AllKnown known left.told

rules : (home : Home) (known : Known) (close : Close) → Rules home known any_chunk any_include (Kept known) (Ended home known close)
rules home known close = record {
  begins = λ head left e i. i;
  chunk = λ head given decoded left f e i. i;
  part = λ head n left i. i;
  wrong = λ head n kind offset left i. record { because = tt; reached = λ f m. inl (i f m); quiet = λ e. cc; needed = λ f e. absurd (cc) };
  pending = λ at left i. any_includes left.decoded.pending;
  reaches = λ at left file it e i. reached_last known left file i (it, e);
  inherits = λ at found left i. i;
  none_left = λ at left i. i;
  unknown = λ at left file u i. record { because = u; reached = λ f m. inl (i f m); quiet = λ e. cc; needed = λ f e. absurd (cc) };
  lacks = λ at left file next n i. record {
    because = next;
    reached = lacking_last known left file i;
    quiet = λ e. cc;
    needed = λ other e. needed_last left file other e;
  };
  graph_fault = λ at left target fault b v i. record { because = tt; reached = λ f m. inl (i f m); quiet = λ e. cc; needed = λ f e. absurd (cc) };
  file_fault = λ at left file fault target before others below v e i.
      record { because = tt; reached = λ f m. inl (reached_last known left file i (_, e) f m); quiet = λ w. cc; needed = λ f w. absurd (cc) };
  own_fault = λ at kind offset left i. record { because = tt; reached = λ f m. inl (i f m); quiet = λ e. cc; needed = λ f e. absurd (cc) };
  finishes = λ left some i. record { because = tt; reached = λ f m. inl (i f m); quiet = λ e. cc; needed = λ f e. absurd (cc) };
}

pub ended : (given : Given) → ((name : List ℕ) (target : ℕ) → number_of name given.home.names ≡ Some target → target < length given.home.names)
    → Ended given.home given.known (close_in given.mark given.bytes) (read given).left (read given).end
ended given below =
    let close = close_in given.mark given.bytes in
    from_holds given.home given.known any_chunk any_include (Kept given.known) (Ended given.home given.known close)
    (rules given.home given.known close) below close
    (λ w left i. record { because = tt; reached = λ f m. inl (i f m); quiet = λ e. w; needed = λ f e. absurd (cc) }) (acts_of (chunks_of given.bytes)) at_start
    (any_acts (acts_of (chunks_of given.bytes))) (λ f m. absurd (true≢false (sym m)))

-- a file whose end is known doesn't wait

cut_closed : (cut : Bool) (arrived offset : ℕ) (kind : FaultKind) (origin : ℕ) → close_of origin (cond cut (Broken Read arrived) (Broken kind offset)) ≢ Waits
cut_closed true arrived offset kind origin e = cc
cut_closed false arrived offset kind origin e = cc

pad_closed : (is_last : Bool) (offset origin : ℕ) (whole : List Chunk) → close_of origin (end_of whole (InPad offset is_last)) ≢ Waits
pad_closed true offset origin whole e = cc
pad_closed false offset origin whole e = cc

end_closed : (whole : List Chunk) (tail : Tail) (origin : ℕ) → close_of origin (end_of whole tail) ≢ Waits
end_closed whole InHead origin e = cc
end_closed [] (InHeader offset []) origin e = cc
end_closed [] (InHeader offset (byte ∷ bytes)) origin e = cc
end_closed (chunk ∷ whole) (InHeader offset bytes) origin e = cc
end_closed whole (InData chunk) origin e = cc
end_closed whole (InPad offset is_last) origin e = pad_closed is_last offset origin whole e
end_closed whole FormEnd origin e = cc
end_closed whole (Broken kind offset) origin e = cc

off_closed : (arrived origin : ℕ) (tail : Tail) → close_of origin tail ≢ Waits → close_of origin (broken_off arrived tail) ≢ Waits
off_closed arrived origin InHead some e = some e
off_closed arrived origin (InHeader offset bytes) some e = some e
off_closed arrived origin (InData chunk) some e = some e
off_closed arrived origin (InPad offset is_last) some e = some e
off_closed arrived origin FormEnd some e = some e
off_closed arrived origin (Broken kind offset) some e = cut_closed (is_cut kind) arrived offset kind origin e

pub known_end : (mark : Mark) (bytes : List ℕ) → mark ≢ Open → close_in mark bytes ≢ Waits
known_end Open bytes m e = m refl
known_end Whole bytes m e = end_closed (chunks_of bytes).whole (chunks_of bytes).tail (origin_of (chunks_of bytes).form) e
known_end library.Broken bytes m e =
    off_closed (length bytes) (origin_of (chunks_of bytes).form) (end_of (chunks_of bytes).whole (chunks_of bytes).tail)
    (end_closed (chunks_of bytes).whole (chunks_of bytes).tail (origin_of (chunks_of bytes).form)) e

-- a member of a list is one of a longer one
pub front_among : (f : ℕ) (xs ys : List ℕ) → Front xs ys → is_among f xs ≡ true → is_among f ys ≡ true
front_among f xs ys l m =
    ap (is_among f) l.1 ∙ list_any-append (eqb f) xs l.0 ∙ ap (λ b. b || is_among f l.0) m
