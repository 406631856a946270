-- What a page's decoder was fed and given stays true of it when more comes, and when its reader goes on.
use Rattle.std.proofs.Common.{◌≡◌, ◌≢◌, ◌≤◌, ◌<◌, ℕ, zero, suc, ◌+◌, Bool, true, false, eqb, Option, Some, None, ◌⊎◌, inl, inr, List, [], ◌∷◌, ◌++◌, length, take, refl, sym, ap, ◌∙◌, subst, append_assoc, arith}
use Rattle.std.specs.Prelude.{Result as Answered, Ok, Err, OnOk, OnErr}
use Rattle.std.proofs.lemmas.Bool.{eqb-true, eqb-false, true≢false}
use Rattle.std.proofs.lemmas.List.{append-nil, take-append-le, length-append}
use Rattle.djvu_base.specs.Library.{Mark, Open, mark_of}
use Rattle.djvu_base.specs.Meter.{TicksExactly}
use Rattle.djvu_base.specs.declared.ends.FileEnd.{FileEnd}
use Rattle.djvu_base.proofs.Ticks.{ticked_more}
use Rattle.zp_table.specs.Rows.{IsTable}
use Rattle.include_graph.specs.declared.outline.Outline.{Outline}
use Rattle.layer_compose.specs.declared.layers.Layers.{Layers}
use Rattle.page_decoder.specs.declared.file_reader.FileReader.{FileReader}
use Rattle.page_decoder.specs.declared.decoder.Standing.{Standing}
use Rattle.page_decoder.specs.declared.decoder.Standing.TheVariants as standing
use Rattle.page_decoder.specs.Results.{Result}
use Rattle.page_decoder.specs.Given.{Home, Known, Given, Front, KnowsMore, Within}
use Rattle.page_decoder.specs.PageRead.{Drawing, last_layers, Ending, Finished, Refused, NeedBytes, NeedOutline, NeedFile, Told, PageRead}
use Rattle.page_decoder.specs.Read.{read}
use Rattle.page_decoder.specs.Needs.{Below, Lacks}
use Rattle.page_decoder.specs.Resolving.{Gifts, known_by}
use Rattle.page_decoder.specs.Decoder.{Draws, Ends, entry_at, next_entry, KnowsOutline, KnowsResult, Shows}
use Rattle.page_decoder.specs.FileReading.{Stands, decisions_in, mark_by}
use Rattle.page_decoder.specs.PageFed.{Kept, Decoding, SameKnown, with_known, GoesOn, StandsAt, FedBy, IsFed, StaysSo, stands_by, standing_without, decoding_of}
use Rattle.page_decoder.proofs.GoingOn.{within_both}

-- the laws of growth and of needs
pub record GrowthLaws : Type 0 where
  pub told : (less more : Given) → IsTable less.home.table → Within less more → Below (read less).left.told (read more).left.told
  pub unmet : (less more : Given) → IsTable less.home.table → Within less more → Lacks less more (read less).end → read more ≡ read less
  pub outline : (given : Given) (file : ℕ) → (read given).end ≡ NeedOutline file → (given.known.outlines file ≡ None) × (file < length given.home.names)
  pub file : (given : Given) (file : ℕ) → (read given).end ≡ NeedFile file → (given.known.results file ≡ None) × (file < length given.home.names)

pub on_ok : {A E : Type 0} (result : Answered A E) (value : A) (P : Type 0) → result ≡ Ok value → OnOk result P → P
on_ok (Ok done) value P e p = p
on_ok (Err error) value P e p = absurd (cc)

pub on_err : {A E : Type 0} (result : Answered A E) (error : E) (P : Type 0) → result ≡ Err error → OnErr result P → P
on_err (Ok done) error P e p = absurd (cc)
on_err (Err other) error P e p = p

-- ---- what is known

pub known_within : (given : Given) (known : Known) → KnowsMore given.known known → Within given (with_known known given)
known_within given known more = record { home = refl; known = more; bytes = inr (refl, refl) }

same_more : (a b : Known) → SameKnown a b → KnowsMore a b
same_more a b s = record { outlines = λ file outline e. sym (s.outlines file) ∙ e; results = λ file it e. sym (s.results file) ∙ e }

by_number : (file other : ℕ) → (other ≡ file) ⊎ (other ≢ file)
by_number file other = by (eqb other file) refl
  where
    by : (t : Bool) → eqb other file ≡ t → (other ≡ file) ⊎ (other ≢ file)
    by true e = inl (eqb-true other file e)
    by false e = inr (eqb-false other file e)

pub outline_more : (file : ℕ) (outline : Outline) (less more : Known) → less.outlines file ≡ None → KnowsOutline file outline less more → KnowsMore less more
outline_more file outline less more none k = record { outlines = by; results = λ other it e. k.results other ∙ e }
  where
    at : (other : ℕ) (found : Outline) → (other ≡ file) ⊎ (other ≢ file) → less.outlines other ≡ Some found → more.outlines other ≡ Some found
    at other found (inl same) e = let wrong : None ≡ Some found = sym none ∙ ap less.outlines (sym same) ∙ e in absurd (cc)
    at other found (inr differs) e = k.others other differs ∙ e

    by : (other : ℕ) (found : Outline) → less.outlines other ≡ Some found → more.outlines other ≡ Some found
    by other found e = at other found (by_number file other) e

pub result_more : (file : ℕ) (gift : Option Result) (less more : Known) → less.results file ≡ None → KnowsResult file gift less more → KnowsMore less more
result_more file gift less more none k = record { outlines = λ other it e. k.outlines other ∙ e; results = by }
  where
    at : (other : ℕ) (found : Result) → (other ≡ file) ⊎ (other ≢ file) → less.results other ≡ Some found → more.results other ≡ Some found
    at other found (inl same) e = let wrong : None ≡ Some found = sym none ∙ ap less.results (sym same) ∙ e in absurd (cc)
    at other found (inr differs) e = k.others other differs ∙ e

    by : (other : ℕ) (found : Result) → less.results other ≡ Some found → more.results other ≡ Some found
    by other found e = at other found (by_number file other) e

-- two things known by the same gift are the same
pub outline_same : (file : ℕ) (outline : Outline) (less more before after : Known) → KnowsOutline file outline less more → SameKnown less before
    → KnowsOutline file outline before after → SameKnown more after
outline_same file outline less more before after k s l = record {
  outlines = λ other. at other (by_number file other);
  results = λ other. k.results other ∙ s.results other ∙ sym (l.results other);
}
  where
    at : (other : ℕ) → (other ≡ file) ⊎ (other ≢ file) → more.outlines other ≡ after.outlines other
    at other (inl same) = ap more.outlines same ∙ k.given ∙ sym l.given ∙ ap after.outlines (sym same)
    at other (inr differs) = k.others other differs ∙ s.outlines other ∙ sym (l.others other differs)

pub result_same : (file : ℕ) (gift : Option Result) (less more before after : Known) → KnowsResult file gift less more → SameKnown less before
    → KnowsResult file gift before after → SameKnown more after
result_same file gift less more before after k s l = record {
  outlines = λ other. k.outlines other ∙ s.outlines other ∙ sym (l.outlines other);
  results = λ other. at other (by_number file other);
}
  where
    at : (other : ℕ) → (other ≡ file) ⊎ (other ≢ file) → more.results other ≡ after.results other
    at other (inl same) = ap more.results same ∙ k.given ∙ sym l.given ∙ ap after.results (sym same)
    at other (inr differs) = k.others other differs ∙ s.results other ∙ sym (l.others other differs)

-- ---- entries and what is shown

pub ends_at : (drawings : List Drawing) (drawn : ℕ) (end other : Ending) → entry_at drawings drawn end ≡ Ends other → end ≡ other
ends_at [] drawn end other e = let same : Ends end ≡ Ends other = e in cc
ends_at (drawing ∷ drawings) zero end other e = let wrong : Draws drawing ≡ Ends other = e in absurd (cc)
ends_at (drawing ∷ drawings) (suc drawn) end other e = ends_at drawings drawn end other e

pub stands_end : (end : Ending) (given : Given) (kept : Kept) → StandsAt end given kept → (read given).end ≡ end
stands_end end given kept s = ends_at (read given).left.told.drawings kept.reader.drawn (read given).end end s.told

pub shows_more : (layers : Option Layers) (drawn : ℕ) (less more : Told) → Front less.drawings more.drawings → Shows layers drawn less → Shows layers drawn more
shows_more layers drawn less more front s =
    let few = s.0 in
    let long : length more.drawings ≡ length less.drawings + length front.0 = ap length front.1 ∙ length-append less.drawings front.0 in (
      omega (arith, few, long),
      s.1 ∙ ap last_layers (sym (take-append-le drawn less.drawings front.0 few)) ∙ ap (λ l. last_layers (take drawn l)) (sym front.1),
    )

-- ---- a reading by what the code knows

module _ (laws : GrowthLaws) where
  lacks_same : (given : Given) (known : Known) → SameKnown given.known known → (end : Ending) → (read given).end ≡ end
      → Lacks given (with_known known given) end
  lacks_same given known s Finished e = tt
  lacks_same given known s (Refused fault) e = tt
  lacks_same given known s NeedBytes e = (refl, refl)
  lacks_same given known s (NeedOutline file) e = sym (s.outlines file) ∙ (laws.outline given file e).0
  lacks_same given known s (NeedFile file) e = sym (s.results file) ∙ (laws.file given file e).0

  pub read_same : (given : Given) (known : Known) → IsTable given.home.table → SameKnown given.known known → read (with_known known given) ≡ read given
  read_same given known is s =
      laws.unmet given (with_known known given) is (known_within given known (same_more given.known known s)) (lacks_same given known s (read given).end refl)

  -- ---- more is given

  pub fed_table : (given : Given) (it : Decoding) → IsFed given it → IsTable given.home.table
  fed_table given it fed = subst (λ (h : Home). IsTable h.table) (sym fed.home_is) fed.is_table

  pub fed_more : (given later : Given) (before after : Decoding) → IsFed given before → Within given later → StaysSo before after → later.mark ≡ after.mark
      → FedBy after.kept.standing later after.kept → IsFed later after
  fed_more given later before after fed within stays mark by =
      let below = laws.told given later (fed_table given before fed) within in
      let most = fed.at_most in
      let more = ticked_more (read given).left.told.decisions (read later).left.told.decisions below.decisions in
      let same = stays.decisions_are in
      record {
        home_is = sym within.home ∙ fed.home_is ∙ sym stays.home_is;
        mark_is = mark;
        is_table = subst (λ (h : Home). IsTable h.table) (sym stays.home_is) fed.is_table;
        by = by;
        at_most = omega (arith, most, more, same);
        shows = shows_more after.layers after.drawn (read given).left.told (read later).left.told below.drawings
            (subst (λ l. Shows l after.drawn (read given).left.told) (sym stays.layers_are)
            (subst (λ d. Shows before.layers d (read given).left.told) (sym stays.drawn_is) fed.shows));
      }

  -- all drawings were told, and the end at which the page stands isn't lifted
  pub stand_on : (end : Ending) (given later : Given) (kept after : Kept) → IsTable given.home.table → Within given later → Lacks given later end
      → after.reader ≡ kept.reader → StandsAt end given kept → StandsAt end later after
  stand_on end given later kept after is within lacks reader s =
      let same = laws.unmet given later is within (subst (Lacks given later) (sym (stands_end end given kept s)) lacks) in
      record {
        told = ap (λ r. next_entry r after.reader.drawn) same ∙ ap (λ (r : FileReader). next_entry (read given) r.drawn) reader ∙ s.told;
        decisions = subst (λ (r : FileReader). TicksExactly (read later).left.told.decisions 0 (decisions_in r)) (sym reader)
            (subst (λ (r : PageRead). TicksExactly r.left.told.decisions 0 (decisions_in kept.reader)) (sym same) s.decisions);
      }

  -- bytes came, or their end
  pub fed_lifted : (given later : Given) (kept after : Kept) → IsTable given.home.table → Within given later → later.known ≡ given.known
      → after.reader ≡ kept.reader → (GoesOn given kept → GoesOn later after) → (at : Standing) → FedBy at given kept → FedBy (standing_without at) later after
  fed_lifted given later kept after is within known reader goes standing.Going f = goes f
  fed_lifted given later kept after is within known reader goes standing.NeedBytes f = goes f.0
  fed_lifted given later kept after is within known reader goes (standing.NeedOutline file) f =
      let none = (laws.outline given file (stands_end (NeedOutline file) given kept f.1)).0 in
      (goes f.0, stand_on (NeedOutline file) given later kept after is within (ap (λ (k : Known). k.outlines file) known ∙ none) reader f.1)
  fed_lifted given later kept after is within known reader goes (standing.NeedFile file) f =
      let none = (laws.file given file (stands_end (NeedFile file) given kept f.1)).0 in
      (goes f.0, stand_on (NeedFile file) given later kept after is within (ap (λ (k : Known). k.results file) known ∙ none) reader f.1)
  fed_lifted given later kept after is within known reader goes standing.Finished f = stand_on Finished given later kept after is within tt reader f
  fed_lifted given later kept after is within known reader goes (standing.Refused fault) f =
      stand_on (Refused fault) given later kept after is within tt reader f
  fed_lifted given later kept after is within known reader goes standing.Failed f = tt

-- the reader goes on over more

pub goes_more : (given later : Given) (kept after : Kept) (piece : List ℕ) → Within given later → later.known ≡ given.known
    → later.bytes ≡ given.bytes ++ piece → after.reader ≡ kept.reader → after.others ≡ kept.others → after.unread ≡ kept.unread ++ piece
    → GoesOn given kept → GoesOn later after
goes_more given later kept after piece within known bytes reader others unread g =
    let K = known_by kept.others in
    let on : Within (with_known K given) (with_known K later) =
    record { home = within.home; known = record { outlines = λ file it e. e; results = λ file it e. e }; bytes = within.bytes } in
    record {
      same = subst (λ o. SameKnown later.known (known_by o)) (sym others) (subst (λ k. SameKnown k K) (sym known) g.same);
      before = g.before;
      within = subst (λ o. Within g.before (with_known (known_by o) later)) (sym others)
          (within_both g.before (with_known K given) (with_known K later) g.within on);
      bytes_are = bytes ∙ ap (λ b. b ++ piece) g.bytes_are ∙ append_assoc g.before.bytes kept.unread piece ∙ ap (λ u. g.before.bytes ++ u) (sym unread);
      stands = subst (λ r. Stands g.before r) (sym reader) g.stands;
    }

-- ---- gifts

pub goes_given : (given : Given) (known : Known) (kept after : Kept) → KnowsMore (known_by kept.others) (known_by after.others)
    → SameKnown known (known_by after.others) → after.reader ≡ kept.reader → after.unread ≡ kept.unread → GoesOn given kept
    → GoesOn (with_known known given) after
goes_given given known kept after more same reader unread g =
    let K = known_by kept.others in
    let now = known_by after.others in
    let on : Within (with_known K given) (with_known now given) = record { home = refl; known = more; bytes = inr (refl, refl) } in
    record {
      same = same;
      before = g.before;
      within = within_both g.before (with_known K given) (with_known now given) g.within on;
      bytes_are = g.bytes_are ∙ ap (λ u. g.before.bytes ++ u) (sym unread);
      stands = subst (λ r. Stands g.before r) (sym reader) g.stands;
    }

-- ---- what each call leaves of what is kept

abbrev pub pushed : List ℕ → Kept → Kept
pushed piece kept = record kept { unread = kept.unread ++ piece; standing = standing_without kept.standing }

abbrev pub failing : Kept → Kept
failing kept = record kept { standing = standing.Failed }

abbrev pub ended_by : FileEnd → Kept → Kept
ended_by end kept = record kept { end = Some end; standing = standing_without kept.standing }

abbrev pub gifted : Gifts → Kept → Kept
gifted gifts kept = record kept { others = gifts; standing = standing.Going }

abbrev pub with_bytes : List ℕ → Given → Given
with_bytes piece given = record given { bytes = given.bytes ++ piece }

abbrev pub with_mark : Mark → Given → Given
with_mark mark given = record given { mark = mark }

pub bytes_within : (given : Given) (piece : List ℕ) → given.mark ≡ Open → Within given (with_bytes piece given)
bytes_within given piece open_ =
    record { home = refl; known = record { outlines = λ file it e. e; results = λ file it e. e }; bytes = inl (open_, (piece, refl)) }

pub mark_within : (given : Given) (mark : Mark) → given.mark ≡ Open → Within given (with_mark mark given)
mark_within given mark open_ =
    record { home = refl; known = record { outlines = λ file it e. e; results = λ file it e. e }; bytes = inl (open_, ([], sym (append-nil given.bytes))) }

-- a page whose reading is over, or that failed: more bytes change nothing
abbrev pub IsSettled : Standing → Type 0
IsSettled standing.Going = ⊥
IsSettled standing.NeedBytes = ⊥
IsSettled (standing.NeedOutline file) = ⊥
IsSettled (standing.NeedFile file) = ⊥
IsSettled standing.Finished = Unit {0}
IsSettled (standing.Refused fault) = Unit {0}
IsSettled standing.Failed = Unit {0}

module _ (laws : GrowthLaws) (kept : Kept) where
  abbrev Now : Decoding
  Now = decoding_of kept

  pub open_given : (given : Given) → IsFed given Now → mark_by kept.end ≡ Open → given.mark ≡ Open
  open_given given fed o = fed.mark_is ∙ o

  pub pushed_fed : (given : Given) (piece : List ℕ) → mark_by kept.end ≡ Open → IsFed given Now
      → IsFed (with_bytes piece given) (decoding_of (pushed piece kept))
  pushed_fed given piece o fed =
      let within = bytes_within given piece (open_given given fed o) in
      fed_more laws given (with_bytes piece given) Now (decoding_of (pushed piece kept)) fed within
      (record { home_is = refl; drawn_is = refl; decisions_are = refl; layers_are = refl }) fed.mark_is
      (fed_lifted laws given (with_bytes piece given) kept (pushed piece kept) (fed_table laws given Now fed) within refl refl
      (goes_more given (with_bytes piece given) kept (pushed piece kept) piece within refl refl refl refl refl) kept.standing fed.by)

  -- the end is told, of a file of which nothing was known before
  pub ended_fed : (given : Given) (end : FileEnd) → mark_by kept.end ≡ Open → IsFed given Now
      → IsFed (with_mark (mark_of end) given) (decoding_of (ended_by end kept))
  ended_fed given end o fed =
      let later = with_mark (mark_of end) given in
      let within = mark_within given (mark_of end) (open_given given fed o) in
      fed_more laws given later Now (decoding_of (ended_by end kept)) fed within
      (record { home_is = refl; drawn_is = refl; decisions_are = refl; layers_are = refl }) refl
      (fed_lifted laws given later kept (ended_by end kept) (fed_table laws given Now fed) within refl refl
      (goes_more given later kept (ended_by end kept) [] within refl (sym (append-nil given.bytes)) refl refl (sym (append-nil kept.unread)))
      kept.standing fed.by)

  -- a page that failed
  pub failing_fed : (given later : Given) → Within given later → later.mark ≡ given.mark → IsFed given Now → IsFed later (decoding_of (failing kept))
  failing_fed given later within mark fed =
      fed_more laws given later Now (decoding_of (failing kept)) fed within
      (record { home_is = refl; drawn_is = refl; decisions_are = refl; layers_are = refl }) (mark ∙ fed.mark_is) tt

  settled_by : (given later : Given) → IsTable given.home.table → Within given later → (at : Standing) → IsSettled at → FedBy at given kept
      → FedBy at later kept
  settled_by given later is within standing.Going s f = absurd s
  settled_by given later is within standing.NeedBytes s f = absurd s
  settled_by given later is within (standing.NeedOutline file) s f = absurd s
  settled_by given later is within (standing.NeedFile file) s f = absurd s
  settled_by given later is within standing.Finished s f = stand_on laws Finished given later kept kept is within tt refl f
  settled_by given later is within (standing.Refused fault) s f = stand_on laws (Refused fault) given later kept kept is within tt refl f
  settled_by given later is within standing.Failed s f = tt

  pub settled_fed : (given : Given) (piece : List ℕ) → mark_by kept.end ≡ Open → IsSettled kept.standing → IsFed given Now
      → IsFed (with_bytes piece given) Now
  settled_fed given piece o settled fed =
      let within = bytes_within given piece (open_given given fed o) in
      fed_more laws given (with_bytes piece given) Now Now fed within
      (record { home_is = refl; drawn_is = refl; decisions_are = refl; layers_are = refl }) fed.mark_is
      (settled_by given (with_bytes piece given) (fed_table laws given Now fed) within kept.standing settled fed.by)

  -- the outline of a file is lacking, for which the page asks
  outline_asked : (given : Given) (file : ℕ) (at : Standing) → stands_by at ≡ Some (NeedOutline file) → FedBy at given kept
      → GoesOn given kept × StandsAt (NeedOutline file) given kept
  outline_asked given file standing.Going s f = absurd (cc)
  outline_asked given file standing.NeedBytes s f = absurd (cc)
  outline_asked given file (standing.NeedOutline other) s f =
      let asked : Some (NeedOutline other) ≡ Some (NeedOutline file) = s in
      let same : other ≡ file = cc in
      (f.0, subst (λ n. StandsAt (NeedOutline n) given kept) same f.1)
  outline_asked given file (standing.NeedFile other) s f = absurd (cc)
  outline_asked given file standing.Finished s f = absurd (cc)
  outline_asked given file (standing.Refused fault) s f = absurd (cc)
  outline_asked given file standing.Failed s f = absurd (cc)

  file_asked : (given : Given) (file : ℕ) (at : Standing) → stands_by at ≡ Some (NeedFile file) → FedBy at given kept
      → GoesOn given kept × StandsAt (NeedFile file) given kept
  file_asked given file standing.Going s f = absurd (cc)
  file_asked given file standing.NeedBytes s f = absurd (cc)
  file_asked given file (standing.NeedOutline other) s f = absurd (cc)
  file_asked given file (standing.NeedFile other) s f =
      let asked : Some (NeedFile other) ≡ Some (NeedFile file) = s in
      let same : other ≡ file = cc in
      (f.0, subst (λ n. StandsAt (NeedFile n) given kept) same f.1)
  file_asked given file standing.Finished s f = absurd (cc)
  file_asked given file (standing.Refused fault) s f = absurd (cc)
  file_asked given file standing.Failed s f = absurd (cc)

  pub outline_lacks : (given : Given) (file : ℕ) → stands_by kept.standing ≡ Some (NeedOutline file) → IsFed given Now
      → (given.known.outlines file ≡ None) × ((known_by kept.others).outlines file ≡ None) × (file < length kept.names)
  outline_lacks given file s fed =
      let asked = outline_asked given file kept.standing s fed.by in
      let lacks = laws.outline given file (stands_end (NeedOutline file) given kept asked.1) in
      (lacks.0, sym (asked.0.same.outlines file) ∙ lacks.0, subst (λ (h : Home). file < length h.names) fed.home_is lacks.1)

  pub file_lacks : (given : Given) (file : ℕ) → stands_by kept.standing ≡ Some (NeedFile file) → IsFed given Now
      → (given.known.results file ≡ None) × ((known_by kept.others).results file ≡ None) × (file < length kept.names)
  file_lacks given file s fed =
      let asked = file_asked given file kept.standing s fed.by in
      let lacks = laws.file given file (stands_end (NeedFile file) given kept asked.1) in
      (lacks.0, sym (asked.0.same.results file) ∙ lacks.0, subst (λ (h : Home). file < length h.names) fed.home_is lacks.1)

  pub outline_fed : (given : Given) (known : Known) (file : ℕ) (outline : Outline) (gifts : Gifts) → stands_by kept.standing ≡ Some (NeedOutline file)
      → KnowsOutline file outline given.known known → KnowsOutline file outline (known_by kept.others) (known_by gifts) → IsFed given Now
      → IsFed (with_known known given) (decoding_of (gifted gifts kept))
  outline_fed given known file outline gifts s k l fed =
      let lacks = outline_lacks given file s fed in
      let asked = outline_asked given file kept.standing s fed.by in
      let more = outline_more file outline (known_by kept.others) (known_by gifts) lacks.1 l in
      fed_more laws given (with_known known given) Now (decoding_of (gifted gifts kept)) fed
      (known_within given known (outline_more file outline given.known known lacks.0 k))
      (record { home_is = refl; drawn_is = refl; decisions_are = refl; layers_are = refl }) fed.mark_is
      (goes_given given known kept (gifted gifts kept) more
      (outline_same file outline given.known known (known_by kept.others) (known_by gifts) k asked.0.same l) refl refl asked.0)

  pub file_fed : (given : Given) (known : Known) (file : ℕ) (gift : Option Result) (gifts : Gifts) → stands_by kept.standing ≡ Some (NeedFile file)
      → KnowsResult file gift given.known known → KnowsResult file gift (known_by kept.others) (known_by gifts) → IsFed given Now
      → IsFed (with_known known given) (decoding_of (gifted gifts kept))
  file_fed given known file gift gifts s k l fed =
      let lacks = file_lacks given file s fed in
      let asked = file_asked given file kept.standing s fed.by in
      let more = result_more file gift (known_by kept.others) (known_by gifts) lacks.1 l in
      fed_more laws given (with_known known given) Now (decoding_of (gifted gifts kept)) fed
      (known_within given known (result_more file gift given.known known lacks.0 k))
      (record { home_is = refl; drawn_is = refl; decisions_are = refl; layers_are = refl }) fed.mark_is
      (goes_given given known kept (gifted gifts kept) more
      (result_same file gift given.known known (known_by kept.others) (known_by gifts) k asked.0.same l) refl refl asked.0)
