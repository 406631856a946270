-- What is kept of a file whose bytes or end come.
use Rattle.std.proofs.Common.{◌≡◌, ℕ, true, false, Option, Some, None, ◌⊎◌, inl, inr, List, [], ◌∷◌, ◌++◌, refl, sym, ap, ◌∙◌, subst}
use Rattle.djvu_base.specs.Library.{Mark, Open, Whole, Broken, mark_of, File}
use Rattle.djvu_base.specs.declared.ends.FileEnd.{FileEnd}
use Rattle.include_graph.specs.declared.outline.Outline.{Outline}
use Rattle.include_graph.specs.declared.outline.OutlineItem.{OutlineItem}
use Rattle.include_graph.specs.declared.outline.OutlineItem.TheVariants as item
use Rattle.include_graph.specs.Outlines.{outline_of}
use Rattle.jb2_records.specs.declared.results.FileResult.{FileResult}
use Rattle.page_decoder.specs.Given.{Front}
use Rattle.page_decoder.specs.Libraries.{FileGoesOn}
use Rattle.page_decoder.specs.Needs.{HasNoFault}
use Rattle.replay_core.specs.Machine.{fed_by, fed, ended_by, ended}
use Rattle.page_decoder.specs.FileReading.{mark_by}
use Rattle.replay_core.specs.CoreFiles.{FilePart, is_clean, IsKnown, FileBy, FileStands}
use Rattle.replay_core.proofs.Moving.{Both, same_file}

pub clean_of : (items : List OutlineItem) → HasNoFault items → is_clean items ≡ true
clean_of [] none = refl
clean_of (item.Include name offset ∷ items) none = clean_of items none
clean_of (item.Broken kind offset ∷ items) none = absurd none

-- the law of outlines that are known
abbrev pub OutlinesStay : Type 0
OutlinesStay = (mark : Mark) (bytes more : List ℕ) (outline : Outline) → outline_of Open bytes ≡ Some outline → outline_of mark (bytes ++ more) ≡ Some outline

pub known_on : OutlinesStay → (file later : File) (outline : Outline) → FileGoesOn file later → outline_of file.mark file.bytes ≡ Some outline
    → outline_of later.mark later.bytes ≡ Some outline
known_on stay file later outline on known = by on.bytes
  where
    by : ((file.mark ≡ Open) × Front file.bytes later.bytes) ⊎ ((file.bytes ≡ later.bytes) × (file.mark ≡ later.mark))
        → outline_of later.mark later.bytes ≡ Some outline
    by (inl went) =
        ap (outline_of later.mark) went.1.1
        ∙ stay later.mark file.bytes went.1.0 outline (subst (λ m. outline_of m file.bytes ≡ Some outline) went.0 known)
    by (inr same) = ap (λ m. outline_of m later.bytes) (sym same.1) ∙ ap (outline_of file.mark) (sym same.0) ∙ known

-- a file that goes on twice
pub on_both : Both → (before between after : File) → FileGoesOn before between → FileGoesOn between after → FileGoesOn before after
on_both both before between after one other = (both (before ∷ []) (between ∷ []) (after ∷ []) (one, tt) (other, tt)).0

pub is_known_on : OutlinesStay → Both → (file later : File) (gave : Option FileResult) (outline : Outline) (bytes : List ℕ) → FileGoesOn file later
    → IsKnown file gave outline bytes → IsKnown later gave outline bytes
is_known_on stay both file later gave outline bytes on is = record {
  known = known_on stay file later outline on is.known;
  wanted = λ none clean.
      let wants = is.wanted none clean in
      record {
        seen = wants.seen;
        known = wants.known;
        goes_on = on_both both wants.seen file later wants.goes_on on;
        bytes_are = wants.bytes_are;
      };
}

-- where the outline becomes known, all bytes are there
pub becomes_known : (file : File) (gave : Option FileResult) (outline : Outline) (bytes : List ℕ) → outline_of file.mark file.bytes ≡ Some outline
    → bytes ≡ file.bytes → IsKnown file gave outline bytes
becomes_known file gave outline bytes known are =
    record { known = known; wanted = λ none clean. record { seen = file; known = known; goes_on = same_file file; bytes_are = are } }

-- with a fault none is wanted
pub becomes_faulty : (file : File) (gave : Option FileResult) (outline : Outline) (bytes : List ℕ) → outline_of file.mark file.bytes ≡ Some outline
    → is_clean outline.items ≡ false → IsKnown file gave outline bytes
becomes_faulty file gave outline bytes known faulty = record {
  known = known;
  wanted = λ none clean. absurd (let wrong : true ≡ false = sym (clean_of outline.items clean) ∙ faulty in cc);
}

pub fed_mark : (piece : List ℕ) (file : File) → file.mark ≡ Open → fed piece file ≡ record file { bytes = file.bytes ++ piece }
fed_mark piece file e = ap (λ m. fed_by m piece file) e

-- ---- what is kept once the reader is gone

-- the outline is known
pub stands_known : (file : File) (gave : Option FileResult) (outline : Outline) (part : FilePart) → part.reader ≡ None → part.outline ≡ Some outline
    → mark_by part.end ≡ file.mark → IsKnown file gave outline part.bytes → FileStands file gave part
stands_known file gave outline part none some mark known = record {
  mark = mark;
  by = subst (λ r. FileBy r part.outline file gave part.bytes) (sym none) (subst (λ o. FileBy None o file gave part.bytes) (sym some) known);
}

-- the same is kept of a file that goes on
pub stands_on : OutlinesStay → Both → (file later : File) (gave : Option FileResult) (was is : FilePart) → FileGoesOn file later → was.reader ≡ None
    → is.reader ≡ None → is.outline ≡ was.outline → is.bytes ≡ was.bytes → mark_by is.end ≡ later.mark → FileStands file gave was
    → FileStands later gave is
stands_on stay both file later gave was is on none none' outline bytes mark stands = record {
  mark = mark;
  by = subst (λ r. FileBy r is.outline later gave is.bytes) (sym none') (subst (λ o. FileBy None o later gave is.bytes) (sym outline)
      (subst (λ b. FileBy None was.outline later gave b) (sym bytes)
      (by was.outline (subst (λ r. FileBy r was.outline file gave was.bytes) none stands.by))));
}
  where
    by : (outline : Option Outline) → FileBy None outline file gave was.bytes → FileBy None outline later gave was.bytes
    by None nothing = tt
    by (Some outline) known = is_known_on stay both file later gave outline was.bytes on known

pub fed_keeps : (piece : List ℕ) (file : File) → (fed piece file).mark ≡ file.mark
fed_keeps piece file = by file.mark refl
  where
    by : (mark : Mark) → file.mark ≡ mark → (fed_by mark piece file).mark ≡ file.mark
    by Open e = refl
    by Whole e = refl
    by Broken e = refl

pub ended_mark : (how : FileEnd) (file : File) → file.mark ≡ Open → ended how file ≡ record file { mark = mark_of how }
ended_mark how file e = ap (λ m. ended_by m how file) e
