-- An included file has no drawing.
use Rattle.std.proofs.Common.{◌≡◌, ◌<◌, ◌+◌, ℕ, suc, Bool, true, false, ◌||◌, cond, Option, Some, None, is_some, List, [], ◌∷◌, ◌++◌, refl, sym, ap, ◌∙◌}
use Rattle.djvu_base.specs.Name.{is_listed}
use Rattle.djvu_base.specs.declared.faults.FaultKind.TheVariants as fault
use Rattle.std.specs.Prelude.{codes, bytes_eq}
use Rattle.iff_chunks.specs.Chunks.{chunks_of}
use Rattle.iff_chunks.specs.Refused.{refused_ids}
use Rattle.include_graph.specs.Included.{chunk_fault, misplaced_ids, is_dictionary, is_include}
use Rattle.layer_compose.specs.declared.layers.Layers.{Layers}
use Rattle.page_decoder.specs.Kinds.{ChunkKind, kind_of, brings_drawing}
use Rattle.page_decoder.specs.Kinds as kind
use Rattle.page_decoder.specs.Reading.{is_info, is_mask}
use Rattle.page_decoder.specs.Given.{Role, Included, Home, Known, Given}
use Rattle.page_decoder.specs.PageRead.{Ending, Left, at_start}
use Rattle.page_decoder.specs.Headers.{Head, header_fault}
use Rattle.page_decoder.specs.ChunkData.{came}
use Rattle.page_decoder.specs.Acts.{acts_of, close_in}
use Rattle.page_decoder.specs.Read.{drawing_by, read}
use Rattle.page_decoder.proofs.Numbering.{number_below}
use Rattle.page_decoder.proofs.Ruling.{Rules, from_holds, any_chunk, any_include, any_acts, any_includes}

-- a chunk of an included file is none of a page

not_misplaced : (refused misplaced second : Bool)
    → cond refused (Some fault.Unsupported) (cond misplaced (Some fault.Misplaced) (cond second (Some fault.SecondDictionary) None)) ≡ None
    → misplaced ≡ false
not_misplaced true misplaced second e = absurd (cc)
not_misplaced false true second e = absurd (cc)
not_misplaced false false second e = refl

-- what brings a drawing is tested by these
plain_kind : (info include dictionary mask front back refused : Bool) → (info || (mask || (back || (front || false)))) ≡ false
    → brings_drawing (cond info kind.Info (cond include kind.Include (cond dictionary kind.Dictionary (cond mask kind.Mask
    (cond front kind.Front (cond back kind.Back (cond refused kind.Refused kind.Passed))))))) ≡ false
plain_kind true include dictionary mask front back refused e = absurd (cc)
plain_kind false include dictionary true front back refused e = absurd (cc)
plain_kind false include dictionary false front true refused e = absurd (cc)
plain_kind false include dictionary false true false refused e = absurd (cc)
plain_kind false true dictionary false false false refused e = refl
plain_kind false false true false false false refused e = refl
plain_kind false false false false false false true e = refl
plain_kind false false false false false false false e = refl

plain_chunk : (has : Bool) (id : List ℕ) → chunk_fault has id ≡ None → brings_drawing (kind_of id) ≡ false
plain_chunk has id e =
    plain_kind (is_info id) (is_include id) (is_dictionary id) (is_mask id) (bytes_eq id (codes "FG44")) (bytes_eq id (codes "BG44"))
    (is_listed refused_ids id) (not_misplaced (is_listed refused_ids id) (is_listed misplaced_ids id) _ e)

no_drawing : (of : ChunkKind) (chunks decisions : ℕ) (layers : Option Layers) → brings_drawing of ≡ false → drawing_by of chunks decisions layers ≡ []
no_drawing kind.Info chunks decisions layers e = absurd (cc)
no_drawing kind.Include chunks decisions layers e = refl
no_drawing kind.Dictionary chunks decisions layers e = refl
no_drawing kind.Mask chunks decisions layers e = absurd (cc)
no_drawing kind.Front chunks decisions layers e = absurd (cc)
no_drawing kind.Back chunks decisions layers e = absurd (cc)
no_drawing kind.Refused chunks decisions layers e = refl
no_drawing kind.Passed chunks decisions layers e = refl

-- the induction

abbrev IsPlain : Option Head → Type 0
IsPlain None = Unit {0}
IsPlain (Some head) = brings_drawing (kind_of head.id) ≡ false

abbrev Drawless : Option Head → Left → Type 0
Drawless at left = (left.told.drawings ≡ []) × IsPlain at

abbrev Undrawn : Left → Ending → Type 0
Undrawn left end = left.told.drawings ≡ []

plain_header : (role : Role) (left : Left) (head : Head) → role ≡ Included → header_fault role left head ≡ None → brings_drawing (kind_of head.id) ≡ false
plain_header role left head r e =
    plain_chunk (is_some left.decoded.own) head.id (sym (ap (λ x. header_fault x left head) r) ∙ e)

rules : (home : Home) (known : Known) → home.role ≡ Included → Rules home known any_chunk any_include Drawless Undrawn
rules home known r = record {
  begins = λ head left e i. (i.0, plain_header home.role left head r e);
  chunk = λ head given decoded left f e i. (
    ap (λ ds. ds ++ drawing_by (kind_of head.id) (suc left.chunks) (left.told.decisions + (came home.table head given left.decoded).decisions)
        decoded.layers) i.0
        ∙ no_drawing (kind_of head.id) (suc left.chunks) (left.told.decisions + (came home.table head given left.decoded).decisions) decoded.layers i.1,
    tt,
  );
  part = λ head n left i. (i.0, tt);
  wrong = λ head n kind offset left i. i.0;
  pending = λ at left i. any_includes left.decoded.pending;
  reaches = λ at left file it e i. i;
  inherits = λ at found left i. i;
  none_left = λ at left i. i;
  unknown = λ at left file u i. i.0;
  lacks = λ at left file next n i. i.0;
  graph_fault = λ at left target fault b v i. i.0;
  file_fault = λ at left file fault target before others below v e i. i.0;
  own_fault = λ at kind offset left i. i.0;
  finishes = λ left some i. i.0;
}

pub drawless : (given : Given) → given.home.role ≡ Included → (read given).left.told.drawings ≡ []
drawless given r =
    from_holds given.home given.known any_chunk any_include Drawless Undrawn (rules given.home given.known r) (number_below given.home.names)
    (close_in given.mark given.bytes) (λ w left i. i.0) (acts_of (chunks_of given.bytes)) at_start (any_acts (acts_of (chunks_of given.bytes))) (refl, tt)
