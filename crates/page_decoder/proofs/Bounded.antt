-- A file has few acts, and no more drawings than chunks.
use Rattle.std.proofs.Common.{◌≡◌, ◌≤◌, ◌<◌, ◌+◌, ◌*◌, ◌^◌, ℕ, suc, Option, Some, None, List, [], ◌∷◌, ◌++◌, length, refl, ap, ◌∙◌, subst, arith}
use Rattle.std.proofs.lemmas.List.{length-append}
use Rattle.djvu_base.specs.Library.{file_limit}
use Rattle.layer_compose.specs.declared.layers.Layers.{Layers}
use Rattle.iff_chunks.specs.Chunks.{Form, Chunk, Tail, InHead, InHeader, InData, InPad, FormEnd, Broken, chunks_of}
use Rattle.iff_chunks.specs.Events.{events_of}
use Rattle.iff_chunks.specs.Order.{AtForm, InOrder}
use Rattle.page_decoder.specs.Kinds.{ChunkKind, kind_of}
use Rattle.page_decoder.specs.Kinds as kind
use Rattle.page_decoder.specs.Given.{Home, Known}
use Rattle.page_decoder.specs.PageRead.{Drawing, Ending, Left, at_start}
use Rattle.page_decoder.specs.Headers.{Head, header_fault}
use Rattle.page_decoder.specs.ChunkData.{came}
use Rattle.page_decoder.specs.Acts.{Act, form_acts, complete_acts, tail_acts, acts_of}
use Rattle.page_decoder.specs.Read.{On, drawing_of, drawing_by, at_header, step_through}
use Rattle.page_decoder.specs.ActsTold.{OpenChunk}
use Rattle.page_decoder.specs.FileReading.{reached}
use Rattle.page_decoder.proofs.Numbering.{number_below}
use Rattle.page_decoder.proofs.Ruling.{Rules, Holds, through_holds, header_holds, any_chunk, any_include, any_acts, any_includes}
use Rattle.page_decoder.proofs.Onward.{Few, first_on, few_chunks, header_few}
use Rattle.page_decoder.proofs.Acting.{none_before}
use Rattle.page_decoder.proofs.Sounding.{Container}

-- ---- drawings

at_most_one : (chunks decisions : ℕ) (layers : Option Layers) → length (drawing_of chunks decisions layers) ≤ 1
at_most_one chunks decisions None = omega arith
at_most_one chunks decisions (Some layers) = omega arith

one_drawing : (of : ChunkKind) (chunks decisions : ℕ) (layers : Option Layers) → length (drawing_by of chunks decisions layers) ≤ 1
one_drawing kind.Info chunks decisions layers = at_most_one chunks decisions layers
one_drawing kind.Include chunks decisions layers = omega arith
one_drawing kind.Dictionary chunks decisions layers = omega arith
one_drawing kind.Mask chunks decisions layers = at_most_one chunks decisions layers
one_drawing kind.Front chunks decisions layers = at_most_one chunks decisions layers
one_drawing kind.Back chunks decisions layers = at_most_one chunks decisions layers
one_drawing kind.Refused chunks decisions layers = omega arith
one_drawing kind.Passed chunks decisions layers = omega arith

one_more : (drawings new : List Drawing) (chunks : ℕ) → length drawings ≤ chunks → length new ≤ 1 → length (drawings ++ new) ≤ suc chunks
one_more drawings new chunks a b = let sizes = length-append drawings new in omega (arith, a, b, sizes)

abbrev FewDrawings : Option Head → Left → Type 0
FewDrawings at left = length left.told.drawings ≤ left.chunks

abbrev Anything : Left → Ending → Type 0
Anything left end = Unit {0}

rules : (home : Home) (known : Known) → Rules home known any_chunk any_include FewDrawings Anything
rules home known = record {
  begins = λ head left e i. i;
  chunk = λ head given decoded left f e i. one_more left.told.drawings _ left.chunks i
      (one_drawing (kind_of head.id) (suc left.chunks) (left.told.decisions + (came home.table head given left.decoded).decisions) decoded.layers);
  part = λ head n left i. i;
  wrong = λ head n kind offset left i. tt;
  pending = λ at left i. any_includes left.decoded.pending;
  reaches = λ at left file it e i. i;
  inherits = λ at found left i. i;
  none_left = λ at left i. i;
  unknown = λ at left file u i. tt;
  lacks = λ at left file next n i. tt;
  graph_fault = λ at left target fault b v i. tt;
  file_fault = λ at left file fault target before others below v e i. tt;
  own_fault = λ at kind offset left i. tt;
  finishes = λ left some i. tt;
}

module _ (home : Home) (known : Known) where
  few_through : (acts : List Act) (left : Left) → step_through home known acts at_start ≡ On left → length left.told.drawings ≤ left.chunks
  few_through acts left e =
      subst (λ s. Holds FewDrawings Anything None s) e
      (through_holds home known any_chunk any_include FewDrawings Anything (rules home known) (number_below home.names) acts at_start (any_acts acts)
      (omega arith))

  -- no more drawings than chunks
  pub few_drawings : (acts : List Act) (chunk : Option OpenChunk) (left : Left) → reached home known acts chunk ≡ On left
      → length left.told.drawings ≤ left.chunks
  few_drawings acts None left e = few_through acts left e
  few_drawings acts (Some chunk) left e =
      let next = λ (now : Left). at_header home known chunk.head (header_fault home.role now chunk.head) now in
      let parts = first_on (step_through home known acts at_start) next left e in
      subst (λ s. Holds FewDrawings Anything (Some chunk.head) s) parts.2
      (header_holds home known any_chunk any_include FewDrawings Anything (rules home known) (number_below home.names) chunk.head
      (header_fault home.role parts.0 chunk.head) parts.0 refl (few_through acts parts.0 parts.1))

  -- and no more chunks than acts
  pub chunks_reached : (acts : List Act) (chunk : Option OpenChunk) (left : Left) → reached home known acts chunk ≡ On left → left.chunks ≤ length acts
  chunks_reached acts None left e = few_chunks home known acts left e
  chunks_reached acts (Some chunk) left e =
      let next = λ (now : Left). at_header home known chunk.head (header_fault home.role now chunk.head) now in
      let parts = first_on (step_through home known acts at_start) next left e in
      let few : left.chunks ≤ parts.0.chunks =
      subst (λ s. Few parts.0.chunks s) parts.2 (header_few home known chunk.head (header_fault home.role parts.0 chunk.head) parts.0) in
      let before = few_chunks home known acts parts.0 parts.1 in
      omega (arith, few, before)

-- ---- acts

complete_count : (whole : List Chunk) → length (complete_acts whole) ≡ length whole
complete_count [] = refl
complete_count (chunk ∷ whole) = ap suc (complete_count whole)

tail_count : (tail : Tail) → length (tail_acts tail) ≤ 1
tail_count InHead = omega arith
tail_count (InHeader offset bytes) = omega arith
tail_count (InData chunk) = omega arith
tail_count (InPad offset is_last) = omega arith
tail_count FormEnd = omega arith
tail_count (Broken kind offset) = omega arith

-- the law of the container's limits
abbrev pub FewChunks : Type 0
FewChunks = (bytes : List ℕ) (form : Form) → (chunks_of bytes).form ≡ Some form → 8 * length (chunks_of bytes).whole ≤ form.size

count_so : (law : Container) → FewChunks → (bytes : List ℕ) (form : Option Form) → (chunks_of bytes).form ≡ form → length (acts_of (chunks_of bytes)) < 2 ^ 31
unfolding file_limit
count_so law few bytes (Some form) e =
    let chunks = chunks_of bytes in
    let rest = complete_acts chunks.whole ++ tail_acts chunks.tail in
    let acts : length (acts_of chunks) ≡ suc (length rest) = ap (λ f. length (form_acts f ++ rest)) e in
    let sizes = length-append (complete_acts chunks.whole) (tail_acts chunks.tail) in
    let whole = complete_count chunks.whole in
    let last = tail_count chunks.tail in
    let most = few bytes form e in
    let within : form.offset + 8 + form.size ≤ 2_097_152 = (law.laid bytes form e).within in
    omega (arith, acts, sizes, whole, last, most, within)
count_so law few bytes None e =
    let chunks = chunks_of bytes in
    let order = subst (λ f. InOrder AtForm (events_of (record { form = f; whole = chunks.whole; tail = chunks.tail }))) e (law.order bytes) in
    let acts : length (acts_of chunks) ≡ 0 =
    ap (λ f. length (form_acts f ++ (complete_acts chunks.whole ++ tail_acts chunks.tail))) e ∙ ap length (none_before chunks.whole chunks.tail order) in
    omega (arith, acts)

pub few_acts : (law : Container) → FewChunks → (bytes : List ℕ) (acts others : List Act) → acts_of (chunks_of bytes) ≡ acts ++ others → length acts < 2 ^ 31
few_acts law few bytes acts others e =
    let count = count_so law few bytes (chunks_of bytes).form refl in
    let all : length (acts_of (chunks_of bytes)) ≡ length acts + length others = ap length e ∙ length-append acts others in
    omega (arith, count, all)
