-- An image with more bytes of its open chunk.
use Rattle.std.proofs.Common.{◌≡◌, ℕ, zero, suc, ◌-◌, ◌≤◌, Bool, true, false, List, [], ◌∷◌, ◌++◌, length, Option, Some, None}
use Rattle.std.proofs.Common.{refl, ap, sym, ◌∙◌, subst, arith, append_assoc}
use Rattle.std.specs.Prelude.{◌==◌}
use Rattle.std.proofs.lemmas.List.{append-nil}
use Rattle.djvu_base.specs.declared.faults.FaultKind.{FaultKind}
use Rattle.zp_table.specs.declared.rows.Row.{Row}
use Rattle.zp_decoder.specs.Decoder.{Decoder, is_all}
use Rattle.iw44_image.specs.declared.planes.Channel.{Channel}
use Rattle.iw44_image.specs.declared.planes.PlaneReaders.{PlaneReaders}
use Rattle.iw44_image.specs.declared.steps.Stage.{Stage}
use Rattle.iw44_image.specs.declared.steps.Stage.TheVariants as stage
use Rattle.iw44_image.specs.declared.headers.Header.{Header}
use Rattle.iw44_image.specs.Header.{Opening, open_chunk}
use Rattle.iw44_image.specs.Layer.{Layer, LayerReading, Fault, ends, any_size, data_of, read_chunk}
use Rattle.iw44_image.specs.Growth.{OpenGrows}
use Rattle.iw44_image.specs.Offering.{Fits}
use Rattle.iw44_image.specs.Image.{Image, Frame, frame_by, image_by, layer_in, is_whole, reading_in, Begun, InSlice, InRest, HoldsAt}
use Rattle.iw44_image.specs.Keeping.{kept_at, IsAt, IsKept}
use Rattle.iw44_image.proofs.Growing.{open_grows, chunk_refused}
use Rattle.iw44_image.proofs.Giving.{frame_with}
use Rattle.iw44_image.proofs.Headed.{not_none}

begun_grows : (frame : Frame) (to_come : Option ℕ) (layer : Layer) (bytes piece zp : List ℕ) (count : ℕ) → Begun frame layer bytes count zp →
    Begun (frame_with frame to_come) layer (bytes ++ piece) count (zp ++ piece)
begun_grows frame to_come layer bytes piece zp count begun = record {
  known = begun.known;
  opened = λ ended.
      subst (λ (o : Opening). OpenGrows piece o (open_chunk frame.limit layer.chunks layer.header (bytes ++ piece) ended)) (begun.opened false)
      (open_grows frame.limit layer.chunks layer.header bytes piece ended);
}

begun_turned : (frame : Frame) (layer : Layer) (bytes taken left piece : List ℕ) (count : ℕ) → Begun frame layer bytes count ((taken ++ left) ++ piece) →
    Begun frame layer bytes count (taken ++ (left ++ piece))
begun_turned frame layer bytes taken left piece count begun =
    subst (λ (p : List ℕ). Begun frame layer bytes count p) (append_assoc taken left piece) begun

no_room : (piece : List ℕ) → length piece ≤ 0 → piece ≡ []
no_room [] room = refl
no_room (byte ∷ piece) room = absurd (omega (arith, room))

none_came : (n : ℕ) (piece : List ℕ) → length piece ≤ n → (n == 0) ≡ true → (piece ≡ []) × ((n - length piece == 0) ≡ true)
none_came zero piece room all = let none : piece ≡ [] = no_room piece room in (none, ap (λ (p : List ℕ). 0 - length p == 0) none)
none_came (suc n) piece room all = absurd (let wrong : false ≡ true = sym (not_none n) ∙ all in cc)

rest_fits : (told : Bool) (rest piece : List ℕ) (n : ℕ) → length piece ≤ n → Fits told rest (n == 0) → Fits told (rest ++ piece) (n - length piece == 0)
rest_fits told rest piece n room fits = λ is.
    let before = fits is in
    let none = none_came n piece room before.1 in
    (ap (λ (r : List ℕ). r ++ piece) before.0 ∙ none.0, none.1)

slice_grows : (frame : Frame) (to_come : Option ℕ) (layer : Layer) (bytes piece left : List ℕ) (decisions : ℕ) (planes : Option PlaneReaders) (zp : Decoder)
    (channel : Channel) (done count : ℕ) → InSlice frame layer bytes decisions planes zp left channel done count →
    InSlice (frame_with frame to_come) layer (bytes ++ piece) decisions planes zp (left ++ piece) channel done count
slice_grows frame to_come layer bytes piece left decisions planes zp channel done count here = record {
  taken = here.taken;
  place = here.place;
  course = here.course;
  slice = here.slice;
  later = here.later;
  begun = begun_turned (frame_with frame to_come) layer (bytes ++ piece) here.taken left piece count
      (begun_grows frame to_come layer bytes piece (here.taken ++ left) count here.begun);
  fed = here.fed;
  slice_is = here.slice_is;
  count_is = here.count_is;
  placed = here.placed;
  goes = here.goes;
}

rest_grows : (frame : Frame) (n : ℕ) (layer : Layer) (bytes piece : List ℕ) (decisions : ℕ) (planes : Option PlaneReaders) (zp : Decoder)
    (count : ℕ) → frame.to_come ≡ Some n → length piece ≤ n → InRest frame layer bytes decisions planes zp count →
    InRest (frame_with frame (Some (n - length piece))) layer (bytes ++ piece) decisions planes zp count
rest_grows frame n layer bytes piece decisions planes zp count is room here = record {
  taken = here.taken;
  rest = here.rest ++ piece;
  begun = begun_turned (frame_with frame (Some (n - length piece))) layer (bytes ++ piece) here.taken here.rest piece count
      (begun_grows frame (Some (n - length piece)) layer bytes piece (here.taken ++ here.rest) count here.begun);
  fits = rest_fits zp.ended here.rest piece n room (subst (λ (t : Option ℕ). Fits zp.ended here.rest (is_whole t)) is here.fits);
  placed = here.placed;
  goes = here.goes;
}

refusal_stays : (table : List Row) (limit : ℕ) (header : Option Header) (chunks slices n : ℕ) (layer : Layer)
    (bytes piece : List ℕ) (after : Layer) (kind : FaultKind) → length piece ≤ n →
    reading_in (frame_by table limit header (Some n) chunks slices) bytes layer ≡ ends (Fault kind) after →
    reading_in (frame_by table limit header (Some (n - length piece)) chunks slices) (bytes ++ piece) layer
    ≡ ends (Fault kind) after
refusal_stays table limit header chunks slices zero layer bytes piece after kind room is =
    let none : piece ≡ [] = no_room piece room in
    ap (λ (p : List ℕ). reading_in (frame_by table limit header (Some (0 - length p)) chunks slices) (bytes ++ p) layer) none
    ∙ ap (λ (b : List ℕ). reading_in (frame_by table limit header (Some 0) chunks slices) b layer) (append-nil bytes)
    ∙ is
refusal_stays table limit header chunks slices (suc n) layer bytes piece after kind room is =
    let first : read_chunk table (any_size limit) (data_of bytes false) layer ≡ ends (Fault kind) after =
    subst (λ (b : Bool). read_chunk table (any_size limit) (data_of bytes b) layer ≡ ends (Fault kind) after) (not_none n) is in
    chunk_refused table (any_size limit) bytes piece (suc n - length piece == 0) layer kind (ap (λ (r : LayerReading). r.answer) first) ∙ first

-- what stays true of the image
more_told : (told : Bool) (left piece : List ℕ) (n : ℕ) → length piece ≤ n → told ≡ is_all left (n == 0) → told ≡ is_all (left ++ piece) (n - length piece == 0)
more_told told (byte ∷ left) piece n room is = is
more_told told [] [] n room is = let e : n ≡ n - 0 = omega arith in is ∙ ap (λ (k : ℕ). k == 0) e
more_told told [] (byte ∷ piece) zero room is = absurd (omega (arith, room))
more_told told [] (byte ∷ piece) (suc n) room is = is ∙ not_none n

abbrev pub more_of : Image → ℕ → List ℕ → List ℕ → Image
more_of old n piece left = image_by old.limit old.header (Some (n - length piece)) old.planes old.zp left old.chunks old.slices old.stage

more_at : (at : Stage) (old : Image) (n : ℕ) (piece : List ℕ) → old.to_come ≡ Some n → length piece ≤ n → IsAt at old →
    IsAt at (more_of old n piece (kept_at at old.left piece))
more_at stage.Header old n piece is room here = record { chunks = here.chunks; slices = here.slices }
more_at (stage.Slice channel done count) old n piece is room here = record {
  known = here.known;
  chunks = here.chunks;
  slices = here.slices;
  some = here.some;
  told = more_told old.zp.ended old.left piece n room (here.told ∙ ap (λ (o : Option ℕ). is_all old.left (is_whole o)) is);
  channel_fits = here.channel_fits;
}
more_at (stage.Rest count) old n piece is room here = record { known = here.known; chunks = here.chunks; slices = here.slices }
more_at (stage.Refused kind) old n piece is room here = tt

pub more_kept : (old : Image) (n : ℕ) (piece left : List ℕ) → IsKept old → old.to_come ≡ Some n → length piece ≤ n → left ≡ kept_at old.stage old.left piece →
    IsKept (more_of old n piece left)
more_kept old n piece left kept is room left_is = record {
  table = kept.table;
  limit = kept.limit;
  planes = kept.planes;
  at = subst (λ (l : List ℕ). IsAt old.stage (more_of old n piece l)) (sym left_is) (more_at old.stage old n piece is room kept.at);
  closed = λ none. absurd (let e : Some (n - length piece) ≡ None = none in cc);
}

pub more_held : (at : Stage) (frame : Frame) (n : ℕ) (layer : Layer) (bytes piece left : List ℕ) (decisions : ℕ) (planes : Option PlaneReaders)
    (zp : Decoder) → frame.to_come ≡ Some n → length piece ≤ n → HoldsAt at frame layer bytes decisions planes zp left →
    HoldsAt at (frame_with frame (Some (n - length piece))) layer (bytes ++ piece) decisions planes zp (kept_at at left piece)
more_held stage.Header frame n layer bytes piece left decisions planes zp is room here =
    record { layer_is = here.layer_is; left_is = ap (λ (b : List ℕ). b ++ piece) here.left_is; placed = here.placed }
more_held (stage.Slice channel done count) frame n layer bytes piece left decisions planes zp is room here =
    slice_grows frame (Some (n - length piece)) layer bytes piece left decisions planes zp channel done count here
more_held (stage.Rest count) frame n layer bytes piece left decisions planes zp is room here =
    rest_grows frame n layer bytes piece decisions planes zp count is room here
more_held (stage.Refused kind) frame n layer bytes piece left decisions planes zp is room here =
    refusal_stays frame.table frame.limit frame.header frame.chunks frame.slices n layer bytes piece (layer_in frame planes decisions) kind room
    (subst (λ (t : Option ℕ). reading_in (frame_with frame t) bytes layer ≡ ends (Fault kind) (layer_in frame planes decisions)) is here)
