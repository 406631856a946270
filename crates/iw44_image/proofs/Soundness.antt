-- What stays true of an image while slices are read.
use Rattle.std.proofs.Common.{◌≡◌, ℕ, ◌+◌, ◌<◌, Bool, true, false, nat_lt, List, length, Option, Some, None, refl, sym, subst, arith}
use Rattle.std.specs.Prelude.{IsSome, if◌then◌else◌}
use Rattle.std.proofs.lemmas.Grind.{common_steps}
use Rattle.zp_table.specs.declared.rows.Row.{Row}
use Rattle.zp_table.specs.Rows.{IsTable}
use Rattle.zp_decoder.specs.Decoder.{Decoder, is_all}
use Rattle.zp_decoder.specs.States.{AreBelow}
use Rattle.iw44_image.specs.declared.headers.Header.{Header}
use Rattle.iw44_image.specs.declared.planes.Channel.{Channel}
use Rattle.iw44_image.specs.declared.planes.Channel.TheVariants.{Y, B, R}
use Rattle.iw44_image.specs.declared.planes.ChromaReaders.{ChromaReaders}
use Rattle.iw44_image.specs.declared.planes.PlaneReaders.{PlaneReaders}
use Rattle.iw44_image.specs.declared.steps.Stage.{Stage}
use Rattle.iw44_image.specs.declared.steps.Stage.TheVariants as stage
use Rattle.iw44_image.specs.Layer.{has_chroma, header_or, plane_for}
use Rattle.iw44_image.specs.Readers.{AreSoundChroma, AreSound, HasChroma, HasChannel, planes_of, coded_b, coded_r}
use Rattle.iw44_image.specs.Image.{image_by, is_whole}
use Rattle.iw44_image.specs.Keeping.{ArePlanesSound, ChannelFits, IsInSlice, IsAt, IsKept, next_stage}

planes_sound : (rows : ℕ) (header : Option Header) (old new : PlaneReaders) → ArePlanesSound rows header (Some old) →
    ((h : Header) → AreSound rows h old → AreSound rows h new) →
    ArePlanesSound rows header (Some new)
planes_sound rows None old new sound keeps = sound
planes_sound rows (Some h) old new sound keeps = (sound.0, keeps h sound.1)

-- the header by which the planes are sound
pub sound_of : (rows : ℕ) (header : Option Header) (planes : PlaneReaders) → ArePlanesSound rows header (Some planes) → (h : Header) × AreSound rows h planes
sound_of rows None planes sound = absurd sound
sound_of rows (Some h) planes sound = (h, sound.1)

pub sound_in : (rows : ℕ) (header : Option Header) (h : Header) (planes : PlaneReaders) → header ≡ Some h → ArePlanesSound rows header (Some planes) →
    AreSound rows h planes
sound_in rows header h planes is sound = let s = subst (λ (o : Option Header). ArePlanesSound rows o (Some planes)) is sound in s.1

pub kept_read : (limit : ℕ) (header : Option Header) (to_come : Option ℕ) (o : Option PlaneReaders) (old new : PlaneReaders) (zp next : Decoder)
    (left rest : List ℕ) (chunks slices : ℕ) (was now : Stage) →
    IsKept (image_by limit header to_come o zp left chunks slices was) → o ≡ Some old →
    next.table ≡ zp.table → ((h : Header) → AreSound (length zp.table) h old → AreSound (length zp.table) h new) →
    IsAt now (image_by limit header to_come (Some new) next rest chunks slices now) → IsSome to_come →
    IsKept (image_by limit header to_come (Some new) next rest chunks slices now)
kept_read limit header None o old new zp next left rest chunks slices was now kept is table keeps at running = absurd (let e : false ≡ true = running in cc)
kept_read limit header (Some count) o old new zp next left rest chunks slices was now kept is table keeps at running = record {
  table = subst IsTable (sym table) kept.table;
  limit = kept.limit;
  planes = subst (λ (t : List Row). ArePlanesSound (length t) header (Some new)) (sym table)
      (planes_sound (length zp.table) header old new (subst (λ (p : Option PlaneReaders). ArePlanesSound (length zp.table) header p) is kept.planes) keeps);
  at = at;
  closed = λ none. absurd (let e : Some count ≡ None = none in cc);
}

-- in the same slice, with other bytes
pub at_slice : (limit : ℕ) (header : Option Header) (to_come : Option ℕ) (old new : Option PlaneReaders) (zp next : Decoder) (left rest : List ℕ)
    (chunks slices : ℕ) (was now : Stage) (channel : Channel) (done count : ℕ) →
    IsInSlice (image_by limit header to_come old zp left chunks slices was) channel done count →
    next.ended ≡ is_all rest (is_whole to_come) →
    IsInSlice (image_by limit header to_come new next rest chunks slices now) channel done count
at_slice limit header to_come old new zp next left rest chunks slices was now channel done count here told = record {
  known = here.known;
  chunks = here.chunks;
  slices = here.slices;
  some = here.some;
  told = told;
  channel_fits = here.channel_fits;
}

grey_has_none : (header : Header) (slice : ℕ) → header.grey ≡ true → has_chroma header slice ≡ true → ⊥
grey_has_none header slice grey has = grind (arith, common_steps, grey, has)

chroma_there : (rows : ℕ) (header : Header) (slice : ℕ) (chroma : Option ChromaReaders) → AreSoundChroma rows header chroma →
    has_chroma header slice ≡ true → HasChroma chroma
chroma_there rows header slice None sound has = grey_has_none header slice sound has
chroma_there rows header slice (Some chroma) sound has = tt

b_below : (rows : ℕ) (header : Header) (chroma : Option ChromaReaders) → 0 < rows → AreSoundChroma rows header chroma → AreBelow rows
    (coded_b header chroma).states
b_below rows header None some sound = λ name. some
b_below rows header (Some chroma) some sound = sound.1.0.below

r_below : (rows : ℕ) (header : Header) (chroma : Option ChromaReaders) → 0 < rows → AreSoundChroma rows header chroma → AreBelow rows
    (coded_r header chroma).states
r_below rows header None some sound = λ name. some
r_below rows header (Some chroma) some sound = sound.1.1.below

-- the states of a plane are rows of the table
pub states_below : (rows : ℕ) (header : Header) (channel : Channel) (planes : PlaneReaders) → 0 < rows → AreSound rows header planes → AreBelow rows
    (plane_for (planes_of header planes) channel).states
states_below rows header Y planes some sound = sound.y.below
states_below rows header B planes some sound = b_below rows header planes.chroma some sound.chroma
states_below rows header R planes some sound = r_below rows header planes.chroma some sound.chroma

pub has_channel : (rows : ℕ) (header : Header) (channel : Channel) (slice : ℕ) (planes : PlaneReaders) → AreSound rows header planes →
    ChannelFits header channel slice → HasChannel channel planes
has_channel rows header Y slice planes sound channel_fits = tt
has_channel rows header B slice planes sound channel_fits = chroma_there rows header slice planes.chroma sound.chroma channel_fits
has_channel rows header R slice planes sound channel_fits = chroma_there rows header slice planes.chroma sound.chroma channel_fits

-- behind a slice of a plane
at_behind : (limit : ℕ) (header : Option Header) (to_come : Option ℕ) (old new : Option PlaneReaders) (zp next : Decoder) (left rest : List ℕ)
    (chunks slices : ℕ) (was now : Stage) (channel : Channel) (done count : ℕ) (more : Bool) →
    IsInSlice (image_by limit header to_come old zp left chunks slices was) channel done count →
    next.ended ≡ is_all rest (is_whole to_come) → nat_lt (done + 1) count ≡ more →
    IsAt (if more then stage.Slice Y (done + 1) count else stage.Rest count)
    (image_by limit header to_come new next rest chunks slices now)
at_behind limit header to_come old new zp next left rest chunks slices was now channel done count true here told more = record {
  known = here.known;
  chunks = here.chunks;
  slices = here.slices;
  some = grind (arith, common_steps, more);
  told = told;
  channel_fits = tt;
}
at_behind limit header to_come old new zp next left rest chunks slices was now channel done count false here told more = record {
  known = here.known;
  chunks = here.chunks;
  slices = here.slices;
}

pub at_next : (limit : ℕ) (header : Option Header) (to_come : Option ℕ) (old new : Option PlaneReaders) (zp next : Decoder) (left rest : List ℕ)
    (chunks slices : ℕ) (was now : Stage) (channel : Channel) (done count : ℕ) (chroma : Bool) →
    IsInSlice (image_by limit header to_come old zp left chunks slices was) channel done count →
    next.ended ≡ is_all rest (is_whole to_come) → has_chroma (header_or header) (slices + done) ≡ chroma →
    IsAt (next_stage chroma channel done count) (image_by limit header to_come new next rest chunks slices now)
at_next limit header to_come old new zp next left rest chunks slices was now Y done count true here told has = record {
  known = here.known;
  chunks = here.chunks;
  slices = here.slices;
  some = here.some;
  told = told;
  channel_fits = has;
}
at_next limit header to_come old new zp next left rest chunks slices was now Y done count false here told has =
    at_behind limit header to_come old new zp next left rest chunks slices was now Y done count (nat_lt (done + 1) count) here told refl
at_next limit header to_come old new zp next left rest chunks slices was now B done count chroma here told has = record {
  known = here.known;
  chunks = here.chunks;
  slices = here.slices;
  some = here.some;
  told = told;
  channel_fits = here.channel_fits;
}
at_next limit header to_come old new zp next left rest chunks slices was now R done count chroma here told has =
    at_behind limit header to_come old new zp next left rest chunks slices was now R done count (nat_lt (done + 1) count) here told refl
