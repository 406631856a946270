-- What a complete chunk leaves, by its kind.
use Rattle.std.proofs.Common.{◌≡◌, ℕ, Bool, true, false, cond, leb, Option, Some, None, List, [], ◌∷◌, ◌++◌, length, refl}
use Rattle.djvu_base.specs.Picture.{Picture}
use Rattle.djvu_base.specs.declared.faults.FaultKind.{FaultKind}
use Rattle.zp_table.specs.declared.rows.Row.{Row}
use Rattle.bit_plane.specs.Pixels.{Pixels}
use Rattle.jb2_records.specs.declared.purpose.Purpose.TheVariants as purpose
use Rattle.jb2_records.specs.declared.reader.Jb2Step.{Jb2Step}
use Rattle.jb2_records.specs.declared.reader.Jb2Step.TheVariants as records
use Rattle.jb2_records.specs.Reading as jb2
use Rattle.iw44_image.specs.Layer.{Data, Answer, read_layer}
use Rattle.iw44_image.specs.Layer as iw44
use Rattle.layer_compose.specs.declared.layers.Layers.{Layers}
use Rattle.layer_compose.specs.Drawing.{ColourFits}
use Rattle.include_graph.specs.Included.{include_name}
use Rattle.page_decoder.specs.Reading.{size_in, size_fault, with_mask}
use Rattle.page_decoder.specs.Kinds.{ChunkKind}
use Rattle.page_decoder.specs.Kinds as kind
use Rattle.page_decoder.specs.PageRead.{Decoded}
use Rattle.page_decoder.proofs.Headed.{layer_taken}
use Rattle.page_decoder.specs.ChunkData.{Leaves, Unfinished, Fails, once_complete, with_layers, page_of, sized, named, records_in, records_outcome, with_dictionary, mask_came, layer_outcome, with_front, front_limit, front_came, back_limit, allowed_on, picture_in, with_back, back_with, back_came, came_by}

-- an include is pending, besides those before it
abbrev pub with_include : List ℕ → ℕ → Decoded → Decoded
with_include name offset decoded = record decoded { pending = decoded.pending ++ record { name = name; offset = offset } ∷ [] }

-- a chunk of this kind leaves this, of what earlier ones left
abbrev pub Brings : ChunkKind → List Row → Data → ℕ → Decoded → Decoded → Type 0
Brings kind.Info table given offset before after =
    (leb 4 (length given.bytes) ≡ true) × (given.ended ≡ true) × (size_fault (size_in given.bytes) ≡ None)
    × (after ≡ with_layers (page_of given.bytes) before)
Brings kind.Include table given offset before after =
    (name : List ℕ) × (given.ended ≡ true) × (include_name given.bytes ≡ Some name) × (after ≡ with_include name offset before)
Brings kind.Dictionary table given offset before after = (shapes : List Pixels) × (after ≡ with_dictionary shapes before)
Brings kind.Mask table given offset before after =
    (layers : Layers) × (mask : Pixels) × (before.layers ≡ Some layers) × (after ≡ with_layers (with_mask layers mask) before)
    × ((mask.width ≡ layers.width) × (mask.height ≡ layers.height))
Brings kind.Front table given offset before after =
    (layers : Layers) × (picture : Picture) × (before.layers ≡ Some layers) × (after ≡ with_front layers before picture)
    × ColourFits layers (Some picture)
Brings kind.Back table given offset before after =
    (layers : Layers) × (picture : Picture) × (before.layers ≡ Some layers) × ((back_with layers table given before).answer ≡ iw44.Done)
    × (after ≡ with_back layers given before picture) × (given.ended ≡ true) × ColourFits layers (Some picture)
Brings kind.Refused table given offset before after = after ≡ before
Brings kind.Passed table given offset before after = after ≡ before

complete_by : (t : Bool) (left decoded : Decoded) → cond t (Leaves left) Unfinished ≡ Leaves decoded → decoded ≡ left
complete_by true left decoded e = let same : Leaves left ≡ Leaves decoded = e in cc
complete_by false left decoded e = let wrong : Unfinished ≡ Leaves decoded = e in absurd (cc)

complete_so : (t : Bool) (left decoded : Decoded) → cond t (Leaves left) Unfinished ≡ Leaves decoded → t ≡ true
complete_so true left decoded e = refl
complete_so false left decoded e = let wrong : Unfinished ≡ Leaves decoded = e in absurd (cc)

complete_is : (given : Data) (left decoded : Decoded) → once_complete given left ≡ Leaves decoded → decoded ≡ left
complete_is given left decoded e = complete_by given.ended left decoded e

sized_brings : (fault : Option FaultKind) (table : List Row) (given : Data) (offset : ℕ) (before decoded : Decoded) → leb 4 (length given.bytes) ≡ true
    → size_fault (size_in given.bytes) ≡ fault → sized fault given before ≡ Leaves decoded → Brings kind.Info table given offset before decoded
sized_brings (Some kind) table given offset before decoded h f e = let wrong : Fails kind ≡ Leaves decoded = e in absurd (cc)
sized_brings None table given offset before decoded h f e =
    let left = with_layers (page_of given.bytes) before in
    (h, complete_so given.ended left decoded e, f, complete_is given left decoded e)

info_brings : (enough : Bool) (table : List Row) (given : Data) (offset : ℕ) (before decoded : Decoded) → leb 4 (length given.bytes) ≡ enough
    → cond enough (sized (size_fault (size_in given.bytes)) given before) Unfinished ≡ Leaves decoded → Brings kind.Info table given offset before decoded
info_brings true table given offset before decoded h e = sized_brings (size_fault (size_in given.bytes)) table given offset before decoded h refl e
info_brings false table given offset before decoded h e = let wrong : Unfinished ≡ Leaves decoded = e in absurd (cc)

named_brings : (found : Option (List ℕ)) (offset : ℕ) (before decoded : Decoded) → named found offset before ≡ Leaves decoded
    → (name : List ℕ) × (found ≡ Some name) × (decoded ≡ with_include name offset before)
named_brings None offset before decoded e = absurd (cc)
named_brings (Some name) offset before decoded e = let same : Leaves (with_include name offset before) ≡ Leaves decoded = e in (name, refl, cc)

include_brings : (ended : Bool) (table : List Row) (given : Data) (offset : ℕ) (before decoded : Decoded) → given.ended ≡ ended
    → cond ended (named (include_name given.bytes) offset before) Unfinished ≡ Leaves decoded → Brings kind.Include table given offset before decoded
include_brings true table given offset before decoded t e =
    let found = named_brings (include_name given.bytes) offset before decoded e in (found.0, t, found.1, found.2)
include_brings false table given offset before decoded t e = let wrong : Unfinished ≡ Leaves decoded = e in absurd (cc)

records_is : (answer : Jb2Step) (given : Data) (left decoded : Decoded) → records_outcome answer given left ≡ Leaves decoded → decoded ≡ left
records_is records.Finished given left decoded e = complete_is given left decoded e
records_is records.NeedBytes given left decoded e = let wrong : Unfinished ≡ Leaves decoded = e in absurd (cc)
records_is (records.Refused kind) given left decoded e = let wrong : Fails kind ≡ Leaves decoded = e in absurd (cc)
records_is records.OutOfMemory given left decoded e = let wrong : Unfinished ≡ Leaves decoded = e in absurd (cc)

mask_brings : (layers : Option Layers) (table : List Row) (given : Data) (offset : ℕ) (before decoded : Decoded) → before.layers ≡ layers
    → (mask_came layers table given before).outcome ≡ Leaves decoded → Brings kind.Mask table given offset before decoded
mask_brings None table given offset before decoded l e = let wrong : Unfinished ≡ Leaves decoded = e in absurd (cc)
mask_brings (Some layers) table given offset before decoded l e =
    let is = records_is (jb2.records_of (records_in table (purpose.Mask layers.width layers.height) given before)).answer given _ decoded e in
    (layers, _, l, is, (refl, refl))

-- the picture of a layer that is done lies on the page by a reduction
picture_fits : (table : List Row) (layers : Layers) (limit : ℕ) (chunks : List Data) (given : Data)
    → (read_layer table (allowed_on layers limit) (chunks ++ given ∷ [])).answer ≡ iw44.Done
    → ColourFits layers (Some (picture_in (read_layer table (allowed_on layers limit) (chunks ++ given ∷ [])).layer))
picture_fits table layers limit chunks given done =
    layer_taken table (allowed_on layers limit) chunks given done

layer_is : (answer : Answer) (given : Data) (left decoded : Decoded) → layer_outcome answer given left ≡ Leaves decoded → (answer ≡ iw44.Done)
    × (decoded ≡ left) × (given.ended ≡ true)
layer_is iw44.Done given left decoded e = (refl, complete_is given left decoded e, complete_so given.ended left decoded e)
layer_is iw44.Need given left decoded e = let wrong : Unfinished ≡ Leaves decoded = e in absurd (cc)
layer_is (iw44.Fault kind) given left decoded e = let wrong : Fails kind ≡ Leaves decoded = e in absurd (cc)

front_brings : (layers : Option Layers) (table : List Row) (given : Data) (offset : ℕ) (before decoded : Decoded) → before.layers ≡ layers
    → (front_came layers table given before).outcome ≡ Leaves decoded → Brings kind.Front table given offset before decoded
front_brings None table given offset before decoded l e = let wrong : Unfinished ≡ Leaves decoded = e in absurd (cc)
front_brings (Some layers) table given offset before decoded l e =
    let is = layer_is (read_layer table (allowed_on layers front_limit) (given ∷ [])).answer given _ decoded e in
    (layers, _, l, is.1, picture_fits table layers front_limit [] given is.0)

back_brings : (layers : Option Layers) (table : List Row) (given : Data) (offset : ℕ) (before decoded : Decoded) → before.layers ≡ layers
    → (back_came layers table given before).outcome ≡ Leaves decoded → Brings kind.Back table given offset before decoded
back_brings None table given offset before decoded l e = let wrong : Unfinished ≡ Leaves decoded = e in absurd (cc)
back_brings (Some layers) table given offset before decoded l e =
    let is = layer_is (back_with layers table given before).answer given _ decoded e in
    (layers, _, l, is.0, is.1, is.2, picture_fits table layers back_limit before.back given is.0)

pub brings : (of : ChunkKind) (table : List Row) (given : Data) (offset : ℕ) (before decoded : Decoded)
    → (came_by of table given offset before).outcome ≡ Leaves decoded → Brings of table given offset before decoded
brings kind.Info table given offset before decoded e = info_brings (leb 4 (length given.bytes)) table given offset before decoded refl e
brings kind.Include table given offset before decoded e = include_brings given.ended table given offset before decoded refl e
brings kind.Dictionary table given offset before decoded e =
    (_, records_is (jb2.records_of (records_in table purpose.Dictionary given before)).answer given _ decoded e)
brings kind.Mask table given offset before decoded e = mask_brings before.layers table given offset before decoded refl e
brings kind.Front table given offset before decoded e = front_brings before.layers table given offset before decoded refl e
brings kind.Back table given offset before decoded e = back_brings before.layers table given offset before decoded refl e
brings kind.Refused table given offset before decoded e = complete_is given before decoded e
brings kind.Passed table given offset before decoded e = complete_is given before decoded e
