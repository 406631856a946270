-- Kinds of chunks, by their identifiers.
use Rattle.std.specs.Prelude.{ℕ, Bool, true, false, List, codes, bytes_eq, if◌then◌else◌}
use Rattle.djvu_base.specs.Name.{is_listed}
use Rattle.iff_chunks.specs.Refused.{refused_ids}
use Rattle.include_graph.specs.Included.{is_dictionary, is_include}
use Rattle.page_decoder.specs.Reading.{is_info, is_mask}
-- what a chunk is for
pub use Rattle.page_decoder.specs.declared.kinds.ChunkKind.{ChunkKind}
pub use Rattle.page_decoder.specs.declared.kinds.ChunkKind.TheVariants.{Info, Include, Dictionary, Mask, Front, Back, Refused, Passed}

abbrev pub kind_of : List ℕ → ChunkKind
kind_of id =
    if is_info id then Info
    else if is_include id then Include
    else if is_dictionary id then Dictionary
    else if is_mask id then Mask
    else if bytes_eq id (codes "FG44") then Front
    else if bytes_eq id (codes "BG44") then Back
    else if is_listed refused_ids id then Refused
    else Passed

-- whether the end of a chunk of this kind brings a drawing
abbrev pub brings_drawing : ChunkKind → Bool
brings_drawing Info = true
brings_drawing Include = false
brings_drawing Dictionary = false
brings_drawing Mask = true
brings_drawing Front = true
brings_drawing Back = true
brings_drawing Refused = false
brings_drawing Passed = false
