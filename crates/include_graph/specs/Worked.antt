-- Files and graphs of files that are worked out.
use Rattle.std.specs.Prelude.{ℕ, ◌++◌, List, [], ◌∷◌, Option, Some, codes}
use Rattle.iff_chunks.specs.Worked.{form_with, header}
use Rattle.include_graph.specs.declared.outline.Outline.{Outline}
use Rattle.include_graph.specs.declared.outline.OutlineItem.{OutlineItem}
use Rattle.include_graph.specs.declared.outline.OutlineItem.TheVariants as item
use Rattle.include_graph.specs.Verdicts.{Graph, in_list}

-- an included file with these chunks
abbrev pub included_file : ℕ → List ℕ → List ℕ
included_file size chunks = form_with (codes "DJVI") size chunks

-- an INCL of one byte, and its pad byte
abbrev pub include_of : ℕ → List ℕ
include_of letter = header (codes "INCL") 1 ++ (letter ∷ 0x00 ∷ [])

-- a file that includes another by an INCL of one byte, and has no other chunk
abbrev pub includes_one : ℕ → List ℕ
includes_one letter = included_file 14 (include_of letter)

abbrev pub outline_with : List OutlineItem → Option Outline
outline_with items = Some (record { items = items })

-- the outline of a file that includes these two, of names of one byte
abbrev pub two_includes : List ℕ → List ℕ → Option Outline
two_includes first second = outline_with (item.Include first 16 ∷ item.Include second 26 ∷ [])

abbrev pub one_include : List ℕ → Option Outline
one_include name = outline_with (item.Include name 16 ∷ [])

abbrev pub no_include : Option Outline
no_include = outline_with []

-- four files of names a to d, with these outlines
abbrev pub four_files : List (Option Outline) → Graph
four_files outlines = record { names = codes "a" ∷ codes "b" ∷ codes "c" ∷ codes "d" ∷ []; outlines = in_list outlines }
