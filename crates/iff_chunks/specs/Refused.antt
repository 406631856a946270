-- Chunks that no file may have, be it a page, an included file or one whose includes are asked for.
use Rattle.std.specs.Prelude.{ℕ, List, [], ◌∷◌, codes}

-- directories, colours of shapes, masks in fax code, and layers in JPEG
abbrev pub refused_ids : List (List ℕ)
refused_ids = codes "DIRM" ∷ codes "FGbz" ∷ codes "Smmr" ∷ codes "BGjp" ∷ codes "FGjp" ∷ []
