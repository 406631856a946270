-- Libraries that go on: what is given there only grows.
use Rattle.std.proofs.Common.{◌≡◌, ◌≤◌, ℕ, zero, suc, Option, Some, None, ◌⊎◌, inl, inr, List, [], ◌∷◌, ◌++◌, length, refl, sym, ap, ◌∙◌, subst, arith}
use Rattle.std.specs.Prelude.{slice_get}
use Rattle.djvu_base.specs.Library.{Mark, Open, File, Library}
use Rattle.zp_table.specs.declared.rows.Row.{Row}
use Rattle.include_graph.specs.declared.outline.Outline.{Outline}
use Rattle.include_graph.specs.Outlines.{outline_of}
use Rattle.page_decoder.specs.Results.{Result}
use Rattle.page_decoder.specs.Given.{Role, Given, Front, Within}
use Rattle.page_decoder.proofs.Retaining.{front_both}
use Rattle.page_decoder.specs.Libraries.{names_in, outline_in_file, outlines_in, bytes_in, mark_in, given_in, FileGoesOn, LibraryGoesOn}

pub names_stay : (library later : Library) → LibraryGoesOn library later → names_in library ≡ names_in later
names_stay [] [] on = refl
names_stay [] (file ∷ later) on = absurd on
names_stay (file ∷ library) [] on = absurd on
names_stay (before ∷ library) (after ∷ later) on = ap (λ name. name ∷ names_in library) on.0.name
    ∙ ap (λ names. after.name ∷ names) (names_stay library later on.1)

pub length_stays : (library later : Library) → LibraryGoesOn library later → length library ≡ length later
length_stays [] [] on = refl
length_stays [] (file ∷ later) on = absurd on
length_stays (file ∷ library) [] on = absurd on
length_stays (before ∷ library) (after ∷ later) on = ap suc (length_stays library later on.1)

-- the files at one number
abbrev FileOn : Option File → Option File → Type 0
FileOn None None = Unit {0}
FileOn (Some before) (Some after) = FileGoesOn before after
FileOn None (Some after) = ⊥
FileOn (Some before) None = ⊥

file_on : (library later : Library) → LibraryGoesOn library later → (file : ℕ) → FileOn (slice_get library file) (slice_get later file)
file_on [] [] on file = tt
file_on [] (after ∷ later) on file = absurd on
file_on (before ∷ library) [] on file = absurd on
file_on (before ∷ library) (after ∷ later) on zero = on.0
file_on (before ∷ library) (after ∷ later) on (suc file) = file_on library later on.1 file

-- bytes that go on, and on
abbrev BytesOn : List ℕ → List ℕ → Mark → Mark → Type 0
BytesOn a b m n = ((m ≡ Open) × Front a b) ⊎ ((a ≡ b) × (m ≡ n))

bytes_both : (a b c : List ℕ) (l m n : Mark) → BytesOn a b l m → BytesOn b c m n → BytesOn a c l n
bytes_both a b c l m n (inl g) (inl h) = inl (g.0, front_both a b c g.1 h.1)
bytes_both a b c l m n (inl g) (inr h) = inl (g.0, (g.1.0, sym h.0 ∙ g.1.1))
bytes_both a b c l m n (inr g) (inl h) = inl (g.1 ∙ h.0, (h.1.0, h.1.1 ∙ ap (λ x. x ++ h.1.0) (sym g.0)))
bytes_both a b c l m n (inr g) (inr h) = inr (g.0 ∙ h.0, g.1 ∙ h.1)

same_file : (file : File) → FileGoesOn file file
same_file file = record { name = refl; bytes = inr (refl, refl) }

pub same_library : (library : Library) → LibraryGoesOn library library
same_library [] = tt
same_library (file ∷ library) = (same_file file, same_library library)

-- the law of outlines
abbrev pub OutlinesStay : Type 0
OutlinesStay = (mark : Mark) (bytes more : List ℕ) (outline : Outline) → outline_of Open bytes ≡ Some outline → outline_of mark (bytes ++ more) ≡ Some outline

outline_on : OutlinesStay → (before after : Option File) → FileOn before after → (outline : Outline) → outline_in_file before ≡ Some outline
    → outline_in_file after ≡ Some outline
outline_on stays None None on outline e = e
outline_on stays None (Some after) on outline e = absurd on
outline_on stays (Some before) None on outline e = absurd on
outline_on stays (Some before) (Some after) on outline e = by on.bytes
  where
    by : ((before.mark ≡ Open) × Front before.bytes after.bytes) ⊎ ((before.bytes ≡ after.bytes) × (before.mark ≡ after.mark))
        → outline_of after.mark after.bytes ≡ Some outline
    by (inl g) =
        let first : outline_of Open before.bytes ≡ Some outline = subst (λ m. outline_of m before.bytes ≡ Some outline) g.0 e in
        subst (λ b. outline_of after.mark b ≡ Some outline) (sym g.1.1) (stays after.mark before.bytes g.1.0 outline first)
    by (inr g) = ap (λ b. outline_of after.mark b) (sym g.0) ∙ ap (λ m. outline_of m before.bytes) (sym g.1) ∙ e

bytes_on : (before after : Option File) → FileOn before after
    → ((mark_in before ≡ Open) × Front (bytes_in before) (bytes_in after)) ⊎ ((bytes_in before ≡ bytes_in after) × (mark_in before ≡ mark_in after))
bytes_on None None on = inr (refl, refl)
bytes_on None (Some after) on = absurd on
bytes_on (Some before) None on = absurd on
bytes_on (Some before) (Some after) on = on.bytes

pub outlines_on : OutlinesStay → (library later : Library) → LibraryGoesOn library later → (file : ℕ) (outline : Outline)
    → outlines_in library file ≡ Some outline
    → outlines_in later file ≡ Some outline
outlines_on stays library later on file outline e = outline_on stays (slice_get library file) (slice_get later file) (file_on library later on file) outline e

pub within_library : OutlinesStay → (role : Role) (table : List Row) (library later : Library) (file : ℕ) (less more : ℕ → Option Result)
    → LibraryGoesOn library later
    → ((other : ℕ) (it : Result) → less other ≡ Some it → more other ≡ Some it)
    → Within (given_in role table library file less) (given_in role table later file more)
within_library stays role table library later file less more on results = record {
  home = ap (λ names. record { role = role; table = table; names = names; file = file }) (names_stay library later on);
  known = record { outlines = outlines_on stays library later on; results = results };
  bytes = bytes_on (slice_get library file) (slice_get later file) (file_on library later on file);
}

-- a file of which nothing is known isn't there
pub nothing_there : (library : Library) (file : ℕ) → length library ≤ file → slice_get library file ≡ None
nothing_there [] file h = refl
nothing_there (first ∷ library) zero h = absurd (omega (arith, h))
nothing_there (first ∷ library) (suc file) h = nothing_there library file (omega (arith, h))

pub length_names : (library : Library) → length (names_in library) ≡ length library
length_names [] = refl
length_names (file ∷ library) = ap suc (length_names library)

file_both : (a b c : File) → FileGoesOn a b → FileGoesOn b c → FileGoesOn a c
file_both a b c on later = record {
  name = on.name ∙ later.name;
  bytes = bytes_both a.bytes b.bytes c.bytes a.mark b.mark c.mark on.bytes later.bytes;
}

pub library_both : (a b c : Library) → LibraryGoesOn a b → LibraryGoesOn b c → LibraryGoesOn a c
library_both [] [] [] on later = tt
library_both [] [] (x ∷ c) on later = absurd later
library_both [] (y ∷ b) c on later = absurd on
library_both (z ∷ a) [] c on later = absurd on
library_both (z ∷ a) (y ∷ b) [] on later = absurd later
library_both (z ∷ a) (y ∷ b) (x ∷ c) on later = (file_both z y x on.0 later.0, library_both a b c on.1 later.1)

pub within_both : (a b c : Given) → Within a b → Within b c → Within a c
within_both a b c on later = record {
  home = on.home ∙ later.home;
  known = record {
    outlines = λ file outline e. later.known.outlines file outline (on.known.outlines file outline e);
    results = λ file it e. later.known.results file it (on.known.results file it e);
  };
  bytes = bytes_both a.bytes b.bytes c.bytes a.mark b.mark c.mark on.bytes later.bytes;
}

pub within_same : (given : Given) → Within given given
within_same given = record { home = refl; known = record { outlines = λ file outline e. e; results = λ file it e. e }; bytes = inr (refl, refl) }
