-- The resolving of includes: what is kept of them, and how that stands to the definition, whatever more becomes known.
use Rattle.std.specs.Prelude.{ℕ, zero, suc, ◌≡◌, ◌+◌, ◌⊎◌, Bool, true, false, List, [], ◌∷◌, ◌++◌, length, Option, Some, None, ⊤, slice_get, unwrap_or}
use Rattle.bit_plane.specs.Pixels.{Pixels}
use Rattle.zp_table.specs.declared.rows.Row.{Row}
use Rattle.include_graph.specs.declared.outline.Outline.{Outline}
use Rattle.include_graph.specs.Verdicts.{in_list}
use Rattle.jb2_records.specs.declared.results.FileResult.{FileResult}
use Rattle.jb2_records.specs.declared.results.FileResult.TheVariants as file
use Rattle.page_decoder.specs.declared.roles.Role.{Role as FileRole}
use Rattle.page_decoder.specs.declared.roles.Role.TheVariants as file_role
use Rattle.page_decoder.specs.declared.resolving.Resolution.{Resolution}
use Rattle.page_decoder.specs.declared.resolving.Resolution.TheVariants as resolution
use Rattle.page_decoder.specs.declared.listing.Gift.{Gift}
use Rattle.page_decoder.specs.declared.listing.Gift.TheVariants as gift
use Rattle.page_decoder.specs.Results.{Result, Dictionary, Nothing, result_of}
use Rattle.page_decoder.specs.Results as result
use Rattle.page_decoder.specs.Given.{Role, Page, Included, Home, Known, KnowsMore}
use Rattle.page_decoder.specs.PageRead.{Ending, NeedOutline, NeedFile, Refused, Include, Decoded, Left, or_else}
use Rattle.page_decoder.specs.Read.{Step, On, ends, and_then, in_files, at_verdict, listing, resolved, all_resolved, nothing_pending}

-- ---- what is known of other files

-- what a file is known to give. Of one whose decoding found no memory nothing is known
abbrev pub result_in : FileResult → Option Result
result_in (file.Dictionary shapes) = Some (Dictionary shapes)
result_in file.Nothing = Some Nothing
result_in (file.Refused fault) = Some (result.Refused fault)
result_in file.NoMemory = None

-- what stands at a place, if there is one
abbrev pub given_at : Option (Option FileResult) → Option FileResult
given_at None = None
given_at (Some gift) = gift

abbrev pub result_from : Option FileResult → Option Result
result_from None = None
result_from (Some gift) = result_in gift

-- the same, in the code's words
abbrev pub gift_of : Gift → Option Result
gift_of (gift.Gives found) = Some (result_of found)
gift_of (gift.Refused fault) = Some (result.Refused fault)
gift_of gift.Unknown = None

-- what was given of so many files, by their numbers. Neither list has a place before the first gift
pub record Gifts : Type 0 where
  pub count : ℕ
  pub outlines : List (Option Outline)
  pub results : List (Option FileResult)

-- what is known, where these were given
abbrev pub known_of : List (Option Outline) → List (Option FileResult) → Known
known_of outlines results = record { outlines = in_list outlines; results = λ file. result_from (given_at (slice_get results file)) }

abbrev pub known_by : Gifts → Known
known_by gifts = known_of gifts.outlines gifts.results

-- there is no place yet, or one for each of so many files
abbrev pub IsPlaced : {A : Type 0} → ℕ → List A → Type 0
IsPlaced count places = (places ≡ []) ⊎ (length places ≡ count)

pub record HasPlaces (gifts : Gifts) : Type 0 where
  pub outlines : IsPlaced gifts.count gifts.outlines
  pub results : IsPlaced gifts.count gifts.results

-- ---- what isn't known yet

abbrev pub lacking : {A : Type 0} → Option A → ℕ
lacking None = 1
lacking (Some it) = 0

-- of so many files, by their numbers, how many nothing is known of
abbrev pub unknown_of : {A : Type 0} → (ℕ → Option A) → ℕ → ℕ
unknown_of known zero = 0
unknown_of known (suc count) = lacking (known count) + unknown_of known count

-- so many outlines, and so many results, can still be asked for
unfoldable pub not_given : Gifts → ℕ
not_given gifts = unknown_of (known_by gifts).outlines gifts.count + unknown_of (known_by gifts).results gifts.count

-- ---- the file itself

abbrev pub role_of : FileRole → Role
role_of file_role.Page = Page
role_of file_role.Included = Included

-- the file with this number, read in this role with a state table
abbrev pub home_of : FileRole → List Row → List (List ℕ) → ℕ → Home
home_of role table names file = record { role = role_of role; table = table; names = names; file = file }

-- ---- what is kept of includes

-- the target of the include at hand, and those of its files that weren't passed
pub record AtHand : Type 0 where
  pub target : ℕ
  pub files : List ℕ

-- the dictionary that includes gave so far, the include at hand, those behind it, and which targets were resolved, by their numbers
pub record Resolving : Type 0 where
  pub inherited : Option (List Pixels)
  pub listed : Option AtHand
  pub pending : List Include
  pub marks : List Bool

abbrev pub with_include : Include → Resolving → Resolving
with_include include it = record it { pending = it.pending ++ include ∷ [] }

-- whether the file with this number has a mark. None has one before the first list
abbrev pub is_marked : List Bool → ℕ → Bool
is_marked marks file = unwrap_or (slice_get marks file) false

-- what was left, with a dictionary that includes gave, and the files reached
abbrev pub with_files : Option (List Pixels) → List ℕ → Left → Left
with_files inherited reached left = record left {
  decoded = record left.decoded { inherited = inherited };
  told = record left.told { reached = reached };
}

-- the files of an include of this target were passed up to these, whatever more becomes known. The last of them gave this
-- dictionary, or none
pub record HasPassed (home : Home) (known : Known) (target : ℕ) (files : List ℕ) (found : Option (List Pixels)) : Type 0 where
  pub passed : List ℕ
  pub is : (more : Known) → KnowsMore known more → (inherited : Option (List Pixels)) (reached : List ℕ) (left : Left)
      → at_verdict more (listing home.role home more target) (with_files inherited reached left)
      ≡ in_files more files found (with_files inherited (reached ++ passed) left)

-- all of them were passed, and where this dictionary is inherited, a further include of the target gives no other
pub record GaveAll (home : Home) (known : Known) (inherited : Option (List Pixels)) (target : ℕ) : Type 0 where
  pub found : Option (List Pixels)
  pub all : HasPassed home known target [] found
  pub absorbed : or_else inherited found ≡ inherited

-- what is marked was resolved
abbrev pub HasMarks : Home → Known → Option (List Pixels) → List Bool → Type 0
HasMarks home known inherited marks = (target : ℕ) → is_marked marks target ≡ true → GaveAll home known inherited target

-- behind chunks that left this, no include is at hand, and these wait
pub record Waits (home : Home) (known : Known) (decoded : Decoded) (it : Resolving) : Type 0 where
  pub inherited : it.inherited ≡ decoded.inherited
  pub listed : it.listed ≡ None
  pub pending : it.pending ≡ decoded.pending
  pub marks : HasMarks home known it.inherited it.marks

abbrev pub listed_files : Known → Option AtHand → Left → Step
listed_files known None left = On left
listed_files known (Some hand) left = in_files known hand.files None left

-- the include at hand is one of its target
abbrev pub HasBegun : Home → Known → Option AtHand → Type 0
HasBegun home known None = ⊤
HasBegun home known (Some hand) = HasPassed home known hand.target hand.files None

-- what is to be resolved from here: the files of the include at hand, and then the includes behind it
abbrev pub rest_of : Home → Known → Resolving → Left → Step
rest_of home known it left = and_then (listed_files known it.listed left) (resolved home known it.pending)

-- all includes that were pending are resolved as far as this: whatever more becomes known, what all of them come to is what
-- those come to that are to be resolved from here
pub record Resolves (home : Home) (known : Known) (left : Left) (it : Resolving) : Type 0 where
  pub reached : List ℕ
  pub rest : (more : Known) → KnowsMore known more → all_resolved home more left ≡ rest_of home more it (with_files it.inherited reached left)
  pub begun : HasBegun home known it.listed
  pub marks : HasMarks home known it.inherited it.marks

-- all are resolved, and more that becomes known changes nothing
pub record IsResolved (home : Home) (known : Known) (left : Left) (it : Resolving) : Type 0 where
  pub reached : List ℕ
  pub is : (more : Known) → KnowsMore known more → all_resolved home more left ≡ On (nothing_pending (with_files it.inherited reached left))
  pub waits : Waits home known (nothing_pending (with_files it.inherited reached left)).decoded it

-- the includes that were pending come to this end
pub record Stops (home : Home) (known : Known) (left : Left) (end : Ending) : Type 0 where
  pub inherited : Option (List Pixels)
  pub reached : List ℕ
  pub is : all_resolved home known left ≡ ends (with_files inherited reached left) end

-- they stand at a need, and go on from here once it is met
pub record Needs (home : Home) (known : Known) (left : Left) (end : Ending) (it : Resolving) : Type 0 where
  pub stops : Stops home known left end
  pub resolves : Resolves home known left it

-- what is answered, and what is kept then
abbrev pub Answers : Home → Known → Left → Resolution → Resolving → Type 0
Answers home known left resolution.Resolved it = IsResolved home known left it
Answers home known left (resolution.NeedOutline file) it = Needs home known left (NeedOutline file) it
Answers home known left (resolution.NeedFile file) it = Needs home known left (NeedFile file) it
Answers home known left (resolution.Refused fault) it = Stops home known left (Refused fault)
Answers home known left resolution.OutOfMemory it = ⊤

-- what stops the resolving, if something does
abbrev pub AnswersIf : Home → Known → Left → Option Resolution → Resolving → Type 0
AnswersIf home known left None it = Resolves home known left it
AnswersIf home known left (Some stop) it = Answers home known left stop it
