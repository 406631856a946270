-- A chunk whose header has no fault can begin.
use Rattle.std.proofs.Common.{◌≡◌, ◌≢◌, ◌≤◌, ◌<◌, inl, inr, ℕ, zero, suc, Bool, true, false, ◌||◌, cond, Option, Some, None, is_some, IsSome, List, [], ◌∷◌, refl, sym, ap, ◌∙◌, subst, arith}
use Rattle.std.proofs.lemmas.Bool.{true≢false, cases_lt, lt-ltb}
use Rattle.djvu_base.specs.declared.faults.FaultKind.{FaultKind}
use Rattle.djvu_base.specs.declared.faults.FaultKind.TheVariants as fault
use Rattle.djvu_base.specs.Name.{is_listed}
use Rattle.iff_chunks.specs.Refused.{refused_ids}
use Rattle.include_graph.specs.Included.{chunk_fault, is_include, is_dictionary, misplaced_ids}
use Rattle.layer_compose.specs.declared.layers.Layers.{Layers}
use Rattle.page_decoder.specs.declared.file_reader.FileReader.{FileReader}
use Rattle.page_decoder.specs.Kinds.{ChunkKind, kind_of}
use Rattle.page_decoder.specs.Kinds as kind
use Rattle.page_decoder.specs.Given.{Role, Page, Included, Home, Given}
use Rattle.page_decoder.specs.PageRead.{Drawing, last_layers, Decoded, Left}
use Rattle.page_decoder.specs.Headers.{Head, first_fault, later_fault, page_fault, header_fault}
use Rattle.page_decoder.specs.Kept.{IsReady}
use Rattle.page_decoder.specs.FileReading.{IsBefore}
use Rattle.page_decoder.proofs.Numbering.{number_below}
use Rattle.page_decoder.proofs.Showing.{Shows, shows_on}

some_last : (drawings : List Drawing) → drawings ≢ [] → IsSome (last_layers drawings)
some_last [] some = absurd (some refl)
some_last (drawing ∷ []) some = refl
some_last (drawing ∷ next ∷ drawings) some = some_last (next ∷ drawings) (λ e. let wrong : next ∷ drawings ≡ [] = e in cc)

long_enough : (size : ℕ) → first_fault kind.Info size ≡ None → 5 ≤ size
long_enough size e = elim (cases_lt size 5) [
  | inl low ↦ absurd (clash (sym (ap (λ b. cond b (Some fault.BadInfo) None) (lt-ltb size 5 low)) ∙ e))
  | inr high ↦ high
]
  where
    clash : ◌≡◌ {A = Option FaultKind} (Some fault.BadInfo) None → ⊥
    clash e = cc

first_ready : (of : ChunkKind) (size : ℕ) (layers : Option Layers) → first_fault of size ≡ None → layers ≡ None → IsReady of size layers
first_ready kind.Info size layers e none = (none, long_enough size e)
first_ready kind.Include size layers e none = tt
first_ready kind.Dictionary size layers e none = tt
first_ready kind.Mask size layers e none = absurd (cc)
first_ready kind.Front size layers e none = absurd (cc)
first_ready kind.Back size layers e none = absurd (cc)
first_ready kind.Refused size layers e none = tt
first_ready kind.Passed size layers e none = tt

later_ready : (of : ChunkKind) (size : ℕ) (decoded : Decoded) → later_fault decoded of ≡ None → IsSome decoded.layers → IsReady of size decoded.layers
later_ready kind.Info size decoded e some = absurd (cc)
later_ready kind.Include size decoded e some = tt
later_ready kind.Dictionary size decoded e some = tt
later_ready kind.Mask size decoded e some = some
later_ready kind.Front size decoded e some = some
later_ready kind.Back size decoded e some = some
later_ready kind.Refused size decoded e some = tt
later_ready kind.Passed size decoded e some = tt

page_ready : (home : Home) (left : Left) (head : Head) (chunks : ℕ) → left.chunks ≡ chunks → home.role ≡ Page → page_fault chunks left.decoded head ≡ None
    → Shows home None left → IsReady (kind_of head.id) head.size left.decoded.layers
page_ready home left head zero n page e s = first_ready (kind_of head.id) head.size left.decoded.layers e (s.none n)
page_ready home left head (suc chunks) n page e s =
    let some : left.chunks ≢ 0 = λ none. let wrong : suc chunks ≡ 0 = sym n ∙ none in cc in
    later_ready (kind_of head.id) head.size left.decoded e (subst IsSome (sym s.last) (some_last left.told.drawings (s.some page some)))

-- ---- an included file

either : (a b : Bool) → (a || b) ≡ false → (a ≡ false) × (b ≡ false)
either true b e = absurd (true≢false e)
either false b e = (refl, e)

not_misplaced : (refused misplaced second : Bool)
    → cond refused (Some fault.Unsupported) (cond misplaced (Some fault.Misplaced) (cond second (Some fault.SecondDictionary) None)) ≡ None → misplaced ≡ false
not_misplaced true misplaced second e = absurd (cc)
not_misplaced false true second e = absurd (cc)
not_misplaced false false second e = refl

ready_by : (info include dictionary mask front back refused : Bool) (size : ℕ) (layers : Option Layers)
    → info ≡ false → mask ≡ false → front ≡ false → back ≡ false
    → IsReady (cond info kind.Info (cond include kind.Include (cond dictionary kind.Dictionary (cond mask kind.Mask
    (cond front kind.Front (cond back kind.Back (cond refused kind.Refused kind.Passed))))))) size layers
ready_by true include dictionary mask front back refused size layers a b c d = absurd (true≢false a)
ready_by false true dictionary mask front back refused size layers a b c d = tt
ready_by false false true mask front back refused size layers a b c d = tt
ready_by false false false true front back refused size layers a b c d = absurd (true≢false b)
ready_by false false false false true back refused size layers a b c d = absurd (true≢false c)
ready_by false false false false false true refused size layers a b c d = absurd (true≢false d)
ready_by false false false false false false true size layers a b c d = tt
ready_by false false false false false false false size layers a b c d = tt

included_ready : (has : Bool) (id : List ℕ) (size : ℕ) (layers : Option Layers) → chunk_fault has id ≡ None → IsReady (kind_of id) size layers
included_ready has id size layers e =
    let placed : is_listed misplaced_ids id ≡ false = not_misplaced (is_listed refused_ids id) (is_listed misplaced_ids id) _ e in
    let info = either _ _ placed in
    let mask = either _ _ info.1 in
    let back = either _ _ mask.1 in
    let front = either _ _ back.1 in
    ready_by _ (is_include id) (is_dictionary id) _ _ _ (is_listed refused_ids id) size layers info.0 mask.0 front.0 back.0

role_ready : (role : Role) (home : Home) (left : Left) (head : Head) → home.role ≡ role → header_fault role left head ≡ None → Shows home None left
    → IsReady (kind_of head.id) head.size left.decoded.layers
role_ready Page home left head r e s = page_ready home left head left.chunks refl r e s
role_ready Included home left head r e s = included_ready (is_some left.decoded.own) head.id head.size left.decoded.layers e

pub is_ready : (given : Given) (head : Head) (reader : FileReader) → IsBefore given head reader → IsReady (kind_of head.id) head.size reader.kept.layers
is_ready given head reader b =
    subst (λ layers. IsReady (kind_of head.id) head.size layers) (sym b.keeps.layers_are)
    (role_ready given.home.role given.home b.left head refl b.fine
    (shows_on given.home given.known (number_below given.home.names) b.acts b.left b.on))
