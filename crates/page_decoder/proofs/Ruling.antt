-- One induction over all acts: what holds at the start and is kept by each act holds where the reading ends.
use Rattle.std.proofs.Common.{◌≡◌, ◌<◌, ℕ, zero, suc, Bool, true, false, ◌||◌, eqb, Option, Some, None, ◌⊎◌, inl, inr, List, [], ◌∷◌, ◌++◌, length, refl, sym, ap, ◌∙◌, subst, append_assoc, arith}
use Rattle.std.specs.List.{AllByRecursion, Contains}
use Rattle.std.proofs.lemmas.Bool.{eqb-true, eq-eqb, true≢false}
use Rattle.std.proofs.lemmas.List.Elements.{Contains-append_left, Contains-append_right, Contains-push, Contains-push_cases}
use Rattle.std.proofs.lemmas.List.Folds.{list_any-append}
use Rattle.djvu_base.specs.declared.faults.Fault.{Fault}
use Rattle.djvu_base.specs.declared.faults.FaultKind.{FaultKind}
use Rattle.djvu_base.specs.declared.faults.FaultKind.TheVariants as fault
use Rattle.bit_plane.specs.Pixels.{Pixels}
use Rattle.iff_chunks.specs.Chunks.{Form, Chunk, Chunks, Tail, InHead, InHeader, InData, InPad, FormEnd, Broken}
use Rattle.iw44_image.specs.Layer.{Data, data_of}
use Rattle.include_graph.specs.declared.verdicts.Verdict.{Verdict}
use Rattle.include_graph.specs.declared.verdicts.Verdict.TheVariants as verdict
use Rattle.include_graph.specs.Verdicts.{number_of, is_among}
use Rattle.page_decoder.specs.Kinds.{ChunkKind, kind_of}
use Rattle.page_decoder.specs.Kinds as kind
use Rattle.page_decoder.specs.Results.{Result, Dictionary, Nothing}
use Rattle.page_decoder.specs.Results as result
use Rattle.page_decoder.specs.Given.{Role, Page, Included, Home, Known}
use Rattle.page_decoder.specs.PageRead.{Ending, Finished, Refused, NeedBytes, NeedOutline, NeedFile, Include, Decoded, Left, PageRead}
use Rattle.page_decoder.specs.Headers.{Head, head_of, form_fault, header_fault}
use Rattle.page_decoder.specs.ChunkData.{Outcome, Leaves, Unfinished, Fails, came}
use Rattle.page_decoder.specs.Acts.{Act, Kind, Reads, Close, Waits, Breaks, Over, form_acts, complete_acts, tail_acts, acts_of}
use Rattle.page_decoder.specs.Read.{Step, On, Ends, and_then, after, reaching, counting, inheriting, nothing_pending, with_chunk, refused_at, at_result, in_files, at_verdict, listing, at_target, at_include, resolved, all_resolved, resolved_before, at_form, at_header, at_outcome, at_data, at_act, finished, at_over, at_close, read_from, step_through}
use Rattle.page_decoder.specs.Needs.{IsGood, IsTarget, IsNext, IsUnknown}

-- of the file's chunks this is known, by their headers and data
abbrev pub IsFine : (Head → Data → Type 0) → Act → Type 0
IsFine fine (Kind kind) = Unit {0}
IsFine fine (Reads head given) = fine head given

-- what holds of what is left (I), between chunks or behind the header of one, and where the reading ends (P), where something is known
-- of the file's chunks and of the includes that are pending
pub record Rules (home : Home) (known : Known) (fine : Head → Data → Type 0) (named : Include → Type 0) (I : Option Head → Left → Type 0)
    (P : Left → Ending → Type 0) : Type 0 where
  -- a header that is right
  pub begins : (head : Head) (left : Left) → header_fault home.role left head ≡ None → I None left → I (Some head) left
  -- data that are complete, or not
  pub chunk : (head : Head) (given : Data) (decoded : Decoded) (left : Left) → fine head given
      → (came home.table head given left.decoded).outcome ≡ Leaves decoded
      → I (Some head) left → I None (with_chunk head (came home.table head given left.decoded).decisions decoded left)
  pub part : (head : Head) (n : ℕ) (left : Left) → I (Some head) left → I None (counting n left)
  pub wrong : (head : Head) (n : ℕ) (kind : FaultKind) (offset : ℕ) (left : Left) → I (Some head) left → P (counting n left) (refused_at home kind offset)
  -- includes
  pub pending : (at : Option Head) (left : Left) → I at left → AllByRecursion named left.decoded.pending
  pub reaches : (at : Option Head) (left : Left) (file : ℕ) (it : Result) → known.results file ≡ Some it → I at left → I at (reaching file left)
  pub inherits : (at : Option Head) (found : Option (List Pixels)) (left : Left) → I at left → I at (inheriting found left)
  pub none_left : (at : Option Head) (left : Left) → I at left → I at (nothing_pending left)
  pub unknown : (at : Option Head) (left : Left) (file : ℕ) → IsUnknown home known left.decoded.pending file → I at left → P left (NeedOutline file)
  pub lacks : (at : Option Head) (left : Left) (file : ℕ) (next : IsNext home known left.decoded.pending file) → named next.of_include.include → I at left
      → P (reaching file left) (NeedFile file)
  pub graph_fault : (at : Option Head) (left : Left) (target : ℕ) (fault : Fault) → target < length home.names
      → listing home.role home known target ≡ verdict.Refused fault → I at left → P left (Refused fault)
  pub file_fault : (at : Option Head) (left : Left) (file : ℕ) (fault : Fault) (target : ℕ) (before others : List ℕ) → target < length home.names
      → listing home.role home known target ≡ verdict.Files (before ++ file ∷ others) → known.results file ≡ Some (result.Refused fault) → I at left
      → P (reaching file left) (Refused fault)
  pub own_fault : (at : Option Head) (kind : FaultKind) (offset : ℕ) (left : Left) → I at left → P left (refused_at home kind offset)
  pub finishes : (left : Left) → (home.role ≡ Page → left.chunks ≡ 0 → ⊥) → I None left → P left Finished

pub or_cases : (a b : Bool) → (a || b) ≡ true → (a ≡ true) ⊎ (b ≡ true)
or_cases true b e = inl refl
or_cases false b e = inr e

pub or_right : (a b : Bool) → b ≡ true → (a || b) ≡ true
or_right true b e = refl
or_right false b e = e

eqb_same : (n : ℕ) → eqb n n ≡ true
eqb_same n = eq-eqb n n refl

pub among_behind : (file : ℕ) (before others : List ℕ) → is_among file (before ++ file ∷ others) ≡ true
among_behind file [] others = ap (λ b. b || is_among file others) (eqb_same file)
among_behind file (first ∷ before) others = or_right (eqb file first) (is_among file (before ++ file ∷ others)) (among_behind file before others)

pub among_last : (f g : ℕ) (gs : List ℕ) → is_among f (gs ++ g ∷ []) ≡ true → (is_among f gs ≡ true) ⊎ (f ≡ g)
among_last f g gs m = by (or_cases (is_among f gs) (is_among f (g ∷ [])) (sym (list_any-append (eqb f) gs (g ∷ [])) ∙ m))
  where
    last : (eqb f g ≡ true) ⊎ (false ≡ true) → f ≡ g
    last (inl e) = eqb-true f g e
    last (inr e) = absurd (true≢false (sym e))

    by : (is_among f gs ≡ true) ⊎ (is_among f (g ∷ []) ≡ true) → (is_among f gs ≡ true) ⊎ (f ≡ g)
    by (inl e) = inl e
    by (inr e) = inr (last (or_cases (eqb f g) false e))

good_last : (results : ℕ → Option Result) (before : List ℕ) (file : ℕ) → ((other : ℕ) → is_among other before ≡ true → IsGood results other)
    → IsGood results file
    → (other : ℕ) → is_among other (before ++ file ∷ []) ≡ true → IsGood results other
good_last results before file all last other m = by (among_last other file before m)
  where
    by : (is_among other before ≡ true) ⊎ (other ≡ file) → IsGood results other
    by (inl e) = all other e
    by (inr e) = subst (λ h. IsGood results h) (sym e) last

-- members of lists

pub none_in : {A : Type 0} (x : A) → Contains [] x → ⊥
none_in x has = let below = has.1 in omega (arith, below)

pub one_in : {A : Type 0} (x y : A) → Contains (x ∷ []) y → x ≡ y
one_in x y has = by (Contains-push_cases [] x y has)
  where
    by : Contains [] y ⊎ (x ≡ y) → x ≡ y
    by (inl none) = absurd (none_in y none)
    by (inr same) = same

pub first_in : {A : Type 0} (x : A) (xs : List A) → Contains (x ∷ xs) x
first_in x xs = Contains-append_left (x ∷ []) xs x (Contains-push [] x)

pub later_in : {A : Type 0} (x y : A) (xs : List A) → Contains xs y → Contains (x ∷ xs) y
later_in x y xs has = Contains-append_right (x ∷ []) xs y has

-- includes change no count of chunks

abbrev Keeps : ℕ → Step → Type 0
Keeps chunks (On left) = left.chunks ≡ chunks
Keeps chunks (Ends read) = Unit {0}

then_keep : (chunks : ℕ) (s : Step) (next : Left → Step) → ((left : Left) → Keeps left.chunks (next left)) → Keeps chunks s → Keeps chunks (and_then s next)
then_keep chunks (On left) next all k = subst (λ n. Keeps n (next left)) k (all left)
then_keep chunks (Ends read) next all k = tt

result_keep : (next : Option (List Pixels) → Left → Step) (file : ℕ) (it : Option Result) (left : Left)
    → ((found : Option (List Pixels)) (now : Left) → Keeps now.chunks (next found now)) → Keeps left.chunks (at_result next file it left)
result_keep next file None left all = tt
result_keep next file (Some (Dictionary shapes)) left all = all (Some shapes) (reaching file left)
result_keep next file (Some Nothing) left all = all None (reaching file left)
result_keep next file (Some (result.Refused fault)) left all = tt

files_keep : (known : Known) (files : List ℕ) (found : Option (List Pixels)) (left : Left) → Keeps left.chunks (in_files known files found left)
files_keep known [] found left = refl
files_keep known (file ∷ files) found left = result_keep (in_files known files) file (known.results file) left (files_keep known files)

verdict_keep : (known : Known) (it : Verdict) (left : Left) → Keeps left.chunks (at_verdict known it left)
verdict_keep known (verdict.Files files) left = files_keep known files None left
verdict_keep known (verdict.NeedOutline file) left = tt
verdict_keep known (verdict.Refused fault) left = tt

target_keep : (home : Home) (known : Known) (offset : ℕ) (target : Option ℕ) (left : Left) → Keeps left.chunks (at_target home known offset target left)
target_keep home known offset None left = tt
target_keep home known offset (Some target) left = verdict_keep known (listing home.role home known target) left

resolved_keep : (home : Home) (known : Known) (includes : List Include) (left : Left) → Keeps left.chunks (resolved home known includes left)
resolved_keep home known [] left = refl
resolved_keep home known (include ∷ includes) left =
    then_keep left.chunks (at_include home known include left) (resolved home known includes) (resolved_keep home known includes)
    (target_keep home known include.offset (number_of include.name home.names) left)

abbrev pub Holds : (Option Head → Left → Type 0) → (Left → Ending → Type 0) → Option Head → Step → Type 0
Holds I P at (On left) = I at left
Holds I P at (Ends read) = P read.left read.end

module _ (home : Home) (known : Known) (fine : Head → Data → Type 0) (named : Include → Type 0) (I : Option Head → Left → Type 0)
    (P : Left → Ending → Type 0) (rules : Rules home known fine named I P)
    (number_below : (name : List ℕ) (target : ℕ) → number_of name home.names ≡ Some target → target < length home.names) where
  then_holds : (at now : Option Head) (s : Step) (next : Left → Step) → ((left : Left) → I at left → Holds I P now (next left)) → Holds I P at s
      → Holds I P now (and_then s next)
  then_holds at now (On left) next all h = all left h
  then_holds at now (Ends read) next all h = h

  after_holds : (at : Option Head) (s : Step) (next : Left → PageRead) → ((left : Left) → I at left → P (next left).left (next left).end) → Holds I P at s
      → P (after s next).left (after s next).end
  after_holds at (On left) next all h = all left h
  after_holds at (Ends read) next all h = h

  -- what is pending stays so, until all of it is resolved
  abbrev HoldsWith : List Include → Option Head → Step → Type 0
  HoldsWith pending at (On left) = I at left × (left.decoded.pending ≡ pending)
  HoldsWith pending at (Ends read) = P read.left read.end

  with_holds : (pending : List Include) (at now : Option Head) (s : Step) (next : Left → Step)
      → ((left : Left) → I at left → left.decoded.pending ≡ pending → Holds I P now (next left)) → HoldsWith pending at s → Holds I P now (and_then s next)
  with_holds pending at now (On left) next all h = all left h.0 h.1
  with_holds pending at now (Ends read) next all h = h

  -- a target of an include, of which this is known
  abbrev Asked : List Include → ℕ → Type 0
  Asked pending target = (it : IsTarget home.names pending target) × named it.include

  asked_now : (pending : List Include) (target : ℕ) (left : Left) → left.decoded.pending ≡ pending → Asked pending target → Asked left.decoded.pending target
  asked_now pending target left p asked = subst (λ l. Asked l target) (sym p) asked

  -- the files of a target's list, behind those that aren't refused
  files_hold : (pending : List Include) (at : Option Head) (target : ℕ) → Asked pending target → (before files : List ℕ) (found : Option (List Pixels))
      (left : Left) → listing home.role home known target ≡ verdict.Files (before ++ files)
      → ((other : ℕ) → is_among other before ≡ true → IsGood known.results other) → left.decoded.pending ≡ pending → I at left
      → HoldsWith pending at (in_files known files found left)
  files_hold pending at target asked before [] found left v good p i = (rules.inherits at found left i, p)
  files_hold pending at target asked before (file ∷ files) found left v good p i =
      by (known.results file) refl
      (λ it e fine now. files_hold pending at target asked (before ++ file ∷ []) files now (reaching file left)
      (v ∙ ap verdict.Files (sym (append_assoc before (file ∷ []) files)))
      (good_last known.results before file good (record { result = it; known = e; good = fine })) p (rules.reaches at left file it e i))
    where
      by : (there : Option Result) → known.results file ≡ there
          → ((it : Result) → known.results file ≡ Some it → ((fault : Fault) → it ≡ result.Refused fault → ⊥) → (now : Option (List Pixels))
          → HoldsWith pending at (in_files known files now (reaching file left)))
          → HoldsWith pending at (at_result (in_files known files) file there left)
      by None e next =
          let now = asked_now pending target left p asked in
          rules.lacks at left file
          (record { target = target; of_include = now.0; before = before; others = files; list = v; good = good; lacking = e }) now.1 i
      by (Some (Dictionary shapes)) e next = next (Dictionary shapes) e (λ fault w. cc) (Some shapes)
      by (Some Nothing) e next = next Nothing e (λ fault w. cc) None
      by (Some (result.Refused fault)) e next = rules.file_fault at left file fault target before files asked.0.below v e i

  verdict_holds : (pending : List Include) (at : Option Head) (target : ℕ) → Asked pending target → (it : Verdict) (left : Left)
      → listing home.role home known target ≡ it → left.decoded.pending ≡ pending → I at left → HoldsWith pending at (at_verdict known it left)
  verdict_holds pending at target asked (verdict.Files files) left v p i =
      files_hold pending at target asked [] files None left v (λ other m. absurd (true≢false (sym m))) p i
  verdict_holds pending at target asked (verdict.NeedOutline file) left v p i =
      rules.unknown at left file (record { target = target; of_include = (asked_now pending target left p asked).0; list = v }) i
  verdict_holds pending at target asked (verdict.Refused fault) left v p i = rules.graph_fault at left target fault asked.0.below v i

  target_holds : (pending : List Include) (at : Option Head) (include : Include) (target : Option ℕ) (left : Left) → Contains pending include
      → named include → number_of include.name home.names ≡ target → left.decoded.pending ≡ pending → I at left
      → HoldsWith pending at (at_target home known include.offset target left)
  target_holds pending at include None left has n m p i = rules.own_fault at fault.MissingInclude include.offset left i
  target_holds pending at include (Some target) left has n m p i =
      verdict_holds pending at target (record { include = include; is_pending = has; number = m; below = number_below include.name target m }, n)
      (listing home.role home known target) left refl p i

  resolved_holds : (pending : List Include) (at : Option Head) (includes : List Include) (left : Left) → AllByRecursion named includes
      → ((include : Include) → Contains includes include → Contains pending include) → left.decoded.pending ≡ pending → I at left
      → Holds I P at (resolved home known includes left)
  resolved_holds pending at [] left all has p i = rules.none_left at left i
  resolved_holds pending at (include ∷ includes) left all has p i =
      with_holds pending at at (at_include home known include left) (resolved home known includes)
      (λ now j q. resolved_holds pending at includes now all.1 (λ other h. has other (later_in include other includes h)) q j)
      (target_holds pending at include (number_of include.name home.names) left (has include (first_in include includes)) all.0 refl p i)

  all_hold : (at : Option Head) (left : Left) → I at left → Holds I P at (all_resolved home known left)
  all_hold at left i = resolved_holds left.decoded.pending at left.decoded.pending left (rules.pending at left i) (λ include h. h) refl i

  form_holds : (found : Option FaultKind) (left : Left) → I None left → Holds I P None (at_form home found left)
  form_holds (Some kind) left i = rules.own_fault None kind 0 left i
  form_holds None left i = i

  before_holds : (of : ChunkKind) (at : Option Head) (left : Left) → I at left → Holds I P at (resolved_before of home known left)
  before_holds kind.Info at left i = i
  before_holds kind.Include at left i = i
  before_holds kind.Dictionary at left i = all_hold at left i
  before_holds kind.Mask at left i = all_hold at left i
  before_holds kind.Front at left i = i
  before_holds kind.Back at left i = i
  before_holds kind.Refused at left i = i
  before_holds kind.Passed at left i = i

  pub header_holds : (head : Head) (found : Option FaultKind) (left : Left) → header_fault home.role left head ≡ found → I None left
      → Holds I P (Some head) (at_header home known head found left)
  header_holds head (Some kind) left e i = rules.own_fault None kind head.offset left i
  header_holds head None left e i = before_holds (kind_of head.id) (Some head) left (rules.begins head left e i)

  data_holds : (head : Head) (given : Data) (outcome : Outcome) (left : Left) → fine head given
      → (came home.table head given left.decoded).outcome ≡ outcome → I (Some head) left
      → Holds I P None (at_outcome home head (came home.table head given left.decoded).decisions outcome left)
  data_holds head given (Leaves decoded) left f e i = rules.chunk head given decoded left f e i
  data_holds head given Unfinished left f e i = rules.part head (came home.table head given left.decoded).decisions left i
  data_holds head given (Fails kind) left f e i = rules.wrong head (came home.table head given left.decoded).decisions kind head.offset left i

  pub act_holds : (act : Act) (left : Left) → IsFine fine act → I None left → Holds I P None (at_act home known act left)
  act_holds (Kind kind) left f i = form_holds (form_fault home.role kind) left i
  act_holds (Reads head given) left f i =
      let found = header_fault home.role left head in
      then_holds (Some head) None (at_header home known head found left) (at_data home head given)
      (λ now j. data_holds head given (came home.table head given now.decoded).outcome now f refl j) (header_holds head found left refl i)

  pub through_holds : (acts : List Act) (left : Left) → AllByRecursion (IsFine fine) acts → I None left → Holds I P None (step_through home known acts left)
  through_holds [] left all i = i
  through_holds (act ∷ acts) left all i =
      then_holds None None (at_act home known act left) (step_through home known acts) (λ now j. through_holds acts now all.1 j) (act_holds act left all.0 i)

  last_holds : (s : Step) (chunks : ℕ) → Holds I P None s → Keeps chunks s → (home.role ≡ Page → chunks ≡ 0 → ⊥)
      → P (after s finished).left (after s finished).end
  last_holds (On left) chunks h k some = rules.finishes left (λ r e. some r (sym k ∙ e)) h
  last_holds (Ends read) chunks h k some = h

  over_holds : (role : Role) (chunks origin : ℕ) (left : Left) → home.role ≡ role → left.chunks ≡ chunks → I None left
      → P (at_over role chunks home known origin left).left (at_over role chunks home known origin left).end
  over_holds Page zero origin left r e i = rules.own_fault None fault.NoInfo origin left i
  over_holds Page (suc chunks) origin left r e i =
      last_holds (all_resolved home known left) left.chunks (all_hold None left i) (resolved_keep home known left.decoded.pending left)
      (λ role none. let wrong : suc chunks ≡ 0 = sym e ∙ none in cc)
  over_holds Included chunks origin left r e i =
      last_holds (all_resolved home known left) left.chunks (all_hold None left i) (resolved_keep home known left.decoded.pending left)
      (λ role none. let wrong : Included ≡ Page = sym r ∙ role in cc)

  close_holds : (close : Close) → (close ≡ Waits → (left : Left) → I None left → P left NeedBytes) → (left : Left) → I None left
      → P (at_close home known close left).left (at_close home known close left).end
  close_holds Waits waits left i = waits refl left i
  close_holds (Breaks kind offset) waits left i = rules.own_fault None kind offset left i
  close_holds (Over origin) waits left i = over_holds home.role left.chunks origin left refl refl i

  pub from_holds : (close : Close) → (close ≡ Waits → (left : Left) → I None left → P left NeedBytes) → (acts : List Act) (left : Left)
      → AllByRecursion (IsFine fine) acts → I None left → P (read_from home known close acts left).left (read_from home known close acts left).end
  from_holds close waits [] left all i = close_holds close waits left i
  from_holds close waits (act ∷ acts) left all i =
      after_holds None (at_act home known act left) (read_from home known close acts) (λ now j. from_holds close waits acts now all.1 j)
      (act_holds act left all.0 i)

-- the acts of a file, by its chunks

abbrev pub IsComplete : (Head → Data → Type 0) → Chunk → Type 0
IsComplete fine chunk = fine (head_of chunk) (data_of chunk.bytes true)

complete_fine : (fine : Head → Data → Type 0) (whole : List Chunk) (acts : List Act) → AllByRecursion (IsComplete fine) whole
    → AllByRecursion (IsFine fine) acts
    → AllByRecursion (IsFine fine) (complete_acts whole ++ acts)
complete_fine fine [] acts all rest = rest
complete_fine fine (chunk ∷ whole) acts all rest = (all.0, complete_fine fine whole acts all.1 rest)

tail_fine : (fine : Head → Data → Type 0) (tail : Tail) → ((chunk : Chunk) → fine (head_of chunk) (data_of chunk.bytes false))
    → AllByRecursion (IsFine fine) (tail_acts tail)
tail_fine fine InHead part = tt
tail_fine fine (InHeader offset bytes) part = tt
tail_fine fine (InData chunk) part = (part chunk, tt)
tail_fine fine (InPad offset is_last) part = tt
tail_fine fine FormEnd part = tt
tail_fine fine (Broken kind offset) part = tt

form_fine : (fine : Head → Data → Type 0) (form : Option Form) (acts : List Act) → AllByRecursion (IsFine fine) acts
    → AllByRecursion (IsFine fine) (form_acts form ++ acts)
form_fine fine None acts all = all
form_fine fine (Some form) acts all = (tt, all)

pub acts_fine : (fine : Head → Data → Type 0) (chunks : Chunks) → AllByRecursion (IsComplete fine) chunks.whole
    → ((chunk : Chunk) → fine (head_of chunk) (data_of chunk.bytes false)) → AllByRecursion (IsFine fine) (acts_of chunks)
acts_fine fine chunks all part =
    form_fine fine chunks.form (complete_acts chunks.whole ++ tail_acts chunks.tail)
    (complete_fine fine chunks.whole (tail_acts chunks.tail) all (tail_fine fine chunks.tail part))

-- where nothing is known of chunks and includes
abbrev pub any_chunk : Head → Data → Type 0
any_chunk head given = Unit {0}

abbrev pub any_include : Include → Type 0
any_include include = Unit {0}

pub any_acts : (acts : List Act) → AllByRecursion (IsFine any_chunk) acts
any_acts [] = tt
any_acts (Kind kind ∷ acts) = (tt, any_acts acts)
any_acts (Reads head given ∷ acts) = (tt, any_acts acts)

pub any_includes : (includes : List Include) → AllByRecursion any_include includes
any_includes [] = tt
any_includes (include ∷ includes) = (tt, any_includes includes)
