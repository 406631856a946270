-- Steps of resolving: each leaves what all includes come to, whatever more becomes known.
use Rattle.std.proofs.Common.{◌≡◌, ℕ, zero, suc, ◌⊎◌, inl, inr, Bool, true, Option, Some, None, List, [], ◌∷◌, ◌++◌, drop, slice_get, slice_set, refl, sym, ap, ◌∙◌, subst, append_assoc}
use Rattle.std.proofs.lemmas.Bool.{true≢false}
use Rattle.std.proofs.lemmas.List.{append-nil}
use Rattle.bit_plane.specs.Pixels.{Pixels}
use Rattle.djvu_base.specs.declared.faults.Fault.{Fault}
use Rattle.djvu_base.specs.declared.faults.FaultKind.TheVariants as fault
use Rattle.include_graph.specs.declared.outline.Outline.{Outline}
use Rattle.include_graph.specs.declared.verdicts.Verdict.{Verdict}
use Rattle.include_graph.specs.declared.verdicts.Verdict.TheVariants as verdict
use Rattle.include_graph.specs.Graphs.{KnownOn, VerdictOn, same_verdict, was_unknown}
use Rattle.include_graph.specs.Verdicts.{number_of, verdict_of}
use Rattle.page_decoder.specs.Results.{Result, result_of}
use Rattle.page_decoder.specs.Results as result
use Rattle.page_decoder.specs.Given.{Role, Page, Included, Home, Known, KnowsMore}
use Rattle.page_decoder.specs.PageRead.{Ending, NeedOutline, NeedFile, Refused, Include, Decoded, Left, or_else, nothing_decoded}
use Rattle.page_decoder.specs.Read.{Step, ends, refused_at, and_then, at_result, in_files, at_verdict, listing, at_target, resolved, all_resolved}
use Rattle.page_decoder.specs.Resolving.{AtHand, Resolving, with_include, is_marked, with_files, HasPassed, GaveAll, HasMarks, Waits, HasBegun, Resolves, IsResolved, Stops, Needs}

-- ---- what becomes known

pub knows_same : (known : Known) → KnowsMore known known
knows_same known = record { outlines = λ file outline e. e; results = λ file result e. e }

knows_both : (less more most : Known) → KnowsMore less more → KnowsMore more most → KnowsMore less most
knows_both less more most on up = record {
  outlines = λ file outline e. up.outlines file outline (on.outlines file outline e);
  results = λ file result e. up.results file result (on.results file result e);
}

module _ (home : Home) (known more : Known) (on : KnowsMore known more) where
  passed_on : (target : ℕ) (files : List ℕ) (found : Option (List Pixels)) → HasPassed home known target files found
      → HasPassed home more target files found
  passed_on target files found p = record { passed = p.passed; is = λ most up. p.is most (knows_both known more most on up) }

  marks_on : (inherited : Option (List Pixels)) (marks : List Bool) → HasMarks home known inherited marks → HasMarks home more inherited marks
  marks_on inherited marks m target is =
      let g = m target is in
      record { found = g.found; all = passed_on target [] g.found g.all; absorbed = g.absorbed }

  begun_on : (listed : Option AtHand) → HasBegun home known listed → HasBegun home more listed
  begun_on None b = tt
  begun_on (Some hand) b = passed_on hand.target hand.files None b

-- includes that wait do so whatever more becomes known, and those that are resolved as far as this stay so
pub waits_on : (home : Home) (known more : Known) (decoded : Decoded) (it : Resolving) → KnowsMore known more → Waits home known decoded it
    → Waits home more decoded it
waits_on home known more decoded it on w = record {
  inherited = w.inherited;
  listed = w.listed;
  pending = w.pending;
  marks = marks_on home known more on it.inherited it.marks w.marks;
}

pub resolves_on : (home : Home) (known more : Known) (left : Left) (it : Resolving) → KnowsMore known more → Resolves home known left it
    → Resolves home more left it
resolves_on home known more left it on r = record {
  reached = r.reached;
  rest = λ most up. r.rest most (knows_both known more most on up);
  begun = begun_on home known more on it.listed r.begun;
  marks = marks_on home known more on it.inherited it.marks r.marks;
}

-- ---- includes that wait

-- what is kept, by its parts
pub kept_is : (it : Resolving) (inherited : Option (List Pixels)) (listed : Option AtHand) (pending : List Include) (marks : List Bool)
    → it.inherited ≡ inherited → it.listed ≡ listed → it.pending ≡ pending → it.marks ≡ marks
    → it ≡ record { inherited = inherited; listed = listed; pending = pending; marks = marks }
kept_is it inherited listed pending marks a b c d = ap (λ x. record { inherited = x; listed = it.listed; pending = it.pending; marks = it.marks }) a
    ∙ ap (λ x. record { inherited = inherited; listed = x; pending = it.pending; marks = it.marks }) b
    ∙ ap (λ x. record { inherited = inherited; listed = listed; pending = x; marks = it.marks }) c
    ∙ ap (λ x. record { inherited = inherited; listed = listed; pending = pending; marks = x }) d

-- the same marks in another list
pub same_marks : (home : Home) (known : Known) (left : Left) (it : Resolving) (marks : List Bool)
    → ((target : ℕ) → is_marked marks target ≡ is_marked it.marks target) → Resolves home known left it
    → Resolves home known left (record it { marks = marks })
same_marks home known left it marks same r = record {
  reached = r.reached;
  rest = r.rest;
  begun = r.begun;
  marks = λ target m. r.marks target (sym (same target) ∙ m);
}

-- of a file of which nothing was read
pub waits_first : (home : Home) (known : Known) → Waits home known nothing_decoded (record { inherited = None; listed = None; pending = []; marks = [] })
waits_first home known = record { inherited = refl; listed = refl; pending = refl; marks = λ target m. absurd (true≢false (sym m)) }

-- chunks leave the includes as they are
pub waits_along : (home : Home) (known : Known) (decoded other : Decoded) (it : Resolving) → decoded.inherited ≡ other.inherited
    → decoded.pending ≡ other.pending → Waits home known decoded it → Waits home known other it
waits_along home known decoded other it a b w = record {
  inherited = w.inherited ∙ a;
  listed = w.listed;
  pending = w.pending ∙ b;
  marks = w.marks;
}

-- or bring a further one
pub waits_with : (home : Home) (known : Known) (decoded : Decoded) (include : Include) (it : Resolving) → Waits home known decoded it
    → Waits home known (record decoded { pending = decoded.pending ++ include ∷ [] }) (with_include include it)
waits_with home known decoded include it w = record {
  inherited = w.inherited;
  listed = w.listed;
  pending = ap (λ pending. pending ++ include ∷ []) w.pending;
  marks = w.marks;
}

-- before anything is begun
pub resolves_first : (home : Home) (known : Known) (left : Left) (it : Resolving) → Waits home known left.decoded it → Resolves home known left it
resolves_first home known left it w =
    subst (λ i. Resolves home known left i)
    (sym (kept_is it left.decoded.inherited None left.decoded.pending it.marks w.inherited w.listed w.pending refl)) (record {
      reached = left.told.reached;
      rest = λ more on. refl;
      begun = tt;
      marks = subst (λ inherited. HasMarks home known inherited it.marks) w.inherited w.marks;
    })

-- ---- the next include

-- the law of verdicts
abbrev pub VerdictsStay : Type 0
VerdictsStay = (names : List (List ℕ)) (less more : ℕ → Option Outline) (file : ℕ) → KnownOn less more
    → VerdictOn more (verdict_of (record { names = names; outlines = less }) file) (verdict_of (record { names = names; outlines = more }) file)

files_on : (outlines : ℕ → Option Outline) (v w : Verdict) (files : List ℕ) → VerdictOn outlines v w → v ≡ verdict.Files files
    → w ≡ verdict.Files files
files_on outlines v w files (same_verdict e) f = sym e ∙ f
files_on outlines v w files (was_unknown file outline e known) f = absurd (clash (sym e ∙ f))
  where
    clash : verdict.NeedOutline file ≡ verdict.Files files → ⊥
    clash e = cc

listing_on : (role : Role) (home : Home) (known more : Known) (target : ℕ) (files : List ℕ) → VerdictsStay → KnowsMore known more
    → listing role home known target ≡ verdict.Files files → listing role home more target ≡ verdict.Files files
listing_on Page home known more target files stay on e =
    files_on more.outlines (listing Page home known target) (listing Page home more target) files
    (stay home.names known.outlines more.outlines target on.outlines) e
listing_on Included home known more target files stay on e = e

-- the next include waits, and none is at hand
abbrev pub waiting : Resolving → Include → List Include → Resolving
waiting it include pending = record it { listed = None; pending = include ∷ pending }

module _ (home : Home) (known : Known) (left : Left) (it : Resolving) (include : Include) (pending : List Include)
    (r : Resolves home known left (waiting it include pending)) where
  abbrev now : Left
  now = with_files it.inherited r.reached left

  at_number : (number : Option ℕ) → number_of include.name home.names ≡ number → (more : Known) → KnowsMore known more
      → all_resolved home more left ≡ and_then (at_target home more include.offset number now) (resolved home more pending)
  at_number number n more on =
      r.rest more on ∙ ap (λ t. and_then (at_target home more include.offset t now) (resolved home more pending)) n

  -- its target's list comes to hand
  pub comes_to_hand : (target : ℕ) (files : List ℕ) → VerdictsStay → number_of include.name home.names ≡ Some target
      → listing home.role home known target ≡ verdict.Files files
      → Resolves home known left (record it { listed = Some (record { target = target; files = files }); pending = pending })
  comes_to_hand target files stay n e = record {
    reached = r.reached;
    rest = λ more on. at_number (Some target) n more on
        ∙ ap (λ v. and_then (at_verdict more v now) (resolved home more pending)) (listing_on home.role home known more target files stay on e);
    begun = record {
      passed = [];
      is = λ more on inherited reached left.
          ap (λ v. at_verdict more v (with_files inherited reached left)) (listing_on home.role home known more target files stay on e)
          ∙ ap (λ all. in_files more files None (with_files inherited all left)) (sym (append-nil reached));
    };
    marks = r.marks;
  }

  -- its target was resolved before
  pub skips : (target : ℕ) → number_of include.name home.names ≡ Some target → GaveAll home known it.inherited target
      → Resolves home known left (record it { listed = None; pending = pending })
  skips target n g = record {
    reached = r.reached ++ g.all.passed;
    rest = λ more on. at_number (Some target) n more on
        ∙ ap (λ s. and_then s (resolved home more pending)) (g.all.is more on it.inherited r.reached left)
        ∙ ap (λ inherited. resolved home more pending (with_files inherited (r.reached ++ g.all.passed) left)) g.absorbed;
    begun = tt;
    marks = r.marks;
  }

  -- it stops there: no file has the name
  pub stops_missing : number_of include.name home.names ≡ None → Stops home known left (refused_at home fault.MissingInclude include.offset)
  stops_missing n = record { inherited = it.inherited; reached = r.reached; is = at_number None n known (knows_same known) }

  -- at its target's verdict, by the end that it comes to there
  stops_at : (target : ℕ) (v : Verdict) (end : Ending) → number_of include.name home.names ≡ Some target → listing home.role home known target ≡ v
      → at_verdict known v now ≡ ends now end → Stops home known left end
  stops_at target v end n e at = record {
    inherited = it.inherited;
    reached = r.reached;
    is = at_number (Some target) n known (knows_same known)
        ∙ ap (λ w. and_then (at_verdict known w now) (resolved home known pending)) e
        ∙ ap (λ s. and_then s (resolved home known pending)) at;
  }

  pub stops_refused : (target : ℕ) (fault : Fault) → number_of include.name home.names ≡ Some target
      → listing home.role home known target ≡ verdict.Refused fault → Stops home known left (Refused fault)
  stops_refused target fault n e = stops_at target (verdict.Refused fault) (Refused fault) n e refl

  pub needs_outline : (target file : ℕ) → number_of include.name home.names ≡ Some target
      → listing home.role home known target ≡ verdict.NeedOutline file → Needs home known left (NeedOutline file) (waiting it include pending)
  needs_outline target file n e = record {
    stops = stops_at target (verdict.NeedOutline file) (NeedOutline file) n e refl;
    resolves = r;
  }

-- ---- the files at hand

-- the files at hand were passed as far as this, and the last one that was gave this dictionary or none
pub record Passes (home : Home) (known : Known) (left : Left) (it : Resolving) (found : Option (List Pixels)) (hand : AtHand) : Type 0 where
  pub reached : List ℕ
  pub rest : (more : Known) → KnowsMore known more
      → all_resolved home more left ≡ and_then (in_files more hand.files found (with_files it.inherited reached left)) (resolved home more it.pending)
  pub passed : HasPassed home known hand.target hand.files found
  pub marks : HasMarks home known it.inherited it.marks

pub passes_first : (home : Home) (known : Known) (left : Left) (it : Resolving) (hand : AtHand) → Resolves home known left (record it { listed = Some hand })
    → Passes home known left it None hand
passes_first home known left it hand r = record { reached = r.reached; rest = r.rest; passed = r.begun; marks = r.marks }

first_of : (files : List ℕ) (file : ℕ) → slice_get files 0 ≡ Some file → files ≡ file ∷ drop 1 files
first_of [] file e = absurd (clash e)
  where
    clash : ◌≡◌ {A = Option ℕ} None (Some file) → ⊥
    clash h = cc
first_of (first ∷ files) file e = ap (λ f. f ∷ files) (one e)
  where
    one : Some first ≡ Some file → first ≡ file
    one h = cc

-- the first of the files, by what it gives
module _ (home : Home) (known : Known) (left : Left) (it : Resolving) (found : Option (List Pixels)) (hand : AtHand) (file : ℕ)
    (first : slice_get hand.files 0 ≡ Some file) (p : Passes home known left it found hand) where
  on_first : (more : Known) (last : Option (List Pixels)) (now : Left)
      → in_files more hand.files last now ≡ at_result (in_files more (drop 1 hand.files)) file (more.results file) now
  on_first more last now = ap (λ files. in_files more files last now) (first_of hand.files file first)

  abbrev at : Known → Option Result → Step
  at more r = and_then (at_result (in_files more (drop 1 hand.files)) file r (with_files it.inherited p.reached left)) (resolved home more it.pending)

  by : (r : Result) → known.results file ≡ Some r → (more : Known) → KnowsMore known more → all_resolved home more left ≡ at more (Some r)
  by r e more on = p.rest more on
      ∙ ap (λ s. and_then s (resolved home more it.pending)) (on_first more found (with_files it.inherited p.reached left))
      ∙ ap (at more) (on.results file r e)

  -- past the file
  past : (more : Known) (gave : Option (List Pixels)) (inherited : Option (List Pixels)) (reached : List ℕ) (left : Left)
      → at_result (in_files more (drop 1 hand.files)) file (Some (result_of gave)) (with_files inherited reached left)
      ≡ in_files more (drop 1 hand.files) gave (with_files inherited (reached ++ file ∷ []) left)
  past more (Some shapes) inherited reached left = refl
  past more None inherited reached left = refl

  pub passes_file : (gave : Option (List Pixels)) → known.results file ≡ Some (result_of gave)
      → Passes home known left it gave (record hand { files = drop 1 hand.files })
  passes_file gave e = record {
    reached = p.reached ++ file ∷ [];
    rest = λ more on. by (result_of gave) e more on
        ∙ ap (λ s. and_then s (resolved home more it.pending)) (past more gave it.inherited p.reached left);
    passed = record {
      passed = p.passed.passed ++ file ∷ [];
      is = λ more on inherited reached left.
          p.passed.is more on inherited reached left
          ∙ on_first more found (with_files inherited (reached ++ p.passed.passed) left)
          ∙ ap (λ r. at_result (in_files more (drop 1 hand.files)) file r (with_files inherited (reached ++ p.passed.passed) left))
          (on.results file (result_of gave) e)
          ∙ past more gave inherited (reached ++ p.passed.passed) left
          ∙ ap (λ all. in_files more (drop 1 hand.files) gave (with_files inherited all left)) (append_assoc reached p.passed.passed (file ∷ []));
    };
    marks = p.marks;
  }

  pub stops_at_file : (fault : Fault) → known.results file ≡ Some (result.Refused fault) → Stops home known left (Refused fault)
  stops_at_file fault e = record {
    inherited = it.inherited;
    reached = p.reached ++ file ∷ [];
    is = by (result.Refused fault) e known (knows_same known);
  }

  pub needs_file : known.results file ≡ None → Needs home known left (NeedFile file) (record it { listed = Some hand })
  needs_file e = record {
    stops = record {
      inherited = it.inherited;
      reached = p.reached ++ file ∷ [];
      is = p.rest known (knows_same known)
          ∙ ap (λ s. and_then s (resolved home known it.pending)) (on_first known found (with_files it.inherited p.reached left)) ∙ ap (at known) e;
    };
    resolves = record {
      reached = p.reached;
      rest = λ more on. p.rest more on ∙ ap (λ s. and_then s (resolved home more it.pending))
          (on_first more found (with_files it.inherited p.reached left) ∙ sym (on_first more None (with_files it.inherited p.reached left)));
      begun = record {
        passed = p.passed.passed;
        is = λ more on inherited reached left. p.passed.is more on inherited reached left
            ∙ on_first more found (with_files inherited (reached ++ p.passed.passed) left)
            ∙ sym (on_first more None (with_files inherited (reached ++ p.passed.passed) left));
      };
      marks = p.marks;
    };
  }

none_left : (files : List ℕ) → slice_get files 0 ≡ None → files ≡ []
none_left [] e = refl
none_left (first ∷ files) e = absurd (clash e)
  where
    clash : ◌≡◌ {A = Option ℕ} (Some first) None → ⊥
    clash h = cc

marked_before : (marks : List Bool) (target file : ℕ) → is_marked (slice_set marks target true) file ≡ true
    → (file ≡ target) ⊎ (is_marked marks file ≡ true)
marked_before [] target file m = inr m
marked_before (mark ∷ marks) zero zero m = inl refl
marked_before (mark ∷ marks) zero (suc file) m = inr m
marked_before (mark ∷ marks) (suc target) zero m = inr m
marked_before (mark ∷ marks) (suc target) (suc file) m = elim (marked_before marks target file m) [
  | inl e ↦ inl (ap suc e)
  | inr e ↦ inr e
]

-- a dictionary is inherited once
inherits_once : (inherited found : Option (List Pixels)) → or_else (or_else inherited found) found ≡ or_else inherited found
inherits_once (Some shapes) found = refl
inherits_once None (Some shapes) = refl
inherits_once None None = refl

absorbs : (inherited found gave : Option (List Pixels)) → or_else inherited gave ≡ inherited
    → or_else (or_else inherited found) gave ≡ or_else inherited found
absorbs (Some shapes) found gave e = refl
absorbs None (Some shapes) gave e = refl
absorbs None None gave e = e

-- the last file gave this dictionary or none
pub passes_last : (home : Home) (known : Known) (left : Left) (it : Resolving) (found : Option (List Pixels)) (hand : AtHand)
    → slice_get hand.files 0 ≡ None → Passes home known left it found hand
    → Resolves home known left (record {
      inherited = or_else it.inherited found;
      listed = None;
      pending = it.pending;
      marks = slice_set it.marks hand.target true;
    })
passes_last home known left it found hand last p = record {
  reached = p.reached;
  rest = λ more on. p.rest more on
      ∙ ap (λ files. and_then (in_files more files found (with_files it.inherited p.reached left)) (resolved home more it.pending))
      (none_left hand.files last);
  begun = tt;
  marks = λ file m. elim (marked_before it.marks hand.target file m) [
    | inl e ↦ subst (λ target. GaveAll home known (or_else it.inherited found) target) (sym e) (record {
      found = found;
      all = subst (λ files. HasPassed home known hand.target files found) (none_left hand.files last) p.passed;
      absorbed = inherits_once it.inherited found;
    })
    | inr e ↦ let g = p.marks file e in
        record { found = g.found; all = g.all; absorbed = absorbs it.inherited found g.found g.absorbed }
  ];
}

-- ---- the end

pub all_passed : (home : Home) (known : Known) (left : Left) (it : Resolving) → Resolves home known left (record it { listed = None; pending = [] })
    → IsResolved home known left (record it { listed = None; pending = [] })
all_passed home known left it r = record {
  reached = r.reached;
  is = r.rest;
  waits = record { inherited = refl; listed = refl; pending = refl; marks = r.marks };
}
