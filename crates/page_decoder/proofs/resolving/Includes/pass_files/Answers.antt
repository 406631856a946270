use Rattle.std.proofs.Common.{ℕ, List, ◌≡◌, None, drop, slice_set, true, sym, ap, subst, ◌∙◌}
use Rattle.page_decoder.specs.PageRead.{or_else}
use Rattle.page_decoder.specs.Resolving.{AtHand, Resolving, known_of, gift_of, Resolves}
use Rattle.page_decoder.proofs.ResolveSteps.{Passes, kept_is, passes_file, stops_at_file, needs_file, passes_last}
use Rattle.page_decoder.proofs.resolving.Includes.pass_files.Goals as goal

hand_is : (hand : AtHand) (target : ℕ) (files : List ℕ) → hand.target ≡ target → hand.files ≡ files
    → hand ≡ record { target = target; files = files }
hand_is hand target files a b = ap (λ x. record { target = x; files = hand.files }) a ∙ ap (λ x. record { target = target; files = x }) b

pub files-preserved : goal.files-preserved
files-preserved c = record {
  passes = λ home outlines left r.
      let it : Resolving = record {
        inherited = c.files.self-inside.dictionary;
        listed = None;
        pending = drop c.files.self-inside.begun c.files.self-inside.read.items;
        marks = c.files.self-inside.resolved.items;
      } in
      let known = known_of outlines c.args.results.now in
      let passes = c.files.invariant.passes home outlines left r in
      subst (λ hand. Passes home known left it c.in-Gives.dictionary hand)
      (sym (hand_is c.pass.new.self c.files.listed.target (drop 1 c.files.listed.files) c.pass.ensures.target c.pass.ensures.files))
      (passes_file home known left it c.files.found c.files.listed c.in-Some-next.file (sym c.next.ensures ∙ c.in-Some-next.is) passes c.in-Gives.dictionary
      (sym c.in_ok-dictionary.ensures ∙ ap gift_of c.in-Gives.is));
  pending = c.files.invariant.pending;
  at_hand = c.files.invariant.at_hand;
  begun = c.files.invariant.begun;
}

pub returns-in-Unknown-clause-resolves : goal.returns-in-Unknown-clause-resolves
returns-in-Unknown-clause-resolves c = λ home outlines left r.
    let it : Resolving = record {
      inherited = c.files.self-inside.dictionary;
      listed = None;
      pending = drop c.files.self-inside.begun c.files.self-inside.read.items;
      marks = c.files.self-inside.resolved.items;
    } in
    let known = known_of outlines c.args.results.now in
    let passes = c.files.invariant.passes home outlines left r in
    needs_file home known left it c.files.found c.files.listed c.in-Some-next.file (sym c.next.ensures ∙ c.in-Some-next.is) passes
    (sym c.in_ok-dictionary.ensures ∙ ap gift_of c.in-Unknown.is)

pub returns-in-Refused-clause-resolves : goal.returns-in-Refused-clause-resolves
returns-in-Refused-clause-resolves c = λ home outlines left r.
    let it : Resolving = record {
      inherited = c.files.self-inside.dictionary;
      listed = None;
      pending = drop c.files.self-inside.begun c.files.self-inside.read.items;
      marks = c.files.self-inside.resolved.items;
    } in
    let known = known_of outlines c.args.results.now in
    let passes = c.files.invariant.passes home outlines left r in
    stops_at_file home known left it c.files.found c.files.listed c.in-Some-next.file (sym c.next.ensures ∙ c.in-Some-next.is) passes c.in-Refused.fault
    (sym c.in_ok-dictionary.ensures ∙ ap gift_of c.in-Refused.is)

pub returns-clause-resolves : goal.returns-clause-resolves
returns-clause-resolves c = λ home outlines left r.
    let it : Resolving = record {
      inherited = c.files.self-inside.dictionary;
      listed = None;
      pending = drop c.files.self-inside.begun c.files.self-inside.read.items;
      marks = c.files.self-inside.resolved.items;
    } in
    let known = known_of outlines c.args.results.now in
    let passes = c.files.invariant.passes home outlines left r in
    subst (λ it. Resolves home known left it)
    (sym (kept_is c.mark.new.self (or_else it.inherited c.files.found) None it.pending (slice_set it.marks c.files.listed.target true)
    (c.mark.ensures.inherited ∙ c.inherit.ensures.inherited)
    (c.mark.ensures.listed ∙ c.inherit.ensures.listed ∙ c.files.invariant.at_hand)
    (c.mark.ensures.pending ∙ c.inherit.ensures.pending)
    (c.mark.ensures.marks ∙ ap (λ marks. slice_set marks c.target.result true) c.inherit.ensures.marks
    ∙ ap (λ target. slice_set it.marks target true) c.target.ensures)))
    (passes_last home known left it c.files.found c.files.listed (sym c.next.ensures ∙ c.in_default-next.is) passes)
