use Rattle.std.proofs.Common.{None, Some, ◌∷◌, drop, refl, sym, ap, subst, ◌∙◌, map}
use Rattle.include_graph.specs.Verdicts.{outline_in}
use Rattle.page_decoder.specs.PageRead.{Include, NeedOutline}
use Rattle.page_decoder.specs.Resolving.{AtHand, known_of, home_of, Resolves, Answers, Needs}
use Rattle.page_decoder.proofs.Numbering.{number_below}
use Rattle.page_decoder.proofs.ResolveSteps.{kept_is, same_marks, comes_to_hand, skips, stops_missing, stops_refused, needs_outline}
use Rattle.page_decoder.proofs.resolving.Includes.list_next.Goals as goal

pub list_of-requires-clause-below : goal.list_of-requires-clause-below
list_of-requires-clause-below c = number_below c.args.names.now _ c.in-Some.target (sym c.number_of.ensures ∙ c.in-Some.is)

pub returns-in_default-clause-resolves : goal.returns-in_default-clause-resolves
returns-in_default-clause-resolves c = λ table results left r.
    let home = home_of c.args.role table c.args.names.now c.args.file in
    let known = known_of (map outline_in c.args.outlines.now) results in
    let it = c.args.self.now in
    let pending = drop 1 it.pending in
    let include : Include = record { name = c.include.inside.target; offset = c.include.inside.place } in
    let e = kept_is it it.inherited None (include ∷ pending) it.marks refl c.requires.passed
    (c.next-include.ensures ∙ ap (λ i. i ∷ pending) (sym c.include.view_is)) refl in
    let waits = subst (λ it. Resolves home known left it) e r in
    subst (λ stop. Answers home known left stop it) (sym c.missing.ensures)
    (stops_missing home known left it include pending waits (sym c.number_of.ensures ∙ c.in_default.is))

pub returns-then-is_marked-clause-resolves : goal.returns-then-is_marked-clause-resolves
returns-then-is_marked-clause-resolves c = λ table results left r.
    let home = home_of c.args.role table c.args.names.now c.args.file in
    let known = known_of (map outline_in c.args.outlines.now) results in
    let it = c.args.self.now in
    let pending = drop 1 it.pending in
    let include : Include = record { name = c.include.inside.target; offset = c.include.inside.place } in
    let e = kept_is it it.inherited None (include ∷ pending) it.marks refl c.requires.passed
    (c.next-include.ensures ∙ ap (λ i. i ∷ pending) (sym c.include.view_is)) refl in
    let waits = subst (λ it. Resolves home known left it) e r in
    subst (λ it. Resolves home known left it)
    (sym (kept_is c.skip.new.self it.inherited None pending it.marks c.skip.ensures.inherited (c.skip.ensures.listed ∙ c.requires.passed)
    c.skip.ensures.pending c.skip.ensures.marks))
    (skips home known left it include pending waits c.in-Some.target (sym c.number_of.ensures ∙ c.in-Some.is)
    (r.marks c.in-Some.target (sym c.is_marked.ensures ∙ c.if-is_marked.true)))

pub returns-in_ok-make_marks-in-Files-clause-resolves : goal.returns-in_ok-make_marks-in-Files-clause-resolves
returns-in_ok-make_marks-in-Files-clause-resolves c = λ table results left r.
    let home = home_of c.args.role table c.args.names.now c.args.file in
    let known = known_of (map outline_in c.args.outlines.now) results in
    let it = c.args.self.now in
    let pending = drop 1 it.pending in
    let include : Include = record { name = c.include.inside.target; offset = c.include.inside.place } in
    let e = kept_is it it.inherited None (include ∷ pending) it.marks refl c.requires.passed
    (c.next-include.ensures ∙ ap (λ i. i ∷ pending) (sym c.include.view_is)) refl in
    let waits = subst (λ it. Resolves home known left it) e r in
    let hand : AtHand = record { target = c.in-Some.target; files = c.in-Files.files } in
    let marks = c.make_marks.new.self.marks in
    let marked = same_marks home known left (record it { listed = None; pending = include ∷ pending }) marks c.make_marks.ensures.marks waits in
    subst (λ it. Resolves home known left it)
    (sym (kept_is c.begin.new.self it.inherited (Some hand) pending marks (c.begin.ensures.inherited ∙ c.make_marks.ensures.inherited)
    c.begin.ensures.listed (c.begin.ensures.pending ∙ ap (drop 1) c.make_marks.ensures.pending) c.begin.ensures.marks))
    (comes_to_hand home known left (record it { marks = marks }) include pending marked c.in-Some.target c.in-Files.files
    c.verdicts_stay.ensures (sym c.number_of.ensures ∙ c.in-Some.is)
    (sym (c.in_ok-files.ensures table results c.args.file) ∙ c.in-Files.is))

pub returns-in-NeedOutline-clause-resolves : goal.returns-in-NeedOutline-clause-resolves
returns-in-NeedOutline-clause-resolves c = λ table results left r.
    let home = home_of c.args.role table c.args.names.now c.args.file in
    let known = known_of (map outline_in c.args.outlines.now) results in
    let it = c.args.self.now in
    let pending = drop 1 it.pending in
    let include : Include = record { name = c.include.inside.target; offset = c.include.inside.place } in
    let e = kept_is it it.inherited None (include ∷ pending) it.marks refl c.requires.passed
    (c.next-include.ensures ∙ ap (λ i. i ∷ pending) (sym c.include.view_is)) refl in
    let waits = subst (λ it. Resolves home known left it) e r in
    subst (λ it. Needs home known left (NeedOutline c.in-NeedOutline.file) it) (sym e)
    (needs_outline home known left it include pending waits c.in-Some.target c.in-NeedOutline.file (sym c.number_of.ensures ∙ c.in-Some.is)
    (sym (c.in_ok-files.ensures table results c.args.file) ∙ c.in-NeedOutline.is))

pub returns-in-Refused-clause-resolves : goal.returns-in-Refused-clause-resolves
returns-in-Refused-clause-resolves c = λ table results left r.
    let home = home_of c.args.role table c.args.names.now c.args.file in
    let known = known_of (map outline_in c.args.outlines.now) results in
    let it = c.args.self.now in
    let pending = drop 1 it.pending in
    let include : Include = record { name = c.include.inside.target; offset = c.include.inside.place } in
    let e = kept_is it it.inherited None (include ∷ pending) it.marks refl c.requires.passed
    (c.next-include.ensures ∙ ap (λ i. i ∷ pending) (sym c.include.view_is)) refl in
    let waits = subst (λ it. Resolves home known left it) e r in
    stops_refused home known left it include pending waits c.in-Some.target c.in-Refused.fault (sym c.number_of.ensures ∙ c.in-Some.is)
    (sym (c.in_ok-files.ensures table results c.args.file) ∙ c.in-Refused.is)
