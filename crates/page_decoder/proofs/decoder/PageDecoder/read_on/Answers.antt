use Rattle.std.proofs.Common.{◌≡◌, ◌≢◌, ℕ, sym, ap, ◌∙◌, subst}
use Rattle.std.specs.Arc.{arc_value}
use Rattle.djvu_base.specs.Meter.{TicksExactly}
use Rattle.page_decoder.specs.Given.{Home}
use Rattle.page_decoder.specs.Read.{read}
use Rattle.page_decoder.specs.Decoder.{next_entry, answer_to, decisions_to, drawn_with}
use Rattle.page_decoder.specs.FileReading.{decisions_in}
use Rattle.page_decoder.specs.PageFed.{Fed, IsFed, Decoding, is_failed, standing_at}
use Rattle.page_decoder.proofs.Decoding.{GrowthLaws}
use Rattle.page_decoder.proofs.Reached.{stands_at, reads_at, goes_by, told_so, ran_answer, ran_decisions, ran_fed}
use Rattle.page_decoder.proofs.decoder.PageDecoder.read_on.Goals as goal

pub invariant_of-self : goal.invariant_of-self
unfolding Fed
invariant_of-self g c =
    let laws : GrowthLaws =
    record { told = c.growth.ensures.told; unmet = c.growth.ensures.unmet; outline = c.needs.ensures.outline; file = c.needs.ensures.file } in
    let i = c.self.invariant in
    let goes = goes_by i.given _ _ (ap (λ (d : Decoding). d.kept.standing) c.self.view_is ∙ c.requires.going) i.fed.by in
    let told = told_so _ i.given i.fed goes _ _ _ _ (c.slice.ensures ∙ c.deref.ensures) c.outlines.ensures.outlines c.results.ensures c.bytes.ensures
    c.run-used.new.self c.run-used.result.0 c.run-used.result.1 c.run-used.ensures.answers in
    rw (c.forget.ensures, c.standing_at-self-inside.ensures) (record {
      is_page = ap (λ (h : Home). h.role) (c.run-used.ensures.home (arc_value c.self.inside.names)) ∙ i.is_page;
      ascending = i.ascending;
      few = i.few;
      places = i.places;
      given = i.given;
      fed = ran_fed laws _ i.given i.fed goes c.run-used.new.self _ c.run-used.result.1 told c.run-used.ensures.home;
    })

pub returns-clause-fed : goal.returns-clause-fed
unfolding Fed
returns-clause-fed g c given f =
    let laws : GrowthLaws =
    record { told = c.growth.ensures.told; unmet = c.growth.ensures.unmet; outline = c.needs.ensures.outline; file = c.needs.ensures.file } in
    let fed = subst (IsFed given) (sym c.self.view_is) f in
    let goes = goes_by given _ _ (ap (λ (d : Decoding). d.kept.standing) c.self.view_is ∙ c.requires.going) fed.by in
    let told = told_so _ given fed goes _ _ _ _ (c.slice.ensures ∙ c.deref.ensures) c.outlines.ensures.outlines c.results.ensures c.bytes.ensures
    c.run-used.new.self c.run-used.result.0 c.run-used.result.1 c.run-used.ensures.answers in
    rw (c.forget.ensures, c.standing_at-self-inside.ensures)
    (ran_fed laws _ given fed goes c.run-used.new.self _ c.run-used.result.1 told c.run-used.ensures.home)

pub returns-clause-answer : goal.returns-clause-answer
unfolding Fed
returns-clause-answer g c given f some =
    let laws : GrowthLaws =
    record { told = c.growth.ensures.told; unmet = c.growth.ensures.unmet; outline = c.needs.ensures.outline; file = c.needs.ensures.file } in
    let fed = subst (IsFed given) (sym c.self.view_is) f in
    let goes = goes_by given _ _ (ap (λ (d : Decoding). d.kept.standing) c.self.view_is ∙ c.requires.going) fed.by in
    let told = told_so _ given fed goes _ _ _ _ (c.slice.ensures ∙ c.deref.ensures) c.outlines.ensures.outlines c.results.ensures c.bytes.ensures
    c.run-used.new.self c.run-used.result.0 c.run-used.result.1 c.run-used.ensures.answers in
    ran_answer laws _ given fed goes c.run-used.new.self _ c.run-used.result.1 told some
    ∙ ap (λ n. answer_to (next_entry (read given) n)) (ap (λ (d : Decoding). d.drawn) c.self.view_is)

pub returns-clause-decisions : goal.returns-clause-decisions
unfolding Fed
returns-clause-decisions g c given f some =
    let laws : GrowthLaws =
    record { told = c.growth.ensures.told; unmet = c.growth.ensures.unmet; outline = c.needs.ensures.outline; file = c.needs.ensures.file } in
    let fed = subst (IsFed given) (sym c.self.view_is) f in
    let goes = goes_by given _ _ (ap (λ (d : Decoding). d.kept.standing) c.self.view_is ∙ c.requires.going) fed.by in
    let told = told_so _ given fed goes _ _ _ _ (c.slice.ensures ∙ c.deref.ensures) c.outlines.ensures.outlines c.results.ensures c.bytes.ensures
    c.run-used.new.self c.run-used.result.0 c.run-used.result.1 c.run-used.ensures.answers in
    subst (λ n. TicksExactly (decisions_to (next_entry (read given) n) (read given)) 0 (decisions_in c.run-used.new.self))
    (ap (λ (d : Decoding). d.drawn) c.self.view_is) (ran_decisions laws _ given fed goes c.run-used.new.self _ c.run-used.result.1 told some)

pub returns-clause-drawn : goal.returns-clause-drawn
unfolding Fed
returns-clause-drawn g c =
    let laws : GrowthLaws =
    record { told = c.growth.ensures.told; unmet = c.growth.ensures.unmet; outline = c.needs.ensures.outline; file = c.needs.ensures.file } in
    let i = c.self.invariant in
    let goes = goes_by i.given _ _ (ap (λ (d : Decoding). d.kept.standing) c.self.view_is ∙ c.requires.going) i.fed.by in
    let told = told_so _ i.given i.fed goes _ _ _ _ (c.slice.ensures ∙ c.deref.ensures) c.outlines.ensures.outlines c.results.ensures c.bytes.ensures
    c.run-used.new.self c.run-used.result.0 c.run-used.result.1 c.run-used.ensures.answers in
    told.drawn ∙ ap (drawn_with c.run-used.result.1) (ap (λ (d : Decoding). d.drawn) c.self.view_is)

pub returns-clause-home : goal.returns-clause-home
unfolding Fed
returns-clause-home g c =
    c.run-used.ensures.home (arc_value c.self.inside.names) ∙ ap (λ (d : Decoding). d.home) c.self.view_is

pub returns-clause-stands : goal.returns-clause-stands
unfolding Fed
returns-clause-stands g c =
    rw (c.standing_at-self-inside.ensures) (stands_at c.run-used.result.1)

pub returns-clause-failed : goal.returns-clause-failed
unfolding Fed
returns-clause-failed g c e =
    rw (c.standing_at-self-inside.ensures) (ap (λ a. is_failed (standing_at a)) e)

pub returns-clause-reads : goal.returns-clause-reads
unfolding Fed
returns-clause-reads g c some =
    rw (c.standing_at-self-inside.ensures) (reads_at c.run-used.result.1 some)
