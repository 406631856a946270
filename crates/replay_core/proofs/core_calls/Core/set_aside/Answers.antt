use Rattle.std.proofs.Common.{◌<◌, length, sym, subst}
use Rattle.std.specs.Prelude.{slice_set}
use Rattle.std.specs.Arc.{arc_value}
use Rattle.replay_core.specs.Core.{CoreParts, CoreSeen, core_of}
use Rattle.replay_core.specs.CoreSteps.{SetsAside}
use Rattle.replay_core.proofs.Asides.{core_begun, sets_aside}
use Rattle.replay_core.proofs.Receiving.{part_there}
use Rattle.replay_core.proofs.core_calls.Core.set_aside.Goals as goal

pub invariant_of-self : goal.invariant_of-self
invariant_of-self c =
    let parts : CoreParts = record { files = c.self.inside.files.items; pages = c.self.inside.pages.items; results = c.self.inside.results.items } in
    let there = part_there parts.pages c.args.page c.index_mut.result.now
    (subst (λ (s : CoreSeen). c.args.page < length s.pages) (sym c.self.view_is) c.requires) c.index_mut.ensures.value in
    core_begun (arc_value c.self.inside.names) parts c.self.invariant c.args.page c.index_mut.result.now c.begin.new.self c.begin.result there
    c.begin.ensures.begins

pub returns : goal.returns
returns c =
    let parts : CoreParts = record { files = c.self.inside.files.items; pages = c.self.inside.pages.items; results = c.self.inside.results.items } in
    let table = arc_value c.self.inside.table in
    let names = arc_value c.self.inside.names in
    let there = part_there parts.pages c.args.page c.index_mut.result.now
    (subst (λ (s : CoreSeen). c.args.page < length s.pages) (sym c.self.view_is) c.requires) c.index_mut.ensures.value in
    subst (λ s. SetsAside c.args.page s (core_of table names (record parts { pages = slice_set parts.pages c.args.page c.begin.new.self })) c.begin.result)
    c.self.view_is
    (sets_aside table names parts c.args.page c.index_mut.result.now c.begin.new.self c.begin.result there c.begin.ensures.begins c.begin.ensures.open)
