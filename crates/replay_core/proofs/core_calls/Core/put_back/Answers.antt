use Rattle.std.proofs.Common.{◌≡◌, length, refl, sym, ap, ◌∙◌, subst, arith}
use Rattle.std.specs.Prelude.{slice_get, slice_set}
use Rattle.std.specs.Arc.{arc_value}
use Rattle.std.proofs.lemmas.Option.{slice_get_within, slice_get_read}
use Rattle.replay_core.specs.CorePages.{PagePart}
use Rattle.replay_core.specs.Core.{CoreParts, CoreSeen, core_of}
use Rattle.replay_core.specs.CoreSteps.{part_with, with_part}
use Rattle.replay_core.proofs.Asides.{settled_same}
use Rattle.replay_core.proofs.Listing.{some_same}
use Rattle.replay_core.proofs.Placing.{core_put}
use Rattle.replay_core.proofs.core_calls.Core.put_back.Goals as goal

pub index_mut-requires : goal.index_mut-requires
index_mut-requires c =
    let there = ap (λ (s : CoreSeen). slice_get s.inside.pages c.args.page) c.self.view_is ∙ c.requires.is_part in
    let within = slice_get_within c.self.inside.pages.items c.args.page c.requires.part there in
    let same = c.self.inside.pages.ok.0 in
    omega (arith, within, same)

pub settle-requires-clause-open : goal.settle-requires-clause-open
settle-requires-clause-open c closed =
    let there = ap (λ (s : CoreSeen). slice_get s.inside.pages c.args.page) c.self.view_is ∙ c.requires.is_part in
    let within = slice_get_within c.self.inside.pages.items c.args.page c.requires.part there in
    let here = slice_get_read c.self.inside.pages.items (length c.self.inside.pages.items) c.args.page c.index_mut.result.now refl within
    c.index_mut.ensures.value in
    let same : c.index_mut.result.now ≡ c.requires.part = some_same c.index_mut.result.now c.requires.part (sym here ∙ there) in
    c.requires.open_ (ap (λ (p : PagePart). p.closed) (sym same) ∙ closed)

pub settle-requires-clause-out : goal.settle-requires-clause-out
settle-requires-clause-out c =
    let there = ap (λ (s : CoreSeen). slice_get s.inside.pages c.args.page) c.self.view_is ∙ c.requires.is_part in
    let within = slice_get_within c.self.inside.pages.items c.args.page c.requires.part there in
    let here = slice_get_read c.self.inside.pages.items (length c.self.inside.pages.items) c.args.page c.index_mut.result.now refl within
    c.index_mut.ensures.value in
    let same : c.index_mut.result.now ≡ c.requires.part = some_same c.index_mut.result.now c.requires.part (sym here ∙ there) in
    ap (λ (p : PagePart). p.decoder) same ∙ c.requires.out

pub invariant_of-self : goal.invariant_of-self
invariant_of-self c =
    let parts : CoreParts = record { files = c.self.inside.files.items; pages = c.self.inside.pages.items; results = c.self.inside.results.items } in
    let there = ap (λ (s : CoreSeen). slice_get s.inside.pages c.args.page) c.self.view_is ∙ c.requires.is_part in
    let within = slice_get_within parts.pages c.args.page c.requires.part there in
    let here = slice_get_read parts.pages (length parts.pages) c.args.page c.index_mut.result.now refl within c.index_mut.ensures.value in
    let same = settled_same c.settle.result c.args.decoder c.index_mut.result.now in
    core_put (arc_value c.self.inside.names) parts c.self.invariant c.args.page c.index_mut.result.now c.settle.new.self here
    (ap (λ (p : PagePart). p.file) c.settle.ensures.part ∙ same.0) (ap (λ (p : PagePart). p.closed) c.settle.ensures.part ∙ same.1)

pub returns-clause-part : goal.returns-clause-part
returns-clause-part c part is =
    let parts : CoreParts = record { files = c.self.inside.files.items; pages = c.self.inside.pages.items; results = c.self.inside.results.items } in
    let table = arc_value c.self.inside.table in
    let names = arc_value c.self.inside.names in
    let there = ap (λ (s : CoreSeen). slice_get s.inside.pages c.args.page) c.self.view_is ∙ is in
    let within = slice_get_within parts.pages c.args.page part there in
    let here = slice_get_read parts.pages (length parts.pages) c.args.page c.index_mut.result.now refl within c.index_mut.ensures.value in
    let same : c.index_mut.result.now ≡ part = some_same c.index_mut.result.now part (sym here ∙ there) in
    subst (λ s. core_of table names (record parts { pages = slice_set parts.pages c.args.page c.settle.new.self })
    ≡ with_part c.args.page (part_with c.settle.result c.args.decoder part) s) c.self.view_is
    (ap (λ p. core_of table names (record parts { pages = slice_set parts.pages c.args.page p }))
    (c.settle.ensures.part ∙ ap (part_with c.settle.result c.args.decoder) same))
