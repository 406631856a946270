use Rattle.std.proofs.Common.{◌≡◌, ℕ, ◌<◌, ◌≤◌, sym, subst, arith}
use Rattle.page_decoder.specs.Opened.{OpenState, Opens}
use Rattle.page_decoder.specs.Kinds.{kind_of}
use Rattle.page_decoder.proofs.open_chunks.Open.advance.Goals as goal

pub advance-requires : goal.advance-requires
advance-requires g c =
    let some : c.self.inside.left ≡ 0 → ⊥ = c.if-self-eq0.false in
    let room : 1 ≤ c.self.inside.left = omega (arith, some) in
    record { to_come = c.self.inside.left; running = c.self.invariant; room = room }

pub invariant_of-self : goal.invariant_of-self
invariant_of-self g c = c.advance.ensures.running c.self.inside.left c.self.invariant

pub returns-clause-advances : goal.returns-clause-advances
returns-clause-advances g c table head decoded bytes kept opens part =
    let now : Opens table head decoded bytes kept (record { to_come = c.self.inside.left; reads = c.self.inside.reader }) =
    subst (λ (it : OpenState). Opens table head decoded bytes kept it) (sym c.self.view_is) opens in
    let some : 0 < c.self.inside.left = omega (arith, now.count, part) in
    c.advance.ensures.advances (kind_of head.id) table decoded bytes c.self.inside.left head.offset now.reads some
