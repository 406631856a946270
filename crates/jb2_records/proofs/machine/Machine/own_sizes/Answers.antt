use Rattle.std.proofs.Common.{◌≡◌, to_z, of_z, w64, rules}
use Rattle.std.specs.Prelude.{Ok, Err}
use Rattle.jb2_records.proofs.Making.{sizes_at, own_sized, own_refused}
use Rattle.jb2_records.proofs.machine.Machine.own_sizes.Goals as goal

pub returns-in-Ok-clause-moves : goal.returns-in-Ok-clause-moves
returns-in-Ok-clause-moves c input stays =
    let wide : to_z w64 (of_z w64 c.from.result) ≡ c.args.width = search rules in
    let high : to_z w64 (of_z w64 c.from-2.result) ≡ c.args.height = search rules in
    own_sized input c.args.kept c.args.width c.args.height c.in-Ok.width c.in-Ok.height c.args.self.now
    (sizes_at input c.args.self.now.library c.args.width c.args.height (to_z w64 (of_z w64 c.from.result)) (to_z w64 (of_z w64 c.from-2.result))
    (Ok (c.in-Ok.width, c.in-Ok.height)) wide high (c.in-Ok.ensures.sound input)) stays

pub returns-in-Err-clause-moves : goal.returns-in-Err-clause-moves
returns-in-Err-clause-moves c input stays =
    let wide : to_z w64 (of_z w64 c.from.result) ≡ c.args.width = search rules in
    let high : to_z w64 (of_z w64 c.from-2.result) ≡ c.args.height = search rules in
    own_refused input c.args.kept c.args.width c.args.height c.in-Err.fault c.args.self.now
    (sizes_at input c.args.self.now.library c.args.width c.args.height (to_z w64 (of_z w64 c.from.result)) (to_z w64 (of_z w64 c.from-2.result))
    (Err c.in-Err.fault) wide high (c.in-Err.ensures.sound input)) stays
