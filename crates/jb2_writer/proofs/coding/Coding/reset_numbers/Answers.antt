use Rattle.std.proofs.Common.{ℕ, refl, ap}
use Rattle.std.specs.Map.{lookup}
use Rattle.jb2_numbers.specs.Contexts.{Name}
use Rattle.jb2_writer.specs.Coding.{contexts_of, is_same_key}
use Rattle.jb2_writer.proofs.Adding.{adds_anew, anew_sound}
use Rattle.jb2_writer.proofs.Keying.{none_stored}
use Rattle.jb2_writer.proofs.coding.Coding.reset_numbers.Goals as goal

pub returns : goal.returns
returns c =
    let stored = none_stored c.clear.new.self (λ key. ap (lookup (is_same_key key)) c.clear.ensures.empty) in
    adds_anew c.args.self.now _ refl
    (ap (λ (numbers : Name → ℕ). record (contexts_of c.args.self.now) { numbers = numbers }) stored)
    (anew_sound c.args.self.now _ c.requires refl stored refl refl refl)
