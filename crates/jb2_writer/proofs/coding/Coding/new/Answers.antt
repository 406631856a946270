use Rattle.std.proofs.Common.{◌≡◌, ℕ, [], sym, ap, ◌∙◌}
use Rattle.std.specs.Map.{lookup}
use Rattle.zp_decoder.specs.States.{States, fresh}
use Rattle.jb2_numbers.specs.Contexts.{Name}
use Rattle.jb2_writer.specs.Contexts.{all_fresh}
use Rattle.jb2_writer.specs.Coding.{is_same_key, numbers_of, pixels_of}
use Rattle.jb2_writer.proofs.Keying.{none_stored, none_coloured}
use Rattle.jb2_writer.proofs.coding.Coding.new.Goals as goal

pub returns-clause-coded : goal.returns-clause-coded
returns-clause-coded c =
    let numbers : numbers_of c.new-2.result ≡ fresh = none_stored c.new-2.result (λ key. ap (lookup (is_same_key key)) c.new-2.ensures.empty) in
    let pixels : pixels_of c.in_ok-zeros.field-0.items ≡ fresh = none_coloured c.in_ok-zeros.field-0.items c.number_limit.result c.in_ok-zeros.ensures in
    record {
      decisions = [];
      wrote = c.new.ensures.wrote;
      coded =
          ap (λ (states : Name → ℕ). record all_fresh { numbers = states }) (sym numbers)
          ∙ ap (λ (states : States). record { numbers = numbers_of c.new-2.result; pixels = states; flag = 0; row = 0 }) (sym pixels);
    }
