use Rattle.std.proofs.Common.{ap, sym, ◌∙◌}
use Rattle.std.specs.Prelude.{List, ℕ}
use Rattle.iw44_image.specs.Header.{Opened}
use Rattle.iw44_image.specs.declared.headers.Start.{Start}
use Rattle.iw44_image.specs.Starting.{opening_in}
use Rattle.iw44_image.proofs.Beginning.{drop_behind}
use Rattle.iw44_image.proofs.headers.Start.behind.Goals as goal

pub returns-in-Told-clause-opening : goal.returns-in-Told-clause-opening
returns-in-Told-clause-opening c = λ before bytes e. ap (λ (l : List ℕ). Opened c.in-Told.header c.in-Told.slices l)
    (drop_behind before bytes c.in-Told.length c.args.count e) ∙ sym (ap (λ (start : Start). opening_in bytes start) c.in-Told.is)
