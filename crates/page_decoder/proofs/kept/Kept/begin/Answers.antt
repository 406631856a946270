use Rattle.std.proofs.Common.{◌≡◌, ◌+◌, [], sym, ◌∙◌, subst, arith}
use Rattle.std.specs.Arc.{arc_value}
use Rattle.page_decoder.specs.Opened.{OpenState, Opens, Begins}
use Rattle.page_decoder.proofs.kept.Kept.begin.Goals as goal

pub returns-clause-opens : goal.returns-clause-opens
returns-clause-opens c decoded keeps inherited =
    let begins : Begins c.in_ok-reader.reader (arc_value c.args.table.now) c.args.head decoded c.reader_for.new.self =
    c.in_ok-reader.ensures.begins decoded keeps inherited in
    let count : 0 + c.args.head.size ≡ c.args.head.size = omega arith in
    subst (λ (it : OpenState). Opens (arc_value c.args.table.now) c.args.head decoded [] c.reader_for.new.self it) (sym c.new.ensures)
    (record {
      layers_are = c.reader_for.ensures.layers ∙ keeps.layers_are;
      own_is = c.reader_for.ensures.own ∙ keeps.own_is;
      background = begins.1;
      count = count;
      reads = begins.0;
    })
