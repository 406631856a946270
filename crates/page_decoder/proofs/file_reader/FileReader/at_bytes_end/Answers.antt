use Rattle.std.proofs.Common.{Some, sym, ap, subst, ◌∙◌}
use Rattle.page_decoder.specs.FileReading.{IsPaused}
use Rattle.page_decoder.proofs.Answering.{comes_same}
use Rattle.page_decoder.proofs.ByteEnds.{paused_bytes}
use Rattle.std.specs.Arc.{arc_value}
use Rattle.page_decoder.specs.Resolving.{home_of}
use Rattle.page_decoder.specs.declared.file_reader.FileReader.{FileReader}
use Rattle.page_decoder.proofs.file_reader.FileReader.at_bytes_end.Goals as goal

pub returns-clause-answers : goal.returns-clause-answers
returns-clause-answers g c = λ given rest taken so m t.
    let old = c.args.self.now in
    let mid = c.behind_bytes-behind.new.self in
    let behind = c.behind_bytes-behind.result in
    let paused = subst (λ r. IsPaused given rest behind r) (sym c.behind_bytes-behind.ensures.rest)
    (paused_bytes given rest taken old c.args.end behind mid.walker t m
    (c.behind_bytes-behind.ensures.behind t.now.bytes t.walks.told t.walks.is_told t.of.counts t.settles.2)
    (λ e. ap (λ r. r.walker) (c.behind_bytes-behind.ensures.waits e).1)
    (record { laid = c.layout.ensures.laid; order = c.order.ensures })) in
    comes_same given rest (Some c.at_pause.result) mid old c.at_pause.new.self (ap (λ r. r.drawn) c.behind_bytes-behind.ensures.rest)
    (c.at_pause.ensures.answers given rest so paused)

pub returns-clause-home : goal.returns-clause-home
returns-clause-home g c names =
    c.at_pause.ensures.home names
    ∙ ap (λ (r : FileReader). home_of r.role (arc_value r.table) names r.file) c.behind_bytes-behind.ensures.rest
