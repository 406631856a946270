use Rattle.std.proofs.Common.{◌≡◌, ℕ}
use Rattle.page_decoder.proofs.Gifts.{ticked_at_most}
use Rattle.page_decoder.specs.Read.{decode}
use Rattle.page_decoder.specs.FileDecoding.{included}
use Rattle.std.specs.Arc.{arc_value}
use Rattle.djvu_base.specs.Library.{mark_of}
use Rattle.page_decoder.proofs.file_decoding.decode_file.Goals as goal

pub returns-clause-at_most : goal.returns-clause-at_most
returns-clause-at_most g c known knows =
    let e = c.decode_done.ensures in
    ticked_at_most (decode (included (arc_value c.args.table) c.args.names.now c.args.file known c.args.bytes.now (mark_of c.args.end))).decisions
    e.rise.0 c.decode_done.result.decisions (g.M.Meter.count c.args.meter.now) (g.M.Meter.count c.decode_done.new.meter) e.rise.1
    (e.at_most known knows) e.rise.2
