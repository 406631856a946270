use Rattle.std.proofs.lemmas.Str.{IsUtf8-from_is_utf8}
use Rattle.djvu_outside.proofs.OrderLemmas.{is_utf8-from_is_name}
use Rattle.djvu_outside.proofs.listing.text_of.Goals as goal

pub unreachable-requires : goal.unreachable-requires
unreachable-requires c =
    c.in-Err.ensures.cases.0 (rw c.bytes.ensures.bytes (IsUtf8-from_is_utf8 _ (is_utf8-from_is_name _ c.bytes.ensures.valid)))
