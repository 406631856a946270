-- What a core counts, and what its meter counts.
use Rattle.std.proofs.Common.{◌≡◌, ◌≤◌, ◌+◌, ℕ, ◌∙◌, arith}
use Rattle.std.proofs.lemmas.Grind.{common_steps}
use Rattle.djvu_base.specs.Meter.{ticked, TicksExactly, TicksAtMost}
use Rattle.djvu_base.proofs.Ticks.{ticks_both, ticks_none}
use Rattle.page_decoder.specs.Decoder.{RiseTogether}

pub rise_none : (count other : ℕ) → RiseTogether count count other other
rise_none count other = (0, ticks_none count, ticks_none other)

pub rise_both : (first mid last other_first other_mid other_last : ℕ) → RiseTogether first mid other_first other_mid
    → RiseTogether mid last other_mid other_last → RiseTogether first last other_first other_last
rise_both first mid last other_first other_mid other_last a b =
    (a.0 + b.0, ticks_both a.0 b.0 first mid last a.1 b.1, ticks_both a.0 b.0 other_first other_mid other_last a.2 b.2)

same_rise : (counted ticks count : ℕ) → ticked counted 0 ≡ ticked ticks 0 → ticked ticks count ≡ ticked counted count
same_rise counted ticks count e = grind (arith, common_steps, e)

-- a meter counted what was decoded since the start
pub rise_exactly : (counted before after : ℕ) → RiseTogether 0 (ticked counted 0) before after → TicksExactly counted before after
rise_exactly counted before after r = r.2 ∙ same_rise counted r.0 before r.1

pub rise_at_most : (counted most before after : ℕ) → counted ≤ most → RiseTogether 0 (ticked counted 0) before after → TicksAtMost most before after
rise_at_most counted most before after le r = (counted, le, rise_exactly counted before after r)
