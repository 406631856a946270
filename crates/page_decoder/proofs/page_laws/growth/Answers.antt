use Rattle.std.proofs.Common.{ℕ, List, sym, subst}
use Rattle.zp_table.specs.declared.rows.Row.{Row}
use Rattle.zp_table.specs.Rows.{IsTable}
use Rattle.page_decoder.specs.Given.{Given, Within}
use Rattle.page_decoder.specs.Read.{read}
use Rattle.page_decoder.specs.Needs.{Lacks}
use Rattle.page_decoder.proofs.Retaining.{notices_front}
use Rattle.page_decoder.proofs.Further.{Grows}
use Rattle.page_decoder.proofs.Coming.{data_on}
use Rattle.page_decoder.proofs.Acting.{Stay}
use Rattle.page_decoder.proofs.Comparing.{Compared, compared, further_below, lacks_same}
use Rattle.page_decoder.proofs.page_laws.growth.Goals as goal

stay : goal.After-verdicts_stay → (bytes more : List ℕ) → Stay bytes more
stay c bytes more = record {
  ended = c.chunks_stay.ensures.ended bytes more;
  broken = c.chunks_stay.ensures.broken bytes more;
  form = c.chunks_stay.ensures.form bytes more;
  whole = c.chunks_stay.ensures.whole bytes more;
  still = c.chunks_stay.ensures.open bytes more;
  order = c.order.ensures bytes;
  uncut = c.never_cut.ensures bytes;
}

grows : goal.After-verdicts_stay → (table : List Row) → IsTable table → Grows table
grows c table is = record {
  verdicts = c.verdicts_stay.ensures;
  more_data = data_on table is c.more_bytes_go_on.ensures.more (record {
    refused = c.layers_grow.ensures.refused;
    decisions = c.layers_grow.ensures.decisions;
  });
}

both : goal.After-verdicts_stay → (less more : Given) → IsTable less.home.table → Within less more → Compared less more
both c less more is within = compared (stay c) less more (grows c less.home.table is) within

pub returns-clause-told : goal.returns-clause-told
returns-clause-told c less more is within = let k = both c less more is within in further_below k.more more.known (read less) (read more) k.further

pub returns-clause-notices : goal.returns-clause-notices
returns-clause-notices c less more is within =
    notices_front (read less).left.told (read more).left.told (returns-clause-told c less more is within).drawings

pub returns-clause-finished : goal.returns-clause-finished
returns-clause-finished c less more is within e = lacks_same less more (both c less more is within) (subst (λ x. Lacks less more x) (sym e) tt)

pub returns-clause-refused : goal.returns-clause-refused
returns-clause-refused c less more fault is within e = lacks_same less more (both c less more is within) (subst (λ x. Lacks less more x) (sym e) tt)

pub returns-clause-unmet : goal.returns-clause-unmet
returns-clause-unmet c less more is within lacks = lacks_same less more (both c less more is within) lacks
