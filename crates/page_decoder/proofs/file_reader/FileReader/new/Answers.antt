use Rattle.std.proofs.Common.{subst, sym, refl, ◌≡◌, ℕ, List, []}
use Rattle.std.specs.Arc.{arc_value}
use Rattle.page_decoder.specs.Resolving.{home_of}
use Rattle.page_decoder.proofs.file_reader.FileReader.new.Goals as goal
use Rattle.zp_table.specs.declared.rows.Row.{Row}
use Rattle.zp_table.specs.Rows.{IsTable}
use Rattle.page_decoder.specs.PageRead.{nothing_decoded, at_start}
use Rattle.page_decoder.specs.ActsTold.{nothing_told}
use Rattle.page_decoder.specs.Resolving.{Waits}
use Rattle.page_decoder.proofs.ResolveSteps.{waits_first}

-- src/file_reader.rt:85:5
pub returns-clause-stands : goal.returns-clause-stands
returns-clause-stands c = λ names known. record {
  so_far = nothing_told;
  left = at_start;
  of = record { home_is = refl; is_table = subst (λ (t : List Row). IsTable t) c.deref.ensures c.len.ensures.table; origin_is = refl; counts = search };
  walks = record { told = []; is_told = c.new.ensures; acts_are = refl; goes = λ more. tt; is_open = refl };
  holds = record {
    on = refl;
    holds_chunk = c.new-2.ensures.keeps (arc_value c.args.table);
    waits = subst (λ it. Waits (home_of c.args.role (arc_value c.args.table) names c.args.file) known nothing_decoded it) (sym c.new-3.ensures)
        (waits_first (home_of c.args.role (arc_value c.args.table) names c.args.file) known);
    decisions_are = search;
    tallies = record { chunks_are = refl; drawn_are = refl; last_is = refl };
  };
}
