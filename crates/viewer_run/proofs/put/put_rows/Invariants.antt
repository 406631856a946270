use Rattle.std.proofs.Common.{◌≡◌, ◌*◌, ◌-◌, ◌≤◌, ◌++◌, ℕ, List, Some, vec_len}
use Rattle.layer_compose.specs.Drawing.{rows_of, drawing_height}
use Rattle.viewer_run.proofs.put.put_rows.Given as goal

-- the rows so far were put
abbrev pub invariant-loop-done : goal.invariant-loop-done
invariant-loop-done g l = record {
  within : l.done ≤ drawing_height l.layers;
  room : vec_len l.block ≡ l.at_once * l.row;
  put : (before : List ℕ) → g.S.Sink.given l.fn.sink ≡ Some before → g.S.Sink.given l.sink ≡ Some (before ++ rows_of l.layers 0 l.done);
  faults : g.S.Sink.faults l.sink ≡ g.S.Sink.faults l.fn.sink;
}

abbrev pub decreases-loop-done : goal.decreases-loop-done
decreases-loop-done g l = drawing_height l.layers - l.done
