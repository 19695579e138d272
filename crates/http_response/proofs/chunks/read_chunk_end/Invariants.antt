-- More is read as long as there are fewer than two bytes.
use Rattle.std.proofs.Common.{ℕ, ◌+◌, ◌-◌, ◌≤◌, Bool, List, length, cond}
use Rattle.http_response.specs.Hearing.{Hears}
use Rattle.http_response.specs.Stocks.{IsFilled, left}
use Rattle.http_response.proofs.chunks.read_chunk_end.Given as goal

abbrev pub invariant-reading : goal.invariant-reading
invariant-reading g l = record {
  counted : g.P.Pipe.faults l.fn.pipe ≤ g.P.Pipe.faults l.pipe;
  heard : Hears (g.P.Pipe.talk l.fn.pipe) (g.P.Pipe.talk l.pipe) (λ (more : List ℕ) (found_end : Bool). IsFilled l.fn.stock l.stock more found_end);
}

abbrev pub decreases-reading : goal.decreases-reading
decreases-reading g l = ((2 + 1) - length (left l.stock)) + cond l.stock.ended 0 1
