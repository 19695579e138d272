-- What was read so far stands behind what was read before.
use Rattle.std.proofs.Common.{ℕ, ◌+◌, ◌-◌, ◌≤◌, Bool, List, length, cond}
use Rattle.request_reading.specs.Hearing.{Hears}
use Rattle.request_reading.specs.Stocks.{IsFilled}
use Rattle.request_reading.proofs.stock.Stock.fill_to.Given as goal

abbrev pub invariant-filling : goal.invariant-filling
invariant-filling g l = record {
  counted : g.P.Pipe.faults l.fn.pipe ≤ g.P.Pipe.faults l.pipe;
  heard : Hears (g.P.Pipe.talk l.fn.pipe) (g.P.Pipe.talk l.pipe) (λ (more : List ℕ) (found_end : Bool). IsFilled l.fn.self l.self more found_end);
}

abbrev pub decreases-filling : goal.decreases-filling
decreases-filling g l = (l.end - length l.self.bytes) + cond l.self.ended 0 1
