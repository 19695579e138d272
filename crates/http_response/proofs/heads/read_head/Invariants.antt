-- So many bytes are those of skipped heads.
use Rattle.std.proofs.Common.{ℕ, ◌-◌, ◌≤◌, Bool, List}
use Rattle.http_response.specs.Found.{IsSkipping}
use Rattle.http_response.specs.Hearing.{Hears}
use Rattle.http_response.specs.Stocks.{IsFilled}
use Rattle.http_response.proofs.heads.read_head.Given as goal

abbrev pub invariant-heads : goal.invariant-heads
invariant-heads g l = record {
  counted : g.P.Pipe.faults l.fn.pipe ≤ g.P.Pipe.faults l.pipe;
  heard : Hears (g.P.Pipe.talk l.fn.pipe) (g.P.Pipe.talk l.pipe) (λ (more : List ℕ) (found_end : Bool). IsFilled l.fn.stock l.stock more found_end);
  skipping : IsSkipping l.limit l.stock l.skipped;
}

abbrev pub decreases-heads : goal.decreases-heads
decreases-heads g l = 65536 - l.skipped
