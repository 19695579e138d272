-- The search has looked at the bytes that were read so far.
use Rattle.std.proofs.Common.{ℕ, ◌+◌, ◌-◌, ◌≤◌, Bool, List, length, cond}
use Rattle.http_heads.specs.Feeds.{HasNoFeed}
use Rattle.http_response.specs.Hearing.{Hears}
use Rattle.http_response.specs.Stocks.{IsFilled, left}
use Rattle.http_response.proofs.chunks.line_end.Given as goal

abbrev pub invariant-reading : goal.invariant-reading
invariant-reading g l = record {
  counted : g.P.Pipe.faults l.fn.pipe ≤ g.P.Pipe.faults l.pipe;
  heard : Hears (g.P.Pipe.talk l.fn.pipe) (g.P.Pipe.talk l.pipe) (λ (more : List ℕ) (found_end : Bool). IsFilled l.fn.stock l.stock more found_end);
  followed : HasNoFeed l.search (left l.stock);
}

abbrev pub decreases-reading : goal.decreases-reading
decreases-reading g l = ((65536 + 1) - length (left l.stock)) + cond l.stock.ended 0 1
