-- The search has looked at the bytes that were read so far.
use Rattle.std.proofs.Common.{◌≡◌, ℕ, ◌+◌, ◌-◌, ◌≤◌, Bool, true, List, length, cond}
use Rattle.http_heads.specs.Searches.{HasFollowed}
use Rattle.request_reading.specs.Hearing.{Hears}
use Rattle.request_reading.specs.Stocks.{IsFilled}
use Rattle.request_reading.proofs.heads.head_end.Given as goal

abbrev pub invariant-reading : goal.invariant-reading
invariant-reading g l = record {
  counted : g.P.Pipe.faults l.fn.pipe ≤ g.P.Pipe.faults l.pipe;
  heard : Hears (g.P.Pipe.talk l.fn.pipe) (g.P.Pipe.talk l.pipe) (λ (more : List ℕ) (found_end : Bool). IsFilled l.fn.stock l.stock more found_end);
  leading : l.search.leading ≡ true;
  followed : HasFollowed l.search l.stock.bytes;
}

abbrev pub decreases-reading : goal.decreases-reading
decreases-reading g l = (65537 - length l.stock.bytes) + cond l.stock.ended 0 1
