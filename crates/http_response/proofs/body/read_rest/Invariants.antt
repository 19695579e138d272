-- What was put is what was given of what was read so far.
use Rattle.std.proofs.Common.{ℕ, ◌-◌, ◌+◌, ◌≤◌, Bool, List, length}
use Rattle.http_response.specs.Bodies.{IsOpen}
use Rattle.http_response.specs.Hearing.{Hears}
use Rattle.http_response.proofs.Resting.{HasPut}
use Rattle.http_response.proofs.body.read_rest.Given as goal

abbrev pub invariant-reading : goal.invariant-reading
invariant-reading g l = record {
  counted : g.P.Pipe.faults l.fn.pipe ≤ g.P.Pipe.faults l.pipe;
  heard : (read : List ℕ) (ended : Bool) → IsOpen l.fn.response read ended l.fn.body
      → Hears (g.P.Pipe.talk l.fn.pipe) (g.P.Pipe.talk l.pipe) (HasPut l.response l.body read ended);
}

abbrev pub decreases-reading : goal.decreases-reading
decreases-reading g l = (16777216 + 1) - length l.body
