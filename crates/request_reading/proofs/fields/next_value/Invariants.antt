-- No header before these has the name.
use Rattle.std.proofs.Common.{◌≡◌, ◌≤◌, length}
use Rattle.http_fields.specs.Fields.{AreWithin, values_at}
use Rattle.request_reading.proofs.fields.next_value.Given as goal

abbrev pub invariant-loop-header : goal.invariant-loop-header
invariant-loop-header l = record {
  values_are : values_at l.head l.rest l.name ≡ values_at l.head l.fn.headers l.name;
  fewer : length l.rest ≤ length l.fn.headers;
  are_within : AreWithin l.head l.rest;
}

abbrev pub decreases-loop-header : goal.decreases-loop-header
decreases-loop-header l = length l.rest
