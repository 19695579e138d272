-- The places found in front and those of the rest are all.
use Rattle.std.proofs.Common.{◌≡◌, ◌+◌, ◌-◌, ◌≤◌, false, length, drop}
use Rattle.response_rules.specs.Values.{places_from}
use Rattle.engine_json.proofs.values.places_in.Given as goal

abbrev pub invariant-loop-at : goal.invariant-loop-at
invariant-loop-at l = record {
  within : l.at ≤ length l.body;
  few : l.found ≤ l.at;
  count : l.found + places_from l.in_string l.escaped (drop l.at l.body) ≡ places_from false false l.body;
}

abbrev pub decreases-loop-at : goal.decreases-loop-at
decreases-loop-at l = length l.body - l.at
