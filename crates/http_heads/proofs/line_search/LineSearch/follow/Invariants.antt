use Rattle.std.proofs.Common.{◌≡◌, ◌-◌, ◌≤◌, length, take}
use Rattle.http_heads.specs.Searches.{IsAt}
use Rattle.http_heads.proofs.line_search.LineSearch.follow.Given as goal

abbrev pub invariant-loop-found : goal.invariant-loop-found
invariant-loop-found l = record {
  leading : l.self.leading ≡ l.fn.self.leading;
  within : l.self.at ≤ length l.bytes;
  few : l.self.filled ≤ l.self.at;
  followed : IsAt l.found l.self.leading (take l.self.at l.bytes) l.self.filled l.self.line;
}

abbrev pub decreases-loop-found : goal.decreases-loop-found
decreases-loop-found l = length l.bytes - l.self.at
