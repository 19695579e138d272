use Rattle.std.proofs.Common.{◌≡◌, ◌≤◌, drop, length, false, None}
use Rattle.http_request.specs.Images.{tag_place}
use Rattle.http_request.proofs.Tags.{has_slash}
use Rattle.http_request.proofs.images.tag_place.Given as goal

abbrev pub invariant-loop-at : goal.invariant-loop-at
invariant-loop-at l = record {
  within : l.at ≤ length l.name;
  no_slash : has_slash (drop l.at l.name) ≡ false;
  no_tag : tag_place (drop l.at l.name) ≡ None;
}

abbrev pub decreases-loop-at : goal.decreases-loop-at
decreases-loop-at l = l.at
