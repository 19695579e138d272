use Rattle.std.proofs.Common.{◌≡◌, ◌==◌, ◌+◌, not, drop}
use Rattle.std.specs.List.{prefix_len}
use Rattle.http_request.specs.Images.{at_sign, digest_place}
use Rattle.http_request.proofs.images.digest_place.Given as goal

abbrev pub invariant-loop-at : goal.invariant-loop-at
invariant-loop-at l = digest_place l.name ≡ l.at + prefix_len (λ b. not (b == at_sign)) (drop l.at l.name)
