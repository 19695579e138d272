-- A / ends the search, and a : before it is found.
use Rattle.std.proofs.Common.{arith}
use Rattle.http_request.proofs.Tags.{at_colon, at_slash}
use Rattle.http_request.proofs.images.tag_place.Goals as goal

pub returns-then-name-at-eq47-clause-place : goal.returns-then-name-at-eq47-clause-place
returns-then-name-at-eq47-clause-place c =
    at_slash c.args.name.now c.loop-at.at (omega arith) c.loop-at.invariant.within c.if-name-at-eq47.true c.loop-at.invariant.no_tag

pub returns-then-name-at-eq58-clause-place : goal.returns-then-name-at-eq58-clause-place
returns-then-name-at-eq58-clause-place c =
    at_colon c.args.name.now c.loop-at.at (omega arith) c.loop-at.invariant.within c.if-name-at-eq58.true c.loop-at.invariant.no_slash c.loop-at.invariant.no_tag
