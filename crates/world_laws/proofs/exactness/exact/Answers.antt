-- Networks and volumes are looked at first, then containers.
use Rattle.std.proofs.Common.{◌∙◌, sym}
use Rattle.world_laws.proofs.Exactly.{containers_tell, no_networks, no_volumes}
use Rattle.world_laws.proofs.exactness.exact.Goals as goal
use Rattle.world_laws.proofs.exactness.exact.Goals.{then-not-branch-via-then-not-branch, then-not-branch-via-else-not-branch+then-not-holds_volumes}

pub returns-then-not-branch : goal.returns-then-not-branch
returns-then-not-branch c =
    elim c.then-not-branch.branch [
      | then-not-branch-via-then-not-branch w ↦ no_networks c.args.declared.now c.args.engine.now c.args.orphans (sym c.in_ok-holds_networks.ensures ∙ w.if-not-branch.true)
      | then-not-branch-via-else-not-branch+then-not-holds_volumes w ↦ no_volumes c.args.declared.now c.args.engine.now c.args.orphans (sym w.holds_volumes.ensures ∙ w.if-not-holds_volumes.true)
    ]

pub returns : goal.returns
returns c =
    containers_tell c.args.declared.now c.args.engine.now c.args.orphans c.holds_containers.result (sym c.in_ok-holds_networks.ensures ∙ c.if-not-branch.false)
    (sym c.holds_volumes.ensures ∙ c.if-not-holds_volumes.false) c.holds_containers.ensures
