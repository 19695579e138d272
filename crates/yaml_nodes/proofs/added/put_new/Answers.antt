use Rattle.std.proofs.Common.{◌≡◌, ◌∙◌, ◌<◌, length, sym, arith}
use Rattle.yaml_nodes.specs.Mappings.{with_new}
use Rattle.yaml_nodes.proofs.AddedSteps.{next_pair, not_past}
use Rattle.yaml_nodes.proofs.added.put_new.Goals as goal
use Rattle.yaml_nodes.proofs.added.put_new.Goals.{in-Some+in_ok-put_pair, in_default}

pub loop-at-preserved : goal.loop-at-preserved
loop-at-preserved c =
    elim c.match-pair.branch [
      | in-Some+in_ok-put_pair w ↦
          let k = w.in-Some.key.now in
          let tree = w.in-Some.tree.now in
          let put : c.match-pair.own ≡ with_new c.loop-at.own k tree = w.own-is ∙ w.in_ok-put_pair.ensures in
          next_pair c.args.own.now c.loop-at.own _ c.args.more.now c.loop-at.at (k, tree) c.len-at-end.ensures.distinct (sym w.in-Some.ensures) c.loop-at.invariant put
      | in_default w ↦
          let within : c.loop-at.at < length c.args.more.now = omega arith in
          absurd (not_past c.args.more.now c.loop-at.at within (sym w.in_default.ensures))
    ]
