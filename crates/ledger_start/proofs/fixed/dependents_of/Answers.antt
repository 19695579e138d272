use Rattle.plan_needs.proofs.Turning.{net, released}
use Rattle.ledger_start.specs.Outsets.{start_setup}
use Rattle.ledger_start.proofs.fixed.dependents_of.Goals as goal

pub returns : goal.returns
returns c = record {
  released_size = c.in_ok-released.ensures.size;
  released = λ a. released (start_setup c.args.outset.now) c.args.starts.now c.in_ok-released.released a c.requires.starts c.in_ok-released.ensures.turned;
  net = net (start_setup c.args.outset.now) c.args.starts.now c.in_ok-stopped.stopped c.in_ok-freed.freed c.requires.starts c.in_ok-stopped.ensures.size c.in_ok-freed.ensures.size
      c.in_ok-stopped.ensures.turned c.in_ok-freed.ensures.turned;
  healthy = c.in_ok-healthy.ensures;
  completed = c.in_ok-completed.ensures;
}
