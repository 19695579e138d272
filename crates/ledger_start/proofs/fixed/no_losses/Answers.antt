use Rattle.std.proofs.Common.{◌∙◌, arith}
use Rattle.ledger_start.proofs.Plans.{few_actions}
use Rattle.ledger_start.proofs.Starts.{keys_length, no_keys}
use Rattle.ledger_start.proofs.fixed.no_losses.Goals as goal

pub overflow_cast-count : goal.overflow_cast-count
overflow_cast-count c =
    let few = few_actions c.args.outset.now.declared.now c.args.outset.now.observed.now c.args.outset.now.plan.now c.args.outset.now.limits c.requires in
    omega (arith, few, c.len-count.ensures)

pub returns : goal.returns
returns c = record {
  pending_size = keys_length c.in_ok-pending.pending c.len-count.result c.in_ok-pending.ensures ∙ c.len-count.ensures;
  no_pending = no_keys c.in_ok-pending.pending c.len-count.result c.in_ok-pending.ensures;
  fresh_size = keys_length c.in_ok-fresh.fresh c.len-count.result c.in_ok-fresh.ensures ∙ c.len-count.ensures;
  no_fresh = no_keys c.in_ok-fresh.fresh c.len-count.result c.in_ok-fresh.ensures;
}
