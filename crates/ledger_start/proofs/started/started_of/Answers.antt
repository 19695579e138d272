use Rattle.std.proofs.Common.{◌<◌, ℕ, List, Option, length, sym, ap, ◌∙◌, subst}
use Rattle.engine_types.specs.declared.Condition.{Condition}
use Rattle.plan_needs.specs.Laws.{AreStarts}
use Rattle.start_rows.specs.Asks.{AreAskingRows}
use Rattle.start_rows.specs.declared.ask.Ask.{Ask}
use Rattle.ledger_start.specs.Outsets.{start_setup}
use Rattle.ledger_start.proofs.started.started_of.Goals as goal

pub action_rows-requires-clause-starts : goal.action_rows-requires-clause-starts
action_rows-requires-clause-starts c = subst (λ (starts : List (Option ℕ)). AreStarts (start_setup c.args.outset.now) starts) (sym c.as_slice-starts.ensures) c.in_ok-starts.ensures.each

pub dependents_of-requires-clause-starts : goal.dependents_of-requires-clause-starts
dependents_of-requires-clause-starts c = subst (λ (starts : List (Option ℕ)). AreStarts (start_setup c.args.outset.now) starts) (sym c.as_slice-starts.ensures) c.in_ok-starts.ensures.each

pub slot_rows-requires : goal.slot_rows-requires
slot_rows-requires c =
    let starts : AreStarts (start_setup c.args.outset.now) c.as_slice-starts.result.now = subst (λ (starts : List (Option ℕ)). AreStarts (start_setup c.args.outset.now) starts) (sym c.as_slice-starts.ensures) c.in_ok-starts.ensures.each in
    record {
      may = c.requires;
      starts = starts;
      starts_size = ap length c.as_slice-starts.ensures ∙ c.in_ok-starts.ensures.size;
      few = subst (λ (starts : List (Option ℕ)). length starts < 4294967296) (sym c.as_slice-starts.ensures) c.in_ok-starts.ensures.few;
      healthy_size = ap length c.as_slice-healthy.ensures ∙ c.in_ok-dependents.ensures.healthy.asking_size;
      healthy = subst (λ (rows : List (List ℕ)). AreAskingRows Ask.Any Condition.Healthy (start_setup c.args.outset.now) rows) (sym c.as_slice-healthy.ensures) (λ s a l. (c.in_ok-dependents.ensures.healthy.asking s).each a);
      completed_size = ap length c.as_slice-completed.ensures ∙ c.in_ok-dependents.ensures.completed.asking_size;
      completed = subst (λ (rows : List (List ℕ)). AreAskingRows Ask.Any Condition.Completed (start_setup c.args.outset.now) rows) (sym c.as_slice-completed.ensures) (λ s a l. (c.in_ok-dependents.ensures.completed.asking s).each a);
    }

pub returns : goal.returns
returns c = record {
  said = c.in_ok-rows.ensures.said;
  watched = c.in_ok-slots.ensures;
  idle = c.in_ok-workers.ensures;
  few_needs = c.in_ok-rows.ensures.few;
  fixed = c.in_ok-dependents.ensures;
  told = c.in_ok-places.ensures;
  unlost = c.in_ok-losses.ensures;
}
