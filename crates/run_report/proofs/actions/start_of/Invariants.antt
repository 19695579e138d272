use Rattle.std.proofs.Common.{◌≡◌, ℕ, ◌-◌, length}
use Rattle.std.specs.Prelude.{find}
use Rattle.run_model.specs.Plans.{is_start_of, kind_of, start_of}
use Rattle.run_model.specs.Numbers.{numbers_from}
use Rattle.run_report.proofs.actions.start_of.Given as goal

abbrev pub invariant-loop-at : goal.invariant-loop-at
invariant-loop-at l =
    find (λ (a : ℕ). is_start_of l.slot (kind_of l.plan.actions a)) (numbers_from l.at (length l.plan.actions - l.at)) ≡ start_of l.plan.actions l.slot
