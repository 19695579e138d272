-- Where no service rolls, a run has the plan's needs.
use Rattle.std.proofs.Common.{◌∙◌, ap, sym}
use Rattle.std.specs.List.{list_any}
use Rattle.std.specs.Prelude.{is_some}
use Rattle.run_model.specs.Plans.{basis_of, up_aim}
use Rattle.engine_types.specs.declared.DeclaredService.{DeclaredService}
use Rattle.run_model.proofs.RollLaws.{unrolled}
use Rattle.rolling_update.proofs.Joining.{none_rolls}
use Rattle.rolling_update.proofs.adding.roll.Goals as goal

pub returns-then-not-any_rolls-clause-rolled : goal.returns-then-not-any_rolls-clause-rolled
returns-then-not-any_rolls-clause-rolled c = λ orphans is.
    is ∙ sym (unrolled (basis_of c.args.declared.now c.args.seen.now (up_aim orphans)) (none_rolls c.args.declared.now.services
    (sym (c.any_rolls.ensures ∙ ap (list_any (λ (service : DeclaredService). is_some service.roll)) c.as_slice.ensures) ∙ c.if-not-any_rolls.true)))
