use Rattle.std.proofs.Common.{Option, subst, sym}
use Rattle.logs_run.specs.Refusing.{RefusedBy}
use Rattle.engine_types.specs.declared.LogsRefusal.{LogsRefusal}
use Rattle.logs_run.proofs.Refusals.{refused_by}
use Rattle.logs_run.proofs.ending.refusal.Goals as goal

pub returns-in-Ok : goal.returns-in-Ok
returns-in-Ok c =
    subst (λ (said : Option LogsRefusal). RefusedBy c.args.declared.now c.args.rows.now c.args.met c.args.entries.now said) (sym c.or_full.ensures)
    (refused_by c.args.declared.now c.args.rows.now c.args.met c.args.entries.now c.if-short.false c.in-Ok.found c.in-Ok.ensures)
