use Rattle.std.proofs.Common.{◌≡◌, ◌∙◌, ap, length, sym}
use Rattle.std.specs.Prelude.{ℕ}
use Rattle.parallel_run.proofs.Each.{never_read}
use Rattle.project_run.specs.Options.{limits_in}
use Rattle.parallel_run.proofs.whole_run.unread.Goals as goal

pub returns-clause-limits : goal.returns-clause-limits
returns-clause-limits g c = c.unread_limits.ensures
    ∙ (ap (λ (workers : ℕ). limits_in workers c.args.options c.args.given 0) c.len-workers.ensures
    ∙ ap (limits_in (length c.args.hands) c.args.options c.args.given) (sym (never_read (λ h. g.H.Hand.clock h) c.args.hands c.requires.some c.requires.unused)))
