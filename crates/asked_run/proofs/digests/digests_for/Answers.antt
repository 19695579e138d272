use Rattle.std.proofs.Common.{◌≡◌, ◌∙◌, true, false, ap, sym}
use Rattle.asked_run.specs.Declaring.{reads_digests}
use Rattle.asked_run.proofs.digests.digests_for.Goals as goal

pub returns-in-Up-clause-unread : goal.returns-in-Up-clause-unread
returns-in-Up-clause-unread g c = λ e. let bad : true ≡ false = ap reads_digests (sym c.in-Up.is) ∙ e in absurd (cc bad)
