use Rattle.std.proofs.Common.{◌≡◌, ◌⊎◌, subst, sym}
use Rattle.std.specs.Prelude.{ℕ}
use Rattle.repeated_runs.proofs.Places.{said_end}
use Rattle.repeated_runs.specs.Followings.{shortened}
use Rattle.repeated_runs.proofs.running.said.Goals as goal

pub returns-clause-last : goal.returns-clause-last
returns-clause-last g c = subst (λ (status : ℕ). (record { status = status; journal = c.args.attempts.last.journal; hands = c.args.attempts.last.hands; refusal = c.say_if_any-refusal.result } ≡ c.args.attempts.last)
    ⊎ (record { status = status; journal = c.args.attempts.last.journal; hands = c.args.attempts.last.hands; refusal = c.say_if_any-refusal.result } ≡ shortened c.args.attempts.last)) (sym c.status_of.ensures)
    (said_end c.args.attempts.last c.say_if_any-refusal.result c.requires c.say_if_any-refusal.ensures.refusal)
