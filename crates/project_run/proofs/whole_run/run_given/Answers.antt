use Rattle.std.proofs.Common.{◌≡◌, ◌∙◌, ◌∷◌, [], List, ap, sym}
use Rattle.engine_types.specs.declared.Entry.{Entry}
use Rattle.outside_api.specs.Clock.{Clock}
use Rattle.project_run.proofs.Exact.{if_any}
use Rattle.project_run.specs.Options.{limits_in}
use Rattle.project_run.proofs.whole_run.run_given.Goals as goal

never_empty : (journal : List Entry) → (entry : Entry) × (rest : List Entry) × (journal ≡ entry ∷ rest) → journal ≡ [] → ⊥
never_empty journal begun e = let bad : begun.0 ∷ begun.1 ≡ [] = sym begun.2 ∙ e in cc bad

pub returns-in-Ok-clause-empty : goal.returns-in-Ok-clause-empty
returns-in-Ok-clause-empty g c = λ e. absurd (never_empty c.run.result.ran.journal c.run.ensures.leaves.begun e)

pub returns-in-Ok-clause-leaves : goal.returns-in-Ok-clause-leaves
returns-in-Ok-clause-leaves g c = if_any c.run.result.ran.journal c.run.ensures.leaves

pub returns-in-Ok-clause-fault : goal.returns-in-Ok-clause-fault
returns-in-Ok-clause-fault g c = if_any c.run.result.ran.journal c.run.ensures.fault

pub returns-in-Err-clause-limits : goal.returns-in-Err-clause-limits
returns-in-Err-clause-limits g c = c.unread_limits.ensures ∙ ap (λ (k : Clock). limits_in 1 c.args.options c.args.given k.first) (sym c.requires.unused)
