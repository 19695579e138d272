use Rattle.std.proofs.Common.{◌≡◌, ◌∙◌, ◌∷◌, [], List, sym}
use Rattle.engine_types.specs.declared.Entry.{Entry}
use Rattle.project_run.proofs.Exact.{if_any}
use Rattle.parallel_run.proofs.whole_run.run_parallel_given.Goals as goal

never_empty : (journal : List Entry) → (entry : Entry) × (rest : List Entry) × (journal ≡ entry ∷ rest) → journal ≡ [] → ⊥
never_empty journal begun e = let bad : begun.0 ∷ begun.1 ≡ [] = sym begun.2 ∙ e in cc bad

pub returns-in-Ok-clause-empty : goal.returns-in-Ok-clause-empty
returns-in-Ok-clause-empty g c = λ e. absurd (never_empty c.run.result.ran.journal c.run.ensures.leaves.begun e)

pub returns-in-Ok-clause-leaves : goal.returns-in-Ok-clause-leaves
returns-in-Ok-clause-leaves g c = if_any c.run.result.ran.journal c.run.ensures.leaves

pub returns-in-Ok-clause-fault : goal.returns-in-Ok-clause-fault
returns-in-Ok-clause-fault g c = if_any c.run.result.ran.journal c.run.ensures.fault
