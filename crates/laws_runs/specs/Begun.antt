-- Runs that began with something.
use Rattle.std.specs.Prelude.{◌≡◌, List, ◌∷◌}
use Rattle.engine_types.specs.declared.Entry.{Entry}
use Rattle.engine_types.specs.declared.Observed.{Observed}
use Rattle.journal_laws.specs.Courses.{Course}
use Rattle.ledger_core.specs.Beginning.{MayBegin}

-- a run that began with this observation, and might
pub record BeganWith (observed : Observed) (run : Course) : Type 0 where
  pub may : MayBegin run.declared observed run.plan run.limits
  pub rest : List Entry
  pub journal : run.journal ≡ Entry.Seen observed ∷ rest
