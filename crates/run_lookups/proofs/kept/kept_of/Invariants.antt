use Rattle.std.proofs.Common.{◌≡◌, drop}
use Rattle.std.specs.Option.{option_copied}
use Rattle.std.specs.Prelude.{filter}
use Rattle.run_model.specs.Plans.{agrees_seen}
use Rattle.tree_base.specs.ByteOrder.{least_by}
use Rattle.run_lookups.proofs.kept.kept_of.Given as goal

-- the best of the rows that were looked at, from the last one on
abbrev pub invariant-loop-at : goal.invariant-loop-at
invariant-loop-at l = option_copied l.best ≡ least_by (λ row. row.id) (filter (agrees_seen l.declared l.seen l.slot) (drop l.at l.rows))
