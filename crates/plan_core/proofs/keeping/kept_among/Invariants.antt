use Rattle.std.proofs.Common.{◌≡◌, ◌≤◌, drop, length}
use Rattle.std.specs.Prelude.{filter}
use Rattle.tree_base.specs.ByteOrder.{least_by}
use Rattle.plan_core.specs.Keeping.{agrees_at}
use Rattle.plan_core.specs.Rows.{id_at}
use Rattle.plan_core.proofs.keeping.kept_among.Given as goal

-- the best of the places that were looked at, from the last one on
abbrev pub invariant-loop-at : goal.invariant-loop-at
invariant-loop-at l = (l.best ≡ least_by (id_at l.seen.containers) (filter (agrees_at l.declared l.seen l.slot) (drop l.at l.places))) × (l.at ≤ length l.places)
