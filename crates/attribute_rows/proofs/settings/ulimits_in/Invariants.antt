use Rattle.std.proofs.Common.{◌≡◌, drop, map}
use Rattle.tree_base.specs.declared.Tree.{out-Tree}
use Rattle.attribute_scalars.specs.Views.{seen_entry}
use Rattle.attribute_scalars.specs.Walks.{each_entry}
use Rattle.attribute_scalars.proofs.Walks.{Behind}
use Rattle.attribute_rows.specs.Rows.{ulimit_of}
use Rattle.attribute_rows.proofs.settings.ulimits_in.Given as goal

abbrev pub invariant-loop-entry : goal.invariant-loop-entry
invariant-loop-entry l =
    Behind (λ key value. ulimit_of key (out-Tree value)) l.list (drop l.entry-index (map seen_entry l.entries))
    ≡ each_entry (λ key value. ulimit_of key (out-Tree value)) (map seen_entry l.entries)
