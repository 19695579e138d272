use Rattle.std.proofs.Common.{◌≡◌, drop, map}
use Rattle.tree_base.specs.Entries.{HasDistinctKeys}
use Rattle.attribute_scalars.specs.Views.{seen_entry}
use Rattle.attribute_scalars.specs.Walks.{with_wanting}
use Rattle.attribute_values.proofs.fields.with_wanting.Given as goal

abbrev pub invariant-loop-name : goal.invariant-loop-name
invariant-loop-name l = record {
  value : with_wanting (drop l.name-index (map (λ name. name.now) l.wanted)) (map seen_entry l.all.items)
      ≡ with_wanting (map (λ name. name.now) l.wanted) (map seen_entry l.entries);
  distinct : HasDistinctKeys (map seen_entry l.all.items);
}
