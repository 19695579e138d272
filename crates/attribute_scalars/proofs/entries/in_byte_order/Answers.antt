use Rattle.std.proofs.Common.{map, refl, rules}
use Rattle.std.proofs.lemmas.Cmp.{nat_list_cmp_total}
use Rattle.std.proofs.lemmas.List.Sorted.{answers_always, ranks_by}
use Rattle.tree_base.specs.ByteOrder.{is_before}
use Rattle.attribute_scalars.specs.Views.{seen_entry}
use Rattle.attribute_scalars.specs.declared.entries.Entry.{Entry}
use Rattle.attribute_scalars.proofs.EntryOrder.{entries_sorted, sorted_distinct}
use Rattle.attribute_scalars.proofs.entries.in_byte_order.Goals as goal

pub returns-clause-value : goal.returns-clause-value
returns-clause-value c =
    entries_sorted seen_entry c.args.entries.items c.sort_by.new.self.items (map seen_entry c.args.entries.items) refl c.requires
    c.in_ok-sort_by.ensures.permutation
    (c.in_ok-sort_by.ensures.sorted (λ (one other : Entry). is_before one.key.now other.key.now) (ranks_by nat_list_cmp_total (λ (entry : Entry). entry.key.now)) (answers_always _ _ _ (λ f a r q k. search rules)))

pub returns-clause-distinct : goal.returns-clause-distinct
returns-clause-distinct c = sorted_distinct seen_entry c.args.entries.items c.sort_by.new.self.items c.requires c.in_ok-sort_by.ensures.permutation
