use Rattle.std.proofs.Common.{◌∙◌, [], rules}
use Rattle.std.proofs.lemmas.Cmp.{nat_list_cmp_total}
use Rattle.std.proofs.lemmas.List.Sorted.{answers_always, ranks_by}
use Rattle.attribute_scalars.proofs.Ordering.{keys_sorted, sorted_by_key}
use Rattle.tree_base.specs.ByteOrder.{is_before}
use Rattle.tree_base.specs.declared.place.Var.{Var}
use Rattle.declared_resources.proofs.labels.in_byte_order.Goals as goal

pub returns : goal.returns
returns c =
    c.from_vec.ensures
    ∙ sorted_by_key (λ (variable : Var). variable.name) (record { name = []; value = [] }) c.args.variables.items c.sort_by.new.self.items c.requires c.in_ok-sort_by.ensures.permutation
    (keys_sorted (λ (variable : Var). variable.name) c.sort_by.new.self.items
    (c.in_ok-sort_by.ensures.sorted (λ (one other : Var). is_before one.name other.name) (ranks_by nat_list_cmp_total (λ (variable : Var). variable.name)) (answers_always _ _ _ (λ f a r q k. search rules))))
