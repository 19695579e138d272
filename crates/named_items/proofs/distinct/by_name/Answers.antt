use Rattle.std.proofs.Common.{◌∙◌, Bor, ap, rules}
use Rattle.std.proofs.lemmas.Cmp.{nat_list_cmp_total}
use Rattle.std.proofs.lemmas.List.Sorted.{answers_always, ranks_by}
use Rattle.tree_base.specs.ByteOrder.{by_key, is_before}
use Rattle.named_items.proofs.Sorted.{sorted_ascend, sorted_distinct, sorted_rows}
use Rattle.named_items.proofs.distinct.by_name.Goals as goal

pub returns-clause-rows : goal.returns-clause-rows
returns-clause-rows g c =
    let known = g.T.Named.known in
    sorted_rows known (λ (row : Bor g.row.T.Denot). row.now) c.in_ok-rows.rows.items c.sort_by.new.self.items c.in_ok-rows.ensures.distinct c.in_ok-sort_by.ensures.permutation
    (c.in_ok-sort_by.ensures.sorted (λ (one other : Bor g.row.T.Denot). is_before (known one.now) (known other.now)) (ranks_by nat_list_cmp_total (λ (row : Bor g.row.T.Denot). known row.now)) (answers_always _ _ _ (λ f a r q k. search rules)))
    ∙ ap (by_key known) c.in_ok-rows.ensures.rows

pub returns-clause-distinct : goal.returns-clause-distinct
returns-clause-distinct g c =
    sorted_distinct g.T.Named.known (λ (row : Bor g.row.T.Denot). row.now) c.in_ok-rows.rows.items c.sort_by.new.self.items c.in_ok-rows.ensures.distinct c.in_ok-sort_by.ensures.permutation

pub returns-clause-order : goal.returns-clause-order
returns-clause-order g c =
    let known = g.T.Named.known in
    sorted_ascend known (λ (row : Bor g.row.T.Denot). row.now) c.in_ok-rows.rows.items c.sort_by.new.self.items c.in_ok-rows.ensures.distinct c.in_ok-sort_by.ensures.permutation
    (c.in_ok-sort_by.ensures.sorted (λ (one other : Bor g.row.T.Denot). is_before (known one.now) (known other.now)) (ranks_by nat_list_cmp_total (λ (row : Bor g.row.T.Denot). known row.now)) (answers_always _ _ _ (λ f a r q k. search rules)))
