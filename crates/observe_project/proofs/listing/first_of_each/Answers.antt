use Rattle.std.proofs.Common.{◌≡◌, [], ◌∷◌, ◌++◌, ◌+◌, take, sym, ap, ◌∙◌, arith}
use Rattle.std.proofs.lemmas.List.{take_more}
use Rattle.engine_types.specs.declared.Listed.{Listed}
use Rattle.tree_base.specs.ByteOrder.{first_of_each}
use Rattle.observe_project.proofs.listing.first_of_each.Goals as goal

pub loop-row-preserved : goal.loop-row-preserved
loop-row-preserved c =
    let rows = c.args.rows.now in let i = c.loop-row.row-index in
    let next : take (i + 1) rows ≡ take i rows ++ c.row-item.result ∷ [] = take_more rows i c.row-item.result (omega arith) ∙ ap (λ x. take i rows ++ x ∷ []) (sym c.row-item.is) in
    let kept = c.in_ok-keep_new.ensures (take i rows) c.loop-row.invariant.are c.loop-row.invariant.knows in
    record { are = kept.0 ∙ ap (first_of_each (λ (r : Listed). r.id)) (sym next); knows = kept.1 }
