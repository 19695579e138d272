use Rattle.std.proofs.Common.{◌∙◌, arith}
use Rattle.std.specs.Cmp.Lexicographic.{nat_list_eq_equiv}
use Rattle.std.specs.Str.{bytes_eq}
use Rattle.indexmap.specs.IndexSet.{insert_key}
use Rattle.tree_base.proofs.Pairs.{insert-next}
use Rattle.tree_base.proofs.text_map.copy_keys.Goals as goal

pub loop-key-preserved : goal.loop-key-preserved
loop-key-preserved c =
    c.in_ok-insert.ensures.keys
    ∙ (λ i. insert_key bytes_eq (c.loop-key.invariant i) (c.in_ok-copy.ensures i))
    ∙ insert-next nat_list_eq_equiv c.args.keys.now c.loop-key.key-index c.key-item.result c.requires c.key-item.is (omega arith)
