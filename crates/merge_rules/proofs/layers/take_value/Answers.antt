use Rattle.std.proofs.Common.{◌∙◌, ap, ℕ, List}
use Rattle.tree_base.specs.Entries.{with_entry}
use Rattle.tree_base.specs.declared.Tree.{Tree, Null}
use Rattle.merge_rules.specs.Overlay.{with_value}
use Rattle.merge_rules.proofs.Laying.{value_put}
use Rattle.merge_rules.proofs.layers.take_value.Goals as goal

pub returns-in_ok-put-clause-left : goal.returns-in_ok-put-clause-left
returns-in_ok-put-clause-left c = λ new.
    let all = c.args.entries.now in
    let key = c.args.key.now in
    ap (λ (es : List (List ℕ × Tree)). with_value es key new) (c.in_ok-put.ensures.ok ∙ ap (λ (k : List ℕ). with_entry all k Null) c.in_ok-copy.ensures)
    ∙ value_put all key new
