use Rattle.std.proofs.Common.{◌∙◌, ap, ℕ, List}
use Rattle.tree_base.specs.ByteOrder.{by_key}
use Rattle.tree_base.proofs.Sorting.{sorted_is}
use Rattle.container_specs.proofs.lists.in_byte_order.Goals as goal

pub returns : goal.returns
returns c =
    c.from_vec.ensures ∙ sorted_is c.into_vec-texts.result.items c.sort.new.self.items c.in_ok-sort.ensures.permutation c.in_ok-sort.ensures.sorted
    ∙ ap (by_key (λ (t : List ℕ). t)) c.into_vec-texts.ensures
