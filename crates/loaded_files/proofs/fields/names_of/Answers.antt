use Rattle.std.proofs.Common.{List, ℕ, ap, ◌∙◌}
use Rattle.tree_base.specs.ByteOrder.{by_key}
use Rattle.tree_base.proofs.Sorting.{sorted_is}
use Rattle.loaded_files.proofs.fields.names_of.Goals as goal

pub returns : goal.returns
returns c =
    c.from_vec.ensures ∙ sorted_is c.into_vec-names.result.items c.sort.new.self.items c.in_ok-sort.ensures.permutation c.in_ok-sort.ensures.sorted
    ∙ ap (by_key (λ (name : List ℕ). name)) (c.into_vec-names.ensures ∙ c.in_ok-copy_slice.ensures ∙ c.keys.ensures)
