use Rattle.std.proofs.Common.{ℕ, List, map, ap, ◌∙◌}
use Rattle.engine_types.specs.declared.Slot.{Slot}
use Rattle.tree_base.specs.ByteOrder.{by_key, first_of_each}
use Rattle.tree_base.proofs.Sorting.{sorted_is}
use Rattle.observe_project.proofs.images.images_of.Goals as goal

pub returns : goal.returns
returns c =
    c.from_vec.ensures ∙ sorted_is c.in_ok-images.images.items c.sort.new.self.items c.in_ok-sort.ensures.permutation c.in_ok-sort.ensures.sorted
    ∙ ap (by_key (λ (t : List ℕ). t)) (c.in_ok-images.ensures ∙ ap (λ l. first_of_each (λ (t : List ℕ). t) (map (λ (s : Slot). s.image) l)) c.as_slice.ensures)
