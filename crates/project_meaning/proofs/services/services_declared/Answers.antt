use Rattle.std.proofs.Common.{List, map, subst, sym}
use Rattle.tree_base.specs.ByteOrder.{IsAscending, is_before}
use Rattle.attribute_scalars.specs.Views.{seen_entry}
use Rattle.attribute_scalars.specs.declared.entries.Entry.{Entry}
use Rattle.project_meaning.proofs.Ordered.{services_ascend}
use Rattle.project_meaning.proofs.services.services_declared.Goals as goal

pub returns-in-Ok-clause-order : goal.returns-in-Ok-clause-order
returns-in-Ok-clause-order c =
    services_ascend (map seen_entry c.as_slice.result.now) c.in-Ok.list c.in-Ok.ensures
    (subst (λ (list : List Entry). IsAscending (λ one other. is_before one.0 other.0) (map seen_entry list)) (sym c.as_slice.ensures.value) c.in_ok-sorted.ensures.order)
