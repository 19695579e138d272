use Rattle.std.proofs.Common.{◌∙◌, ap, map}
use Rattle.attribute_scalars.specs.Views.{seen_entry}
use Rattle.attribute_scalars.specs.Walks.{in_byte_order}
use Rattle.project_meaning.proofs.Ordered.{entries_ascend}
use Rattle.project_meaning.proofs.entries.sorted_entries.Goals as goal

pub returns-clause-order : goal.returns-clause-order
returns-clause-order c =
    entries_ascend c.args.entries.now (map seen_entry c.in_ok-sorted.sorted.items) c.in_ok-entries_of.ensures.distinct (c.in_ok-sorted.ensures.value ∙ ap in_byte_order c.in_ok-entries_of.ensures.value)
