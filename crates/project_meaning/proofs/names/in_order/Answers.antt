use Rattle.tree_base.proofs.Sorting.{sorted_is}
use Rattle.project_meaning.proofs.names.in_order.Goals as goal

pub returns-clause-value : goal.returns-clause-value
returns-clause-value c = sorted_is c.args.names.items c.sort.new.self.items c.in_ok-sort.ensures.permutation c.in_ok-sort.ensures.sorted
