use Rattle.laws_pages.proofs.OrderedProjects.{order_does_not_matter}
use Rattle.laws_pages.proofs.order.order_does_not_matter.Goals as goal

pub returns : goal.returns
returns c = order_does_not_matter
