use Rattle.std.proofs.Common.{◌≡◌, sym, subst, rules}
use Rattle.service_graph.specs.Places.{AreWithin, links_of}
use Rattle.service_graph.proofs.InOrder.{cycle_is, within_in_order}
use Rattle.service_graph.proofs.circles.cycle.Goals as goal

pub first_back-requires : goal.first_back-requires
first_back-requires c =
    let e : c.as_slice.result.now ≡ links_of c.args.project.now.services = search rules in
    subst AreWithin (sym e) (within_in_order c.args.project.now.services c.requires)

pub returns : goal.returns
returns c = search (rules, cycle_is c.args.project.now.services c.requires)
