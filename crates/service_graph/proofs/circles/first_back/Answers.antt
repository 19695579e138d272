use Rattle.std.proofs.Common.{◌≡◌, ◌∙◌, None, sym, arith}
use Rattle.std.proofs.lemmas.Grind.{common_steps}
use Rattle.service_graph.proofs.Loops.{first_later}
use Rattle.service_graph.proofs.circles.first_back.Goals as goal

pub loop-start-preserved : goal.loop-start-preserved
loop-start-preserved c =
    let none : c.in_ok-way.field-0 ≡ None = grind (arith, common_steps, c.in_default.is, c.in_default.not-Some) in
    c.loop-start.invariant ∙ first_later c.args.links.now c.loop-start.start None c.loop-start-test.true (sym none ∙ c.in_ok-way.ensures)
