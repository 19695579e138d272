use Rattle.std.proofs.Common.{◌≡◌, ◌∙◌, true, false, Some, length, get_or, sym, ap, arith}
use Rattle.std.specs.Prelude.{find, slice_get}
use Rattle.std.proofs.lemmas.List.{drop_all}
use Rattle.std.proofs.lemmas.Option.{slice_get-get_or}
use Rattle.service_graph.specs.declared.ways.Reached.{Reached}
use Rattle.service_graph.specs.Places.{leads_back}
use Rattle.service_graph.specs.Reaching.{ways_of}
use Rattle.service_graph.proofs.Loops.{back_there}
use Rattle.service_graph.proofs.Reached.{length-ways}
use Rattle.service_graph.proofs.ways.leading_back.Goals as goal

pub returns-then-leads_to-clause-value : goal.returns-then-leads_to-clause-value
returns-then-leads_to-clause-value c =
    let d : Reached = record { place = 0; from = 0 } in
    let e : slice_get c.args.reached.now c.loop-at.at ≡ Some (get_or c.args.reached.now c.loop-at.at d) = slice_get-get_or c.args.reached.now c.loop-at.at d c.loop-at-test.true in
    sym (c.loop-at.invariant
    ∙ back_there c.args.links.now c.args.start c.args.reached.now c.loop-at.at (get_or c.args.reached.now c.loop-at.at d) e true (sym c.if-leads_to.true ∙ c.leads_to.ensures))

pub loop-at-preserved : goal.loop-at-preserved
loop-at-preserved c =
    let d : Reached = record { place = 0; from = 0 } in
    let e : slice_get c.args.reached.now c.loop-at.at ≡ Some (get_or c.args.reached.now c.loop-at.at d) = slice_get-get_or c.args.reached.now c.loop-at.at d c.loop-at-test.true in
    c.loop-at.invariant
    ∙ back_there c.args.links.now c.args.start c.args.reached.now c.loop-at.at (get_or c.args.reached.now c.loop-at.at d) e false (sym c.if-leads_to.false ∙ c.leads_to.ensures)

pub returns-clause-value : goal.returns-clause-value
returns-clause-value c =
    let n : length (ways_of c.args.reached.now) ≡ length c.args.reached.now = length-ways c.args.reached.now in
    sym (c.loop-at.invariant ∙ ap (find (leads_back c.args.links.now c.args.start)) (drop_all c.loop-at.at (ways_of c.args.reached.now) (omega (arith, n, c.loop-at-test.false))))
