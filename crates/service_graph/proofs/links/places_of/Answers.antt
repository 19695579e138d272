use Rattle.std.proofs.Common.{◌∙◌, ◌++◌, [], List, ℕ, take, sym, ap}
use Rattle.std.specs.Prelude.{Option, filter_map}
use Rattle.std.specs.List.{cons_option}
use Rattle.attribute_types.specs.declared.rows.Dependency.{Dependency}
use Rattle.service_graph.specs.Places.{place_of}
use Rattle.service_graph.proofs.Lists.{filter_map_more}
use Rattle.service_graph.proofs.links.places_of.Goals as goal

pub loop-need-preserved : goal.loop-need-preserved
loop-need-preserved c =
    let needs : List Dependency = c.needs_of-needs.result.now in
    let place : Dependency → Option ℕ = λ need. place_of c.args.services.now need.key in
    c.in_ok-put.ensures ∙ ap (λ (ps : List ℕ). ps ++ cons_option c.place_of.result []) c.loop-need.invariant
    ∙ ap (λ (o : Option ℕ). filter_map place (take c.loop-need.need-index needs) ++ cons_option o []) (c.place_of.ensures ∙ ap place c.need-item.is)
    ∙ sym (filter_map_more place needs c.loop-need.need-index c.need-item.result c.loop-need-test.true)
