-- A network that is there adds its id, and another adds none.
use Rattle.std.proofs.Common.{◌≡◌, ◌∙◌, ℕ, List, [], ◌∷◌, ◌++◌, Some, None, sym, ap}
use Rattle.std.specs.Option.{option_copied, option_map}
use Rattle.engine_types.specs.declared.Endpoint.{Endpoint}
use Rattle.engine_types.specs.declared.NetRow.{NetRow}
use Rattle.memory_engine.specs.Serving.{network_named}
use Rattle.memory_engine.proofs.Loops.{filter_map-none, filter_map-some}
use Rattle.memory_engine.proofs.creation.networks_of.Goals as goal
use Rattle.memory_engine.proofs.creation.networks_of.Goals.{in-Some+in_ok-copy+in_ok-push, in_default}

pub loop-endpoint-preserved : goal.loop-endpoint-preserved
loop-endpoint-preserved c =
    let items = c.endpoints-endpoint-items.result.now in
    let named = λ (endpoint : Endpoint). network_named c.args.engine.now endpoint.key in
    let was = ap (option_map (λ (row : NetRow). row.id)) (sym c.network_named.ensures) in
    elim c.match-network_named.branch [
      | in-Some+in_ok-copy+in_ok-push w ↦
          let id = w.in-Some.row.now.id in
          let gives : named c.endpoint-item.result ≡ Some id = was ∙ ap (λ o. option_map (λ (row : NetRow). row.id) (option_copied o)) w.in-Some.is in
          w.ids-is ∙ w.in_ok-push.ensures.ok ∙ ap (λ (i : List ℕ). c.loop-endpoint.ids ++ i ∷ []) w.in_ok-copy.ensures
          ∙ ap (λ (ids : List (List ℕ)). ids ++ id ∷ []) c.loop-endpoint.invariant
          ∙ sym (filter_map-some items c.loop-endpoint.endpoint-index c.endpoint-item.result c.loop-endpoint-test.true c.endpoint-item.is named id gives)
      | in_default w ↦
          let gives : named c.endpoint-item.result ≡ None = was ∙ ap (λ o. option_map (λ (row : NetRow). row.id) (option_copied o)) w.in_default.is in
          w.ids-is ∙ c.loop-endpoint.invariant
          ∙ sym (filter_map-none items c.loop-endpoint.endpoint-index c.endpoint-item.result c.loop-endpoint-test.true c.endpoint-item.is named gives)
    ]
