-- A network that is there adds its name, and another adds none.
use Rattle.std.proofs.Common.{◌≡◌, ◌∙◌, ℕ, List, [], Some, None, fold, sym, ap}
use Rattle.std.specs.Option.{option_copied, option_map}
use Rattle.engine_types.specs.declared.NetRow.{NetRow}
use Rattle.memory_engine.specs.Listing.{network_name, with_name}
use Rattle.memory_engine.proofs.Loops.{filter_map-none, fold-filter_map-some}
use Rattle.memory_engine.proofs.listing.names_of.Goals as goal
use Rattle.memory_engine.proofs.listing.names_of.Goals.{in-Some+in_ok-put_name, in_default}

pub loop-id-preserved : goal.loop-id-preserved
loop-id-preserved c =
    let named = network_name c.args.engine.now in
    let was = ap (option_map (λ (row : NetRow). row.name)) (sym c.network.ensures) in
    elim c.match-network.branch [
      | in-Some+in_ok-put_name w ↦
          let name = w.in-Some.row.now.name in
          let gives : named c.id-item.result ≡ Some name = was ∙ ap (λ o. option_map (λ (row : NetRow). row.name) (option_copied o)) w.in-Some.is in
          ap (λ names. names.items) w.names-is ∙ w.in_ok-put_name.ensures ∙ ap (λ (names : List (List ℕ)). with_name names name) c.loop-id.invariant
          ∙ sym (fold-filter_map-some c.args.ids.now c.loop-id.id-index c.id-item.result c.loop-id-test.true c.id-item.is with_name [] named name gives)
      | in_default w ↦
          let gives : named c.id-item.result ≡ None = was ∙ ap (λ o. option_map (λ (row : NetRow). row.name) (option_copied o)) w.in_default.is in
          ap (λ names. names.items) w.names-is ∙ c.loop-id.invariant
          ∙ ap (fold with_name []) (sym (filter_map-none c.args.ids.now c.loop-id.id-index c.id-item.result c.loop-id-test.true c.id-item.is named gives))
    ]
