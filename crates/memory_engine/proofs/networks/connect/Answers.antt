-- The container that was found is the one that joins.
use Rattle.std.proofs.Common.{◌≡◌, ◌∙◌, false, [], ◌∷◌, ◌++◌, sym, ap, refl, Some, List, ℕ, rules, tests}
use Rattle.std.specs.Prelude.{is_none}
use Rattle.std.specs.Str.{bytes_eq}
use Rattle.engine_types.specs.declared.ContainerRow.{ContainerRow}
use Rattle.run_model.specs.EngineRules.{container_at, is_on, network_at}
use Rattle.memory_engine.specs.Serving.{joined_row, with_first}
use Rattle.memory_engine.proofs.Places.{with_first-agree}
use Rattle.memory_engine.proofs.Outcomes.{none_copied}
use Rattle.memory_engine.proofs.networks.connect.Goals as goal

pub returns-clause-ok : goal.returns-clause-ok
returns-clause-ok c =
    let row = c.in-Some.row.now in
    let has_id = λ (r : ContainerRow). bytes_eq r.id c.args.container.now in
    let there : is_none (network_at c.args.engine.now c.args.network.now) ≡ false
    = ap is_none (sym c.network.ensures) ∙ none_copied c.network.result ∙ search (rules, tests) in
    let found : container_at c.args.engine.now c.args.container.now ≡ Some row = search rules in
    let off : is_on c.args.network.now row ≡ false = cc in
    let joined : c.push.new.self ≡ row.networks ++ c.args.network.now ∷ []
    = c.in_ok-push.ensures.ok ∙ ap (λ (networks : List (List ℕ)). networks ++ c.in_ok-copy.field-0 ∷ []) c.in_ok-networks.ensures
    ∙ ap (λ (network : List ℕ). row.networks ++ network ∷ []) c.in_ok-copy.ensures in
    let same = ap (λ (networks : List (List ℕ)). record row { networks = networks }) joined in
    let rows_are : c.set_networks.new.rows ≡ with_first has_id (joined_row c.args.network.now) c.args.engine.now.containers
    = c.set_networks.ensures ∙ with_first-agree has_id (λ r. record r { networks = c.push.new.self }) (joined_row c.args.network.now) row c.args.engine.now.containers found same in
    rw (there, found, off, rows_are) refl
