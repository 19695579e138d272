use Rattle.std.proofs.Common.{◌≡◌, ◌∙◌, map, take, List, ℕ, sym, ap}
use Rattle.std.specs.Prelude.{filter}
use Rattle.std.proofs.lemmas.List.{take_all}
use Rattle.typed_project.specs.declared.service.Service.{Service}
use Rattle.service_graph.specs.Cycles.{needs}
use Rattle.service_graph.proofs.Ordered.{passing_sorted}
use Rattle.service_graph.proofs.neighbours.dependents.Goals as goal

pub returns : goal.returns
returns c =
    let services : List Service = c.args.project.now.services in
    let keys : List Service → List (List ℕ) = λ some. map (λ service. service.key) (filter (needs c.args.service.now) some) in
    let given : c.as_slice-services.result.now ≡ services = c.as_slice-services.ensures in
    let all : take c.loop-other.other-index c.as_slice-services.result.now ≡ services =
    take_all c.loop-other.other-index c.as_slice-services.result.now c.loop-other-test.false ∙ given in
    c.loop-other.invariant ∙ ap keys all ∙ sym (passing_sorted (λ (service : Service). service.key) (needs c.args.service.now) services c.requires)
