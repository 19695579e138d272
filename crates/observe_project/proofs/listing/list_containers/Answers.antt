use Rattle.std.proofs.Common.{◌≡◌, refl, ap, ◌∙◌, true}
use Rattle.engine_types.specs.declared.Request.{Request}
use Rattle.run_model.specs.Observation.{after_containers, is_request, listing_networks, observed}
use Rattle.run_model.proofs.RequestLemmas.{same_listing}
use Rattle.observe_project.proofs.Walks.{copied, exits, no_memory, step-asked, step-short, step-unsent}
use Rattle.observe_project.proofs.listing.list_containers.Goals as goal

pub returns-in_err-project : goal.returns-in_err-project
returns-in_err-project g c = λ purpose.
    rw (exits c.from_residual.result c.in_err-project.field-0.0 c.from_residual.ensures)
    (step-short (listing_networks c.args.declared.now purpose) (observed c.args.declared.now purpose) c.in_err-project.field-0.0 _ _ (no_memory _ c.in_err-project.field-0.0 c.in_err-project.ensures) refl)

pub returns-in_err-exchange : goal.returns-in_err-exchange
returns-in_err-exchange g c = λ purpose.
    rw (exits c.from_residual-in_err-exchange.result c.in_err-exchange.field-0.0 c.from_residual-in_err-exchange.ensures)
    (step-unsent (listing_networks c.args.declared.now purpose) (observed c.args.declared.now purpose) (Request.ListContainers c.in_ok-project.project) c.in_err-exchange.field-0.0 _ _ _ _ c.in_err-exchange.ensures.same c.in_err-exchange.ensures.asked refl)

pub keep-requires : goal.keep-requires
keep-requires g c = c.in_ok-exchange.ensures.room

pub returns : goal.returns
returns g c = λ purpose.
    let is : c.in_ok-project.project ≡ c.args.declared.now.project = copied _ _ _ c.copy.ensures c.in_ok-project.ensures in
    let fits : is_request (Request.ListContainers c.args.declared.now.project) (Request.ListContainers c.in_ok-project.project) ≡ true = ap (λ t. is_request (Request.ListContainers c.args.declared.now.project) (Request.ListContainers t)) is ∙ same_listing c.args.declared.now.project in
    step-asked (listing_networks c.args.declared.now purpose) (Request.ListContainers c.args.declared.now.project) (Request.ListContainers c.in_ok-project.project) (after_containers c.args.declared.now purpose) c.in_ok-exchange.exchange c.read_containers-seen.result _ c.ask.new.exchanges.items _ _ _
    fits c.in_ok-exchange.ensures.same c.keep.ensures c.in_ok-exchange.ensures.asked (c.read_containers-seen.ensures c.args.declared.now purpose (c.in_ok-exchange.ensures.asked.0 ∙ ap (λ t. Request.ListContainers t) is))
