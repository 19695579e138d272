use Rattle.std.proofs.Common.{◌≡◌, refl, ap, ◌∙◌, true}
use Rattle.engine_types.specs.declared.Request.{Request}
use Rattle.run_model.specs.Observation.{after_look, inspecting, is_request}
use Rattle.run_model.proofs.RequestLemmas.{same_image}
use Rattle.observe_project.proofs.Walks.{copied, exits, no_memory, step-asked, step-short, step-unsent}
use Rattle.observe_project.proofs.fetching.inspect.Goals as goal

pub returns-in_err-name : goal.returns-in_err-name
returns-in_err-name g c = λ onward each.
    rw (exits c.from_residual.result c.in_err-name.field-0.0 c.from_residual.ensures)
    (step-short onward (inspecting c.args.image.now onward) c.in_err-name.field-0.0 _ _ (no_memory _ c.in_err-name.field-0.0 c.in_err-name.ensures) refl)

pub returns-in_err-exchange : goal.returns-in_err-exchange
returns-in_err-exchange g c = λ onward each.
    rw (exits c.from_residual-in_err-exchange.result c.in_err-exchange.field-0.0 c.from_residual-in_err-exchange.ensures)
    (step-unsent onward (inspecting c.args.image.now onward) (Request.Image c.in_ok-name.name) c.in_err-exchange.field-0.0 _ _ _ _ c.in_err-exchange.ensures.same c.in_err-exchange.ensures.asked refl)

pub keep-requires : goal.keep-requires
keep-requires g c = c.in_ok-exchange.ensures.room

pub returns : goal.returns
returns g c = λ onward each.
    let is : c.in_ok-name.name ≡ c.args.image.now = copied _ _ _ c.copy.ensures c.in_ok-name.ensures in
    let fits : is_request (Request.Image c.args.image.now) (Request.Image c.in_ok-name.name) ≡ true = ap (λ t. is_request (Request.Image c.args.image.now) (Request.Image t)) is ∙ same_image c.args.image.now in
    step-asked onward (Request.Image c.args.image.now) (Request.Image c.in_ok-name.name) (after_look c.args.image.now onward) c.in_ok-exchange.exchange c.read_id-id.result _ c.ask.new.exchanges.items _ _ _
    fits c.in_ok-exchange.ensures.same c.keep.ensures c.in_ok-exchange.ensures.asked (c.read_id-id.ensures c.args.image.now onward each (c.in_ok-exchange.ensures.asked.0 ∙ ap (λ t. Request.Image t) is))
