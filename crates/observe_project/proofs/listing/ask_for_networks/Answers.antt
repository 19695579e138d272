use Rattle.std.proofs.Common.{refl}
use Rattle.engine_types.specs.declared.Request.{Request}
use Rattle.run_model.specs.Observation.{after_networks, asking, listing_volumes}
use Rattle.observe_project.proofs.Walks.{exits, step-asked, step-unsent}
use Rattle.observe_project.proofs.listing.ask_for_networks.Goals as goal

pub returns-in_err-exchange : goal.returns-in_err-exchange
returns-in_err-exchange g c = λ declared purpose.
    rw (exits c.from_residual.result c.in_err-exchange.field-0.0 c.from_residual.ensures)
    (step-unsent (listing_volumes declared purpose) (asking Request.ListNetworks (after_networks declared purpose c.args.seen)) Request.ListNetworks c.in_err-exchange.field-0.0 _ _ _ _ c.in_err-exchange.ensures.same c.in_err-exchange.ensures.asked refl)

pub keep-requires : goal.keep-requires
keep-requires g c = c.in_ok-exchange.ensures.room

pub returns : goal.returns
returns g c = λ declared purpose.
    step-asked (listing_volumes declared purpose) Request.ListNetworks Request.ListNetworks (after_networks declared purpose c.args.seen) c.in_ok-exchange.exchange c.read_networks-seen.result _ c.ask.new.exchanges.items _ _ _
    refl c.in_ok-exchange.ensures.same c.keep.ensures c.in_ok-exchange.ensures.asked (c.read_networks-seen.ensures declared purpose c.in_ok-exchange.ensures.asked.0)
