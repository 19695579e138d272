use Rattle.std.proofs.Common.{refl}
use Rattle.engine_types.specs.declared.Request.{Request}
use Rattle.run_model.specs.Observation.{after_volumes, asking, judging}
use Rattle.observe_project.proofs.Walks.{exits, step-asked, step-unsent}
use Rattle.observe_project.proofs.listing.ask_for_volumes.Goals as goal

pub returns-in_err-exchange : goal.returns-in_err-exchange
returns-in_err-exchange g c = λ declared purpose.
    rw (exits c.from_residual.result c.in_err-exchange.field-0.0 c.from_residual.ensures)
    (step-unsent (judging declared purpose) (asking Request.ListVolumes (after_volumes declared purpose c.args.seen)) Request.ListVolumes c.in_err-exchange.field-0.0 _ _ _ _ c.in_err-exchange.ensures.same c.in_err-exchange.ensures.asked refl)

pub keep-requires : goal.keep-requires
keep-requires g c = c.in_ok-exchange.ensures.room

pub returns : goal.returns
returns g c = λ declared purpose.
    step-asked (judging declared purpose) Request.ListVolumes Request.ListVolumes (after_volumes declared purpose c.args.seen) c.in_ok-exchange.exchange c.read_volumes-seen.result _ c.ask.new.exchanges.items _ _ _
    refl c.in_ok-exchange.ensures.same c.keep.ensures c.in_ok-exchange.ensures.asked (c.read_volumes-seen.ensures declared purpose c.in_ok-exchange.ensures.asked.0)
