use Rattle.std.specs.Prelude.{Err}
use Rattle.run_model.specs.Observation.{judging, listing_networks, listing_volumes, observed}
use Rattle.observe_project.proofs.Walks.{exits, step-failed, step-then}
use Rattle.observe_project.proofs.listing.list_all.Goals as goal

pub returns-in_err-containers : goal.returns-in_err-containers
returns-in_err-containers g c = λ p.
    let d = c.args.declared.now in
    rw (exits c.from_residual.result c.in_err-containers.field-0.0 c.from_residual.ensures)
    (step-failed (judging d p) (observed d p) (listing_networks d p) c.in_err-containers.field-0.0 _ _ _ _ (c.in_err-containers.ensures p))

pub returns-in_err-networks : goal.returns-in_err-networks
returns-in_err-networks g c = λ p.
    let d = c.args.declared.now in
    rw (exits c.from_residual-in_err-networks.result c.in_err-networks.field-0.0 c.from_residual-in_err-networks.ensures)
    (step-then (judging d p) (observed d p) (listing_networks d p) c.in_ok-containers.containers (Err c.in_err-networks.field-0.0) _ _ _ _ _ _ (c.in_ok-containers.ensures p)
    (step-failed (judging d p) (listing_networks d p c.in_ok-containers.containers) (listing_volumes d p) c.in_err-networks.field-0.0 _ _ _ _ (c.in_err-networks.ensures p)))

pub returns : goal.returns
returns g c = λ p.
    let d = c.args.declared.now in
    step-then (judging d p) (observed d p) (listing_networks d p) c.in_ok-containers.containers c.list_volumes.result _ _ _ _ _ _ (c.in_ok-containers.ensures p)
    (step-then (judging d p) (listing_networks d p c.in_ok-containers.containers) (listing_volumes d p) c.in_ok-networks.networks c.list_volumes.result _ _ _ _ _ _
    (c.in_ok-networks.ensures p) (c.list_volumes.ensures p))
