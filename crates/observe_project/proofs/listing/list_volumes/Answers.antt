use Rattle.std.proofs.Common.{sym, ap, ◌∙◌}
use Rattle.std.specs.Prelude.{Ok}
use Rattle.run_model.specs.Observation.{after_volumes, asking, listing_volumes, judging}
use Rattle.std.specs.Prelude.{if◌then◌else◌}
use Rattle.engine_types.specs.declared.Request.{Request}
use Rattle.observe_project.proofs.ListTests.{empty-length}
use Rattle.observe_project.proofs.Walks.{step-along, step-none}
use Rattle.observe_project.proofs.listing.list_volumes.Goals as goal

pub returns-then-is_empty : goal.returns-then-is_empty
returns-then-is_empty g c = λ purpose.
    let declared = c.args.declared.now in
    let none = sym (empty-length c.is_empty.result declared.volumes c.is_empty.ensures) ∙ c.if-is_empty.true in
    step-none (judging declared purpose) (listing_volumes declared purpose c.args.seen) (Ok c.args.seen) _ _
    (λ rest. ap (λ b. if b then judging declared purpose c.args.seen rest else asking Request.ListVolumes (after_volumes declared purpose c.args.seen) rest) none) tt

pub returns : goal.returns
returns g c = λ purpose.
    let declared = c.args.declared.now in
    let some = sym (empty-length c.is_empty.result declared.volumes c.is_empty.ensures) ∙ c.if-is_empty.false in
    step-along (judging declared purpose) (listing_volumes declared purpose c.args.seen) (asking Request.ListVolumes (after_volumes declared purpose c.args.seen)) c.ask_for_volumes.result _ _ _ _
    (λ rest. ap (λ b. if b then judging declared purpose c.args.seen rest else asking Request.ListVolumes (after_volumes declared purpose c.args.seen) rest) some) (c.ask_for_volumes.ensures declared purpose)
