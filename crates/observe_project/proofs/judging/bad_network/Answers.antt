use Rattle.std.proofs.Common.{find, is_some, ap, ◌∙◌}
use Rattle.engine_types.specs.declared.NetworkSpec.{NetworkSpec}
use Rattle.run_model.specs.Observation.{network_fault}
use Rattle.observe_project.proofs.judging.bad_network.Goals as goal

pub returns : goal.returns
returns c =
    c.first_bad.ensures ∙ ap (find (λ (network : NetworkSpec). is_some (network_fault c.args.declared.now c.args.purpose c.args.rows.now network))) c.as_slice.ensures
