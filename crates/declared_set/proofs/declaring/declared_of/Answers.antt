use Rattle.std.proofs.Common.{◌∙◌, List, ap}
use Rattle.declared_slots.specs.Goals.{is_awaited}
use Rattle.typed_project.specs.declared.service.Service.{Service}
use Rattle.declared_set.proofs.declaring.declared_of.Goals as goal

pub slots_of-requires-clause-ground : goal.slots_of-requires-clause-ground
slots_of-requires-clause-ground c = record {
  ranges = c.requires.ranges;
  networks = c.as_slice-2.ensures ∙ c.in_ok-networks.ensures.rows;
  awaited = λ key. c.in_ok-awaited.ensures key ∙ ap (λ (services : List Service). is_awaited c.args.scales.now services key) c.as_slice.ensures;
}
