use Rattle.std.proofs.Common.{sym, ◌∙◌, Bool}
use Rattle.std.specs.Str.{bytes_eq}
use Rattle.engine_types.specs.declared.Slot.{Slot}
use Rattle.run_model.specs.Observation.{is_always}
use Rattle.observe_project.proofs.ListTests.{any-filter}
use Rattle.observe_project.proofs.images.says_always.Goals as goal

pub returns : goal.returns
returns c =
    let q : Slot → Bool = λ s. bytes_eq c.args.image.now s.image in
    let p : Slot → Bool = λ s. is_always s.policy in
    c.has_always.ensures ∙ sym (any-filter q p c.args.slots.now)
