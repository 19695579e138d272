use Rattle.std.proofs.Common.{find, sym, ap, ◌∙◌, ◌&&◌, Bool}
use Rattle.std.specs.Str.{bytes_eq}
use Rattle.engine_types.specs.declared.Slot.{Slot}
use Rattle.observe_project.proofs.ListTests.{find-filter}
use Rattle.observe_project.proofs.images.builder_of.Goals as goal

pub returns : goal.returns
returns c =
    let slots = c.args.declared.now.slots in
    let q : Slot → Bool = λ s. bytes_eq c.args.image.now s.image in
    let p : Slot → Bool = λ s. s.has_build in
    c.first_built.ensures ∙ ap (find (λ (s : Slot). q s && p s)) c.as_slice.ensures ∙ sym (find-filter q p slots)
