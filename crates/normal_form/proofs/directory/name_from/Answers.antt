use Rattle.std.proofs.Common.{◌≡◌, ◌∙◌, sym, arith, take, refl, ◌+◌}
use Rattle.normal_form.specs.ProjectNames.{name_from}
use Rattle.normal_form.proofs.Names.{name_from-more, further, further_yes, further_no}
use Rattle.normal_form.proofs.directory.name_from.Goals as goal
use Rattle.normal_form.proofs.directory.name_from.Goals.{then-goes_on+in_ok-push_ascii, else-goes_on}

pub loop-byte-preserved : goal.loop-byte-preserved
loop-byte-preserved c =
    let bytes = c.as_bytes-byte-items.result.now in
    let more : name_from (take (c.loop-byte.byte-index + 1) bytes) ≡ further c.loop-byte.name c.lower-character.result =
    name_from-more bytes c.loop-byte.byte-index 0 (omega arith) ∙ rw (c.loop-byte.invariant, c.lower-character.ensures) refl in
    elim c.if-goes_on.branch [
      | then-goes_on+in_ok-push_ascii w ↦ w.name-is ∙ w.in_ok-push_ascii.ensures ∙ sym (more ∙ further_yes c.loop-byte.name c.lower-character.result (sym c.goes_on.ensures.value ∙ w.if-goes_on.true))
      | else-goes_on w ↦ w.name-is ∙ sym (more ∙ further_no c.loop-byte.name c.lower-character.result (sym c.goes_on.ensures.value ∙ w.if-goes_on.false))
    ]
