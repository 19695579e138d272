use Rattle.std.proofs.lemmas.Result.{err_from_is_err_and}
use Rattle.std.proofs.Common.{◌∙◌, ◌<◌, length, refl, sym, ap, arith}
use Rattle.file_paths.specs.Resolving.{Entries}
use Rattle.include_extends.specs.Sections.{added}
use Rattle.include_extends.proofs.Added.{is_met, is_new}
use Rattle.include_extends.proofs.sections.added.Goals as goal
use Rattle.include_extends.proofs.sections.added.Goals.{in-Some+in_ok-add_entry, in_default}
use Rattle.loaded_files.proofs.Laid.{none_left, not_past}

pub loop-at-preserved : goal.loop-at-preserved
loop-at-preserved c =
    let a = c.args in
    let theirs = a.theirs.now in
    elim c.match-pair.branch [
      | in-Some+in_ok-add_entry w ↦
          is_new a.kind a.file.now theirs c.loop-at.all c.loop-at.at w.in-Some.name.now w.in-Some.value.now (sym w.in-Some.ensures) c.match-pair.all w.in_ok-add_entry.ensures.new (w.all-is ∙ w.in_ok-add_entry.ensures.put)
          ∙ c.loop-at.invariant
      | in_default w ↦
          let within : c.loop-at.at < length theirs = omega arith in
          absurd (not_past theirs c.loop-at.at within (sym w.in_default.ensures))
    ]

pub returns-in_err-add_entry-clause-given : goal.returns-in_err-add_entry-clause-given
returns-in_err-add_entry-clause-given c =
    let a = c.args in
    let e = c.in_err-add_entry.field-0.0 in
    let p = err_from_is_err_and c.from_residual.result c.from_residual.ensures.1 in
    rw (p.1, p.2) (is_met a.kind a.file.now a.theirs.now c.loop-at.all c.loop-at.at c.in-Some.name.now c.in-Some.value.now (sym c.in-Some.ensures)
    (added a.kind a.file.now a.theirs.now a.mine) e (c.in_err-add_entry.ensures.met e refl) c.loop-at.invariant)

pub returns-clause-given : goal.returns-clause-given
returns-clause-given c =
    let a = c.args in
    λ n. sym (sym c.loop-at.invariant ∙ ap (λ (es : Entries). added a.kind a.file.now es c.loop-at.all) (none_left a.theirs.now c.loop-at.at (omega arith)))
