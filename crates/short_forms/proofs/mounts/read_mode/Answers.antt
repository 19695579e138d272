use Rattle.std.proofs.Common.{◌∙◌, sym, rules}
use Rattle.short_forms.specs.Mounts.{mode_of}
use Rattle.short_forms.specs.declared.form.Form.TheVariants.{Mount}
use Rattle.short_forms.proofs.AnswerLemmas.{given_value, gives_passed, gives_same}
use Rattle.short_forms.proofs.ModeLemmas.{mode_last, mode_more, mode_stops}
use Rattle.short_forms.proofs.mounts.read_mode.Goals as goal

pub returns-in_err-mode : goal.returns-in_err-mode
returns-in_err-mode c =
    let mode = c.loop-word.mode in
    gives_passed Mount c.from_residual.result c.in_err-mode.field-0.0 _ (mode_of c.args.text.now) c.from_residual.ensures.1
    (λ none. sym c.loop-word.invariant.1 ∙ mode_stops mode c.loop-word.rest.now c.in-Some.word.now c.in-Some.more.now (sym c.in-Some.ensures) none) c.in_err-mode.ensures

pub loop-word-preserved : goal.loop-word-preserved
loop-word-preserved c =
    let mode = c.loop-word.mode in (
      search rules,
      mode_more mode c.loop-word.rest.now c.in-Some.word.now c.in-Some.more.now (sym c.in-Some.ensures) c.in_ok-mode.mode (given_value Mount c.in_ok-mode.mode _ c.in_ok-mode.ensures)
          ∙ c.loop-word.invariant.1,
    )

pub returns : goal.returns
returns c = gives_same Mount c.with_word-2.result _ _ (mode_last c.loop-word.mode c.loop-word.rest.now (sym c.in_default.ensures) ∙ c.loop-word.invariant.1) c.with_word-2.ensures
