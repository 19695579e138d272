use Rattle.std.proofs.Common.{◌≡◌, ◌∙◌, ℕ, IfOk, List, Option, Some, ap, map, subst, sym}
use Rattle.std.specs.Option.{option_map_or}
use Rattle.tree_base.specs.declared.Tree.{Tree, Scalar, Seq}
use Rattle.short_forms.specs.Words.{words_of}
use Rattle.short_forms.specs.declared.form.Form.TheVariants as forms
use Rattle.long_forms.proofs.FormAnswers.{none_of, some_of}
use Rattle.long_forms.proofs.texts.words_long.Goals as goal

-- the long form of a text by its words
abbrev worded : List ℕ → Option (List (List ℕ)) → Tree
worded text words = option_map_or (λ words. Seq (map Scalar words)) words (Scalar text)

pub returns-in_ok-scalars-in-Ok : goal.returns-in_ok-scalars-in-Ok
returns-in_ok-scalars-in-Ok c =
    let text = c.args.text.now in
    let read : words_of text ≡ Some c.in-Ok.words = some_of forms.Words (words_of text) c.in-Ok.words c.in-Ok.ensures in
    let items = c.in_ok-scalars-in-Ok.ensures ∙ ap (map Scalar) c.as_slice.ensures in
    let tree = ap Seq items ∙ ap (worded text) (sym read) in
    subst (λ (t : Tree). IfOk c.sequence.result (λ tree. tree ≡ t)) tree c.sequence.ensures

pub returns-in_ok-copy-in-Err-BadForm : goal.returns-in_ok-copy-in-Err-BadForm
returns-in_ok-copy-in-Err-BadForm c =
    let text = c.args.text.now in
    let e = rw c.in-Err-BadForm.field-0-is at c.in-Err-BadForm.ensures in
    ap Scalar c.in_ok-copy-in-Err-BadForm.ensures ∙ ap (worded text) (sym (none_of forms.Words c.in-Err-BadForm.field-0-0 (words_of text) e))
