use Rattle.std.proofs.Common.{◌≡◌, ◌∙◌, Some, ap, sym, true, false, length, slice_get, refl, arith, rules}
use Rattle.std.proofs.lemmas.Option.{slice_get_read}
use Rattle.interpolate.specs.Parts.{parts}
use Rattle.tree_base.specs.Entries.{value_at}
use Rattle.tree_base.specs.Limits.{most_form_levels}
use Rattle.unset_variables.specs.Unset.{where_whole, with_unset}
use Rattle.unset_variables.proofs.Texts.{text_fine, text_wrong}
use Rattle.unset_variables.proofs.tree.put_texts.Goals as goal

pub returns-then-not-branch : goal.returns-then-not-branch
returns-then-not-branch c =
    let env = value_at c.args.env.now in
    let l = c.loop-text in
    let xs = c.args.texts.now in
    let x = c.text-item.result in
    let at : slice_get xs l.text-index ≡ Some x = slice_get_read xs (length xs) l.text-index x refl (omega arith) c.text-item.is in
    let whole : c.in_ok-put_text.field-0 ≡ false = search rules in
    let given = ap (λ t. with_unset env l.names (parts most_form_levels 0 t)) (sym c.as_str.ensures.value) ∙ c.in_ok-put_text.ensures 0 ∙ ap (λ b. where_whole b c.put_text.new.names) whole in
    sym l.invariant ∙ text_wrong (λ text. text.now) env l.names xs l.text-index x at given

pub loop-text-preserved : goal.loop-text-preserved
loop-text-preserved c =
    let env = value_at c.args.env.now in
    let l = c.loop-text in
    let xs = c.args.texts.now in
    let x = c.text-item.result in
    let at : slice_get xs l.text-index ≡ Some x = slice_get_read xs (length xs) l.text-index x refl (omega arith) c.text-item.is in
    let whole : c.in_ok-put_text.field-0 ≡ true = search rules in
    let given = ap (λ t. with_unset env l.names (parts most_form_levels 0 t)) (sym c.as_str.ensures.value) ∙ c.in_ok-put_text.ensures 0 ∙ ap (λ b. where_whole b c.put_text.new.names) whole in
    sym (text_fine (λ text. text.now) env l.names c.put_text.new.names xs l.text-index x at given) ∙ l.invariant
