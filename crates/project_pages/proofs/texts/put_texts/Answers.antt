use Rattle.std.proofs.Common.{◌+◌, ◌<◌, ◌≤◌, ◌∙◌, ◌++◌, codes, length, refl, ap, append_assoc, arith}
use Rattle.std.proofs.lemmas.Result.{on_ok_weaker}
use Rattle.project_print.specs.Pages.{item, shown}
use Rattle.project_print.specs.Scalars.{doubled, scalar}
use Rattle.project_print.specs.declared.node.Node.TheVariants.{Text}
use Rattle.project_print.proofs.Blocks.{item_step, parts_done, text_line}
use Rattle.project_print.proofs.Places.{next_of_one}
use Rattle.project_pages.proofs.PageLines.{no_texts_lines, none_by, none_left, some_by, texts_lines}
use Rattle.project_pages.proofs.texts.put_texts.Goals as goal

pub returns-then-is_empty : goal.returns-then-is_empty
returns-then-is_empty c =
    on_ok_weaker c.push_str.result (λ e. e ∙ ap (λ x. c.args.out.now ++ x) (no_texts_lines c.args.depth c.args.texts.now (none_by c.is_empty.result c.args.texts.now c.is_empty.ensures c.if-is_empty.true))) c.push_str.ensures.ok

pub loop-at-preserved : goal.loop-at-preserved
loop-at-preserved c =
    let within : c.loop-at.at < length c.args.texts.now = omega arith in
    item_step c.args.depth c.loop-at.at (c.args.depth + 1) c.loop-at.out _ _ _ _ (Text c.index-texts-at.result) _ _
    refl c.in_ok-put_gap.ensures c.in_ok-push_str.ensures.ok
    (c.in_ok-put_text.ensures ∙ append_assoc c.push_str-in-loop-at.new.self (scalar (doubled c.index-texts-at.result)) (codes "\n") ∙ ap (λ x. c.push_str-in-loop-at.new.self ++ x) (text_line (c.args.depth + 1) c.index-texts-at.result))
    (next_of_one (λ t. item (shown (Text t))) c.args.texts.now c.loop-at.at c.index-texts-at.result within c.index-texts-at.is)
    c.loop-at.invariant

pub returns : goal.returns
returns c =
    let past : length c.args.texts.now ≤ c.loop-at.at = omega arith in
    parts_done c.args.depth c.loop-at.at c.loop-at.out _ _ (none_left (λ t. item (shown (Text t))) c.args.texts.now c.loop-at.at past) c.loop-at.invariant
    ∙ ap (λ x. c.args.out.now ++ x) (texts_lines c.args.depth c.args.texts.now (some_by c.is_empty.result c.args.texts.now c.is_empty.ensures c.if-is_empty.false))
