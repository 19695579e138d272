use Rattle.std.proofs.Common.{◌≡◌, ◌∙◌, ◌+◌, ◌-◌, take, drop, length, sym, ap, arith}
use Rattle.std.proofs.lemmas.Grind.{common_steps}
use Rattle.std.proofs.lemmas.List.{drop-drop}
use Rattle.yaml_nodes.specs.Properties.{properties_from, with_property}
use Rattle.yaml_nodes.proofs.PropertySteps.{front}
use Rattle.yaml_nodes.proofs.properties.properties_from.Goals as goal

pub loop-chars-preserved : goal.loop-chars-preserved
loop-chars-preserved c =
    let marks = c.args.may_be_marked in
    let p = c.args.progress.now in
    let row = c.args.row.now in
    let at = c.loop-chars.next in
    let cs = c.text_at-chars.result.now in
    let more = c.add_property.new.found in
    let n = c.name_len.result in
    let is = c.text_at-chars.ensures.is in
    let rest : take (length cs - 1) (drop 1 cs) ≡ drop 1 cs = grind (arith, common_steps) in
    let one = front marks p row at c.loop-chars.more more cs _ c.c-item.result n (omega arith) c.c-item.is rest (sym c.is_white.ensures ∙ c.if-is_white.false) (sym c.is_property.ensures ∙ c.if-is_property.true)
    c.name_len.ensures.is c.name_len.ensures.within (ap (with_property marks p row at c.loop-chars.more) is ∙ c.in_ok-add_property.ensures) in
    ap (properties_from marks p row (at + (1 + n)) more 0) (sym (ap (drop (1 + n)) is ∙ drop-drop (1 + n) at row.chars))
    ∙ sym one ∙ ap (properties_from marks p row at c.loop-chars.more 0) is ∙ c.loop-chars.invariant
