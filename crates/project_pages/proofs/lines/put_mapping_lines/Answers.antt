use Rattle.std.proofs.Common.{◌<◌, ◌≤◌, ◌∙◌, ◌++◌, length, ap, arith}
use Rattle.std.proofs.lemmas.Result.{on_ok_weaker}
use Rattle.project_print.proofs.Blocks.{part_step, parts_done}
use Rattle.project_print.proofs.Places.{next_of_one}
use Rattle.project_pages.proofs.Lists.{holds_at}
use Rattle.project_pages.proofs.PageLines.{item_lines, items_lines, no_items_lines, none_by, none_left, some_by}
use Rattle.project_pages.proofs.lines.put_mapping_lines.Goals as goal

pub returns-then-is_empty : goal.returns-then-is_empty
returns-then-is_empty g c =
    on_ok_weaker c.push_str.result (λ e. e ∙ ap (λ x. c.args.out.now ++ x) (no_items_lines g.T.Keyed.name g.T.ToNode.shown c.args.depth c.args.items.now (none_by c.is_empty.result c.args.items.now c.is_empty.ensures c.if-is_empty.true))) c.push_str.ensures.ok

pub put_entry-requires : goal.put_entry-requires
put_entry-requires g c =
    let within : c.loop-at.at < length c.args.items.now = omega arith in
    holds_at g.T.ToNode.is_fit c.args.items.now c.loop-at.at c.index-items-at.result c.requires within c.index-items-at.is

pub loop-at-preserved : goal.loop-at-preserved
loop-at-preserved g c =
    let within : c.loop-at.at < length c.args.items.now = omega arith in
    part_step c.args.depth c.loop-at.at c.loop-at.out _ _ _ (item_lines g.T.Keyed.name g.T.ToNode.shown c.index-items-at.result) _ _
    c.in_ok-put_gap.ensures c.in_ok-put_entry.ensures
    (next_of_one (item_lines g.T.Keyed.name g.T.ToNode.shown) c.args.items.now c.loop-at.at c.index-items-at.result within c.index-items-at.is)
    c.loop-at.invariant

pub returns : goal.returns
returns g c =
    let past : length c.args.items.now ≤ c.loop-at.at = omega arith in
    parts_done c.args.depth c.loop-at.at c.loop-at.out _ _ (none_left (item_lines g.T.Keyed.name g.T.ToNode.shown) c.args.items.now c.loop-at.at past) c.loop-at.invariant
    ∙ ap (λ x. c.args.out.now ++ x) (items_lines g.T.Keyed.name g.T.ToNode.shown c.args.depth c.args.items.now (some_by c.is_empty.result c.args.items.now c.is_empty.ensures c.if-is_empty.false))
