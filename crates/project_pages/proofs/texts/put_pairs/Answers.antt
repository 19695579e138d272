use Rattle.std.proofs.Common.{◌+◌, ◌<◌, ◌≤◌, ◌∙◌, ◌++◌, drop, length, map, sym, ap, arith}
use Rattle.std.proofs.lemmas.Bool.{iff_false}
use Rattle.std.proofs.lemmas.Result.{on_ok_weaker}
use Rattle.project_print.specs.Pages.{entry, shown}
use Rattle.project_print.specs.Written.{hanging, parts_text}
use Rattle.project_print.proofs.Blocks.{part_step, parts_done}
use Rattle.project_pages.specs.Sections.{maybe_text}
use Rattle.project_pages.proofs.PageLines.{next_found, no_pairs_lines, none_left, pair_lines, pairs_lines, some_there}
use Rattle.project_pages.proofs.texts.put_pairs.Goals as goal
use Rattle.project_pages.proofs.texts.put_pairs.Goals.{in-Some+in_ok-put_gap+in_ok-put_pair, in_default}

pub returns-then-is_empty : goal.returns-then-is_empty
returns-then-is_empty c =
    on_ok_weaker c.push_str.result (λ e. e ∙ ap (λ x. c.args.out.now ++ x) (no_pairs_lines c.args.depth c.args.pairs.now (c.is_empty.ensures.0 c.if-is_empty.true))) c.push_str.ensures.ok

pub loop-at-preserved : goal.loop-at-preserved
loop-at-preserved c =
    let pairs = c.args.pairs.now in
    elim c.match-pair.branch [
      | in-Some+in_ok-put_gap+in_ok-put_pair w ↦
          let put = w.in_ok-put_pair.ensures ∙ ap (λ k. w.put_gap.new.out ++ hanging c.args.depth (entry (k, shown (maybe_text w.in-Some.value.now)))) w.as_str.ensures.value in
          ap (λ x. x ++ parts_text c.args.depth (c.loop-at.at + 1) (drop (c.loop-at.at + 1) (map pair_lines pairs))) w.out-is
          ∙ part_step c.args.depth c.loop-at.at c.loop-at.out _ _ _ (pair_lines (w.in-Some.key.now, w.in-Some.value.now)) _ _ w.in_ok-put_gap.ensures put
          (next_found pair_lines pairs c.loop-at.at (w.in-Some.key.now, w.in-Some.value.now) (sym w.in-Some.ensures)) c.loop-at.invariant
      | in_default w ↦
          let within : c.loop-at.at < length pairs = omega arith in
          absurd (some_there pairs c.loop-at.at within (sym w.in_default.ensures))
    ]

pub returns : goal.returns
returns c =
    let past : length c.args.pairs.now ≤ c.loop-at.at = omega arith in
    parts_done c.args.depth c.loop-at.at c.loop-at.out _ _ (none_left pair_lines c.args.pairs.now c.loop-at.at past) c.loop-at.invariant
    ∙ ap (λ x. c.args.out.now ++ x) (pairs_lines c.args.depth c.args.pairs.now (iff_false c.is_empty.ensures c.if-is_empty.false))
