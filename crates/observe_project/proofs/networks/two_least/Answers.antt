use Rattle.std.proofs.Common.{◌≡◌, [], ◌+◌, ◌-◌, length, drop, sym, ap, ◌∙◌, arith}
use Rattle.std.specs.Option.{option_copied}
use Rattle.std.specs.Prelude.{slice_get}
use Rattle.observe_project.proofs.Least.{first_more, rows_of, second_more}
use Rattle.observe_project.proofs.ListTests.{drop-none}
use Rattle.observe_project.proofs.networks.two_least.Goals as goal

pub loop-at-init : goal.loop-at-init
loop-at-init c =
    let rows = c.args.rows.now in let name = c.args.name.now in
    let none : drop (length rows) rows ≡ [] = drop-none rows (length rows) (omega arith) in
    record {
      within = omega arith;
      first = sym (ap (λ l. slice_get (rows_of name l) 0) none);
      second = sym (ap (λ l. slice_get (rows_of name l) 1) none);
    }

pub loop-at-preserved : goal.loop-at-preserved
loop-at-preserved c =
    let rows = c.args.rows.now in let name = c.args.name.now in let at = c.loop-at.at - 1 in
    let e : at + 1 ≡ c.loop-at.at = omega arith in
    let first_is = c.loop-at.invariant.first ∙ ap (λ n. slice_get (rows_of name (drop n rows)) 0) (sym e) in
    let second_is = c.loop-at.invariant.second ∙ ap (λ n. slice_get (rows_of name (drop n rows)) 1) (sym e) in
    let first = option_copied c.loop-at.least.first in let second = option_copied c.loop-at.least.second in
    record {
      within = omega arith;
      first = c.with_named-least.ensures.first ∙ first_more name rows at c.index-rows-at.result first second (omega arith) c.index-rows-at.is first_is second_is;
      second = c.with_named-least.ensures.second ∙ second_more name rows at c.index-rows-at.result first second (omega arith) c.index-rows-at.is first_is second_is;
    }

pub returns-clause-first : goal.returns-clause-first
returns-clause-first c =
    let e : c.loop-at.at ≡ 0 = omega arith in c.loop-at.invariant.first ∙ ap (λ n. slice_get (rows_of c.args.name.now (drop n c.args.rows.now)) 0) e

pub returns-clause-second : goal.returns-clause-second
returns-clause-second c =
    let e : c.loop-at.at ≡ 0 = omega arith in c.loop-at.invariant.second ∙ ap (λ n. slice_get (rows_of c.args.name.now (drop n c.args.rows.now)) 1) e
