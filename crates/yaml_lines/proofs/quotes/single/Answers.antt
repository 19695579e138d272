use Rattle.std.proofs.Common.{◌≡◌, ◌∙◌, eqb, sym, ap, true, arith}
use Rattle.yaml_lines.specs.Quoted.{single_of}
use Rattle.yaml_lines.proofs.QuoteSteps.{more, moves, differs, single_char, single_pair, single_line_end}
use Rattle.yaml_lines.proofs.quotes.single.Goals as goal

pub returns-then-c-eq10-clause-is : goal.returns-then-c-eq10-clause-is
returns-then-c-eq10-clause-is c =
    let cs = c.args.chars.now in
    sym (ap (more c.loop-at.text c.loop-at.at) (single_line_end cs c.loop-at.at c.index-chars-at.result (omega arith) c.index-chars-at.is c.if-c-eq10.true)) ∙ c.loop-at.invariant.is

pub loop-at-preserved : goal.loop-at-preserved
loop-at-preserved c =
    let cs = c.args.chars.now in
    let p = differs c.index-chars-at.result 39 c.if-c-eq39.false in
    let q = differs c.index-chars-at.result 10 c.if-c-eq10.false in
    record {
      within = omega arith;
      is = moves single_of single_of cs c.loop-at.text _ c.index-chars-at.result c.loop-at.at 1 _ (single_char cs c.loop-at.at c.index-chars-at.result (omega arith) c.index-chars-at.is p q) c.in_ok-push-2.ensures.ok c.loop-at.invariant.is;
    }

pub loop-at-preserved-then-chars-at-eq39 : goal.loop-at-preserved-then-chars-at-eq39
loop-at-preserved-then-chars-at-eq39 c =
    let cs = c.args.chars.now in
    let p : eqb c.index-chars-at.result 39 ≡ true = grind arith in
    let q : eqb c.index-chars-at-then-at-chars.result 39 ≡ true = grind arith in
    record {
      within = omega arith;
      is = moves single_of single_of cs c.loop-at.text _ 39 c.loop-at.at 2 _ (single_pair cs c.loop-at.at c.index-chars-at.result c.index-chars-at-then-at-chars.result (omega arith) c.index-chars-at.is c.index-chars-at-then-at-chars.is p q) c.in_ok-push.ensures.ok c.loop-at.invariant.is;
    }
