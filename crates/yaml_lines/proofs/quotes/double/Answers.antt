use Rattle.std.proofs.Common.{◌≡◌, ◌+◌, sym, eqb, true, false, arith}
use Rattle.std.proofs.lemmas.List.{length-drop, take_rest}
use Rattle.yaml_lines.specs.Quoted.{double_of}
use Rattle.yaml_lines.proofs.QuoteSteps.{moves, double_char, double_escape}
use Rattle.yaml_lines.proofs.quotes.double.Goals as goal

pub loop-at-preserved : goal.loop-at-preserved
loop-at-preserved c =
    let cs = c.args.chars.now in
    let p : eqb c.index-chars-at.result 34 ≡ false = grind arith in
    let r : eqb c.index-chars-at.result 10 ≡ false = grind arith in
    let q : eqb c.index-chars-at.result 92 ≡ false = grind arith in
    record {
      within = omega arith;
      is = moves (double_of 0) (double_of 0) cs c.loop-at.text _ c.index-chars-at.result c.loop-at.at 1 _ (double_char cs c.loop-at.at c.index-chars-at.result (omega arith) c.index-chars-at.is p r q) c.in_ok-push.ensures.ok c.loop-at.invariant.is;
    }

pub loop-at-preserved-in-Some : goal.loop-at-preserved-in-Some
loop-at-preserved-in-Some c =
    let cs = c.args.chars.now in
    let p : eqb c.index-chars-at.result 34 ≡ false = grind arith in
    let r : eqb c.index-chars-at.result 10 ≡ false = grind arith in
    let q : eqb c.index-chars-at.result 92 ≡ true = grind arith in
    let rest = take_rest cs (c.loop-at.at + 1) in
    let is = rw rest at c.in-Some.ensures.is in
    let within = rw rest at c.in-Some.ensures.within in
    record {
      within = omega (arith, length-drop (c.loop-at.at + 1) cs, within);
      is = moves (double_of 0) (double_of 0) cs c.loop-at.text _ c.in-Some.d c.loop-at.at (c.in-Some.len + 1) _ (double_escape cs c.loop-at.at c.index-chars-at.result c.in-Some.d c.in-Some.len (omega arith) c.index-chars-at.is p r q (sym is) within) c.in_ok-push-in-Some.ensures.ok c.loop-at.invariant.is;
    }
