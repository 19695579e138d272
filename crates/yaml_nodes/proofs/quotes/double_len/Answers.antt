use Rattle.std.proofs.Common.{◌≡◌, ◌∙◌, ◌+◌, [], ◌∷◌, eqb, sym, ap, false, arith}
use Rattle.std.proofs.lemmas.List.{take_rest, length-drop}
use Rattle.yaml_lines.proofs.QuoteSteps.{double_char}
use Rattle.yaml_lines.specs.Quoted.{double_of}
use Rattle.yaml_nodes.proofs.LenSteps.{farther, moves, double_measured, double_unknown}
use Rattle.yaml_nodes.proofs.quotes.double_len.Goals as goal

pub returns-in-None-clause-is : goal.returns-in-None-clause-is
returns-in-None-clause-is c =
    let cs = c.args.chars.now in
    let is = rw (take_rest cs (c.loop-at.at + 1)) at c.in-None.ensures.is in
    sym (ap (farther c.loop-at.at) (double_unknown cs c.loop-at.at c.index-chars-at.result (omega arith) c.index-chars-at.is c.in-92.is is)) ∙ c.loop-at.invariant.is

pub loop-at-preserved-in-Some : goal.loop-at-preserved-in-Some
loop-at-preserved-in-Some c =
    let cs = c.args.chars.now in
    let rest = take_rest cs (c.loop-at.at + 1) in
    let is = rw rest at c.in-Some.ensures.is in
    let within = rw rest at c.in-Some.ensures.within in
    record {
      within = omega (arith, length-drop (c.loop-at.at + 1) cs, within);
      is = double_measured cs c.loop-at.at c.index-chars-at.result _ c.in-Some.len _ (omega arith) c.index-chars-at.is c.in-92.is is within c.loop-at.invariant.is;
    }

pub loop-at-preserved : goal.loop-at-preserved
loop-at-preserved c =
    let cs = c.args.chars.now in
    let p : eqb c.index-chars-at.result 34 ≡ false = grind arith in
    let r : eqb c.index-chars-at.result 10 ≡ false = grind arith in
    let q : eqb c.index-chars-at.result 92 ≡ false = grind arith in
    record {
      within = omega arith;
      is = moves (double_of 0) cs (c.index-chars-at.result ∷ []) c.loop-at.at 1 _ (double_char cs c.loop-at.at c.index-chars-at.result (omega arith) c.index-chars-at.is p r q) c.loop-at.invariant.is;
    }
