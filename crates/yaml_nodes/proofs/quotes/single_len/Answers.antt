use Rattle.std.proofs.Common.{◌≡◌, ◌∙◌, ◌+◌, ◌≤◌, [], ◌∷◌, length, eqb, sym, ap, true, arith}
use Rattle.std.proofs.lemmas.List.{take_rest}
use Rattle.yaml_lines.proofs.QuoteSteps.{differs, single_char, single_line_end}
use Rattle.yaml_lines.specs.Quoted.{single_of}
use Rattle.yaml_nodes.proofs.LenSteps.{farther, moves, single_two, single_end, two_left}
use Rattle.yaml_nodes.proofs.quotes.single_len.Goals as goal

pub returns-then-c-eq10-clause-is : goal.returns-then-c-eq10-clause-is
returns-then-c-eq10-clause-is c =
    sym (ap (farther c.loop-at.at) (single_line_end c.args.chars.now c.loop-at.at c.index-chars-at.result (omega arith) c.index-chars-at.is c.if-c-eq10.true)) ∙ c.loop-at.invariant.is

pub loop-at-preserved-then-c-ne39 : goal.loop-at-preserved-then-c-ne39
loop-at-preserved-then-c-ne39 c =
    let cs = c.args.chars.now in
    let p = differs c.index-chars-at.result 39 c.if-c-ne39.true in
    let q = differs c.index-chars-at.result 10 c.if-c-eq10.false in
    record {
      within = omega arith;
      is = moves single_of cs (c.index-chars-at.result ∷ []) c.loop-at.at 1 _ (single_char cs c.loop-at.at c.index-chars-at.result (omega arith) c.index-chars-at.is p q) c.loop-at.invariant.is;
    }

pub loop-at-preserved : goal.loop-at-preserved
loop-at-preserved c =
    let cs = c.args.chars.now in
    let p : eqb c.index-chars-at.result 39 ≡ true = grind arith in
    let q = rw (take_rest cs (c.loop-at.at + 1)) at (sym c.starts.ensures ∙ c.if-starts.true) in
    let within : c.loop-at.at + 2 ≤ length cs = two_left cs c.loop-at.at q in
    record {
      within = within;
      is = moves single_of cs (39 ∷ []) c.loop-at.at 2 _ (single_two cs c.loop-at.at c.index-chars-at.result (omega arith) c.index-chars-at.is p q) c.loop-at.invariant.is;
    }

pub returns-else-starts-clause-is : goal.returns-else-starts-clause-is
returns-else-starts-clause-is c =
    let cs = c.args.chars.now in
    let p : eqb c.index-chars-at.result 39 ≡ true = grind arith in
    let q = rw (take_rest cs (c.loop-at.at + 1)) at (sym c.starts.ensures ∙ c.if-starts.false) in
    sym (ap (farther c.loop-at.at) (single_end cs c.loop-at.at c.index-chars-at.result (omega arith) c.index-chars-at.is p q)) ∙ c.loop-at.invariant.is
