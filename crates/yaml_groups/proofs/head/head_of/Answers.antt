use Rattle.std.proofs.Common.{◌≡◌, ◌∙◌, ◌+◌, cond, drop, ap, arith}
use Rattle.std.proofs.lemmas.List.{take_rest}
use Rattle.yaml_groups.proofs.HeadSteps.{head_end, head_step, white_front}
use Rattle.yaml_groups.specs.Grouped.{head_of}
use Rattle.yaml_lines.specs.Blanks.{blanks}
use Rattle.yaml_groups.proofs.head.head_of.Goals as goal
use Rattle.yaml_groups.proofs.head.head_of.Goals.{then-owns, else-owns}

pub loop-owner-init : goal.loop-owner-init
loop-owner-init c =
    let cs = c.args.chars.now in
    let front : blanks cs ≡ 0 + blanks cs = omega arith in
    record {
      within = omega arith;
      is = (λ i. head_of c.args.owner (c.blanks-at.ensures.is i) 0 (drop (c.blanks-at.ensures.is i) cs))
          ∙ ap (λ at. head_of c.args.owner at 0 (drop (blanks cs) cs)) front ∙ white_front c.args.owner 0 cs;
    }

pub returns-then-len-eq0-clause-is : goal.returns-then-len-eq0-clause-is
returns-then-len-eq0-clause-is c =
    let cs = c.args.chars.now in
    let is = rw (take_rest cs c.loop-owner.at) at c.front_of-len.ensures.is in
    head_end c.loop-owner.column c.loop-owner.at cs c.front_of-len.result _ is c.if-len-eq0.true c.loop-owner.invariant.is

pub loop-owner-preserved : goal.loop-owner-preserved
loop-owner-preserved c =
    let cs = c.args.chars.now in
    let at = c.loop-owner.at in
    let front = c.front_of-len.result in
    let is = rw (take_rest cs at) at c.front_of-len.ensures.is in
    let column : c.if-owns.column ≡ cond front.1 at c.loop-owner.column =
    elim c.if-owns.branch [ then-owns w ↦ rw w.if-owns.true w.column-is | else-owns w ↦ rw w.if-owns.false w.column-is ] in
    record {
      within = omega arith;
      is = head_step c.loop-owner.column c.if-owns.column at cs front _ is c.if-len-eq0.false (omega arith) column c.loop-owner.invariant.is;
    }
