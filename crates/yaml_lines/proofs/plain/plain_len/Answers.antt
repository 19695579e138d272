use Rattle.std.proofs.Common.{◌≡◌, ◌∙◌, ◌+◌, drop, false, if◌then◌else◌, sym, arith}
use Rattle.std.proofs.lemmas.List.{take_rest}
use Rattle.yaml_lines.proofs.PlainSteps.{passed}
use Rattle.yaml_lines.specs.Plain.{ends_plain}
use Rattle.yaml_lines.proofs.plain.plain_len.Goals as goal
use Rattle.yaml_lines.proofs.plain.plain_len.Goals.{then-not-white, else-not-white}

pub loop-at-preserved : goal.loop-at-preserved
loop-at-preserved c =
    let cs = c.args.chars.now in
    let at = c.loop-at.at in
    let context = c.args.context in
    let white = c.is_white-white.result in
    let tested = rw (take_rest cs at) at c.ends_plain.ensures in
    let full : ends_plain context c.loop-at.white (drop at cs) ≡ false = sym tested ∙ c.if-ends_plain.false in
    let end : c.if-not-white.end ≡ (if white then c.loop-at.end else at + 1) =
    elim c.if-not-white.branch [ then-not-white w ↦ rw w.if-not-white.true w.end-is | else-not-white w ↦ rw w.if-not-white.false w.end-is ] in
    let within = c.loop-at.invariant.within in
    record {
      within = elim c.if-not-white.branch [ then-not-white w ↦ omega (arith, w.end-is) | else-not-white w ↦ omega (arith, w.end-is, within) ];
      is = passed context c.loop-at.white white at c.loop-at.end c.if-not-white.end c.index-chars-at.result cs _ (omega arith) c.index-chars-at.is full c.is_white-white.ensures end c.loop-at.invariant.is;
    }
