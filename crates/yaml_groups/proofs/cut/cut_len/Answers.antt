use Rattle.std.proofs.Common.{◌≡◌, ◌∙◌, ◌-◌, ◌+◌, ◌≤◌, drop, length, sym, arith}
use Rattle.std.proofs.lemmas.List.{take_rest}
use Rattle.yaml_groups.proofs.CutSteps.{cut_step}
use Rattle.yaml_groups.specs.Cuts.{token_len}
use Rattle.yaml_groups.proofs.cut.cut_len.Goals as goal

pub loop-at-preserved : goal.loop-at-preserved
loop-at-preserved c =
    let cs = c.args.text.now in
    let at = c.loop-at.at in
    let len = c.max-at.result in
    let is = rw (take_rest cs at) at c.token_len.ensures.is in
    let taken : len - 1 ≡ token_len c.loop-at.white (drop at cs) - 1 = omega arith in
    let within : at + len ≤ length cs = omega arith in
    let space = rw c.index-text-at-in-loop-at.is at c.is_space-white.ensures in
    record {
      within = within;
      few = omega arith;
      is = cut_step c.loop-at.brackets _ at len c.loop-at.white _ cs c.index-text-at.result c.index-text-at-in-loop-at.result _ c.index-text-at.is (sym c.is_cut.ensures ∙ c.if-is_cut.false) c.open_behind-brackets.ensures.is (omega arith) within taken space c.loop-at.invariant.is;
    }
