use Rattle.std.proofs.Common.{◌≡◌, ◌∙◌, ◌-◌, ◌+◌, ◌≤◌, take, drop, length, ap, sym, arith}
use Rattle.std.proofs.lemmas.List.{length-take, take_rest}
use Rattle.yaml_groups.proofs.ScanSteps.{closed_here, scan_step}
use Rattle.yaml_groups.specs.Cuts.{token_len}
use Rattle.yaml_groups.proofs.scan.scanned.Goals as goal

pub returns-then-closes-clause-is : goal.returns-then-closes-clause-is
returns-then-closes-clause-is c =
    closed_here c.loop-at.ends c.loop-at.brackets c.loop-at.at c.index-text-at.result c.loop-at.behind_white c.args.text.now _ (omega arith) c.index-text-at.is (sym c.closes.ensures ∙ c.if-closes.true) c.loop-at.invariant.is

pub loop-at-preserved : goal.loop-at-preserved
loop-at-preserved c =
    let cs = c.args.text.now in
    let at = c.loop-at.at in
    let len = c.max-len.result in
    let is = rw (take_rest cs at) at c.token_len.ensures.is in
    let taken : len - 1 ≡ token_len c.loop-at.behind_white (drop at cs) - 1 = omega arith in
    let within : at + len ≤ length cs = omega arith in
    let space = rw c.index-text-at-in-loop-at.is at c.is_space-behind_white.ensures in
    let ends = rw (take_rest cs at) at c.line_ends_in-ends.ensures.is in
    let slice = length-take len (take (length cs - at) (drop at cs)) in
    record {
      within = within;
      few = omega arith;
      nested = omega arith;
      is = scan_step c.loop-at.ends _ c.loop-at.brackets _ at len c.loop-at.behind_white _ cs c.index-text-at.result c.index-text-at-in-loop-at.result _ c.index-text-at.is (sym c.closes.ensures ∙ c.if-closes.false) c.open_behind-brackets.ensures.is (omega arith) within taken space (ap (λ n. c.loop-at.ends + n) ends) c.loop-at.invariant.is;
    }
