-- From the newest entry on, the first claim is the latest.
use Rattle.std.proofs.Common.{◌≡◌, ◌∙◌, ℕ, ◌-◌, List, Some, length, take, sym, ap, arith}
use Rattle.std.specs.Prelude.{reverse}
use Rattle.std.proofs.lemmas.List.{take_all}
use Rattle.engine_types.specs.declared.Entry.{Entry}
use Rattle.run_report.specs.Claims.{before_claim}
use Rattle.run_report.proofs.Backward.{claim_before, claim_here}
use Rattle.run_report.proofs.asking.before_claim.Goals as goal

pub loop-at-init : goal.loop-at-init
loop-at-init c =
    let all : take (length c.args.past.now) c.args.past.now ≡ c.args.past.now = take_all _ _ (omega arith) in
    record { within = omega arith; same = ap (λ (l : List Entry). before_claim (reverse l) c.args.action) all }

pub loop-at-preserved : goal.loop-at-preserved
loop-at-preserved c = record {
  within = omega arith;
  same = sym (claim_before c.args.past.now c.loop-at.at (c.loop-at.at - 1) c.index-past-at.result (omega arith) (omega arith) c.index-past-at.is c.args.action (sym c.is_claim_of.ensures ∙ c.if-is_claim_of.false))
      ∙ c.loop-at.invariant.same;
}

pub returns-then-is_claim_of : goal.returns-then-is_claim_of
returns-then-is_claim_of c =
    ap (λ (p : List Entry). Some (reverse p)) c.earlier.ensures
    ∙ sym (claim_here c.args.past.now c.loop-at.at (c.loop-at.at - 1) c.index-past-at.result (omega arith) (omega arith) c.index-past-at.is c.args.action (sym c.is_claim_of.ensures ∙ c.if-is_claim_of.true))
    ∙ c.loop-at.invariant.same

pub returns : goal.returns
returns c =
    let none : 0 ≡ c.loop-at.at = omega arith in
    ap (λ (k : ℕ). before_claim (reverse (take k c.args.past.now)) c.args.action) none ∙ c.loop-at.invariant.same
