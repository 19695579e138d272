-- From the newest entry on, the first that says how the action stands.
use Rattle.std.proofs.Common.{◌≡◌, ◌∙◌, ℕ, ◌-◌, List, length, take, sym, ap, arith}
use Rattle.std.specs.Prelude.{reverse}
use Rattle.std.proofs.lemmas.List.{take_all}
use Rattle.engine_types.specs.declared.Entry.{Entry}
use Rattle.run_report.specs.Telling.{decides, latest_deciding}
use Rattle.run_report.proofs.Backward.{decided_before, decided_here}
use Rattle.run_report.proofs.standings.deciding.Goals as goal

pub loop-at-init : goal.loop-at-init
loop-at-init c =
    let all : take (length c.args.past.now) c.args.past.now ≡ c.args.past.now = take_all _ _ (omega arith) in
    record { within = omega arith; same = ap (λ (l : List Entry). latest_deciding (reverse l) c.args.action) all }

pub loop-at-preserved : goal.loop-at-preserved
loop-at-preserved c =
    let entry = c.index-past-at.result in
    let not_here = ap (λ (p : List Entry). decides (reverse p) entry c.args.action) (sym c.earlier.ensures) ∙ sym c.decides.ensures ∙ c.if-decides.false in
    record {
      within = omega arith;
      same = sym (decided_before c.args.past.now c.loop-at.at (c.loop-at.at - 1) entry (omega arith) (omega arith) c.index-past-at.is c.args.action not_here)
          ∙ c.loop-at.invariant.same;
    }

pub returns-then-decides : goal.returns-then-decides
returns-then-decides c =
    let entry = c.index-past-at.result in
    let here = ap (λ (p : List Entry). decides (reverse p) entry c.args.action) (sym c.earlier.ensures) ∙ sym c.decides.ensures ∙ c.if-decides.true in
    decided_here c.args.past.now c.loop-at.at (c.loop-at.at - 1) entry (omega arith) (omega arith) c.index-past-at.is c.args.action here
    ∙ c.loop-at.invariant.same

pub returns : goal.returns
returns c =
    let none : 0 ≡ c.loop-at.at = omega arith in
    ap (λ (k : ℕ). latest_deciding (reverse (take k c.args.past.now)) c.args.action) none ∙ c.loop-at.invariant.same
