-- From the newest entry on, the first poll is the latest.
use Rattle.std.proofs.Common.{◌≡◌, ◌∙◌, ℕ, ◌-◌, List, Some, length, take, sym, ap, arith}
use Rattle.std.specs.Prelude.{reverse}
use Rattle.std.proofs.lemmas.List.{take_all}
use Rattle.engine_types.specs.declared.Entry.{Entry}
use Rattle.run_report.specs.Claims.{before_poll}
use Rattle.run_report.proofs.Backward.{poll_before, poll_here}
use Rattle.run_report.proofs.Numbers.{none_from}
use Rattle.run_report.proofs.polls.latest_poll.Goals as goal

pub loop-at-init : goal.loop-at-init
loop-at-init c =
    let all : take (length c.args.past.now) c.args.past.now ≡ c.args.past.now = take_all _ _ (omega arith) in
    record { within = omega arith; same = ap (λ (l : List Entry). before_poll (reverse l) c.args.worker) all }

pub loop-at-preserved : goal.loop-at-preserved
loop-at-preserved c = record {
  within = omega arith;
  same = sym (poll_before c.args.past.now c.loop-at.at (c.loop-at.at - 1) c.index-past-at.result (omega arith) (omega arith) c.index-past-at.is c.args.worker (sym (none_from c.slot_polled.result c.in_default.not-Some) ∙ c.slot_polled.ensures))
      ∙ c.loop-at.invariant.same;
}

pub returns-in-Some : goal.returns-in-Some
returns-in-Some c =
    ap (λ (p : List Entry). Some (reverse p, c.in-Some.slot)) c.earlier.ensures
    ∙ poll_here c.args.past.now c.loop-at.at (c.loop-at.at - 1) c.index-past-at.result (omega arith) (omega arith) c.index-past-at.is c.args.worker c.in-Some.slot c.in-Some.ensures
    ∙ c.loop-at.invariant.same

pub returns : goal.returns
returns c =
    let none : 0 ≡ c.loop-at.at = omega arith in
    ap (λ (k : ℕ). before_poll (reverse (take k c.args.past.now)) c.args.worker) none ∙ c.loop-at.invariant.same
