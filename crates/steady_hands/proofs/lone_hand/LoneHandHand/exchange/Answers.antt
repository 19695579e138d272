use Rattle.std.proofs.Common.{◌∙◌, ap, subst, sym}
use Rattle.memory_engine.specs.declared.faults.FaultPlan.{FaultPlan}
use Rattle.outside_api.specs.Clock.{Clock}
use Rattle.outside_files.specs.Counts.{one_more}
use Rattle.steady_hands.specs.Steady.{IsWithoutFaults}
use Rattle.steady_hands.proofs.Staying.{calm_steady, stays_logged}
use Rattle.steady_hands.proofs.lone_hand.LoneHandHand.exchange.Goals as goal

pub invariant_of-self : goal.invariant_of-self
invariant_of-self c =
    let old = c.args.self.now.hand in
    let new = c.exchange.new.self in
    record {
      faultless = subst (λ (plan : FaultPlan). IsWithoutFaults plan) (sym c.exchange.ensures.plan) c.args.self.now.faultless;
      answered = stays_logged old.log.items new.log.items c.args.request c.exchange.result c.exchange.ensures.log
          (λ is. calm_steady old.engine.faults c.args.self.now.faultless (one_more old.engine.made) old.engine.catalogue old.engine.engine new.engine.engine
          c.args.request c.exchange.result (c.exchange.ensures.fate is)) c.args.self.now.answered;
      unasked = ap (λ (clock : Clock). clock.yeses) c.exchange.ensures.clock ∙ c.args.self.now.unasked;
    }
