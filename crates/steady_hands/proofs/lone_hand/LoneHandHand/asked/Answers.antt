use Rattle.std.proofs.Common.{◌∙◌, ap, subst, sym}
use Rattle.memory_engine.specs.declared.state.MemoryEngine.{MemoryEngine}
use Rattle.outside_api.specs.Clock.{Clock}
use Rattle.outside_api.specs.ClockCounts.{counts_of}
use Rattle.steady_hands.specs.Steady.{IsWithoutFaults, are_steady}
use Rattle.steady_hands.proofs.Staying.{calm_unasked, still_unasked}
use Rattle.steady_hands.proofs.lone_hand.LoneHandHand.asked.Goals as goal

pub invariant_of-self : goal.invariant_of-self
invariant_of-self c =
    let old = c.args.self.now.hand in
    record {
      faultless = subst (λ (memory : MemoryEngine). IsWithoutFaults memory.faults) (sym c.asked.ensures.memory) c.args.self.now.faultless;
      answered = ap are_steady c.asked.ensures.log ∙ c.args.self.now.answered;
      unasked = ap (λ (clock : Clock). clock.yeses) c.asked.ensures.clock
          ∙ still_unasked (counts_of old.clock.counts) c.asked.result
          (c.asked.ensures.asked ∙ calm_unasked old.engine.faults c.args.self.now.faultless old.engine.made) c.args.self.now.unasked;
    }

pub returns-clause-never : goal.returns-clause-never
returns-clause-never c =
    let old = c.args.self.now.hand in
    c.asked.ensures.asked ∙ calm_unasked old.engine.faults c.args.self.now.faultless old.engine.made
