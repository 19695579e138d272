-- An exchange is what the settled Engine serves, or memory was wanted before.
use Rattle.std.proofs.Common.{inl, refl}
use Rattle.shared_hand.proofs.Exchanges.{caused, of_shared, serves}
use Rattle.shared_hand.proofs.shared_engine.SharedEngine.exchange.Goals as goal

pub returns-in-Ok-clause-exchanged : goal.returns-in-Ok-clause-exchanged
returns-in-Ok-clause-exchanged c =
    serves c.args.self.now (record c.settle.new.self { engine = c.answered.new.engine }) c.args.request.now c.answered.result.0
    c.settle.new.self.engine.catalogue c.settle.new.self.engine.engine c.args.self.now.engine.kept
    c.in-Ok.ensures.engine c.settle.ensures.catalogue c.answered.ensures.served c.answered.ensures.told c.in-Ok.ensures.looked

pub returns-in-Ok-clause-outcome : goal.returns-in-Ok-clause-outcome
returns-in-Ok-clause-outcome c =
    of_shared c.args.self.now (record c.settle.new.self { engine = c.answered.new.engine }) c.args.request.now c.answered.result.0
    (returns-in-Ok-clause-exchanged c)

pub returns-in-Ok-clause-cause : goal.returns-in-Ok-clause-cause
returns-in-Ok-clause-cause c = λ faults. caused faults c.args.request.now c.answered.result.0 (returns-in-Ok-clause-outcome c)

pub returns-in-Err-clause-exchanged : goal.returns-in-Err-clause-exchanged
returns-in-Err-clause-exchanged c = inl (record { wanted = refl; engine = c.in-Err.ensures.err; looked = c.in-Err.ensures.unlooked })
