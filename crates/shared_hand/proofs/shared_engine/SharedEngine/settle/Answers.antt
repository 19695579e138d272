-- Another request is no look.
use Rattle.shared_hand.proofs.Settles.{looks_nowhere, notes_nothing}
use Rattle.shared_hand.proofs.shared_engine.SharedEngine.settle.Goals as goal

pub returns-in_default-clause-engine : goal.returns-in_default-clause-engine
returns-in_default-clause-engine c =
    looks_nowhere c.args.self.now.looked c.args.self.now.engine.script c.args.self.now.engine.engine c.args.request.now c.in_default.not-Inspect

pub returns-in_default-clause-looked : goal.returns-in_default-clause-looked
returns-in_default-clause-looked c =
    notes_nothing c.args.self.now.looked c.args.self.now.engine.script c.args.self.now.engine.engine c.args.request.now c.in_default.not-Inspect
