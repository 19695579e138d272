use Rattle.ledger_rows.proofs.Turns.{claimed}
use Rattle.ledger_rows.proofs.entries.claim.Goals as goal

pub returns : goal.returns
returns g c = λ w. claimed g.run.setup g.run.journal c.args.rows.now c.set_state.new.self c.args.action w c.requires.0 c.requires.1.0 c.requires.1.1 c.set_state.ensures.states c.set_state.ensures.lacks
