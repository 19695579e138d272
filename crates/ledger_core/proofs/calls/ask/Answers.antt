use Rattle.std.proofs.Common.{◌≡◌, ◌∙◌, subst}
use Rattle.run_model.specs.Legal.{Decision, Full, Look, Pause, Take}
use Rattle.journal_laws.specs.Courses.{entries, grown, setup_of}
use Rattle.ledger_core.specs.Answers.{Answers, AsksFor, answer_entry}
use Rattle.ledger_core.specs.declared.asked.Asked.{Asked}
use Rattle.ledger_core.proofs.Answering.{below}
use Rattle.ledger_core.proofs.calls.ask.Goals as goal

pub take-requires-clause-room : goal.take-requires-clause-room
take-requires-clause-room c = below (setup_of c.args.ledger.now) (entries c.args.ledger.now) c.args.worker (λ e. let bad : Take c.in-Take.action ≡ Full = c.in-Take.ensures ∙ e in cc bad)

pub look-requires-clause-room : goal.look-requires-clause-room
look-requires-clause-room c = below (setup_of c.args.ledger.now) (entries c.args.ledger.now) c.args.worker (λ e. let bad : Look c.in-Look.slot ≡ Full = c.in-Look.ensures ∙ e in cc bad)

pub pause-requires-clause-room : goal.pause-requires-clause-room
pause-requires-clause-room c = below (setup_of c.args.ledger.now) (entries c.args.ledger.now) c.args.worker (λ e. let bad : Pause ≡ Full = c.in-Pause.ensures ∙ e in cc bad)

pub returns-in-Full : goal.returns-in-Full
returns-in-Full c = record {
  decided = subst (λ (d : Decision). Answers c.args.worker d Asked.Leave) c.in-Full.ensures tt;
  asks = subst (λ (d : Decision). AsksFor (setup_of c.args.ledger.now) (entries c.args.ledger.now) d Asked.Leave) c.in-Full.ensures tt;
  entered = subst (λ (d : Decision). c.leave.new.self ≡ grown c.args.ledger.now (answer_entry c.args.worker d Asked.Leave)) c.in-Full.ensures c.leave.ensures;
}

pub returns-in-Go : goal.returns-in-Go
returns-in-Go c = record {
  decided = subst (λ (d : Decision). Answers c.args.worker d Asked.Leave) c.in-Go.ensures tt;
  asks = subst (λ (d : Decision). AsksFor (setup_of c.args.ledger.now) (entries c.args.ledger.now) d Asked.Leave) c.in-Go.ensures tt;
  entered = subst (λ (d : Decision). c.leave-in-Go.new.self ≡ grown c.args.ledger.now (answer_entry c.args.worker d Asked.Leave)) c.in-Go.ensures c.leave-in-Go.ensures;
}

pub returns-in-Take : goal.returns-in-Take
returns-in-Take c = record {
  decided = subst (λ (d : Decision). Answers c.args.worker d c.take.result) c.in-Take.ensures c.take.ensures.answers;
  asks = subst (λ (d : Decision). AsksFor (setup_of c.args.ledger.now) (entries c.args.ledger.now) d c.take.result) c.in-Take.ensures c.take.ensures.asks;
  entered = subst (λ (d : Decision). c.take.new.ledger ≡ grown c.args.ledger.now (answer_entry c.args.worker d c.take.result)) c.in-Take.ensures c.take.ensures.entered;
}

pub returns-in-Look : goal.returns-in-Look
returns-in-Look c = record {
  decided = subst (λ (d : Decision). Answers c.args.worker d c.look.result) c.in-Look.ensures c.look.ensures.answers;
  asks = subst (λ (d : Decision). AsksFor (setup_of c.args.ledger.now) (entries c.args.ledger.now) d c.look.result) c.in-Look.ensures c.look.ensures.asks;
  entered = subst (λ (d : Decision). c.look.new.ledger ≡ grown c.args.ledger.now (answer_entry c.args.worker d c.look.result)) c.in-Look.ensures c.look.ensures.entered;
}

pub returns-in-Pause : goal.returns-in-Pause
returns-in-Pause c = record {
  decided = subst (λ (d : Decision). Answers c.args.worker d c.pause.result) c.in-Pause.ensures c.pause.ensures.answers;
  asks = subst (λ (d : Decision). AsksFor (setup_of c.args.ledger.now) (entries c.args.ledger.now) d c.pause.result) c.in-Pause.ensures tt;
  entered = subst (λ (d : Decision). c.pause.new.ledger ≡ grown c.args.ledger.now (answer_entry c.args.worker d c.pause.result)) c.in-Pause.ensures c.pause.ensures.entered;
}
