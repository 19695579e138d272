use Rattle.ledger_run.proofs.turn.exchange.Goals as goal

pub returns : goal.returns
returns g c = record {
  outcome = c.exchange-outcome.result;
  entered = c.end.ensures;
  exchanges = record {
    told = c.exchange-outcome.ensures.told;
    caused = record {
      logged = c.exchange-outcome.ensures.log;
      hears = c.exchange-outcome.ensures.heard;
      counted = c.exchange-outcome.ensures.counted;
      unsent = c.exchange-outcome.ensures.unsent_faults;
      cause = c.exchange-outcome.ensures.cause;
    };
    timed = c.exchange-outcome.ensures.clock;
  };
}
