use Rattle.run_model.specs.declared.verdict.Verdict.{Verdict}
use Rattle.ledger_polls.specs.Verdicts.{facts_with}
use Rattle.ledger_polls.proofs.turning.meet_open.Given as goal

abbrev pub ghost-meet : goal.ghost-meet
ghost-meet g a = record {
  setup = g.news.setup;
  journal = g.news.journal;
  before = facts_with g.news Verdict.NotYet;
  after = facts_with g.news Verdict.Met;
  slot = g.news.slot;
  condition = g.news.condition;
}
