use Rattle.run_model.specs.declared.verdict.Verdict.{Verdict}
use Rattle.ledger_polls.specs.Verdicts.{facts_with}
use Rattle.ledger_polls.proofs.turning.fail_open.Given as goal

abbrev pub ghost-fail : goal.ghost-fail
ghost-fail g a = record {
  setup = g.news.setup;
  journal = g.news.journal;
  before = facts_with g.news Verdict.NotYet;
  after = facts_with g.news Verdict.Failed;
  slot = g.news.slot;
  condition = g.news.condition;
}
