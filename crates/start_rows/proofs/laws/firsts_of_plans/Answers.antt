use Rattle.start_rows.proofs.Starting.{first, firsts, there}
use Rattle.start_rows.proofs.laws.firsts_of_plans.Goals as goal

pub returns : goal.returns
returns c = record {
  there = λ basis actions a s plan e. there basis actions plan a s e;
  first = λ basis actions a s plan e. first basis actions plan a s e;
  all = λ basis actions row rows plan size each. firsts basis actions plan row rows size each;
}
