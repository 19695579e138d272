-- The first turn of the worker, from the newest entry on.
use Rattle.std.proofs.Common.{rules, tests}
use Rattle.std.proofs.lemmas.Iterator.Adapters.{YieldsList-from_rev_slice}
use Rattle.std.proofs.lemmas.Iterator.Search.{find_from_yields_List}
use Rattle.run_report.specs.Permits.{is_turn_of}
use Rattle.run_report.proofs.held.latest_turn.Goals as goal

pub returns : goal.returns
returns c = find_from_yields_List (is_turn_of c.args.worker) _ _ _ c.find.ensures.ran (YieldsList-from_rev_slice c.args.past.now (cc)) (λ x b q k. search (rules, tests))
