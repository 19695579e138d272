use Rattle.run_report.proofs.Places.{Entered}
use Rattle.run_report.proofs.claims.claim_places.Given as goal

abbrev pub invariant-loop-at : goal.invariant-loop-at
invariant-loop-at l = Entered l.journal l.count l.claims.items l.at
