use Rattle.slot_rows.proofs.Reporting.{actions_stay, elsewhere, looked_at, there}
use Rattle.slot_rows.proofs.reports.verdicts_follow_reports.Goals as goal

pub returns : goal.returns
returns c = record {
  there = λ aim setup past w s outcome c legal held later. there aim setup past w s outcome legal held c later;
  elsewhere = λ aim setup past w s t outcome c legal held n. elsewhere aim setup past w s outcome legal held t c n;
  actions = actions_stay;
  looked_at = λ aim setup past w s outcome legal held. looked_at aim setup past w s outcome legal held;
}
