use Rattle.journal_laws.proofs.Holders.{is_held, is_watcher}
use Rattle.journal_laws.proofs.laws.permits_are_single.Goals as goal

pub returns : goal.returns
returns c = record {
  work = λ aim setup past w a legal h. let r = is_held aim setup past w a legal h in (r.out, r.alone);
  watch = λ aim setup past w s legal h. let r = is_watcher aim setup past w s legal h in (r.below, r.alone);
}
