-- A reader was made, or there was no memory for one.
use Rattle.std.proofs.Common.{[], length, arith}
use Rattle.std.proofs.lemmas.Result.{err_from_is_err_and}
use Rattle.wait_run.proofs.Streaming.{reads_streams, watch_ended}
use Rattle.wait_run.proofs.Ways.{way_short}
use Rattle.wait_run.specs.declared.refusal.WaitRefusal.{WaitRefusal}
use Rattle.wait_run.proofs.watching.watch.Goals as goal

pub returns-in_err-reader : goal.returns-in_err-reader
returns-in_err-reader g c =
    let p = err_from_is_err_and c.from_residual.result c.from_residual.ensures.1 in
    rw (p.1, p.2) (record {
      counted = omega arith;
      watches = λ declared rows from talk faults way reads low.
          watch_ended declared rows from _ talk _ faults _ c.args.goals.now [] WaitRefusal.Memory (reads_streams c.args.body.now [] talk _ reads)
          (way_short declared rows [] (length declared.slots) from _ c.args.goals.now way);
    })

pub returns : goal.returns
returns g c = record {
  counted = c.watch_with.ensures.counted;
  watches = λ declared rows from talk faults way reads low. c.watch_with.ensures.watches declared rows from talk faults way reads low c.in_ok-reader.ensures;
}
