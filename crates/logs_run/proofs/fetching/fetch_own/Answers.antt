use Rattle.std.proofs.Common.{◌≡◌, ◌∙◌, Some, length, refl, slice_get, arith}
use Rattle.std.proofs.lemmas.Bool.{eq-eqb, ne_eqb}
use Rattle.std.proofs.lemmas.Option.{slice_get_read}
use Rattle.logs_run.proofs.Going.{adds_none, ends_short, ends_whole, goes_past, may_add, sets_off, skips}
use Rattle.logs_run.proofs.fetching.fetch_own.Goals as goal

pub loop-task-init : goal.loop-task-init
loop-task-init g c = record { fetched = sets_off c.args.turns.now c.args.all.now c.args.workers c.args.number c.args.fetcher.now.seat c.args.fetcher.now.met _ c.requires; clock = refl }

pub loop-task-preserved-then-other : goal.loop-task-preserved-then-other
loop-task-preserved-then-other g c =
    let all = c.args.all.now in
    let at : slice_get all c.loop-task.task-index ≡ Some c.task-item.result = slice_get_read all (length all) c.loop-task.task-index c.task-item.result refl (omega arith) c.task-item.is in record {
      fetched = skips c.args.turns.now all c.args.workers c.args.number c.loop-task.task-index c.task-item.result at _ _ _ _ _ c.loop-task.invariant.fetched (ne_eqb _ _ c.if-other.true);
      clock = c.loop-task.invariant.clock;
    }

pub fetch-requires-clause-fetcher : goal.fetch-requires-clause-fetcher
fetch-requires-clause-fetcher g c = c.loop-task.invariant.fetched.fetcher

pub fetch-requires-clause-may : goal.fetch-requires-clause-may
fetch-requires-clause-may g c =
    let all = c.args.all.now in
    let at : slice_get all c.loop-task.task-index ≡ Some c.task-item.result = slice_get_read all (length all) c.loop-task.task-index c.task-item.result refl (omega arith) c.task-item.is in
    may_add c.args.turns.now all c.args.workers c.args.number c.loop-task.task-index c.task-item.result at _ _ _ _ _ c.loop-task.invariant.fetched c.requires.workers_are c.requires.below (eq-eqb _ _ c.if-other.false)

pub fetch-requires-clause-none : goal.fetch-requires-clause-none
fetch-requires-clause-none g c =
    let all = c.args.all.now in
    let at : slice_get all c.loop-task.task-index ≡ Some c.task-item.result = slice_get_read all (length all) c.loop-task.task-index c.task-item.result refl (omega arith) c.task-item.is in
    adds_none c.args.turns.now all c.args.workers c.args.number c.loop-task.task-index c.task-item.result at _ _ _ _ _ c.loop-task.invariant.fetched c.requires.ascend

pub fetch-requires-clause-going : goal.fetch-requires-clause-going
fetch-requires-clause-going g c = c.loop-task.invariant.fetched.going

pub returns-then-fetcher-clause-fetched : goal.returns-then-fetcher-clause-fetched
returns-then-fetcher-clause-fetched g c =
    let all = c.args.all.now in
    let at : slice_get all c.loop-task.task-index ≡ Some c.task-item.result = slice_get_read all (length all) c.loop-task.task-index c.task-item.result refl (omega arith) c.task-item.is in
    ends_short c.args.turns.now all c.args.workers c.args.number c.loop-task.task-index c.task-item.result at _ _ _ _ _ c.loop-task.invariant.fetched
    c.fetch.new.fetcher.seat c.fetch.new.fetcher.met _ c.fetch.ensures.fetcher c.fetch.ensures.meets (eq-eqb _ _ c.if-other.false) c.if-fetcher.true

pub loop-task-preserved : goal.loop-task-preserved
loop-task-preserved g c =
    let all = c.args.all.now in
    let at : slice_get all c.loop-task.task-index ≡ Some c.task-item.result = slice_get_read all (length all) c.loop-task.task-index c.task-item.result refl (omega arith) c.task-item.is in record {
      fetched = goes_past c.args.turns.now all c.args.workers c.args.number c.loop-task.task-index c.task-item.result at _ _ _ _ _ c.loop-task.invariant.fetched
          c.fetch.new.fetcher.seat c.fetch.new.fetcher.met _ c.fetch.ensures.fetcher c.fetch.ensures.meets (eq-eqb _ _ c.if-other.false) c.if-fetcher.false;
      clock = c.fetch.ensures.clock ∙ c.loop-task.invariant.clock;
    }

pub returns-clause-fetched : goal.returns-clause-fetched
returns-clause-fetched g c = ends_whole c.args.turns.now c.args.all.now c.args.workers c.args.number c.loop-task.task-index _ _ _ _ _ (omega arith) c.loop-task.invariant.fetched
