use Rattle.std.proofs.Common.{◌≡◌, ◌+◌, ◌<◌, ◌≤◌, ℕ, ap, arith, length, sym}
use Rattle.std.proofs.lemmas.Result.{err_from_is_err_and}
use Rattle.ledger_run.specs.Tellings.{telling}
use Rattle.outside_api.specs.Plugs.{dial_of}
use Rattle.repeated_runs.proofs.Dials.{counts_more, counts_none, dials_end, dials_more, dials_none, few_counted, new_more, new_none, one_longer}
use Rattle.repeated_runs.specs.Dials.{IsDialHere}
use Rattle.tree_base.specs.Limits.{most_workers}
use Rattle.repeated_runs.proofs.dialling.dial_all.Goals as goal

pub loop-number-init : goal.loop-number-init
loop-number-init g c = record {
  count = ap length c.requires.empty;
  made = new_none (λ h. telling (g.P.Hand.Hand.log h) (g.P.Hand.Hand.heard h) (g.P.Hand.Hand.faults h) (g.P.Hand.Hand.clock h) (g.P.Hand.Hand.engine h)) c.args.hands.now.items c.requires.empty;
  dials = dials_none (IsDialHere c.args.place.now) c.args.workers (g.P.Plug.dials c.args.plug.now) (length c.args.hands.now.items) (ap length c.requires.empty);
  dialled = counts_none (g.P.Plug.dialled c.args.plug.now) (length c.args.hands.now.items) (ap length c.requires.empty);
  counted = omega arith;
  room = c.requires.room;
}

pub loop-number-preserved : goal.loop-number-preserved
loop-number-preserved g c =
    let was = c.loop-number.invariant in let put = c.push_reserved.ensures in
    let longer : length c.push_reserved.new.self.items ≡ length c.loop-number.hands.items + 1 = one_longer c.loop-number.hands.items c.push_reserved.new.self.items c.in_ok-hand.hand put.items in
    let here = c.args.place.now in
    let count = was.count in let within : length c.loop-number.hands.items < c.args.workers = omega (arith, count) in
    let same : dial_of here.target here.stop_file c.loop-number.number ≡ dial_of here.target here.stop_file (length c.loop-number.hands.items) = ap (λ (n : ℕ). dial_of here.target here.stop_file n) (sym count) in
    let faults = was.counted in let rise = c.dial.ensures.counted in let room = was.room in let kept = put.capacity in record {
      count = omega (arith, longer, count);
      made = new_more (λ h. telling (g.P.Hand.Hand.log h) (g.P.Hand.Hand.heard h) (g.P.Hand.Hand.faults h) (g.P.Hand.Hand.clock h) (g.P.Hand.Hand.engine h)) c.loop-number.hands.items c.push_reserved.new.self.items c.in_ok-hand.hand put.items was.made c.in_ok-hand.ensures.made;
      dials = dials_more (IsDialHere here) c.args.workers (g.P.Plug.dials c.args.plug.now) (g.P.Plug.dials c.loop-number.plug) (g.P.Plug.dials c.dial.new.plug) (dial_of here.target here.stop_file c.loop-number.number) (length c.loop-number.hands.items) (length c.push_reserved.new.self.items)
          same within c.in_ok-hand.ensures.dials longer was.dials;
      dialled = counts_more (g.P.Plug.dialled c.args.plug.now) (g.P.Plug.dialled c.loop-number.plug) (g.P.Plug.dialled c.dial.new.plug) (length c.loop-number.hands.items) (length c.push_reserved.new.self.items) longer was.dialled c.in_ok-hand.ensures.dialled;
      counted = omega (arith, faults, rise);
      room = omega (arith, room, kept);
    }

pub dial-requires : goal.dial-requires
dial-requires g c =
    let was = c.loop-number.invariant in let count = was.count in let top = c.requires.few in
    let few : length c.loop-number.hands.items ≤ most_workers = omega (arith, count, top) in
    few_counted (g.P.Plug.dialled c.args.plug.now) (g.P.Plug.dialled c.loop-number.plug) (length c.loop-number.hands.items) c.requires.told was.dialled few

pub returns-in_err-hand-clause-dials : goal.returns-in_err-hand-clause-dials
returns-in_err-hand-clause-dials g c =
    let p = err_from_is_err_and c.from_residual.result c.from_residual.ensures.1 in
    let was = c.loop-number.invariant in let here = c.args.place.now in
    let count = was.count in let within : length c.loop-number.hands.items < c.args.workers = omega (arith, count) in
    let same : dial_of here.target here.stop_file c.loop-number.number ≡ dial_of here.target here.stop_file (length c.loop-number.hands.items) = ap (λ (n : ℕ). dial_of here.target here.stop_file n) (sym count) in
    rw (p.1, p.2) (dials_end (IsDialHere here) c.args.workers (g.P.Plug.dials c.args.plug.now) (g.P.Plug.dials c.loop-number.plug) (g.P.Plug.dials c.dial.new.plug) (dial_of here.target here.stop_file c.loop-number.number) (length c.loop-number.hands.items) c.in_err-hand.field-0.0
    same within c.in_err-hand.ensures.dials was.dials)
