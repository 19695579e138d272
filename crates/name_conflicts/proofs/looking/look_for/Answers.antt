use Rattle.std.proofs.Common.{◌≡◌, Option, ap, arith, subst}
use Rattle.name_conflicts.proofs.Rounds.{goes_more, goes_none, looked_by, missed_all, read_once}
use Rattle.name_conflicts.specs.Looks.{IsRound, most_looks}
use Rattle.name_conflicts.specs.declared.look_end.LookEnd.{LookEnd}
use Rattle.outside_api.specs.Clock.{Clock}
use Rattle.name_conflicts.proofs.looking.look_for.Goals as goal

pub looking-init : goal.looking-init
looking-init g c =
    let paused : (g.H.Hand.clock c.args.hand.now).paused ≡ 0 = ap (λ (k : Clock). k.paused) c.requires in
    let looks : (g.H.Hand.clock c.args.hand.now).looks ≡ 0 = ap (λ (k : Clock). k.looks) c.requires in
    let readings : (g.H.Hand.clock c.args.hand.now).readings ≡ 0 = ap (λ (k : Clock). k.readings) c.requires in record {
      goes = goes_none c.args.project.now c.args.request.now c.args.deadline (g.H.Hand.log c.args.hand.now) (g.H.Hand.clock c.args.hand.now);
      few = omega arith;
      paused = omega (arith, paused);
      looks = omega (arith, looks);
      readings = omega (arith, readings);
    }

pub looking-preserved : goal.looking-preserved
looking-preserved g c =
    let was = c.looking.invariant in
    let round = subst (λ (found : Option LookEnd). IsRound c.args.project.now c.args.request.now c.args.deadline found (g.H.Hand.log c.looking.hand) (g.H.Hand.log c.look_once.new.hand) (g.H.Hand.clock c.looking.hand) (g.H.Hand.clock c.look_once.new.hand)) c.in-None.is c.look_once.ensures in
    let below = c.looking-test.true in
    let paused = was.paused in let looks = was.looks in let readings = was.readings in
    let by_pause = round.paused in let by_look = round.looks in let by_reading = round.readings in let once = read_once c.args.deadline in record {
      goes = goes_more c.args.project.now c.args.request.now c.args.deadline c.looking.rounds (g.H.Hand.log c.args.hand.now) (g.H.Hand.log c.looking.hand) (g.H.Hand.log c.look_once.new.hand) (g.H.Hand.clock c.args.hand.now) (g.H.Hand.clock c.looking.hand) (g.H.Hand.clock c.look_once.new.hand) was.goes round;
      few = omega (arith, below);
      paused = omega (arith, paused, by_pause);
      looks = omega (arith, looks, by_look);
      readings = omega (arith, readings, by_reading, once);
    }

pub look_once-requires-clause-paused : goal.look_once-requires-clause-paused
look_once-requires-clause-paused g c = let was = c.looking.invariant.paused in let few = c.looking.invariant.few in omega (arith, was, few)

pub look_once-requires-clause-looks : goal.look_once-requires-clause-looks
look_once-requires-clause-looks g c = let was = c.looking.invariant.looks in let few = c.looking.invariant.few in omega (arith, was, few)

pub look_once-requires-clause-readings : goal.look_once-requires-clause-readings
look_once-requires-clause-readings g c = let was = c.looking.invariant.readings in let few = c.looking.invariant.few in omega (arith, was, few)

pub returns-in-Some : goal.returns-in-Some
returns-in-Some g c = looked_by c.args.project.now c.args.request.now c.args.deadline c.in-Some.end c.looking.rounds (g.H.Hand.log c.args.hand.now) (g.H.Hand.log c.looking.hand) (g.H.Hand.log c.look_once.new.hand) (g.H.Hand.clock c.args.hand.now) (g.H.Hand.clock c.looking.hand) (g.H.Hand.clock c.look_once.new.hand)
    (let below = c.looking-test.true in omega (arith, below)) c.looking.invariant.goes
    (subst (λ (found : Option LookEnd). IsRound c.args.project.now c.args.request.now c.args.deadline found (g.H.Hand.log c.looking.hand) (g.H.Hand.log c.look_once.new.hand) (g.H.Hand.clock c.looking.hand) (g.H.Hand.clock c.look_once.new.hand)) c.in-Some.is c.look_once.ensures)

pub returns : goal.returns
returns g c =
    let all : c.looking.rounds ≡ most_looks = let few = c.looking.invariant.few in let done = c.looking-test.false in omega (arith, few, done) in
    missed_all c.args.project.now c.args.request.now c.args.deadline c.looking.rounds (g.H.Hand.log c.args.hand.now) (g.H.Hand.log c.looking.hand) (g.H.Hand.clock c.args.hand.now) (g.H.Hand.clock c.looking.hand) all c.looking.invariant.goes
