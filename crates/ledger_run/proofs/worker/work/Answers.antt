use Rattle.std.proofs.Common.{arith}
use Rattle.ledger_run.specs.Tellings.{telling}
use Rattle.ledger_run.proofs.Ending.{caused, log, more, over, same, steps, told}
use Rattle.ledger_run.proofs.Underway.{HasBegun, HasCome, last_turn, may_stop, may_use, on_turn, same_limits, starts}
use Rattle.ledger_run.proofs.worker.work.Goals as goal

pub turns-init : goal.turns-init
turns-init g c = starts c.args.deadline c.args.ledger.now
    (telling (g.H.Hand.log c.args.hand.now) (g.H.Hand.heard c.args.hand.now) (g.H.Hand.faults c.args.hand.now) (g.H.Hand.clock c.args.hand.now) (g.H.Hand.engine c.args.hand.now))
    (record { seen = c.requires.begun; workers = c.requires.workers; limits = c.requires.limits; room = c.requires.clock })

pub turn-requires : goal.turn-requires
turn-requires g c =
    let b : HasBegun c.args.deadline c.args.ledger.now
    (telling (g.H.Hand.log c.args.hand.now) (g.H.Hand.heard c.args.hand.now) (g.H.Hand.faults c.args.hand.now) (g.H.Hand.clock c.args.hand.now) (g.H.Hand.engine c.args.hand.now)) = record { seen = c.requires.begun; workers = c.requires.workers; limits = c.requires.limits; room = c.requires.clock } in
    record {
      may = may_stop c.args.deadline c.args.ledger.now
          (telling (g.H.Hand.log c.args.hand.now) (g.H.Hand.heard c.args.hand.now) (g.H.Hand.faults c.args.hand.now) (g.H.Hand.clock c.args.hand.now) (g.H.Hand.engine c.args.hand.now))
          b c.turns.ledger
          (telling (g.H.Hand.log c.turns.hand) (g.H.Hand.heard c.turns.hand) (g.H.Hand.faults c.turns.hand) (g.H.Hand.clock c.turns.hand) (g.H.Hand.engine c.turns.hand))
          c.turns.invariant;
      limits = same_limits c.args.deadline c.args.ledger.now
          (telling (g.H.Hand.log c.args.hand.now) (g.H.Hand.heard c.args.hand.now) (g.H.Hand.faults c.args.hand.now) (g.H.Hand.clock c.args.hand.now) (g.H.Hand.engine c.args.hand.now))
          b c.turns.ledger
          (telling (g.H.Hand.log c.turns.hand) (g.H.Hand.heard c.turns.hand) (g.H.Hand.faults c.turns.hand) (g.H.Hand.clock c.turns.hand) (g.H.Hand.engine c.turns.hand))
          c.turns.invariant;
      clock = may_use c.args.deadline c.args.ledger.now
          (telling (g.H.Hand.log c.args.hand.now) (g.H.Hand.heard c.args.hand.now) (g.H.Hand.faults c.args.hand.now) (g.H.Hand.clock c.args.hand.now) (g.H.Hand.engine c.args.hand.now))
          b c.turns.ledger
          (telling (g.H.Hand.log c.turns.hand) (g.H.Hand.heard c.turns.hand) (g.H.Hand.faults c.turns.hand) (g.H.Hand.clock c.turns.hand) (g.H.Hand.engine c.turns.hand))
          c.turns.invariant;
    }

pub turns-preserved : goal.turns-preserved
turns-preserved g c =
    (on_turn c.args.deadline c.args.ledger.now
    (telling (g.H.Hand.log c.args.hand.now) (g.H.Hand.heard c.args.hand.now) (g.H.Hand.faults c.args.hand.now) (g.H.Hand.clock c.args.hand.now) (g.H.Hand.engine c.args.hand.now))
    (record { seen = c.requires.begun; workers = c.requires.workers; limits = c.requires.limits; room = c.requires.clock })
    c.turns.ledger
    (telling (g.H.Hand.log c.turns.hand) (g.H.Hand.heard c.turns.hand) (g.H.Hand.faults c.turns.hand) (g.H.Hand.clock c.turns.hand) (g.H.Hand.engine c.turns.hand))
    c.turns.invariant c.turn.new.ledger
    (telling (g.H.Hand.log c.turn.new.hand) (g.H.Hand.heard c.turn.new.hand) (g.H.Hand.faults c.turn.new.hand) (g.H.Hand.clock c.turn.new.hand) (g.H.Hand.engine c.turn.new.hand))
    c.turn.result c.turn.ensures c.turns-test.true).0

pub turns-smaller : goal.turns-smaller
turns-smaller g c =
    let longer = (on_turn c.args.deadline c.args.ledger.now
    (telling (g.H.Hand.log c.args.hand.now) (g.H.Hand.heard c.args.hand.now) (g.H.Hand.faults c.args.hand.now) (g.H.Hand.clock c.args.hand.now) (g.H.Hand.engine c.args.hand.now))
    (record { seen = c.requires.begun; workers = c.requires.workers; limits = c.requires.limits; room = c.requires.clock })
    c.turns.ledger
    (telling (g.H.Hand.log c.turns.hand) (g.H.Hand.heard c.turns.hand) (g.H.Hand.faults c.turns.hand) (g.H.Hand.clock c.turns.hand) (g.H.Hand.engine c.turns.hand))
    c.turns.invariant c.turn.new.ledger
    (telling (g.H.Hand.log c.turn.new.hand) (g.H.Hand.heard c.turn.new.hand) (g.H.Hand.faults c.turn.new.hand) (g.H.Hand.clock c.turn.new.hand) (g.H.Hand.engine c.turn.new.hand))
    c.turn.result c.turn.ensures c.turns-test.true).1 in
    let short = c.turns.invariant.short in
    omega (arith, longer, short)

pub returns : goal.returns
returns g c =
    let come : HasCome c.args.deadline c.args.ledger.now c.turn.new.ledger
    (telling (g.H.Hand.log c.args.hand.now) (g.H.Hand.heard c.args.hand.now) (g.H.Hand.faults c.args.hand.now) (g.H.Hand.clock c.args.hand.now) (g.H.Hand.engine c.args.hand.now))
    (telling (g.H.Hand.log c.turn.new.hand) (g.H.Hand.heard c.turn.new.hand) (g.H.Hand.faults c.turn.new.hand) (g.H.Hand.clock c.turn.new.hand) (g.H.Hand.engine c.turn.new.hand)) = last_turn c.args.deadline c.args.ledger.now
    (telling (g.H.Hand.log c.args.hand.now) (g.H.Hand.heard c.args.hand.now) (g.H.Hand.faults c.args.hand.now) (g.H.Hand.clock c.args.hand.now) (g.H.Hand.engine c.args.hand.now))
    (record { seen = c.requires.begun; workers = c.requires.workers; limits = c.requires.limits; room = c.requires.clock })
    c.turns.ledger
    (telling (g.H.Hand.log c.turns.hand) (g.H.Hand.heard c.turns.hand) (g.H.Hand.faults c.turns.hand) (g.H.Hand.clock c.turns.hand) (g.H.Hand.engine c.turns.hand))
    c.turns.invariant c.turn.new.ledger
    (telling (g.H.Hand.log c.turn.new.hand) (g.H.Hand.heard c.turn.new.hand) (g.H.Hand.faults c.turn.new.hand) (g.H.Hand.clock c.turn.new.hand) (g.H.Hand.engine c.turn.new.hand))
    c.turn.result c.turn.ensures c.turns-test.false in
    record {
      same = same c.args.ledger.now c.turn.new.ledger
          (telling (g.H.Hand.log c.args.hand.now) (g.H.Hand.heard c.args.hand.now) (g.H.Hand.faults c.args.hand.now) (g.H.Hand.clock c.args.hand.now) (g.H.Hand.engine c.args.hand.now))
          (telling (g.H.Hand.log c.turn.new.hand) (g.H.Hand.heard c.turn.new.hand) (g.H.Hand.faults c.turn.new.hand) (g.H.Hand.clock c.turn.new.hand) (g.H.Hand.engine c.turn.new.hand))
          come.came;
      more = more c.args.ledger.now c.turn.new.ledger
          (telling (g.H.Hand.log c.args.hand.now) (g.H.Hand.heard c.args.hand.now) (g.H.Hand.faults c.args.hand.now) (g.H.Hand.clock c.args.hand.now) (g.H.Hand.engine c.args.hand.now))
          (telling (g.H.Hand.log c.turn.new.hand) (g.H.Hand.heard c.turn.new.hand) (g.H.Hand.faults c.turn.new.hand) (g.H.Hand.clock c.turn.new.hand) (g.H.Hand.engine c.turn.new.hand))
          come.came;
      legal = come.came.legal;
      left = come.left;
      none_out = come.came.idle;
      ends = come.ends;
      over = over c.args.ledger.now c.turn.new.ledger
          (telling (g.H.Hand.log c.args.hand.now) (g.H.Hand.heard c.args.hand.now) (g.H.Hand.faults c.args.hand.now) (g.H.Hand.clock c.args.hand.now) (g.H.Hand.engine c.args.hand.now))
          (telling (g.H.Hand.log c.turn.new.hand) (g.H.Hand.heard c.turn.new.hand) (g.H.Hand.faults c.turn.new.hand) (g.H.Hand.clock c.turn.new.hand) (g.H.Hand.engine c.turn.new.hand))
          come.came come.left;
      log = log c.args.ledger.now c.turn.new.ledger
          (telling (g.H.Hand.log c.args.hand.now) (g.H.Hand.heard c.args.hand.now) (g.H.Hand.faults c.args.hand.now) (g.H.Hand.clock c.args.hand.now) (g.H.Hand.engine c.args.hand.now))
          (telling (g.H.Hand.log c.turn.new.hand) (g.H.Hand.heard c.turn.new.hand) (g.H.Hand.faults c.turn.new.hand) (g.H.Hand.clock c.turn.new.hand) (g.H.Hand.engine c.turn.new.hand))
          come.came;
      told = told c.args.ledger.now c.turn.new.ledger
          (telling (g.H.Hand.log c.args.hand.now) (g.H.Hand.heard c.args.hand.now) (g.H.Hand.faults c.args.hand.now) (g.H.Hand.clock c.args.hand.now) (g.H.Hand.engine c.args.hand.now))
          (telling (g.H.Hand.log c.turn.new.hand) (g.H.Hand.heard c.turn.new.hand) (g.H.Hand.faults c.turn.new.hand) (g.H.Hand.clock c.turn.new.hand) (g.H.Hand.engine c.turn.new.hand))
          come.came;
      steps = steps c.args.ledger.now c.turn.new.ledger
          (telling (g.H.Hand.log c.args.hand.now) (g.H.Hand.heard c.args.hand.now) (g.H.Hand.faults c.args.hand.now) (g.H.Hand.clock c.args.hand.now) (g.H.Hand.engine c.args.hand.now))
          (telling (g.H.Hand.log c.turn.new.hand) (g.H.Hand.heard c.turn.new.hand) (g.H.Hand.faults c.turn.new.hand) (g.H.Hand.clock c.turn.new.hand) (g.H.Hand.engine c.turn.new.hand))
          come.came;
      caused = caused c.args.ledger.now c.turn.new.ledger
          (telling (g.H.Hand.log c.args.hand.now) (g.H.Hand.heard c.args.hand.now) (g.H.Hand.faults c.args.hand.now) (g.H.Hand.clock c.args.hand.now) (g.H.Hand.engine c.args.hand.now))
          (telling (g.H.Hand.log c.turn.new.hand) (g.H.Hand.heard c.turn.new.hand) (g.H.Hand.faults c.turn.new.hand) (g.H.Hand.clock c.turn.new.hand) (g.H.Hand.engine c.turn.new.hand))
          come.came;
      timed = come.timed;
    }
