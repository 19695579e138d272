-- The request is written whole and the response read, or it is written in part, or not at all.
use Rattle.std.proofs.Common.{arith}
use Rattle.http_hand.proofs.Talking.{spoke_nothing, spoke_part, spoke_whole}
use Rattle.http_hand.proofs.speaking.speak_on.Goals as goal

pub returns-then-written-bytes-clause-speaks : goal.returns-then-written-bytes-clause-speaks
returns-then-written-bytes-clause-speaks g c =
    spoke_whole c.args.request.now c.args.bytes.now c.answer_on.result (g.P.Pipe.talk c.args.pipe.now) (g.P.Pipe.talk c.write_on-written.new.pipe) (g.P.Pipe.talk c.answer_on.new.pipe)
    (g.P.Pipe.faults c.args.pipe.now) (g.P.Pipe.faults c.write_on-written.new.pipe) (g.P.Pipe.faults c.answer_on.new.pipe) c.write_on-written.result c.if-written-bytes.true
    c.write_on-written.ensures.counted c.answer_on.ensures.counted c.write_on-written.ensures.told c.answer_on.ensures.answers

pub returns-then-written-eq0-clause-speaks : goal.returns-then-written-eq0-clause-speaks
returns-then-written-eq0-clause-speaks g c =
    spoke_nothing c.args.request.now c.args.bytes.now (g.P.Pipe.talk c.args.pipe.now) (g.P.Pipe.talk c.write_on-written.new.pipe)
    (g.P.Pipe.faults c.args.pipe.now) (g.P.Pipe.faults c.write_on-written.new.pipe) c.write_on-written.result c.if-written-eq0.true
    (c.write_on-written.ensures.failed (grind (arith, c.write_on-written.ensures.within, c.if-written-bytes.false))) c.write_on-written.ensures.told

pub returns-else-written-eq0-clause-speaks : goal.returns-else-written-eq0-clause-speaks
returns-else-written-eq0-clause-speaks g c =
    spoke_part c.args.request.now c.args.bytes.now (g.P.Pipe.talk c.args.pipe.now) (g.P.Pipe.talk c.write_on-written.new.pipe)
    (g.P.Pipe.faults c.args.pipe.now) (g.P.Pipe.faults c.write_on-written.new.pipe) c.write_on-written.result c.write_on-written.ensures.within
    (c.write_on-written.ensures.failed (grind (arith, c.write_on-written.ensures.within, c.if-written-bytes.false))) c.write_on-written.ensures.told
