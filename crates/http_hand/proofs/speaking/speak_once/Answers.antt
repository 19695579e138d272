use Rattle.http_hand.proofs.Closing.{spoke_once}
use Rattle.http_hand.proofs.speaking.speak_once.Goals as goal

pub returns-clause-speaks : goal.returns-clause-speaks
returns-clause-speaks g c =
    spoke_once c.args.request.now c.args.bytes.now c.speak_on-outcome.result (g.W.Wire.past c.args.wire.now) (g.W.Wire.past c.close.new.self)
    (g.W.P.Pipe.talk c.args.pipe) (g.W.P.Pipe.talk c.speak_on-outcome.new.pipe) (g.W.P.Pipe.faults c.args.pipe) (g.W.P.Pipe.faults c.speak_on-outcome.new.pipe)
    (g.W.Wire.faults c.args.wire.now) (g.W.Wire.faults c.close.new.self) c.requires.sound c.requires.fresh c.speak_on-outcome.ensures.speaks
    (g.met.W.EvenWire.even c.args.wire.now c.speak_on-outcome.new.pipe) c.close.ensures.told c.close.ensures.faulty
