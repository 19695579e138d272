-- Where the first reading stands is noted, and the wire's clock is read.
use Rattle.std.proofs.Common.{ℕ, Option, ap, ◌∙◌}
use Rattle.outside_api.specs.Clock.{after_now, placed}
use Rattle.http_hand.specs.HttpHands.{at_place}
use Rattle.http_hand.proofs.http_hand.HttpHandHand.now.Goals as goal

pub returns-clause-clock : goal.returns-clause-clock
returns-clause-clock g c =
    ap (at_place c.placed-self.result) c.now.ensures.clock
    ∙ ap (λ (place : Option ℕ). at_place place (after_now (g.W.Wire.clock c.args.self.now.wire) c.now.result))
    (c.placed-self.ensures ∙ ap (λ (made : ℕ). placed made c.args.self.now.place) c.len.ensures)
