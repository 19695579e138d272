-- The wire's past grows by what was said in the exchange, which is what was heard.
use Rattle.std.proofs.Common.{ℕ, ◌∷◌, ◌++◌, [], List, Bool, Option, ap, ◌∙◌}
use Rattle.engine_types.specs.declared.Exchange.{Exchange}
use Rattle.engine_bodies.specs.Requests.{bytes_of}
use Rattle.http_hand.proofs.Closing.{speaks_kept}
use Rattle.http_hand.proofs.Hearing.{caused_after, dialled_after, heard_after, told_after}
use Rattle.http_hand.specs.HttpHands.{at_place}
use Rattle.http_hand.proofs.http_hand.HttpHandHand.exchange.Goals as goal

pub invariant_of-self : goal.invariant_of-self
invariant_of-self g c =
    let put = (rw c.unwrap.ensures at c.push.ensures.ok) ∙ ap (λ (l : List Bool). l ++ c.speak-outcome.result.1 ∷ []) c.has_room.ensures.opened in
    record {
      dialled = dialled_after c.speak-outcome.result.1 c.args.self.now.opened.items c.push.new.self.items c.args.request (bytes_of c.args.request) c.speak-outcome.result.0
          (g.W.Wire.past c.args.self.now.wire) (g.W.Wire.past c.speak-outcome.new.wire) (g.W.Wire.dialled c.args.self.now.wire) (g.W.Wire.dialled c.speak-outcome.new.wire)
          (g.W.Wire.faults c.args.self.now.wire) (g.W.Wire.faults c.speak-outcome.new.wire) (rw c.has_room.ensures.wire at c.speak-outcome.ensures.speaks) c.args.self.now.dialled put;
      told = told_after c.speak-outcome.result.1 c.args.self.now.opened.items c.push.new.self.items c.args.request (bytes_of c.args.request) c.speak-outcome.result.0
          (g.W.Wire.past c.args.self.now.wire) (g.W.Wire.past c.speak-outcome.new.wire) (g.W.Wire.dialled c.args.self.now.wire) (g.W.Wire.dialled c.speak-outcome.new.wire)
          (g.W.Wire.faults c.args.self.now.wire) (g.W.Wire.faults c.speak-outcome.new.wire) (rw c.has_room.ensures.wire at c.speak-outcome.ensures.speaks) c.args.self.now.told put;
    }

pub returns-clause-heard : goal.returns-clause-heard
returns-clause-heard g c =
    let put = (rw c.unwrap.ensures at c.push.ensures.ok) ∙ ap (λ (l : List Bool). l ++ c.speak-outcome.result.1 ∷ []) c.has_room.ensures.opened in
    let exchange : Exchange = record { request = c.args.request; outcome = c.twice-outcome.result.1 } in
    let logged = c.push-2.ensures ∙ ap (λ (l : List Exchange). l ++ exchange ∷ []) c.has_room.ensures.log in
    heard_after c.speak-outcome.result.1 c.args.self.now.opened.items c.push.new.self.items c.args.request (bytes_of c.args.request) c.speak-outcome.result.0
    (g.W.Wire.past c.args.self.now.wire) (g.W.Wire.past c.speak-outcome.new.wire) (g.W.Wire.dialled c.args.self.now.wire) (g.W.Wire.dialled c.speak-outcome.new.wire)
    (g.W.Wire.faults c.args.self.now.wire) (g.W.Wire.faults c.speak-outcome.new.wire) c.args.self.now.log.items c.push-2.new.self.items exchange
    (rw c.has_room.ensures.wire at c.speak-outcome.ensures.speaks) c.args.self.now.told put logged

pub returns-clause-cause : goal.returns-clause-cause
returns-clause-cause g c =
    let put = (rw c.unwrap.ensures at c.push.ensures.ok) ∙ ap (λ (l : List Bool). l ++ c.speak-outcome.result.1 ∷ []) c.has_room.ensures.opened in
    caused_after c.speak-outcome.result.1 c.args.self.now.opened.items c.push.new.self.items c.args.request (bytes_of c.args.request) c.speak-outcome.result.0 c.twice-outcome.result.0
    (g.W.Wire.past c.args.self.now.wire) (g.W.Wire.past c.speak-outcome.new.wire) (g.W.Wire.dialled c.args.self.now.wire) (g.W.Wire.dialled c.speak-outcome.new.wire)
    (g.W.Wire.faults c.args.self.now.wire) (g.W.Wire.faults c.speak-outcome.new.wire)
    (rw c.has_room.ensures.wire at c.speak-outcome.ensures.speaks) c.args.self.now.told put c.twice-outcome.ensures.kept

pub returns-clause-clock : goal.returns-clause-clock
returns-clause-clock g c =
    ap (at_place c.has_room.new.self.place) (c.speak-outcome.ensures.clock ∙ ap (λ (wire : _). g.W.Wire.clock wire) c.has_room.ensures.wire)
    ∙ ap (λ (place : Option ℕ). at_place place (g.W.Wire.clock c.args.self.now.wire)) c.has_room.ensures.place

pub returns-clause-speaks : goal.returns-clause-speaks
returns-clause-speaks g c = λ _. (
  c.speak-outcome.result.1,
  speaks_kept c.speak-outcome.result.1 c.args.request (bytes_of c.args.request) c.speak-outcome.result.0 c.twice-outcome.result.0
      (g.W.Wire.past c.args.self.now.wire) (g.W.Wire.past c.speak-outcome.new.wire) (g.W.Wire.dialled c.args.self.now.wire) (g.W.Wire.dialled c.speak-outcome.new.wire)
      (g.W.Wire.faults c.args.self.now.wire) (g.W.Wire.faults c.speak-outcome.new.wire) c.twice-outcome.ensures.kept
      (rw c.has_room.ensures.wire at c.speak-outcome.ensures.speaks),
)
