use Rattle.std.proofs.Common.{Bool, Some, true, false, subst, sym}
use Rattle.std.specs.Prelude.{Option}
use Rattle.ledger_run.specs.Tellings.{telling}
use Rattle.repeated_runs.specs.Dials.{IsDialHere}
use Rattle.repeated_runs.specs.Followings.{Follows}
use Rattle.repeated_runs.specs.declared.following.Behind.{Behind}
use Rattle.repeated_runs.proofs.Followed.{stands_broken, stands_else}
use Rattle.repeated_runs.specs.declared.once.Left.{Left}
use Rattle.repeated_runs.proofs.following.behind_run.Goals as goal

pub returns-then-whole : goal.returns-then-whole
returns-then-whole g c = subst (λ (w : Bool). Follows (λ h. telling (g.P.Hand.Hand.log h) (g.P.Hand.Hand.heard h) (g.P.Hand.Hand.faults h) (g.P.Hand.Hand.clock h) (g.P.Hand.Hand.engine h)) (IsDialHere c.args.place.now) (record { ended = c.args.ended; whole = w; left = c.args.left }) c.args.earlier.now.items c.behind_whole.new.earlier.items c.behind_whole.result (g.P.Plug.dials c.args.plug.now) (g.P.Plug.dials c.behind_whole.new.plug) (g.P.Plug.dialled c.args.plug.now) (g.P.Plug.dialled c.behind_whole.new.plug) (g.P.Plug.faults c.args.plug.now) (g.P.Plug.faults c.behind_whole.new.plug)) (sym c.if-whole.true)
    (subst (λ (l : Option Left). Follows (λ h. telling (g.P.Hand.Hand.log h) (g.P.Hand.Hand.heard h) (g.P.Hand.Hand.faults h) (g.P.Hand.Hand.clock h) (g.P.Hand.Hand.engine h)) (IsDialHere c.args.place.now) (record { ended = c.args.ended; whole = true; left = l }) c.args.earlier.now.items c.behind_whole.new.earlier.items c.behind_whole.result (g.P.Plug.dials c.args.plug.now) (g.P.Plug.dials c.behind_whole.new.plug) (g.P.Plug.dialled c.args.plug.now) (g.P.Plug.dialled c.behind_whole.new.plug) (g.P.Plug.faults c.args.plug.now) (g.P.Plug.faults c.behind_whole.new.plug)) (sym c.in-Some.is) c.behind_whole.ensures)

pub returns-else-whole : goal.returns-else-whole
returns-else-whole g c = subst (λ (w : Bool). Follows (λ h. telling (g.P.Hand.Hand.log h) (g.P.Hand.Hand.heard h) (g.P.Hand.Hand.faults h) (g.P.Hand.Hand.clock h) (g.P.Hand.Hand.engine h)) (IsDialHere c.args.place.now) (record { ended = c.args.ended; whole = w; left = c.args.left }) c.args.earlier.now.items c.args.earlier.now.items c.stands.result (g.P.Plug.dials c.args.plug.now) (g.P.Plug.dials c.args.plug.now) (g.P.Plug.dialled c.args.plug.now) (g.P.Plug.dialled c.args.plug.now) (g.P.Plug.faults c.args.plug.now) (g.P.Plug.faults c.args.plug.now)) (sym c.if-whole.false)
    (subst (λ (l : Option Left). Follows (λ h. telling (g.P.Hand.Hand.log h) (g.P.Hand.Hand.heard h) (g.P.Hand.Hand.faults h) (g.P.Hand.Hand.clock h) (g.P.Hand.Hand.engine h)) (IsDialHere c.args.place.now) (record { ended = c.args.ended; whole = false; left = l }) c.args.earlier.now.items c.args.earlier.now.items c.stands.result (g.P.Plug.dials c.args.plug.now) (g.P.Plug.dials c.args.plug.now) (g.P.Plug.dialled c.args.plug.now) (g.P.Plug.dialled c.args.plug.now) (g.P.Plug.faults c.args.plug.now) (g.P.Plug.faults c.args.plug.now)) (sym c.in-Some.is)
    (subst (λ (b : Behind _). Follows (λ h. telling (g.P.Hand.Hand.log h) (g.P.Hand.Hand.heard h) (g.P.Hand.Hand.faults h) (g.P.Hand.Hand.clock h) (g.P.Hand.Hand.engine h)) (IsDialHere c.args.place.now) (record { ended = c.args.ended; whole = false; left = Some c.in-Some.left }) c.args.earlier.now.items c.args.earlier.now.items b (g.P.Plug.dials c.args.plug.now) (g.P.Plug.dials c.args.plug.now) (g.P.Plug.dialled c.args.plug.now) (g.P.Plug.dialled c.args.plug.now) (g.P.Plug.faults c.args.plug.now) (g.P.Plug.faults c.args.plug.now)) (sym c.stands.ensures)
    (stands_broken (λ h. telling (g.P.Hand.Hand.log h) (g.P.Hand.Hand.heard h) (g.P.Hand.Hand.faults h) (g.P.Hand.Hand.clock h) (g.P.Hand.Hand.engine h)) (IsDialHere c.args.place.now) c.args.ended c.args.earlier.now.items (g.P.Plug.dials c.args.plug.now) (g.P.Plug.dialled c.args.plug.now) (g.P.Plug.faults c.args.plug.now) c.in-Some.left)))

pub returns-in-None : goal.returns-in-None
returns-in-None g c = subst (λ (b : Behind _). Follows (λ h. telling (g.P.Hand.Hand.log h) (g.P.Hand.Hand.heard h) (g.P.Hand.Hand.faults h) (g.P.Hand.Hand.clock h) (g.P.Hand.Hand.engine h)) (IsDialHere c.args.place.now) (record { ended = c.args.ended; whole = c.args.whole; left = c.args.left }) c.args.earlier.now.items c.args.earlier.now.items b (g.P.Plug.dials c.args.plug.now) (g.P.Plug.dials c.args.plug.now) (g.P.Plug.dialled c.args.plug.now) (g.P.Plug.dialled c.args.plug.now) (g.P.Plug.faults c.args.plug.now) (g.P.Plug.faults c.args.plug.now)) (sym c.stands-in-None.ensures)
    (stands_else (λ h. telling (g.P.Hand.Hand.log h) (g.P.Hand.Hand.heard h) (g.P.Hand.Hand.faults h) (g.P.Hand.Hand.clock h) (g.P.Hand.Hand.engine h)) (IsDialHere c.args.place.now) c.args.ended c.args.earlier.now.items (g.P.Plug.dials c.args.plug.now) (g.P.Plug.dialled c.args.plug.now) (g.P.Plug.faults c.args.plug.now) c.args.whole c.args.left (c.requires.lost c.in-None.is))
