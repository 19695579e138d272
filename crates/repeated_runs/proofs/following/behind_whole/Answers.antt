use Rattle.std.proofs.Common.{◌∙◌, Some, subst, sym, true, false, ap}
use Rattle.ledger_run.specs.Tellings.{telling}
use Rattle.repeated_runs.specs.Dials.{IsDialHere}
use Rattle.repeated_runs.specs.Followings.{Follows}
use Rattle.repeated_runs.specs.declared.following.Behind.{Behind}
use Rattle.repeated_runs.proofs.Followed.{stands_unsought}
use Rattle.repeated_runs.specs.Followings.{is_sought}
use Rattle.repeated_runs.proofs.following.behind_whole.Goals as goal

pub behind_sought-requires-clause-sought : goal.behind_sought-requires-clause-sought
behind_sought-requires-clause-sought g c = ap (is_sought c.args.ended.refusal) (sym c.as_slice.ensures) ∙ (sym c.is_sought-is_sought.ensures ∙ c.if-is_sought.true)

pub returns-else-is_sought : goal.returns-else-is_sought
returns-else-is_sought g c = subst (λ (b : Behind _). Follows (λ h. telling (g.P.Hand.Hand.log h) (g.P.Hand.Hand.heard h) (g.P.Hand.Hand.faults h) (g.P.Hand.Hand.clock h) (g.P.Hand.Hand.engine h)) (IsDialHere c.args.place.now) (record { ended = c.args.ended; whole = true; left = Some c.args.left }) c.args.earlier.now.items c.args.earlier.now.items b (g.P.Plug.dials c.args.plug.now) (g.P.Plug.dials c.args.plug.now) (g.P.Plug.dialled c.args.plug.now) (g.P.Plug.dialled c.args.plug.now) (g.P.Plug.faults c.args.plug.now) (g.P.Plug.faults c.args.plug.now)) (sym c.stands.ensures)
    (stands_unsought (λ h. telling (g.P.Hand.Hand.log h) (g.P.Hand.Hand.heard h) (g.P.Hand.Hand.faults h) (g.P.Hand.Hand.clock h) (g.P.Hand.Hand.engine h)) (IsDialHere c.args.place.now) c.args.ended c.args.earlier.now.items (g.P.Plug.dials c.args.plug.now) (g.P.Plug.dialled c.args.plug.now) (g.P.Plug.faults c.args.plug.now) c.args.left (ap (is_sought c.args.ended.refusal) (sym c.as_slice.ensures) ∙ (sym c.is_sought-is_sought.ensures ∙ c.if-is_sought.false)))
