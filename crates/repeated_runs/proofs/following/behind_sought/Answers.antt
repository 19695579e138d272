use Rattle.std.proofs.Common.{None, Some, subst, sym, true, ap, ◌∙◌}
use Rattle.std.specs.Prelude.{List}
use Rattle.ledger_run.specs.Tellings.{telling}
use Rattle.repeated_runs.specs.Dials.{IsDialHere}
use Rattle.repeated_runs.specs.Followings.{Follows}
use Rattle.repeated_runs.specs.declared.following.Behind.{Behind}
use Rattle.repeated_runs.proofs.Followed.{stands_short}
use Rattle.repeated_runs.specs.Followings.{is_sought, shortened}
use Rattle.repeated_runs.specs.declared.attempt.Attempt.{Attempt}
use Rattle.repeated_runs.proofs.following.behind_sought.Goals as goal

pub behind_look-requires-clause-sought : goal.behind_look-requires-clause-sought
behind_look-requires-clause-sought g c = ap (is_sought c.args.ended.refusal) c.reserve.ensures.items ∙ c.requires.sought

pub returns-in-Ok : goal.returns-in-Ok
returns-in-Ok g c = subst (λ (before : List (Attempt _)). Follows (λ h. telling (g.P.Hand.Hand.log h) (g.P.Hand.Hand.heard h) (g.P.Hand.Hand.faults h) (g.P.Hand.Hand.clock h) (g.P.Hand.Hand.engine h)) (IsDialHere c.args.place.now) (record { ended = c.args.ended; whole = true; left = Some c.args.left }) before c.behind_look.new.earlier.items c.behind_look.result (g.P.Plug.dials c.args.plug.now) (g.P.Plug.dials c.behind_look.new.plug) (g.P.Plug.dialled c.args.plug.now) (g.P.Plug.dialled c.behind_look.new.plug) (g.P.Plug.faults c.args.plug.now) (g.P.Plug.faults c.behind_look.new.plug)) c.reserve.ensures.items c.behind_look.ensures

pub returns-in-Err : goal.returns-in-Err
returns-in-Err g c = subst (λ (after : List (Attempt _)). Follows (λ h. telling (g.P.Hand.Hand.log h) (g.P.Hand.Hand.heard h) (g.P.Hand.Hand.faults h) (g.P.Hand.Hand.clock h) (g.P.Hand.Hand.engine h)) (IsDialHere c.args.place.now) (record { ended = c.args.ended; whole = true; left = Some c.args.left }) c.args.earlier.now.items after c.stands.result (g.P.Plug.dials c.args.plug.now) (g.P.Plug.dials c.args.plug.now) (g.P.Plug.dialled c.args.plug.now) (g.P.Plug.dialled c.args.plug.now) (g.P.Plug.faults c.args.plug.now) (g.P.Plug.faults c.args.plug.now)) (sym c.reserve.ensures.items)
    (subst (λ (b : Behind _). Follows (λ h. telling (g.P.Hand.Hand.log h) (g.P.Hand.Hand.heard h) (g.P.Hand.Hand.faults h) (g.P.Hand.Hand.clock h) (g.P.Hand.Hand.engine h)) (IsDialHere c.args.place.now) (record { ended = c.args.ended; whole = true; left = Some c.args.left }) c.args.earlier.now.items c.args.earlier.now.items b (g.P.Plug.dials c.args.plug.now) (g.P.Plug.dials c.args.plug.now) (g.P.Plug.dialled c.args.plug.now) (g.P.Plug.dialled c.args.plug.now) (g.P.Plug.faults c.args.plug.now) (g.P.Plug.faults c.args.plug.now)) (sym (c.stands.ensures ∙ ap (λ last. Behind.Stands last None) c.shortened.ensures))
    (stands_short (λ h. telling (g.P.Hand.Hand.log h) (g.P.Hand.Hand.heard h) (g.P.Hand.Hand.faults h) (g.P.Hand.Hand.clock h) (g.P.Hand.Hand.engine h)) (IsDialHere c.args.place.now) c.args.ended c.args.earlier.now.items (g.P.Plug.dials c.args.plug.now) (g.P.Plug.dialled c.args.plug.now) (g.P.Plug.faults c.args.plug.now) c.args.left))
