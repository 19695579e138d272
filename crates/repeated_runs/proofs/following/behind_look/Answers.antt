use Rattle.std.proofs.Common.{◌∙◌, None, Some, ap, subst, sym, true}
use Rattle.ledger_run.specs.Tellings.{telling}
use Rattle.repeated_runs.specs.Dials.{IsDialHere}
use Rattle.repeated_runs.specs.Followings.{Follows}
use Rattle.repeated_runs.specs.declared.following.Behind.{Behind}
use Rattle.repeated_runs.proofs.Followed.{follows_look, stands_else, stands_handless, stands_undialled, unrepeated}
use Rattle.repeated_runs.proofs.following.behind_look.Goals as goal

pub returns-in-By : goal.returns-in-By
returns-in-By g c = follows_look (λ h. telling (g.P.Hand.Hand.log h) (g.P.Hand.Hand.heard h) (g.P.Hand.Hand.faults h) (g.P.Hand.Hand.clock h) (g.P.Hand.Hand.engine h)) (IsDialHere c.args.place.now) c.args.ended c.args.left c.args.earlier.now.items c.in-Some.request.now (g.P.Plug.dials c.args.plug.now) (g.P.Plug.dials c.look_behind.new.plug) (g.P.Plug.dialled c.args.plug.now) (g.P.Plug.dialled c.look_behind.new.plug) (g.P.Plug.faults c.args.plug.now) (g.P.Plug.faults c.look_behind.new.plug) (sym c.in-Some.ensures) (unrepeated c.args.ended.refusal c.args.earlier.now.items c.in-Some.request.now (sym c.in-Some.ensures) c.requires.sought) c.in-By.hand c.after_look.new.earlier.items c.in-By.end c.after_look.result
    c.after_look.ensures c.in-By.ensures

pub returns-in-Undialled : goal.returns-in-Undialled
returns-in-Undialled g c = subst (λ (b : Behind _). Follows (λ h. telling (g.P.Hand.Hand.log h) (g.P.Hand.Hand.heard h) (g.P.Hand.Hand.faults h) (g.P.Hand.Hand.clock h) (g.P.Hand.Hand.engine h)) (IsDialHere c.args.place.now) (record { ended = c.args.ended; whole = true; left = Some c.args.left }) c.args.earlier.now.items c.args.earlier.now.items b (g.P.Plug.dials c.args.plug.now) (g.P.Plug.dials c.look_behind.new.plug) (g.P.Plug.dialled c.args.plug.now) (g.P.Plug.dialled c.look_behind.new.plug) (g.P.Plug.faults c.args.plug.now) (g.P.Plug.faults c.look_behind.new.plug)) (sym c.stands-in-Undialled.ensures) (stands_undialled (λ h. telling (g.P.Hand.Hand.log h) (g.P.Hand.Hand.heard h) (g.P.Hand.Hand.faults h) (g.P.Hand.Hand.clock h) (g.P.Hand.Hand.engine h)) (IsDialHere c.args.place.now) c.args.ended c.args.left c.args.earlier.now.items c.in-Some.request.now (g.P.Plug.dials c.args.plug.now) (g.P.Plug.dials c.look_behind.new.plug) (g.P.Plug.dialled c.args.plug.now) (g.P.Plug.dialled c.look_behind.new.plug) (g.P.Plug.faults c.args.plug.now) (g.P.Plug.faults c.look_behind.new.plug) (sym c.in-Some.ensures) c.in-Undialled.ensures)

pub returns-in-Short : goal.returns-in-Short
returns-in-Short g c = subst (λ (b : Behind _). Follows (λ h. telling (g.P.Hand.Hand.log h) (g.P.Hand.Hand.heard h) (g.P.Hand.Hand.faults h) (g.P.Hand.Hand.clock h) (g.P.Hand.Hand.engine h)) (IsDialHere c.args.place.now) (record { ended = c.args.ended; whole = true; left = Some c.args.left }) c.args.earlier.now.items c.args.earlier.now.items b (g.P.Plug.dials c.args.plug.now) (g.P.Plug.dials c.look_behind.new.plug) (g.P.Plug.dialled c.args.plug.now) (g.P.Plug.dialled c.look_behind.new.plug) (g.P.Plug.faults c.args.plug.now) (g.P.Plug.faults c.look_behind.new.plug)) (sym (c.stands-in-Short.ensures ∙ ap (λ last. Behind.Stands last None) c.shortened.ensures)) (stands_handless (λ h. telling (g.P.Hand.Hand.log h) (g.P.Hand.Hand.heard h) (g.P.Hand.Hand.faults h) (g.P.Hand.Hand.clock h) (g.P.Hand.Hand.engine h)) (IsDialHere c.args.place.now) c.args.ended c.args.left c.args.earlier.now.items c.in-Some.request.now (g.P.Plug.dials c.args.plug.now) (g.P.Plug.dials c.look_behind.new.plug) (g.P.Plug.dialled c.args.plug.now) (g.P.Plug.dialled c.look_behind.new.plug) (g.P.Plug.faults c.args.plug.now) (g.P.Plug.faults c.look_behind.new.plug) c.in-Short.ensures)

pub returns-in_default : goal.returns-in_default
returns-in_default g c = subst (λ (b : Behind _). Follows (λ h. telling (g.P.Hand.Hand.log h) (g.P.Hand.Hand.heard h) (g.P.Hand.Hand.faults h) (g.P.Hand.Hand.clock h) (g.P.Hand.Hand.engine h)) (IsDialHere c.args.place.now) (record { ended = c.args.ended; whole = true; left = Some c.args.left }) c.args.earlier.now.items c.args.earlier.now.items b (g.P.Plug.dials c.args.plug.now) (g.P.Plug.dials c.args.plug.now) (g.P.Plug.dialled c.args.plug.now) (g.P.Plug.dialled c.args.plug.now) (g.P.Plug.faults c.args.plug.now) (g.P.Plug.faults c.args.plug.now)) (sym c.stands.ensures)
    (stands_else (λ h. telling (g.P.Hand.Hand.log h) (g.P.Hand.Hand.heard h) (g.P.Hand.Hand.faults h) (g.P.Hand.Hand.clock h) (g.P.Hand.Hand.engine h)) (IsDialHere c.args.place.now) c.args.ended c.args.earlier.now.items (g.P.Plug.dials c.args.plug.now) (g.P.Plug.dialled c.args.plug.now) (g.P.Plug.faults c.args.plug.now) true (Some c.args.left) (sym c.in_default.ensures))
