use Rattle.std.proofs.Common.{◌∙◌, List, [], Err, ap, arith, refl, subst}
use Rattle.engine_types.specs.declared.Exchange.{Exchange}
use Rattle.name_conflicts.specs.Looks.{HasLooked}
use Rattle.outside_api.specs.Clock.{Clock}
use Rattle.outside_api.specs.Plugs.{dial_of}
use Rattle.repeated_runs.proofs.Lookings.{adds_memory, adds_plug}
use Rattle.repeated_runs.specs.Dials.{IsDialHere}
use Rattle.repeated_runs.proofs.looking.look_behind.Goals as goal

pub dial-requires : goal.dial-requires
dial-requires g c = λ m e. let low = c.requires m e in omega (arith, low)

pub look_for-end-requires : goal.look_for-end-requires
look_for-end-requires g c = c.in-Ok.ensures.made.unread

pub returns-in-Ok : goal.returns-in-Ok
returns-in-Ok g c =
    let here = c.args.place.now in let fresh = c.in-Ok.ensures.made in (
      (dial_of here.target here.stop_file 0, refl, c.in-Ok.ensures.dials),
      c.in-Ok.ensures.dialled,
      subst (λ (k : Clock). HasLooked c.args.project.now c.args.request.now c.args.deadline c.look_for-end.result [] (g.P.Hand.Hand.log c.look_for-end.new.hand) k (g.P.Hand.Hand.clock c.look_for-end.new.hand)) fresh.unread
          (subst (λ (l : List Exchange). HasLooked c.args.project.now c.args.request.now c.args.deadline c.look_for-end.result l (g.P.Hand.Hand.log c.look_for-end.new.hand) (g.P.Hand.Hand.clock c.in-Ok.hand) (g.P.Hand.Hand.clock c.look_for-end.new.hand)) fresh.unused
          c.look_for-end.ensures),
    )

pub returns-in-Plug : goal.returns-in-Plug
returns-in-Plug g c =
    let here = c.args.place.now in (
      (dial_of here.target here.stop_file 0, refl, adds_plug (g.P.Plug.dials c.args.plug.now) (g.P.Plug.dials c.dial.new.plug) (dial_of here.target here.stop_file 0) c.in-Err.fault c.in-Plug.is c.in-Err.ensures.dials),
      c.in-Err.ensures.undialled,
      c.dial.ensures.fault (c.in-Err.is ∙ ap Err c.in-Plug.is),
    )

pub returns-in-Memory : goal.returns-in-Memory
returns-in-Memory g c =
    let here = c.args.place.now in (
      adds_memory (IsDialHere here) (g.P.Plug.dials c.args.plug.now) (g.P.Plug.dials c.dial.new.plug) (dial_of here.target here.stop_file 0) c.in-Err.fault refl c.in-Memory.is c.in-Err.ensures.dials,
      c.in-Err.ensures.undialled,
    )
