use Rattle.std.specs.Option.{option_copied}
use Rattle.repeated_runs.proofs.Dials.{added, added_or_not}
use Rattle.repeated_runs.proofs.dialling.dial.Goals as goal

pub returns-in-Dialled-clause-dials : goal.returns-in-Dialled-clause-dials
returns-in-Dialled-clause-dials g c = added (g.P.Plug.dials c.args.plug.now) (g.P.Plug.dials c.dial.new.self) c.args.place.now.target (option_copied c.as_ref.result) c.args.place.now.stop_file c.args.number c.as_ref.ensures.value c.in-Dialled.ensures.dials

pub returns-in-Failed-clause-dials : goal.returns-in-Failed-clause-dials
returns-in-Failed-clause-dials g c = added (g.P.Plug.dials c.args.plug.now) (g.P.Plug.dials c.dial.new.self) c.args.place.now.target (option_copied c.as_ref.result) c.args.place.now.stop_file c.args.number c.as_ref.ensures.value c.in-Failed.ensures.dials

pub returns-in-Memory-clause-dials : goal.returns-in-Memory-clause-dials
returns-in-Memory-clause-dials g c = added_or_not (g.P.Plug.dials c.args.plug.now) (g.P.Plug.dials c.dial.new.self) c.args.place.now.target (option_copied c.as_ref.result) c.args.place.now.stop_file c.args.number c.as_ref.ensures.value c.in-Memory.ensures.dials
