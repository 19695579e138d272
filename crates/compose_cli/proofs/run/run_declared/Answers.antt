use Rattle.std.proofs.Common.{refl}
use Rattle.std.specs.Option.{option_copied}
use Rattle.compose_cli.proofs.Dialled.{dial_at, dialled, of_run, unanswered, unmoved, unplaced}
use Rattle.compose_cli.proofs.Ran.{if_begun}
use Rattle.compose_cli.specs.Dialling.{IsDialAt}
use Rattle.outside_api.specs.Plugs.{dial_of}
use Rattle.compose_cli.proofs.run.run_declared.Goals as goal

pub returns-in-Dialled-clause-ran : goal.returns-in-Dialled-clause-ran
returns-in-Dialled-clause-ran g c = if_begun c.run_with.result.journal c.run_with.ensures.ran (λ ran. ran (g.P.Plug.engine c.args.plug.now) (c.in-Dialled.ensures.engine c.in-Dialled.hand refl))

pub returns-in-Dialled-clause-dials : goal.returns-in-Dialled-clause-dials
returns-in-Dialled-clause-dials g c =
    let here = c.in-Ok.place in
    dialled (IsDialAt c.args.place) (g.P.Plug.dials c.args.plug.now) (g.P.Plug.dials c.dial.new.self) (dial_of here.target (option_copied c.as_ref.result) 0)
    (dial_at c.args.place here (option_copied c.as_ref.result) 0 c.in-Ok.is c.as_ref.ensures.value) c.run_with.result.hands c.run_with.result.refusal
    c.in-Dialled.ensures.dials c.run_with.ensures.hands (of_run c.run_with.result.refusal c.run_with.ensures.origin)

pub returns-in-Failed-clause-dials : goal.returns-in-Failed-clause-dials
returns-in-Failed-clause-dials g c =
    let here = c.in-Ok.place in
    unanswered (IsDialAt c.args.place) (g.P.Plug.dials c.args.plug.now) (g.P.Plug.dials c.dial.new.self) (dial_of here.target (option_copied c.as_ref.result) 0)
    (dial_at c.args.place here (option_copied c.as_ref.result) 0 c.in-Ok.is c.as_ref.ensures.value) c.refused-in-Failed.result.hands c.refused-in-Failed.result.refusal
    c.in-Failed.ensures.dials c.refused-in-Failed.ensures.nothing.0 c.refused-in-Failed.ensures.refusal

pub returns-in-Memory-clause-dials : goal.returns-in-Memory-clause-dials
returns-in-Memory-clause-dials g c =
    let here = c.in-Ok.place in
    unmoved (IsDialAt c.args.place) (g.P.Plug.dials c.args.plug.now) (g.P.Plug.dials c.dial.new.self) (dial_of here.target (option_copied c.as_ref.result) 0)
    (dial_at c.args.place here (option_copied c.as_ref.result) 0 c.in-Ok.is c.as_ref.ensures.value) c.refused-in-Memory.result.hands c.refused-in-Memory.result.refusal
    c.in-Memory.ensures.dials c.refused-in-Memory.ensures.nothing.0 c.refused-in-Memory.ensures.refusal

pub returns-in_default-clause-dials : goal.returns-in_default-clause-dials
returns-in_default-clause-dials g c = unplaced (IsDialAt c.args.place) 1 (g.P.Plug.dials c.args.plug.now) c.refused.result.hands c.refused.result.refusal c.refused.ensures.nothing.0 c.refused.ensures.refusal

pub returns-in_default-with_capacity-clause-dials : goal.returns-in_default-with_capacity-clause-dials
returns-in_default-with_capacity-clause-dials g c = unplaced (IsDialAt c.args.place) 1 (g.P.Plug.dials c.args.plug.now) c.refused-in_default-with_capacity.result.hands c.refused-in_default-with_capacity.result.refusal c.refused-in_default-with_capacity.ensures.nothing.0 c.refused-in_default-with_capacity.ensures.refusal
