use Rattle.std.proofs.Common.{◌≡◌, subst, IfOk, Option}
use Rattle.std.specs.Option.{option_map}
use Rattle.serde_json.specs.Data.{Data}
use Rattle.serde_json.specs.View.{view}
use Rattle.engine_json.proofs.Bodies.{parsed, unparsed}
use Rattle.engine_json.proofs.parsing.json_of.Goals as goal

pub returns-in-Ok : goal.returns-in-Ok
returns-in-Ok c =
    let text = c.in-Ok.ensures.cases in
    subst (λ (d : Option Data). IfOk c.json_in.result (λ found. option_map view found ≡ d)) (parsed c.args.bytes.now c.in-Ok.text.now text.1 text.0) c.json_in.ensures

pub returns-in-Err : goal.returns-in-Err
returns-in-Err c = unparsed c.args.bytes.now c.in-Err.ensures.cases.0
