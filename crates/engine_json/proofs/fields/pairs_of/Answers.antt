use Rattle.engine_json.proofs.Bodies.{pairs_listed}
use Rattle.engine_json.proofs.fields.pairs_of.Goals as goal

pub returns-in-Object : goal.returns-in-Object
returns-in-Object c = pairs_listed c.in-Object.members c.args.value.now c.pairs_in.result c.in-Object.is c.pairs_in.ensures
