use Rattle.engine_json.proofs.Bodies.{volumes_listed}
use Rattle.engine_json.proofs.rows.volume_names.Goals as goal

pub returns-in-Array : goal.returns-in-Array
returns-in-Array c = volumes_listed c.in-Array.items c.args.value.now c.deref.result.now c.names_in.result c.in-Array.is c.deref.ensures.value c.names_in.ensures
