use Rattle.std.proofs.Common.{Ok}
use Rattle.serde_json.specs.View.{view}
use Rattle.engine_json.proofs.Bodies.{networks_listed}
use Rattle.engine_json.proofs.rows.network_names.Goals as goal

pub returns-in_ok-keys_of-in-Some : goal.returns-in_ok-keys_of-in-Some
returns-in_ok-keys_of-in-Some c =
    networks_listed (view c.args.value.now) c.in-Some.networks.now.entries (Ok c.in_ok-keys_of-in-Some.field-0) c.in-Some.ensures c.in_ok-keys_of-in-Some.ensures
