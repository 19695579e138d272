use Rattle.response_rules.specs.Replies.{container_of}
use Rattle.serde_json.specs.View.{view}
use Rattle.engine_json.proofs.Bodies.{rows_listed}
use Rattle.engine_json.proofs.rows.containers_in.Goals as goal

pub returns-in-Some : goal.returns-in-Some
returns-in-Some c =
    rows_listed container_of (view c.args.value.now) c.in-Some.items.now.items c.deref.result.now c.containers_each.result c.in-Some.ensures c.deref.ensures.value c.containers_each.ensures
