use Rattle.std.specs.Prelude.{codes}
use Rattle.serde_json.specs.Data.{string}
use Rattle.engine_replies.specs.Values.{health_word, object_with, state_word}
use Rattle.engine_replies.proofs.Tables.{ended, made_is, then, worded}
use Rattle.engine_replies.proofs.rows.ReportToJson.json.Goals as goal

pub returns : goal.returns
returns c =
    ended c.end.result c.new-state.ensures
    (then c.value.ensures
    (then (made_is (object_with (codes "Status") (string (health_word c.args.self.now.health))) (codes "Health") c.health_json.result c.made.ensures c.health_json.ensures)
    (worded (codes "Status") c.state_word.result.now (state_word c.args.self.now.state) c.state_word.ensures c.text.ensures)))
    c.end.ensures
