use Rattle.std.specs.Prelude.{[], ◌∷◌, codes}
use Rattle.engine_bodies.specs.Json.{set_of, texts}
use Rattle.engine_replies.specs.Values.{object_with, state_word}
use Rattle.engine_replies.proofs.Tables.{ended, made_is, then, worded}
use Rattle.engine_replies.proofs.rows.ListedToJson.json.Goals as goal

pub returns : goal.returns
returns c =
    ended c.end.result c.new-row.ensures
    (then c.value.ensures
    (then c.value-2.ensures
    (then c.mapping.ensures
    (then (made_is (texts ((47 ∷ c.args.self.now.name) ∷ [])) (codes "Names") c.names_json.result c.made.ensures c.names_json.ensures)
    (then (made_is (object_with (codes "Networks") (set_of c.args.self.now.networks)) (codes "NetworkSettings") c.settings_json.result c.made-2.ensures c.settings_json.ensures)
    (worded (codes "State") c.state_word.result.now (state_word c.args.self.now.state) c.state_word.ensures c.text.ensures))))))
    c.end.ensures
