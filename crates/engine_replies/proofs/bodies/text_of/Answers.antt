-- The text of a reply's value.
use Rattle.std.proofs.Common.{◌∙◌, Some, ap, string_bytes, sym}
use Rattle.std.specs.Option.{option_map}
use Rattle.serde_json.specs.View.{view}
use Rattle.engine_replies.proofs.ReplyValues.{text_is}
use Rattle.engine_replies.proofs.bodies.text_of.Goals as goal

pub returns-in_ok-text-in-Some : goal.returns-in_ok-text-in-Some
returns-in_ok-text-in-Some c =
    ap Some c.from_string.ensures
    ∙ text_is c.args.reply.now (view c.in-Some.value) (string_bytes c.in_ok-text-in-Some.text) (ap (option_map view) (sym c.in-Some.is) ∙ c.in_ok-value.ensures) c.in_ok-text-in-Some.ensures.text
