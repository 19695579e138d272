-- But for a container's bytes, the body is the text of the reply's value.
use Rattle.std.specs.Option.{option_copied}
use Rattle.engine_replies.proofs.ReplyValues.{bytes_are}
use Rattle.engine_replies.proofs.response.reply_bytes.Goals as goal

pub returns-in_default : goal.returns-in_default
returns-in_default c =
    bytes_are (option_copied c.args.request) c.args.reply.now c.status_of-status.result c.text_response.result c.in_default.not-Bytes c.status_of-status.ensures c.text_response.ensures
