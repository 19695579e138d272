-- What holds of the bytes of all replies.
use Rattle.std.specs.Prelude.{◌≡◌, ◌<◌, ◌≤◌, ◌^◌, ℕ, ℤ, pos, negsuc, true, List, All, length, Option, Some, IsUtf8}
use Rattle.tree_base.specs.ByteOrder.{IsAscending, is_before}
use Rattle.tree_base.specs.Limits.{most_body_bytes}
use Rattle.tree_base.specs.declared.place.Var.{Var}
use Rattle.engine_types.specs.declared.Listed.{Listed}
use Rattle.engine_types.specs.declared.NetRow.{NetRow}
use Rattle.engine_types.specs.declared.Reply.{Reply}
use Rattle.engine_types.specs.declared.Request.{Request}
use Rattle.http_request.specs.Requests.{body_bytes}
use Rattle.response_rules.specs.Replies.{reply_of}
use Rattle.response_rules.specs.Responses.{IsResponse}
use Rattle.engine_replies.specs.Replies.{CanBeWritten, body_of, bytes_of, status_of}

-- a number of 64 bits with a sign
abbrev pub IsNumber : ℤ → Type 0
IsNumber (pos n) = n < 2 ^ 63
IsNumber (negsuc n) = n < 2 ^ 63

-- labels are UTF-8, and stand in byte order of their names, each once
pub record AreLabels (labels : List Var) : Type 0 where
  pub texts : All (λ label. IsUtf8 label.name × IsUtf8 label.value) labels
  pub ordered : IsAscending (λ x y. is_before x.name y.name) labels

-- a container whose texts are UTF-8, and whose networks stand in byte order, each once
pub record IsPlainContainer (row : Listed) : Type 0 where
  pub id : IsUtf8 row.id
  pub name : IsUtf8 row.name
  pub image_id : IsUtf8 row.image_id
  pub labels : AreLabels row.labels
  pub network_texts : All IsUtf8 row.networks
  pub networks : IsAscending is_before row.networks

-- a network whose texts are UTF-8
pub record IsPlainNetwork (row : NetRow) : Type 0 where
  pub id : IsUtf8 row.id
  pub name : IsUtf8 row.name
  pub labels : AreLabels row.labels

-- texts are UTF-8, a number has 64 bits, and what is named stands in byte order: what a listing gives is as the program has it
abbrev pub IsPlain : Reply → Type 0
IsPlain (Reply.Containers rows) = All IsPlainContainer rows
IsPlain (Reply.State report) = IsNumber report.exit_code
IsPlain (Reply.Made id) = IsUtf8 id
IsPlain (Reply.Networks rows) = All IsPlainNetwork rows
IsPlain (Reply.Volumes names) = All IsUtf8 names
IsPlain (Reply.ImageId id) = IsUtf8 id
IsPlain (Reply.PullFailed message) = IsUtf8 message
IsPlain (Reply.Refused status message) = IsUtf8 message
IsPlain reply = Unit {0}

-- what is written of a reply is a whole response, of its status and its body, with or without a request
abbrev pub RepliesAreWhole : Type 0
RepliesAreWhole =
    (request : Option Request) (reply : Reply) → CanBeWritten request reply
    → length (body_bytes (body_of reply)) ≤ most_body_bytes
    → IsResponse (bytes_of request reply) true (status_of request reply) (body_bytes (body_of reply))

-- and that status and that body are read as the reply
abbrev pub RepliesReadBack : Type 0
RepliesReadBack =
    (request : Request) (reply : Reply) → CanBeWritten (Some request) reply → IsPlain reply
    → reply_of request (status_of (Some request) reply) (body_bytes (body_of reply)) ≡ Some reply
