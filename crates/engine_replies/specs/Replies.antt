-- The bytes of a reply of the Docker Engine API v1.43 (RFC 9112, section 4).
use Rattle.std.specs.Prelude.{ℕ, Bool, true, false, ◌||◌, ◌==◌, List, [], ◌++◌, length, codes, decimal, Option, Some, None, option_map, if◌then◌else◌, IsTrue}
use Rattle.serde_json.specs.Written.{compact_text}
use Rattle.engine_json.specs.Told.{good_status}
use Rattle.engine_types.specs.declared.Reply.{Reply}
use Rattle.engine_types.specs.declared.Request.{Request}
use Rattle.http_request.specs.Requests.{body_bytes}
use Rattle.engine_replies.specs.Values.{value_of}

-- whether a request has such a reply, refusals apart
abbrev pub may_have : Request → Reply → Bool
may_have (Request.ListContainers project) (Reply.Containers rows) = true
may_have (Request.Inspect id) (Reply.State report) = true
may_have (Request.Logs id) (Reply.Bytes bytes) = true
may_have (Request.Create name spec) (Reply.Made id) = true
may_have (Request.Start id) Reply.Done = true
may_have (Request.Start id) Reply.Already = true
may_have (Request.Stop id seconds) Reply.Done = true
may_have (Request.Stop id seconds) Reply.Already = true
may_have (Request.Remove id) Reply.Done = true
may_have Request.ListNetworks (Reply.Networks rows) = true
may_have (Request.MakeNetwork spec) (Reply.Made id) = true
may_have (Request.Connect network container aliases) Reply.Done = true
may_have (Request.RemoveNetwork id) Reply.Done = true
may_have Request.ListVolumes (Reply.Volumes names) = true
may_have (Request.MakeVolume spec) Reply.Done = true
may_have (Request.RemoveVolume name) Reply.Done = true
may_have (Request.Image name) (Reply.ImageId id) = true
may_have (Request.Pull name) Reply.Pulled = true
may_have (Request.Pull name) (Reply.PullFailed message) = true
may_have request reply = false

-- a status of a refusal that is written
abbrev pub is_refusing : ℕ → Bool
is_refusing status = status == 400 || (status == 403 || (status == 404 || status == 409))

-- a reply that can be written: a refusal, with or without a request, or one of the request's
abbrev pub CanBeWritten : Option Request → Reply → Type 0
CanBeWritten request (Reply.Refused status message) = IsTrue (is_refusing status)
CanBeWritten None reply = ⊥
CanBeWritten (Some request) reply = IsTrue (may_have request reply)

-- the status that a reply has
abbrev pub status_of : Option Request → Reply → ℕ
status_of request (Reply.Refused status message) = status
status_of request Reply.Already = 304
status_of None reply = 200
status_of (Some request) reply = good_status request

-- the reason phrase of a status (RFC 9110, section 15)
abbrev pub reason_of : ℕ → List ℕ
reason_of status =
    if status == 200 then codes "OK"
    else (if status == 201 then codes "Created"
    else (if status == 204 then codes "No Content"
    else (if status == 304 then codes "Not Modified"
    else (if status == 400 then codes "Bad Request"
    else (if status == 403 then codes "Forbidden"
    else (if status == 404 then codes "Not Found" else codes "Conflict"))))))

-- the body of a reply: its JSON without spaces, or the bytes that a container has written
abbrev pub body_of : Reply → Option (List ℕ)
body_of (Reply.Bytes bytes) = Some bytes
body_of reply = option_map compact_text (value_of reply)

-- the header lines of a body that is there: its type and its length (RFC 9110, section 8.6)
abbrev pub body_lines : Option (List ℕ) → List ℕ
body_lines None = []
body_lines (Some body) =
    codes "Content-Type: application/json\r\n" ++ (codes "Content-Length: " ++ decimal (length body) ++ codes "\r\n")

-- the bytes of a response of this status and this body: status line, header lines, an empty line, and the body
abbrev pub response_with : ℕ → Option (List ℕ) → List ℕ
response_with status body =
    codes "HTTP/1.1 " ++ decimal status ++ codes " " ++ reason_of status ++ codes "\r\nConnection: close\r\n"
    ++ body_lines body ++ codes "\r\n" ++ body_bytes body

-- the bytes of a reply to a request, or to none that could be read
abbrev pub bytes_of : Option Request → Reply → List ℕ
bytes_of request reply = response_with (status_of request reply) (body_of reply)
