-- Worked examples of responses, and of bytes that are none.
use Rattle.std.specs.Prelude.{◌≡◌, ℕ, true, false, List, [], ◌++◌, codes}
use Rattle.engine_types.specs.declared.Request.{Request}
use Rattle.engine_types.specs.declared.Reply.{Reply}
use Rattle.engine_types.specs.declared.WireEnd.{WireEnd}
use Rattle.response_rules.specs.Broken.{IsReply, IsBroken}
use Rattle.response_rules.specs.Values.{values_in}

-- a status line, and lines behind it
abbrev pub response : List ℕ → List ℕ → List ℕ
response status more = codes "HTTP/1.1 " ++ (status ++ (codes "\r\n" ++ more))

-- a start that is answered by a 204 with no body is done, before the connection ends
abbrev pub NoContentIsDone : Type 0
NoContentIsDone = (id : List ℕ)
    → IsReply (Request.Start id) (response (codes "204 No Content") (codes "\r\n")) false Reply.Done

-- a body of three bytes, where five are announced and the connection ended, has ended early,
-- whatever was asked
abbrev pub CutBodyIsEnded : Type 0
CutBodyIsEnded = (request : Request)
    → IsBroken request WireEnd.Ended
    (response (codes "200 OK") (codes "Content-Length: 5\r\n\r\nabc")) true

-- no byte before the connection's end is no head
abbrev pub NothingIsEnded : Type 0
NothingIsEnded = (request : Request) → IsBroken request WireEnd.Ended [] true

-- a head with a length and a coding is wrong at the place where it begins
abbrev pub TwoFramingsAreMalformed : Type 0
TwoFramingsAreMalformed = (request : Request)
    → IsBroken request (WireEnd.Malformed 0)
    (response (codes "200 OK") (codes "Content-Length: 5\r\nTransfer-Encoding: chunked\r\n\r\n"))
    false

-- a body of JSON that has no Volumes isn't that of the volumes
abbrev pub OtherBodyIsBad : Type 0
OtherBodyIsBad =
    IsBroken Request.ListVolumes WireEnd.BadBody
    (response (codes "200 OK") (codes "Content-Length: 2\r\n\r\n{}")) false

-- a stream in one chunk, with an object that tells of an error, is a pull that failed with that
-- message
abbrev pub ChunkedErrorIsTold : Type 0
ChunkedErrorIsTold = (name : List ℕ)
    → IsReply (Request.Pull name)
    (response (codes "200 OK")
    (codes "Transfer-Encoding: chunked\r\n\r\ne\r\n{\"error\":\"no\"}\r\n0\r\n\r\n"))
    false (Reply.PullFailed (codes "no"))

-- a chunk of two bytes with a third behind them is wrong at the place of its line
abbrev pub OtherChunkEndIsMalformed : Type 0
OtherChunkEndIsMalformed = (request : Request)
    → IsBroken request (WireEnd.Malformed 47)
    (response (codes "200 OK") (codes "Transfer-Encoding: chunked\r\n\r\n2\r\nabc\r\n")) false

-- an array of a number, of a text with a comma and a quotation mark, and of an object with a member,
-- which is an empty array, has five values, and one place more, that of the empty array
abbrev pub ValuesAreCounted : Type 0
ValuesAreCounted = values_in (codes "[1,\"a,\\\"b[\",{\"x\":[]}]") ≡ 6
