-- Worked examples of bytes that no head, no chunk line and no header lines of HTTP spell.
use Rattle.std.specs.Prelude.{false, codes}
use Rattle.engine_types.specs.declared.Request.{Request}
use Rattle.engine_types.specs.declared.WireEnd.{WireEnd}
use Rattle.response_rules.specs.Broken.{IsBroken}
use Rattle.response_rules.specs.Examples.{response}

-- a status line of another version begins no head of HTTP/1 (RFC 9112, section 2.3)
abbrev pub OtherVersionIsMalformed : Type 0
OtherVersionIsMalformed = (request : Request)
    → IsBroken request (WireEnd.Malformed 0) (codes "HTTP/2.0 200 OK\r\n\r\n") false

-- a line that begins with no hexadecimal digit isn't a chunk line (RFC 9112, section 7.1)
abbrev pub OtherChunkLineIsMalformed : Type 0
OtherChunkLineIsMalformed = (request : Request)
    → IsBroken request (WireEnd.Malformed 47)
    (response (codes "200 OK") (codes "Transfer-Encoding: chunked\r\n\r\nxyz\r\n")) false

-- a space before the colon makes a line behind the last chunk no header line (RFC 9112, section
-- 5.1)
abbrev pub SpacedTrailerIsMalformed : Type 0
SpacedTrailerIsMalformed = (request : Request)
    → IsBroken request (WireEnd.Malformed 50)
    (response (codes "200 OK") (codes "Transfer-Encoding: chunked\r\n\r\n0\r\nX : 1\r\n\r\n")) false
