-- How far a response whose body is read in pieces was read (RFC 9112, sections 6 and 7).
use Rattle.std.specs.Prelude.{◌≡◌, ℕ, ◌+◌, ◌<◌, ◌^◌, ◌||◌, ◌==◌, if◌then◌else◌, Bool, true, false, List, [], ◌++◌, length, Option, Some, None, Result, Ok, Err, IsFalse}
use Rattle.tree_base.specs.Limits.{most_body_bytes, most_framing_bytes}
use Rattle.httparse.specs.Grammar.{ChunkLine, ResponseHead, chunk_size, print_chunk_line, print_response, status_code}
use Rattle.outside_api.specs.Pipes.{Talk}
use Rattle.response_rules.specs.Heads.{Framing, chunked, framing_of, has_no_body, head_fault_within, is_interim, sized, to_end}
use Rattle.response_rules.specs.Chunks.{AreChunksWithin, BeginsWithLine, Chunk, body_of, framing_bytes, print_chunks}
use Rattle.response_rules.specs.Responses.{BeginsWithHeadWithin, Breaks, IsResponse, IsResponseWithin, print_heads}
use Rattle.http_response.specs.Hearing.{ComesTo, Heard}
use Rattle.http_response.specs.Reading.{EndsByWithin}
use Rattle.http_response.specs.Stocks.{left, place}
use Rattle.http_response.specs.declared.body.OpenBody.{OpenBody}
use Rattle.http_response.specs.declared.body.Rest.{Rest}
use Rattle.http_fields.specs.declared.fields.Framing.{Framing as ReadFraming}
use Rattle.http_response.specs.declared.response.ResponseEnd.{ResponseEnd}

-- whole chunks, and then the line of one more with a part of its bytes, where the body has so many
-- bytes at most
pub record IsInChunk
    (limit at : ℕ) (rest given behind : List ℕ) (more place room lines : ℕ) : Type 0 where
  pub chunks : List Chunk
  pub line : ChunkLine
  pub part : List ℕ
  pub are_chunks : AreChunksWithin limit chunks
  pub begins : BeginsWithLine (print_chunk_line line ++ (part ++ behind)) line (part ++ behind)
  pub reads : rest ≡ print_chunks chunks ++ (print_chunk_line line ++ (part ++ behind))
  pub given_is : given ≡ body_of chunks ++ part
  pub size : chunk_size line ≡ length part + more
  pub some : 0 < chunk_size line
  pub room_is : length (body_of chunks) + chunk_size line + room ≡ limit
  pub lines_are : framing_bytes chunks + (length (print_chunk_line line) + 2) + lines ≡ most_framing_bytes
  pub place_is : place ≡ at + length (print_chunks chunks)

-- of a body of at most so many bytes, which begin at a place, these were given, these stand behind
-- them, and so much is to come
abbrev pub IsGiven : ℕ → Rest → Option Framing → ℕ → List ℕ → List ℕ → List ℕ → Type 0
IsGiven limit Rest.Nothing framing at rest given behind = Unit {0}
IsGiven limit (Rest.Sized more) framing at rest given behind =
    (framing ≡ Some (sized (length given + more))) × (rest ≡ given ++ behind)
IsGiven limit (Rest.ToEnd room) framing at rest given behind =
    (framing ≡ Some to_end) × (rest ≡ given ++ behind) × (length given + room ≡ limit)
IsGiven limit (Rest.Chunks room lines) framing at rest given behind =
    (framing ≡ Some chunked) × (length given + room ≡ limit)
    × ((chunks : List Chunk) × AreChunksWithin limit chunks × (rest ≡ print_chunks chunks ++ behind)
    × (given ≡ body_of chunks) × (framing_bytes chunks + lines ≡ most_framing_bytes))
IsGiven limit (Rest.Chunk more place room lines) framing at rest given behind =
    (framing ≡ Some chunked) × IsInChunk limit at rest given behind more place room lines

-- what is to come of a body of at most so many bytes behind a head of this framing
abbrev pub opening_framed : ℕ → ReadFraming → Rest
opening_framed limit ReadFraming.ToEnd = Rest.ToEnd limit
opening_framed limit (ReadFraming.Sized n) = Rest.Sized n
opening_framed limit ReadFraming.Chunked = Rest.Chunks limit most_framing_bytes

-- the same where the status may say by itself that there is none (RFC 9112, section 6.3)
abbrev pub opening : ℕ → ℕ → ReadFraming → Rest
opening limit status framing =
    if status == 204 || status == 304 then Rest.Nothing else opening_framed limit framing

-- whether nothing of a body is to come
abbrev pub is_done : Rest → Bool
is_done Rest.Nothing = true
is_done _ = false

-- a response's head was read, and of its body, which has so many bytes at most, these were given,
-- where these bytes were read of the connection and it had ended or not. The limit is small enough
-- for the bytes that are read to be counted in 64 bits
pub record IsOpenWithin
    (limit : ℕ) (open_body : OpenBody) (read : List ℕ) (ended : Bool)
    (given : List ℕ) : Type 0 where
  pub small : limit < 2 ^ 62
  pub skipped : List ResponseHead
  pub head : ResponseHead
  pub rest : List ℕ
  pub begins : BeginsWithHeadWithin limit read skipped head rest
  pub final : IsFalse (is_interim (status_code head))
  pub sound : head_fault_within limit 0 head.fields ≡ None
  pub status_is : open_body.status ≡ status_code head
  pub ended_is : open_body.stock.ended ≡ ended
  pub has_body : is_done open_body.rest ≡ false → IsFalse (has_no_body (status_code head))
  pub place_is : is_done open_body.rest ≡ false
      → place open_body.stock + length (left open_body.stock) ≡ length read
  pub so_far : IsGiven limit open_body.rest (framing_of head.fields)
      (length (print_heads skipped) + length (print_response head)) rest given (left open_body.stock)
  pub whole : is_done open_body.rest ≡ true
      → IsResponseWithin limit read ended open_body.status given

-- what opening a response may answer, where these bytes were read
abbrev pub OpensBy : ℕ → List ℕ → Bool → ℕ → ℕ → Result OpenBody ResponseEnd → Type 0
OpensBy limit read ended old new (Ok open_body) = IsOpenWithin limit open_body read ended []
OpensBy limit read ended old new (Err (ResponseEnd.Wire cause)) =
    EndsByWithin limit read ended old new cause
OpensBy limit read ended old new (Err ResponseEnd.Memory) = Unit {0}

-- opening a response, whose body has so many bytes at most, read some bytes of a connection, and
-- answers to these
pub record OpensWithin
    (limit : ℕ) (old new : Option Talk) (faults_old faults_new : ℕ)
    (answer : Result OpenBody ResponseEnd) : Type 0 where
  pub read : List ℕ
  pub ended : Bool
  pub heard : Heard read ended old new
  pub answers : OpensBy limit read ended faults_old faults_new answer

-- what the next piece of a body may be: bytes, at least one, which are put last; the body's end, and
-- then what was given is the response's; or an end, and nothing is put
abbrev pub GivesBy
    : ℕ → OpenBody → List ℕ → Bool → List ℕ → List ℕ → List ℕ → ℕ → ℕ → Result Bool ResponseEnd
    → Type 0
GivesBy limit after read ended given old_out new_out old new (Ok true) =
    (piece : List ℕ) × (0 < length piece) × (new_out ≡ old_out ++ piece)
    × IsOpenWithin limit after read ended (given ++ piece)
GivesBy limit after read ended given old_out new_out old new (Ok false) =
    (new_out ≡ old_out) × IsResponseWithin limit read ended after.status given
GivesBy limit after read ended given old_out new_out old new (Err (ResponseEnd.Wire cause)) =
    (new_out ≡ old_out) × EndsByWithin limit read ended old new cause
GivesBy limit after read ended given old_out new_out old new (Err ResponseEnd.Memory) =
    new_out ≡ old_out

-- a piece of a body was asked for, and some bytes more were read of the connection
pub record ContinuesWithin
    (limit : ℕ) (after : OpenBody) (read : List ℕ) (ended : Bool) (given old_out new_out : List ℕ)
    (old new : Option Talk) (faults_old faults_new : ℕ)
    (answer : Result Bool ResponseEnd) : Type 0 where
  pub more : List ℕ
  pub now_ended : Bool
  pub heard : Heard more now_ended old new
  pub gives : GivesBy limit after (read ++ more) (ended || now_ended) given old_out new_out
      faults_old faults_new answer

-- an open body, where the limit is that of a body
abbrev pub IsOpen : OpenBody → List ℕ → Bool → List ℕ → Type 0
IsOpen = IsOpenWithin most_body_bytes

-- a response is opened, where the limit is that of a body
abbrev pub Opens : Option Talk → Option Talk → ℕ → ℕ → Result OpenBody ResponseEnd → Type 0
Opens = OpensWithin most_body_bytes

-- a piece of a body was asked for, where the limit is that of a body
abbrev pub Continues
    : OpenBody → List ℕ → Bool → List ℕ → List ℕ → List ℕ → Option Talk → Option Talk → ℕ → ℕ
    → Result Bool ResponseEnd → Type 0
Continues = ContinuesWithin most_body_bytes

-- some bytes were read, by which this was given of an open body
abbrev pub IsBegun : OpenBody → List ℕ → Type 0
IsBegun open_body given = (read : List ℕ) × (ended : Bool) × IsOpen open_body read ended given

-- the rest of a body is read behind these bytes: it is the body of a whole response, or it is broken
abbrev pub ReadsRestBy
    : List ℕ → Bool → OpenBody → List ℕ → ℕ → ℕ → Result Unit ResponseEnd → List ℕ → Bool → Type 0
ReadsRestBy read ended after body f g answer more found_end =
    ComesTo
    (λ (done : Unit {0}). IsResponse (read ++ more) (ended || found_end) after.status body)
    (Breaks (read ++ more) (ended || found_end)) f g answer
