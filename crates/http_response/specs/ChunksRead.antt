-- What is read of chunk lines, of what stands behind a chunk, and of the lines behind the last (RFC 9112, section 7.1).
use Rattle.tree_base.specs.Limits.{most_framing_bytes}
use Rattle.std.specs.Prelude.{◌≡◌, ◌≢◌, ℕ, ◌+◌, ◌<◌, ◌≤◌, ◌^◌, ◌||◌, Bool, List, ◌++◌, length, take, Result, IsTrue}
use Rattle.engine_types.specs.declared.WireEnd.{WireEnd}
use Rattle.httparse.specs.Ascii.{crlf_bytes}
use Rattle.httparse.specs.Grammar.{ChunkLine, chunk_size, print_chunk_line}
use Rattle.response_rules.specs.Chunks.{BeginsWithLine, BeginsWithTrailer, BreaksChunkWithin, BreaksTrailer}
use Rattle.http_response.specs.Hearing.{ComesTo}
use Rattle.http_response.specs.Stocks.{left, place}
use Rattle.http_response.specs.declared.chunks.LineRead.{LineRead}
use Rattle.http_response.specs.declared.response.ResponseEnd.{ResponseEnd}
use Rattle.http_response.specs.declared.stock.Stock.{Stock}

-- these bytes begin with a chunk line of this size and this length, and what stands behind it is left
pub record IsPastLine (old new : Stock) (read : List ℕ) (ended : Bool) (found : LineRead) : Type 0 where
  pub line : ChunkLine
  pub begins : BeginsWithLine read line (left new)
  pub size_is : found.size ≡ chunk_size line
  pub length_is : found.length ≡ length (print_chunk_line line)
  pub ended_is : new.ended ≡ ended
  pub place_is : place old < 2 ^ 64 → place new ≡ place old + length (print_chunk_line line)

-- the line of the next chunk is read; what it is not breaks the chunk, whatever the limit of a body
-- is, and behind however many bytes of it and of its framing
abbrev pub ReadsSizeBy : Stock → Stock → ℕ → ℕ → Result LineRead ResponseEnd → List ℕ → Bool → Type 0
ReadsSizeBy old new f g answer more found_end =
    ComesTo (IsPastLine old new (left old ++ more) (old.ended || found_end))
    (λ cause. (limit before framed : ℕ) → place old < 2 ^ 64
    → BreaksChunkWithin limit (place old) before framed
    (left old ++ more) (old.ended || found_end) cause)
    f g answer

-- these bytes begin with a CRLF, and what stands behind it is left
pub record IsPastEnd (old new : Stock) (read : List ℕ) (ended : Bool) : Type 0 where
  pub reads : read ≡ crlf_bytes ++ left new
  pub ended_is : new.ended ≡ ended
  pub place_is : place old < 2 ^ 64 → place new ≡ place old + 2

-- the CRLF behind a chunk, whose line begins at a place, isn't there
abbrev pub BreaksEnd : ℕ → List ℕ → Bool → WireEnd → Type 0
BreaksEnd at read ended WireEnd.Ended = (length read < 2) × IsTrue ended
BreaksEnd at read ended (WireEnd.Malformed place) =
    (place ≡ at) × (2 ≤ length read) × (take 2 read ≢ crlf_bytes)
BreaksEnd at read ended cause = ⊥

-- the CRLF behind a chunk is read
abbrev pub ReadsEndBy : ℕ → Stock → Stock → ℕ → ℕ → Result Unit ResponseEnd → List ℕ → Bool → Type 0
ReadsEndBy at old new f g answer more found_end =
    ComesTo (λ (done : Unit {0}). IsPastEnd old new (left old ++ more) (old.ended || found_end))
    (BreaksEnd at (left old ++ more) (old.ended || found_end)) f g answer

-- behind so many bytes of framing, there is this room for more of it
abbrev pub LeavesRoom : ℕ → ℕ → Type 0
LeavesRoom framed room = framed + room ≡ most_framing_bytes

-- the lines behind the last chunk are read, where there is this room for them
abbrev pub ReadsTrailerBy : ℕ → Stock → Stock → ℕ → ℕ → Result Unit ResponseEnd → List ℕ → Bool → Type 0
ReadsTrailerBy room old new f g answer more found_end =
    ComesTo
    (λ (done : Unit {0}). ((framed : ℕ) → LeavesRoom framed room
    → BeginsWithTrailer framed (left old ++ more))
    × (new.ended ≡ (old.ended || found_end)))
    (λ cause. (framed : ℕ) → LeavesRoom framed room → place old < 2 ^ 64
    → BreaksTrailer (place old) framed (left old ++ more) (old.ended || found_end) cause)
    f g answer
