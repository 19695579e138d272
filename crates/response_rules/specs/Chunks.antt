-- Bodies in chunks: which are whole, and the ways in which one is broken (RFC 9112, section 7.1).
use Rattle.std.specs.Prelude.{◌≡◌, ◌≢◌, ℕ, ◌+◌, ◌<◌, ◌≤◌, Bool, List, ◌++◌, length, take, drop, flat_map, All, IsTrue}
use Rattle.std.specs.List.{sum_by}
use Rattle.tree_base.specs.Limits.{most_body_bytes, most_framing_bytes, most_head_bytes, most_header_lines}
use Rattle.httparse.specs.Ascii.{crlf_bytes}
use Rattle.httparse.specs.Grammar.{ChunkLine, print_chunk_line, IsChunkLine, chunk_size, ReadsChunkLine, HasNoChunkLine, Field, LineEnd, print_section, ReadsSection, HasNoSection}
use Rattle.engine_types.specs.declared.WireEnd.{WireEnd}
use Rattle.response_rules.specs.Lines.{ends, passed, unfinished, chunk_line_part, trailer_part}

-- a chunk: its line, and its bytes
pub record Chunk : Type 0 where
  pub line : ChunkLine
  pub bytes : List ℕ

-- a chunk as it is sent, with the CRLF behind its bytes
abbrev pub print_chunk : Chunk → List ℕ
print_chunk chunk = print_chunk_line chunk.line ++ (chunk.bytes ++ crlf_bytes)

-- chunks as they are sent, one behind the other
abbrev pub print_chunks : List Chunk → List ℕ
print_chunks chunks = flat_map print_chunk chunks

-- the bytes of a body: those of its chunks
abbrev pub body_of : List Chunk → List ℕ
body_of chunks = flat_map (λ chunk. chunk.bytes) chunks

-- how many bytes of chunks frame those of the body: their lines, and the CRLF behind the bytes of
-- each
abbrev pub framing_bytes : List Chunk → ℕ
framing_bytes chunks = sum_by (λ chunk. length (print_chunk_line chunk.line) + 2) chunks

-- a chunk before the last: its line is one of the grammar and within the limit, and says how many
-- bytes it has
pub record IsChunk (chunk : Chunk) : Type 0 where
  pub line : IsChunkLine chunk.line
  pub within : length (print_chunk_line chunk.line) ≤ most_head_bytes
  pub some : 0 < length chunk.bytes
  pub size : length chunk.bytes ≡ chunk_size chunk.line

-- chunks before the last, with at most so many bytes, and within the limit of a body's framing
pub record AreChunksWithin (limit : ℕ) (chunks : List Chunk) : Type 0 where
  pub each : All IsChunk chunks
  pub within : length (body_of chunks) ≤ limit
  pub framed : framing_bytes chunks ≤ most_framing_bytes

-- the bytes begin with a chunk line of the grammar within the limit, and then come the others
pub record BeginsWithLine (bytes : List ℕ) (line : ChunkLine) (rest : List ℕ) : Type 0 where
  pub reads : ReadsChunkLine bytes line rest
  pub within : length (print_chunk_line line) ≤ most_head_bytes

-- behind so many bytes of framing, the bytes begin with the lines after a last chunk, which are
-- header lines within the limits, and an empty line
pub record BeginsWithTrailer (framed : ℕ) (bytes : List ℕ) : Type 0 where
  pub fields : List Field
  pub last : LineEnd
  pub rest : List ℕ
  pub reads : ReadsSection bytes fields last rest
  pub few : length fields ≤ most_header_lines
  pub within : length (print_section fields last) ≤ most_head_bytes
  pub framed_within : framed + length (print_section fields last) ≤ most_framing_bytes

-- the bytes begin with a whole body in chunks, of at most so many bytes: chunks, a last one of no
-- bytes, and the lines behind it. Each chunk line is counted with a line end behind it
pub record IsChunkedWithin (limit : ℕ) (bytes body : List ℕ) : Type 0 where
  pub chunks : List Chunk
  pub line : ChunkLine
  pub tail : List ℕ
  pub rest : List ℕ
  pub are_chunks : AreChunksWithin limit chunks
  pub reads : bytes ≡ print_chunks chunks ++ tail
  pub ends : BeginsWithLine tail line rest
  pub no_bytes : chunk_size line ≡ 0
  pub line_framed : framing_bytes chunks + (length (print_chunk_line line) + 2) ≤ most_framing_bytes
  pub trailer : BeginsWithTrailer (framing_bytes chunks + length (print_chunk_line line)) rest
  pub made_of : body ≡ body_of chunks

-- the lines after a last chunk are broken in one way, where they begin at a place, behind so many
-- bytes of framing
pub data BreaksTrailer : ℕ → ℕ → List ℕ → Bool → WireEnd → Type 0 where
  -- the connection ended before the empty line
  cut : (at framed : ℕ) (bytes : List ℕ) (ended : Bool) → trailer_part bytes ≡ unfinished
      → IsTrue ended
      → BreaksTrailer at framed bytes ended WireEnd.Ended
  -- they pass a limit
  long : (at framed : ℕ) (bytes : List ℕ) (ended : Bool) → trailer_part bytes ≡ passed
      → BreaksTrailer at framed bytes ended WireEnd.TooLarge
  -- with them, the framing passes its limit
  past_framing : (at framed n : ℕ) (bytes : List ℕ) (ended : Bool) → trailer_part bytes ≡ ends n
      → most_framing_bytes < framed + n
      → BreaksTrailer at framed bytes ended WireEnd.TooLarge
  -- up to the empty line, they aren't header lines
  bad : (at framed n : ℕ) (bytes : List ℕ) (ended : Bool) → trailer_part bytes ≡ ends n
      → framed + n ≤ most_framing_bytes
      → HasNoSection (take n bytes)
      → BreaksTrailer at framed bytes ended (WireEnd.Malformed at)

-- the chunk that begins at a place, behind so many bytes of the body and of its framing, is broken
-- in one way, where the body has so many bytes at most
pub data BreaksChunkWithin (limit : ℕ) : ℕ → ℕ → ℕ → List ℕ → Bool → WireEnd → Type 0 where
  -- the connection ended within the chunk line
  line_cut : (at before framed : ℕ) (bytes : List ℕ) (ended : Bool)
      → chunk_line_part bytes ≡ unfinished → IsTrue ended
      → BreaksChunkWithin limit at before framed bytes ended WireEnd.Ended
  -- the chunk line passes its limit
  line_long : (at before framed : ℕ) (bytes : List ℕ) (ended : Bool)
      → chunk_line_part bytes ≡ passed
      → BreaksChunkWithin limit at before framed bytes ended WireEnd.TooLarge
  -- the line isn't a chunk line
  line_bad : (at before framed n : ℕ) (bytes : List ℕ) (ended : Bool)
      → chunk_line_part bytes ≡ ends n → HasNoChunkLine (take n bytes)
      → BreaksChunkWithin limit at before framed bytes ended (WireEnd.Malformed at)
  -- with the line and a line end behind it, the framing passes its limit
  framing_long : (at before framed : ℕ) (bytes rest : List ℕ) (ended : Bool) (line : ChunkLine)
      → BeginsWithLine bytes line rest
      → most_framing_bytes < framed + (length (print_chunk_line line) + 2)
      → BreaksChunkWithin limit at before framed bytes ended WireEnd.TooLarge
  -- with the bytes that the line says, the body passes its limit
  body_long : (at before framed : ℕ) (bytes rest : List ℕ) (ended : Bool) (line : ChunkLine)
      → BeginsWithLine bytes line rest
      → limit < before + chunk_size line
      → BreaksChunkWithin limit at before framed bytes ended WireEnd.TooLarge
  -- the connection ended within the bytes of the chunk, or within the CRLF behind them
  bytes_cut : (at before framed : ℕ) (bytes rest : List ℕ) (ended : Bool) (line : ChunkLine)
      → BeginsWithLine bytes line rest
      → framed + (length (print_chunk_line line) + 2) ≤ most_framing_bytes
      → 0 < chunk_size line → before + chunk_size line ≤ limit
      → length rest < chunk_size line + 2 → IsTrue ended
      → BreaksChunkWithin limit at before framed bytes ended WireEnd.Ended
  -- the two bytes behind those of the chunk aren't CRLF
  end_bad : (at before framed : ℕ) (bytes rest : List ℕ) (ended : Bool) (line : ChunkLine)
      → BeginsWithLine bytes line rest
      → framed + (length (print_chunk_line line) + 2) ≤ most_framing_bytes
      → 0 < chunk_size line → before + chunk_size line ≤ limit
      → chunk_size line + 2 ≤ length rest
      → take 2 (drop (chunk_size line) rest) ≢ crlf_bytes
      → BreaksChunkWithin limit at before framed bytes ended (WireEnd.Malformed at)
  -- it is the last one, and the lines behind it are broken
  trailer : (at before framed : ℕ) (bytes rest : List ℕ) (ended : Bool) (line : ChunkLine)
      (cause : WireEnd)
      → BeginsWithLine bytes line rest
      → framed + (length (print_chunk_line line) + 2) ≤ most_framing_bytes
      → chunk_size line ≡ 0
      → BreaksTrailer (at + length (print_chunk_line line)) (framed + length (print_chunk_line line))
      rest ended cause
      → BreaksChunkWithin limit at before framed bytes ended cause

-- behind whole chunks comes one that is broken in this way, where the body begins at a place and has
-- so many bytes at most
pub record BreaksChunkedWithin
    (limit at : ℕ) (bytes : List ℕ) (ended : Bool) (cause : WireEnd) : Type 0 where
  pub chunks : List Chunk
  pub tail : List ℕ
  pub are_chunks : AreChunksWithin limit chunks
  pub reads : bytes ≡ print_chunks chunks ++ tail
  pub breaks : BreaksChunkWithin limit (at + length (print_chunks chunks))
      (length (body_of chunks)) (framing_bytes chunks) tail ended cause

-- chunks within the limit of a body
abbrev pub AreChunks : List Chunk → Type 0
AreChunks = AreChunksWithin most_body_bytes

-- a whole body in chunks within the limit of a body
abbrev pub IsChunked : List ℕ → List ℕ → Type 0
IsChunked = IsChunkedWithin most_body_bytes

-- a broken chunk where the limit is that of a body
abbrev pub BreaksChunk : ℕ → ℕ → ℕ → List ℕ → Bool → WireEnd → Type 0
BreaksChunk = BreaksChunkWithin most_body_bytes

-- a broken body in chunks where the limit is that of a body
abbrev pub BreaksChunked : ℕ → List ℕ → Bool → WireEnd → Type 0
BreaksChunked = BreaksChunkedWithin most_body_bytes
