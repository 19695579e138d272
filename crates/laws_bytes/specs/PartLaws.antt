-- What more bytes change of a part of a response that ended, or that passed a limit: nothing (RFC 9112, sections 2.1 and 7.1).
use Rattle.std.specs.Prelude.{◌≡◌, ◌≢◌, ℕ, List, ◌++◌}
use Rattle.response_rules.specs.Lines.{chunk_line_part, head_part, trailer_part, unfinished}

-- a head that ended, or that passed a limit, does so in the same place with more bytes behind
abbrev pub HeadsStay : Type 0
HeadsStay = (before : ℕ) (bytes more : List ℕ) → head_part before bytes ≢ unfinished
    → head_part before (bytes ++ more) ≡ head_part before bytes

-- and so does a chunk line
abbrev pub ChunkLinesStay : Type 0
ChunkLinesStay = (bytes more : List ℕ) → chunk_line_part bytes ≢ unfinished
    → chunk_line_part (bytes ++ more) ≡ chunk_line_part bytes

-- and so do the lines behind a last chunk
abbrev pub TrailersStay : Type 0
TrailersStay = (bytes more : List ℕ) → trailer_part bytes ≢ unfinished
    → trailer_part (bytes ++ more) ≡ trailer_part bytes
