-- How far a search for the line feed of a chunk line got (RFC 9112, section 7.1).
use Rattle.std.specs.Prelude.{ℕ, ◌≤◌, List, length, take}
use Rattle.http_heads.specs.Searches.{IsLine}
use Rattle.http_heads.specs.declared.chunk_line_search.ChunkLineSearch.{ChunkLineSearch}

-- a search has looked at the bytes that these begin with, and there is no line feed among them
pub record HasNoFeed (search : ChunkLineSearch) (bytes : List ℕ) : Type 0 where
  pub within : search.at ≤ length bytes
  pub line : IsLine (take search.at bytes)
