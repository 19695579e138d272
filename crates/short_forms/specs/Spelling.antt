-- How words are spelled, piece by piece (Shell Command Language, "Quoting").
use Rattle.std.specs.Prelude.{ℕ, Bool, true, not, ◌==◌, ◌||◌, ◌&&◌, nat_lt, if◌then◌else◌, List, [], ◌∷◌, ◌++◌, map, length}
use Rattle.std.specs.List.{concat, list_all}

-- a byte that stands for itself outside quotes: no white space, no quote and no backslash
abbrev pub is_plain : ℕ → Bool
is_plain b = not ((b == 32) || (b == 9) || (b == 10) || (b == 13) || (b == 39) || (b == 34) || (b == 92))

-- a piece of a word: bytes that need no quotes, a byte behind a backslash, or bytes in single or in double quotes
pub data Piece : Type 0 where
  plain : List ℕ → Piece
  behind_backslash : ℕ → Piece
  in_single : List ℕ → Piece
  in_double : List ℕ → Piece

-- a piece that can be spelled so: no single quote stands in single quotes
abbrev pub is_piece : Piece → Bool
is_piece (plain bytes) = nat_lt 0 (length bytes) && list_all is_plain bytes
is_piece (behind_backslash b) = true
is_piece (in_single bytes) = list_all (λ b. not (b == 39)) bytes
is_piece (in_double bytes) = true

-- bytes with a backslash before each double quote and each backslash
abbrev pub with_escapes : List ℕ → List ℕ
with_escapes [] = []
with_escapes (b ∷ bs) = if (b == 34) || (b == 92) then 92 ∷ b ∷ with_escapes bs else b ∷ with_escapes bs

-- how a piece is spelled
abbrev pub piece_text : Piece → List ℕ
piece_text (plain bytes) = bytes
piece_text (behind_backslash b) = 92 ∷ b ∷ []
piece_text (in_single bytes) = 39 ∷ (bytes ++ 39 ∷ [])
piece_text (in_double bytes) = 34 ∷ (with_escapes bytes ++ 34 ∷ [])

-- what a piece says
abbrev pub piece_bytes : Piece → List ℕ
piece_bytes (plain bytes) = bytes
piece_bytes (behind_backslash b) = b ∷ []
piece_bytes (in_single bytes) = bytes
piece_bytes (in_double bytes) = bytes

-- a word of one piece or more
abbrev pub is_word : List Piece → Bool
is_word pieces = nat_lt 0 (length pieces) && list_all is_piece pieces

-- how a word is spelled: its pieces, one behind the other
abbrev pub word_text : List Piece → List ℕ
word_text pieces = concat (map piece_text pieces)

-- what a word says
abbrev pub word_bytes : List Piece → List ℕ
word_bytes pieces = concat (map piece_bytes pieces)
