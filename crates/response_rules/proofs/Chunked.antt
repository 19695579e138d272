-- The head of the worked examples in chunks, and their chunk lines.
use Rattle.std.proofs.Common.{ℕ, [], ◌∷◌, List, None, refl, codes, lit<, lit≤}
use Rattle.std.proofs.lemmas.List.Elements.{All-nil, All-cons}
use Rattle.std.specs.Char.{is_ascii_digit, is_ascii_hexdigit}
use Rattle.httparse.proofs.OnLiterals.{httparse_on_literals}
use Rattle.httparse.specs.Grammar.{Field, IsField, IsResponseHead, ResponseHead, ChunkLine, IsChunkLine, is_ows, is_token_byte, is_value_byte}
use Rattle.response_rules.proofs.Shown.{head, field, all_pass}

abbrev pub coding_field : Field
coding_field = field (codes "Transfer-Encoding") (codes "chunked")

abbrev pub found : ResponseHead
found = head (codes "200") (codes "OK") (coding_field ∷ [])

is_field : IsField coding_field
unfolding httparse_on_literals
is_field = record {
  name = (lit< tt, all_pass is_token_byte (codes "Transfer-Encoding") refl);
  raw = all_pass is_value_byte (32 ∷ codes "chunked") refl;
}

pub is_head : IsResponseHead found
is_head = record {
  minor = lit≤ tt;
  digits = (refl, all_pass is_ascii_digit (codes "200") refl);
  reason = all_pass is_value_byte (codes "OK") refl;
  fields = All-cons IsField coding_field [] is_field (All-nil IsField);
}

-- a line with these digits
abbrev pub line : List ℕ → ChunkLine
line digits = record { digits = digits; pad = []; extension = None }

pub is_two : IsChunkLine (line (codes "2"))
is_two = record {
  digits = (lit< tt, lit≤ tt, all_pass is_ascii_hexdigit (codes "2") refl);
  pad = all_pass is_ows [] refl;
  extension = tt;
}

pub is_fourteen : IsChunkLine (line (codes "e"))
is_fourteen = record {
  digits = (lit< tt, lit≤ tt, all_pass is_ascii_hexdigit (codes "e") refl);
  pad = all_pass is_ows [] refl;
  extension = tt;
}

pub is_none : IsChunkLine (line (codes "0"))
is_none = record {
  digits = (lit< tt, lit≤ tt, all_pass is_ascii_hexdigit (codes "0") refl);
  pad = all_pass is_ows [] refl;
  extension = tt;
}
