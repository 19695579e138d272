-- A head with a length and a coding.
use Rattle.std.proofs.Common.{[], ◌∷◌, false, refl, codes, lit<, lit≤}
use Rattle.std.proofs.lemmas.List.Elements.{All-nil, All-cons}
use Rattle.std.specs.Char.{is_ascii_digit}
use Rattle.httparse.proofs.OnLiterals.{httparse_on_literals}
use Rattle.httparse.specs.Grammar.{Field, IsField, IsResponseHead, ResponseHead, is_token_byte, is_value_byte}
use Rattle.engine_types.specs.declared.WireEnd.{WireEnd}
use Rattle.response_rules.specs.Responses.{bad_fields}
use Rattle.response_rules.proofs.Shown.{head, field, begins, all_pass}
use Rattle.response_rules.proofs.examples.two_framings_are_malformed.Goals as goal

abbrev length_field : Field
length_field = field (codes "Content-Length") (codes "5")

abbrev coding_field : Field
coding_field = field (codes "Transfer-Encoding") (codes "chunked")

abbrev found : ResponseHead
found = head (codes "200") (codes "OK") (length_field ∷ coding_field ∷ [])

is_length : IsField length_field
unfolding httparse_on_literals
is_length = record {
  name = (lit< tt, all_pass is_token_byte (codes "Content-Length") refl);
  raw = all_pass is_value_byte (32 ∷ codes "5") refl;
}

is_coding : IsField coding_field
unfolding httparse_on_literals
is_coding = record {
  name = (lit< tt, all_pass is_token_byte (codes "Transfer-Encoding") refl);
  raw = all_pass is_value_byte (32 ∷ codes "chunked") refl;
}

is_head : IsResponseHead found
is_head = record {
  minor = lit≤ tt;
  digits = (refl, all_pass is_ascii_digit (codes "200") refl);
  reason = all_pass is_value_byte (codes "OK") refl;
  fields = All-cons IsField length_field (coding_field ∷ []) is_length
      (All-cons IsField coding_field [] is_coding (All-nil IsField));
}

pub returns : goal.returns
unfolding httparse_on_literals
returns c = λ request. bad_fields _ [] false [] found (WireEnd.Malformed 0)
    (begins found [] is_head (lit≤ tt) (lit≤ tt)) refl
