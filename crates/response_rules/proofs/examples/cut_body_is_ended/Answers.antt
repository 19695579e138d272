-- A body of three bytes where five are announced.
use Rattle.std.proofs.Common.{[], ◌∷◌, true, refl, codes, lit<, lit≤}
use Rattle.std.proofs.lemmas.List.Elements.{All-nil, All-cons}
use Rattle.std.specs.Char.{is_ascii_digit}
use Rattle.httparse.proofs.OnLiterals.{httparse_on_literals}
use Rattle.httparse.specs.Grammar.{Field, IsField, IsResponseHead, ResponseHead, is_token_byte, is_value_byte}
use Rattle.engine_types.specs.declared.WireEnd.{WireEnd}
use Rattle.response_rules.specs.Responses.{bad_body}
use Rattle.response_rules.proofs.Shown.{head, field, begins, all_pass}
use Rattle.response_rules.proofs.examples.cut_body_is_ended.Goals as goal

abbrev length_field : Field
length_field = field (codes "Content-Length") (codes "5")

abbrev found : ResponseHead
found = head (codes "200") (codes "OK") (length_field ∷ [])

is_field : IsField length_field
unfolding httparse_on_literals
is_field = record {
  name = (lit< tt, all_pass is_token_byte (codes "Content-Length") refl);
  raw = all_pass is_value_byte (32 ∷ codes "5") refl;
}

is_head : IsResponseHead found
is_head = record {
  minor = lit≤ tt;
  digits = (refl, all_pass is_ascii_digit (codes "200") refl);
  reason = all_pass is_value_byte (codes "OK") refl;
  fields = All-cons IsField length_field [] is_field (All-nil IsField);
}

pub returns : goal.returns
unfolding httparse_on_literals
returns c = λ request. bad_body _ (codes "abc") true [] found WireEnd.Ended
    (begins found (codes "abc") is_head (lit≤ tt) (lit≤ tt)) refl refl (lit< tt, refl, refl)
