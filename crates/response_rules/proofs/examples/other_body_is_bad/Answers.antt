-- An object without members, where the volumes were asked for.
use Rattle.std.proofs.Common.{[], ◌∷◌, refl, inr, codes, lit<, lit≤}
use Rattle.std.proofs.lemmas.List.Elements.{All-nil, All-cons}
use Rattle.std.specs.Str.{is_utf8, chars}
use Rattle.serde_json.proofs.OnLiterals.{serde_json_on_literals}
use Rattle.std.specs.Char.{is_ascii_digit, encode_utf8}
use Rattle.httparse.proofs.OnLiterals.{httparse_on_literals}
use Rattle.httparse.specs.Grammar.{Field, IsField, IsResponseHead, ResponseHead, is_token_byte, is_value_byte}
use Rattle.response_rules.proofs.Shown.{head, field, begins, all_pass}
use Rattle.response_rules.proofs.examples.other_body_is_bad.Goals as goal

abbrev length_field : Field
length_field = field (codes "Content-Length") (codes "2")

abbrev found : ResponseHead
found = head (codes "200") (codes "OK") (length_field ∷ [])

is_field : IsField length_field
unfolding httparse_on_literals
is_field = record {
  name = (lit< tt, all_pass is_token_byte (codes "Content-Length") refl);
  raw = all_pass is_value_byte (32 ∷ codes "2") refl;
}

is_head : IsResponseHead found
is_head = record {
  minor = lit≤ tt;
  digits = (refl, all_pass is_ascii_digit (codes "200") refl);
  reason = all_pass is_value_byte (codes "OK") refl;
  fields = All-cons IsField length_field [] is_field (All-nil IsField);
}

pub returns : goal.returns
unfolding httparse_on_literals serde_json_on_literals is_utf8 chars encode_utf8
returns c = record {
  status = 200;
  body = codes "{}";
  response = record {
    skipped = [];
    head = found;
    rest = codes "{}";
    begins = begins found (codes "{}") is_head (lit≤ tt) (lit≤ tt);
    final = refl;
    sound = refl;
    has_status = refl;
    has_body = inr (refl, (lit≤ tt, refl));
  };
  few = refl;
  bad = refl;
}
