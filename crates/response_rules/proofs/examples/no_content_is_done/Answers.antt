-- A 204 with no field.
use Rattle.std.proofs.Common.{[], refl, inl, codes, lit≤}
use Rattle.std.proofs.lemmas.List.Elements.{All-nil}
use Rattle.std.specs.Char.{is_ascii_digit}
use Rattle.httparse.proofs.OnLiterals.{httparse_on_literals}
use Rattle.httparse.specs.Grammar.{IsField, IsResponseHead, ResponseHead, is_value_byte}
use Rattle.response_rules.proofs.Shown.{head, begins, all_pass}
use Rattle.response_rules.proofs.examples.no_content_is_done.Goals as goal

abbrev found : ResponseHead
found = head (codes "204") (codes "No Content") []

is_head : IsResponseHead found
is_head = record {
  minor = lit≤ tt;
  digits = (refl, all_pass is_ascii_digit (codes "204") refl);
  reason = all_pass is_value_byte (codes "No Content") refl;
  fields = All-nil IsField;
}

pub returns : goal.returns
unfolding httparse_on_literals
returns c = λ id. record {
  status = 204;
  body = [];
  response = record {
    skipped = [];
    head = found;
    rest = [];
    begins = begins found [] is_head (lit≤ tt) (lit≤ tt);
    final = refl;
    sound = refl;
    has_status = refl;
    has_body = inl (refl, refl);
  };
  few = refl;
  gives = refl;
}
