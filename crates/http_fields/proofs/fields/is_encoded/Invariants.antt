-- No value before these is another coding.
use Rattle.std.proofs.Common.{◌≡◌, not, length, codes}
use Rattle.std.specs.List.{list_any}
use Rattle.std.specs.Str.{str_eq_ignore_ascii_case}
use Rattle.http_fields.specs.Fields.{AreWithin, values_at}
use Rattle.http_fields.proofs.fields.is_encoded.Given as goal

abbrev pub invariant-loop-value : goal.invariant-loop-value
invariant-loop-value l = record {
  same :
      list_any (λ value. not (str_eq_ignore_ascii_case value (codes "identity"))) (values_at l.head l.rest (codes "content-encoding"))
      ≡ list_any (λ value. not (str_eq_ignore_ascii_case value (codes "identity"))) (values_at l.head l.fn.headers (codes "content-encoding"));
  are_within : AreWithin l.head l.rest;
}

abbrev pub decreases-loop-value : goal.decreases-loop-value
decreases-loop-value l = length l.rest
