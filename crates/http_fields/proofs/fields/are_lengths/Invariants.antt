-- Each value before these is the first length.
use Rattle.std.proofs.Common.{◌≡◌, ◌==◌, ◌&&◌, length, codes}
use Rattle.std.specs.List.{list_all}
use Rattle.std.specs.Str.Parse.{digits_value}
use Rattle.response_rules.specs.Heads.{is_length}
use Rattle.http_fields.specs.Fields.{AreWithin, values_at}
use Rattle.http_fields.proofs.fields.are_lengths.Given as goal

abbrev pub invariant-loop-value : goal.invariant-loop-value
invariant-loop-value l = record {
  same :
      list_all (λ value. is_length value && (digits_value 10 value == digits_value 10 l.first)) (values_at l.head l.rest (codes "content-length"))
      ≡ list_all (λ value. is_length value && (digits_value 10 value == digits_value 10 l.first)) (values_at l.head l.fn.headers (codes "content-length"));
  are_within : AreWithin l.head l.rest;
}

abbrev pub decreases-loop-value : goal.decreases-loop-value
decreases-loop-value l = length l.rest
