-- The bytes of a value are bytes, and so the set of escapes is the definition's.
use Rattle.std.proofs.Common.{arith}
use Rattle.std.proofs.lemmas.List.Elements.{All-from_get_or}
use Rattle.percent_encoding.proofs.PercentLemmas.{IsByte}
use Rattle.http_request.proofs.EscapeSets.{query_encodes}
use Rattle.http_request.proofs.escaping.push_value.Goals as goal

pub returns : goal.returns
returns c =
    let small = All-from_get_or IsByte c.args.value.now 0 (λ i within. omega (arith, c.type_inv.value i)) in
    let same = query_encodes c.args.value.now small in
    cc (same, c.in_ok-append_to.ensures.ok, c.percent_encode.ensures.text)
