-- The bytes of a path are bytes, and so the set of escapes is the definition's.
use Rattle.std.proofs.Common.{arith}
use Rattle.std.proofs.lemmas.List.Elements.{All-from_get_or}
use Rattle.percent_encoding.proofs.PercentLemmas.{IsByte}
use Rattle.http_request.proofs.EscapeSets.{path_encodes}
use Rattle.http_request.proofs.escaping.push_path.Goals as goal

pub returns : goal.returns
returns c =
    let small = All-from_get_or IsByte c.args.path.now 0 (λ i within. omega (arith, c.type_inv.path i)) in
    let same = path_encodes c.args.path.now small in
    cc (same, c.in_ok-append_to.ensures.ok, c.percent_encode.ensures.text)
