use Rattle.std.proofs.Common.{ℕ, false, List, [], refl, codes}
use Rattle.response_rules.specs.Responses.{bad_head}
use Rattle.response_rules.proofs.Shown.{skips_nothing}
use Rattle.laws_bytes.proofs.Negative.{other_version}
use Rattle.laws_bytes.proofs.examples.other_version_is_malformed.Goals as goal

abbrev sent : List ℕ
sent = codes "HTTP/2.0 200 OK\r\n\r\n"

pub returns : goal.returns
returns c = λ request. bad_head sent sent false [] 19 (skips_nothing sent) refl other_version
