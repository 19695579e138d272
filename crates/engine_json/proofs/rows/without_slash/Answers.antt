use Rattle.std.proofs.Common.{arith}
use Rattle.std.proofs.lemmas.Str.Pattern.{strip_prefix_char}
use Rattle.engine_json.proofs.Bodies.{slash_off, slash_stays}
use Rattle.engine_json.proofs.rows.without_slash.Goals as goal

pub returns-in-Some : goal.returns-in-Some
returns-in-Some c =
    let cases = strip_prefix_char 47 c.args.name.now c.strip_prefix.result c.strip_prefix.ensures.cases (omega arith) in
    slash_off c.args.name.now c.in-Some.rest.now (rw c.in-Some.is at cases)

pub returns-in-None : goal.returns-in-None
returns-in-None c =
    let cases = strip_prefix_char 47 c.args.name.now c.strip_prefix.result c.strip_prefix.ensures.cases (omega arith) in
    slash_stays c.args.name.now (rw c.in-None.is at cases)
