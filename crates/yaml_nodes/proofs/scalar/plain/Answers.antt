use Rattle.std.proofs.Common.{◌≡◌, ◌∙◌, sym, Some, None, true, false}
use Rattle.yaml_lines.specs.Plain.{plain_of}
use Rattle.yaml_lines.specs.Rows.{text_at}
use Rattle.yaml_lines.specs.Spelling.{spelled}
use Rattle.yaml_nodes.specs.Progress.{result_beside}
use Rattle.yaml_nodes.specs.Scalars.{is_plain_null}
use Rattle.yaml_nodes.specs.Unfinished.{ended}
use Rattle.yaml_nodes.proofs.Chains.{gives_as}
use Rattle.yaml_nodes.proofs.Spellings.{plain_none, plain_some, plain_null}
use Rattle.yaml_nodes.proofs.scalar.plain.Goals as goal

pub returns-in-None-clause-is : goal.returns-in-None-clause-is
returns-in-None-clause-is c =
    let a = c.args in
    let none : spelled (plain_of a.context (text_at a.row.now a.at)) ≡ None = cc (c.in_ok-plain_scalar.ensures.is) in
    rw c.bad.ensures (plain_none a.found.now a.progress.now a.row.now a.at _ none)

pub returns-then-is_plain_null-clause-is : goal.returns-then-is_plain_null-clause-is
returns-then-is_plain_null-clause-is c =
    let a = c.args in
    let some : spelled (plain_of a.context (text_at a.row.now a.at)) ≡ Some (c.in-Some.text, c.in-Some.len) = cc (c.in_ok-plain_scalar.ensures.is) in
    let null : is_plain_null a.found.now c.in-Some.text ≡ true = sym c.is_plain_null.ensures ∙ c.if-is_plain_null.true in
    gives_as (ended a.found.now (result_beside c.null_word.result c.null_word.new.progress)) (plain_null a.found.now a.progress.now a.row.now a.at _ c.in-Some.text c.in-Some.len some null) (c.null_word.ensures.is a.found.now)

pub returns-else-is_plain_null-clause-is : goal.returns-else-is_plain_null-clause-is
returns-else-is_plain_null-clause-is c =
    let a = c.args in
    let some : spelled (plain_of a.context (text_at a.row.now a.at)) ≡ Some (c.in-Some.text, c.in-Some.len) = cc (c.in_ok-plain_scalar.ensures.is) in
    let other : is_plain_null a.found.now c.in-Some.text ≡ false = sym c.is_plain_null.ensures ∙ c.if-is_plain_null.false in
    gives_as (ended a.found.now (result_beside c.scalar.result c.scalar.new.progress)) (plain_some a.found.now a.progress.now a.row.now a.at _ c.in-Some.text c.in-Some.len some other) (c.scalar.ensures.is a.found.now)
