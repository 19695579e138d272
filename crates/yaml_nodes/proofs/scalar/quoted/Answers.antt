use Rattle.std.proofs.Common.{◌≡◌, Some, None}
use Rattle.yaml_lines.specs.Quoted.{quoted_of}
use Rattle.yaml_lines.specs.Rows.{text_at}
use Rattle.yaml_lines.specs.Spelling.{spelled}
use Rattle.yaml_nodes.specs.Progress.{result_beside}
use Rattle.yaml_nodes.specs.Unfinished.{ended}
use Rattle.yaml_nodes.proofs.Chains.{gives_as}
use Rattle.yaml_nodes.proofs.Spellings.{quoted_none, quoted_some}
use Rattle.yaml_nodes.proofs.scalar.quoted.Goals as goal

pub returns-in-None-clause-is : goal.returns-in-None-clause-is
returns-in-None-clause-is c found =
    let a = c.args in
    let none : spelled (quoted_of (text_at a.row.now a.at)) ≡ None = cc (c.in_ok-quoted_scalar.ensures.is) in
    rw c.bad.ensures (quoted_none found a.progress.now a.row.now a.at _ none)

pub returns-in-Some-clause-is : goal.returns-in-Some-clause-is
returns-in-Some-clause-is c found =
    let a = c.args in
    let some : spelled (quoted_of (text_at a.row.now a.at)) ≡ Some (c.in-Some.text, c.in-Some.len) = cc (c.in_ok-quoted_scalar.ensures.is) in
    gives_as (ended found (result_beside c.scalar.result c.scalar.new.progress)) (quoted_some found a.progress.now a.row.now a.at _ c.in-Some.text c.in-Some.len some) (c.scalar.ensures.is found)
