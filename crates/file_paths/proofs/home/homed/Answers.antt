use Rattle.std.specs.Prelude.{codes}
use Rattle.file_paths.proofs.Homes.{at_home, stripped}
use Rattle.file_paths.proofs.home.homed.Goals as goal

pub returns-in-Some : goal.returns-in-Some
returns-in-Some c =
    let a = c.args in
    let s = stripped (codes "~/") c.as_str.result.now c.in-Some.rest.now c.in-Some.ensures.cases in
    let text = c.as_str.ensures.value in
    rw (at_home a.directory.now a.env.now a.text.now c.in-Some.rest.now (rw text at s.0) (rw text at s.1)) c.home_in.ensures
