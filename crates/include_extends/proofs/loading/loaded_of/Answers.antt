use Rattle.include_extends.proofs.Named.{loaded_there, not_loaded}
use Rattle.include_extends.proofs.loading.loaded_of.Goals as goal

pub returns-in-Ok-clause-given : goal.returns-in-Ok-clause-given
returns-in-Ok-clause-given g c =
    let a = c.args in
    loaded_there (g.F.Files.told a.files.now) a.places a.caller.now a.found c.in-Ok.whole (rw c.as_slice-begun.ensures at c.in-Ok.ensures.given)

pub returns-in-Err-clause-given : goal.returns-in-Err-clause-given
returns-in-Err-clause-given g c =
    let a = c.args in
    not_loaded (g.F.Files.told a.files.now) a.places a.caller.now a.found c.in-Err.refusal (rw c.as_slice-begun.ensures at c.in-Err.ensures.given)
