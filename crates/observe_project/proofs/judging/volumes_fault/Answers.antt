use Rattle.std.proofs.Common.{◌≡◌, Option, subst}
use Rattle.std.specs.Prelude.{IfOk}
use Rattle.engine_types.specs.declared.SeenFault.{SeenFault}
use Rattle.observe_project.proofs.Judged.{volumes-missing, volumes-there}
use Rattle.observe_project.proofs.judging.volumes_fault.Goals as goal

pub returns-in-Some : goal.returns-in-Some
returns-in-Some c =
    let P : Option SeenFault → Type 0 = λ o. IfOk c.external_missing.result (λ fault. fault ≡ o) in
    subst P (volumes-missing c.args.purpose c.args.names.now c.args.declared.now.volumes c.in-Some.volume.now (rw c.as_slice.ensures at c.in-Some.ensures)) c.external_missing.ensures

pub returns-in-None : goal.returns-in-None
returns-in-None c = volumes-there c.args.purpose c.args.names.now c.args.declared.now.volumes (rw c.as_slice.ensures at c.in-None.ensures)
