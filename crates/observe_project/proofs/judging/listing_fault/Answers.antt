use Rattle.std.proofs.Common.{◌≡◌, Option, sym, subst}
use Rattle.std.specs.Prelude.{IfOk}
use Rattle.engine_types.specs.declared.SeenFault.{SeenFault}
use Rattle.observe_project.proofs.Judged.{listing-network, listing-volumes}
use Rattle.observe_project.proofs.judging.listing_fault.Goals as goal

pub returns-in-Some : goal.returns-in-Some
returns-in-Some c =
    let P : Option SeenFault → Type 0 = λ o. IfOk c.network_fault.result (λ fault. fault ≡ o) in
    subst P (sym (listing-network c.args.declared.now c.args.purpose c.args.seen.now c.in-Some.network.now (rw c.as_slice-rows.ensures at c.in-Some.ensures)))
    (rw c.as_slice-rows.ensures at c.network_fault.ensures)

pub returns-in-None : goal.returns-in-None
returns-in-None c =
    let P : Option SeenFault → Type 0 = λ o. IfOk c.volumes_fault.result (λ fault. fault ≡ o) in
    subst P (sym (listing-volumes c.args.declared.now c.args.purpose c.args.seen.now (rw c.as_slice-rows.ensures at c.in-None.ensures)))
    (rw c.as_slice.ensures at c.volumes_fault.ensures)
