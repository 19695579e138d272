use Rattle.std.proofs.Common.{◌≡◌, Option, sym, subst}
use Rattle.std.specs.Prelude.{IfOk}
use Rattle.engine_types.specs.declared.SeenFault.{SeenFault}
use Rattle.std.specs.Option.{option_copied}
use Rattle.observe_project.proofs.Judged.{fault-by}
use Rattle.observe_project.proofs.networks.network_fault.Goals as goal

pub returns : goal.returns
returns c =
    let d = c.args.declared.now in let p = c.args.purpose in let rows = c.args.rows.now in let network = c.args.network.now in
    let first = option_copied c.two_least-least.result.first in let second = option_copied c.two_least-least.result.second in
    let P : Option SeenFault → Type 0 = λ o. IfOk c.fault_by.result (λ fault. fault ≡ o) in
    subst P (sym (fault-by d p rows network first second c.two_least-least.ensures.first c.two_least-least.ensures.second)) c.fault_by.ensures
