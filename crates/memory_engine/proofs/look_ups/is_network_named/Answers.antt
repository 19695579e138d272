-- A network has the name where a look-up finds one.
use Rattle.std.proofs.Common.{◌∙◌, sym, ap}
use Rattle.std.specs.Prelude.{is_some}
use Rattle.std.specs.Str.{bytes_eq}
use Rattle.engine_types.specs.declared.NetRow.{NetRow}
use Rattle.memory_engine.proofs.AnyAll.{any-found}
use Rattle.memory_engine.proofs.Outcomes.{some_copied}
use Rattle.memory_engine.proofs.look_ups.is_network_named.Goals as goal

pub returns : goal.returns
returns c =
    c.is_some.ensures ∙ sym (some_copied c.network_named.result) ∙ ap is_some c.network_named.ensures
    ∙ any-found (λ (row : NetRow). bytes_eq c.args.name.now row.name) c.args.engine.now.networks
