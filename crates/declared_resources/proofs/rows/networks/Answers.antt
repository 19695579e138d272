use Rattle.std.proofs.Common.{◌∙◌, Bor, List, ap, map, refl, subst, sym}
use Rattle.engine_types.specs.declared.resource.NetworkSpec.{NetworkSpec}
use Rattle.named_items.specs.Names.{network_name}
use Rattle.tree_base.specs.ByteOrder.{IsAscending, is_before}
use Rattle.typed_project.specs.declared.network.Network.{Network}
use Rattle.declared_resources.specs.Resources.{network_spec}
use Rattle.declared_resources.proofs.Orders.{ascending_made}
use Rattle.declared_resources.proofs.rows.networks.Goals as goal

pub returns-clause-order : goal.returns-clause-order
returns-clause-order c =
    let project = c.args.project.now.name in
    let rows = map (λ (row : Bor Network). row.now) c.in_ok-rows.rows.items in
    subst (λ (specs : List NetworkSpec). IsAscending (λ (network other : NetworkSpec). is_before network.name other.name) specs)
    (sym (c.in_ok-specs.ensures ∙ ap (λ (l : List (Bor Network)). map (network_spec project) (map (λ (row : Bor Network). row.now) l)) c.as_slice-2.ensures.value))
    (ascending_made (network_spec project) network_name (λ (spec : NetworkSpec). spec.name) (λ network. refl) rows c.in_ok-rows.ensures.order)
