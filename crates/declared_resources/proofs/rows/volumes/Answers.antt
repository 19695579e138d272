use Rattle.std.proofs.Common.{◌∙◌, Bor, List, ap, map, refl, subst, sym}
use Rattle.engine_types.specs.declared.resource.VolumeSpec.{VolumeSpec}
use Rattle.named_items.specs.Names.{volume_name}
use Rattle.tree_base.specs.ByteOrder.{IsAscending, is_before}
use Rattle.typed_project.specs.declared.volume.Volume.{Volume}
use Rattle.declared_resources.specs.Resources.{volume_spec}
use Rattle.declared_resources.proofs.Orders.{ascending_made}
use Rattle.declared_resources.proofs.rows.volumes.Goals as goal

pub returns-clause-order : goal.returns-clause-order
returns-clause-order c =
    let project = c.args.project.now.name in
    let rows = map (λ (row : Bor Volume). row.now) c.in_ok-rows.rows.items in
    subst (λ (specs : List VolumeSpec). IsAscending (λ (volume other : VolumeSpec). is_before volume.name other.name) specs)
    (sym (c.in_ok-specs.ensures ∙ ap (λ (l : List (Bor Volume)). map (volume_spec project) (map (λ (row : Bor Volume). row.now) l)) c.as_slice-2.ensures.value))
    (ascending_made (volume_spec project) volume_name (λ (spec : VolumeSpec). spec.name) (λ volume. refl) rows c.in_ok-rows.ensures.order)
