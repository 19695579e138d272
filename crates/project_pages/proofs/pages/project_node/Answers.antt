use Rattle.std.proofs.Common.{◌≡◌, ℕ, List, map, subst, sym}
use Rattle.std.specs.List.{IsDistinct}
use Rattle.std.specs.Str.{bytes_eq}
use Rattle.typed_project.specs.declared.network.Network.{Network}
use Rattle.typed_project.specs.declared.project.FileItem.{FileItem}
use Rattle.typed_project.specs.declared.service.Service.{Service}
use Rattle.typed_project.specs.declared.volume.Volume.{Volume}
use Rattle.tree_base.specs.ByteOrder.{IsAscending, is_before}
use Rattle.project_pages.proofs.Keys.{ascending_differ}
use Rattle.project_pages.proofs.Records.{project_put}
use Rattle.project_pages.proofs.pages.project_node.Goals as goal

-- keys in order differ, in a slice of the list too
keys_of_slice : {X : Type 0} (key : X → List ℕ) (items xs : List X) → items ≡ xs → IsAscending (λ x y. is_before (key x) (key y)) xs → IsDistinct bytes_eq (map key items)
keys_of_slice {X} key items xs same order = subst (λ (ys : List X). IsDistinct bytes_eq (map key ys)) (sym same) (ascending_differ key xs order)

pub put_section-requires-clause-keys : goal.put_section-requires-clause-keys
put_section-requires-clause-keys c = keys_of_slice (λ (item : FileItem). item.key) c.as_slice.result.now c.args.project.now.configs c.as_slice.ensures c.requires.order.configs

pub put_section-requires-2-clause-keys : goal.put_section-requires-2-clause-keys
put_section-requires-2-clause-keys c = keys_of_slice (λ (network : Network). network.key) c.as_slice-2.result.now c.args.project.now.networks c.as_slice-2.ensures c.requires.order.networks

pub put_section-requires-3-clause-keys : goal.put_section-requires-3-clause-keys
put_section-requires-3-clause-keys c = keys_of_slice (λ (item : FileItem). item.key) c.as_slice-3.result.now c.args.project.now.secrets c.as_slice-3.ensures c.requires.order.secrets

pub mapping-requires-clause-keys : goal.mapping-requires-clause-keys
mapping-requires-clause-keys c = keys_of_slice (λ (service : Service). service.key) c.as_slice-4.result.now c.args.project.now.services c.as_slice-4.ensures c.requires.order.services

pub put_section-requires-4-clause-keys : goal.put_section-requires-4-clause-keys
put_section-requires-4-clause-keys c = keys_of_slice (λ (volume : Volume). volume.key) c.as_slice-5.result.now c.args.project.now.volumes c.as_slice-5.ensures c.requires.order.volumes

pub returns : goal.returns
returns c =
    rw (c.in_ok-put_section-4.ensures, c.in_ok-put_mapping.ensures, c.in_ok-services.ensures, c.in_ok-put_section-3.ensures, c.in_ok-put_section-2.ensures, c.in_ok-put_text.ensures, c.in_ok-put_section.ensures, c.new-entries.ensures, c.as_str.ensures.value, c.as_slice.ensures, c.as_slice-2.ensures, c.as_slice-3.ensures, c.as_slice-4.ensures, c.as_slice-5.ensures)
    (project_put c.args.project.now)
