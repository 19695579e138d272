use Rattle.std.proofs.Common.{◌∙◌, ℕ, List, ap, codes}
use Rattle.std.specs.Prelude.{filter, flat_map}
use Rattle.attribute_scalars.specs.Walks.{is_in}
use Rattle.typed_project.specs.declared.network.Network.{Network}
use Rattle.typed_project.specs.declared.project.FileItem.{FileItem}
use Rattle.typed_project.specs.declared.service.Service.{Service}
use Rattle.typed_project.specs.declared.volume.Volume.{Volume}
use Rattle.project_meaning.specs.Completing.{default_key, files_named, networks_named, volumes_named, with_default_network}
use Rattle.project_meaning.specs.Names.{sorted}
use Rattle.project_meaning.proofs.Keeping.{files_by, kept_whole, volumes_by}
use Rattle.project_meaning.proofs.used.keep_used.Goals as goal

pub returns : goal.returns
returns c =
    let project = c.args.project.now in
    let u = c.in_ok-used.used.items in
    let v = c.in_ok-used-2.used.items in
    let s = c.in_ok-used-3.used.items in
    let t = c.in_ok-used-4.used.items in
    kept_whole project u v s t c.in_ok-project.field-0 c.used_volumes.result c.used_files.result c.used_files-2.result
    (c.in_ok-used.ensures.value ∙ ap (λ (l : List Service). sorted (flat_map networks_named l)) c.as_slice.ensures)
    (c.in_ok-project.ensures
    ∙ ap (λ (l : List (List ℕ)). filter (λ (n : Network). is_in l n.key) (with_default_network project.name (is_in l default_key) c.replace-networks.result)) c.as_slice-2.ensures.value
    ∙ ap (λ (l : List Network). filter (λ (n : Network). is_in u n.key) (with_default_network project.name (is_in u default_key) l)) c.replace-networks.ensures.value)
    (c.in_ok-used-2.ensures.value ∙ ap (λ (l : List Service). sorted (flat_map volumes_named l)) c.as_slice-3.ensures)
    (c.used_volumes.ensures
    ∙ ap (λ (l : List (List ℕ)). volumes_by c.replace-volumes.result (is_in l)) c.as_slice-4.ensures.value
    ∙ ap (λ (l : List Volume). volumes_by l (is_in v)) c.replace-volumes.ensures.value)
    (c.in_ok-used-3.ensures.value ∙ ap (λ (l : List Service). sorted (flat_map (files_named (codes "secrets")) l)) c.as_slice-5.ensures)
    (c.used_files.ensures
    ∙ ap (λ (l : List (List ℕ)). files_by c.replace-secrets.result (is_in l)) c.as_slice-6.ensures.value
    ∙ ap (λ (l : List FileItem). files_by l (is_in s)) c.replace-secrets.ensures.value)
    (c.in_ok-used-4.ensures.value ∙ ap (λ (l : List Service). sorted (flat_map (files_named (codes "configs")) l)) c.as_slice-7.ensures)
    (c.used_files-2.ensures
    ∙ ap (λ (l : List (List ℕ)). files_by c.replace-configs.result (is_in l)) c.as_slice-8.ensures.value
    ∙ ap (λ (l : List FileItem). files_by l (is_in t)) c.replace-configs.ensures.value)
