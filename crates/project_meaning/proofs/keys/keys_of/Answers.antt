use Rattle.std.proofs.Common.{◌≡◌, ◌∙◌, ◌∷◌, List, ap, map}
use Rattle.typed_project.specs.declared.network.Network.{Network}
use Rattle.typed_project.specs.declared.project.FileItem.{FileItem}
use Rattle.typed_project.specs.declared.service.Service.{Service}
use Rattle.typed_project.specs.declared.volume.Volume.{Volume}
use Rattle.project_meaning.specs.Completing.{default_key}
use Rattle.project_meaning.specs.declared.keys.Keys.{Keys}
use Rattle.project_meaning.specs.Names.{AreInOrder, declared, keys_as, sorted}
use Rattle.project_meaning.proofs.Whole.{each_kind}
use Rattle.project_meaning.proofs.keys.keys_of.Goals as goal

pub returns-clause-value : goal.returns-clause-value
returns-clause-value c =
    let keys : Keys = record {
      networks = c.in_ok-networks.networks;
      volumes = c.in_ok-volumes.volumes;
      services = c.in_ok-services.services;
      secrets = c.in_ok-secrets.secrets;
      configs = c.in_ok-configs.configs;
    } in
    each_kind (λ kind. keys_as kind keys ≡ sorted (declared kind c.args.project.now))
    (c.in_ok-networks.ensures.value ∙ ap (λ (l : List Network). sorted (default_key ∷ map (λ network. network.key) l)) c.as_slice.ensures)
    (c.in_ok-volumes.ensures.value ∙ ap (λ (l : List Volume). sorted (map (λ volume. volume.key) l)) c.as_slice-2.ensures)
    (c.in_ok-services.ensures.value ∙ ap (λ (l : List Service). sorted (map (λ service. service.key) l)) c.as_slice-3.ensures)
    (c.in_ok-secrets.ensures.value ∙ ap (λ (l : List FileItem). sorted (map (λ file. file.key) l)) c.as_slice-4.ensures)
    (c.in_ok-configs.ensures.value ∙ ap (λ (l : List FileItem). sorted (map (λ file. file.key) l)) c.as_slice-5.ensures)

pub returns-clause-order : goal.returns-clause-order
returns-clause-order c =
    let keys : Keys = record {
      networks = c.in_ok-networks.networks;
      volumes = c.in_ok-volumes.volumes;
      services = c.in_ok-services.services;
      secrets = c.in_ok-secrets.secrets;
      configs = c.in_ok-configs.configs;
    } in
    each_kind (λ kind. AreInOrder (keys_as kind keys)) c.in_ok-networks.ensures.order c.in_ok-volumes.ensures.order c.in_ok-services.ensures.order c.in_ok-secrets.ensures.order c.in_ok-configs.ensures.order
