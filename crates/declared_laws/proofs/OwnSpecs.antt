-- What the Engine is sent for each slot is made for it.
use Rattle.std.proofs.Common.{◌≡◌, ◌<◌, ◌^◌, ℕ, List, [], Option, Some, true, slice_get, refl, subst, sym, arith}
use Rattle.std.specs.Prelude.{unwrap_or}
use Rattle.std.specs.List.{list_any}
use Rattle.std.specs.Str.{bytes_eq}
use Rattle.compose_words.specs.declared.options.Scale.{Scale}
use Rattle.container_specs.specs.Networks as networks
use Rattle.container_specs.specs.Networks.{networks_by_name}
use Rattle.container_specs.specs.Specs.{container_spec}
use Rattle.declared_set.specs.Declaring.{declared_of}
use Rattle.declared_set.specs.Labels.{container_labels}
use Rattle.declared_set.specs.Slots.{slots_of}
use Rattle.declared_set.specs.declared.LoadedProject.{LoadedProject}
use Rattle.engine_types.specs.Labels as the
use Rattle.engine_types.specs.declared.Attach.{Attach}
use Rattle.engine_types.specs.declared.Endpoint.{Endpoint}
use Rattle.engine_types.specs.declared.Slot.{Slot}
use Rattle.run_model.specs.EngineRules.{Among, endpoints_of, has_label}
use Rattle.run_model.specs.Labels.{hash_for, is_of_slot}
use Rattle.run_model.specs.Plans.{network_name}
use Rattle.service_hashes.specs.Hashes.{hash}
use Rattle.service_hashes.specs.declared.digest.FileDigest.{FileDigest}
use Rattle.tree_base.specs.declared.Var.{Var}
use Rattle.typed_project.specs.declared.project.Project.{Project}
use Rattle.typed_project.specs.declared.service.Service.{Service}
use Rattle.world_laws.specs.OwnSpecs.{HasOwnSpecs, IsOwnSpec}
use Rattle.declared_laws.specs.Laws.{AreNumbered, SayOrigin}
use Rattle.declared_laws.proofs.Endpoints.{first_is_endpoint}
use Rattle.declared_laws.proofs.Labelled.{labels_have_hash, labels_of_slot, labels_say_origin}
use Rattle.declared_laws.proofs.Whole.{each_slot, slot_of}

-- the description of a container has the labels, the image and the endpoint that are given
module _ (project : Project) (service : Service) (labels : List Var) (image : List ℕ) where
  spec_labels : (container_spec project service labels image).labels ≡ labels
  unfolding container_spec
  spec_labels = refl

  spec_image : (container_spec project service labels image).image ≡ Some image
  unfolding container_spec
  spec_image = refl

  spec_endpoints : (container_spec project service labels image).endpoints_config ≡ networks.endpoints_of (networks_by_name project service)
  unfolding container_spec
  spec_endpoints = refl

module _ (loaded : LoadedProject) (scales : List Scale) (digests : List FileDigest) where
  module _ (service : Service) (number : ℕ) (fits : number < 2 ^ 32) where
    abbrev labels : List Var
    labels = container_labels loaded service (hash service digests) number

    abbrev slot : Slot
    slot = slot_of loaded scales digests service number

    same_labels : slot.spec.labels ≡ labels
    same_labels = spec_labels loaded.project service labels slot.image

    own_endpoint : (attach : Attach) → slice_get slot.attach 0 ≡ Some attach
        → list_any (λ endpoint. bytes_eq endpoint.key (network_name (declared_of loaded scales digests) attach)) (endpoints_of slot.spec) ≡ true
    own_endpoint attach e =
        subst (λ (o : Option (List Endpoint)). list_any (λ endpoint. bytes_eq endpoint.key (network_name (declared_of loaded scales digests) attach)) (unwrap_or o []) ≡ true)
        (sym (spec_endpoints loaded.project service labels slot.image)) (first_is_endpoint loaded.project service attach e)

    own_spec : IsOwnSpec (declared_of loaded scales digests) slot
    own_spec = record {
      labels = subst (λ (l : List Var). is_of_slot loaded.project.name slot l ≡ true) (sym same_labels) (labels_of_slot loaded service (hash service digests) number slot refl refl);
      hash = subst (λ (l : List Var). has_label l the.hash_label (hash_for slot l) ≡ true) (sym same_labels) (labels_have_hash loaded service (hash service digests) number slot refl);
      image = spec_image loaded.project service labels slot.image;
      endpoint = own_endpoint;
      number = fits;
    }

  pub declares_own : AreNumbered scales loaded.project.services → HasOwnSpecs (declared_of loaded scales digests)
  declares_own numbered = each_slot loaded scales digests (IsOwnSpec (declared_of loaded scales digests))
      (λ service number m l. let few = numbered service m in own_spec service number (omega (arith, l, few)))

  pub declares_origin : (slot : Slot) → Among (slots_of loaded scales digests) slot → SayOrigin loaded slot.spec.labels
  declares_origin = each_slot loaded scales digests (λ slot. SayOrigin loaded slot.spec.labels)
      (λ service number m l. subst (SayOrigin loaded)
      (sym (spec_labels loaded.project service (container_labels loaded service (hash service digests) number) (slot_of loaded scales digests service number).image))
      (labels_say_origin loaded service (hash service digests) number))
