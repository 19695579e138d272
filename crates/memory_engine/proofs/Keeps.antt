-- An Engine in memory stays sound, and its next ids stay free.
use Rattle.std.proofs.Common.{◌≡◌, ℕ, ◌^◌, ◌<◌, Bool, true, false, not, if◌then◌else◌, List, [], ◌∷◌, ◌++◌, Option, Some, None, refl, ap, ◌∙◌, arith}
use Rattle.std.specs.Prelude.{filter, find, is_some, is_none}
use Rattle.std.specs.List.{list_all, list_any, filter_map, cons_option, IsDistinct}
use Rattle.std.specs.Option.{option_map}
use Rattle.std.specs.Str.{bytes_eq}
use Rattle.std.proofs.lemmas.Bool.{and_parts, and_from, cond_both}
use Rattle.engine_types.specs.declared.ContainerRow.{ContainerRow}
use Rattle.engine_types.specs.declared.ContainerSpec.{ContainerSpec}
use Rattle.engine_types.specs.declared.Endpoint.{Endpoint}
use Rattle.engine_types.specs.declared.Engine.{Engine}
use Rattle.engine_types.specs.declared.NetRow.{NetRow}
use Rattle.engine_types.specs.declared.NetworkSpec.{NetworkSpec}
use Rattle.run_model.specs.EngineRules.{IsSound, container_at, created_row, endpoints_of, has_container_named, has_volume, is_on, network_at}
use Rattle.memory_engine.specs.Ids.{id_text}
use Rattle.memory_engine.specs.Keeping.{IsKept, is_free}
use Rattle.memory_engine.specs.Serving.{network_in_use, network_named, networks_for, with_created, with_first, with_image, with_network, with_volume, without_container, without_network, without_volume}
use Rattle.memory_engine.proofs.Texts.{by_cases, bytes_eq_flips}
use Rattle.memory_engine.proofs.AnyAll.{all-among, all-filter, all-from_among, all-push, all-weaker, all-with_first, any-among, among-find, none_of}
use Rattle.memory_engine.proofs.Distinct.{distinct-filter, distinct-push, distinct-texts_filter, distinct-texts_push, distinct-with_image, find-among, keys-with_first}
use Rattle.memory_engine.proofs.KeyedRows.{find-filter, find-push}
use Rattle.memory_engine.proofs.NumberedIds.{id_text-apart}

abbrev id_of : ContainerRow → List ℕ
id_of row = row.id

abbrev name_of : ContainerRow → List ℕ
name_of row = row.name

abbrev network_id_of : NetRow → List ℕ
network_id_of row = row.id

-- whether the networks of a container are there
abbrev pub is_attached : Engine → ContainerRow → Bool
is_attached engine row = list_all (λ id. is_some (network_at engine id)) row.networks

-- ---- which ids are free

pub free_container : (engine : Engine) (id : List ℕ) → is_free engine id ≡ true → container_at engine id ≡ None
free_container engine id free = none_of (container_at engine id) (and_parts (is_none (container_at engine id)) (is_none (network_at engine id)) free).0

pub free_network : (engine : Engine) (id : List ℕ) → is_free engine id ≡ true → network_at engine id ≡ None
free_network engine id free = none_of (network_at engine id) (and_parts (is_none (container_at engine id)) (is_none (network_at engine id)) free).1

free_from : (engine : Engine) (id : List ℕ) → container_at engine id ≡ None → network_at engine id ≡ None → is_free engine id ≡ true
free_from engine id no_container no_network = rw (no_container, no_network) refl

-- a list without some rows has no key more
missed-filter : {X : Type 0} (p q : X → Bool) (xs : List X) → find p xs ≡ None → find p (filter q xs) ≡ None
missed-filter p q [] missed = refl
missed-filter p q (x ∷ xs) missed = by_cases (p x)
    (λ e. let clash : Some x ≡ None = rw e at missed in cc)
    (λ e. let later = missed-filter p q xs (rw e at missed) in
    by_cases (q x) (λ f. rw (f, e) later) (λ f. rw f later))

-- nor has one in which a row is changed
missed-with_first : {X : Type 0} (p q : X → Bool) (f : X → X) → ((x : X) → p (f x) ≡ p x) → (xs : List X) → find p xs ≡ None → find p (with_first q f xs) ≡ None
missed-with_first p q f keeps [] missed = refl
missed-with_first p q f keeps (x ∷ xs) missed = by_cases (p x)
    (λ e. let clash : Some x ≡ None = rw e at missed in cc)
    (λ e. let rest : find p xs ≡ None = rw e at missed in
    by_cases (q x) (λ g. rw (g, keeps x, e) rest) (λ g. rw (g, e) (missed-with_first p q f keeps xs rest)))

-- ---- an Engine that holds nothing

pub keeps_nothing : (engine : Engine) → engine.containers ≡ [] → engine.networks ≡ [] → engine.volumes ≡ [] → engine.images ≡ [] → IsKept engine
unfolding IsDistinct
keeps_nothing engine containers networks volumes images = record {
  sound = record {
    container_ids = rw containers tt;
    container_names = rw containers tt;
    network_ids = rw networks tt;
    volume_names = rw volumes tt;
    image_names = rw images tt;
    attached = rw containers refl;
  };
  numbered = λ n above short. rw (containers, networks) refl;
}

-- ---- containers

-- a container changes, and keeps its id, its name and networks that are there
pub keeps_changed : (engine : Engine) (p : ContainerRow → Bool) (f : ContainerRow → ContainerRow)
    → ((row : ContainerRow) → (f row).id ≡ row.id) → ((row : ContainerRow) → (f row).name ≡ row.name)
    → ((row : ContainerRow) → is_attached engine row ≡ true → is_attached engine (f row) ≡ true)
    → IsKept engine → IsKept (record engine { containers = with_first p f engine.containers })
keeps_changed engine p f same_id same_name there kept = record {
  sound = record {
    container_ids = rw (keys-with_first id_of p f same_id engine.containers) kept.sound.container_ids;
    container_names = rw (keys-with_first name_of p f same_name engine.containers) kept.sound.container_names;
    network_ids = kept.sound.network_ids;
    volume_names = kept.sound.volume_names;
    image_names = kept.sound.image_names;
    attached = all-with_first (is_attached engine) p f there engine.containers kept.sound.attached;
  };
  numbered = λ n above short.
      let free = kept.numbered n above short in
      free_from (record engine { containers = with_first p f engine.containers }) (id_text n)
      (missed-with_first (λ row. bytes_eq row.id (id_text n)) p f (λ row. ap (λ id. bytes_eq id (id_text n)) (same_id row)) engine.containers (free_container engine (id_text n) free))
      (free_network engine (id_text n) free);
}

pub keeps_removed : (engine : Engine) (id : List ℕ) → IsKept engine → IsKept (without_container engine id)
keeps_removed engine id kept =
    let others = λ (row : ContainerRow). not (bytes_eq row.id id) in record {
      sound = record {
        container_ids = distinct-filter id_of others engine.containers kept.sound.container_ids;
        container_names = distinct-filter name_of others engine.containers kept.sound.container_names;
        network_ids = kept.sound.network_ids;
        volume_names = kept.sound.volume_names;
        image_names = kept.sound.image_names;
        attached = all-filter (is_attached engine) others engine.containers kept.sound.attached;
      };
      numbered = λ n above short.
          let free = kept.numbered n above short in
          free_from (without_container engine id) (id_text n)
          (missed-filter (λ row. bytes_eq row.id (id_text n)) others engine.containers (free_container engine (id_text n) free))
          (free_network engine (id_text n) free);
    }

-- the next id is neither a container's nor a network's
pub next_is_free : (engine : Engine) → engine.next < 2 ^ 64 → IsKept engine → is_free engine (id_text engine.next) ≡ true
next_is_free engine fits kept = kept.numbered engine.next (omega arith) (omega arith)

-- an id that a look-up by its text misses is no row's
id_apart : {X : Type 0} (key : X → List ℕ) (id : List ℕ) (xs : List X) → find (λ x. bytes_eq (key x) id) xs ≡ None → list_any (λ x. bytes_eq id (key x)) xs ≡ false
id_apart key id [] missed = refl
id_apart key id (x ∷ xs) missed = by_cases (bytes_eq (key x) id)
    (λ e. let clash : Some x ≡ None = rw e at missed in cc)
    (λ e. let flipped : bytes_eq id (key x) ≡ false = bytes_eq_flips id (key x) ∙ e in rw flipped (id_apart key id xs (rw e at missed)))

-- the networks that a container is made on are there
networks_are_there : (engine : Engine) → IsSound engine → (endpoints : List Endpoint)
    → list_all (λ id. is_some (network_at engine id)) (filter_map (λ endpoint. network_named engine endpoint.key) endpoints) ≡ true
networks_are_there engine sound [] = refl
networks_are_there engine sound (endpoint ∷ endpoints) =
    let rest = networks_are_there engine sound endpoints in
    let by : (o : Option NetRow) → find (λ row. bytes_eq endpoint.key row.name) engine.networks ≡ o
    → list_all (λ id. is_some (network_at engine id)) (cons_option (option_map network_id_of o) (filter_map (λ e. network_named engine e.key) endpoints)) ≡ true
    = λ o. elim o as (λ o. find (λ row. bytes_eq endpoint.key row.name) engine.networks ≡ o
    → list_all (λ id. is_some (network_at engine id)) (cons_option (option_map network_id_of o) (filter_map (λ e. network_named engine e.key) endpoints)) ≡ true) [
      | None ↦ λ missed. rest
      | Some row ↦ λ found.
          let among = (among-find (λ (r : NetRow). bytes_eq endpoint.key r.name) engine.networks row found).0 in
          let there = find-among network_id_of engine.networks row sound.network_ids among in
          and_from (is_some (network_at engine row.id)) (list_all (λ id. is_some (network_at engine id)) (filter_map (λ e. network_named engine e.key) endpoints)) (rw there refl) rest
    ]
    in by (find (λ row. bytes_eq endpoint.key row.name) engine.networks) refl

pub keeps_created : (engine : Engine) (name : List ℕ) (spec : ContainerSpec) (image : List ℕ) → engine.next < 2 ^ 64
    → has_container_named engine name ≡ false → IsKept engine → IsKept (with_created engine name spec image)
keeps_created engine name spec image fits free_name kept =
    let row = created_row (id_text engine.next) name spec image (networks_for engine spec) in
    let free = next_is_free engine fits kept in
    let no_container = free_container engine (id_text engine.next) free in record {
      sound = record {
        container_ids = distinct-push id_of row engine.containers kept.sound.container_ids (id_apart id_of (id_text engine.next) engine.containers no_container);
        container_names = distinct-push name_of row engine.containers kept.sound.container_names free_name;
        network_ids = kept.sound.network_ids;
        volume_names = kept.sound.volume_names;
        image_names = kept.sound.image_names;
        attached = all-push (is_attached engine) row (networks_are_there engine kept.sound (endpoints_of spec)) engine.containers kept.sound.attached;
      };
      numbered = λ n above short.
          let later = kept.numbered n (omega arith) short in
          let apart = id_text-apart engine.next n (omega arith) short in
          free_from (with_created engine name spec image) (id_text n)
          (find-push id_of row (id_text engine.next) (id_text n) refl engine.containers no_container ∙ rw apart (free_container engine (id_text n) later))
          (free_network engine (id_text n) later);
    }

-- ---- networks

pub keeps_made : (engine : Engine) (spec : NetworkSpec) → engine.next < 2 ^ 64 → IsKept engine → IsKept (with_network engine spec)
keeps_made engine spec fits kept =
    let row : NetRow = record { id = id_text engine.next; name = spec.name; labels = spec.labels } in
    let free = next_is_free engine fits kept in
    let no_network = free_network engine (id_text engine.next) free in
    let at_push = λ (i : List ℕ). find-push network_id_of row (id_text engine.next) i refl engine.networks no_network in
    let there : (i : List ℕ) → is_some (network_at engine i) ≡ true → is_some (network_at (with_network engine spec) i) ≡ true
    = λ i was. rw (at_push i) (by_cases (bytes_eq (id_text engine.next) i) (λ e. rw e refl) (λ e. rw e was)) in record {
      sound = record {
        container_ids = kept.sound.container_ids;
        container_names = kept.sound.container_names;
        network_ids = distinct-push network_id_of row engine.networks kept.sound.network_ids (id_apart network_id_of (id_text engine.next) engine.networks no_network);
        volume_names = kept.sound.volume_names;
        image_names = kept.sound.image_names;
        attached = all-weaker (is_attached engine) (is_attached (with_network engine spec))
            (λ r all. all-weaker (λ i. is_some (network_at engine i)) (λ i. is_some (network_at (with_network engine spec) i)) there r.networks all)
            engine.containers kept.sound.attached;
      };
      numbered = λ n above short.
          let later = kept.numbered n (omega arith) short in
          let apart = id_text-apart engine.next n (omega arith) short in
          free_from (with_network engine spec) (id_text n)
          (free_container engine (id_text n) later)
          (at_push (id_text n) ∙ rw apart (free_network engine (id_text n) later));
    }

pub keeps_network_removed : (engine : Engine) (id : List ℕ) → network_in_use engine id ≡ false → IsKept engine → IsKept (without_network engine id)
keeps_network_removed engine id unused kept =
    let others = λ (row : NetRow). not (bytes_eq row.id id) in
    let there : (i : List ℕ) → bytes_eq id i ≡ false → is_some (network_at engine i) ≡ true → is_some (network_at (without_network engine id) i) ≡ true
    = λ i apart was. rw (find-filter network_id_of id i engine.networks) (rw apart was) in record {
      sound = record {
        container_ids = kept.sound.container_ids;
        container_names = kept.sound.container_names;
        network_ids = distinct-filter network_id_of others engine.networks kept.sound.network_ids;
        volume_names = kept.sound.volume_names;
        image_names = kept.sound.image_names;
        attached = all-from_among (is_attached (without_network engine id)) engine.containers (λ row among.
            let off = any-among (is_on id) engine.containers row unused among in
            let on = all-among (is_attached engine) engine.containers row kept.sound.attached among in
            all-from_among (λ i. is_some (network_at (without_network engine id) i)) row.networks (λ i named.
            there i (any-among (bytes_eq id) row.networks i off named)
            (all-among (λ i. is_some (network_at engine i)) row.networks i on named)));
      };
      numbered = λ n above short.
          let free = kept.numbered n above short in
          free_from (without_network engine id) (id_text n)
          (free_container engine (id_text n) free)
          (missed-filter (λ row. bytes_eq row.id (id_text n)) others engine.networks (free_network engine (id_text n) free));
    }

-- ---- volumes and images

pub keeps_volumes : (engine : Engine) (volumes : List (List ℕ)) → IsDistinct bytes_eq volumes → IsKept engine → IsKept (record engine { volumes = volumes })
keeps_volumes engine volumes distinct kept = record {
  sound = record {
    container_ids = kept.sound.container_ids;
    container_names = kept.sound.container_names;
    network_ids = kept.sound.network_ids;
    volume_names = distinct;
    image_names = kept.sound.image_names;
    attached = kept.sound.attached;
  };
  numbered = kept.numbered;
}

pub keeps_volume_made : (engine : Engine) (name : List ℕ) → IsKept engine → IsKept (with_volume engine name)
keeps_volume_made engine name kept =
    keeps_volumes engine (if has_volume engine name then engine.volumes else engine.volumes ++ name ∷ [])
    (cond_both (has_volume engine name) engine.volumes (engine.volumes ++ name ∷ []) (λ volumes. IsDistinct bytes_eq volumes)
    (λ _. kept.sound.volume_names)
    (λ absent. distinct-texts_push name engine.volumes kept.sound.volume_names absent))
    kept

pub keeps_volume_removed : (engine : Engine) (name : List ℕ) → IsKept engine → IsKept (without_volume engine name)
keeps_volume_removed engine name kept =
    keeps_volumes engine (filter (λ other. not (bytes_eq name other)) engine.volumes)
    (distinct-texts_filter (λ other. not (bytes_eq name other)) engine.volumes kept.sound.volume_names) kept

pub keeps_pulled : (engine : Engine) (name id : List ℕ) → IsKept engine → IsKept (record engine { images = with_image engine.images name id })
keeps_pulled engine name id kept = record {
  sound = record {
    container_ids = kept.sound.container_ids;
    container_names = kept.sound.container_names;
    network_ids = kept.sound.network_ids;
    volume_names = kept.sound.volume_names;
    image_names = distinct-with_image name id engine.images kept.sound.image_names;
    attached = kept.sound.attached;
  };
  numbered = kept.numbered;
}
