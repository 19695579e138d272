-- An Engine that can be held from its beginning is sound, and the ids that it will give are free.
use Rattle.std.proofs.Common.{◌≡◌, ℕ, zero, suc, ◌+◌, ◌-◌, ◌/◌, ◌%◌, ◌≤◌, true, false, not, ◌&&◌, ◌==◌, List, [], ◌∷◌, map, length, replicate, refl, ◌∙◌, subst, arith}
use Rattle.std.specs.Prelude.{find, is_none}
use Rattle.std.specs.Fmt.{digit_glyph, digits, digits_onto}
use Rattle.std.specs.List.{list_all, list_any, IsDistinct, AllByRecursion}
use Rattle.std.specs.Str.{bytes_eq}
use Rattle.std.proofs.lemmas.Bool.{and_parts, and_from, or_parts, not-true}
use Rattle.std.proofs.lemmas.List.{map-id, length-append, length-replicate}
use Rattle.std.proofs.lemmas.Map.Keys.{IsDistinct-cons}
use Rattle.engine_types.specs.declared.ContainerRow.{ContainerRow}
use Rattle.engine_types.specs.declared.Engine.{Engine}
use Rattle.engine_types.specs.declared.ImageRow.{ImageRow}
use Rattle.engine_types.specs.declared.NetRow.{NetRow}
use Rattle.run_model.specs.EngineRules.{container_at, network_at}
use Rattle.engine_holding.specs.Holding.{are_apart, are_attached, are_foreign, are_told_apart, can_be_held, is_foreign}
use Rattle.memory_engine.specs.Ids.{id_text}
use Rattle.memory_engine.specs.Keeping.{IsKept}
use Rattle.memory_engine.proofs.Texts.{by_cases, same_text}

-- there are at most as many digits as there are steps
digits_onto_within : (k n : ℕ) (acc : List ℕ) → length (digits_onto k 16 false n acc) ≤ k + length acc
digits_onto_within zero n acc = omega arith
digits_onto_within (suc k) n acc = by_cases (n / 16 == 0)
    (λ e. rw e (omega arith))
    (λ e. rw e (let later = digits_onto_within k (n / 16) (digit_glyph false (n % 16) ∷ acc) in omega (arith, later)))

digits_within : (n : ℕ) → length (digits 16 false n) ≤ 64
unfolding digits
digits_within n = digits_onto_within 64 n []

-- each id that the Engine gives has 64 digits
long_id : (n : ℕ) → length (id_text n) ≡ 64
unfolding id_text
long_id n =
    let within = digits_within n in
    let zeros : ℕ = 64 - length (digits 16 false n) in
    let padding : length (replicate {A = ℕ} zeros 48) ≡ zeros = length-replicate {A = ℕ} zeros 48 in
    length-append (replicate {A = ℕ} zeros 48) (digits 16 false n) ∙ omega (arith, within, padding)

module _ {X : Type 0} (key : X → List ℕ) where
  others_apart : (x : X) (xs : List X) → list_any (λ y. bytes_eq (key x) (key y)) xs ≡ false → AllByRecursion (λ k. bytes_eq (key x) k ≡ false) (map key xs)
  others_apart x [] none = tt
  others_apart x (y ∷ ys) none =
      let parts = or_parts (bytes_eq (key x) (key y)) (list_any (λ y. bytes_eq (key x) (key y)) ys) none in
      (parts.0, others_apart x ys parts.1)

  -- keys that tell all rows apart are distinct
  apart_distinct : (xs : List X) → are_apart key xs ≡ true → IsDistinct bytes_eq (map key xs)
  unfolding IsDistinct
  apart_distinct [] apart = tt
  apart_distinct (x ∷ xs) apart =
      let parts = and_parts (not (list_any (λ y. bytes_eq (key x) (key y)) xs)) (are_apart key xs) apart in
      IsDistinct-cons bytes_eq (key x) (map key xs) (others_apart x xs (not-true _ parts.0)) (apart_distinct xs parts.1)

  -- no row has a key of another length
  none_found : (id : List ℕ) → length id ≡ 64 → (xs : List X) → list_all (λ x. is_foreign (key x)) xs ≡ true → is_none (find (λ x. bytes_eq (key x) id) xs) ≡ true
  none_found id long [] foreign = refl
  none_found id long (x ∷ xs) foreign =
      let parts = and_parts (is_foreign (key x)) (list_all (λ x. is_foreign (key x)) xs) foreign in
      by_cases (bytes_eq (key x) id)
      (λ same. let here : is_foreign id ≡ true = subst (λ k. is_foreign k ≡ true) (same_text (key x) id same) parts.0 in
      let clash : not (length id == 64) ≡ true = here in absurd (cc (rw long at clash)))
      (λ other. rw other (none_found id long xs parts.1))

-- an Engine that can be held keeps what an Engine in memory keeps
pub holds : (engine : Engine) → can_be_held engine ≡ true → IsKept engine
holds engine can =
    let parts = and_parts (are_told_apart engine && are_attached engine) (are_foreign engine) can in
    let first = and_parts (are_told_apart engine) (are_attached engine) parts.0 in
    let images = and_parts _ (are_apart (λ row. row.name) engine.images) first.0 in
    let volumes = and_parts _ (are_apart (λ name. name) engine.volumes) images.0 in
    let networks = and_parts _ (are_apart (λ row. row.id) engine.networks) volumes.0 in
    let containers = and_parts (are_apart (λ row. row.id) engine.containers) (are_apart (λ row. row.name) engine.containers) networks.0 in
    let foreign = and_parts (list_all (λ row. is_foreign row.id) engine.containers) (list_all (λ row. is_foreign row.id) engine.networks) parts.1 in record {
      sound = record {
        container_ids = apart_distinct (λ (row : ContainerRow). row.id) engine.containers containers.0;
        container_names = apart_distinct (λ (row : ContainerRow). row.name) engine.containers containers.1;
        network_ids = apart_distinct (λ (row : NetRow). row.id) engine.networks networks.1;
        volume_names = rw map-id at (apart_distinct (λ (name : List ℕ). name) engine.volumes volumes.1);
        image_names = apart_distinct (λ (row : ImageRow). row.name) engine.images images.1;
        attached = first.1;
      };
      numbered = λ n above short.
          let long = long_id n in
          and_from (is_none (container_at engine (id_text n))) (is_none (network_at engine (id_text n)))
          (none_found (λ (row : ContainerRow). row.id) (id_text n) long engine.containers foreign.0)
          (none_found (λ (row : NetRow). row.id) (id_text n) long engine.networks foreign.1);
    }
