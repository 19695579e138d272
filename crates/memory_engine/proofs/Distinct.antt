-- Keys that differ, after a row is changed, taken out or added.
use Rattle.std.proofs.Common.{◌≡◌, ℕ, Bool, false, List, [], ◌∷◌, ◌++◌, Some, map, refl, sym, ◌∙◌, subst, ⊎_elim}
use Rattle.std.specs.Prelude.{filter, find}
use Rattle.std.specs.List.{list_any, IsDistinct, AllByRecursion}
use Rattle.std.specs.Str.{bytes_eq}
use Rattle.std.specs.Cmp.Lexicographic.{nat_list_eq_equiv}
use Rattle.std.proofs.lemmas.List.{map-append, map-id}
use Rattle.std.proofs.lemmas.Map.Keys.{IsDistinct-push, IsDistinct-head, IsDistinct-tail, IsDistinct-cons}
use Rattle.engine_types.specs.declared.ImageRow.{ImageRow}
use Rattle.run_model.specs.EngineRules.{Among}
use Rattle.memory_engine.specs.Serving.{with_first, with_image}
use Rattle.memory_engine.proofs.Texts.{by_cases, same_text, bytes_eq_itself}
use Rattle.memory_engine.proofs.AnyAll.{any-map}

module _ {X : Type 0} (key : X → List ℕ) where
  -- a change that keeps the key keeps all keys
  pub keys-with_first : (p : X → Bool) (f : X → X) → ((x : X) → key (f x) ≡ key x) → (xs : List X) → map key (with_first p f xs) ≡ map key xs
  keys-with_first p f keeps [] = refl
  keys-with_first p f keeps (x ∷ xs) = by_cases (p x)
      (λ e. rw (e, keeps x) refl)
      (λ e. rw (e, keys-with_first p f keeps xs) refl)

  AllByRecursion-filter : (P : List ℕ → Type 0) (q : X → Bool) (xs : List X) → AllByRecursion P (map key xs) → AllByRecursion P (map key (filter q xs))
  AllByRecursion-filter P q [] all = tt
  AllByRecursion-filter P q (x ∷ xs) all = by_cases (q x)
      (λ e. rw e (all.0, AllByRecursion-filter P q xs all.1))
      (λ e. rw e (AllByRecursion-filter P q xs all.1))

  -- fewer keys differ too
  pub distinct-filter : (q : X → Bool) (xs : List X) → IsDistinct bytes_eq (map key xs) → IsDistinct bytes_eq (map key (filter q xs))
  distinct-filter q [] distinct = distinct
  distinct-filter q (x ∷ xs) distinct =
      let first = IsDistinct-head bytes_eq (key x) (map key xs) distinct in
      let later = distinct-filter q xs (IsDistinct-tail bytes_eq (key x) (map key xs) distinct) in
      by_cases (q x)
      (λ e. rw e (IsDistinct-cons bytes_eq (key x) (map key (filter q xs)) (AllByRecursion-filter (λ y. bytes_eq (key x) y ≡ false) q xs first) later))
      (λ e. rw e later)

  -- one more key, which none has
  pub distinct-push : (y : X) (xs : List X) → IsDistinct bytes_eq (map key xs) → list_any (λ x. bytes_eq (key y) (key x)) xs ≡ false
      → IsDistinct bytes_eq (map key (xs ++ y ∷ []))
  distinct-push y xs distinct apart =
      rw (map-append key xs (y ∷ [])) (IsDistinct-push nat_list_eq_equiv (map key xs) (key y) distinct (any-map (bytes_eq (key y)) key xs ∙ apart))

  pub AllByRecursion-among : (P : List ℕ → Type 0) (xs : List X) (x : X) → AllByRecursion P (map key xs) → Among xs x → P (key x)
  AllByRecursion-among P [] x all h = absurd h
  AllByRecursion-among P (y ∷ ys) x all h = ⊎_elim
      (λ same. subst (λ z. P (key z)) (sym same) all.0)
      (λ later. AllByRecursion-among P ys x all.1 later) h

  -- where keys differ, a look-up by the key of a row finds that row
  pub find-among : (xs : List X) (x : X) → IsDistinct bytes_eq (map key xs) → Among xs x → find (λ y. bytes_eq (key y) (key x)) xs ≡ Some x
  find-among [] x distinct h = absurd h
  find-among (y ∷ ys) x distinct h =
      let first = IsDistinct-head bytes_eq (key y) (map key ys) distinct in
      let rest = IsDistinct-tail bytes_eq (key y) (map key ys) distinct in
      ⊎_elim
      (λ same. rw same (rw (bytes_eq_itself (key y)) refl))
      (λ later. let apart = AllByRecursion-among (λ z. bytes_eq (key y) z ≡ false) ys x first later in
      rw apart (find-among ys x rest later)) h

-- names stay apart where one of them gets an id
AllByRecursion-with_image : (P : List ℕ → Type 0) (name id : List ℕ) (rows : List ImageRow) → P name
    → AllByRecursion P (map (λ row. row.name) rows) → AllByRecursion P (map (λ row. row.name) (with_image rows name id))
AllByRecursion-with_image P name id [] here all = (here, tt)
AllByRecursion-with_image P name id (row ∷ rows) here all = by_cases (bytes_eq row.name name)
    (λ e. rw e (here, all.1))
    (λ e. rw e (all.0, AllByRecursion-with_image P name id rows here all.1))

pub distinct-with_image : (name id : List ℕ) (rows : List ImageRow) → IsDistinct bytes_eq (map (λ row. row.name) rows)
    → IsDistinct bytes_eq (map (λ row. row.name) (with_image rows name id))
distinct-with_image name id [] distinct = IsDistinct-cons bytes_eq name [] tt distinct
distinct-with_image name id (row ∷ rows) distinct =
    let names = map (λ (r : ImageRow). r.name) rows in
    let first = IsDistinct-head bytes_eq row.name names distinct in
    let rest = IsDistinct-tail bytes_eq row.name names distinct in
    by_cases (bytes_eq row.name name)
    (λ e. let same = same_text row.name name e in
    rw e (IsDistinct-cons bytes_eq name names (subst (λ n. AllByRecursion (λ y. bytes_eq n y ≡ false) names) same first) rest))
    (λ e. rw e (IsDistinct-cons bytes_eq row.name (map (λ r. r.name) (with_image rows name id))
    (AllByRecursion-with_image (λ y. bytes_eq row.name y ≡ false) name id rows e first)
    (distinct-with_image name id rows rest)))

-- texts that differ, where some are taken out or one is added
pub distinct-texts_filter : (q : List ℕ → Bool) (texts : List (List ℕ)) → IsDistinct bytes_eq texts → IsDistinct bytes_eq (filter q texts)
distinct-texts_filter q texts distinct =
    rw map-id at (distinct-filter (λ t. t) q texts (rw (map-id texts) distinct))

pub distinct-texts_push : (name : List ℕ) (texts : List (List ℕ)) → IsDistinct bytes_eq texts → list_any (bytes_eq name) texts ≡ false
    → IsDistinct bytes_eq (texts ++ name ∷ [])
distinct-texts_push name texts distinct apart = IsDistinct-push nat_list_eq_equiv texts name distinct apart
