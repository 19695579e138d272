-- A plan of `up` leaves kept containers alone.
use Rattle.std.proofs.Common.{◌≡◌, ℕ, Bool, true, false, ◌&&◌, ◌||◌, List, [], ◌∷◌, map, Option, Some, None, slice_get, refl, sym, ap, ◌∙◌, subst, inl, inr}
use Rattle.std.proofs.lemmas.Slice.Eq.{bytes_eq-Decides}
use Rattle.std.specs.List.{AllByRecursion, IsDistinct, list_any}
use Rattle.std.specs.Option.{option_map_or}
use Rattle.std.specs.Prelude.{filter, if◌then◌else◌}
use Rattle.std.specs.Str.{bytes_eq}
use Rattle.tree_base.specs.declared.Var.{Var}
use Rattle.engine_types.specs.declared.ActionKind.TheVariants.{CreateSlot}
use Rattle.engine_types.specs.declared.Declared.{Declared}
use Rattle.engine_types.specs.declared.DeclaredService.{DeclaredService}
use Rattle.engine_types.specs.declared.Listed.{Listed}
use Rattle.engine_types.specs.declared.Seen.{Seen}
use Rattle.engine_types.specs.declared.Slot.{Slot}
use Rattle.run_model.specs.EngineRules.{Among, is_of_project}
use Rattle.run_model.specs.Labels.{agrees, has_declared_service, names_service}
use Rattle.run_model.specs.Observation.{is_up}
use Rattle.run_model.specs.Plans.{Basis, HasServices, LeavesKept, agrees_seen, is_kept, is_removed, is_wanted, kept, kept_of, seen_image, slot_at}
use Rattle.tree_base.specs.ByteOrder.{is_before, least_by}
use Rattle.run_model.proofs.DistinctLists.{from_filter, from_place}
use Rattle.run_model.proofs.PlanLaws.{both, some_from}

module _ {X : Type 0} where
  -- the least element is one of the list
  pub from_least : (key : X → List ℕ) (xs : List X) (y : X) → least_by key xs ≡ Some y → Among xs y
  from_least key [] y e = absurd (cc e)
  from_least key (x ∷ xs) y e = at (least_by key xs) refl (from_least key xs y) e
    where
      chosen : (z : X) (t : Bool) → (least_by key xs ≡ Some z) → (least_by key xs ≡ Some y → Among xs y) → (if t then Some z else Some x) ≡ Some y → Among (x ∷ xs) y
      chosen z true h rest f = inr (rest (h ∙ f))
      chosen z false h rest f = let same : x ≡ y = cc f in inl (sym same)

      at : (o : Option X) → least_by key xs ≡ o → (least_by key xs ≡ Some y → Among xs y) → least_by key (x ∷ xs) ≡ Some y → Among (x ∷ xs) y
      at None h rest f = let same : Some x ≡ Some y = rw h at f in let one : x ≡ y = cc same in inl (sym one)
      at (Some z) h rest f = let g : (if is_before (key z) (key x) then Some z else Some x) ≡ Some y = rw h at f in chosen z (is_before (key z) (key x)) h rest g

  -- where some element passes, one does
  pub any_from_list : (test : X → Bool) (xs : List X) → list_any test xs ≡ true → (x : X) × Among xs x × (test x ≡ true)
  any_from_list test [] e = absurd (cc e)
  any_from_list test (x ∷ xs) e = at (test x) refl (any_from_list test xs) e
    where
      at : (t : Bool) → test x ≡ t → (list_any test xs ≡ true → (y : X) × Among xs y × (test y ≡ true)) → (t || list_any test xs) ≡ true
          → (y : X) × Among (x ∷ xs) y × (test y ≡ true)
      at true h rest f = (x, inl refl, h)
      at false h rest f = let r = rest f in (r.0, inr r.1, r.2)

  pub any_of_list : (test : X → Bool) (xs : List X) (x : X) → Among xs x → test x ≡ true → list_any test xs ≡ true
  any_of_list test [] x m e = absurd m
  any_of_list test (y ∷ ys) x (inl h) e = let t : test y ≡ true = subst (λ (z : X). test z ≡ true) h e in rw t refl
  any_of_list test (y ∷ ys) x (inr m) e = at (test y) (any_of_list test ys x m e)
    where
      at : (t : Bool) → list_any test ys ≡ true → (t || list_any test ys) ≡ true
      at true h = refl
      at false h = h

  all_at : {Y : Type 0} (P : Y → Type 0) (f : X → Y) (xs : List X) (x : X) → AllByRecursion P (map f xs) → Among xs x → P (f x)
  all_at P f [] x a m = absurd m
  all_at P f (y ∷ ys) x a (inl e) = subst (λ (z : X). P (f z)) (sym e) a.0
  all_at P f (y ∷ ys) x a (inr m) = all_at P f ys x a.1 m

-- of containers whose ids differ, two with one id are one
same_row : (xs : List Listed) (a b : Listed) → IsDistinct bytes_eq (map (λ (row : Listed). row.id) xs) → Among xs a → Among xs b → bytes_eq a.id b.id ≡ true → a ≡ b
unfolding IsDistinct
same_row [] a b d m n e = absurd m
same_row (x ∷ xs) a b d (inl h) (inl k) e = h ∙ sym k
same_row (x ∷ xs) a b d (inl h) (inr n) e =
    let apart : bytes_eq x.id b.id ≡ false = all_at (λ (y : List ℕ). bytes_eq x.id y ≡ false) (λ (row : Listed). row.id) xs b d.0 n in
    let bad : false ≡ true = sym apart ∙ subst (λ (row : Listed). bytes_eq row.id b.id ≡ true) h e in absurd (cc bad)
same_row (x ∷ xs) a b d (inr m) (inl k) e =
    let apart : bytes_eq x.id a.id ≡ false = all_at (λ (y : List ℕ). bytes_eq x.id y ≡ false) (λ (row : Listed). row.id) xs a d.0 m in
    let one : a.id ≡ b.id = (bytes_eq-Decides a.id b.id).0 e in
    let other : x.id ≡ a.id = ap (λ (row : Listed). row.id) (sym k) ∙ sym one in
    let bad : false ≡ true = sym apart ∙ (bytes_eq-Decides x.id a.id).1 other in absurd (cc bad)
same_row (x ∷ xs) a b d (inr m) (inr n) e = same_row xs a b d.1 m n e

-- a container that agrees with a slot names its service
pub agrees_names : (declared : Declared) (seen : Seen) (slot : Slot) (row : Listed) → agrees_seen declared seen slot row ≡ true → names_service slot.service row.labels ≡ true
agrees_names declared seen slot row e = at (seen_image seen slot) e
  where
    at : (o : Option (List ℕ)) → agrees declared.project slot o row.labels row.image_id row.state ≡ true → names_service slot.service row.labels ≡ true
    at None h = absurd (cc h)
    at (Some image) h = (both _ _ (both _ _ (both _ _ (both _ _ (both _ _ h).0).0).0).1).0

-- labels that name a slot's service name a declared one
pub declared_named : (declared : Declared) (slot : Slot) (labels : List Var) → HasServices declared → Among declared.slots slot → names_service slot.service labels ≡ true
    → has_declared_service declared labels ≡ true
declared_named declared slot labels owned m n =
    let s = any_from_list (λ (service : DeclaredService). bytes_eq service.key slot.service) declared.services (owned slot m) in
    let service : DeclaredService = s.0 in
    let same : service.key ≡ slot.service = (bytes_eq-Decides service.key slot.service).0 s.2 in
    any_of_list (λ (x : DeclaredService). names_service x.key labels) declared.services service s.1
    (subst (λ (key : List ℕ). names_service key labels ≡ true) (sym same) n)

-- a kept container names a declared service
kept_names : (basis : Basis) (c : ℕ) (row : Listed) → HasServices basis.declared → IsDistinct bytes_eq (map (λ (r : Listed). r.id) basis.seen.containers) → slice_get basis.seen.containers c ≡ Some row
    → is_kept basis.declared basis.seen row ≡ true → has_declared_service basis.declared row.labels ≡ true
kept_names basis c row owned d e k =
    let s = any_from_list (λ (slot : Slot). option_map_or (λ (other : Listed). bytes_eq other.id row.id) (kept_of basis.declared basis.seen slot) false) basis.declared.slots k in
    let slot : Slot = s.0 in
    let o = some_from (λ (other : Listed). bytes_eq other.id row.id) (kept_of basis.declared basis.seen slot) s.2 in
    let m = from_filter (agrees_seen basis.declared basis.seen slot) basis.seen.containers o.0
    (from_least (λ (r : Listed). r.id) (filter (agrees_seen basis.declared basis.seen slot) basis.seen.containers) o.0 o.1) in
    let same = same_row basis.seen.containers o.0 row d m.1 (from_place basis.seen.containers c row e) o.2 in
    declared_named basis.declared slot row.labels owned s.1
    (agrees_names basis.declared basis.seen slot row (subst (λ (r : Listed). agrees_seen basis.declared basis.seen slot r ≡ true) same m.0))

not_removed : (basis : Basis) (c : ℕ) (row : Listed) → is_up basis.aim.purpose ≡ true → HasServices basis.declared → IsDistinct bytes_eq (map (λ (r : Listed). r.id) basis.seen.containers)
    → slice_get basis.seen.containers c ≡ Some row → is_kept basis.declared basis.seen row ≡ true → is_removed basis row ≡ false
not_removed basis c row u owned d e k = rw (kept_names basis c row owned d e k, u, k) (at (is_of_project basis.declared.project row.labels))
  where
    at : (t : Bool) → (t && false) ≡ false
    at true = refl
    at false = refl

pub leaves_kept : (basis : Basis) → is_up basis.aim.purpose ≡ true → HasServices basis.declared → IsDistinct bytes_eq (map (λ (row : Listed). row.id) basis.seen.containers) → LeavesKept basis
leaves_kept basis u owned d = record {
  stops = λ c row e k. rw e (not_removed basis c row u owned d e k);
  removes = λ c row e k. rw e (not_removed basis c row u owned d e k);
  creates = λ s row e. creates s row e (slot_at basis.declared s) refl;
}
  where
    creates : (s : ℕ) (row : Listed) → kept basis.declared basis.seen s ≡ Some row → (o : Option Slot) → slot_at basis.declared s ≡ o → is_wanted basis (CreateSlot s) ≡ false
    creates s row e None h = rw (u, h) refl
    creates s row e (Some slot) h = let k : kept_of basis.declared basis.seen slot ≡ Some row = rw h at e in rw (u, h, k) refl
