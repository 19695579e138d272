-- The plan as it is listed is the plan as a set.
use Rattle.std.proofs.Common.{◌≡◌, ◌⊎◌, ℕ, zero, suc, ◌<◌, Bool, true, false, not, ◌&&◌, List, [], ◌∷◌, ◌++◌, map, Option, Some, None, slice_get, refl, sym, ap, ◌∙◌, subst, inl, inr, arith}
use Rattle.std.specs.Option.{option_map_or}
use Rattle.std.specs.Prelude.{flat_map}
use Rattle.engine_types.specs.declared.Action.{Action}
use Rattle.engine_types.specs.declared.ActionKind.{ActionKind}
use Rattle.engine_types.specs.declared.ActionKind.TheVariants.{MakeVolume, MakeNetwork, StopContainer, RemoveContainer, CreateSlot, ConnectSlot, StopKept, StartSlot, RemoveNetwork, RemoveVolume}
use Rattle.engine_types.specs.declared.Attach.{Attach}
use Rattle.engine_types.specs.declared.Listed.{Listed}
use Rattle.engine_types.specs.declared.Slot.{Slot}
use Rattle.run_model.specs.EngineRules.{Among}
use Rattle.run_model.specs.Observation.{is_up}
use Rattle.run_model.specs.Plans.{Basis, IsPlanOf, is_needed_by, is_removed, is_restarted, is_unattached, is_unstarted, is_wanted, kind_of, needed_by, needs_of, places_by_id, planned, planned_kinds, possible, slot_at}
use Rattle.run_model.specs.Numbers.{places}
use Rattle.run_model.proofs.DistinctLists.{Distinct, among_by_key, among_filter, among_flat_map, among_left, among_map, among_places, among_right, at_place, distinct_append, distinct_by_key, distinct_filter, distinct_flat_map, distinct_map, distinct_places, from_append, from_filter, from_flat_map, from_map, from_place, same_place}

module _ {X : Type 0} where
  -- a test of an option that is true is of something
  pub some_from : (f : X → Bool) (o : Option X) → option_map_or f o false ≡ true → (x : X) × (o ≡ Some x) × (f x ≡ true)
  some_from f None e = absurd (cc e)
  some_from f (Some x) e = (x, refl, e)

-- the kinds of listed actions
pub kind_of_listed : (ns : ActionKind → List ℕ) (ks : List ActionKind) (a : ℕ)
    → kind_of (map (λ (kind : ActionKind). let action : Action = record { kind = kind; needs = ns kind } in action) ks) a ≡ slice_get ks a
kind_of_listed ns [] a = refl
kind_of_listed ns (k ∷ ks) zero = refl
kind_of_listed ns (k ∷ ks) (suc a) = kind_of_listed ns ks a

pub needs_of_listed : (ns : ActionKind → List ℕ) (ks : List ActionKind) (a : ℕ) (kind : ActionKind) → slice_get ks a ≡ Some kind
    → needs_of (map (λ (kind : ActionKind). let action : Action = record { kind = kind; needs = ns kind } in action) ks) a ≡ ns kind
needs_of_listed ns [] a kind e = absurd (cc e)
needs_of_listed ns (k ∷ ks) zero kind e = let same : k ≡ kind = cc e in ap ns same
needs_of_listed ns (k ∷ ks) (suc a) kind e = needs_of_listed ns ks a kind e

pub both : (x y : Bool) → (x && y) ≡ true → (x ≡ true) × (y ≡ true)
both true true e = (refl, refl)
both true false e = absurd (cc e)
both false y e = absurd (cc e)

-- the row of the table of actions that a kind stands in
abbrev row : ActionKind → ℕ
row (MakeVolume v) = 0
row (MakeNetwork n) = 1
row (StopContainer c) = 2
row (RemoveContainer c) = 2
row (CreateSlot s) = 3
row (ConnectSlot s k) = 4
row (StopKept s) = 5
row (StartSlot s) = 6
row (RemoveNetwork n) = 7
row (RemoveVolume v) = 8

-- the networks that a slot attaches to
abbrev attaches : Basis → ℕ → List Attach
attaches basis s = option_map_or (λ slot. slot.attach) (slot_at basis.declared s) []

-- the rows of the table, each as it is listed
abbrev volumes : Basis → List ActionKind
volumes basis = map (λ v. MakeVolume v) (places basis.declared.volumes)

abbrev networks : Basis → List ActionKind
networks basis = map (λ n. MakeNetwork n) (places basis.declared.networks)

abbrev ends_of : ℕ → List ActionKind
ends_of c = StopContainer c ∷ RemoveContainer c ∷ []

abbrev ends : Basis → List ActionKind
ends basis = flat_map ends_of (places_by_id basis.seen.containers)

abbrev makes : Basis → List ActionKind
makes basis = map (λ s. CreateSlot s) (places basis.declared.slots)

abbrev joins_of : Basis → ℕ → List ActionKind
joins_of basis s = map (λ k. ConnectSlot s k) (places (attaches basis s))

abbrev joins : Basis → List ActionKind
joins basis = flat_map (joins_of basis) (places basis.declared.slots)

abbrev restarts : Basis → List ActionKind
restarts basis = map (λ s. StopKept s) (places basis.declared.slots)

abbrev starts : Basis → List ActionKind
starts basis = map (λ s. StartSlot s) (places basis.declared.slots)

abbrev network_ends : Basis → List ActionKind
network_ends basis = map (λ n. RemoveNetwork n) (places basis.declared.networks)

abbrev volume_ends : Basis → List ActionKind
volume_ends basis = map (λ v. RemoveVolume v) (places basis.declared.volumes)

-- the lists of the first rows
abbrev upto1 : Basis → List ActionKind
upto1 basis = volumes basis ++ networks basis

abbrev upto2 : Basis → List ActionKind
upto2 basis = upto1 basis ++ ends basis

abbrev upto3 : Basis → List ActionKind
upto3 basis = upto2 basis ++ makes basis

abbrev upto4 : Basis → List ActionKind
upto4 basis = upto3 basis ++ joins basis

abbrev upto5 : Basis → List ActionKind
upto5 basis = upto4 basis ++ restarts basis

abbrev upto6 : Basis → List ActionKind
upto6 basis = upto5 basis ++ starts basis

abbrev upto7 : Basis → List ActionKind
upto7 basis = upto6 basis ++ network_ends basis

abbrev upto8 : Basis → List ActionKind
upto8 basis = upto7 basis ++ volume_ends basis

are_rows : (basis : Basis) → possible basis ≡ upto8 basis
are_rows basis = refl

distinct_ends : (c : ℕ) → Distinct (ends_of c)
distinct_ends c = (λ m. apart m, ((λ m. m), tt))
  where
    apart : Among (RemoveContainer c ∷ []) (StopContainer c) → ⊥
    apart (inl e) = cc e
    apart (inr m) = m

apart_ends : (c d : ℕ) (kind : ActionKind) → Among (ends_of c) kind → Among (ends_of d) kind → c ≡ d
apart_ends c d kind (inl e) (inl f) = let same : StopContainer c ≡ StopContainer d = sym e ∙ f in cc same
apart_ends c d kind (inl e) (inr (inl f)) = let bad : StopContainer c ≡ RemoveContainer d = sym e ∙ f in absurd (cc bad)
apart_ends c d kind (inl e) (inr (inr m)) = absurd m
apart_ends c d kind (inr (inl e)) (inl f) = let bad : RemoveContainer c ≡ StopContainer d = sym e ∙ f in absurd (cc bad)
apart_ends c d kind (inr (inl e)) (inr (inl f)) = let same : RemoveContainer c ≡ RemoveContainer d = sym e ∙ f in cc same
apart_ends c d kind (inr (inl e)) (inr (inr m)) = absurd m
apart_ends c d kind (inr (inr m)) n = absurd m

row_ends : (c : ℕ) (kind : ActionKind) → Among (ends_of c) kind → row kind ≡ 2
row_ends c kind (inl e) = ap row e
row_ends c kind (inr (inl e)) = ap row e
row_ends c kind (inr (inr m)) = absurd m

module _ (basis : Basis) where
  distinct_joins : (s : ℕ) → Distinct (joins_of basis s)
  distinct_joins s = distinct_map (λ (k : ℕ). ConnectSlot s k) (places (attaches basis s)) (λ x y e. cc e) (distinct_places (attaches basis s))

  apart_joins : (s t : ℕ) (kind : ActionKind) → Among (joins_of basis s) kind → Among (joins_of basis t) kind → s ≡ t
  apart_joins s t kind m n =
      let p = from_map (λ (k : ℕ). ConnectSlot s k) (places (attaches basis s)) kind m in
      let q = from_map (λ (k : ℕ). ConnectSlot t k) (places (attaches basis t)) kind n in
      let same : ConnectSlot s p.0 ≡ ConnectSlot t q.0 = sym p.2 ∙ q.2 in cc same

  row_joins : (s : ℕ) (kind : ActionKind) → Among (joins_of basis s) kind → row kind ≡ 4
  row_joins s kind m = ap row (from_map (λ (k : ℕ). ConnectSlot s k) (places (attaches basis s)) kind m).2

module _ (basis : Basis) where
  in6 : (kind : ActionKind) → Among (upto6 basis) kind → Among (possible basis) kind
  in6 kind m = among_left (upto7 basis) (volume_ends basis) kind (among_left (upto6 basis) (network_ends basis) kind m)

  in4 : (kind : ActionKind) → Among (upto4 basis) kind → Among (possible basis) kind
  in4 kind m = in6 kind (among_left (upto5 basis) (starts basis) kind (among_left (upto4 basis) (restarts basis) kind m))

  in2 : (kind : ActionKind) → Among (upto2 basis) kind → Among (possible basis) kind
  in2 kind m = in4 kind (among_left (upto3 basis) (joins basis) kind (among_left (upto2 basis) (makes basis) kind m))

  abbrev id_at : ℕ → List ℕ
  id_at c = option_map_or (λ (r : Listed). r.id) (slice_get basis.seen.containers c) []

  among_ends : (c : ℕ) (r : Listed) (kind : ActionKind) → slice_get basis.seen.containers c ≡ Some r → Among (ends_of c) kind → Among (possible basis) kind
  among_ends c r kind e m = in2 kind (among_right (upto1 basis) (ends basis) kind (among_flat_map ends_of (places_by_id basis.seen.containers) c kind
      (among_by_key id_at (places basis.seen.containers) c (among_places basis.seen.containers c r e)) m))

  -- every action that is wanted is listed
  pub has_wanted : (kind : ActionKind) → is_wanted basis kind ≡ true → Among (possible basis) kind
  has_wanted (MakeVolume v) e =
      let r = some_from _ (slice_get basis.declared.volumes v) (both (is_up basis.aim.purpose) _ e).1 in
      in2 (MakeVolume v) (among_left (upto1 basis) (ends basis) (MakeVolume v) (among_left (volumes basis) (networks basis) (MakeVolume v)
      (among_map (λ (n : ℕ). MakeVolume n) (places basis.declared.volumes) v (among_places basis.declared.volumes v r.0 r.1))))
  has_wanted (MakeNetwork n) e =
      let r = some_from _ (slice_get basis.declared.networks n) (both (is_up basis.aim.purpose) _ e).1 in
      in2 (MakeNetwork n) (among_left (upto1 basis) (ends basis) (MakeNetwork n) (among_right (volumes basis) (networks basis) (MakeNetwork n)
      (among_map (λ (m : ℕ). MakeNetwork m) (places basis.declared.networks) n (among_places basis.declared.networks n r.0 r.1))))
  has_wanted (StopContainer c) e =
      let r = some_from (is_removed basis) (slice_get basis.seen.containers c) e in among_ends c r.0 (StopContainer c) r.1 (inl refl)
  has_wanted (RemoveContainer c) e =
      let r = some_from (is_removed basis) (slice_get basis.seen.containers c) e in among_ends c r.0 (RemoveContainer c) r.1 (inr (inl refl))
  has_wanted (CreateSlot s) e =
      let r = some_from _ (slot_at basis.declared s) (both (is_up basis.aim.purpose) _ e).1 in
      in4 (CreateSlot s) (among_left (upto3 basis) (joins basis) (CreateSlot s) (among_right (upto2 basis) (makes basis) (CreateSlot s)
      (among_map (λ (n : ℕ). CreateSlot n) (places basis.declared.slots) s (among_places basis.declared.slots s r.0 r.1))))
  has_wanted (ConnectSlot s k) e =
      let r = some_from (λ (slot : Slot). is_unattached basis slot k) (slot_at basis.declared s) (both (is_up basis.aim.purpose) _ e).1 in
      let slot : Slot = r.0 in
      let q = some_from _ (slice_get slot.attach k) r.2 in
      let here : attaches basis s ≡ slot.attach = ap (λ (o : Option Slot). option_map_or (λ (x : Slot). x.attach) o []) r.1 in
      let place : Among (places (attaches basis s)) k = subst (λ (xs : List Attach). Among (places xs) k) (sym here) (among_places slot.attach k q.0 q.1) in
      in4 (ConnectSlot s k) (among_right (upto3 basis) (joins basis) (ConnectSlot s k) (among_flat_map (joins_of basis) (places basis.declared.slots) s (ConnectSlot s k)
      (among_places basis.declared.slots s slot r.1) (among_map (λ (j : ℕ). ConnectSlot s j) (places (attaches basis s)) k place)))
  has_wanted (StopKept s) e =
      let r = some_from (is_restarted basis.declared basis.seen) (slot_at basis.declared s) (both (is_up basis.aim.purpose) _ e).1 in
      in6 (StopKept s) (among_left (upto5 basis) (starts basis) (StopKept s) (among_right (upto4 basis) (restarts basis) (StopKept s)
      (among_map (λ (n : ℕ). StopKept n) (places basis.declared.slots) s (among_places basis.declared.slots s r.0 r.1))))
  has_wanted (StartSlot s) e =
      let r = some_from (is_unstarted basis) (slot_at basis.declared s) (both (is_up basis.aim.purpose) _ e).1 in
      in6 (StartSlot s) (among_right (upto5 basis) (starts basis) (StartSlot s)
      (among_map (λ (n : ℕ). StartSlot n) (places basis.declared.slots) s (among_places basis.declared.slots s r.0 r.1)))
  has_wanted (RemoveNetwork n) e =
      let r = some_from _ (slice_get basis.declared.networks n) (both (not (is_up basis.aim.purpose)) _ e).1 in
      among_left (upto7 basis) (volume_ends basis) (RemoveNetwork n) (among_right (upto6 basis) (network_ends basis) (RemoveNetwork n)
      (among_map (λ (m : ℕ). RemoveNetwork m) (places basis.declared.networks) n (among_places basis.declared.networks n r.0 r.1)))
  has_wanted (RemoveVolume v) e =
      let r = some_from _ (slice_get basis.declared.volumes v) (both (not (is_up basis.aim.purpose) && basis.aim.volumes) _ e).1 in
      among_right (upto7 basis) (volume_ends basis) (RemoveVolume v)
      (among_map (λ (m : ℕ). RemoveVolume m) (places basis.declared.volumes) v (among_places basis.declared.volumes v r.0 r.1))

  -- a list of the rows below one
  record IsBelow (n : ℕ) (xs : List ActionKind) : Type 0 where
    distinct : Distinct xs
    rows : (kind : ActionKind) → Among xs kind → row kind < n

  joined : (n : ℕ) (xs ys : List ActionKind) → IsBelow n xs → Distinct ys → ((kind : ActionKind) → Among ys kind → row kind ≡ n) → IsBelow (suc n) (xs ++ ys)
  joined n xs ys below d rows = record {
    distinct = distinct_append xs ys below.distinct d (λ kind m k. let less = below.rows kind m in let same = rows kind k in omega (arith, less, same));
    rows = λ kind m. at kind (from_append xs ys kind m);
  }
    where
      at : (kind : ActionKind) → Among xs kind ⊎ Among ys kind → row kind < suc n
      at kind (inl m) = let less = below.rows kind m in omega (arith, less)
      at kind (inr m) = let same = rows kind m in omega (arith, same)

  -- no action is listed twice
  pub distinct_possible : Distinct (possible basis)
  distinct_possible =
      let at0 : IsBelow 1 (volumes basis) = record {
        distinct = distinct_map (λ (v : ℕ). MakeVolume v) (places basis.declared.volumes) (λ x y e. cc e) (distinct_places basis.declared.volumes);
        rows = λ kind m. let r = from_map (λ (v : ℕ). MakeVolume v) (places basis.declared.volumes) kind m in
            let same : row kind ≡ 0 = ap row r.2 in omega (arith, same);
      } in
      let at1 = joined 1 (volumes basis) (networks basis) at0
      (distinct_map (λ (v : ℕ). MakeNetwork v) (places basis.declared.networks) (λ x y e. cc e) (distinct_places basis.declared.networks))
      (λ kind m. ap row (from_map (λ (v : ℕ). MakeNetwork v) (places basis.declared.networks) kind m).2) in
      let at2 = joined 2 (upto1 basis) (ends basis) at1
      (distinct_flat_map ends_of (places_by_id basis.seen.containers) distinct_ends apart_ends (distinct_by_key id_at (places basis.seen.containers) (distinct_places basis.seen.containers)))
      (λ kind m. let r = from_flat_map ends_of (places_by_id basis.seen.containers) kind m in row_ends r.0 kind r.2) in
      let at3 = joined 3 (upto2 basis) (makes basis) at2
      (distinct_map (λ (v : ℕ). CreateSlot v) (places basis.declared.slots) (λ x y e. cc e) (distinct_places basis.declared.slots))
      (λ kind m. ap row (from_map (λ (v : ℕ). CreateSlot v) (places basis.declared.slots) kind m).2) in
      let at4 = joined 4 (upto3 basis) (joins basis) at3
      (distinct_flat_map (joins_of basis) (places basis.declared.slots) (distinct_joins basis) (apart_joins basis) (distinct_places basis.declared.slots))
      (λ kind m. let r = from_flat_map (joins_of basis) (places basis.declared.slots) kind m in row_joins basis r.0 kind r.2) in
      let at5 = joined 5 (upto4 basis) (restarts basis) at4
      (distinct_map (λ (v : ℕ). StopKept v) (places basis.declared.slots) (λ x y e. cc e) (distinct_places basis.declared.slots))
      (λ kind m. ap row (from_map (λ (v : ℕ). StopKept v) (places basis.declared.slots) kind m).2) in
      let at6 = joined 6 (upto5 basis) (starts basis) at5
      (distinct_map (λ (v : ℕ). StartSlot v) (places basis.declared.slots) (λ x y e. cc e) (distinct_places basis.declared.slots))
      (λ kind m. ap row (from_map (λ (v : ℕ). StartSlot v) (places basis.declared.slots) kind m).2) in
      let at7 = joined 7 (upto6 basis) (network_ends basis) at6
      (distinct_map (λ (v : ℕ). RemoveNetwork v) (places basis.declared.networks) (λ x y e. cc e) (distinct_places basis.declared.networks))
      (λ kind m. ap row (from_map (λ (v : ℕ). RemoveNetwork v) (places basis.declared.networks) kind m).2) in
      let at8 = joined 8 (upto7 basis) (volume_ends basis) at7
      (distinct_map (λ (v : ℕ). RemoveVolume v) (places basis.declared.volumes) (λ x y e. cc e) (distinct_places basis.declared.volumes))
      (λ kind m. ap row (from_map (λ (v : ℕ). RemoveVolume v) (places basis.declared.volumes) kind m).2) in
      at8.distinct

-- the listed plan has exactly the wanted actions, each once, with exactly their needs
pub planned_is_plan : (basis : Basis) → IsPlanOf basis (planned basis)
planned_is_plan basis = record { wanted = wanted; all = all; once = once; needs = λ a b kind other h k. (to a b kind other h k, from a b kind other h k) }
  where
    is_at : (a : ℕ) → kind_of (planned basis) a ≡ slice_get (planned_kinds basis) a
    is_at a = kind_of_listed (needed_by basis (planned_kinds basis)) (planned_kinds basis) a

    wanted : (a : ℕ) (kind : ActionKind) → kind_of (planned basis) a ≡ Some kind → is_wanted basis kind ≡ true
    wanted a kind h = (from_filter (is_wanted basis) (possible basis) kind (from_place (planned_kinds basis) a kind (sym (is_at a) ∙ h))).0

    all : (kind : ActionKind) → is_wanted basis kind ≡ true → (a : ℕ) × (kind_of (planned basis) a ≡ Some kind)
    all kind h = let r = at_place (planned_kinds basis) kind (among_filter (is_wanted basis) (possible basis) kind h (has_wanted basis kind h)) in (r.0, is_at r.0 ∙ r.1)

    once : (a b : ℕ) (kind : ActionKind) → kind_of (planned basis) a ≡ Some kind → kind_of (planned basis) b ≡ Some kind → a ≡ b
    once a b kind h k = same_place (planned_kinds basis) a b kind (distinct_filter (is_wanted basis) (possible basis) (distinct_possible basis)) (sym (is_at a) ∙ h) (sym (is_at b) ∙ k)

    needs_are : (a : ℕ) (kind : ActionKind) → kind_of (planned basis) a ≡ Some kind → needs_of (planned basis) a ≡ needed_by basis (planned_kinds basis) kind
    needs_are a kind h = needs_of_listed (needed_by basis (planned_kinds basis)) (planned_kinds basis) a kind (sym (is_at a) ∙ h)

    test_is : (b : ℕ) (kind other : ActionKind) → kind_of (planned basis) b ≡ Some other → option_map_or (is_needed_by basis kind) (slice_get (planned_kinds basis) b) false ≡ is_needed_by basis kind other
    test_is b kind other k = ap (λ (o : Option ActionKind). option_map_or (is_needed_by basis kind) o false) (sym (is_at b) ∙ k)

    to : (a b : ℕ) (kind other : ActionKind) → kind_of (planned basis) a ≡ Some kind → kind_of (planned basis) b ≡ Some other
        → Among (needs_of (planned basis) a) b → is_needed_by basis kind other ≡ true
    to a b kind other h k m =
        let n : Among (needed_by basis (planned_kinds basis) kind) b = subst (λ (xs : List ℕ). Among xs b) (needs_are a kind h) m in
        sym (test_is b kind other k) ∙ (from_filter (λ (c : ℕ). option_map_or (is_needed_by basis kind) (slice_get (planned_kinds basis) c) false) (places (planned_kinds basis)) b n).0

    from : (a b : ℕ) (kind other : ActionKind) → kind_of (planned basis) a ≡ Some kind → kind_of (planned basis) b ≡ Some other
        → is_needed_by basis kind other ≡ true → Among (needs_of (planned basis) a) b
    from a b kind other h k t =
        let n : Among (needed_by basis (planned_kinds basis) kind) b = among_filter (λ (c : ℕ). option_map_or (is_needed_by basis kind) (slice_get (planned_kinds basis) c) false) (places (planned_kinds basis)) b
        (test_is b kind other k ∙ t) (among_places (planned_kinds basis) b other (sym (is_at b) ∙ k)) in
        subst (λ (xs : List ℕ). Among xs b) (sym (needs_are a kind h)) n
