-- Needs that rise, and hold what the plan and a rolling update say, are those of a run.
use Rattle.std.proofs.Common.{◌≡◌, ◌⊎◌, ◌↔◌, ℕ, ◌+◌, ◌<◌, ◌≤◌, Bool, true, false, ◌||◌, List, [], ◌∷◌, length, map, Option, Some, None, slice_get, refl, sym, ap, ◌∙◌, ◌++◌, subst, inl, inr, arith, eqb, get_or}
use Rattle.std.specs.List.{list_any}
use Rattle.std.specs.Prelude.{filter, is_some}
use Rattle.std.specs.Option.{option_map, option_map_or}
use Rattle.std.specs.List.{dedup}
use Rattle.std.specs.List.Sorted.{IsPermutation, IsSorted, IsStrictlyIncreasing}
use Rattle.std.specs.Ordering.{nat_cmp}
use Rattle.std.proofs.lemmas.List.Kept.{Contains-dedup_nat, Contains-from_dedup}
use Rattle.std.proofs.lemmas.List.Sorted.{Contains-permutation, IsPermutation-sym}
use Rattle.std.proofs.lemmas.Map.Keys.{IsStrictlyIncreasing-dedup}
use Rattle.std.proofs.lemmas.Bool.{or_cases, or_left, or_right}
use Rattle.std.proofs.lemmas.Option.{slice_get-get_or, slice_get_past}
use Rattle.engine_types.specs.declared.Action.{Action}
use Rattle.engine_types.specs.declared.ActionKind.{ActionKind}
use Rattle.engine_types.specs.declared.ActionKind.TheVariants.{MakeVolume, MakeNetwork, StopContainer, RemoveContainer, CreateSlot, ConnectSlot, StopKept, StartSlot, RemoveNetwork, RemoveVolume}
use Rattle.engine_types.specs.declared.DeclaredService.{DeclaredService}
use Rattle.run_model.specs.EngineRules.{Among}
use Rattle.run_model.specs.Numbers.{places}
use Rattle.run_model.specs.Plans.{Basis, basis_of, is_needed_by, needed_by, planned, planned_kinds, up_aim}
use Rattle.run_model.specs.Rolling.{awaited_by, is_added, is_awaited, run_actions}
use Rattle.run_model.proofs.DistinctLists.{among_filter, among_left, among_places, among_right, from_append, from_filter}
use Rattle.run_model.proofs.KeptLaws.{any_of_list}
use Rattle.run_model.proofs.PlanLaws.{some_from}
use Rattle.plan_core.proofs.Loops.{slice_get-map}
use Rattle.plan_core.proofs.Rising.{all_that_pass, among_contains, contains_among, rises_from}
use Rattle.rolling_update.specs.Needs.{AreAdded, Given, HasNeeds, Scene, awaiting, is_added_at, kinds_in, needing, rolled_basis, rolling}

-- what is needed doesn't depend on whether orphans go
needed_same : (scene : Scene) (orphans : Bool) (kind other : ActionKind) → is_needed_by (basis_of scene.declared scene.seen (up_aim orphans)) kind other ≡ is_needed_by (rolling scene) kind other
needed_same scene orphans (StopContainer c) (RemoveContainer d) = refl
needed_same scene orphans (RemoveContainer c) (StopContainer d) = refl
needed_same scene orphans (CreateSlot s) (RemoveContainer c) = refl
needed_same scene orphans (CreateSlot s) (MakeNetwork n) = refl
needed_same scene orphans (CreateSlot s) (MakeVolume v) = refl
needed_same scene orphans (ConnectSlot s k) (CreateSlot t) = refl
needed_same scene orphans (ConnectSlot s k) (MakeNetwork n) = refl
needed_same scene orphans (StartSlot s) (CreateSlot t) = refl
needed_same scene orphans (StopKept s) (StartSlot t) = refl
needed_same scene orphans (StartSlot s) (ConnectSlot t k) = refl
needed_same scene orphans (StartSlot s) (StopKept t) = refl
needed_same scene orphans (RemoveNetwork n) (RemoveContainer c) = refl
needed_same scene orphans (RemoveVolume v) (RemoveContainer c) = refl
needed_same scene orphans _ _ = refl

added_same : (scene : Scene) (orphans : Bool) (kind other : ActionKind) → is_added (basis_of scene.declared scene.seen (up_aim orphans)) kind other ≡ is_added (rolling scene) kind other
added_same scene orphans (StopContainer c) (StartSlot t) = refl
added_same scene orphans (StopKept s) (StartSlot t) = refl
added_same scene orphans (StartSlot s) (StopContainer c) = refl
added_same scene orphans _ _ = refl

awaited_same : (scene : Scene) (orphans : Bool) (kind other : ActionKind) → is_awaited (basis_of scene.declared scene.seen (up_aim orphans)) kind other ≡ is_awaited (rolling scene) kind other
awaited_same scene orphans kind other =
    ap (λ (b : Bool). b || is_added (basis_of scene.declared scene.seen (up_aim orphans)) kind other) (needed_same scene orphans kind other)
    ∙ ap (λ (b : Bool). is_needed_by (rolling scene) kind other || b) (added_same scene orphans kind other)

same_filter : {X : Type 0} (p q : X → Bool) (xs : List X) → ((x : X) → p x ≡ q x) → filter p xs ≡ filter q xs
same_filter p q [] e = refl
same_filter p q (x ∷ xs) e = rw (e x, same_filter p q xs e) refl

map_twice : {X Y Z : Type 0} (f : X → Y) (g : Y → Z) (h : X → Z) (xs : List X) → ((x : X) → g (f x) ≡ h x) → map g (map f xs) ≡ map h xs
map_twice f g h [] e = refl
map_twice f g h (x ∷ xs) e = rw (e x, map_twice f g h xs e) refl

map_itself : {X Y : Type 0} (f : X → Y) (g : Y → X) (xs : List X) → ((x : X) → g (f x) ≡ x) → map g (map f xs) ≡ xs
map_itself f g [] e = refl
map_itself f g (x ∷ xs) e = rw (e x, map_itself f g xs e) refl

-- tests of what stands at a place
same_at : (test other : ActionKind → Bool) (o : Option ActionKind) → ((k : ActionKind) → test k ≡ other k) → option_map_or test o false ≡ option_map_or other o false
same_at test other None e = refl
same_at test other (Some k) e = e k

module _ (given : Given) (orphans : Bool) (is : given.actions ≡ planned (basis_of given.scene.declared given.scene.seen (up_aim orphans))) where
  abbrev up : Basis
  up = basis_of given.scene.declared given.scene.seen (up_aim orphans)

  abbrev kinds : List ActionKind
  kinds = planned_kinds up

  abbrev by_plan : ActionKind → Action
  by_plan kind = record { kind = kind; needs = needed_by up kinds kind }

  abbrev by_run : ActionKind → Action
  by_run kind = record { kind = kind; needs = awaited_by up kinds kind }

  kinds_are : kinds_in given.actions ≡ kinds
  kinds_are = ap kinds_in is ∙ map_itself by_plan (λ (action : Action). action.kind) kinds (λ kind. refl)

  needed_is : (kind : ActionKind) → needed_by (rolled_basis given) (kinds_in given.actions) kind ≡ needed_by up kinds kind
  needed_is kind =
      ap (λ (ks : List ActionKind). needed_by (rolled_basis given) ks kind) kinds_are
      ∙ same_filter (λ (b : ℕ). option_map_or (is_needed_by (rolled_basis given) kind) (slice_get kinds b) false) (λ (b : ℕ). option_map_or (is_needed_by up kind) (slice_get kinds b) false) (places kinds)
      (λ b. same_at (is_needed_by (rolled_basis given) kind) (is_needed_by up kind) (slice_get kinds b) (λ other. sym (needed_same given.scene orphans kind other)))

  awaited_is : (kind : ActionKind) → awaited_by (rolled_basis given) (kinds_in given.actions) kind ≡ awaited_by up kinds kind
  awaited_is kind =
      ap (λ (ks : List ActionKind). awaited_by (rolled_basis given) ks kind) kinds_are
      ∙ same_filter (λ (b : ℕ). option_map_or (is_awaited (rolled_basis given) kind) (slice_get kinds b) false) (λ (b : ℕ). option_map_or (is_awaited up kind) (slice_get kinds b) false) (places kinds)
      (λ b. same_at (is_awaited (rolled_basis given) kind) (is_awaited up kind) (slice_get kinds b) (λ other. sym (awaited_same given.scene orphans kind other)))

  -- a plan's actions have their needs by the plan
  pub has_needs : HasNeeds given
  has_needs =
      is ∙ sym (ap (map (needing given)) is
      ∙ map_twice by_plan (needing given) by_plan kinds (λ kind. ap (λ (needs : List ℕ). let action : Action = record { kind = kind; needs = needs } in action) (needed_is kind)))

  -- with what they need in a run they are the run's actions
  pub are_runs : map (awaiting given) given.actions ≡ run_actions up
  are_runs =
      ap (map (awaiting given)) is
      ∙ map_twice by_plan (awaiting given) by_run kinds (λ kind. ap (λ (needs : List ℕ). let action : Action = record { kind = kind; needs = needs } in action) (awaited_is kind))

module _ (given : Given) (kind : ActionKind) where
  abbrev basis : Basis
  basis = rolled_basis given

  abbrev all : List ActionKind
  all = kinds_in given.actions

  abbrev needs_at : ℕ → Bool
  needs_at b = option_map_or (is_needed_by basis kind) (slice_get all b) false

  abbrev awaits_at : ℕ → Bool
  awaits_at b = option_map_or (is_awaited basis kind) (slice_get all b) false

  either_at : (b : ℕ) → awaits_at b ≡ true → (needs_at b ≡ true) ⊎ (is_added_at basis all kind b ≡ true)
  either_at b = at (slice_get all b)
    where
      at : (o : Option ActionKind) → option_map_or (is_awaited basis kind) o false ≡ true
          → (option_map_or (is_needed_by basis kind) o false ≡ true) ⊎ (option_map_or (is_added basis kind) o false ≡ true)
      at None e = absurd (cc e)
      at (Some other) e = or_cases (is_needed_by basis kind other) (is_added basis kind other) e

  from_needed : (b : ℕ) → needs_at b ≡ true → awaits_at b ≡ true
  from_needed b = at (slice_get all b)
    where
      at : (o : Option ActionKind) → option_map_or (is_needed_by basis kind) o false ≡ true → option_map_or (is_awaited basis kind) o false ≡ true
      at None e = absurd (cc e)
      at (Some other) e = or_left (is_needed_by basis kind other) (is_added basis kind other) e

  from_added : (b : ℕ) → is_added_at basis all kind b ≡ true → awaits_at b ≡ true
  from_added b = at (slice_get all b)
    where
      at : (o : Option ActionKind) → option_map_or (is_added basis kind) o false ≡ true → option_map_or (is_awaited basis kind) o false ≡ true
      at None e = absurd (cc e)
      at (Some other) e = or_right (is_needed_by basis kind other) (is_added basis kind other) e

  all_pass : (xs : List ℕ) → ((b : ℕ) → Among xs b → awaits_at b ≡ true) → filter awaits_at xs ≡ xs
  all_pass [] h = refl
  all_pass (x ∷ xs) h = rw (h x (inl refl), all_pass xs (λ b m. h b (inr m))) refl

  -- numbers that rise and hold the needs by the plan and those that are added, and no others, are what is awaited
  pub joined_is : (needs added xs : List ℕ) → needs ≡ needed_by basis all kind → AreAdded given kind added → IsStrictlyIncreasing xs
      → ((b : ℕ) → Among xs b ↔ (Among needs b ⊎ Among added b)) → xs ≡ awaited_by basis all kind
  joined_is needs added xs same adds rises holds =
      sym (all_pass xs (λ b m. passes b ((holds b).0 m)))
      ∙ all_that_pass awaits_at (length all) 0 xs (rises_from xs 0 (λ k. omega arith) rises) (λ b k e. (holds b).1 (held b (either_at b e))) past
    where
      passes : (b : ℕ) → Among needs b ⊎ Among added b → awaits_at b ≡ true
      passes b (inl m) = from_needed b (from_filter needs_at (places all) b (subst (λ (ns : List ℕ). Among ns b) same m)).0
      passes b (inr m) = from_added b ((adds b).0 m)

      held : (b : ℕ) → (needs_at b ≡ true) ⊎ (is_added_at basis all kind b ≡ true) → Among needs b ⊎ Among added b
      held b (inl e) =
          let other = some_from (is_needed_by basis kind) (slice_get all b) e in
          inl (subst (λ (ns : List ℕ). Among ns b) (sym same) (among_filter needs_at (places all) b e (among_places all b other.0 other.1)))
      held b (inr e) = inr ((adds b).1 e)

      past : (b : ℕ) → 0 + length all ≤ b → awaits_at b ≡ false
      past b k = ap (λ (o : Option ActionKind). option_map_or (is_awaited basis kind) o false) (slice_get_past all b (omega (arith, k)))

-- numbers put together, sorted, and left without repeats
pub joined_rises : (sorted left : List ℕ) → IsSorted nat_cmp sorted → left ≡ dedup eqb sorted → IsStrictlyIncreasing left
joined_rises sorted left up is = subst IsStrictlyIncreasing (sym is) (IsStrictlyIncreasing-dedup sorted up)

pub joined_holds : (needs added items sorted left : List ℕ) → items ≡ needs ++ added → IsPermutation items sorted → left ≡ dedup eqb sorted
    → (b : ℕ) → Among left b ↔ (Among needs b ⊎ Among added b)
joined_holds needs added items sorted left put moved is b = (down, up)
  where
    down : Among left b → Among needs b ⊎ Among added b
    down m = from_append needs added b (subst (λ (xs : List ℕ). Among xs b) put
        (among_contains items b (Contains-permutation sorted items b (IsPermutation-sym items sorted moved)
        (Contains-from_dedup eqb sorted b (contains_among (dedup eqb sorted) b (subst (λ (xs : List ℕ). Among xs b) is m))))))

    either : Among needs b ⊎ Among added b → Among (needs ++ added) b
    either (inl m) = among_left needs added b m
    either (inr m) = among_right needs added b m

    up : Among needs b ⊎ Among added b → Among left b
    up n = subst (λ (xs : List ℕ). Among xs b) (sym is)
        (among_contains (dedup eqb sorted) b (Contains-dedup_nat sorted b (Contains-permutation items sorted b moved
        (contains_among items b (subst (λ (xs : List ℕ). Among xs b) (sym put) (either n))))))

-- an action of a plan needs what it needs by the plan
pub needs_here : (given : Given) (i : ℕ) (action : Action) → HasNeeds given → i < length given.actions → action ≡ get_or given.actions i action
    → action.needs ≡ needed_by (rolled_basis given) (kinds_in given.actions) action.kind
needs_here given i action has within is =
    let here : slice_get given.actions i ≡ Some action = slice_get-get_or given.actions i action within ∙ ap Some (sym is) in
    let there : Some action ≡ Some (needing given action) = sym here ∙ ap (λ (xs : List Action). slice_get xs i) has ∙ slice_get-map (needing given) given.actions i
    ∙ ap (λ (o : Option Action). option_map (needing given) o) here in
    let same : action ≡ needing given action = cc there in
    ap (λ (x : Action). x.needs) same

-- where no service rolls a run has the plan's needs
pub none_rolls : (services : List DeclaredService) → list_any (λ service. is_some service.roll) services ≡ false → (service : DeclaredService) → Among services service → service.roll ≡ None
none_rolls services e service m = at service.roll refl
  where
    at : (o : Option ℕ) → service.roll ≡ o → service.roll ≡ None
    at None h = h
    at (Some count) h =
        let bad : false ≡ true = sym e ∙ any_of_list (λ (s : DeclaredService). is_some s.roll) services service m (ap is_some h) in absurd (cc bad)
