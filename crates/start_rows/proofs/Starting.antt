-- The starts, creates and makes of a plan.
use Rattle.std.proofs.Common.{◌≡◌, ◌⊎◌, ℕ, zero, suc, ◌+◌, ◌<◌, ◌≤◌, Bool, true, false, cond, List, [], ◌∷◌, length, get_or, slice_get, Option, Some, None, refl, sym, ap, ◌∙◌, inl, inr, arith}
use Rattle.std.proofs.lemmas.Bool.{cases_lt, eq-eqb, eqb-true}
use Rattle.std.proofs.lemmas.Grind.{common_steps}
use Rattle.std.specs.Option.{option_map_or}
use Rattle.std.specs.Prelude.{find, option_map}
use Rattle.engine_types.specs.declared.Action.{Action}
use Rattle.engine_types.specs.declared.ActionKind.{ActionKind}
use Rattle.run_model.specs.Numbers.{numbers_from, places}
use Rattle.run_model.specs.Observation.{is_up}
use Rattle.run_model.specs.Plans.{Basis, CarriesOut, HasPlan, is_create_of, is_make_of, is_start_of, is_unstarted, kind_of, start_of}
use Rattle.run_model.proofs.LegalLaws.{found_passes}
use Rattle.run_model.proofs.PlanLaws.{both, some_from}
use Rattle.run_model.proofs.RollLaws.{carries}
use Rattle.plan_rows.specs.Firsts.{first_of}
use Rattle.plan_rows.specs.declared.row.Row.{Row}
use Rattle.start_rows.specs.Laws.{place_count}

-- what is at a place stands below the length
pub placed_below : {X : Type 0} (xs : List X) (i : ℕ) (x : X) → slice_get xs i ≡ Some x → i < length xs
placed_below [] i x e = absurd (cc e)
placed_below (y ∷ ys) zero x e = omega arith
placed_below (y ∷ ys) (suc i) x e = let h = placed_below ys i x e in omega (arith, h)

-- where something has a place, that is below the length
test_below : {X : Type 0} (f : X → Bool) (xs : List X) (i : ℕ) → option_map_or f (slice_get xs i) false ≡ true → i < length xs
test_below f xs i e = let r = some_from f (slice_get xs i) e in placed_below xs i r.0 r.1

kind_below : (actions : List Action) (a : ℕ) (kind : ActionKind) → kind_of actions a ≡ Some kind → a < length actions
kind_below actions a kind e = by (slice_get actions a) refl e
  where
    by : (o : Option Action) → slice_get actions a ≡ o → option_map (λ (x : Action). x.kind) o ≡ Some kind → a < length actions
    by None h k = absurd (cc k)
    by (Some action) h k = placed_below actions a action h

is_start : (s : ℕ) (o : Option ActionKind) → is_start_of s o ≡ true → o ≡ Some (ActionKind.StartSlot s)
is_start s None e = absurd (cc e)
is_start s (Some (ActionKind.StartSlot t)) e = ap (λ (k : ℕ). Some (ActionKind.StartSlot k)) (eqb-true t s e)
is_start s (Some kind) e = absurd (cc e)

is_create : (s : ℕ) (o : Option ActionKind) → is_create_of s o ≡ true → o ≡ Some (ActionKind.CreateSlot s)
is_create s None e = absurd (cc e)
is_create s (Some (ActionKind.CreateSlot t)) e = ap (λ (k : ℕ). Some (ActionKind.CreateSlot k)) (eqb-true t s e)
is_create s (Some kind) e = absurd (cc e)

is_make : (n : ℕ) (o : Option ActionKind) → is_make_of n o ≡ true → o ≡ Some (ActionKind.MakeNetwork n)
is_make n None e = absurd (cc e)
is_make n (Some (ActionKind.MakeNetwork m)) e = ap (λ (k : ℕ). Some (ActionKind.MakeNetwork k)) (eqb-true m n e)
is_make n (Some kind) e = absurd (cc e)

-- where nothing was found, nothing passes
none_found : (p : ℕ → Bool) (i n k : ℕ) → find p (numbers_from i n) ≡ None → i ≤ k → k < i + n → p k ≡ false
none_found p i zero k e l m = absurd (omega (arith, l, m))
none_found p i (suc n) k e l m = on (p i) refl e (λ f j. none_found p (i + 1) n k f (omega (arith, j)) (omega (arith, m)))
  where
    on : (t : Bool) → p i ≡ t → cond t (Some i) (find p (numbers_from (i + 1) n)) ≡ None → (find p (numbers_from (i + 1) n) ≡ None → i < k → p k ≡ false) → p k ≡ false
    on true h f rest = absurd (cc f)
    on false h f rest = by (cases_lt i k)
      where
        by : (i < k) ⊎ (k ≤ i) → p k ≡ false
        by (inl j) = rest f j
        by (inr j) = let same : k ≡ i = omega (arith, j, l) in ap p same ∙ h

-- nothing is found where what passes would be there
nothing_found : (p : ℕ → Bool) (xs : List ℕ) → ((k : ℕ) → p k ≡ true → ⊥) → find p xs ≡ None
nothing_found p xs none = by (find p xs) refl
  where
    by : (o : Option ℕ) → find p xs ≡ o → find p xs ≡ None
    by None e = e
    by (Some k) e = absurd (none k (found_passes p xs k e))

module _ (basis : Basis) (actions : List Action) (plan : HasPlan basis actions) where
  out : CarriesOut basis actions
  out = carries basis actions plan

  pub there : (a s : ℕ) → kind_of actions a ≡ Some (ActionKind.StartSlot s) → s < length basis.declared.slots
  there a s e = test_below (is_unstarted basis) basis.declared.slots s (both (is_up basis.aim.purpose) _ (out.wanted a (ActionKind.StartSlot s) e)).1

  create_there : (a s : ℕ) → kind_of actions a ≡ Some (ActionKind.CreateSlot s) → s < length basis.declared.slots
  create_there a s e = test_below _ basis.declared.slots s (both (is_up basis.aim.purpose) _ (out.wanted a (ActionKind.CreateSlot s) e)).1

  make_there : (a n : ℕ) → kind_of actions a ≡ Some (ActionKind.MakeNetwork n) → n < length basis.declared.networks
  make_there a n e = test_below _ basis.declared.networks n (both (is_up basis.aim.purpose) _ (out.wanted a (ActionKind.MakeNetwork n) e)).1

  -- what is not there has no action
  none_past : (row : Row) (s : ℕ) → place_count row basis.declared ≤ s → first_of row actions s ≡ None
  none_past Row.Starts s l = nothing_found (λ a. is_start_of s (kind_of actions a)) (places actions) (λ a e. let k = there a s (is_start s (kind_of actions a) e) in omega (arith, k, l))
  none_past Row.Creates s l = nothing_found (λ a. is_create_of s (kind_of actions a)) (places actions) (λ a e. let k = create_there a s (is_create s (kind_of actions a) e) in omega (arith, k, l))
  none_past Row.Makes s l = nothing_found (λ a. is_make_of s (kind_of actions a)) (places actions) (λ a e. let k = make_there a s (is_make s (kind_of actions a) e) in omega (arith, k, l))

  pub firsts : (row : Row) (rows : List (Option ℕ)) → length rows ≡ place_count row basis.declared
      → ((s : ℕ) → s < place_count row basis.declared → get_or rows s None ≡ first_of row actions s)
      → (s : ℕ) → get_or rows s None ≡ first_of row actions s
  firsts row rows size each s = by (cases_lt s (place_count row basis.declared))
    where
      by : (s < place_count row basis.declared) ⊎ (place_count row basis.declared ≤ s) → get_or rows s None ≡ first_of row actions s
      by (inl l) = each s l
      by (inr l) = (let e : get_or rows s None ≡ None = grind (arith, common_steps, size) in e) ∙ sym (none_past row s l)

  pub first : (a s : ℕ) → kind_of actions a ≡ Some (ActionKind.StartSlot s) → start_of actions s ≡ Some a
  first a s e = by (start_of actions s) refl
    where
      passes : is_start_of s (kind_of actions a) ≡ true
      passes = ap (is_start_of s) e ∙ eq-eqb s s refl

      by : (o : Option ℕ) → start_of actions s ≡ o → start_of actions s ≡ Some a
      by None h =
          let none = none_found (λ b. is_start_of s (kind_of actions b)) 0 (length actions) a h (omega arith) (let k = kind_below actions a (ActionKind.StartSlot s) e in omega (arith, k)) in
          let bad : true ≡ false = sym passes ∙ none in absurd (cc bad)
      by (Some b) h =
          let same = out.once b a (ActionKind.StartSlot s) (is_start s (kind_of actions b) (found_passes (λ c. is_start_of s (kind_of actions c)) (places actions) b h)) e in
          h ∙ ap (λ (k : ℕ). Some k) same
