-- The first actions, from the last action on.
use Rattle.std.proofs.Common.{◌≡◌, ◌⊎◌, ℕ, zero, suc, ◌+◌, ◌-◌, ◌<◌, ◌≤◌, Bool, true, false, cond, ◌==◌, List, [], ◌∷◌, length, get_or, set, Option, Some, None, refl, sym, ap, ◌∙◌, inl, inr, arith}
use Rattle.std.proofs.lemmas.Bool.{cases_eq, eq-eqb, eqb-true}
use Rattle.std.proofs.lemmas.Grind.{common_steps}
use Rattle.std.specs.Option.{option_map_or}
use Rattle.std.specs.Prelude.{find}
use Rattle.engine_types.specs.declared.Action.{Action}
use Rattle.engine_types.specs.declared.ActionKind.{ActionKind}
use Rattle.run_model.specs.Numbers.{numbers_from}
use Rattle.run_model.specs.Plans.{is_create_of, is_make_of, is_start_of, kind_of}
use Rattle.plan_rows.specs.Firsts.{first_of, place_of, with_action}
use Rattle.plan_rows.specs.declared.row.Row.{Row}

-- whether an action is of a row and has this place
abbrev pub is_of : Row → ℕ → Option ActionKind → Bool
is_of Row.Starts s kind = is_start_of s kind
is_of Row.Creates s kind = is_create_of s kind
is_of Row.Makes s kind = is_make_of s kind

-- whether this is the place
abbrev is_at : ℕ → Option ℕ → Bool
is_at s place = option_map_or (λ t. t == s) place false

of_place : (row : Row) (s : ℕ) (kind : ActionKind) → is_of row s (Some kind) ≡ is_at s (place_of row kind)
of_place Row.Starts s (ActionKind.StartSlot t) = refl
of_place Row.Starts s kind = refl
of_place Row.Creates s (ActionKind.CreateSlot t) = refl
of_place Row.Creates s kind = refl
of_place Row.Makes s (ActionKind.MakeNetwork t) = refl
of_place Row.Makes s kind = refl

-- the first of the actions from one on
abbrev pub first_from : Row → List Action → ℕ → ℕ → Option ℕ
first_from row actions at s = find (λ a. is_of row s (kind_of actions a)) (numbers_from at (length actions - at))

-- the places of the actions from one on
pub record Entered (row : Row) (actions : List Action) (count : ℕ) (places : List (Option ℕ)) (at : ℕ) : Type 0 where
  pub size : length places ≡ count
  pub within : at ≤ length actions
  pub each : (s : ℕ) → s < count → get_or places s None ≡ first_from row actions at s

kind_read : (actions : List Action) (a : ℕ) (action : Action) → a < length actions → action ≡ get_or actions a action → kind_of actions a ≡ Some action.kind
kind_read [] a action l e = absurd (omega arith)
kind_read (x ∷ xs) zero action l e = ap (λ (y : Action). Some y.kind) (sym e)
kind_read (x ∷ xs) (suc a) action l e = kind_read xs a action (omega arith) e

-- one more
pub entered_more : (row : Row) (actions : List Action) (count : ℕ) (places next : List (Option ℕ)) (at : ℕ) (action : Action) → at < length actions → action ≡ get_or actions at action
    → Entered row actions count places (at + 1) → next ≡ with_action places (place_of row action.kind) at → Entered row actions count next at
entered_more row actions count places next at action l read so_far e = record {
  size = ap length e ∙ sized (place_of row action.kind) ∙ so_far.size;
  within = omega (arith, l);
  each = λ s m. ap (λ (ps : List (Option ℕ)). get_or ps s None) e ∙ placed s m (place_of row action.kind)
      ∙ ap (λ (o : Option ℕ). cond (is_at s (place_of row action.kind)) (Some at) o) (so_far.each s m)
      ∙ ap (λ (t : Bool). cond t (Some at) (first_from row actions (at + 1) s)) (sym (of_place row s action.kind) ∙ ap (is_of row s) (sym (kind_read actions at action l read)))
      ∙ sym (ap (λ (n : ℕ). find (λ a. is_of row s (kind_of actions a)) (numbers_from at n)) (let k : length actions - at ≡ suc (length actions - (at + 1)) = omega (arith, l) in k));
}
  where
    sized : (o : Option ℕ) → length (with_action places o at) ≡ length places
    sized None = refl
    sized (Some p) = let k : length (set places p (Some at)) ≡ length places = grind (arith, common_steps) in k

    placed : (s : ℕ) → s < count → (o : Option ℕ) → get_or (with_action places o at) s None ≡ cond (is_at s o) (Some at) (get_or places s None)
    placed s m None = refl
    placed s m (Some p) = on (cases_eq p s)
      where
        unequal : (p ≡ s → ⊥) → (t : Bool) → (p == s) ≡ t → t ≡ false
        unequal n true h = absurd (n (eqb-true p s h))
        unequal n false h = refl

        on : (p ≡ s) ⊎ (p ≡ s → ⊥) → get_or (set places p (Some at)) s None ≡ cond (p == s) (Some at) (get_or places s None)
        on (inl k) = let here : get_or (set places p (Some at)) s None ≡ Some at = grind (arith, common_steps, so_far.size) in here ∙ sym (ap (λ (t : Bool). cond t (Some at) (get_or places s None)) (eq-eqb p s k))
        on (inr n) = let there : get_or (set places p (Some at)) s None ≡ get_or places s None = grind (arith, common_steps) in there ∙ sym (ap (λ (t : Bool). cond t (Some at) (get_or places s None)) (unequal n (p == s) refl))

-- none at first
pub none_entered : (row : Row) (actions : List Action) (count : ℕ) (places : List (Option ℕ)) → length places ≡ count → ((s : ℕ) → get_or places s None ≡ None) → Entered row actions count places (length actions)
none_entered row actions count places size none = record {
  size = size;
  within = omega arith;
  each = λ s m. none s ∙ sym (ap (λ (n : ℕ). find (λ a. is_of row s (kind_of actions a)) (numbers_from (length actions) n)) (let k : length actions - length actions ≡ 0 = omega arith in k));
}

-- all of them
pub all_entered : (row : Row) (actions : List Action) (count : ℕ) (places : List (Option ℕ)) (at : ℕ) → at ≡ 0 → Entered row actions count places at → (s : ℕ) → s < count → get_or places s None ≡ first_of row actions s
all_entered row actions count places at start so_far s l = so_far.each s l ∙ ap (λ (i : ℕ). first_from row actions i s) start ∙ by row
  where
    by : (r : Row) → first_from r actions 0 s ≡ first_of r actions s
    by Row.Starts = ap (λ (n : ℕ). find (λ a. is_start_of s (kind_of actions a)) (numbers_from 0 n)) (let k : length actions - 0 ≡ length actions = omega arith in k)
    by Row.Creates = ap (λ (n : ℕ). find (λ a. is_create_of s (kind_of actions a)) (numbers_from 0 n)) (let k : length actions - 0 ≡ length actions = omega arith in k)
    by Row.Makes = ap (λ (n : ℕ). find (λ a. is_make_of s (kind_of actions a)) (numbers_from 0 n)) (let k : length actions - 0 ≡ length actions = omega arith in k)
