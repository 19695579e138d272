-- The goals of the first slots of a declared set, each with its container.
use Rattle.std.proofs.Common.{◌≡◌, ◌∙◌, ◌++◌, ◌+◌, ◌<◌, ◌≤◌, ◌^◌, ◌⊎◌, inl, inr, sym, Bool, true, false, cond, ℕ, List, [], ◌∷◌, Option, Some, None, length, slice_get, refl, ap, arith}
use Rattle.std.specs.Prelude.{find}
use Rattle.std.specs.Cmp.{IsEquivalence}
use Rattle.std.specs.Cmp.Lexicographic.{nat_list_eq_equiv}
use Rattle.std.specs.Map.{lookup}
use Rattle.std.specs.Option.{is_none, is_some, option_map, option_or, unwrap_or}
use Rattle.std.specs.Str.{bytes_eq}
use Rattle.std.proofs.lemmas.Bool.{cases_lt}
use Rattle.std.proofs.lemmas.List.{length-append}
use Rattle.std.proofs.lemmas.List.Folds.{find-append}
use Rattle.engine_types.specs.declared.Condition.{Condition}
use Rattle.engine_types.specs.declared.Declared.{Declared}
use Rattle.engine_types.specs.declared.Listed.{Listed}
use Rattle.engine_types.specs.declared.Slot.{Slot}
use Rattle.response_rules.specs.Json.{given}
use Rattle.run_model.specs.Numbers.{numbers_from, places}
use Rattle.run_model.specs.declared.Verdict.{Verdict}
use Rattle.tree_base.specs.Entries.{insert_entry, value_at, with_entry}
use Rattle.wait_run.specs.Ends.{name_at}
use Rattle.wait_run.specs.Goals.{AreGoals, failing_report, with_goal}
use Rattle.wait_run.specs.Looks.{absent, container_at, container_of, owns}
use Rattle.wait_run.specs.Reports.{goal_at}
use Rattle.wait_run.specs.declared.goals.Goal.{Goal}
use Rattle.wait_run.specs.declared.goals.Goals.{Goals}
use Rattle.wait_run.proofs.Places.{filter_none, first_passes, got_before, got_last, numbers_more}
use Rattle.wait_run.proofs.Reported.{none_failed, unmet_all}

-- ---- a text that is put

module _ {K V : Type 0} {eq : K → K → Bool} (laws : IsEquivalence eq) where
  same_place : (x y : Bool) (p q : V) (rest : Option V) → x ≡ y → cond x (Some p) rest ≡ cond y (Some p) (cond x (Some q) rest)
  same_place true y p q rest e = ap (λ b. cond b (Some p) (cond true (Some q) rest)) e
  same_place false y p q rest e = ap (λ b. cond b (Some p) (cond false (Some q) rest)) e

  other_place : (x y : Bool) (p q : V) (rest : Option V) → (x ≡ true → y ≡ false) → cond y (Some q) (cond x (Some p) rest) ≡ cond x (Some p) (cond y (Some q) rest)
  other_place true true p q rest apart = let f = apart refl in absurd cc
  other_place true false p q rest apart = refl
  other_place false y p q rest apart = refl

  lookup_put : (es : List (K × V)) (k : K) (v : V) (name : K) → lookup (eq name) (insert_entry eq es k v) ≡ cond (eq name k) (Some v) (lookup (eq name) es)
  lookup_put [] k v name = refl
  lookup_put (e ∷ es) k v name = by (eq k e.0) refl (lookup_put es k v name)
    where
      by : (b : Bool) → eq k e.0 ≡ b → lookup (eq name) (insert_entry eq es k v) ≡ cond (eq name k) (Some v) (lookup (eq name) es)
          → lookup (eq name) (insert_entry eq (e ∷ es) k v) ≡ cond (eq name k) (Some v) (lookup (eq name) (e ∷ es))
      by true p more =
          let x : eq name e.0 ≡ eq name k = laws.symm name e.0 ∙ sym (laws.congr k e.0 name p) ∙ laws.symm k name in
          rw p (same_place (eq name e.0) (eq name k) v e.1 (lookup (eq name) es) x)
      by false p more =
          rw p (ap (cond (eq name e.0) (Some e.1)) more ∙ other_place (eq name k) (eq name e.0) v e.1 (lookup (eq name) es) (λ h. laws.congr name k e.0 h ∙ p))

-- the slot that is found for an id, where one more has this container: the first keeps it
found_next : (places : List (List ℕ × ℕ)) (container id : List ℕ) (i : ℕ)
    → value_at (cond (is_none (value_at places container)) (with_entry places container i) places) id
    ≡ option_or (value_at places id) (cond (bytes_eq container id) (Some i) None)
found_next places container id i = by (value_at places container) refl (bytes_eq container id) refl
  where
    turned : bytes_eq id container ≡ bytes_eq container id
    turned = nat_list_eq_equiv.symm id container

    same : bytes_eq container id ≡ true → value_at places id ≡ value_at places container
    same e = (λ j. lookup (λ z. nat_list_eq_equiv.congr id container z (turned ∙ e) j) places)

    nothing_more : (o : Option ℕ) → option_or o None ≡ o
    nothing_more None = refl
    nothing_more (Some k) = refl

    by : (o : Option ℕ) → value_at places container ≡ o → (b : Bool) → bytes_eq container id ≡ b
        → value_at (cond (is_none o) (with_entry places container i) places) id ≡ option_or (value_at places id) (cond b (Some i) None)
    by None missing true e =
        lookup_put nat_list_eq_equiv places container i id
        ∙ ap (λ b. cond b (Some i) (value_at places id)) (turned ∙ e)
        ∙ ap (λ o. option_or o (Some i)) (sym (same e ∙ missing))
    by None missing false e =
        lookup_put nat_list_eq_equiv places container i id
        ∙ ap (λ b. cond b (Some i) (value_at places id)) (turned ∙ e)
        ∙ sym (nothing_more (value_at places id))
    by (Some k) there true e = same e ∙ there ∙ ap (λ o. option_or o (Some i)) (sym (same e ∙ there))
    by (Some k) there false e = sym (nothing_more (value_at places id))

-- ---- the goals of the first so many slots

pub record HasGoals (declared : Declared) (rows : List Listed) (i : ℕ) (goals : Goals) : Type 0 where
  pub many : length goals.rows ≡ i
  pub few : i ≤ 2 ^ 32
  pub owned : length goals.containers ≡ i
  pub owners : (s : ℕ) → s < i → slice_get goals.containers s ≡ container_at declared rows s
  pub there : (s : ℕ) → s < i → is_none (container_at declared rows s) ≡ false
  pub each : (s : ℕ) → s < i → slice_get goals.rows s ≡ Some (record { condition = goal_at declared s; verdict = Verdict.NotYet })
  pub left : goals.left ≡ i
  pub met : goals.met ≡ []
  pub failed : goals.failed ≡ None
  pub found : (id : List ℕ) → value_at goals.places id ≡ find (owns declared rows id) (numbers_from 0 i)

pub goals_none : (declared : Declared) (rows : List Listed) (goals : Goals) → goals.containers ≡ [] → goals.rows ≡ [] → goals.places ≡ [] → goals.left ≡ 0 → goals.met ≡ [] → goals.failed ≡ None
    → HasGoals declared rows 0 goals
goals_none declared rows goals containers_are rows_are places_are left_is met_is failed_is = record {
  many = ap length rows_are;
  few = omega arith;
  owned = ap length containers_are;
  owners = λ s less. absurd (omega (arith, less));
  there = λ s less. absurd (omega (arith, less));
  each = λ s less. absurd (omega (arith, less));
  left = left_is;
  met = met_is;
  failed = failed_is;
  found = λ id. ap (λ p. value_at p id) places_are;
}

module _ (declared : Declared) (rows : List Listed) (i : ℕ) (goals : Goals) (slot : Slot) (has : HasGoals declared rows i goals) (slot_is : slice_get declared.slots i ≡ Some slot) where
  container_is : container_at declared rows i ≡ container_of declared rows slot
  container_is = ap (λ o. given o (container_of declared rows)) slot_is

  goal_is : goal_at declared i ≡ slot.goal
  goal_is = ap (λ o. unwrap_or (option_map (λ slot. slot.goal) o) Condition.Running) slot_is

  -- the next slot has a container
  pub goals_next : (id : List ℕ) → container_of declared rows slot ≡ Some id → length goals.rows < 2 ^ 32 → HasGoals declared rows (i + 1) (with_goal goals slot.goal id)
  goals_next id is room = record {
    many = length-append goals.rows (record { condition = slot.goal; verdict = Verdict.NotYet } ∷ []) ∙ ap (λ n. n + 1) has.many;
    few = omega (arith, room, has.many);
    owned = length-append goals.containers (id ∷ []) ∙ ap (λ n. n + 1) has.owned;
    owners = λ s less. by_owner s less (cases_lt s i);
    there = λ s less. by_there s less (cases_lt s i);
    each = λ s less. by_each s less (cases_lt s i);
    left = ap (λ n. n + 1) has.many;
    met = has.met;
    failed = has.failed;
    found = λ other.
        found_next goals.places id other (length goals.rows)
        ∙ ap (λ o. option_or o (cond (bytes_eq id other) (Some (length goals.rows)) None)) (has.found other)
        ∙ ap (λ n. option_or (find (owns declared rows other) (numbers_from 0 i)) (cond (bytes_eq id other) (Some n) None)) (has.many ∙ zero_plus i)
        ∙ ap (λ t. option_or (find (owns declared rows other) (numbers_from 0 i)) (cond t (Some (0 + i)) None)) (sym (owns_it other))
        ∙ sym (find-append (owns declared rows other) (numbers_from 0 i) ((0 + i) ∷ []))
        ∙ ap (find (owns declared rows other)) (sym (numbers_more 0 i));
  }
    where
      zero_plus : (n : ℕ) → n ≡ 0 + n
      zero_plus n = omega arith

      here : container_at declared rows i ≡ Some id
      here = container_is ∙ is

      test : (t : Bool) → is_some (cond t (Some id) None) ≡ t
      test true = refl
      test false = refl

      owns_it : (other : List ℕ) → owns declared rows other (0 + i) ≡ bytes_eq id other
      owns_it other =
          ap (λ n. owns declared rows other n) (sym (zero_plus i))
          ∙ ap (λ o. is_some (given o (λ own. cond (bytes_eq own other) (Some own) None))) here
          ∙ test (bytes_eq id other)

      by_owner : (s : ℕ) → s < i + 1 → (s < i) ⊎ (i ≤ s) → slice_get (goals.containers ++ id ∷ []) s ≡ container_at declared rows s
      by_owner s less (inl low) = got_before goals.containers (id ∷ []) s (omega (arith, low, has.owned)) ∙ has.owners s low
      by_owner s less (inr high) =
          let last : length goals.containers ≡ s = omega (arith, less, high, has.owned) in
          let same : i ≡ s = omega (arith, less, high) in
          ap (slice_get (goals.containers ++ id ∷ [])) (sym last) ∙ got_last goals.containers id ∙ sym here ∙ ap (container_at declared rows) same

      by_there : (s : ℕ) → s < i + 1 → (s < i) ⊎ (i ≤ s) → is_none (container_at declared rows s) ≡ false
      by_there s less (inl low) = has.there s low
      by_there s less (inr high) =
          let same : s ≡ i = omega (arith, less, high) in
          ap (λ n. is_none (container_at declared rows n)) same ∙ ap is_none here

      by_each : (s : ℕ) → s < i + 1 → (s < i) ⊎ (i ≤ s)
          → slice_get (goals.rows ++ record { condition = slot.goal; verdict = Verdict.NotYet } ∷ []) s ≡ Some (record { condition = goal_at declared s; verdict = Verdict.NotYet })
      by_each s less (inl low) = got_before goals.rows (record { condition = slot.goal; verdict = Verdict.NotYet } ∷ []) s (omega (arith, low, has.many)) ∙ has.each s low
      by_each s less (inr high) =
          let last : length goals.rows ≡ s = omega (arith, less, high, has.many) in
          let same : i ≡ s = omega (arith, less, high) in
          let new : Goal = record { condition = slot.goal; verdict = Verdict.NotYet } in
          ap (slice_get (goals.rows ++ new ∷ [])) (sym last) ∙ got_last goals.rows new
          ∙ ap (λ c. Some (record { condition = c; verdict = Verdict.NotYet })) (sym goal_is ∙ ap (goal_at declared) same)

  -- it has none, and is the first without
  pub absent_next : container_of declared rows slot ≡ None → i < length declared.slots → slice_get (absent declared rows) 0 ≡ Some i
  absent_next is less =
      first_passes (λ s. is_none (container_at declared rows s)) i 0 (length declared.slots) (omega arith) (omega (arith, less)) has.there
      (ap is_none (container_is ∙ is))

  pub name_is : slot.name ≡ name_at declared i
  name_is = sym (ap (λ o. unwrap_or (option_map (λ slot. slot.name) o) []) slot_is)

-- each slot has a container
pub goals_all : (declared : Declared) (rows : List Listed) (goals : Goals) → HasGoals declared rows (length declared.slots) goals → AreGoals declared rows [] goals × (absent declared rows ≡ [])
goals_all declared rows goals has = (
  record {
    many = has.many;
    few = has.few;
    owners = has.owners;
    each = has.each;
    left = has.left ∙ sym (unmet_all declared);
    met = has.met;
    failed = ap (option_map failing_report) has.failed;
    some = none_failed declared ∙ sym (ap is_some has.failed);
    found = has.found;
  },
  filter_none (λ s. is_none (container_at declared rows s)) 0 (length declared.slots) (λ k less. has.there k (omega (arith, less))),
)
