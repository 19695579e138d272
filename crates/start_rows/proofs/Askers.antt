-- How rows of the starts that ask grow, and what they have.
use Rattle.std.proofs.Common.{◌≡◌, ◌⊎◌, ℕ, zero, suc, ◌+◌, ◌<◌, ◌≤◌, Bool, true, false, not, ◌&&◌, ◌==◌, List, [], ◌∷◌, ◌++◌, length, take, drop, get_or, set, slice_get, Option, Some, None, if◌then◌else◌, refl, sym, ap, ◌∙◌, subst, inl, inr, arith}
use Rattle.std.proofs.lemmas.Bool.{cases_eq, cases_lt, eq-eqb}
use Rattle.std.proofs.lemmas.Grind.{common_steps}
use Rattle.std.proofs.lemmas.Option.{slice_get_past}
use Rattle.std.specs.Option.{option_map_or}
use Rattle.std.specs.Prelude.{nat_lt, option_map}
use Rattle.engine_types.specs.declared.Action.{Action}
use Rattle.engine_types.specs.declared.ActionKind.{ActionKind}
use Rattle.engine_types.specs.declared.Condition.{Condition}
use Rattle.engine_types.specs.declared.Declared.{Declared}
use Rattle.engine_types.specs.declared.Need.{Need}
use Rattle.engine_types.specs.declared.Slot.{Slot}
use Rattle.run_model.specs.EngineRules.{Among}
use Rattle.run_model.specs.Journals.{Setup}
use Rattle.run_model.specs.Plans.{IsWhole, kind_of, slot_at, slot_needs}
use Rattle.run_model.proofs.DistinctLists.{from_place}
use Rattle.ledger_rows.specs.Counts.{counted}
use Rattle.ledger_rows.specs.Facts.{requires_of, same_condition}
use Rattle.ledger_rows.specs.Reports.{AreAsking, ArePreferring, AreRequiring}
use Rattle.ledger_rows.proofs.Watching.{differs}
use Rattle.plan_needs.proofs.Counting.{counted_last, counted_more, kind_read, some_counted}
use Rattle.start_rows.specs.Asks.{AreAskingRows, asked_by, asks, with_ask}
use Rattle.start_rows.specs.declared.ask.Ask.{Ask}
use Rattle.start_rows.proofs.Counts.{counted_none, counted_there}

-- a need asks for a condition of a slot where it asks for the condition, and names the slot
asked_split : (ask : Ask) (s : ℕ) (c : Condition) (need : Need) → asked_by ask s c need ≡ (asks ask c need && (need.slot == s))
asked_split Ask.Any s c need = swapped (need.slot == s) (same_condition need.condition c)
  where
    swapped : (t u : Bool) → (t && u) ≡ (u && t)
    swapped true true = refl
    swapped true false = refl
    swapped false true = refl
    swapped false false = refl
asked_split Ask.Required s c need = swapped need.required (need.slot == s) (same_condition need.condition c)
  where
    swapped : (r t u : Bool) → (r && (t && u)) ≡ ((r && u) && t)
    swapped true true true = refl
    swapped true true false = refl
    swapped true false true = refl
    swapped true false false = refl
    swapped false t u = refl
asked_split Ask.Optional s c need = swapped (not need.required) (need.slot == s) (same_condition need.condition c)
  where
    swapped : (r t u : Bool) → (r && (t && u)) ≡ ((r && u) && t)
    swapped true true true = refl
    swapped true true false = refl
    swapped true false true = refl
    swapped true false false = refl
    swapped false t u = refl

-- one need more
with_ask_counts : (ask : Ask) (c : Condition) (need : Need) (action : ℕ) (rows : List (List ℕ)) (s a : ℕ) → s < length rows
    → counted (λ b. b == a) (get_or (with_ask ask c need action rows) s []) ≡ counted (λ b. b == a) (get_or rows s []) + (if action == a then (if asked_by ask s c need then 1 else 0) else 0)
with_ask_counts ask c need action rows s a l = on (asks ask c need) refl
  where
    none : (t : Bool) (n : ℕ) → n ≡ n + (if t then 0 else 0)
    none true n = omega arith
    none false n = omega arith

    one : (t : Bool) (n : ℕ) → n + (if t then 1 else 0) ≡ n + (if t then (if true then 1 else 0) else 0)
    one true n = refl
    one false n = refl

    unasked : asked_by ask s c need ≡ false → counted (λ b. b == a) (get_or rows s []) ≡ counted (λ b. b == a) (get_or rows s []) + (if action == a then (if asked_by ask s c need then 1 else 0) else 0)
    unasked e = none (action == a) (counted (λ b. b == a) (get_or rows s [])) ∙ sym (ap (λ (t : Bool). counted (λ b. b == a) (get_or rows s []) + (if action == a then (if t then 1 else 0) else 0)) e)

    on : (t : Bool) → asks ask c need ≡ t
        → counted (λ b. b == a) (get_or (if t then set rows need.slot (get_or rows need.slot [] ++ action ∷ []) else rows) s [])
        ≡ counted (λ b. b == a) (get_or rows s []) + (if action == a then (if asked_by ask s c need then 1 else 0) else 0)
    on false e = unasked (asked_split ask s c need ∙ ap (λ (t : Bool). t && (need.slot == s)) e)
    on true e = at (cases_eq need.slot s)
      where
        at : (need.slot ≡ s) ⊎ (need.slot ≡ s → ⊥)
            → counted (λ b. b == a) (get_or (set rows need.slot (get_or rows need.slot [] ++ action ∷ [])) s [])
            ≡ counted (λ b. b == a) (get_or rows s []) + (if action == a then (if asked_by ask s c need then 1 else 0) else 0)
        at (inl k) =
            let here : get_or (set rows need.slot (get_or rows need.slot [] ++ action ∷ [])) s [] ≡ get_or rows need.slot [] ++ action ∷ [] = grind (arith, common_steps) in
            let asked : asked_by ask s c need ≡ true = asked_split ask s c need ∙ ap (λ (t : Bool). t && (need.slot == s)) e ∙ eq-eqb need.slot s k in
            ap (counted (λ b. b == a)) (here ∙ ap (λ (i : ℕ). get_or rows i [] ++ action ∷ []) k)
            ∙ counted_last (λ b. b == a) (get_or rows s []) action
            ∙ one (action == a) (counted (λ b. b == a) (get_or rows s []))
            ∙ sym (ap (λ (t : Bool). counted (λ b. b == a) (get_or rows s []) + (if action == a then (if t then 1 else 0) else 0)) asked)
        at (inr n) =
            let there : get_or (set rows need.slot (get_or rows need.slot [] ++ action ∷ [])) s [] ≡ get_or rows s [] = grind (arith, common_steps) in
            ap (counted (λ b. b == a)) there
            ∙ unasked (asked_split ask s c need ∙ ap (λ (t : Bool). t && (need.slot == s)) e ∙ differs need.slot s n)

pub asked_more : (ask : Ask) (c : Condition) (old now next : List (List ℕ)) (needs : List Need) (i action : ℕ) (d : Need) → i < length needs → length now ≡ length old
    → next ≡ with_ask ask c (get_or needs i d) action now
    → ((s a : ℕ) → s < length old → counted (λ b. b == a) (get_or now s []) ≡ counted (λ b. b == a) (get_or old s []) + (if action == a then counted (asked_by ask s c) (take i needs) else 0))
    → (s a : ℕ) → s < length old → counted (λ b. b == a) (get_or next s []) ≡ counted (λ b. b == a) (get_or old s []) + (if action == a then counted (asked_by ask s c) (take (i + 1) needs) else 0)
asked_more ask c old now next needs i action d l size e so_far s a m =
    ap (λ (rows : List (List ℕ)). counted (λ b. b == a) (get_or rows s [])) e
    ∙ with_ask_counts ask c (get_or needs i d) action now s a (omega (arith, size, m))
    ∙ close (action == a) _ _ _ _ _ (so_far s a m) (counted_more (asked_by ask s c) needs i d l)
  where
    close : (t : Bool) (m n k j c : ℕ) → m ≡ n + (if t then k else 0) → c ≡ k + j → m + (if t then j else 0) ≡ n + (if t then c else 0)
    close true m n k j c h e = omega (arith, h, e)
    close false m n k j c h e = omega (arith, h, e)

-- the rows of the first actions
pub record Asked (ask : Ask) (c : Condition) (declared : Declared) (actions : List Action) (rows : List (List ℕ)) (at : ℕ) : Type 0 where
  pub size : length rows ≡ length declared.slots
  pub done : (s a : ℕ) → s < length declared.slots → a < at → counted (λ b. b == a) (get_or rows s []) ≡ counted (asked_by ask s c) (slot_needs declared (kind_of actions a))
  pub left : (s a : ℕ) → s < length declared.slots → at ≤ a → counted (λ b. b == a) (get_or rows s []) ≡ 0

-- one action more
pub action_more : (ask : Ask) (c : Condition) (declared : Declared) (actions : List Action) (rows next : List (List ℕ)) (at : ℕ) (action : Action) → at < length actions → action ≡ get_or actions at action
    → Asked ask c declared actions rows at → length next ≡ length rows
    → ((s a : ℕ) → s < length rows → counted (λ b. b == a) (get_or next s []) ≡ counted (λ b. b == a) (get_or rows s []) + (if at == a then counted (asked_by ask s c) (slot_needs declared (Some action.kind)) else 0))
    → Asked ask c declared actions next (at + 1)
action_more ask c declared actions rows next at action l read so_far size more = record {
  size = size ∙ so_far.size;
  done = λ s a m k. on s a m k (cases_eq at a);
  left = λ s a m k. let e = more s a (inside s m) in let z = so_far.left s a m (omega (arith, k)) in
      e ∙ ap (λ (t : Bool). counted (λ b. b == a) (get_or rows s []) + (if t then counted (asked_by ask s c) (slot_needs declared (Some action.kind)) else 0)) (differs at a (λ (s : at ≡ a). omega (arith, k, s)))
      ∙ (let n : counted (λ b. b == a) (get_or rows s []) + 0 ≡ 0 = omega (arith, z) in n);
}
  where
    inside : (s : ℕ) → s < length declared.slots → s < length rows
    inside s m = let k = so_far.size in omega (arith, m, k)

    kind_is : kind_of actions at ≡ Some action.kind
    kind_is = ap (option_map (λ (x : Action). x.kind)) (kind_read actions at action l read)

    on : (s a : ℕ) → s < length declared.slots → a < at + 1 → (at ≡ a) ⊎ (at ≡ a → ⊥) → counted (λ b. b == a) (get_or next s []) ≡ counted (asked_by ask s c) (slot_needs declared (kind_of actions a))
    on s a m k (inl e) =
        let z = so_far.left s a m (omega (arith, e)) in
        more s a (inside s m) ∙ ap (λ (t : Bool). counted (λ b. b == a) (get_or rows s []) + (if t then counted (asked_by ask s c) (slot_needs declared (Some action.kind)) else 0)) (eq-eqb at a e)
        ∙ (let n : counted (λ b. b == a) (get_or rows s []) + counted (asked_by ask s c) (slot_needs declared (Some action.kind)) ≡ counted (asked_by ask s c) (slot_needs declared (Some action.kind)) = omega (arith, z) in n)
        ∙ ap (λ (o : Option ActionKind). counted (asked_by ask s c) (slot_needs declared o)) (sym kind_is ∙ ap (kind_of actions) e)
    on s a m k (inr n) =
        more s a (inside s m) ∙ ap (λ (t : Bool). counted (λ b. b == a) (get_or rows s []) + (if t then counted (asked_by ask s c) (slot_needs declared (Some action.kind)) else 0)) (differs at a n)
        ∙ (let z : counted (λ b. b == a) (get_or rows s []) + 0 ≡ counted (λ b. b == a) (get_or rows s []) = omega arith in z)
        ∙ so_far.done s a m (below k n)
      where
        below : a < at + 1 → (at ≡ a → ⊥) → a < at
        below k n = by (cases_lt a at)
          where
            by : (a < at) ⊎ (at ≤ a) → a < at
            by (inl h) = h
            by (inr h) = absurd (n (let e : at ≡ a = omega (arith, k, h) in e))

-- the same, from rows and needs that are equal to those
pub action_more_by : (ask : Ask) (c : Condition) (declared : Declared) (actions : List Action) (rows next begun : List (List ℕ)) (needs : List Need) (at : ℕ) (action : Action) → at < length actions → action ≡ get_or actions at action
    → Asked ask c declared actions rows at → begun ≡ rows → needs ≡ slot_needs declared (Some action.kind) → length next ≡ length begun
    → ((s a : ℕ) → s < length begun → counted (λ b. b == a) (get_or next s []) ≡ counted (λ b. b == a) (get_or begun s []) + (if at == a then counted (asked_by ask s c) needs else 0))
    → Asked ask c declared actions next (at + 1)
action_more_by ask c declared actions rows next begun needs at action l read so_far same are size more = action_more ask c declared actions rows next at action l read so_far (size ∙ ap length same)
    (subst (λ (xs : List (List ℕ)). (s a : ℕ) → s < length xs → counted (λ b. b == a) (get_or next s []) ≡ counted (λ b. b == a) (get_or xs s []) + (if at == a then counted (asked_by ask s c) (slot_needs declared (Some action.kind)) else 0)) same
    (subst (λ (ns : List Need). (s a : ℕ) → s < length begun → counted (λ b. b == a) (get_or next s []) ≡ counted (λ b. b == a) (get_or begun s []) + (if at == a then counted (asked_by ask s c) ns else 0)) are more))

-- rows that were written as a whole
pub written : (new old : List (List ℕ)) (n : ℕ) → length new ≡ length old → n ≡ length old → take n (new ++ drop (length new) old) ≡ new
written [] [] zero e f = refl
written [] [] (suc n) e f = absurd (omega (arith, f))
written [] (y ∷ ys) n e f = absurd (omega (arith, e))
written (x ∷ xs) [] n e f = absurd (omega (arith, e))
written (x ∷ xs) (y ∷ ys) zero e f = absurd (omega (arith, f))
written (x ∷ xs) (y ∷ ys) (suc n) e f = ap (λ (zs : List (List ℕ)). x ∷ zs) (written xs ys n (omega (arith, e)) (omega (arith, f)))

-- what isn't there asks for nothing
pub asked_past : (ask : Ask) (s : ℕ) (c : Condition) (declared : Declared) (actions : List Action) (a : ℕ) → length actions ≤ a → counted (asked_by ask s c) (slot_needs declared (kind_of actions a)) ≡ 0
asked_past ask s c declared actions a l = ap (λ (o : Option Action). counted (asked_by ask s c) (slot_needs declared (option_map (λ (x : Action). x.kind) o))) (slice_get_past actions a l)

-- all of them
pub asked_all : (ask : Ask) (c : Condition) (declared : Declared) (actions : List Action) (rows : List (List ℕ)) (at : ℕ) → length actions ≤ at → Asked ask c declared actions rows at
    → (s a : ℕ) → s < length declared.slots → counted (λ b. b == a) (get_or rows s []) ≡ counted (asked_by ask s c) (slot_needs declared (kind_of actions a))
asked_all ask c declared actions rows at end so_far s a m = on (cases_lt a at)
  where
    on : (a < at) ⊎ (at ≤ a) → counted (λ b. b == a) (get_or rows s []) ≡ counted (asked_by ask s c) (slot_needs declared (kind_of actions a))
    on (inl l) = so_far.done s a m l
    on (inr l) = so_far.left s a m l ∙ sym (asked_past ask s c declared actions a (omega (arith, end, l)))

module _ (setup : Setup) (whole : IsWhole setup.declared) where
  -- a need names a slot that is there
  named_there : (kind : Option ActionKind) (need : Need) → Among (slot_needs setup.declared kind) need → need.slot < length setup.declared.slots
  named_there None need m = absurd m
  named_there (Some (ActionKind.StartSlot t)) need m = by (slot_at setup.declared t) refl m
    where
      by : (o : Option Slot) → slot_at setup.declared t ≡ o → Among (option_map_or (λ slot. slot.needs) o []) need → need.slot < length setup.declared.slots
      by None e m = absurd m
      by (Some slot) e m = whole.needs slot need (from_place setup.declared.slots t slot e) m
  named_there (Some kind) need m = absurd m

  -- what is no slot is asked for by none
  pub all_asking : (ask : Ask) (c : Condition) (rows : List (List ℕ)) → length rows ≡ length setup.declared.slots → AreAskingRows ask c setup rows
      → (s a : ℕ) → counted (λ b. b == a) (get_or rows s []) ≡ counted (asked_by ask s c) (slot_needs setup.declared (kind_of setup.actions a))
  all_asking ask c rows size are s a = on (cases_lt s (length setup.declared.slots))
    where
      unasked : length setup.declared.slots ≤ s → (need : Need) → Among (slot_needs setup.declared (kind_of setup.actions a)) need → asked_by ask s c need ≡ false
      unasked l need m = asked_split ask s c need ∙ ap (λ (t : Bool). asks ask c need && t) (differs need.slot s (λ (e : need.slot ≡ s). let k = named_there (kind_of setup.actions a) need m in omega (arith, l, k, e)))
          ∙ no_both (asks ask c need)
        where
          no_both : (t : Bool) → (t && false) ≡ false
          no_both true = refl
          no_both false = refl

      on : (s < length setup.declared.slots) ⊎ (length setup.declared.slots ≤ s) → counted (λ b. b == a) (get_or rows s []) ≡ counted (asked_by ask s c) (slot_needs setup.declared (kind_of setup.actions a))
      on (inl l) = are s a l
      on (inr l) =
          let e : get_or rows s [] ≡ [] = grind (arith, common_steps, size) in
          ap (counted (λ b. b == a)) e ∙ sym (counted_none (asked_by ask s c) (slot_needs setup.declared (kind_of setup.actions a)) (unasked l))

-- only what is there stands in such a row
pub asking_there : (setup : Setup) (ask : Ask) (s : ℕ) (c : Condition) (row : List ℕ)
    → ((a : ℕ) → counted (λ b. b == a) row ≡ counted (asked_by ask s c) (slot_needs setup.declared (kind_of setup.actions a)))
    → (i a : ℕ) → slice_get row i ≡ Some a → a < length setup.actions
asking_there setup ask s c row each i a e = by (cases_lt a (length setup.actions))
  where
    by : (a < length setup.actions) ⊎ (length setup.actions ≤ a) → a < length setup.actions
    by (inl l) = l
    by (inr l) = absurd (counted_there row i a e (each a ∙ asked_past ask s c setup.declared setup.actions a l))

pub asking : (setup : Setup) (c : Condition) (rows : List (List ℕ)) (s : ℕ) → IsWhole setup.declared → length rows ≡ length setup.declared.slots → AreAskingRows Ask.Any c setup rows → AreAsking setup s c (get_or rows s [])
asking setup c rows s whole size are = let all = all_asking setup whole Ask.Any c rows size are s in record { there = asking_there setup Ask.Any s c (get_or rows s []) all; each = all }

pub preferring : (setup : Setup) (c : Condition) (rows : List (List ℕ)) (s : ℕ) → IsWhole setup.declared → length rows ≡ length setup.declared.slots → AreAskingRows Ask.Optional c setup rows → ArePreferring setup s c (get_or rows s [])
preferring setup c rows s whole size are = let all = all_asking setup whole Ask.Optional c rows size are s in record { there = asking_there setup Ask.Optional s c (get_or rows s []) all; each = all }

pub requiring : (setup : Setup) (c : Condition) (rows : List (List ℕ)) (s : ℕ) → IsWhole setup.declared → length rows ≡ length setup.declared.slots → AreAskingRows Ask.Required c setup rows → AreRequiring setup s c (get_or rows s [])
requiring setup c rows s whole size are = let all = all_asking setup whole Ask.Required c rows size are s in record {
  there = asking_there setup Ask.Required s c (get_or rows s []) all;
  each = λ a. some_counted (λ b. b == a) (get_or rows s []) ∙ ap (nat_lt 0) (all a) ∙ sym (some_counted (requires_of s c) (slot_needs setup.declared (kind_of setup.actions a)));
}
