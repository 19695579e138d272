-- Needs that ask for no report any more, in the rows of slots.
use Rattle.std.proofs.Common.{◌≡◌, ◌⊎◌, ℕ, zero, suc, ◌+◌, ◌-◌, ◌<◌, ◌≤◌, Bool, true, false, cond, not, ◌&&◌, ◌||◌, ◌==◌, List, [], ◌∷◌, length, take, get_or, set, slice_get, Option, Some, None, if◌then◌else◌, refl, sym, ap, ◌∙◌, subst, inl, inr, arith}
use Rattle.std.proofs.lemmas.Bool.{cases_eq, eq-eqb, eqb-true, true≢false}
use Rattle.std.proofs.lemmas.Grind.{common_steps}
use Rattle.std.proofs.lemmas.List.{get_or-set_other, get_or-set_same}
use Rattle.std.proofs.lemmas.Option.{slice_get-get_or}
use Rattle.std.specs.Option.{option_map_or}
use Rattle.engine_types.specs.declared.Action.{Action}
use Rattle.engine_types.specs.declared.ActionKind.{ActionKind}
use Rattle.engine_types.specs.declared.Condition.{Condition}
use Rattle.engine_types.specs.declared.Declared.{Declared}
use Rattle.engine_types.specs.declared.Entry.{Entry}
use Rattle.engine_types.specs.declared.Need.{Need}
use Rattle.engine_types.specs.declared.Slot.{Slot}
use Rattle.run_model.specs.Conditions.{is_pending, is_reported}
use Rattle.run_model.specs.EngineRules.{Among}
use Rattle.run_model.specs.Journals.{Setup}
use Rattle.run_model.specs.Plans.{IsWhole, kind_of, slot_needs}
use Rattle.ledger_rows.specs.Counts.{counted}
use Rattle.ledger_rows.specs.Facts.{askers, asks_of, same_condition}
use Rattle.ledger_rows.proofs.Askers.{askers_fall}
use Rattle.ledger_rows.proofs.Steps.{functions_same}
use Rattle.ledger_rows.proofs.Watching.{differs}
use Rattle.slot_rows.specs.Keys.{no_slot}
use Rattle.slot_rows.specs.Slots.{AreSlots, IsSlotRow}
use Rattle.slot_rows.specs.declared.slot_row.SlotRow.{SlotRow}
use Rattle.ledger_ends.specs.Retiring.{AreSlotsWhile, IsRowWhile, Retires, askers_on, unasked, without_askers}

-- one need more
counted_more : {X : Type 0} (p : X → Bool) (xs : List X) (i : ℕ) (d : X) → i < length xs → counted p (take (i + 1) xs) ≡ counted p (take i xs) + cond {A = ℕ} (p (get_or xs i d)) 1 0
counted_more p [] i d l = absurd (omega arith)
counted_more p (x ∷ xs) zero d l = on (p x)
  where
    on : (t : Bool) → cond {A = ℕ} t (0 + 1) 0 ≡ 0 + cond {A = ℕ} t 1 0
    on true = refl
    on false = refl
counted_more {X} p (x ∷ xs) (suc i) d l = let h : i < length xs = omega arith in
    subst (λ (k : ℕ). counted p (take k (x ∷ xs)) ≡ counted p (take (suc i) (x ∷ xs)) + cond {A = ℕ} (p (get_or xs i d)) 1 0) (let e : suc (i + 1) ≡ suc i + 1 = omega arith in e)
    (on (p x) (counted p (take (i + 1) xs)) (counted p (take i xs)) (cond {A = ℕ} (p (get_or xs i d)) 1 0) (counted_more p xs i d h))
  where
    on : (t : Bool) (a b c : ℕ) → a ≡ b + c → cond t (a + 1) a ≡ cond t (b + 1) b + c
    on true a b c e = omega (arith, e)
    on false a b c e = e

-- no part has more
counted_part : {X : Type 0} (p : X → Bool) (xs : List X) (i : ℕ) → counted p (take i xs) ≤ counted p xs
counted_part p [] zero = omega arith
counted_part p [] (suc i) = omega arith
counted_part p (x ∷ xs) zero = omega arith
counted_part {X} p (x ∷ xs) (suc i) = on (p x) (counted_part p xs i)
  where
    on : (t : Bool) → counted p (take i xs) ≤ counted p xs → cond t (counted p (take i xs) + 1) (counted p (take i xs)) ≤ cond t (counted p xs + 1) (counted p xs)
    on true e = omega (arith, e)
    on false e = e

-- one asker fewer, where the condition is the same
one_less : (a c : Condition) (row : SlotRow) → is_reported c ≡ true → cond {A = ℕ} (same_condition a c) 1 0 ≤ askers_on c row → askers_on c (unasked a row) + cond {A = ℕ} (same_condition a c) 1 0 ≡ askers_on c row
one_less Condition.Healthy Condition.Healthy row r l = omega (arith, l)
one_less Condition.Completed Condition.Healthy row r l = omega arith
one_less Condition.Started Condition.Healthy row r l = omega arith
one_less Condition.Running Condition.Healthy row r l = omega arith
one_less Condition.Healthy Condition.Completed row r l = omega arith
one_less Condition.Completed Condition.Completed row r l = omega (arith, l)
one_less Condition.Started Condition.Completed row r l = omega arith
one_less Condition.Running Condition.Completed row r l = omega arith
one_less a Condition.Started row r l = absurd (true≢false (sym r))
one_less a Condition.Running row r l = absurd (true≢false (sym r))

others_less : (a : Condition) (row : SlotRow) → without_askers (unasked a row) ≡ without_askers row
others_less Condition.Healthy row = refl
others_less Condition.Completed row = refl
others_less Condition.Started row = refl
others_less Condition.Running row = refl

same_reported : (c : Condition) → is_reported c ≡ true → same_condition c c ≡ true
same_reported Condition.Healthy r = refl
same_reported Condition.Completed r = refl
same_reported Condition.Started r = refl
same_reported Condition.Running r = refl

module _ (needs : List Need) (i : ℕ) (d : Need) (first slots : List SlotRow) (l : i < length needs) (there : (get_or needs i d).slot < length first)
    (enough : (s : ℕ) (c : Condition) → s < length first → is_reported c ≡ true → counted (asks_of s c) needs ≤ askers_on c (get_or first s no_slot))
    (so_far : Retires (take i needs) first slots) where
  abbrev need : Need
  need = get_or needs i d

  -- as many ask still as this need asks
  left_over : (s : ℕ) (c : Condition) → s < length first → is_reported c ≡ true → cond {A = ℕ} (asks_of s c need) 1 0 ≤ askers_on c (get_or slots s no_slot)
  left_over s c m r =
      let a = counted_more (asks_of s c) needs i d l in
      let b = counted_part (asks_of s c) needs (i + 1) in
      let e = enough s c m r in
      let f = so_far.asked s c m r in
      omega (arith, a, b, e, f)

  asks_as : (s : ℕ) (c : Condition) → need.slot ≡ s → asks_of s c need ≡ same_condition need.condition c
  asks_as s c e = ap (λ (t : Bool). t && same_condition need.condition c) (eq-eqb need.slot s e)

  pub still_asked : is_reported need.condition ≡ true → 1 ≤ askers_on need.condition (get_or slots need.slot no_slot)
  still_asked r =
      let a = left_over need.slot need.condition there r in
      let b : cond {A = ℕ} (asks_of need.slot need.condition need) 1 0 ≡ 1 = ap (λ (t : Bool). cond {A = ℕ} t 1 0) (asks_as need.slot need.condition refl ∙ same_reported need.condition r) in
      omega (arith, a, b)

  pub retires_more : (new : List SlotRow) → new ≡ set slots need.slot (unasked need.condition (get_or slots need.slot no_slot)) → Retires (take (i + 1) needs) first new
  retires_more new e = record {
    size = let k : length (set slots need.slot (unasked need.condition (get_or slots need.slot no_slot))) ≡ length slots = grind (arith, common_steps) in ap length e ∙ k ∙ so_far.size;
    asked = λ s c m r. asked_by s c m r (cases_eq need.slot s);
    others = λ s. other_by s (cases_eq need.slot s);
  }
    where
      inside : need.slot < length slots
      inside = omega (arith, there, so_far.size)

      here : (s : ℕ) → need.slot ≡ s → get_or new s no_slot ≡ unasked need.condition (get_or slots s no_slot)
      here s k = subst (λ (t : ℕ). get_or new t no_slot ≡ unasked need.condition (get_or slots t no_slot)) k
          (ap (λ (rows : List SlotRow). get_or rows need.slot no_slot) e ∙ get_or-set_same slots need.slot (unasked need.condition (get_or slots need.slot no_slot)) no_slot inside)

      elsewhere : (s : ℕ) → (need.slot ≡ s → ⊥) → get_or new s no_slot ≡ get_or slots s no_slot
      elsewhere s n = ap (λ (rows : List SlotRow). get_or rows s no_slot) e ∙ get_or-set_other slots need.slot s (unasked need.condition (get_or slots need.slot no_slot)) no_slot (λ k. n (sym k))

      asked_by : (s : ℕ) (c : Condition) → s < length first → is_reported c ≡ true → (need.slot ≡ s) ⊎ (need.slot ≡ s → ⊥)
          → askers_on c (get_or new s no_slot) + counted (asks_of s c) (take (i + 1) needs) ≡ askers_on c (get_or first s no_slot)
      asked_by s c m r (inl k) =
          let a = counted_more (asks_of s c) needs i d l in
          let t : cond {A = ℕ} (asks_of s c need) 1 0 ≡ cond {A = ℕ} (same_condition need.condition c) 1 0 = ap (λ (b : Bool). cond {A = ℕ} b 1 0) (asks_as s c k) in
          let q = left_over s c m r in
          let o = one_less need.condition c (get_or slots s no_slot) r (omega (arith, q, t)) in
          let h : askers_on c (get_or new s no_slot) ≡ askers_on c (unasked need.condition (get_or slots s no_slot)) = ap (askers_on c) (here s k) in
          let f = so_far.asked s c m r in
          omega (arith, a, t, o, h, f)
      asked_by s c m r (inr n) =
          let a = counted_more (asks_of s c) needs i d l in
          let t : cond {A = ℕ} (asks_of s c need) 1 0 ≡ 0 = ap (λ (b : Bool). cond {A = ℕ} (b && same_condition need.condition c) 1 0) (differs need.slot s n) in
          let h : askers_on c (get_or new s no_slot) ≡ askers_on c (get_or slots s no_slot) = ap (askers_on c) (elsewhere s n) in
          let f = so_far.asked s c m r in
          omega (arith, a, t, h, f)

      other_by : (s : ℕ) → (need.slot ≡ s) ⊎ (need.slot ≡ s → ⊥) → without_askers (get_or new s no_slot) ≡ without_askers (get_or first s no_slot)
      other_by s (inl k) = ap without_askers (here s k) ∙ others_less need.condition (get_or slots s no_slot) ∙ so_far.others s
      other_by s (inr n) = ap without_askers (elsewhere s n) ∙ so_far.others s

-- none of these needs yet
pub retires_none : (slots : List SlotRow) → Retires [] slots slots
retires_none slots = record { size = refl; asked = λ s c m r. let e : askers_on c (get_or slots s no_slot) + 0 ≡ askers_on c (get_or slots s no_slot) = omega arith in e; others = λ s. refl }

-- all needs of a start are of slots that are there
pub needs_there : (declared : Declared) (kind : Option ActionKind) (i : ℕ) (need : Need) → IsWhole declared → slice_get (slot_needs declared kind) i ≡ Some need → need.slot < length declared.slots
needs_there declared None i need whole e = absurd (cc e)
needs_there declared (Some (ActionKind.StartSlot s)) i need whole e = by (slice_get declared.slots s) refl e
  where
    among : {X : Type 0} (xs : List X) (j : ℕ) (x : X) → slice_get xs j ≡ Some x → Among xs x
    among [] j x h = absurd (cc h)
    among (y ∷ ys) zero x h = let k : y ≡ x = cc h in inl (sym k)
    among (y ∷ ys) (suc j) x h = inr (among ys j x h)

    by : (o : Option Slot) → slice_get declared.slots s ≡ o → slice_get (option_map_or (λ slot. slot.needs) o []) i ≡ Some need → need.slot < length declared.slots
    by None h k = absurd (cc k)
    by (Some slot) h k = whole.needs slot need (among declared.slots s slot h) (among slot.needs i need k)
needs_there declared (Some kind) i need whole e = absurd (cc e)

-- the two ways to say it
pub while_of : (setup : Setup) (past : List Entry) (rows : List SlotRow) → AreSlots setup past rows → AreSlotsWhile setup past (is_pending setup past) rows
while_of setup past rows are = record { size = are.size; each = λ s l. row s (get_or rows s no_slot) (are.each s l) }
  where
    row : (s : ℕ) (r : SlotRow) → IsSlotRow setup past s r → IsRowWhile setup past (is_pending setup past) s r
    row s r is = record {
      counts_is = is.counts_is;
      out_is = is.out_is;
      polls_is = is.polls_is;
      healthy_is = is.healthy_is;
      completed_is = is.completed_is;
      running_is = is.running_is;
      asked_is = asked;
      goal_is = is.goal_is;
    }
      where
        asked : (c : Condition) → is_reported c ≡ true → askers_on c r ≡ askers setup (is_pending setup past) s c
        asked Condition.Healthy h = is.healthy_askers_is
        asked Condition.Completed h = is.completed_askers_is
        asked Condition.Started h = absurd (true≢false (sym h))
        asked Condition.Running h = absurd (true≢false (sym h))

pub of_while : (setup : Setup) (past : List Entry) (rows : List SlotRow) → AreSlotsWhile setup past (is_pending setup past) rows → AreSlots setup past rows
of_while setup past rows are = record { size = are.size; each = λ s l. row s (get_or rows s no_slot) (are.each s l) }
  where
    row : (s : ℕ) (r : SlotRow) → IsRowWhile setup past (is_pending setup past) s r → IsSlotRow setup past s r
    row s r is = record {
      counts_is = is.counts_is;
      out_is = is.out_is;
      polls_is = is.polls_is;
      healthy_is = is.healthy_is;
      completed_is = is.completed_is;
      running_is = is.running_is;
      healthy_askers_is = is.asked_is Condition.Healthy refl;
      completed_askers_is = is.asked_is Condition.Completed refl;
      goal_is = is.goal_is;
    }

pub while_same : (setup : Setup) (past : List Entry) (p q : ℕ → Bool) (rows : List SlotRow) → ((a : ℕ) → p a ≡ q a) → AreSlotsWhile setup past p rows → AreSlotsWhile setup past q rows
while_same setup past p q rows each are = subst (λ (f : ℕ → Bool). AreSlotsWhile setup past f rows) (functions_same p q each) are

-- one action asks no more
module _ (setup : Setup) (past : List Entry) (p : ℕ → Bool) (x : ℕ) (slots : List SlotRow) (l : x < length setup.actions) (was : p x ≡ true) (are : AreSlotsWhile setup past p slots) where
  -- each need of it is asked for
  pub needs_enough : (s : ℕ) (c : Condition) → s < length slots → is_reported c ≡ true → counted (asks_of s c) (slot_needs setup.declared (kind_of setup.actions x)) ≤ askers_on c (get_or slots s no_slot)
  needs_enough s c m r =
      let f = askers_fall setup p (λ a. p a && not (a == x)) x s c l was gone stays in
      let a = (are.each s (omega (arith, m, are.size))).asked_is c r in
      omega (arith, f, a)
    where
      and_false : (t : Bool) → (t && false) ≡ false
      and_false true = refl
      and_false false = refl

      and_true : (t : Bool) → (t && true) ≡ t
      and_true true = refl
      and_true false = refl

      gone : (p x && not (x == x)) ≡ false
      gone = ap (λ (t : Bool). p x && not t) (eq-eqb x x refl) ∙ and_false (p x)

      stays : (a : ℕ) → (a ≡ x → ⊥) → (p a && not (a == x)) ≡ p a
      stays a n = ap (λ (t : Bool). p a && not t) (differs a x n) ∙ and_true (p a)

  pub retire_one : (q : ℕ → Bool) (new : List SlotRow) → q x ≡ false → ((a : ℕ) → (a ≡ x → ⊥) → q a ≡ p a) → Retires (slot_needs setup.declared (kind_of setup.actions x)) slots new → AreSlotsWhile setup past q new
  retire_one q new now others ret = record { size = ret.size ∙ are.size; each = λ s m. row s m (are.each s m) (ret.others s) }
    where
      row : (s : ℕ) → s < length setup.declared.slots → IsRowWhile setup past p s (get_or slots s no_slot) → without_askers (get_or new s no_slot) ≡ without_askers (get_or slots s no_slot)
          → IsRowWhile setup past q s (get_or new s no_slot)
      row s m old o = record {
        counts_is = ap (λ (r : SlotRow). r.counts) o ∙ old.counts_is;
        out_is = ap (λ (r : SlotRow). r.out) o ∙ old.out_is;
        polls_is = ap (λ (r : SlotRow). r.polls) o ∙ old.polls_is;
        healthy_is = ap (λ (r : SlotRow). r.healthy) o ∙ old.healthy_is;
        completed_is = ap (λ (r : SlotRow). r.completed) o ∙ old.completed_is;
        running_is = ap (λ (r : SlotRow). r.running) o ∙ old.running_is;
        asked_is = λ c r.
            let f = askers_fall setup p q x s c l was now others in
            let k = ret.asked s c (omega (arith, m, are.size)) r in
            let a = old.asked_is c r in
            omega (arith, f, k, a);
        goal_is = ap (λ (r : SlotRow). r.goal) o ∙ old.goal_is;
      }

-- the need at a place is of a slot that is there
pub there_now : (needs : List Need) (i : ℕ) (d : Need) (n m : ℕ) → i < length needs → ((j : ℕ) (need : Need) → slice_get needs j ≡ Some need → need.slot < n) → m ≡ n → (get_or needs i d).slot < m
there_now needs i d n m l there e = let k = there i (get_or needs i d) (slice_get-get_or needs i d l) in omega (arith, k, e)

-- the needs are those of an action, in a run that has these
pub needs_same : (declared other : Declared) (actions more : List Action) (a : ℕ) (needs : List Need) → needs ≡ slot_needs declared (kind_of actions a) → declared ≡ other → actions ≡ more → needs ≡ slot_needs other (kind_of more a)
needs_same declared other actions more a needs e d k = e ∙ ap (λ (x : Declared). slot_needs x (kind_of actions a)) d ∙ ap (λ (xs : List Action). slot_needs other (kind_of xs a)) k

-- what a loop over needs reads past their end
abbrev pub no_need : Need
no_need = record { slot = 0; condition = Condition.Started; required = false; restart = false }
