-- The rows of actions rest on reports that needs ask for alone.
use Rattle.std.proofs.Common.{◌≡◌, ◌⊎◌, ℕ, ◌+◌, Bool, true, false, cond, not, ◌&&◌, ◌||◌, List, [], ◌∷◌, Option, Some, None, refl, sym, ap, ◌∙◌, subst, inl, inr, arith}
use Rattle.std.proofs.lemmas.Bool.{true≢false}
use Rattle.std.specs.Option.{option_map_or}
use Rattle.engine_types.specs.declared.ActionKind.{ActionKind}
use Rattle.engine_types.specs.declared.Condition.{Condition}
use Rattle.engine_types.specs.declared.Declared.{Declared}
use Rattle.engine_types.specs.declared.Entry.{Entry}
use Rattle.engine_types.specs.declared.Need.{Need}
use Rattle.engine_types.specs.declared.Slot.{Slot}
use Rattle.run_model.specs.Conditions.{is_reported}
use Rattle.run_model.specs.EngineRules.{Among}
use Rattle.run_model.specs.Journals.{Setup, Standing, is_free, is_well}
use Rattle.run_model.specs.Plans.{IsWhole, is_running, kind_of, needs_of, slot_at, slot_needs}
use Rattle.ledger_rows.specs.ActionRows.Values.{Actions}
use Rattle.ledger_rows.specs.Counts.{counted}
use Rattle.ledger_rows.specs.Facts.{Facts, has_cause, lets_by, lost_by, met_by, need_lost_by, open_needs, start_lost_by}
use Rattle.ledger_rows.specs.Rows.{AreRows, blocked_in}
use Rattle.ledger_rows.proofs.Fixed.{any_same}

-- no start needs Running
never_running : (declared : Declared) (kind : Option ActionKind) (need : Need) → IsWhole declared → Among (slot_needs declared kind) need → is_running need.condition ≡ false
never_running declared None need whole m = absurd m
never_running declared (Some (ActionKind.StartSlot s)) need whole m = by (slot_at declared s) refl m
  where
    among : (xs : List Slot) (j : ℕ) (x : Slot) → Rattle.std.specs.Prelude.slice_get xs j ≡ Some x → Among xs x
    among [] j x h = absurd (cc h)
    among (y ∷ ys) Rattle.std.specs.Prelude.zero x h = let k : y ≡ x = cc h in inl (sym k)
    among (y ∷ ys) (Rattle.std.specs.Prelude.suc j) x h = inr (among ys j x h)

    by : (o : Option Slot) → slot_at declared s ≡ o → Among (option_map_or (λ slot. slot.needs) o []) need → is_running need.condition ≡ false
    by None h k = absurd k
    by (Some slot) h k = whole.conditions slot need (among declared.slots s slot h) k
never_running declared (Some kind) need whole m = absurd m

counted_same : {X : Type 0} (p q : X → Bool) (xs : List X) → ((x : X) → Among xs x → p x ≡ q x) → counted p xs ≡ counted q xs
counted_same p q [] each = refl
counted_same p q (x ∷ xs) each = ap (λ (t : Bool). cond t (counted p xs + 1) (counted p xs)) (each x (inl refl)) ∙ ap (λ (n : ℕ). cond (q x) (n + 1) n) (counted_same p q xs (λ y m. each y (inr m)))

module _ (setup : Setup) (whole : IsWhole setup.declared) (stands : ℕ → Standing) (ff fm gf gm : ℕ → Condition → Bool)
    (failed : (s : ℕ) (c : Condition) → is_running c ≡ false → gf s c ≡ ff s c)
    (met : (s : ℕ) (c : Condition) → is_reported c ≡ true → (not (gf s c) && gm s c) ≡ (not (ff s c) && fm s c)) where
  abbrev f : Facts
  f = record { stands = stands; failed = ff; met = fm }

  abbrev g : Facts
  g = record { stands = stands; failed = gf; met = gm }

  met_as : (s : ℕ) (c : Condition) → is_running c ≡ false → met_by setup g s c ≡ met_by setup f s c
  met_as s Condition.Started r = refl
  met_as s Condition.Healthy r = met s Condition.Healthy refl
  met_as s Condition.Completed r = met s Condition.Completed refl
  met_as s Condition.Running r = absurd (true≢false r)

  need_as : (blocked : ℕ → Bool) (need : Need) → is_running need.condition ≡ false → need_lost_by setup g blocked need ≡ need_lost_by setup f blocked need
  need_as blocked need r = ap (λ (t : Bool). need.required && (t || start_lost_by setup f blocked need.slot)) (failed need.slot need.condition r)

  lets_as : (blocked : ℕ → Bool) (need : Need) → is_running need.condition ≡ false → lets_by setup g blocked need ≡ lets_by setup f blocked need
  lets_as blocked need r =
      ap (λ (t : Bool). t || (not need.required && (gf need.slot need.condition || start_lost_by setup f blocked need.slot))) (met_as need.slot need.condition r)
      ∙ ap (λ (t : Bool). met_by setup f need.slot need.condition || (not need.required && (t || start_lost_by setup f blocked need.slot))) (failed need.slot need.condition r)

  cause_as : (blocked : ℕ → Bool) (a : ℕ) → has_cause setup g blocked a ≡ has_cause setup f blocked a
  cause_as blocked a = ap (λ (t : Bool). Rattle.std.specs.List.list_any (lost_by f blocked) (needs_of setup.actions a) || t)
      (any_same (need_lost_by setup g blocked) (need_lost_by setup f blocked) (slot_needs setup.declared (kind_of setup.actions a))
      (λ need m. need_as blocked need (never_running setup.declared (kind_of setup.actions a) need whole m)))

  open_as : (blocked : ℕ → Bool) (a : ℕ) → open_needs setup g blocked a ≡ open_needs setup f blocked a
  open_as blocked a = ap (λ (n : ℕ). counted (λ b. not (is_well (stands b))) (needs_of setup.actions a) + n)
      (counted_same (λ need. not (lets_by setup g blocked need)) (λ need. not (lets_by setup f blocked need)) (slot_needs setup.declared (kind_of setup.actions a))
      (λ need m. ap not (lets_as blocked need (never_running setup.declared (kind_of setup.actions a) need whole m))))

  pub rests : (journal : List Entry) (rows : Actions) → AreRows setup f journal rows → AreRows setup g journal rows
  rests journal rows are = record {
    size = are.size;
    lacks_size = are.lacks_size;
    each = are.each;
    blocked = record { each = λ a. are.blocked.each a ∙ sym (ap (λ (t : Bool). is_free (stands a) && t) (cause_as (blocked_in rows) a)) };
    lacks = λ a l. are.lacks a l ∙ sym (open_as (blocked_in rows) a);
  }
