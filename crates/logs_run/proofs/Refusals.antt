-- Whose refusal a call's is.
use Rattle.std.proofs.Common.{◌≡◌, ◌∙◌, ℕ, zero, suc, ◌+◌, ◌<◌, ◌≤◌, ◌⊎◌, Bool, true, false, cond, List, [], ◌∷◌, Option, Some, None, length, slice_get, refl, sym, ap, subst, inl, inr, arith}
use Rattle.std.proofs.lemmas.Bool.{cases_eq}
use Rattle.std.proofs.lemmas.Option.{slice_get_within}
use Rattle.std.specs.List.{list_any}
use Rattle.std.specs.Prelude.{◌&&◌, is_some}
use Rattle.engine_types.specs.declared.Declared.{Declared}
use Rattle.engine_types.specs.declared.Listed.{Listed}
use Rattle.engine_types.specs.declared.Outcome.{Outcome}
use Rattle.engine_types.specs.declared.Request.{Request}
use Rattle.engine_types.specs.declared.Slot.{Slot}
use Rattle.log_book.specs.declared.entries.LogEntry.{LogEntry}
use Rattle.logs_run.specs.declared.fetching.Fault.{Fault}
use Rattle.logs_run.specs.declared.fetching.Met.{Met}
use Rattle.logs_run.specs.declared.fetching.Reason.{Reason}
use Rattle.engine_types.specs.declared.LogsRefusal.{LogsRefusal}
use Rattle.logs_run.specs.Ending.{AreSound, AreSoundBelow, Has, IsFailed, IsRefusal, IsRefusedAt, IsSlot, IsUnframed}
use Rattle.logs_run.specs.Fetching.{Fetch}
use Rattle.logs_run.specs.Met.{IsGood, IsReason}
use Rattle.logs_run.specs.Refusing.{HasTerminal, IsFaultRefusal, IsFirstTerminal, IsLeastFault, IsTerminalRefusal, RefusedBy, SlotRefusedBy, or_full, said_of}
use Rattle.logs_run.specs.Slots.{container_of, has_terminal}

same_slot : (declared : Declared) (n : ℕ) (one other : Slot) → IsSlot declared n one → IsSlot declared n other → one ≡ other
same_slot declared n one other a b = let same : Some one ≡ Some other = sym a ∙ b in cc

true_false : (t : Bool) → t ≡ true → t ≡ false → ⊥
true_false t a b = let same : true ≡ false = sym a ∙ b in absurd cc

both_so : (a b : Bool) → a ≡ true → b ≡ true → (a && b) ≡ true
both_so a b e h = rw (e, h) refl

pub not_terminal : (declared : Declared) (rows : List Listed) (n : ℕ) (slot : Slot) → IsSlot declared n slot → (has_terminal slot && is_some (container_of declared rows slot)) ≡ false → HasTerminal declared rows n → ⊥
not_terminal declared rows n slot is none h =
    true_false (has_terminal slot && is_some (container_of declared rows slot))
    (subst (λ (s : Slot). (has_terminal s && is_some (container_of declared rows s)) ≡ true) (same_slot declared n h.slot slot h.is is)
    (both_so (has_terminal h.slot) (is_some (container_of declared rows h.slot)) h.terminal h.there)) none

slot_in : (slots : List Slot) (n : ℕ) → n < length slots → (slot : Slot) × (slice_get slots n ≡ Some slot)
slot_in [] n less = absurd (omega (arith, less))
slot_in (slot ∷ slots) zero less = (slot, refl)
slot_in (slot ∷ slots) (suc n) less = slot_in slots n (omega (arith, less))

-- a place among the slots has one
pub slot_there : (declared : Declared) (n : ℕ) → n < length declared.slots → (slot : Slot) × IsSlot declared n slot
slot_there declared n less = slot_in declared.slots n less

abbrev pub NoneBelow : Declared → List Listed → ℕ → Type 0
NoneBelow declared rows n = (m : ℕ) → m < n → HasTerminal declared rows m → ⊥

pub none_more : (declared : Declared) (rows : List Listed) (n : ℕ) → NoneBelow declared rows n → (HasTerminal declared rows n → ⊥) → NoneBelow declared rows (n + 1)
none_more declared rows n below here m less h = on (cases_eq m n)
  where
    on : (m ≡ n) ⊎ (m ≡ n → ⊥) → ⊥
    on (inl same) = here (subst (λ (k : ℕ). HasTerminal declared rows k) same h)
    on (inr other) = below m (omega (arith, less, other)) h

pub none_past : (declared : Declared) (rows : List Listed) (n : ℕ) → NoneBelow declared rows n → length declared.slots ≤ n → IsFirstTerminal declared rows None
none_past declared rows n below past m h = let within = slice_get_within declared.slots m h.slot h.is in below m (omega (arith, within, past)) h

-- who is refused, by a listing and what was fetched
module _ (declared : Declared) (rows : List Listed) (fetches : List Fetch) where
  bad_fetch : (fetch : Fetch) (slot : Slot) (refusal : LogsRefusal) → IsGood fetch → IsUnframed slot fetch refusal ⊎ IsFailed fetch refusal → ⊥
  bad_fetch fetch slot refusal good (inl u) = good (Reason.Unframed u.at) (u.bytes, u.told, u.bad)
  bad_fetch fetch slot refusal good (inr f) = good (Reason.Failed (Request.Logs fetch.task.id) fetch.outcome) (refl, refl, f.told)

  -- a place is sound where it has no terminal and its fetches are good
  sound_at : (m : ℕ) (refusal : LogsRefusal) → (HasTerminal declared rows m → ⊥) → ((fetch : Fetch) → Has fetch fetches → fetch.task.slot ≡ m → IsGood fetch) → IsRefusedAt declared rows fetches m refusal → ⊥
  sound_at m refusal none good h = elim h.by [
    | inl t ↦ none (record { slot = h.slot; is = h.is; terminal = t.terminal; there = t.there })
    | inr f ↦ bad_fetch f.0 h.slot refusal (good f.0 f.1 f.2) f.3
  ]

  by_terminal : (n : ℕ) (refusal : LogsRefusal) → HasTerminal declared rows n → IsTerminalRefusal declared n refusal → IsRefusedAt declared rows fetches n refusal
  by_terminal n refusal t r = record {
    slot = t.slot;
    is = t.is;
    by = inl (record { terminal = t.terminal; there = t.there; says = r.2 ∙ ap (λ (s : Slot). LogsRefusal.Terminal s.name) (same_slot declared n r.0 t.slot r.1 t.is) });
  }

  by_fault : (slot : Slot) (reason : Reason) (fetch : Fetch) (refusal : LogsRefusal) → IsReason fetch reason → refusal ≡ said_of slot reason → IsUnframed slot fetch refusal ⊎ IsFailed fetch refusal
  by_fault slot (Reason.Unframed at) fetch refusal (bytes, told, bad) says = inl (record { bytes = bytes; at = at; told = told; bad = bad; says = says })
  by_fault slot (Reason.Failed request outcome) fetch refusal (asks, is, none) says =
      inr (record { told = none; says = says ∙ ap (λ (r : Request). LogsRefusal.Request r outcome) asks ∙ ap (λ (o : Outcome). LogsRefusal.Request (Request.Logs fetch.task.id) o) is })

  at_fault : (fault : Fault) (refusal : LogsRefusal) → IsLeastFault fetches (Some fault) → IsFaultRefusal declared fault refusal → IsRefusedAt declared rows fetches fault.slot refusal
  at_fault fault refusal least r = record { slot = r.0; is = r.1; by = inr (least.0, least.1, sym least.2, by_fault r.0 fault.reason least.0 refusal least.3 r.2) }

  pub sound : IsFirstTerminal declared rows None → IsLeastFault fetches None → AreSound declared rows fetches
  sound none good m refusal = sound_at m refusal (none m) (λ fetch has at. good fetch has)

  pub refused_fault : (fault : Fault) (refusal : LogsRefusal) → NoneBelow declared rows fault.slot → IsLeastFault fetches (Some fault) → IsFaultRefusal declared fault refusal
      → (n : ℕ) × IsRefusedAt declared rows fetches n refusal × AreSoundBelow declared rows fetches n
  refused_fault fault refusal below least r = (
    fault.slot,
    at_fault fault refusal least r,
    λ m other less. sound_at m other (below m less) (λ fetch has at. least.4 fetch has (let l = less in omega (arith, at, l))),
  )

  pub refused_terminal : (n : ℕ) (refusal : LogsRefusal) → IsFirstTerminal declared rows (Some n) → ((fetch : Fetch) → Has fetch fetches → fetch.task.slot < n → IsGood fetch) → IsTerminalRefusal declared n refusal
      → (n : ℕ) × IsRefusedAt declared rows fetches n refusal × AreSoundBelow declared rows fetches n
  refused_terminal n refusal first good r = (
    n,
    by_terminal n refusal first.0 r,
    λ m other less. sound_at m other (first.1 m less) (λ fetch has at. good fetch has (let l = less in omega (arith, at, l))),
  )

  -- the least place's refusal is the call's
  pub is_refusal : (entries : List LogEntry) (refusal : LogsRefusal) → (n : ℕ) × IsRefusedAt declared rows fetches n refusal × AreSoundBelow declared rows fetches n
      → IsRefusal declared rows fetches entries (Some refusal)
  is_refusal entries (LogsRefusal.TooManySlots count) h = h
  is_refusal entries (LogsRefusal.Terminal slot) h = h
  is_refusal entries (LogsRefusal.Frames slot at) h = h
  is_refusal entries (LogsRefusal.Request request outcome) h = h
  is_refusal entries LogsRefusal.Memory h = tt
  is_refusal entries LogsRefusal.LogsFull h = absurd (full h.1)
    where
      by : (slot : Slot) (fetch : Fetch) → IsUnframed slot fetch LogsRefusal.LogsFull ⊎ IsFailed fetch LogsRefusal.LogsFull → ⊥
      by slot fetch (inl u) = let says = u.says in absurd cc
      by slot fetch (inr f) = let says = f.says in absurd cc

      full : {n : ℕ} → IsRefusedAt declared rows fetches n LogsRefusal.LogsFull → ⊥
      full r = elim r.by [
        | inl t ↦ let says = t.says in absurd cc
        | inr f ↦ by r.slot f.0 f.3
      ]

-- what a slot is refused by, of a terminal and a fault
pub no_refusal : (declared : Declared) (rows : List Listed) → IsFirstTerminal declared rows None → SlotRefusedBy declared rows None None
no_refusal declared rows none fetches least = sound declared rows fetches none least

pub fault_alone : (declared : Declared) (rows : List Listed) (fault : Fault) (refusal : LogsRefusal) → IsFirstTerminal declared rows None → IsFaultRefusal declared fault refusal → SlotRefusedBy declared rows (Some fault) (Some refusal)
fault_alone declared rows fault refusal none r fetches least = refused_fault declared rows fetches fault refusal (λ m less h. none m h) least r

pub terminal_alone : (declared : Declared) (rows : List Listed) (n : ℕ) (refusal : LogsRefusal) → IsFirstTerminal declared rows (Some n) → IsTerminalRefusal declared n refusal → SlotRefusedBy declared rows None (Some refusal)
terminal_alone declared rows n refusal first r fetches least = refused_terminal declared rows fetches n refusal first (λ fetch has less. least fetch has) r

pub fault_first : (declared : Declared) (rows : List Listed) (n : ℕ) (fault : Fault) (refusal : LogsRefusal) → IsFirstTerminal declared rows (Some n) → fault.slot < n → IsFaultRefusal declared fault refusal
    → SlotRefusedBy declared rows (Some fault) (Some refusal)
fault_first declared rows n fault refusal first less r fetches least = refused_fault declared rows fetches fault refusal (λ m below h. first.1 m (omega (arith, below, less)) h) least r

pub terminal_first : (declared : Declared) (rows : List Listed) (n : ℕ) (fault : Fault) (refusal : LogsRefusal) → IsFirstTerminal declared rows (Some n) → n ≤ fault.slot → IsTerminalRefusal declared n refusal
    → SlotRefusedBy declared rows (Some fault) (Some refusal)
terminal_first declared rows n fault refusal first far r fetches least = refused_terminal declared rows fetches n refusal first (λ fetch has less. least.4 fetch has (omega (arith, less, far))) r

-- what a call is refused with that didn't fall short
module _ (declared : Declared) (rows : List Listed) (met : Met) (entries : List LogEntry) (going : met.short ≡ false) where
  full_or : SlotRefusedBy declared rows met.fault None → (t : Bool) → list_any (λ e. e.full) entries ≡ t → RefusedBy declared rows met entries (cond t (Some LogsRefusal.LogsFull) None)
  full_or by true is = record { short = λ h. absurd (true_false met.short h going); refused = λ fetches least. (by fetches (least going), is) }
  full_or by false is = record { short = λ h. absurd (true_false met.short h going); refused = λ fetches least. (by fetches (least going), is) }

  pub refused_by : (found : Option LogsRefusal) → SlotRefusedBy declared rows met.fault found → RefusedBy declared rows met entries (or_full found entries)
  refused_by (Some refusal) by = record { short = λ h. absurd (true_false met.short h going); refused = λ fetches least. is_refusal declared rows fetches entries refusal (by fetches (least going)) }
  refused_by None by = full_or by (list_any (λ e. e.full) entries) refl
