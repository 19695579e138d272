-- The start of a ledger is one.
use Rattle.std.proofs.Common.{◌≡◌, ℕ, zero, suc, ◌+◌, ◌≤◌, true, false, List, [], ◌∷◌, Option, Some, None, length, map, get_or, slice_get, reverse, replicate, refl, sym, ap, ◌∙◌, subst, arith}
use Rattle.std.specs.Prelude.{is_some}
use Rattle.tree_base.specs.Reserved.{Reserved}
use Rattle.engine_types.specs.declared.Declared.{Declared}
use Rattle.engine_types.specs.declared.Entry.{Entry}
use Rattle.engine_types.specs.declared.Exchange.{Exchange}
use Rattle.engine_types.specs.declared.Observed.{Observed}
use Rattle.engine_types.specs.declared.Plan.{Plan}
use Rattle.engine_types.specs.declared.RunLimits.{RunLimits}
use Rattle.engine_types.specs.declared.Seen.{Seen}
use Rattle.engine_types.specs.declared.SeenEnd.{SeenEnd}
use Rattle.run_model.specs.Journals.{Setup, is_ending, seen_in}
use Rattle.run_model.specs.Legal.{IsLegal, Saw}
use Rattle.run_model.specs.Plans.{AreKeptPlaces, basis_of}
use Rattle.journal_laws.specs.Courses.{first_seen, setup_of}
use Rattle.ledger_rows.specs.ActionRows.Values.{Actions}
use Rattle.ledger_rows.specs.Entries.{RowsSay}
use Rattle.ledger_rows.specs.Rows.{is_pending_in}
use Rattle.ledger_rows.specs.Workers.{IsWorkerRow, no_worker}
use Rattle.ledger_rows.specs.declared.action_rows.State.{State}
use Rattle.ledger_rows.specs.declared.worker_row.WorkerRow.{WorkerRow}
use Rattle.slot_rows.specs.Slots.{AreSlots}
use Rattle.ledger_ends.specs.Losses.{HasNoLosses}
use Rattle.ledger_core.specs.Beginning.{MayBegin, begun, run_of}
use Rattle.ledger_core.specs.Ledgers.{IsLedger, IsPlanned, StartsAreSingle, room}
use Rattle.ledger_core.specs.declared.started.Started.{Started}
use Rattle.start_rows.specs.Laws.{free_rows}
use Rattle.start_rows.proofs.Starting as starting
use Rattle.ledger_start.specs.Starts.{AreStarted, containers_of}

-- what the observation saw is what the run has seen
saw : (exchanges : List Exchange) (end : SeenEnd) → Saw end (first_seen (Entry.Seen (record { exchanges = exchanges; end = end }) ∷ []))
saw exchanges (SeenEnd.Good seen) = refl
saw exchanges (SeenEnd.Bad fault) = tt

has_seen : (exchanges : List Exchange) (end : SeenEnd) (seen : Seen) → end ≡ SeenEnd.Good seen → is_some (seen_in (Entry.Seen (record { exchanges = exchanges; end = end }) ∷ [])) ≡ true
has_seen exchanges (SeenEnd.Good s) seen e = refl
has_seen exchanges (SeenEnd.Bad fault) seen e = absurd (cc e)

all_idle : (n w : ℕ) → get_or (replicate n no_worker) w no_worker ≡ no_worker
all_idle zero w = refl
all_idle (suc n) zero = refl
all_idle (suc n) (suc w) = all_idle n w

idle_length : (n : ℕ) → length (replicate n no_worker) ≡ n
idle_length zero = refl
idle_length (suc n) = ap (λ (k : ℕ). suc k) (idle_length n)

idle_room : (n : ℕ) → room (replicate n no_worker) ≡ n + n
idle_room zero = refl
idle_room (suc n) = let e = idle_room n in omega (arith, e)

-- rows of actions that are these free ones say what those say
pub free_said : (setup : Setup) (journal : List Entry) (rows : Actions) (lacks : List ℕ) → rows.states ≡ replicate (length lacks) State.Free → rows.lacks ≡ lacks
    → RowsSay setup journal (free_rows lacks) → RowsSay setup journal rows
free_said setup journal rows lacks states_are lacks_are said = subst (λ (r : Actions). RowsSay setup journal r) (sym same) said
  where
    same : rows ≡ free_rows lacks
    same = ap (λ (states : List State). record { states = states; lacks = rows.lacks }) states_are ∙ ap (λ (ns : List ℕ). record { states = replicate (length lacks) State.Free; lacks = ns }) lacks_are

seen_is : (exchanges : List Exchange) (end : SeenEnd) (seen : Seen) → end ≡ SeenEnd.Good seen → first_seen (Entry.Seen (record { exchanges = exchanges; end = end }) ∷ []) ≡ seen
seen_is exchanges (SeenEnd.Good s) seen e = cc e
seen_is exchanges (SeenEnd.Bad fault) seen e = absurd (cc e)

pub seen_containers : (exchanges : List Exchange) (end : SeenEnd) → (first_seen (Entry.Seen (record { exchanges = exchanges; end = end }) ∷ [])).containers ≡ containers_of end
seen_containers exchanges (SeenEnd.Good seen) = refl
seen_containers exchanges (SeenEnd.Bad fault) = refl

-- what a list is mapped to is at the same place
pub map_at : {X : Type 0} (f : X → ℕ) (xs : List X) (i : ℕ) (x : X) → slice_get xs i ≡ Some x → slice_get (map f xs) i ≡ Some (f x)
map_at f [] i x e = absurd (cc e)
map_at {X} f (y ∷ ys) zero x e = let same : y ≡ x = cc e in ap (λ (z : X). Some (f z)) same
map_at f (y ∷ ys) (suc i) x e = map_at f ys i x e

-- so many places without a key
abbrev keyless : ℕ → List (Option ℕ)
keyless n = replicate n None

-- rows without keys
pub no_keys : (keys : List (Option ℕ)) (n : ℕ) → keys ≡ replicate n None → (a : ℕ) → is_pending_in keys a ≡ false
no_keys keys n e a = ap (λ (ks : List (Option ℕ)). is_some (get_or ks a None)) e ∙ none n a
  where
    none : (m b : ℕ) → is_pending_in (keyless m) b ≡ false
    none zero b = refl
    none (suc m) zero = refl
    none (suc m) (suc b) = none m b

pub keys_length : (keys : List (Option ℕ)) (n : ℕ) → keys ≡ replicate n None → length keys ≡ n
keys_length keys n e = ap length e ∙ counted n
  where
    counted : (m : ℕ) → length (keyless m) ≡ m
    counted zero = refl
    counted (suc m) = ap (λ (k : ℕ). suc k) (counted m)

module _ (declared : Declared) (observed : Observed) (plan : Plan) (limits : RunLimits) (may : MayBegin declared observed plan limits) where
  abbrev setup : Setup
  setup = setup_of (begun declared observed plan limits)

  single : StartsAreSingle setup
  single = record {
    there = starting.there (basis_of declared may.seen may.aim) plan.actions may.has_plan;
    first = starting.first (basis_of declared may.seen may.aim) plan.actions may.has_plan;
  }

  legal : IsLegal may.aim setup (Entry.Seen observed ∷ [])
  legal = (tt, (refl, may.was_observed, saw observed.exchanges observed.end))

  module _ (started : Started) (is : AreStarted setup observed started) (journal : Reserved Entry) (items : journal.items ≡ Entry.Seen observed ∷ []) where
    begun_ledger : 32 ≤ journal.spare → IsLedger setup journal started.rows started.slots started.workers.items false
    begun_ledger spare = record {
      aim = may.aim;
      legal = subst (λ (js : List Entry). IsLegal may.aim setup (reverse js)) (sym items) legal;
      begun = ap (λ (js : List Entry). is_some (seen_in (reverse js))) items ∙ has_seen observed.exchanges observed.end may.seen may.good;
      orderly = may.orderly;
      few = may.few_workers;
      actions = subst (λ (js : List Entry). RowsSay setup js started.rows) (sym items) is.said;
      watched = subst (λ (js : List Entry). AreSlots setup (reverse js) started.slots) (sym items) is.watched;
      workers_size = ap length is.idle ∙ idle_length limits.workers;
      each_worker = λ w l. subst (λ (js : List Entry). IsWorkerRow (reverse js) w (get_or started.workers.items w no_worker)) (sym items)
          (subst (λ (row : WorkerRow). IsWorkerRow (Entry.Seen observed ∷ []) w row) (sym (ap (λ (ws : List WorkerRow). get_or ws w no_worker) is.idle ∙ all_idle limits.workers w))
          (record { out_is = refl; left_is = refl; stopped_is = refl }));
      ending_is = sym (ap (λ (js : List Entry). is_ending (reverse js)) items);
      has_room =
          let r : room started.workers.items ≡ limits.workers + limits.workers = ap room is.idle ∙ idle_room limits.workers in
          let few = may.few_workers in
          omega (arith, r, few, spare);
    }

    begun_planned : IsPlanned setup plan.kept started.dependents started.places
    begun_planned = record {
      whole = may.whole;
      single = single;
      few_needs = is.few_needs;
      dependents = is.fixed;
      kept = subst (λ (seen : Seen). AreKeptPlaces declared seen plan.kept) (sym (seen_is observed.exchanges observed.end may.seen may.good)) may.kept;
      creates = is.told.creates;
      makes = is.told.makes;
      seconds = is.told.seconds;
    }

    pub ledger : 32 ≤ journal.spare → IsLedger (setup_of (run_of declared plan limits journal.items)) journal started.rows started.slots started.workers.items false
    ledger spare = subst (λ (js : List Entry). IsLedger (setup_of (run_of declared plan limits js)) journal started.rows started.slots started.workers.items false) (sym items) (begun_ledger spare)

    pub planned : IsPlanned (setup_of (run_of declared plan limits journal.items)) plan.kept started.dependents started.places
    planned = subst (λ (js : List Entry). IsPlanned (setup_of (run_of declared plan limits js)) plan.kept started.dependents started.places) (sym items) begun_planned

    pub no_losses : HasNoLosses (setup_of (run_of declared plan limits journal.items)) started.losses
    no_losses = subst (λ (js : List Entry). HasNoLosses (setup_of (run_of declared plan limits js)) started.losses) (sym items) is.unlost

    pub model : run_of declared plan limits journal.items ≡ begun declared observed plan limits
    model = ap (λ (js : List Entry). run_of declared plan limits js) items
