-- One turn of the loop that carries losses on.
use Rattle.std.proofs.Common.{◌≡◌, ◌⊎◌, ℕ, zero, suc, ◌+◌, ◌<◌, ◌≤◌, Bool, true, false, not, ◌&&◌, ◌||◌, ◌==◌, List, [], ◌∷◌, length, get_or, set, slice_get, Option, Some, None, if◌then◌else◌, refl, sym, ap, ◌∙◌, inl, inr, arith}
use Rattle.std.proofs.lemmas.Bool.{cases_eq, cases_lt, eqb-true, eq-eqb}
use Rattle.std.proofs.lemmas.Grind.{common_steps}
use Rattle.std.proofs.lemmas.Option.{slice_get_past}
use Rattle.std.specs.Prelude.{is_some, option_map}
use Rattle.engine_types.specs.declared.Action.{Action}
use Rattle.engine_types.specs.declared.Entry.{Entry}
use Rattle.run_model.specs.Journals.{Setup}
use Rattle.run_model.specs.Plans.{slot_needs}
use Rattle.ledger_rows.specs.ActionRows.{lack_at, state_at}
use Rattle.ledger_rows.specs.ActionRows.Values.{Actions}
use Rattle.ledger_rows.specs.Facts.{AreSound, Facts, frees, lacks_by, stops}
use Rattle.ledger_rows.specs.Counts.{counted, is_listed}
use Rattle.ledger_rows.specs.Rows.{AreLosing, Blocks, CarriesOn, IsNet, is_free_state, is_pending_in, work}
use Rattle.ledger_rows.specs.declared.action_rows.State.{State}
use Rattle.ledger_rows.proofs.Losing.{losing_on, lost_lacks}
use Rattle.ledger_rows.proofs.Marking.{work_less}

-- an action that isn't there has no needs
no_frees : (setup : Setup) (x a : ℕ) → length setup.actions ≤ a → frees setup x a ≡ 0
no_frees setup x a l = by (slice_get setup.actions a) (slice_get_past setup.actions a l)
  where
    by : (o : Option Action) → o ≡ None → counted (λ need. not need.required && Rattle.ledger_rows.specs.Facts.start_among setup (λ b. b == x) need.slot) (slot_needs setup.declared (option_map (λ action. action.kind) o)) ≡ 0
    by None e = refl
    by (Some action) e = absurd (cc e)

module _ (setup : Setup) (facts : Facts) (journal : List Entry) (stopped freed : List (List ℕ)) (net : IsNet setup stopped freed) (sound : AreSound setup facts)
    (rows : Actions) (pending : List (Option ℕ)) (are : AreLosing setup facts journal rows pending) (x : ℕ) (inside : x < length pending) (waits : is_pending_in pending x ≡ true) where
  -- each is kept by as many needs as let it go
  pub kept : (a : ℕ) → counted (λ b. b == a) (get_or freed x []) ≤ lack_at rows a
  kept a = on (cases_lt a (length setup.actions))
    where
      on : (a < length setup.actions) ⊎ (length setup.actions ≤ a) → counted (λ b. b == a) (get_or freed x []) ≤ lack_at rows a
      on (inl l) = let e = net.freed_are x a in let k = are.lacks a l in let m = lost_lacks setup facts journal rows pending x sound waits are a in omega (arith, e, k, m)
      on (inr l) = let e = net.freed_are x a in let k = no_frees setup x a l in omega (arith, e, k)

  module _ (middle new : Actions) (later : List (Option ℕ)) (states : middle.states ≡ rows.states) (size : length middle.lacks ≡ length rows.lacks)
      (fell : (a : ℕ) → lack_at middle a + counted (λ b. b == a) (get_or freed x []) ≡ lack_at rows a) (blocks : Blocks (get_or stopped x []) middle new (set pending x None) later) where
    not_waiting : (a : ℕ) → is_pending_in (set pending x None) a ≡ (is_pending_in pending a && not (a == x))
    not_waiting a = on (cases_eq a x)
      where
        and_false : (t : Bool) → false ≡ (t && false)
        and_false true = refl
        and_false false = refl

        and_true : (t : Bool) → t ≡ (t && true)
        and_true true = refl
        and_true false = refl

        differs : (a ≡ x → ⊥) → (t : Bool) → (a == x) ≡ t → t ≡ false
        differs n true h = absurd (n (eqb-true a x h))
        differs n false h = refl

        on : (a ≡ x) ⊎ (a ≡ x → ⊥) → is_pending_in (set pending x None) a ≡ (is_pending_in pending a && not (a == x))
        on (inl e) =
            let here : get_or (set pending x None) a None ≡ None = grind (arith, common_steps) in
            ap (λ (o : Option ℕ). is_some o) here ∙ and_false (is_pending_in pending a) ∙ ap (λ (t : Bool). is_pending_in pending a && not t) (sym (eq-eqb a x e))
        on (inr n) =
            let there : get_or (set pending x None) a None ≡ get_or pending a None = grind (arith, common_steps) in
            ap (λ (o : Option ℕ). is_some o) there ∙ and_true (is_pending_in pending a) ∙ ap (λ (t : Bool). is_pending_in pending a && not t) (sym (differs n (a == x) refl))

    pub carries : CarriesOn setup x rows new pending later
    carries = record {
      size = blocks.size ∙ ap length states;
      lacks_size = ap length blocks.lacks_are ∙ size;
      pending_size = let e : length (set pending x None) ≡ length pending = grind (arith, common_steps) in blocks.pending_size ∙ e;
      states = λ a. blocks.states a
          ∙ ap (λ (s : State). if (is_free_state s && is_listed (get_or stopped x []) a) then State.Blocked else s) (ap (λ (ss : List State). get_or ss a State.Free) states)
          ∙ ap (λ (t : Bool). if (is_free_state (state_at rows a) && t) then State.Blocked else state_at rows a) (net.stopped_are x a);
      waits = λ a. blocks.waits a
          ∙ ap (λ (t : Bool). t || (is_free_state (state_at middle a) && is_listed (get_or stopped x []) a)) (not_waiting a)
          ∙ ap (λ (s : State). (is_pending_in pending a && not (a == x)) || (is_free_state s && is_listed (get_or stopped x []) a)) (ap (λ (ss : List State). get_or ss a State.Free) states)
          ∙ ap (λ (t : Bool). (is_pending_in pending a && not (a == x)) || (is_free_state (state_at rows a) && t)) (net.stopped_are x a);
      lacks = λ a l. let e = fell a in let k = net.freed_are x a in let m : lack_at new a ≡ lack_at middle a = ap (λ (ns : List ℕ). get_or ns a 0) blocks.lacks_are in omega (arith, e, k, m);
    }

    pub still_losing : AreLosing setup facts journal new later
    still_losing = losing_on setup facts journal rows new pending later x sound waits are carries

    pub less_work : work new later < work rows pending
    less_work =
        let one = work_less rows pending x inside waits in
        let two = blocks.less in
        let three : counted is_free_state middle.states ≡ counted is_free_state rows.states = ap (counted is_free_state) states in
        omega (arith, one, two, three)

-- a row that was read
pub row_read : (xs : List (List ℕ)) (i : ℕ) (x : List ℕ) → i < length xs → x ≡ get_or xs i x → x ≡ get_or xs i []
row_read [] i x l e = absurd (omega arith)
row_read (y ∷ ys) zero x l e = e
row_read (y ∷ ys) (suc i) x l e = row_read ys i x (omega arith) e
