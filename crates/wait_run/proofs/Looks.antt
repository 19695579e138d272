-- A look at a slot's container, by what the goals hold.
use Rattle.std.proofs.Common.{◌≡◌, ◌∙◌, ◌+◌, ◌<◌, ◌≤◌, ◌^◌, ◌⊎◌, inl, inr, sym, Bool, true, false, cond, ℕ, zero, suc, List, [], ◌∷◌, Some, None, length, slice_get, refl, ap, subst, arith}
use Rattle.std.specs.Prelude.{filter}
use Rattle.std.specs.Option.{is_none, unwrap_or}
use Rattle.std.proofs.lemmas.Bool.{cases_lt}
use Rattle.std.proofs.lemmas.List.{append-nil}
use Rattle.engine_types.specs.declared.Declared.{Declared}
use Rattle.engine_types.specs.declared.Exchange.{Exchange}
use Rattle.engine_types.specs.declared.Listed.{Listed}
use Rattle.engine_types.specs.declared.Report.{Report}
use Rattle.engine_types.specs.declared.Request.{Request}
use Rattle.event_watch.specs.Events.{events}
use Rattle.outside_api.specs.Standings.{Makes, Standing}
use Rattle.run_model.specs.Conditions.{report_of}
use Rattle.run_model.specs.Numbers.{numbers_from, places}
use Rattle.wait_run.specs.Ends.{refused_by}
use Rattle.wait_run.specs.Goals.{goal_row, is_settled_now, reported_on}
use Rattle.wait_run.specs.Looks.{container_at, look}
use Rattle.wait_run.specs.Reports.{reported}
use Rattle.wait_run.specs.Ways.{EndsBy, Way, looks_of}
use Rattle.wait_run.specs.declared.goals.Goal.{Goal}
use Rattle.wait_run.specs.declared.goals.Goals.{Goals}
use Rattle.wait_run.specs.declared.refusal.WaitRefusal.{WaitRefusal}
use Rattle.wait_run.proofs.Places.{number_at}
use Rattle.wait_run.proofs.Reported.{left_few}
use Rattle.wait_run.proofs.Ways.{look_lost, look_refused, look_told, look_within, way_short}

none_pass : (p : ℕ → Bool) (i n k : ℕ) → filter p (numbers_from i n) ≡ [] → i ≤ k → k < i + n → p k ≡ false
none_pass p i zero k none low high = absurd (omega (arith, low, high))
none_pass p i (suc n) k none low high = by (p i) refl none (λ rest up more. none_pass p (i + 1) n k rest up more)
  where
    at : (i < k) ⊎ (k ≤ i) → p i ≡ false → filter p (numbers_from (i + 1) n) ≡ [] → (filter p (numbers_from (i + 1) n) ≡ [] → i + 1 ≤ k → k < i + 1 + n → p k ≡ false) → p k ≡ false
    at (inl less) here rest later = later rest (omega (arith, less)) (omega (arith, high))
    at (inr more) here rest later = let same : i ≡ k = omega (arith, low, more) in ap p (sym same) ∙ here

    by : (b : Bool) → p i ≡ b → cond b (i ∷ filter p (numbers_from (i + 1) n)) (filter p (numbers_from (i + 1) n)) ≡ []
        → (filter p (numbers_from (i + 1) n) ≡ [] → i + 1 ≤ k → k < i + 1 + n → p k ≡ false) → p k ≡ false
    by true here none later = let bad : i ∷ filter p (numbers_from (i + 1) n) ≡ [] = none in absurd (cc bad)
    by false here none later = at (cases_lt i k) here none later

module _ (declared : Declared) (rows : List Listed) (body : List ℕ) (n : ℕ) (from now : Standing) (goals : Goals) (w : Way declared rows body n from now goals) (s : ℕ)
    (is_next : slice_get (looks_of declared rows body) n ≡ Some s) where
  abbrev said : List (ℕ × Report)
  said = reported (looks_of declared rows body) w.done

  pub within : s < length declared.slots
  within = look_within declared rows (events body).told n s is_next

  -- its container is there
  pub not_there : slice_get goals.containers s ≡ None → ⊥
  not_there none =
      let there : is_none (container_at declared rows s) ≡ false =
      none_pass (λ k. is_none (container_at declared rows k)) 0 (length declared.slots) s w.present (omega arith) (omega (arith, within)) in
      let bad : true ≡ false = ap is_none (sym none) ∙ ap is_none (w.goals_are.owners s within) ∙ there in
      cc bad

  pub looks_at : (id : List ℕ) → slice_get goals.containers s ≡ Some id → Request.Inspect id ≡ look declared rows s
  looks_at id is = ap (λ o. Request.Inspect (unwrap_or o [])) (sym is ∙ w.goals_are.owners s within)

  module _ (open_still : (n < length declared.slots) ⊎ (is_settled_now goals ≡ false)) (id : List ℕ) (id_is : slice_get goals.containers s ≡ Some id) (x : Exchange) (later : Standing)
      (asks : x.request ≡ Request.Inspect id) (makes : Makes (x ∷ []) now later) where
    -- its report was taken
    pub look_took : (report : Report) (new_goals : Goals) → report_of x.outcome ≡ Some report
        → ((goal : Goal) → slice_get goals.rows s ≡ Some goal → goals.left ≤ 2 ^ 32 → new_goals ≡ reported_on s report goal goals)
        → Way declared rows body (n + 1) from later new_goals
    look_took report new_goals tells takes =
        subst (Way declared rows body (n + 1) from later)
        (sym (takes (goal_row declared said s) (w.goals_are.each s within) (left_few declared rows said goals w.goals_are)))
        (look_told declared rows body n from now goals w s is_next open_still x later makes (asks ∙ looks_at id id_is) report tells within)

    -- it was told, and there was no memory to take it
    pub look_untaken : (report : Report) (new_goals : Goals) → report_of x.outcome ≡ Some report → new_goals ≡ goals → EndsBy declared body from later WaitRefusal.Memory new_goals
    look_untaken report new_goals tells same =
        subst (EndsBy declared body from later WaitRefusal.Memory) (sym same)
        (look_lost declared rows body n from now goals w s is_next open_still x later makes (asks ∙ looks_at id id_is) report tells)

    -- it wasn't answered as asked
    pub look_not : (refusal : WaitRefusal) → report_of x.outcome ≡ None → refusal ≡ refused_by x.request x.outcome → EndsBy declared body from later refusal goals
    look_not refusal silent is =
        subst (λ r. EndsBy declared body from later r goals) (sym is)
        (look_refused declared rows body n from now goals w s is_next open_still x later makes (asks ∙ looks_at id id_is) silent)

-- the request wasn't sent
pub look_unsent : (declared : Declared) (rows : List Listed) (body : List ℕ) (n : ℕ) (from now later : Standing) (goals : Goals) → Way declared rows body n from now goals → later ≡ now
    → EndsBy declared body from later WaitRefusal.Memory goals
look_unsent declared rows body n from now later goals w same =
    subst (λ s. EndsBy declared body from s WaitRefusal.Memory goals) (sym same) (way_short declared rows body n from now goals w)

-- ---- the slots first, in order

module _ (declared : Declared) (rows : List Listed) (from now : Standing) (goals : Goals) (count n : ℕ) (w : Way declared rows [] 0 from now goals) (count_is : count ≡ length goals.rows) where
  pub slot_there : n < count → n < length declared.slots
  slot_there less = let many = w.goals_are.many in omega (arith, less, count_is, many)

  pub slot_next : (s : ℕ) → n < count → s ≡ n → slice_get (looks_of declared rows []) n ≡ Some s
  slot_next s less is =
      ap (λ l. slice_get l n) (append-nil (places declared.slots))
      ∙ number_at 0 (length declared.slots) n (slot_there less)
      ∙ ap Some (let e : 0 + n ≡ s = omega (arith, is) in e)

  -- each was looked at
  pub slots_done : (later : Standing) (new_goals : Goals) → n ≡ count → Way declared rows [] n from later new_goals → Way declared rows [] (length declared.slots) from later new_goals
  slots_done later new_goals is way = subst (λ m. Way declared rows [] m from later new_goals) (is ∙ count_is ∙ w.goals_are.many) way
