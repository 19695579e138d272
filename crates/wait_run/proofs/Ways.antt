-- A wait, look by look.
use Rattle.std.proofs.Common.{◌≡◌, ◌∙◌, ◌++◌, ◌+◌, ◌<◌, ◌≤◌, ◌⊎◌, ◌&&◌, ◌||◌, inl, inr, sym, Bool, true, false, cond, ℕ, zero, suc, List, [], ◌∷◌, Option, Some, None, length, map, take, slice_get, refl, ap, subst, arith}
use Rattle.std.specs.Prelude.{filter_map, find, nat_le, nat_lt}
use Rattle.std.specs.List.{cons_option}
use Rattle.std.specs.Option.{is_none, is_some, option_map, unwrap_or}
use Rattle.std.proofs.lemmas.Bool.{cases_lt, le-leb, le-ltb, lt-leb, lt-ltb}
use Rattle.std.proofs.lemmas.List.{append-nil, length-append, length-take, map-append, take-append-le, take_all}
use Rattle.std.proofs.lemmas.Option.{slice_get-map, slice_get_within}
use Rattle.std.proofs.Math.Seq.{take-append_seam}
use Rattle.engine_types.specs.declared.Declared.{Declared}
use Rattle.engine_types.specs.declared.Exchange.{Exchange}
use Rattle.engine_types.specs.declared.Listed.{Listed}
use Rattle.engine_types.specs.declared.Report.{Report}
use Rattle.engine_types.specs.declared.Request.{Request}
use Rattle.event_watch.specs.Events.{events}
use Rattle.event_watch.specs.declared.Event.{Event}
use Rattle.event_watch.proofs.Further.{events_stay}
use Rattle.outside_api.specs.Standings.{Makes, Standing}
use Rattle.event_watch.specs.Verdicts.{both}
use Rattle.run_model.specs.Conditions.{judge, report_of}
use Rattle.run_model.specs.Numbers.{numbers_from, places}
use Rattle.wait_run.specs.Asking.{IsWait}
use Rattle.wait_run.specs.Ends.{fails_goal, last_refused, refused_by}
use Rattle.wait_run.specs.Goals.{AreGoals, goal_row, is_settled_now, met_now, reported_on}
use Rattle.wait_run.specs.Looks.{absent, look, looks, owns, requests, rows_by}
use Rattle.wait_run.specs.Reports.{all_met, goal_at, has_ended, is_refused, is_settled, lacks_one, met_in, reported, said_in, some_failed, verdict_on}
use Rattle.wait_run.specs.Ways.{EndsBy, Way, looks_of}
use Rattle.wait_run.specs.declared.goals.Goals.{Goals}
use Rattle.wait_run.specs.declared.refusal.WaitRefusal.{WaitRefusal}
use Rattle.wait_run.proofs.Making.{makes_append}
use Rattle.wait_run.proofs.Places.{length_numbers, number_at}
use Rattle.wait_run.proofs.Reported.{goals_more, met_more, settled_is}
use Rattle.wait_run.proofs.Stays.{later_looks, looks_stay, map_append, reported_more, reported_short, reported_stays, reported_take}

take_next : {A : Type 0} (l : List A) (n : ℕ) (a : A) → slice_get l n ≡ Some a → take (n + 1) l ≡ take n l ++ a ∷ []
take_next [] n a e = let bad : None ≡ Some a = e in absurd (cc bad)
take_next (x ∷ l) zero a e = let same : Some x ≡ Some a = e in ap (λ y. y ∷ []) (cc same)
take_next (x ∷ l) (suc n) a e = let f : suc n + 1 ≡ suc (n + 1) = omega arith in ap (λ m. take m (x ∷ l)) f ∙ ap (λ m. x ∷ m) (take_next l n a e)

-- ---- what the definitions say of a wait whose listing was answered

module _ (declared : Declared) (rows : List Listed) (body : List ℕ) (listing : Exchange) (listed : rows_by listing.outcome ≡ Some rows) where
  pub said_is : (done : List Exchange) → said_in declared body (listing ∷ done) ≡ reported (looks_of declared rows body) done
  said_is done = ap (λ o. unwrap_or (option_map (λ r. reported (looks declared r (events body).told) done) o) []) listed

  pub requests_are : (done : List Exchange) → requests declared body (listing ∷ done) ≡ Request.ListContainers declared.project ∷ map (look declared rows) (looks_of declared rows body)
  requests_are done = ap (λ o. Request.ListContainers declared.project ∷ unwrap_or (option_map (λ r. map (look declared r) (looks declared r (events body).told)) o) []) listed

  pub lacks_is : (done : List Exchange) → lacks_one declared (listing ∷ done) ≡ nat_lt 0 (length (absent declared rows))
  lacks_is done = ap (λ o. nat_lt 0 (length (unwrap_or (option_map (λ r. absent declared r) o) []))) listed

  pub refused_is : (done : List Exchange) → is_refused declared body (listing ∷ done) ≡ nat_lt (length (reported (looks_of declared rows body) done) + 1) (length done + 1)
  refused_is done =
      ap (λ t. t && (is_none (rows_by listing.outcome) || nat_lt (length (said_in declared body (listing ∷ done)) + 1) (length (listing ∷ done)))) (lt-ltb 0 (length (listing ∷ done)) (omega arith))
      ∙ ap (λ o. is_none o || nat_lt (length (said_in declared body (listing ∷ done)) + 1) (length (listing ∷ done))) listed
      ∙ ap (λ l. nat_lt (length l + 1) (length (listing ∷ done))) (said_is done)
      ∙ (let e : length (listing ∷ done) ≡ length done + 1 = omega arith in ap (λ n. nat_lt (length (reported (looks_of declared rows body) done) + 1) n) e)

  module _ (present : absent declared rows ≡ []) where
    -- where each look was answered, a wait has ended where its goals are settled
    pub ended_is : (done : List Exchange) → length (reported (looks_of declared rows body) done) ≡ length done
        → has_ended declared body (listing ∷ done) ≡ is_settled declared (reported (looks_of declared rows body) done)
    ended_is done all =
        ap (λ t. t || (lacks_one declared (listing ∷ done) || (is_some (rows_by listing.outcome) && is_settled declared (said_in declared body (listing ∷ done)))))
        (refused_is done ∙ le-ltb (length (reported (looks_of declared rows body) done) + 1) (length done + 1) (omega (arith, all)))
        ∙ ap (λ t. t || (is_some (rows_by listing.outcome) && is_settled declared (said_in declared body (listing ∷ done))))
        (lacks_is done ∙ ap (λ l. nat_lt 0 (length l)) present)
        ∙ ap (λ o. is_some o && is_settled declared (said_in declared body (listing ∷ done))) listed
        ∙ ap (is_settled declared) (said_is done)

    pub is_wait : (done : List Exchange) → listing.request ≡ Request.ListContainers declared.project
        → map (λ exchange. exchange.request) done ≡ take (length done) (map (look declared rows) (looks_of declared rows body))
        → ((k : ℕ) → k < length done → (length (reported (looks_of declared rows body) (take k done)) ≡ k) × (is_settled declared (reported (looks_of declared rows body) (take k done)) ≡ false))
        → IsWait declared body (listing ∷ done)
    is_wait done lists asked goes = record {
      asked =
          ap (λ r. r ∷ map (λ exchange. exchange.request) done) lists
          ∙ ap (λ l. Request.ListContainers declared.project ∷ l) asked
          ∙ ap (take (length (listing ∷ done))) (sym (requests_are done));
      goes_on = on;
    }
      where
        on : (k : ℕ) → k < length (listing ∷ done) → has_ended declared body (take k (listing ∷ done)) ≡ false
        on zero less = refl
        on (suc k) less =
            let h = goes k (omega (arith, less)) in
            let a = h.0 in
            let e = length-take k done in
            ended_is (take k done) (omega (arith, a, e, less)) ∙ h.1

-- ---- a wait under way

answered_first : (looks : List ℕ) (done : List Exchange) (n k : ℕ) → length (reported looks done) ≡ n → k ≤ n → length (reported looks (take k done)) ≡ k
answered_first looks done n k all less =
    let e = ap length (reported_take looks done k) in
    let f = length-take k (reported looks done) in
    omega (arith, e, f, all, less)

-- what it did is right
pub way_waits : (declared : Declared) (rows : List Listed) (body : List ℕ) (n : ℕ) (from now : Standing) (goals : Goals) (w : Way declared rows body n from now goals)
    → IsWait declared body (w.listing ∷ w.done)
way_waits declared rows body n from now goals w =
    is_wait declared rows body w.listing w.listed w.present w.done w.lists
    (w.asked ∙ ap (λ m. take m (map (look declared rows) (looks_of declared rows body))) (sym w.many))
    (λ k less. (answered_first (looks_of declared rows body) w.done n k w.answered (omega (arith, less, w.many)), w.goes_on k (omega (arith, less, w.many))))

-- it has ended where its goals are settled and each slot was looked at
pub way_ended : (declared : Declared) (rows : List Listed) (body : List ℕ) (n : ℕ) (from now : Standing) (goals : Goals) (w : Way declared rows body n from now goals) → length declared.slots ≤ n
    → has_ended declared body (w.listing ∷ w.done) ≡ is_settled_now goals
way_ended declared rows body n from now goals w all =
    ended_is declared rows body w.listing w.listed w.present w.done (w.answered ∙ sym w.many)
    ∙ ap (λ t. t && (some_failed declared (reported (looks_of declared rows body) w.done) || all_met declared (reported (looks_of declared rows body) w.done))) seen
    ∙ sym (settled_is declared rows (reported (looks_of declared rows body) w.done) goals w.goals_are)
  where
    seen : nat_le (length declared.slots) (length (reported (looks_of declared rows body) w.done)) ≡ true
    seen = le-leb (length declared.slots) (length (reported (looks_of declared rows body) w.done)) (omega (arith, all, w.answered))

-- no memory was there to go on
pub way_short : (declared : Declared) (rows : List Listed) (body : List ℕ) (n : ℕ) (from now : Standing) (goals : Goals) → Way declared rows body n from now goals
    → EndsBy declared body from now WaitRefusal.Memory goals
way_short declared rows body n from now goals w =
    let said : List (ℕ × Report) = reported (looks_of declared rows body) w.done in
    record {
      made = w.listing ∷ w.done;
      makes = w.makes;
      waits = way_waits declared rows body n from now goals w;
      why = inl (
        refl,
        (
          length (met_in declared said),
          w.goals_are.met ∙ sym (take_all (length (met_in declared said)) (met_in declared said) (omega arith))
              ∙ ap (λ l. take (length (met_in declared said)) (met_in declared l)) (sym (said_is declared rows body w.listing w.listed w.done)),
        ),
      );
    }

-- its goals aren't settled where a slot wasn't looked at, or the goals say so
pub way_open : (declared : Declared) (rows : List Listed) (body : List ℕ) (n : ℕ) (from now : Standing) (goals : Goals) (w : Way declared rows body n from now goals)
    → (n < length declared.slots) ⊎ (is_settled_now goals ≡ false) → is_settled declared (reported (looks_of declared rows body) w.done) ≡ false
way_open declared rows body n from now goals w (inl less) =
    ap (λ t. t && (some_failed declared (reported (looks_of declared rows body) w.done) || all_met declared (reported (looks_of declared rows body) w.done)))
    (lt-leb (length declared.slots) (length (reported (looks_of declared rows body) w.done)) (omega (arith, less, w.answered)))
way_open declared rows body n from now goals w (inr open_still) =
    ap (λ t. nat_le (length declared.slots) (length (reported (looks_of declared rows body) w.done)) && t)
    (sym (settled_is declared rows (reported (looks_of declared rows body) w.done) goals w.goals_are) ∙ open_still)
    ∙ and_none (nat_le (length declared.slots) (length (reported (looks_of declared rows body) w.done)))
  where
    and_none : (t : Bool) → (t && false) ≡ false
    and_none true = refl
    and_none false = refl

-- more of the body changes nothing of what was done
pub way_on : (declared : Declared) (rows : List Listed) (body piece : List ℕ) (n : ℕ) (from now : Standing) (goals : Goals) → Way declared rows body n from now goals
    → Way declared rows (body ++ piece) n from now goals
way_on declared rows body piece n from now goals w = record {
  listing = w.listing;
  done = w.done;
  makes = w.makes;
  lists = w.lists;
  listed = w.listed;
  present = w.present;
  many = w.many;
  asked =
      w.asked
      ∙ sym (take-append-le n (map (look declared rows) (looks_of declared rows body)) (map (look declared rows) (later_looks declared rows (events_stay body piece).0)) within_map)
      ∙ ap (take n) (sym (map_append (look declared rows) (looks_of declared rows body) (later_looks declared rows (events_stay body piece).0)))
      ∙ ap (λ l. take n (map (look declared rows) l)) (sym longer);
  answered = ap length (same w.done (omega (arith, w.many))) ∙ w.answered;
  goes_on = λ k less. let e = length-take k w.done in ap (is_settled declared) (same (take k w.done) (omega (arith, less, e, w.many))) ∙ w.goes_on k less;
  goals_are = subst (λ said. AreGoals declared rows said goals) (sym (same w.done (omega (arith, w.many)))) w.goals_are;
}
  where
    longer : looks_of declared rows (body ++ piece) ≡ looks_of declared rows body ++ (later_looks declared rows (events_stay body piece).0)
    longer = ap (looks declared rows) (events_stay body piece).1 ∙ looks_stay declared rows (events body).told (events_stay body piece).0

    within : n ≤ length (looks_of declared rows body)
    within = let h = (reported_short (looks_of declared rows body) w.done).0 in omega (arith, h, w.answered)

    length_map : (l : List ℕ) → length (map (look declared rows) l) ≡ length l
    length_map [] = refl
    length_map (x ∷ l) = ap suc (length_map l)

    within_map : n ≤ length (map (look declared rows) (looks_of declared rows body))
    within_map = let e = length_map (looks_of declared rows body) in omega (arith, e, within)

    same : (made : List Exchange) → length made ≤ n → reported (looks_of declared rows (body ++ piece)) made ≡ reported (looks_of declared rows body) made
    same made less = ap (λ l. reported l made) longer ∙ reported_stays (looks_of declared rows body) (later_looks declared rows (events_stay body piece).0) made (omega (arith, less, within))

-- ---- slots that are looked at

got_either : {A : Type 0} (xs ys : List A) (n : ℕ) (a : A) → slice_get (xs ++ ys) n ≡ Some a → ((k : ℕ) × (slice_get xs k ≡ Some a)) ⊎ ((k : ℕ) × (slice_get ys k ≡ Some a))
got_either [] ys n a e = inr (n, e)
got_either (x ∷ xs) ys zero a e = inl (0, e)
got_either (x ∷ xs) ys (suc n) a e = by (got_either xs ys n a e)
  where
    by : ((k : ℕ) × (slice_get xs k ≡ Some a)) ⊎ ((k : ℕ) × (slice_get ys k ≡ Some a)) → ((k : ℕ) × (slice_get (x ∷ xs) k ≡ Some a)) ⊎ ((k : ℕ) × (slice_get ys k ≡ Some a))
    by (inl h) = inl (suc h.0, h.1)
    by (inr h) = inr h

picked_one : {A : Type 0} (f : A → Option ℕ) (l : List A) (k s : ℕ) → slice_get (filter_map f l) k ≡ Some s → (a : A) × (f a ≡ Some s)
picked_one f [] k s e = let bad : None ≡ Some s = e in absurd (cc bad)
picked_one {A} f (a ∷ l) k s e = by (f a) refl (λ j g. picked_one f l j s g) k e
  where
    by : (o : Option ℕ) → f a ≡ o → ((j : ℕ) → slice_get (filter_map f l) j ≡ Some s → (b : A) × (f b ≡ Some s)) → (k : ℕ) → slice_get (cons_option o (filter_map f l)) k ≡ Some s → (b : A) × (f b ≡ Some s)
    by None is rest k e = rest k e
    by (Some t) is rest zero e = (a, is ∙ e)
    by (Some t) is rest (suc k) e = rest k e

found_below : (p : ℕ → Bool) (i n k : ℕ) → find p (numbers_from i n) ≡ Some k → k < i + n
found_below p i zero k e = let bad : None ≡ Some k = e in absurd (cc bad)
found_below p i (suc n) k e = by (p i) (λ e. let h = found_below p (i + 1) n k e in omega (arith, h)) e
  where
    by : (t : Bool) → (find p (numbers_from (i + 1) n) ≡ Some k → k < i + suc n) → cond t (Some i) (find p (numbers_from (i + 1) n)) ≡ Some k → k < i + suc n
    by true rest e = let same : Some i ≡ Some k = e in let is : i ≡ k = cc same in omega (arith, is)
    by false rest e = rest e

-- each is one of the declared
pub look_within : (declared : Declared) (rows : List Listed) (told : List Event) (n s : ℕ) → slice_get (looks declared rows told) n ≡ Some s → s < length declared.slots
look_within declared rows told n s e = by (got_either (places declared.slots) (later_looks declared rows told) n s e)
  where
    by : ((k : ℕ) × (slice_get (places declared.slots) k ≡ Some s)) ⊎ ((k : ℕ) × (slice_get (later_looks declared rows told) k ≡ Some s)) → s < length declared.slots
    by (inl h) =
        let low : h.0 < length declared.slots = omega (arith, slice_get_within (places declared.slots) h.0 s h.1, length_numbers 0 (length declared.slots)) in
        let same : Some (0 + h.0) ≡ Some s = sym (number_at 0 (length declared.slots) h.0 low) ∙ h.1 in
        let is : 0 + h.0 ≡ s = cc same in
        omega (arith, is, low)
    by (inr h) =
        let one = picked_one (λ event. find (owns declared rows event.id) (places declared.slots)) told h.0 s h.1 in
        let low = found_below (owns declared rows one.0.id) 0 (length declared.slots) s one.1 in
        omega (arith, low)

-- ---- one look more

module _ (declared : Declared) (rows : List Listed) (body : List ℕ) (n : ℕ) (from now : Standing) (goals : Goals) (w : Way declared rows body n from now goals) (s : ℕ)
    (is_next : slice_get (looks_of declared rows body) n ≡ Some s) (open_still : (n < length declared.slots) ⊎ (is_settled_now goals ≡ false)) where
  abbrev asks : List ℕ
  asks = looks_of declared rows body

  abbrev said : List (ℕ × Report)
  said = reported asks w.done

  module _ (x : Exchange) (later : Standing) (makes : Makes (x ∷ []) now later) (looks_at : x.request ≡ look declared rows s) where
    abbrev done : List Exchange
    done = w.done ++ x ∷ []

    many : length done ≡ n + 1
    many = length-append w.done (x ∷ []) ∙ ap (λ m. m + 1) w.many

    all : Makes (w.listing ∷ done) from later
    all = makes_append (w.listing ∷ w.done) (x ∷ []) from now later w.makes makes

    asked : map (λ exchange. exchange.request) done ≡ take (n + 1) (map (look declared rows) asks)
    asked =
        map-append (λ (exchange : Exchange). exchange.request) w.done (x ∷ [])
        ∙ ap (λ l. l ++ x.request ∷ []) w.asked
        ∙ ap (λ r. take n (map (look declared rows) asks) ++ r ∷ []) looks_at
        ∙ sym (take_next (map (look declared rows) asks) n (look declared rows s) (slice_get-map (look declared rows) asks n ∙ ap (option_map (look declared rows)) is_next))

    goes : (k : ℕ) → k < n + 1 → (length (reported asks (take k done)) ≡ k) × (is_settled declared (reported asks (take k done)) ≡ false)
    goes k less = by (cases_lt k n)
      where
        front : take k done ≡ take k w.done
        front = take-append-le k w.done (x ∷ []) (omega (arith, less, w.many))

        by : (k < n) ⊎ (n ≤ k) → (length (reported asks (take k done)) ≡ k) × (is_settled declared (reported asks (take k done)) ≡ false)
        by (inl low) = (
          ap (λ l. length (reported asks l)) front ∙ answered_first asks w.done n k w.answered (omega (arith, low)),
          ap (λ l. is_settled declared (reported asks l)) front ∙ w.goes_on k low,
        )
        by (inr high) =
            let whole : take k done ≡ w.done = front ∙ take_all k w.done (omega (arith, high, w.many)) in
            let k_is : k ≡ n = omega (arith, less, high) in (
              ap (λ l. length (reported asks l)) whole ∙ w.answered ∙ sym k_is,
              ap (λ l. is_settled declared (reported asks l)) whole ∙ way_open declared rows body n from now goals w open_still,
            )

    waits : IsWait declared body (w.listing ∷ done)
    waits =
        is_wait declared rows body w.listing w.listed w.present done w.lists
        (asked ∙ ap (λ m. take m (map (look declared rows) asks)) (sym many))
        (λ k less. goes k (omega (arith, less, many)))

    more_said : reported asks done ≡ said ++ unwrap_or (option_map (λ report. (s, report) ∷ []) (report_of x.outcome)) []
    more_said = reported_more asks w.done x s (w.answered ∙ sym w.many) (ap (slice_get asks) w.many ∙ is_next)

    -- its report was taken
    pub look_told : (report : Report) → report_of x.outcome ≡ Some report → s < length declared.slots
        → Way declared rows body (n + 1) from later (reported_on s report (goal_row declared said s) goals)
    look_told report tells less = record {
      listing = w.listing;
      done = done;
      makes = all;
      lists = w.lists;
      listed = w.listed;
      present = w.present;
      many = many;
      asked = asked;
      answered = ap length told ∙ length-append said ((s, report) ∷ []) ∙ ap (λ m. m + 1) w.answered;
      goes_on = λ k low. (goes k low).1;
      goals_are = subst (λ l. AreGoals declared rows l (reported_on s report (goal_row declared said s) goals)) (sym told) (goals_more declared rows said goals s report less w.goals_are);
    }
      where
        told : reported asks done ≡ said ++ (s, report) ∷ []
        told = more_said ∙ ap (λ o. said ++ unwrap_or (option_map (λ report. (s, report) ∷ []) o) []) tells

    -- its report was told, and there was no memory to take it
    pub look_lost : (report : Report) → report_of x.outcome ≡ Some report → EndsBy declared body from later WaitRefusal.Memory goals
    look_lost report tells = record {
      made = w.listing ∷ done;
      makes = all;
      waits = waits;
      why = inl (
        refl,
        (
          length (met_in declared said),
          w.goals_are.met ∙ sym (take-append_seam (met_in declared said) (met_now s (verdict_on declared said s) (both (verdict_on declared said s) (judge (goal_at declared s) report)))) ∙ ap (take (length (met_in declared said))) (sym (met_more declared said s report))
              ∙ ap (λ l. take (length (met_in declared said)) (met_in declared l)) (sym told ∙ sym (said_is declared rows body w.listing w.listed done)),
        ),
      );
    }
      where
        told : reported asks done ≡ said ++ (s, report) ∷ []
        told = more_said ∙ ap (λ o. said ++ unwrap_or (option_map (λ report. (s, report) ∷ []) o) []) tells

    last_is : (l : List Exchange) → last_refused (l ++ x ∷ []) ≡ Some (refused_by x.request x.outcome)
    last_is [] = refl
    last_is (a ∷ []) = refl
    last_is (a ∷ b ∷ l) = last_is (b ∷ l)

    -- it wasn't answered as asked
    pub look_refused : report_of x.outcome ≡ None → EndsBy declared body from later (refused_by x.request x.outcome) goals
    look_refused silent = record {
      made = w.listing ∷ done;
      makes = all;
      waits = waits;
      why = inr (record {
        refused =
            refused_is declared rows body w.listing w.listed done
            ∙ lt-ltb (length (reported asks done) + 1) (length done + 1) (let e = ap length same in omega (arith, e, many, w.answered));
        last = last_is (w.listing ∷ w.done);
        met = w.goals_are.met ∙ ap (met_in declared) (sym all_said);
        failed = w.goals_are.failed ∙ ap (find (fails_goal declared)) (sym all_said);
        some = ap (some_failed declared) all_said ∙ w.goals_are.some;
      });
    }
      where
        same : reported asks done ≡ said
        same = more_said ∙ ap (λ o. said ++ unwrap_or (option_map (λ report. (s, report) ∷ []) o) []) silent ∙ append-nil said

        all_said : said_in declared body (w.listing ∷ done) ≡ said
        all_said = said_is declared rows body w.listing w.listed done ∙ same
