-- The laws above the definitions of a wait.
use Rattle.std.proofs.Common.{◌≡◌, ◌∙◌, ◌++◌, ◌+◌, ◌<◌, ◌≤◌, ◌&&◌, ◌||◌, ◌⊎◌, inl, inr, sym, Bool, true, false, cond, ℕ, zero, suc, List, [], ◌∷◌, Option, Some, None, length, map, take, slice_get, append_assoc, eq-eqb, refl, ap, subst, arith}
use Rattle.std.specs.Prelude.{◌==◌, filter, find, nat_le, nat_lt}
use Rattle.std.specs.List.{list_all, list_any}
use Rattle.std.specs.Option.{is_none, is_some, option_map, unwrap_or}
use Rattle.std.proofs.lemmas.Bool.{cases_lt, eqb-true}
use Rattle.std.proofs.lemmas.List.{length-take, take-append-le}
use Rattle.engine_types.specs.declared.Declared.{Declared}
use Rattle.engine_types.specs.declared.Exchange.{Exchange}
use Rattle.engine_types.specs.declared.Listed.{Listed}
use Rattle.engine_types.specs.declared.Outcome.{Outcome}
use Rattle.engine_types.specs.declared.Report.{Report}
use Rattle.engine_types.specs.declared.Request.{Request}
use Rattle.engine_types.specs.declared.StreamFault.{StreamFault}
use Rattle.engine_types.specs.declared.WireEnd.{WireEnd}
use Rattle.event_watch.specs.Events.{events}
use Rattle.event_watch.specs.Verdicts.{both}
use Rattle.event_watch.proofs.Further.{events_stay}
use Rattle.response_rules.specs.Json.{given}
use Rattle.run_model.specs.Conditions.{is_failed_verdict, is_met_verdict, judge}
use Rattle.run_model.specs.Numbers.{numbers_from, places}
use Rattle.run_model.specs.declared.Verdict.{Verdict}
use Rattle.wait_run.specs.Comes.{Comes}
use Rattle.wait_run.specs.Ends.{failed_by, fails_goal, first_failing, last_refused, name_at, refusal_status, refused_by, status_of}
use Rattle.wait_run.specs.Goals.{met_now}
use Rattle.wait_run.specs.Laws.{GoalsAreMetOnce, GoodEndsMeetAll, MoreEventsOnlyAdd}
use Rattle.wait_run.specs.Looks.{absent, look, looks, requests, rows_by, rows_in}
use Rattle.wait_run.specs.Reports.{all_met, goal_at, is_refused, is_settled, lacks_one, met_in, reported, said_in, some_failed, verdict_on}
use Rattle.wait_run.specs.Ways.{looks_of}
use Rattle.wait_run.specs.declared.refusal.WaitRefusal.{WaitRefusal}
use Rattle.wait_run.specs.declared.waited.Waited.{Waited}
use Rattle.wait_run.proofs.Ending.{refusal_by}
use Rattle.wait_run.proofs.Places.{any_none}
use Rattle.wait_run.proofs.Reported.{met_more}
use Rattle.wait_run.proofs.Stays.{later_looks, looks_stay, reported_stays, requests_stay}
use Rattle.wait_run.proofs.Turning.{verdict_stays, verdict_turns}

-- ---- more events only add

abbrev said_by : Declared → List ℕ → List Exchange → Option (List Listed) → List (ℕ × Report)
said_by declared body done o = unwrap_or (option_map (λ rows. reported (looks declared rows (events body).told) done) o) []

said_stays : (declared : Declared) (body more : List ℕ) (made : List Exchange) → length made ≤ length (requests declared body made) → (k : ℕ)
    → said_in declared (body ++ more) (take k made) ≡ said_in declared body (take k made)
said_stays declared body more [] short zero = refl
said_stays declared body more [] short (suc k) = refl
said_stays declared body more (listing ∷ done) short zero = refl
said_stays declared body more (listing ∷ done) short (suc k) = by (rows_by listing.outcome) refl
  where
    length_map : {A : Type 0} (f : ℕ → A) (l : List ℕ) → length (map f l) ≡ length l
    length_map f [] = refl
    length_map f (x ∷ l) = ap suc (length_map f l)

    by : (o : Option (List Listed)) → rows_by listing.outcome ≡ o → said_by declared (body ++ more) (take k done) (rows_by listing.outcome) ≡ said_by declared body (take k done) (rows_by listing.outcome)
    by None e = ap (said_by declared (body ++ more) (take k done)) e ∙ sym (ap (said_by declared body (take k done)) e)
    by (Some rows) e =
        let later : List ℕ = later_looks declared rows (events_stay body more).0 in
        let longer : looks_of declared rows (body ++ more) ≡ looks_of declared rows body ++ later =
        ap (looks declared rows) (events_stay body more).1 ∙ looks_stay declared rows (events body).told (events_stay body more).0 in
        let asked : requests declared body (listing ∷ done) ≡ Request.ListContainers declared.project ∷ map (look declared rows) (looks_of declared rows body) =
        ap (λ o. Request.ListContainers declared.project ∷ unwrap_or (option_map (λ r. map (look declared r) (looks declared r (events body).told)) o) []) e in
        let l = ap length asked in
        let m = length_map (look declared rows) (looks_of declared rows body) in
        let t = length-take k done in
        ap (said_by declared (body ++ more) (take k done)) e
        ∙ ap (λ asks. reported asks (take k done)) longer
        ∙ reported_stays (looks_of declared rows body) later (take k done) (omega (arith, l, m, t, short))
        ∙ sym (ap (said_by declared body (take k done)) e)

pub more_add : MoreEventsOnlyAdd
more_add = λ declared body more made waits.
    let short = asked_short declared body made waits.asked in
    let later = requests_stay declared body more made in
    record {
      asked = waits.asked ∙ sym (take-append-le (length made) (requests declared body made) later.0 short) ∙ ap (take (length made)) (sym later.1);
      goes_on = λ k less.
          ap (λ said. (nat_lt 0 (length (take k made)) && (is_none (rows_in (take k made)) || nat_lt (length said + 1) (length (take k made))))
          || (lacks_one declared (take k made) || (is_some (rows_in (take k made)) && is_settled declared said))) (said_stays declared body more made short k)
          ∙ waits.goes_on k less;
    }
  where
    length_mapped : (l : List Exchange) → length (map (λ exchange. exchange.request) l) ≡ length l
    length_mapped [] = refl
    length_mapped (x ∷ l) = ap suc (length_mapped l)

    asked_short : (declared : Declared) (body : List ℕ) (made : List Exchange) → map (λ exchange. exchange.request) made ≡ take (length made) (requests declared body made)
        → length made ≤ length (requests declared body made)
    asked_short declared body made asked =
        let e = ap length asked in
        let l = length_mapped made in
        let t = length-take (length made) (requests declared body made) in
        omega (arith, e, l, t)

-- ---- goals are met once

abbrev is_known : Verdict → Bool
is_known Verdict.NotYet = false
is_known _ = true

got_where : {A : Type 0} (xs ys : List A) (n : ℕ) (a : A) → slice_get (xs ++ ys) n ≡ Some a → (slice_get xs n ≡ Some a) ⊎ ((k : ℕ) × (n ≡ length xs + k) × (slice_get ys k ≡ Some a))
got_where [] ys n a e = inr (n, omega arith, e)
got_where (x ∷ xs) ys zero a e = inl e
got_where (x ∷ xs) ys (suc n) a e = by (got_where xs ys n a e)
  where
    by : (slice_get xs n ≡ Some a) ⊎ ((k : ℕ) × (n ≡ length xs + k) × (slice_get ys k ≡ Some a))
        → (slice_get xs n ≡ Some a) ⊎ ((k : ℕ) × (suc n ≡ length (x ∷ xs) + k) × (slice_get ys k ≡ Some a))
    by (inl h) = inl h
    by (inr h) = let p = h.1 in inr (h.0, omega (arith, p), h.2)

got_front : {A : Type 0} (xs ys : List A) (n : ℕ) (a : A) → slice_get xs n ≡ Some a → slice_get (xs ++ ys) n ≡ Some a
got_front [] ys n a e = let bad : None ≡ Some a = e in absurd (cc bad)
got_front (x ∷ xs) ys zero a e = e
got_front (x ∷ xs) ys (suc n) a e = got_front xs ys n a e

got_behind : {A : Type 0} (xs : List A) (a : A) → slice_get (xs ++ a ∷ []) (length xs) ≡ Some a
got_behind [] a = refl
got_behind (x ∷ xs) a = got_behind xs a

-- one that is put among the met was open before, and is met now
met_now_is : (s : ℕ) (before after : Verdict) (k t : ℕ) → slice_get (met_now s before after) k ≡ Some t → (t ≡ s) × (k ≡ 0) × (before ≡ Verdict.NotYet) × (after ≡ Verdict.Met)
met_now_is s Verdict.NotYet Verdict.Met zero t e = let same : Some s ≡ Some t = e in let is : s ≡ t = cc same in (sym is, refl, refl, refl)
met_now_is s Verdict.NotYet Verdict.Met (suc k) t e = let bad : None ≡ Some t = e in absurd (cc bad)
met_now_is s Verdict.NotYet Verdict.NotYet k t e = let bad : None ≡ Some t = e in absurd (cc bad)
met_now_is s Verdict.NotYet Verdict.Failed k t e = let bad : None ≡ Some t = e in absurd (cc bad)
met_now_is s Verdict.Met after k t e = let bad : None ≡ Some t = e in absurd (cc bad)
met_now_is s Verdict.Failed after k t e = let bad : None ≡ Some t = e in absurd (cc bad)

known_on : (before judged : Verdict) → is_known before ≡ true → is_known (both before judged) ≡ true
known_on Verdict.NotYet judged e = let bad : false ≡ true = e in absurd (cc bad)
known_on Verdict.Met Verdict.NotYet e = refl
known_on Verdict.Met Verdict.Met e = refl
known_on Verdict.Met Verdict.Failed e = refl
known_on Verdict.Failed judged e = refl

-- what holds of the slots whose goals were met by some reports
record MetOnce (declared : Declared) (said : List (ℕ × Report)) : Type 0 where
  known : (i s : ℕ) → slice_get (met_in declared said) i ≡ Some s → is_known (verdict_on declared said s) ≡ true
  once : (i j s : ℕ) → slice_get (met_in declared said) i ≡ Some s → slice_get (met_in declared said) j ≡ Some s → i ≡ j
  there : (s : ℕ) → is_met_verdict (verdict_on declared said s) ≡ true → (i : ℕ) × (slice_get (met_in declared said) i ≡ Some s)

met_none : (declared : Declared) → MetOnce declared []
met_none declared = record {
  known = λ i s e. let bad : None ≡ Some s = e in absurd (cc bad);
  once = λ i j s e f. let bad : None ≡ Some s = e in absurd (cc bad);
  there = λ s e. let bad : false ≡ true = e in absurd (cc bad);
}

module _ (declared : Declared) (said : List (ℕ × Report)) (s : ℕ) (report : Report) (has : MetOnce declared said) where
  abbrev after : List (ℕ × Report)
  after = said ++ (s, report) ∷ []

  abbrev before : Verdict
  before = verdict_on declared said s

  abbrev judged : Verdict
  judged = judge (goal_at declared s) report

  abbrev now : List ℕ
  now = met_now s before (both before judged)

  same : (n : ℕ) → (n == n) ≡ true
  same n = eq-eqb n n refl

  turned : verdict_on declared after s ≡ both before judged
  turned = verdict_turns declared said s report s (same s)

  split : (i t : ℕ) → slice_get (met_in declared after) i ≡ Some t → (slice_get (met_in declared said) i ≡ Some t) ⊎ ((k : ℕ) × (i ≡ length (met_in declared said) + k) × (slice_get now k ≡ Some t))
  split i t e = got_where (met_in declared said) now i t (ap (λ l. slice_get l i) (sym (met_more declared said s report)) ∙ e)

  open_known : is_known before ≡ true → before ≡ Verdict.NotYet → ⊥
  open_known e is = let bad : false ≡ true = ap is_known (sym is) ∙ e in cc bad

  known : (i t : ℕ) → slice_get (met_in declared after) i ≡ Some t → is_known (verdict_on declared after t) ≡ true
  known i t e = by (split i t e)
    where
      at : (b : Bool) → (s == t) ≡ b → is_known (verdict_on declared said t) ≡ true → is_known (verdict_on declared after t) ≡ true
      at true is was =
          let one : s ≡ t = eqb-true s t is in
          ap is_known (verdict_turns declared said s report t is)
          ∙ known_on (verdict_on declared said t) (judge (goal_at declared t) report) was
      at false is was = ap is_known (verdict_stays declared said s report t is) ∙ was

      by : (slice_get (met_in declared said) i ≡ Some t) ⊎ ((k : ℕ) × (i ≡ length (met_in declared said) + k) × (slice_get now k ≡ Some t)) → is_known (verdict_on declared after t) ≡ true
      by (inl h) = at (s == t) refl (has.known i t h)
      by (inr h) =
          let m = met_now_is s before (both before judged) h.0 t h.2 in
          ap (λ n. is_known (verdict_on declared after n)) m.0 ∙ ap is_known (turned ∙ m.3)

  once : (i j t : ℕ) → slice_get (met_in declared after) i ≡ Some t → slice_get (met_in declared after) j ≡ Some t → i ≡ j
  once i j t e f = by (split i t e) (split j t f)
    where
      never : (n : ℕ) → slice_get (met_in declared said) n ≡ Some t → (k : ℕ) → slice_get now k ≡ Some t → ⊥
      never n e k f =
          let m = met_now_is s before (both before judged) k t f in
          open_known (ap (λ n. is_known (verdict_on declared said n)) (sym m.0) ∙ has.known n t e) m.2

      by : (slice_get (met_in declared said) i ≡ Some t) ⊎ ((k : ℕ) × (i ≡ length (met_in declared said) + k) × (slice_get now k ≡ Some t))
          → (slice_get (met_in declared said) j ≡ Some t) ⊎ ((k : ℕ) × (j ≡ length (met_in declared said) + k) × (slice_get now k ≡ Some t)) → i ≡ j
      by (inl g) (inl h) = has.once i j t g h
      by (inl g) (inr h) = absurd (never i g h.0 h.2)
      by (inr g) (inl h) = absurd (never j h g.0 g.2)
      by (inr g) (inr h) =
          let a : g.0 ≡ 0 = (met_now_is s before (both before judged) g.0 t g.2).1 in
          let b : h.0 ≡ 0 = (met_now_is s before (both before judged) h.0 t h.2).1 in
          let c = g.1 in
          let d = h.1 in
          omega (arith, a, b, c, d)

  there : (t : ℕ) → is_met_verdict (verdict_on declared after t) ≡ true → (i : ℕ) × (slice_get (met_in declared after) i ≡ Some t)
  there t e = at (s == t) refl
    where
      front : (i : ℕ) × (slice_get (met_in declared said) i ≡ Some t) → (i : ℕ) × (slice_get (met_in declared after) i ≡ Some t)
      front h = (h.0, ap (λ l. slice_get l h.0) (met_more declared said s report) ∙ got_front (met_in declared said) now h.0 t h.1)

      own : (v j : Verdict) → before ≡ v → judged ≡ j → is_met_verdict (both v j) ≡ true → (i : ℕ) × (slice_get (met_in declared after) i ≡ Some s)
      own Verdict.Failed j was is met = let bad : false ≡ true = met in absurd (cc bad)
      own Verdict.Met j was is met =
          let h = has.there s (ap is_met_verdict was) in
          (h.0, ap (λ l. slice_get l h.0) (met_more declared said s report) ∙ got_front (met_in declared said) now h.0 s h.1)
      own Verdict.NotYet Verdict.Failed was is met = let bad : false ≡ true = met in absurd (cc bad)
      own Verdict.NotYet Verdict.NotYet was is met = let bad : false ≡ true = met in absurd (cc bad)
      own Verdict.NotYet Verdict.Met was is met = (
        length (met_in declared said),
        ap (λ l. slice_get l (length (met_in declared said))) (met_more declared said s report)
            ∙ ap (λ l. slice_get (met_in declared said ++ l) (length (met_in declared said))) (ap (λ v. met_now s v (both v judged)) was ∙ ap (λ j. met_now s Verdict.NotYet (both Verdict.NotYet j)) is)
            ∙ got_behind (met_in declared said) s,
      )

      at : (b : Bool) → (s == t) ≡ b → (i : ℕ) × (slice_get (met_in declared after) i ≡ Some t)
      at true is =
          let one : s ≡ t = eqb-true s t is in
          let met : is_met_verdict (both before judged) ≡ true = ap is_met_verdict (sym turned) ∙ ap (λ n. is_met_verdict (verdict_on declared after n)) one ∙ e in
          let h = own before judged refl refl met in
          (h.0, h.1 ∙ ap Some one)
      at false is = front (has.there t (ap is_met_verdict (sym (verdict_stays declared said s report t is)) ∙ e))

  met_step : MetOnce declared (said ++ (s, report) ∷ [])
  met_step = record { known = known; once = once; there = there }

met_on : (declared : Declared) (said more : List (ℕ × Report)) → MetOnce declared said → MetOnce declared (said ++ more)
met_on declared said [] has = subst (MetOnce declared) (sym (append_none said)) has
  where
    append_none : (l : List (ℕ × Report)) → l ++ [] ≡ l
    append_none [] = refl
    append_none (x ∷ l) = ap (λ m. x ∷ m) (append_none l)
met_on declared said ((s, report) ∷ more) has =
    subst (MetOnce declared) (append_assoc said ((s, report) ∷ []) more) (met_on declared (said ++ (s, report) ∷ []) more (met_step declared said s report has))

pub met_once : GoalsAreMetOnce
met_once = λ declared said. (met_on declared [] said (met_none declared)).once

-- ---- good ends meet all

outcome_fails : (outcome : Outcome) (request : Request) → refusal_status (WaitRefusal.Request request outcome) ≡ 0 → ⊥
outcome_fails (Outcome.Answered reply) request e = omega (arith, e)
outcome_fails (Outcome.Lost WireEnd.TooLarge) request e = omega (arith, e)
outcome_fails (Outcome.Lost WireEnd.Fault) request e = omega (arith, e)
outcome_fails (Outcome.Lost WireEnd.Ended) request e = omega (arith, e)
outcome_fails (Outcome.Lost (WireEnd.Malformed at)) request e = omega (arith, e)
outcome_fails (Outcome.Lost WireEnd.Encoded) request e = omega (arith, e)
outcome_fails (Outcome.Lost WireEnd.BadBody) request e = omega (arith, e)
outcome_fails Outcome.NotSent request e = omega (arith, e)
outcome_fails Outcome.Memory request e = omega (arith, e)

stream_fails : (fault : StreamFault) → refusal_status (WaitRefusal.Stream fault) ≡ 0 → ⊥
stream_fails (StreamFault.Refused status) e = omega (arith, e)
stream_fails (StreamFault.Wire WireEnd.TooLarge) e = omega (arith, e)
stream_fails (StreamFault.Wire WireEnd.Fault) e = omega (arith, e)
stream_fails (StreamFault.Wire WireEnd.Ended) e = omega (arith, e)
stream_fails (StreamFault.Wire (WireEnd.Malformed at)) e = omega (arith, e)
stream_fails (StreamFault.Wire WireEnd.Encoded) e = omega (arith, e)
stream_fails (StreamFault.Wire WireEnd.BadBody) e = omega (arith, e)
stream_fails (StreamFault.BadEvent at) e = omega (arith, e)
stream_fails (StreamFault.TooLong at) e = omega (arith, e)
stream_fails StreamFault.Closed e = omega (arith, e)

unrefused : (o : Option WaitRefusal) → status_of o ≡ 0 → o ≡ None
unrefused None e = refl
unrefused (Some (WaitRefusal.NotThere slot)) e = absurd (omega (arith, e))
unrefused (Some (WaitRefusal.Stream fault)) e = absurd (stream_fails fault e)
unrefused (Some (WaitRefusal.Request request outcome)) e = absurd (outcome_fails outcome request e)
unrefused (Some (WaitRefusal.Condition slot condition report)) e = absurd (omega (arith, e))
unrefused (Some WaitRefusal.Memory) e = absurd (omega (arith, e))

-- where no report fails a goal, none has failed
no_failing : (declared : Declared) (s : ℕ) (said : List (ℕ × Report)) → find (fails_goal declared) said ≡ None
    → list_any (λ report. is_failed_verdict (judge (goal_at declared s) report)) (map {B = Report} (λ look. look.1) (filter (λ look. look.0 == s) said)) ≡ false
no_failing declared s [] none = refl
no_failing declared s ((t, report) ∷ said) none = by (fails_goal declared (t, report)) refl none (λ rest. no_failing declared s said rest)
  where
    tests : List (ℕ × Report) → Bool
    tests l = list_any (λ report. is_failed_verdict (judge (goal_at declared s) report)) (map {B = Report} (λ look. look.1) l)

    at : (b : Bool) → (t == s) ≡ b → fails_goal declared (t, report) ≡ false → tests (filter (λ look. look.0 == s) said) ≡ false
        → tests (cond b ((t, report) ∷ filter (λ look. look.0 == s) said) (filter (λ look. look.0 == s) said)) ≡ false
    at true e is rest =
        ap (λ v. v || tests (filter (λ look. look.0 == s) said)) (ap (λ n. is_failed_verdict (judge (goal_at declared n) report)) (sym (eqb-true t s e)) ∙ is) ∙ rest
    at false e is rest = rest

    by : (v : Bool) → fails_goal declared (t, report) ≡ v → cond v (Some (t, report)) (find (fails_goal declared) said) ≡ None
        → (find (fails_goal declared) said ≡ None → tests (filter (λ look. look.0 == s) said) ≡ false)
        → tests (filter (λ look. look.0 == s) ((t, report) ∷ said)) ≡ false
    by true is none later = let bad : Some (t, report) ≡ None = none in absurd (cc bad)
    by false is none later = at (t == s) refl is (later none)

none_failing : (declared : Declared) (said : List (ℕ × Report)) → find (fails_goal declared) said ≡ None → some_failed declared said ≡ false
none_failing declared said none = any_none (λ s. is_failed_verdict (verdict_on declared said s)) (places declared.slots) (λ s. unfailed s)
  where
    by : (b : Bool) → is_failed_verdict (cond b Verdict.Met Verdict.NotYet) ≡ false
    by true = refl
    by false = refl

    unfailed : (s : ℕ) → is_failed_verdict (verdict_on declared said s) ≡ false
    unfailed s =
        ap (λ t. is_failed_verdict (cond t Verdict.Failed (cond (list_any (λ report. is_met_verdict (judge (goal_at declared s) report)) (map {B = Report} (λ look. look.1) (filter (λ look. look.0 == s) said))) Verdict.Met Verdict.NotYet)))
        (no_failing declared s said none)
        ∙ by (list_any (λ report. is_met_verdict (judge (goal_at declared s) report)) (map {B = Report} (λ look. look.1) (filter (λ look. look.0 == s) said)))

last_some : (x : Exchange) (made : List Exchange) → last_refused (x ∷ made) ≡ None → ⊥
last_some x [] e = let bad : Some (refused_by x.request x.outcome) ≡ None = e in cc bad
last_some x (y ∷ made) e = last_some y made e

refused_some : (declared : Declared) (body : List ℕ) (made : List Exchange) → is_refused declared body made ≡ true → last_refused made ≡ None → ⊥
refused_some declared body [] is none = let bad : false ≡ true = is in cc bad
refused_some declared body (x ∷ made) is none = last_some x made none

lacks_some : (declared : Declared) (o : Option (List Listed)) → nat_lt 0 (length (unwrap_or (option_map (λ rows. absent declared rows) o) [])) ≡ true
    → option_map (λ s. WaitRefusal.NotThere (name_at declared s)) (given o (λ rows. slice_get (absent declared rows) 0)) ≡ None → ⊥
lacks_some declared None is none = let bad : false ≡ true = is in cc bad
lacks_some declared (Some rows) is none = by (absent declared rows) is none
  where
    by : (l : List ℕ) → nat_lt 0 (length l) ≡ true → option_map (λ s. WaitRefusal.NotThere (name_at declared s)) (slice_get l 0) ≡ None → ⊥
    by [] is none = let bad : false ≡ true = is in cc bad
    by (s ∷ l) is none = let bad : Some (WaitRefusal.NotThere (name_at declared s)) ≡ None = none in cc bad

end_none : (end : Option StreamFault) → option_map WaitRefusal.Stream end ≡ None → end ≡ None
end_none None e = refl
end_none (Some fault) e = let bad : Some (WaitRefusal.Stream fault) ≡ None = e in absurd (cc bad)

mapped_none : (declared : Declared) (o : Option (ℕ × Report)) → option_map (failed_by declared) o ≡ None → o ≡ None
mapped_none declared None e = refl
mapped_none declared (Some one) e = let bad : Some (failed_by declared one) ≡ None = e in absurd (cc bad)

module _ (declared : Declared) (body : List ℕ) (made : List Exchange) (end : Option StreamFault) (waited : Waited) (comes : Comes declared body made end waited) (well : waited.refusal ≡ None) where
  abbrev said : List (ℕ × Report)
  said = said_in declared body made

  ended_not : (a b c d e f : Bool) → a ≡ false → b ≡ false → c ≡ false → d ≡ false → (a || (b || (e && (f && (c || d))))) ≡ true → ⊥
  ended_not true b c d e f i j k l h = let bad : true ≡ false = i in cc bad
  ended_not false true c d e f i j k l h = let bad : true ≡ false = j in cc bad
  ended_not false false true d e f i j k l h = let bad : true ≡ false = k in cc bad
  ended_not false false false true e f i j k l h = let bad : true ≡ false = l in cc bad
  ended_not false false false false true true i j k l h = let bad : false ≡ true = h in cc bad
  ended_not false false false false true false i j k l h = let bad : false ≡ true = h in cc bad
  ended_not false false false false false f i j k l h = let bad : false ≡ true = h in cc bad

  by : (a b c d : Bool) → some_failed declared said ≡ a → is_refused declared body made ≡ b → lacks_one declared made ≡ c → all_met declared said ≡ d
      → cond a (first_failing declared said) (cond b (last_refused made)
      (cond c (option_map (λ s. WaitRefusal.NotThere (name_at declared s)) (given (rows_in made) (λ rows. slice_get (absent declared rows) 0))) (cond d None (option_map WaitRefusal.Stream end)))) ≡ None
      → all_met declared said ≡ true
  by true b c d e f g h none =
      let bad : true ≡ false = sym e ∙ none_failing declared said (mapped_none declared (find (fails_goal declared) said) none) in absurd (cc bad)
  by false true c d e f g h none = absurd (refused_some declared body made f none)
  by false false true d e f g h none = absurd (lacks_some declared (rows_in made) g none)
  by false false false true e f g h none = h
  by false false false false e f g h none =
      absurd (ended_not (is_refused declared body made) (lacks_one declared made) (some_failed declared said) (all_met declared said) (is_some (rows_in made)) (nat_le (length declared.slots) (length said)) f g e h
      (comes.over (end_none end none)))

  well_met : all_met declared said ≡ true
  well_met =
      by (some_failed declared said) (is_refused declared body made) (lacks_one declared made) (all_met declared said) refl refl refl refl
      (sym (refusal_by declared body made end (some_failed declared said) (is_refused declared body made) (lacks_one declared made) (all_met declared said) refl refl refl refl)
      ∙ sym comes.refusal ∙ well)

all_at : (p : ℕ → Bool) (i n k : ℕ) → list_all p (numbers_from i n) ≡ true → i ≤ k → k < i + n → p k ≡ true
all_at p i zero k all low high = absurd (omega (arith, low, high))
all_at p i (suc n) k all low high = by (p i) refl all (λ rest up more. all_at p (i + 1) n k rest up more)
  where
    at : (i ≡ k) ⊎ (i + 1 ≤ k) → p i ≡ true → list_all p (numbers_from (i + 1) n) ≡ true → (list_all p (numbers_from (i + 1) n) ≡ true → i + 1 ≤ k → k < i + 1 + n → p k ≡ true) → p k ≡ true
    at (inl e) here rest later = ap p (sym e) ∙ here
    at (inr up) here rest later = later rest up (omega (arith, high))

    by_order : (i < k) ⊎ (k ≤ i) → (i ≡ k) ⊎ (i + 1 ≤ k)
    by_order (inl less) = inr (omega arith)
    by_order (inr more) = inl (omega (arith, low, more))

    which : (i ≡ k) ⊎ (i + 1 ≤ k)
    which = by_order (cases_lt i k)

    by : (b : Bool) → p i ≡ b → (b && list_all p (numbers_from (i + 1) n)) ≡ true → (list_all p (numbers_from (i + 1) n) ≡ true → i + 1 ≤ k → k < i + 1 + n → p k ≡ true) → p k ≡ true
    by true here rest later = at which here rest later
    by false here rest later = let bad : false ≡ true = rest in absurd (cc bad)

pub good_ends : GoodEndsMeetAll
good_ends = λ declared body made end waited comes zero_status.
    let all = well_met declared body made end waited comes (unrefused waited.refusal zero_status) in
    let has = met_on declared [] (said_in declared body made) (met_none declared) in
    record {
      met = all;
      told = λ s less.
          let h = has.there s (all_at (λ k. is_met_verdict (verdict_on declared (said_in declared body made) k)) 0 (length declared.slots) s all (omega arith) (omega (arith, less))) in
          (h.0, ap (λ l. slice_get l h.0) comes.met ∙ h.1);
    }
