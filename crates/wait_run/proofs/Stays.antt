-- What a longer body of events changes of a wait: nothing of what was asked and reported before.
use Rattle.std.proofs.Common.{◌≡◌, ◌∙◌, ◌++◌, ◌≤◌, append_assoc, sym, ℕ, List, [], ◌∷◌, length, map, take, filter_map, zero, suc, slice_get, Option, Some, None, refl, ap, arith}
use Rattle.std.specs.List.{cons_option}
use Rattle.std.specs.Option.{option_map, unwrap_or}
use Rattle.std.specs.Prelude.{find}
use Rattle.engine_types.specs.declared.Declared.{Declared}
use Rattle.engine_types.specs.declared.Exchange.{Exchange}
use Rattle.engine_types.specs.declared.Listed.{Listed}
use Rattle.engine_types.specs.declared.Report.{Report}
use Rattle.engine_types.specs.declared.Request.{Request}
use Rattle.event_watch.specs.Events.{events}
use Rattle.event_watch.specs.declared.Event.{Event}
use Rattle.event_watch.proofs.Further.{events_stay}
use Rattle.run_model.specs.Conditions.{report_of}
use Rattle.run_model.specs.Numbers.{places}
use Rattle.wait_run.specs.Looks.{look, looks, owns, requests, rows_in}
use Rattle.wait_run.specs.Reports.{reported}

cons_append : {A : Type 0} → (o : Option A) (xs ys : List A) → cons_option o xs ++ ys ≡ cons_option o (xs ++ ys)
cons_append None xs ys = refl
cons_append (Some a) xs ys = refl

filter_map_append : {A B : Type 0} → (f : A → Option B) (xs ys : List A) → filter_map f (xs ++ ys) ≡ filter_map f xs ++ filter_map f ys
filter_map_append f [] ys = refl
filter_map_append f (x ∷ xs) ys = ap (cons_option (f x)) (filter_map_append f xs ys) ∙ sym (cons_append (f x) (filter_map f xs) (filter_map f ys))

pub map_append : {A B : Type 0} → (f : A → B) (xs ys : List A) → map f (xs ++ ys) ≡ map f xs ++ map f ys
map_append f [] ys = refl
map_append f (x ∷ xs) ys = ap (λ l. f x ∷ l) (map_append f xs ys)

-- the slots that are looked at for events, behind those for all slots
abbrev pub later_looks : Declared → List Listed → List Event → List ℕ
later_looks declared rows told = filter_map (λ event. find (owns declared rows event.id) (places declared.slots)) told

pub looks_stay : (declared : Declared) (rows : List Listed) (told later : List Event) → looks declared rows (told ++ later) ≡ looks declared rows told ++ later_looks declared rows later
looks_stay declared rows told later =
    ap (λ l. places declared.slots ++ l) (filter_map_append (λ event. find (owns declared rows event.id) (places declared.slots)) told later)
    ∙ sym (append_assoc (places declared.slots) (later_looks declared rows told) (later_looks declared rows later))

pub nothing_reported : (slots : List ℕ) → reported slots [] ≡ []
nothing_reported [] = refl
nothing_reported (s ∷ slots) = refl

-- looks that weren't made change no report
pub reported_stays : (xs ys : List ℕ) (made : List Exchange) → length made ≤ length xs → reported (xs ++ ys) made ≡ reported xs made
reported_stays [] ys [] less = nothing_reported ys
reported_stays [] ys (x ∷ made) less = absurd (omega (arith, less))
reported_stays (s ∷ xs) ys [] less = refl
reported_stays (s ∷ xs) ys (x ∷ made) less =
    ap (λ r. unwrap_or (option_map (λ report. (s, report) ∷ r) (report_of x.outcome)) []) (reported_stays xs ys made (omega (arith, less)))

-- the requests of a body are first among those of a longer one
pub requests_stay : (declared : Declared) (body more : List ℕ) (made : List Exchange) → (later : List Request) × (requests declared (body ++ more) made ≡ requests declared body made ++ later)
requests_stay declared body more made = by (rows_in made)
  where
    by : (rows : Option (List Listed))
        → (later : List Request) × (Request.ListContainers declared.project ∷ unwrap_or (option_map (λ r. map (look declared r) (looks declared r (events (body ++ more)).told)) rows) []
        ≡ (Request.ListContainers declared.project ∷ unwrap_or (option_map (λ r. map (look declared r) (looks declared r (events body).told)) rows) []) ++ later)
    by None = ([], refl)
    by (Some rows) =
        let e = events_stay body more in (
          map (look declared rows) (later_looks declared rows e.0),
          ap (λ l. Request.ListContainers declared.project ∷ l)
              (ap (λ t. map (look declared rows) (looks declared rows t)) e.1
              ∙ ap (map (look declared rows)) (looks_stay declared rows (events body).told e.0)
              ∙ map_append (look declared rows) (looks declared rows (events body).told) (later_looks declared rows e.0)),
        )

-- ---- reports, look by look

-- the reports are those of the first looks
pub reported_take : (xs : List ℕ) (made : List Exchange) (k : ℕ) → reported xs (take k made) ≡ take k (reported xs made)
reported_take [] made k = sym (take_nothing k)
  where
    take_nothing : (n : ℕ) → take n (reported [] made) ≡ []
    take_nothing zero = refl
    take_nothing (suc n) = refl
reported_take (s ∷ xs) [] zero = refl
reported_take (s ∷ xs) [] (suc k) = refl
reported_take (s ∷ xs) (x ∷ made) zero = refl
reported_take (s ∷ xs) (x ∷ made) (suc k) = by (report_of x.outcome) (reported_take xs made k)
  where
    by : (o : Option Report) → reported xs (take k made) ≡ take k (reported xs made) → unwrap_or (option_map (λ report. (s, report) ∷ reported xs (take k made)) o) [] ≡ take (suc k) (unwrap_or (option_map (λ report. (s, report) ∷ reported xs made) o) [])
    by None rest = refl
    by (Some report) rest = ap (λ l. (s, report) ∷ l) rest

-- there are no more reports than looks that are asked for, and than exchanges
pub reported_short : (xs : List ℕ) (made : List Exchange) → (length (reported xs made) ≤ length xs) × (length (reported xs made) ≤ length made)
reported_short [] made = (omega arith, omega arith)
reported_short (s ∷ xs) [] = (omega arith, omega arith)
reported_short (s ∷ xs) (x ∷ made) = by (report_of x.outcome) (reported_short xs made)
  where
    by : (o : Option Report) → (length (reported xs made) ≤ length xs) × (length (reported xs made) ≤ length made) → (length (unwrap_or (option_map (λ report. (s, report) ∷ reported xs made) o) []) ≤ length (s ∷ xs))
        × (length (unwrap_or (option_map (λ report. (s, report) ∷ reported xs made) o) []) ≤ length (x ∷ made))
    by None h = (omega arith, omega arith)
    by (Some report) h =
        let a = h.0 in
        let b = h.1 in
        (omega (arith, a), omega (arith, b))

-- behind looks that were all answered one more gives its report, or none
pub reported_more : (xs : List ℕ) (made : List Exchange) (x : Exchange) (s : ℕ) → length (reported xs made) ≡ length made → slice_get xs (length made) ≡ Some s
    → reported xs (made ++ x ∷ []) ≡ reported xs made ++ unwrap_or (option_map (λ report. (s, report) ∷ []) (report_of x.outcome)) []
reported_more [] made x s all there = absurd (nothing_there made there)
  where
    nothing_there : (made : List Exchange) → slice_get [] (length made) ≡ Some s → ⊥
    nothing_there [] e = let bad : None ≡ Some s = e in cc bad
    nothing_there (y ∷ made) e = let bad : None ≡ Some s = e in cc bad
reported_more (t ∷ xs) [] x s all there = by (report_of x.outcome)
  where
    is : t ≡ s
    is = let same : Some t ≡ Some s = there in cc same

    by : (o : Option Report) → unwrap_or (option_map (λ report. (t, report) ∷ reported xs []) o) [] ≡ unwrap_or (option_map (λ report. (s, report) ∷ []) o) []
    by None = refl
    by (Some report) = ap (λ l. (t, report) ∷ l) (nothing_reported xs) ∙ ap (λ k. (k, report) ∷ []) is
reported_more (t ∷ xs) (y ∷ made) x s all there = by (report_of y.outcome) all (λ e. reported_more xs made x s e there)
  where
    by : (o : Option Report) → length (unwrap_or (option_map (λ report. (t, report) ∷ reported xs made) o) []) ≡ length (y ∷ made)
        → (length (reported xs made) ≡ length made → reported xs (made ++ x ∷ []) ≡ reported xs made ++ unwrap_or (option_map (λ report. (s, report) ∷ []) (report_of x.outcome)) [])
        → unwrap_or (option_map (λ report. (t, report) ∷ reported xs (made ++ x ∷ [])) o) []
        ≡ unwrap_or (option_map (λ report. (t, report) ∷ reported xs made) o) [] ++ unwrap_or (option_map (λ report. (s, report) ∷ []) (report_of x.outcome)) []
    by None e rest = absurd (omega (arith, e))
    by (Some report) e rest = ap (λ l. (t, report) ∷ l) (rest (omega (arith, e)))
