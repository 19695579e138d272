-- What a wait comes to, by what ended it.
use Rattle.std.proofs.Common.{◌≡◌, ◌∙◌, ◌+◌, ◌≤◌, ◌&&◌, ◌||◌, ◌⊎◌, inl, inr, sym, Bool, true, false, cond, ℕ, suc, List, [], ◌∷◌, Option, Some, None, Result, Ok, Err, length, map, take, slice_get, refl, ap, subst, arith}
use Rattle.std.specs.Prelude.{find, nat_lt}
use Rattle.std.specs.Option.{is_some, option_map}
use Rattle.std.proofs.lemmas.Bool.{le-ltb}
use Rattle.std.proofs.lemmas.List.{take_all}
use Rattle.engine_types.specs.declared.Declared.{Declared}
use Rattle.engine_types.specs.declared.Exchange.{Exchange}
use Rattle.engine_types.specs.declared.Listed.{Listed}
use Rattle.engine_types.specs.declared.Report.{Report}
use Rattle.engine_types.specs.declared.StreamFault.{StreamFault}
use Rattle.engine_types.specs.declared.WireEnd.{WireEnd}
use Rattle.http_request.specs.Events.{events_request}
use Rattle.http_response.specs.Hearing.{Heard, Hears}
use Rattle.http_response.specs.declared.OpenBody.{OpenBody}
use Rattle.outside_api.specs.Pipes.{Talk, ToldBy, after_write}
use Rattle.outside_api.specs.Standings.{Standing, account_of}
use Rattle.outside_files.specs.Counts.{Rose}
use Rattle.response_rules.specs.Json.{given}
use Rattle.tree_base.specs.Limits.{most_stream_bytes}
use Rattle.wait_run.specs.Asking.{IsWait}
use Rattle.wait_run.specs.Comes.{EndsAs, EndsSo, IsSaid, IsStreamed, IsUnopened, Waits}
use Rattle.wait_run.specs.Ends.{CameTo, failed_by, fails_goal, first_failing, last_refused, name_at, refusal_of}
use Rattle.wait_run.specs.Goals.{failing_report, is_settled_now}
use Rattle.wait_run.specs.Looks.{absent, look, requests, rows_in}
use Rattle.wait_run.specs.Reports.{all_met, has_ended, is_refused, is_settled, lacks_one, met_in, reported, said_in, some_failed}
use Rattle.wait_run.specs.Streams.{IsOpenStream, OpensBy, ReadsTo, SendsBy}
use Rattle.wait_run.specs.Watching.{EndsFrom, Watches, WatchesTo}
use Rattle.wait_run.specs.Ways.{EndsBy, EndsListing, IsRefusedBy, Way, looks_of}
use Rattle.wait_run.specs.declared.goals.Failing.{Failing}
use Rattle.wait_run.specs.declared.goals.Goals.{Goals}
use Rattle.wait_run.specs.declared.refusal.WaitRefusal.{WaitRefusal}
use Rattle.wait_run.specs.declared.waited.Waited.{Waited}
use Rattle.wait_run.proofs.Making.{makes_none}
use Rattle.wait_run.proofs.Reported.{settled_is}
use Rattle.wait_run.proofs.Streaming.{ends_from, hears_as, nothing_heard, streamed}
use Rattle.wait_run.proofs.Ways.{lacks_is, refused_is, requests_are, said_is, way_ended, way_waits}

-- ---- the refusal

-- by the answers to the four questions
pub refusal_by : (declared : Declared) (body : List ℕ) (made : List Exchange) (end : Option StreamFault) (a b c d : Bool)
    → some_failed declared (said_in declared body made) ≡ a → is_refused declared body made ≡ b → lacks_one declared made ≡ c → all_met declared (said_in declared body made) ≡ d
    → refusal_of declared body made end
    ≡ cond a (first_failing declared (said_in declared body made)) (cond b (last_refused made)
    (cond c (option_map (λ s. WaitRefusal.NotThere (name_at declared s)) (given (rows_in made) (λ rows. slice_get (absent declared rows) 0)))
    (cond d None (option_map WaitRefusal.Stream end))))
refusal_by declared body made end a b c d e f g h =
    let absent_first : Option WaitRefusal = option_map (λ s. WaitRefusal.NotThere (name_at declared s)) (given (rows_in made) (λ rows. slice_get (absent declared rows) 0)) in
    let failing : Option WaitRefusal = first_failing declared (said_in declared body made) in
    let left : Option WaitRefusal = option_map WaitRefusal.Stream end in
    ap (λ t. cond t failing (cond (is_refused declared body made) (last_refused made) (cond (lacks_one declared made) absent_first (cond (all_met declared (said_in declared body made)) None left)))) e
    ∙ ap (λ t. cond a failing (cond t (last_refused made) (cond (lacks_one declared made) absent_first (cond (all_met declared (said_in declared body made)) None left)))) f
    ∙ ap (λ t. cond a failing (cond b (last_refused made) (cond t absent_first (cond (all_met declared (said_in declared body made)) None left)))) g
    ∙ ap (λ t. cond a failing (cond b (last_refused made) (cond c absent_first (cond t None left)))) h

-- a goal that has failed goes before all else
refusal_failed : (declared : Declared) (body : List ℕ) (made : List Exchange) (end : Option StreamFault) (o : Option (ℕ × Report)) (failing : ℕ × Report)
    → some_failed declared (said_in declared body made) ≡ true → o ≡ find (fails_goal declared) (said_in declared body made) → o ≡ Some failing
    → refusal_of declared body made end ≡ Some (failed_by declared failing)
refusal_failed declared body made end o failing e is there =
    refusal_by declared body made end true (is_refused declared body made) (lacks_one declared made) (all_met declared (said_in declared body made)) e refl refl refl
    ∙ ap (option_map (failed_by declared)) (sym is ∙ there)

-- ---- what a wait came to

-- it wanted memory
short_as : (declared : Declared) (read : List ℕ) (ended : Bool) (body : List ℕ) (made : List Exchange) (f h k : ℕ) (waited : Waited) → (body ≡ []) ⊎ IsStreamed read body
    → waited.refusal ≡ Some WaitRefusal.Memory → IsWait declared body made → waited.met ≡ take k (met_in declared (said_in declared body made))
    → EndsAs declared read ended body made f h waited
short_as declared read ended body made f h k waited streamed refusal waits met = inl (record { streamed = streamed; refusal = refusal; waits = waits; met = (k, met) })

all_taken : (l m : List ℕ) → m ≡ l → m ≡ take (length l) l
all_taken l m e = e ∙ sym (take_all (length l) l (omega arith))

-- its exchanges ended it
ended_as : (declared : Declared) (read : List ℕ) (ended : Bool) (body : List ℕ) (made : List Exchange) (f h : ℕ) (waited : Waited) → IsStreamed read body → IsWait declared body made
    → has_ended declared body made ≡ true → waited.met ≡ met_in declared (said_in declared body made) → waited.refusal ≡ refusal_of declared body made None
    → EndsAs declared read ended body made f h waited
ended_as declared read ended body made f h waited is waits over met refusal = inr (inr (
  None,
  is,
  record {
    waits = waits;
    whole = λ open_still. let bad : true ≡ false = sym over ∙ open_still in absurd (cc bad);
    over = λ none. over;
    met = met;
    refusal = refusal;
  },
  tt,
))

refused_ends : (declared : Declared) (body : List ℕ) (made : List Exchange) → is_refused declared body made ≡ true → has_ended declared body made ≡ true
refused_ends declared body made e = ap (λ t. t || (lacks_one declared made || (is_some (rows_in made) && is_settled declared (said_in declared body made)))) e

came_by : (declared : Declared) (failing : Option (ℕ × Report)) (refusal : WaitRefusal) (r : Option WaitRefusal) → CameTo declared failing (Err refusal) r
    → (r ≡ Some WaitRefusal.Memory) ⊎ (((failing ≡ None) × (r ≡ Some refusal)) ⊎ ((one : ℕ × Report) × (failing ≡ Some one) × (r ≡ Some (failed_by declared one))))
came_by declared failing WaitRefusal.Memory r c = inl c
came_by declared None (WaitRefusal.NotThere slot) r c = inr (inl (refl, c))
came_by declared None (WaitRefusal.Stream fault) r c = inr (inl (refl, c))
came_by declared None (WaitRefusal.Request request outcome) r c = inr (inl (refl, c))
came_by declared None (WaitRefusal.Condition slot condition report) r c = inr (inl (refl, c))
came_by declared (Some one) (WaitRefusal.NotThere slot) r (inl c) = inl c
came_by declared (Some one) (WaitRefusal.NotThere slot) r (inr c) = inr (inr (one, refl, c))
came_by declared (Some one) (WaitRefusal.Stream fault) r (inl c) = inl c
came_by declared (Some one) (WaitRefusal.Stream fault) r (inr c) = inr (inr (one, refl, c))
came_by declared (Some one) (WaitRefusal.Request request outcome) r (inl c) = inl c
came_by declared (Some one) (WaitRefusal.Request request outcome) r (inr c) = inr (inr (one, refl, c))
came_by declared (Some one) (WaitRefusal.Condition slot condition report) r (inl c) = inl c
came_by declared (Some one) (WaitRefusal.Condition slot condition report) r (inr c) = inr (inr (one, refl, c))

came_well : (declared : Declared) (failing : Option (ℕ × Report)) (r : Option WaitRefusal) → CameTo declared failing (Ok tt) r
    → (r ≡ Some WaitRefusal.Memory) ⊎ (((failing ≡ None) × (r ≡ None)) ⊎ ((one : ℕ × Report) × (failing ≡ Some one) × (r ≡ Some (failed_by declared one))))
came_well declared None r c = inr (inl (refl, c))
came_well declared (Some one) r (inl c) = inl c
came_well declared (Some one) r (inr c) = inr (inr (one, refl, c))

some_mapped : (o : Option Failing) (one : ℕ × Report) → option_map failing_report o ≡ Some one → is_some o ≡ true
some_mapped None one e = let bad : None ≡ Some one = e in absurd (cc bad)
some_mapped (Some f) one e = refl

none_mapped : (o : Option Failing) → option_map failing_report o ≡ None → is_some o ≡ false
none_mapped None e = refl
none_mapped (Some f) e = let bad : Some (failing_report f) ≡ None = e in absurd (cc bad)

-- ---- behind a watch

module _ (declared : Declared) (rows : List Listed) (from now : Standing) (goals : Goals) (waited : Waited) (f h : ℕ) (met : waited.met ≡ goals.met) (read : List ℕ) (ended : Bool) where
  abbrev failing : Option (ℕ × Report)
  failing = option_map failing_report goals.failed

  module _ (body : List ℕ) (is : IsStreamed read body) where
    module _ (n : ℕ) (w : Way declared rows body n from now goals) where
      abbrev made : List Exchange
      made = w.listing ∷ w.done

      abbrev said : List (ℕ × Report)
      said = reported (looks_of declared rows body) w.done

      said_here : said_in declared body made ≡ said
      said_here = said_is declared rows body w.listing w.listed w.done

      met_here : waited.met ≡ met_in declared (said_in declared body made)
      met_here = met ∙ w.goals_are.met ∙ ap (met_in declared) (sym said_here)

      some_here : some_failed declared (said_in declared body made) ≡ is_some goals.failed
      some_here = ap (some_failed declared) said_here ∙ w.goals_are.some

      failed_here : failing ≡ find (fails_goal declared) (said_in declared body made)
      failed_here = w.goals_are.failed ∙ ap (find (fails_goal declared)) (sym said_here)

      waits : IsWait declared body made
      waits = way_waits declared rows body n from now goals w

      not_refused : is_refused declared body made ≡ false
      not_refused =
          refused_is declared rows body w.listing w.listed w.done
          ∙ le-ltb (length said + 1) (length w.done + 1) (omega (arith, w.answered, w.many))

      all_there : lacks_one declared made ≡ false
      all_there = lacks_is declared rows body w.listing w.listed w.done ∙ ap (λ l. nat_lt 0 (length l)) w.present

      settled_here : is_settled_now goals ≡ (some_failed declared (said_in declared body made) || all_met declared (said_in declared body made))
      settled_here = settled_is declared rows said goals w.goals_are ∙ ap (λ l. some_failed declared l || all_met declared l) (sym said_here)

      short_here : waited.refusal ≡ Some WaitRefusal.Memory → EndsAs declared read ended body made f h waited
      short_here e = short_as declared read ended body made f h (length (met_in declared (said_in declared body made))) waited (inr is) e waits (all_taken (met_in declared (said_in declared body made)) waited.met met_here)

      -- its goals were settled
      settled_so : length declared.slots ≤ n → is_settled_now goals ≡ true → CameTo declared failing (Ok tt) waited.refusal → EndsAs declared read ended body made f h waited
      settled_so all settled came = by (came_well declared failing waited.refusal came)
        where
          over : has_ended declared body made ≡ true
          over = way_ended declared rows body n from now goals w all ∙ settled

          left_met : (a b : Bool) → (a || b) ≡ true → a ≡ false → b ≡ true
          left_met true b e none = let bad : true ≡ false = none in absurd (cc bad)
          left_met false b e none = e

          by : (waited.refusal ≡ Some WaitRefusal.Memory) ⊎ (((failing ≡ None) × (waited.refusal ≡ None)) ⊎ ((one : ℕ × Report) × (failing ≡ Some one) × (waited.refusal ≡ Some (failed_by declared one))))
              → EndsAs declared read ended body made f h waited
          by (inl e) = short_here e
          by (inr (inl e)) =
              let none : some_failed declared (said_in declared body made) ≡ false = some_here ∙ none_mapped goals.failed e.0 in
              ended_as declared read ended body made f h waited is waits over met_here
              (e.1 ∙ sym (refusal_by declared body made None false false false true none not_refused all_there (left_met (some_failed declared (said_in declared body made)) (all_met declared (said_in declared body made)) (sym settled_here ∙ settled) none)))
          by (inr (inr e)) =
              ended_as declared read ended body made f h waited is waits over met_here
              (e.2 ∙ sym (refusal_failed declared body made None failing e.0 (some_here ∙ some_mapped goals.failed e.0 e.1) failed_here e.1))

    -- the stream ended
    stream_so : (fault : StreamFault) → EndsSo read ended body f h fault → Way declared rows body (length (looks_of declared rows body)) from now goals → is_settled_now goals ≡ false
        → CameTo declared failing (Err (WaitRefusal.Stream fault)) waited.refusal → EndsFrom declared from now f h waited read ended
    stream_so fault so w open_still came = (made (length (looks_of declared rows body)) w, w.makes, (body, by (came_by declared failing (WaitRefusal.Stream fault) waited.refusal came)))
      where
        first_none : (a b : Bool) → (a || b) ≡ false → (a ≡ false) × (b ≡ false)
        first_none true b e = let bad : true ≡ false = e in absurd (cc bad)
        first_none false b e = (refl, e)

        none_now : (some_failed declared (said_in declared body (made (length (looks_of declared rows body)) w)) ≡ false) × (all_met declared (said_in declared body (made (length (looks_of declared rows body)) w)) ≡ false)
        none_now = first_none (some_failed declared (said_in declared body (made (length (looks_of declared rows body)) w))) (all_met declared (said_in declared body (made (length (looks_of declared rows body)) w))) (sym (settled_here (length (looks_of declared rows body)) w) ∙ open_still)

        length_map : (l : List ℕ) → length (map (look declared rows) l) ≡ length l
        length_map [] = refl
        length_map (x ∷ l) = ap suc (length_map l)

        whole : length (made (length (looks_of declared rows body)) w) ≡ length (requests declared body (made (length (looks_of declared rows body)) w))
        whole =
            let e = ap length (requests_are declared rows body w.listing w.listed w.done) in
            let l = length_map (looks_of declared rows body) in
            omega (arith, e, l, w.many)

        end_is : (e : Option StreamFault) → e ≡ Some fault → e ≡ None → ⊥
        end_is e is none = let bad : Some fault ≡ None = sym is ∙ none in cc bad

        by : (waited.refusal ≡ Some WaitRefusal.Memory)
            ⊎ (((failing ≡ None) × (waited.refusal ≡ Some (WaitRefusal.Stream fault))) ⊎ ((one : ℕ × Report) × (failing ≡ Some one) × (waited.refusal ≡ Some (failed_by declared one))))
            → EndsAs declared read ended body (made (length (looks_of declared rows body)) w) f h waited
        by (inl e) = short_here (length (looks_of declared rows body)) w e
        by (inr (inl e)) = inr (inr (
          Some fault,
          is,
          record {
            waits = waits (length (looks_of declared rows body)) w;
            whole = λ none. whole;
            over = λ none. absurd (end_is (Some fault) refl none);
            met = met_here (length (looks_of declared rows body)) w;
            refusal = e.1 ∙ sym (refusal_by declared body (made (length (looks_of declared rows body)) w) (Some fault) false false false false none_now.0 (not_refused (length (looks_of declared rows body)) w) (all_there (length (looks_of declared rows body)) w) none_now.1);
          },
          so,
        ))
        by (inr (inr e)) = let bad : true ≡ false = sym (some_mapped goals.failed e.0 e.1) ∙ sym (some_here (length (looks_of declared rows body)) w) ∙ none_now.0 in absurd (cc bad)

    -- an exchange ended it, or want of memory
    exchange_so : (refusal : WaitRefusal) → EndsBy declared body from now refusal goals → CameTo declared failing (Err refusal) waited.refusal → EndsFrom declared from now f h waited read ended
    exchange_so refusal ends came = (ends.made, ends.makes, (body, by ends.why))
      where
        by_refused : IsRefusedBy declared body ends.made refusal goals
            → (waited.refusal ≡ Some WaitRefusal.Memory) ⊎ (((failing ≡ None) × (waited.refusal ≡ Some refusal)) ⊎ ((one : ℕ × Report) × (failing ≡ Some one) × (waited.refusal ≡ Some (failed_by declared one))))
            → EndsAs declared read ended body ends.made f h waited
        by_refused r (inl e) =
            short_as declared read ended body ends.made f h (length (met_in declared (said_in declared body ends.made))) waited (inr is) e ends.waits
            (all_taken (met_in declared (said_in declared body ends.made)) waited.met (met ∙ r.met))
        by_refused r (inr (inl e)) =
            ended_as declared read ended body ends.made f h waited is ends.waits (refused_ends declared body ends.made r.refused) (met ∙ r.met)
            (e.1 ∙ sym (refusal_by declared body ends.made None false true (lacks_one declared ends.made) (all_met declared (said_in declared body ends.made)) (r.some ∙ none_mapped goals.failed e.0) r.refused refl refl ∙ r.last))
        by_refused r (inr (inr e)) =
            ended_as declared read ended body ends.made f h waited is ends.waits (refused_ends declared body ends.made r.refused) (met ∙ r.met)
            (e.2 ∙ sym (refusal_failed declared body ends.made None failing e.0 (r.some ∙ some_mapped goals.failed e.0 e.1) r.failed e.1))

        by : ((refusal ≡ WaitRefusal.Memory) × ((k : ℕ) × (goals.met ≡ take k (met_in declared (said_in declared body ends.made)))))
            ⊎ IsRefusedBy declared body ends.made refusal goals → EndsAs declared read ended body ends.made f h waited
        by (inl e) =
            short_as declared read ended body ends.made f h e.1.0 waited (inr is)
            (let c : CameTo declared failing (Err WaitRefusal.Memory) waited.refusal = subst (λ r. CameTo declared failing (Err r) waited.refusal) e.0 came in c) ends.waits (met ∙ e.1.1)
        by (inr r) = by_refused r (came_by declared failing refusal waited.refusal came)

  -- what a watch came to is what the wait did
  pub watched_so : (body : List ℕ) (result : Result Unit WaitRefusal) → WatchesTo declared rows body from now goals f h result read ended → CameTo declared failing result waited.refusal
      → EndsFrom declared from now f h waited read ended
  watched_so body (Ok done) came_to came =
      let w = came_to.1.1 in
      ((w.listing ∷ w.done), w.makes, (body, settled_so body came_to.0 came_to.1.0 w came_to.1.2 came_to.1.3 came))
  watched_so body (Err refusal) came_to came = by came_to.1
    where
      by : EndsBy declared body from now refusal goals
          ⊎ ((fault : StreamFault) × (refusal ≡ WaitRefusal.Stream fault) × EndsSo read ended body f h fault × Way declared rows body (length (looks_of declared rows body)) from now goals × (is_settled_now goals ≡ false))
          → EndsFrom declared from now f h waited read ended
      by (inl ends) = exchange_so body came_to.0 refusal ends came
      by (inr e) = stream_so body came_to.0 e.0 e.2 e.3 e.4 (subst (λ r. CameTo declared failing (Err r) waited.refusal) e.1 came)

pub watches_so : (declared : Declared) (rows : List Listed) (from now : Standing) (goals : Goals) (waited : Waited) (a c : Option Talk) (f h : ℕ) (result : Result Unit WaitRefusal) → waited.met ≡ goals.met
    → Watches declared rows from now a c f h goals result → CameTo declared (option_map failing_report goals.failed) result waited.refusal
    → Hears a c (EndsFrom declared from now f h waited)
watches_so declared rows from now goals waited a c f h result met watches came =
    hears_as a c (WatchesTo declared rows watches.body from now goals f h result) (EndsFrom declared from now f h waited) watches.comes
    (λ n e came_to. watched_so declared rows from now goals waited f h met n e watches.body result came_to came)

-- ---- with the listing

pub listing_so : (declared : Declared) (from now : Standing) (open_body : OpenBody) (a b : Option Talk) (f h : ℕ) (refusal : WaitRefusal) (waited : Waited) → ReadsTo open_body [] a b
    → EndsListing declared from now refusal → waited.refusal ≡ Some refusal → waited.met ≡ [] → Hears a b (EndsFrom declared from now f h waited)
listing_so declared from now open_body a b f h refusal waited reads ends is none =
    hears_as a b (IsOpenStream open_body []) (EndsFrom declared from now f h waited) reads.0
    (λ n e o. (ends.made, ends.makes, ([], by n e (streamed open_body n e [] o reads.1) ends.why)))
  where
    by : (read : List ℕ) (ended : Bool) → IsStreamed read [] → (refusal ≡ WaitRefusal.Memory) ⊎ ((has_ended declared [] ends.made ≡ true) × (Some refusal ≡ refusal_of declared [] ends.made None))
        → EndsAs declared read ended [] ends.made f h waited
    by read ended s (inl e) = short_as declared read ended [] ends.made f h 0 waited (inl refl) (is ∙ ap Some e) ends.waits none
    by read ended s (inr e) = ended_as declared read ended [] ends.made f h waited s ends.waits e.0 (none ∙ sym ends.unmet) (is ∙ e.1)

-- ---- with the head, or the request

pub asks_nothing : (declared : Declared) → IsWait declared [] []
asks_nothing declared = record { asked = refl; goes_on = λ k less. absurd (omega (arith, less)) }

unopened : (waited : Waited) (fault : StreamFault) → waited.refusal ≡ Some (WaitRefusal.Stream fault) → waited.met ≡ [] → IsUnopened [] fault waited
unopened waited fault is none = record { unsent = refl; unmet = none; refusal = is }

opened_so : (declared : Declared) (s : Standing) (e f h : ℕ) (refusal : WaitRefusal) (waited : Waited) (read : List ℕ) (ended : Bool) → e ≤ f → f ≤ h → waited.refusal ≡ Some refusal → waited.met ≡ []
    → OpensBy f h (Err refusal) read ended → EndsAs declared read ended [] [] e h waited
opened_so declared s e f h (WaitRefusal.Stream (StreamFault.Refused status)) waited read ended low high is none by =
    inr (inl (StreamFault.Refused status, unopened waited (StreamFault.Refused status) is none, by))
opened_so declared s e f h (WaitRefusal.Stream (StreamFault.Wire cause)) waited read ended low high is none by =
    inr (inl (StreamFault.Wire cause, unopened waited (StreamFault.Wire cause) is none, ends_from most_stream_bytes read ended e f h cause low high by))
opened_so declared s e f h WaitRefusal.Memory waited read ended low high is none by = short_as declared read ended [] [] e h 0 waited (inl refl) is (asks_nothing declared) none
opened_so declared s e f h (WaitRefusal.Stream (StreamFault.BadEvent at)) waited read ended low high is none by = absurd by
opened_so declared s e f h (WaitRefusal.Stream (StreamFault.TooLong at)) waited read ended low high is none by = absurd by
opened_so declared s e f h (WaitRefusal.Stream StreamFault.Closed) waited read ended low high is none by = absurd by
opened_so declared s e f h (WaitRefusal.NotThere slot) waited read ended low high is none by = absurd by
opened_so declared s e f h (WaitRefusal.Request request outcome) waited read ended low high is none by = absurd by
opened_so declared s e f h (WaitRefusal.Condition slot condition report) waited read ended low high is none by = absurd by

pub unopened_so : (declared : Declared) (s : Standing) (a b : Option Talk) (e f h : ℕ) (refusal : WaitRefusal) (waited : Waited) → e ≤ f → f ≤ h → Hears a b (OpensBy f h (Err refusal))
    → waited.refusal ≡ Some refusal → waited.met ≡ [] → Hears a b (EndsFrom declared s s e h waited)
unopened_so declared s a b e f h refusal waited low high hears is none =
    hears_as a b (OpensBy f h (Err refusal)) (EndsFrom declared s s e h waited) hears
    (λ n d by. ([], makes_none s, ([], opened_so declared s e f h refusal waited n d low high is none by)))

said_by : (sent read : List ℕ) (ended : Bool) (a b c : Option Talk) → ToldBy (after_write sent) a b → Heard read ended b c → IsSaid sent read ended a c
said_by sent read ended None b c e h = let on : Heard read ended None c = subst (λ (t : Option Talk). Heard read ended t c) e h in on
said_by sent read ended (Some talk) b c e h =
    let on : Heard read ended (Some (after_write sent talk)) c = subst (λ (t : Option Talk). Heard read ended t c) e h in on

-- the request was written
pub asked_so : (declared : Declared) (from now : Standing) (a b c : Option Talk) (f h : ℕ) (waited : Waited) → ToldBy (after_write (events_request declared.project)) a b
    → Hears b c (EndsFrom declared from now f h waited)
    → Waits declared (account_of from) (account_of now) from.engine now.engine a c f h waited
asked_so declared from now a b c f h waited sent hears = record {
  made = hears.comes.0;
  sent = events_request declared.project;
  read = hears.more;
  ended = hears.found_end;
  body = hears.comes.2.0;
  said = said_by (events_request declared.project) hears.more hears.found_end a b c sent hears.heard;
  asked = inl refl;
  log = hears.comes.1.log;
  caused = hears.comes.1.caused;
  told = hears.comes.1.told;
  ends = hears.comes.2.1;
}

-- a part of it was
pub unasked_so : (declared : Declared) (s : Standing) (a b : Option Talk) (f h : ℕ) (refusal : WaitRefusal) (waited : Waited) → SendsBy declared.project a b f h (Err refusal)
    → waited.refusal ≡ Some refusal → waited.met ≡ [] → Waits declared (account_of s) (account_of s) s.engine s.engine a b f h waited
unasked_so declared s a b f h refusal waited sends is none =
    let nothing = makes_none s in
    record {
      made = [];
      sent = take sends.0 (events_request declared.project);
      read = [];
      ended = false;
      body = [];
      said = said_by (take sends.0 (events_request declared.project)) [] false a b b sends.1 (nothing_heard b);
      asked = inr (sends.0, refl, refl, why sends.2);
      log = nothing.log;
      caused = nothing.caused;
      told = nothing.told;
      ends = so sends.2;
    }
  where
    why : (refusal ≡ WaitRefusal.Memory) ⊎ ((refusal ≡ WaitRefusal.Stream (StreamFault.Wire WireEnd.Fault)) × Rose f h) → Rose f h ⊎ (waited.refusal ≡ Some WaitRefusal.Memory)
    why (inl e) = inr (is ∙ ap Some e)
    why (inr e) = inl e.1

    so : (refusal ≡ WaitRefusal.Memory) ⊎ ((refusal ≡ WaitRefusal.Stream (StreamFault.Wire WireEnd.Fault)) × Rose f h) → EndsAs declared [] false [] [] f h waited
    so (inl e) = short_as declared [] false [] [] f h 0 waited (inl refl) (is ∙ ap Some e) (asks_nothing declared) none
    so (inr e) = inr (inl (StreamFault.Wire WireEnd.Fault, unopened waited (StreamFault.Wire WireEnd.Fault) (is ∙ ap Some e.0) none, e.1))
