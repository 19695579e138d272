-- A wait and its listing.
use Rattle.std.proofs.Common.{◌≡◌, ◌∙◌, ◌+◌, ◌<◌, ◌&&◌, ◌||◌, inl, inr, sym, Bool, true, false, ℕ, zero, suc, List, [], ◌∷◌, Option, Some, None, Result, Ok, Err, length, take, slice_get, refl, ap, subst, arith}
use Rattle.std.specs.Prelude.{nat_lt}
use Rattle.std.specs.Option.{is_none, is_some, option_map, unwrap_or}
use Rattle.std.proofs.lemmas.Bool.{le-ltb, lt-ltb}
use Rattle.std.proofs.lemmas.Option.{slice_get_within}
use Rattle.engine_types.specs.declared.Declared.{Declared}
use Rattle.engine_types.specs.declared.Exchange.{Exchange}
use Rattle.engine_types.specs.declared.Listed.{Listed}
use Rattle.engine_types.specs.declared.Request.{Request}
use Rattle.event_watch.specs.Events.{events}
use Rattle.outside_api.specs.Standings.{Makes, Standing}
use Rattle.response_rules.specs.Json.{given}
use Rattle.wait_run.specs.Asking.{IsWait}
use Rattle.wait_run.specs.Ends.{name_at, refusal_of, refused_by}
use Rattle.wait_run.specs.Goals.{AreGoals, FindsAll}
use Rattle.wait_run.specs.Looks.{absent, looks, rows_by}
use Rattle.wait_run.specs.Reports.{all_met, has_ended, is_refused, is_settled, lacks_one, met_in, reported, said_in, some_failed}
use Rattle.wait_run.specs.Ways.{EndsListing, ListsBy, Way, looks_of}
use Rattle.wait_run.specs.declared.goals.Goals.{Goals}
use Rattle.wait_run.specs.declared.refusal.WaitRefusal.{WaitRefusal}
use Rattle.wait_run.proofs.Ending.{asks_nothing, refusal_by}
use Rattle.wait_run.proofs.Making.{makes_none}
use Rattle.wait_run.proofs.Reported.{none_failed}
use Rattle.wait_run.proofs.Stays.{nothing_reported}
use Rattle.wait_run.proofs.Ways.{lacks_is, refused_is}

or_second : (a b : Bool) → (a || (true || b)) ≡ true
or_second true b = refl
or_second false b = refl

-- no memory was there for it
pub listing_short : (declared : Declared) (s : Standing) → EndsListing declared s s WaitRefusal.Memory
listing_short declared s = record {
  made = [];
  makes = makes_none s;
  waits = asks_nothing declared;
  unmet = refl;
  why = inl refl;
}

module _ (declared : Declared) (x : Exchange) (from now : Standing) (makes : Makes (x ∷ []) from now) (lists : x.request ≡ Request.ListContainers declared.project) where
  waits : IsWait declared [] (x ∷ [])
  waits = record {
    asked = ap (λ r. r ∷ []) lists;
    goes_on = on;
  }
    where
      on : (k : ℕ) → k < length (x ∷ []) → has_ended declared [] (take k (x ∷ [])) ≡ false
      on zero less = refl
      on (suc k) less = absurd (omega (arith, less))

  said_none : said_in declared [] (x ∷ []) ≡ []
  said_none = by (rows_by x.outcome)
    where
      by : (o : Option (List Listed)) → unwrap_or (option_map (λ rows. reported (looks declared rows (events []).told) []) o) [] ≡ []
      by None = refl
      by (Some rows) = nothing_reported (looks declared rows (events []).told)

  none_yet : some_failed declared (said_in declared [] (x ∷ [])) ≡ false
  none_yet = ap (some_failed declared) said_none ∙ none_failed declared

  ends : (refusal : WaitRefusal) → (has_ended declared [] (x ∷ []) ≡ true) × (Some refusal ≡ refusal_of declared [] (x ∷ []) None) → EndsListing declared from now refusal
  ends refusal why = record {
    made = x ∷ [];
    makes = makes;
    waits = waits;
    unmet = ap (met_in declared) said_none;
    why = inr why;
  }

  -- it wasn't answered as asked
  pub listing_refused : rows_by x.outcome ≡ None → EndsListing declared from now (refused_by x.request x.outcome)
  listing_refused none = ends (refused_by x.request x.outcome) (
    ap (λ t. t || (lacks_one declared (x ∷ []) || (is_some (rows_by x.outcome) && is_settled declared (said_in declared [] (x ∷ []))))) refused,
    sym (refusal_by declared [] (x ∷ []) None false true (lacks_one declared (x ∷ [])) (all_met declared (said_in declared [] (x ∷ []))) none_yet refused refl refl),
  )
    where
      refused : is_refused declared [] (x ∷ []) ≡ true
      refused =
          ap (λ t. t && (is_none (rows_by x.outcome) || nat_lt (length (said_in declared [] (x ∷ [])) + 1) (length (x ∷ [])))) (lt-ltb 0 (length (x ∷ [])) (omega arith))
          ∙ ap (λ o. is_none o || nat_lt (length (said_in declared [] (x ∷ [])) + 1) (length (x ∷ []))) none

  module _ (rows : List Listed) (listed : rows_by x.outcome ≡ Some rows) where
    -- each slot has a container
    pub listing_found : (goals : Goals) → FindsAll declared rows (Ok goals) → Way declared rows [] 0 from now goals
    listing_found goals finds = record {
      listing = x;
      done = [];
      makes = makes;
      lists = lists;
      listed = listed;
      present = finds.1;
      many = refl;
      asked = refl;
      answered = ap length (nothing_reported (looks_of declared rows []));
      goes_on = λ k less. absurd (omega (arith, less));
      goals_are = subst (λ l. AreGoals declared rows l goals) (sym (nothing_reported (looks_of declared rows []))) finds.0;
    }

    -- one has none
    pub listing_lacks : (refusal : WaitRefusal) → FindsAll declared rows (Err refusal) → EndsListing declared from now refusal
    listing_lacks (WaitRefusal.NotThere slot) finds = ends (WaitRefusal.NotThere slot) (
      ap (λ t. is_refused declared [] (x ∷ []) || (t || (is_some (rows_by x.outcome) && is_settled declared (said_in declared [] (x ∷ []))))) lacks
          ∙ or_second (is_refused declared [] (x ∷ [])) (is_some (rows_by x.outcome) && is_settled declared (said_in declared [] (x ∷ []))),
      sym (refusal_by declared [] (x ∷ []) None false false true (all_met declared (said_in declared [] (x ∷ []))) none_yet answered lacks refl
          ∙ ap (λ o. option_map (λ s. WaitRefusal.NotThere (name_at declared s)) (given o (λ r. slice_get (absent declared r) 0))) listed
          ∙ ap (option_map (λ s. WaitRefusal.NotThere (name_at declared s))) finds.1
          ∙ ap (λ name. Some (WaitRefusal.NotThere name)) (sym finds.2)),
    )
      where
        lacks : lacks_one declared (x ∷ []) ≡ true
        lacks = lacks_is declared rows [] x listed [] ∙ lt-ltb 0 (length (absent declared rows)) (slice_get_within (absent declared rows) 0 finds.0 finds.1)

        answered : is_refused declared [] (x ∷ []) ≡ false
        answered =
            refused_is declared rows [] x listed []
            ∙ le-ltb (length (reported (looks_of declared rows []) []) + 1) 1 (omega arith)
    listing_lacks WaitRefusal.Memory finds = record {
      made = x ∷ [];
      makes = makes;
      waits = waits;
      unmet = ap (met_in declared) said_none;
      why = inl refl;
    }
    listing_lacks (WaitRefusal.Stream fault) finds = absurd finds
    listing_lacks (WaitRefusal.Request request outcome) finds = absurd finds
    listing_lacks (WaitRefusal.Condition slot condition report) finds = absurd finds

-- the request wasn't sent
pub listing_unsent : (declared : Declared) (old new : Standing) → new ≡ old → EndsListing declared old new WaitRefusal.Memory
listing_unsent declared old new same = subst (λ s. EndsListing declared old s WaitRefusal.Memory) (sym same) (listing_short declared old)

-- what was found in the listing
pub lists_so : (declared : Declared) (x : Exchange) (project : List ℕ) (rows : List Listed) (result : Result Goals WaitRefusal) (old new : Standing) → project ≡ declared.project
    → x.request ≡ Request.ListContainers project → Makes (x ∷ []) old new → rows_by x.outcome ≡ Some rows → FindsAll declared rows result → ListsBy declared result old new
lists_so declared x project rows (Ok goals) old new same lists makes listed finds =
    (rows, listing_found declared x old new makes (lists ∙ ap (λ p. Request.ListContainers p) same) rows listed goals finds)
lists_so declared x project rows (Err refusal) old new same lists makes listed finds =
    listing_lacks declared x old new makes (lists ∙ ap (λ p. Request.ListContainers p) same) rows listed refusal finds

pub lists_not : (declared : Declared) (x : Exchange) (project : List ℕ) (old new : Standing) → project ≡ declared.project
    → x.request ≡ Request.ListContainers project → Makes (x ∷ []) old new → rows_by x.outcome ≡ None → EndsListing declared old new (refused_by x.request x.outcome)
lists_not declared x project old new same lists makes none =
    listing_refused declared x old new makes (lists ∙ ap (λ p. Request.ListContainers p) same) none
