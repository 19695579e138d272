-- What rows say of the first entries, and that a report which fails nothing that is wanted by them fails no start's need.
use Rattle.std.proofs.Common.{◌≡◌, ℕ, ◌+◌, cond, ◌<◌, ◌≤◌, Bool, true, false, ◌&&◌, ◌||◌, List, [], ◌∷◌, length, get_or, take, reverse, Option, Some, None, refl, sym, ap, ◌∙◌, subst, inl, inr, arith}
use Rattle.std.proofs.lemmas.Bool.{and_parts, both_ways, eqb-true, false_from_ne_true, le-leb, ltb-false}
use Rattle.std.proofs.lemmas.List.{length-take-le}
use Rattle.std.proofs.lemmas.Option.{get_or_from_slice_get, slice_get_within}
use Rattle.std.specs.Option.{option_map_or, option_or}
use Rattle.std.specs.Prelude.{find, if◌then◌else◌, nat_le, nat_lt, option_map, slice_get, ◌==◌}
use Rattle.engine_types.specs.declared.Condition.{Condition}
use Rattle.engine_types.specs.declared.Entry.{Entry}
use Rattle.engine_types.specs.declared.Need.{Need}
use Rattle.engine_types.specs.declared.Report.{Report}
use Rattle.run_model.specs.Conditions.{is_started}
use Rattle.run_model.specs.EngineRules.{Among}
use Rattle.run_model.specs.Journals.{Setup}
use Rattle.run_model.specs.Numbers.{places}
use Rattle.run_model.specs.Plans.{kind_of, slot_needs}
use Rattle.run_model.proofs.DistinctLists.{from_numbers}
use Rattle.run_report.specs.Claims.{was_claimed}
use Rattle.run_report.specs.Conditions.{failed_by_start, failed_by_starts, failed_of, fails_need, first_some, is_against}
use Rattle.run_report.specs.Rows.{AreRows, AreRowsOf, AreWanted, is_wanted_still, may_fail, until, unwanted}
use Rattle.run_report.specs.declared.rows.Rows.{Rows}
use Rattle.run_report.specs.declared.wanted.Wanted.{Wanted}
use Rattle.run_report.proofs.Places.{claimed_before}

-- what the rows of a journal say of its first entries
rows_at : (setup : Setup) (journal past : List Entry) (n : ℕ) (rows : Rows) → past ≡ take n journal → n ≤ length journal → AreRowsOf setup journal rows
    → AreRows setup (reverse past) n rows
rows_at setup journal past n rows same l whole = subst (λ (p : List Entry). AreRows setup (reverse p) n rows) (sym same) (record {
  size = whole.size;
  claims = told;
  wanted = λ a below unclaimed need m required started within.
      let far : n ≤ get_or rows.claims.items a 0 = ltb-false (get_or rows.claims.items a 0) n (told a below ∙ unclaimed) in
      let still = whole.wanted a below need m required started within in
      omega (arith, far, still);
})
  where
    told : (a : ℕ) → a < length setup.actions → nat_lt (get_or rows.claims.items a 0) n ≡ was_claimed (reverse (take n journal)) a
    told a below = ap (λ (k : ℕ). nat_lt k n) (whole.claims a below) ∙ claimed_before journal a n l

-- the entries before a place
pub rows_before : (setup : Setup) (journal past : List Entry) (at : ℕ) (rows : Rows) → past ≡ take at journal → at < length journal → AreRowsOf setup journal rows
    → AreRows setup (reverse past) (length past) rows
rows_before setup journal past at rows same l whole =
    let long : at ≡ length past = sym (ap length same ∙ length-take-le at journal (omega (arith, l))) in
    subst (λ (n : ℕ). AreRows setup (reverse past) n rows) long (rows_at setup journal past at rows same (omega (arith, l)) whole)

none_first : {X Y : Type 0} (f : X → Option Y) (xs : List X) → ((x : X) → Among xs x → f x ≡ None) → first_some f xs ≡ None
none_first f [] h = refl
none_first {X} {Y} f (x ∷ xs) h = ap (λ (o : Option Y). option_or o (first_some f xs)) (h x (inl refl)) ∙ none_first f xs (λ y m. h y (inr m))

nothing_found : {X : Type 0} (p : X → Bool) (xs : List X) → ((x : X) → Among xs x → p x ≡ false) → find p xs ≡ None
nothing_found p [] h = refl
nothing_found p (x ∷ xs) h = ap (λ (t : Bool). cond t (Some x) (find p xs)) (h x (inl refl)) ∙ nothing_found p xs (λ y m. h y (inr m))

or_first : (s t u : Bool) → (s || t || u) ≡ false → s ≡ false
or_first false t u e = refl
or_first true t u e = absurd (cc e)

or_second : (s t u : Bool) → (s || t || u) ≡ false → t ≡ false
or_second false false u e = refl
or_second false true u e = absurd (cc e)
or_second true t u e = absurd (cc e)

or_third : (s t u : Bool) → (s || t || u) ≡ false → u ≡ false
or_third false false u e = e
or_third false true u e = absurd (cc e)
or_third true t u e = absurd (cc e)

-- a row without a condition that is wanted here and fails has none
row_spares : (row : Wanted) (report : Report) (place : ℕ) (c : Condition)
    → (is_wanted_still row report place Condition.Healthy || is_wanted_still row report place Condition.Completed || is_wanted_still row report place Condition.Running) ≡ false
    → is_wanted_still row report place c ≡ false
row_spares row report place Condition.Healthy e =
    or_first (is_wanted_still row report place Condition.Healthy) (is_wanted_still row report place Condition.Completed) (is_wanted_still row report place Condition.Running) e
row_spares row report place Condition.Completed e =
    or_second (is_wanted_still row report place Condition.Healthy) (is_wanted_still row report place Condition.Completed) (is_wanted_still row report place Condition.Running) e
row_spares row report place Condition.Running e =
    or_third (is_wanted_still row report place Condition.Healthy) (is_wanted_still row report place Condition.Completed) (is_wanted_still row report place Condition.Running) e
row_spares row report place Condition.Started e = never (nat_le place 0)
  where
    never : (t : Bool) → (t && false) ≡ false
    never true = refl
    never false = refl

-- what no report fails
against_started : (report : Report) (c : Condition) → is_against report c ≡ true → is_started c ≡ false
against_started report Condition.Healthy e = refl
against_started report Condition.Completed e = refl
against_started report Condition.Running e = refl
against_started report Condition.Started e = absurd (cc e)

module _ (rows : List Wanted) (s : ℕ) (report : Report) (place : ℕ) (spared : may_fail rows s report place ≡ false) where
  -- whether a row lets a report fail what is wanted here
  abbrev row_lets : Wanted → Bool
  row_lets row = is_wanted_still row report place Condition.Healthy || is_wanted_still row report place Condition.Completed || is_wanted_still row report place Condition.Running

  -- the slot has a row, which spares it
  record HasRow : Type 0 where
    row : Wanted
    within : s < length rows
    is : get_or rows s unwanted ≡ row
    spares : row_lets row ≡ false

  row_there : HasRow
  row_there = at (slice_get rows s) refl spared
    where
      at : (o : Option Wanted) → slice_get rows s ≡ o → option_map_or row_lets o true ≡ false → HasRow
      at None e k = absurd (cc k)
      at (Some row) e k = record { row = row; within = slice_get_within rows s row e; is = get_or_from_slice_get rows s row unwanted e; spares = k }

  need_spared : (needs : List Need) (need : Need) → AreWanted rows needs place → Among needs need → fails_need s report need ≡ false
  need_spared needs need wanted m = false_from_ne_true (fails_need s report need) (λ e.
      let p = and_parts (need.required && (s == need.slot)) (is_against report need.condition) e in
      let q = and_parts need.required (s == need.slot) p.0 in
      let there : HasRow = row_there in
      let same : s ≡ need.slot = eqb-true s need.slot q.1 in
      let within : need.slot < length rows = let w = there.within in omega (arith, w, same) in
      let far : place ≤ until (get_or rows need.slot unwanted) need.condition = wanted need m q.0 (against_started report need.condition p.1) within in
      let here : place ≤ until there.row need.condition =
      subst (λ (r : Wanted). place ≤ until r need.condition) (ap (λ (n : ℕ). get_or rows n unwanted) (sym same) ∙ there.is) far in
      let open_ : is_wanted_still there.row report place need.condition ≡ true =
      ap (λ (t : Bool). t && is_against report need.condition) (le-leb place (until there.row need.condition) here) ∙ p.1 in
      both_ways (is_wanted_still there.row report place need.condition) (row_spares there.row report place need.condition there.spares) open_)

-- where no row says that a report may fail what is wanted, no start's need is failed by it
pub starts_spared : (setup : Setup) (past : List Entry) (place : ℕ) (rows : Rows) (s : ℕ) (report : Report) → AreRows setup past place rows
    → may_fail rows.wanted.items s report place ≡ false → None ≡ failed_by_starts setup past s report
starts_spared setup past place rows s report are spared = sym (none_first (failed_by_start setup past s report) (places setup.actions) (λ a m. one a ((from_numbers 0 (length setup.actions) a m).1)))
  where
    one : (a : ℕ) → a < 0 + length setup.actions → failed_by_start setup past s report a ≡ None
    one a l = by (was_claimed past a) refl
      where
        needs : List Need
        needs = slot_needs setup.declared (kind_of setup.actions a)

        by : (t : Bool) → was_claimed past a ≡ t → (if t then None else failed_of s report needs) ≡ None
        by true e = refl
        by false e = ap (option_map (λ (need : Need). need.condition))
            (nothing_found (fails_need s report) needs (λ need m. need_spared rows.wanted.items s report place spared needs need (are.wanted a (omega (arith, l)) e) m))
