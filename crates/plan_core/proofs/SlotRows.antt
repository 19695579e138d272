-- A slot's container is found among those with its text.
use Rattle.std.proofs.Common.{◌≡◌, ℕ, suc, ◌+◌, ◌-◌, ◌<◌, ◌≤◌, Bool, true, false, cond, ◌||◌, List, [], ◌∷◌, ◌++◌, length, map, drop, get_or, Option, Some, None, Result, Ok, Err, IfOk, slice_get, bytes_eq, refl, sym, ap, ◌∙◌, subst, arith}
use Rattle.std.proofs.lemmas.List.{drop_more}
use Rattle.std.specs.List.{list_any}
use Rattle.std.specs.Option.{option_and_then, option_map_or}
use Rattle.std.specs.Prelude.{filter, if◌then◌else◌}
use Rattle.std.proofs.lemmas.Slice.Eq.{bytes_eq-Decides}
use Rattle.engine_types.specs.Labels.{label, service_label}
use Rattle.engine_types.specs.declared.Declared.{Declared}
use Rattle.engine_types.specs.declared.DeclaredService.{DeclaredService}
use Rattle.engine_types.specs.declared.Listed.{Listed}
use Rattle.engine_types.specs.declared.Seen.{Seen}
use Rattle.engine_types.specs.declared.Slot.{Slot}
use Rattle.tree_base.specs.ByteOrder.{is_before, least_by}
use Rattle.tree_base.specs.declared.place.Var.{Var}
use Rattle.run_model.specs.EngineRules.{is_of_project}
use Rattle.run_model.specs.Labels.{has_declared_service, is_of_slot, names_service, names_slot}
use Rattle.run_model.specs.Numbers.{numbers_from}
use Rattle.run_model.specs.Plans.{AreKeptPlaces, agrees_seen, depends_on, has_container, is_kept, kept_of}
use Rattle.run_model.proofs.DistinctLists.{from_filter}
use Rattle.run_model.proofs.KeptLaws.{from_least}
use Rattle.run_model.proofs.PlanLaws.{both, some_from}
use Rattle.plan_core.specs.Finding.{container_text, service_named, slot_text}
use Rattle.plan_core.specs.Index.{is_under, numbers_under, places_under, under_each}
use Rattle.plan_core.specs.Keeping.{agrees_at, containers_under, depends_by, depends_by_at, id_in, is_slots_at, kept_under, services_under}
use Rattle.plan_core.specs.Rows.{id_at}
use Rattle.plan_core.proofs.Kept.{any_same}
use Rattle.plan_core.proofs.OrderlyPlans.{service_is}
use Rattle.plan_core.proofs.SlotTexts.{agrees_slot, named_text, under_mapped}
use Rattle.plan_core.proofs.Splits.{by_cases, filter-no, filter-yes}

-- the places that stand under a text, in place of all, where only elements under it pass
module _ {X : Type 0} (f : X → List ℕ) (text : List ℕ) (p : ℕ → Bool) where
  abbrev under : ℕ → List X → List ℕ
  under i xs = numbers_under (places_under (λ (x : X). f x ∷ []) i xs) text

  abbrev Only : ℕ → List X → Type 0
  Only i xs = (k : ℕ) (x : X) → slice_get xs k ≡ Some x → p (i + k) ≡ true → f x ≡ text

  later : (i : ℕ) (x : X) (xs : List X) → Only i (x ∷ xs) → Only (i + 1) xs
  later i x xs only k y e t = let same : i + 1 + k ≡ i + suc k = omega arith in only (suc k) y e (subst (λ (n : ℕ). p n ≡ true) same t)

  dropped : (i : ℕ) (x : X) (xs : List X) → Only i (x ∷ xs) → bytes_eq text (f x) ≡ false → p i ≡ false
  dropped i x xs only h = by_cases (p i)
      (λ t. let here : i ≡ i + 0 = omega arith in
      let same = only 0 x refl (subst (λ (n : ℕ). p n ≡ true) here t) in
      let bad : false ≡ true = sym h ∙ (bytes_eq-Decides text (f x)).1 (sym same) in absurd (cc bad))
      (λ e. e)

  pub filtered : (i : ℕ) (xs : List X) → Only i xs → filter p (under i xs) ≡ filter p (numbers_from i (length xs))
  filtered i [] only = refl
  filtered i (x ∷ xs) only = at (bytes_eq text (f x)) refl (filtered (i + 1) xs (later i x xs only))
    where
      entries : List (List ℕ × ℕ)
      entries = filter (λ (entry : List ℕ × ℕ). bytes_eq text entry.0) (places_under (λ (y : X). f y ∷ []) (i + 1) xs)

      at : (t : Bool) → bytes_eq text (f x) ≡ t → filter p (map (λ (entry : List ℕ × ℕ). entry.1) entries) ≡ filter p (numbers_from (i + 1) (length xs))
          → filter p (map (λ (entry : List ℕ × ℕ). entry.1) (cond t ((f x, i) ∷ entries) entries)) ≡ filter p (i ∷ numbers_from (i + 1) (length xs))
      at true h rest = ap (λ (zs : List ℕ). cond (p i) (i ∷ zs) zs) rest
      at false h rest = rest ∙ sym (filter-no p i (numbers_from (i + 1) (length xs)) (dropped i x xs only h))

  pub any_under : (i : ℕ) (xs : List X) → Only i xs → list_any p (under i xs) ≡ list_any p (numbers_from i (length xs))
  any_under i [] only = refl
  any_under i (x ∷ xs) only = at (bytes_eq text (f x)) refl (any_under (i + 1) xs (later i x xs only))
    where
      entries : List (List ℕ × ℕ)
      entries = filter (λ (entry : List ℕ × ℕ). bytes_eq text entry.0) (places_under (λ (y : X). f y ∷ []) (i + 1) xs)

      at : (t : Bool) → bytes_eq text (f x) ≡ t → list_any p (map (λ (entry : List ℕ × ℕ). entry.1) entries) ≡ list_any p (numbers_from (i + 1) (length xs))
          → list_any p (map (λ (entry : List ℕ × ℕ). entry.1) (cond t ((f x, i) ∷ entries) entries)) ≡ (p i || list_any p (numbers_from (i + 1) (length xs)))
      at true h rest = ap (λ (b : Bool). p i || b) rest
      at false h rest = rest ∙ sym (ap (λ (b : Bool). b || list_any p (numbers_from (i + 1) (length xs))) (dropped i x xs only h))

-- what is looked for at places is what is looked for in the list
module _ {X : Type 0} (key : X → List ℕ) (test : X → Bool) (g : ℕ → Option X) where
  abbrev Holds : ℕ → List X → Type 0
  Holds i xs = (k : ℕ) → g (i + k) ≡ slice_get xs k

  abbrev key_at : ℕ → List ℕ
  key_at c = option_map_or key (g c) []

  abbrev test_at : ℕ → Bool
  test_at c = option_map_or test (g c) false

  first : (i : ℕ) (x : X) (xs : List X) → Holds i (x ∷ xs) → g i ≡ Some x
  first i x xs holds = let here : i ≡ i + 0 = omega arith in ap g here ∙ holds 0

  next : (i : ℕ) (x : X) (xs : List X) → Holds i (x ∷ xs) → Holds (i + 1) xs
  next i x xs holds k = let same : i + 1 + k ≡ i + suc k = omega arith in ap g same ∙ holds (suc k)

  pub any_rows : (i : ℕ) (xs : List X) → Holds i xs → list_any test_at (numbers_from i (length xs)) ≡ list_any test xs
  any_rows i [] holds = refl
  any_rows i (x ∷ xs) holds =
      ap (λ (o : Option X). option_map_or test o false || list_any test_at (numbers_from (i + 1) (length xs))) (first i x xs holds)
      ∙ ap (λ (b : Bool). test x || b) (any_rows (i + 1) xs (next i x xs holds))

  chosen : (i j : ℕ) (x r : X) → g i ≡ Some x → g j ≡ Some r
      → option_and_then g (if is_before (key_at j) (key_at i) then Some j else Some i) ≡ (if is_before (key r) (key x) then Some r else Some x)
  chosen i j x r e f =
      ap (λ (s : List ℕ). option_and_then g (if is_before s (key_at i) then Some j else Some i)) (ap (λ (o : Option X). option_map_or key o []) f)
      ∙ ap (λ (s : List ℕ). option_and_then g (if is_before (key r) s then Some j else Some i)) (ap (λ (o : Option X). option_map_or key o []) e)
      ∙ pick (is_before (key r) (key x))
    where
      pick : (t : Bool) → option_and_then g (if t then Some j else Some i) ≡ (if t then Some r else Some x)
      pick true = f
      pick false = e

  -- one element more
  module _ (i : ℕ) (x : X) (xs : List X) (here : g i ≡ Some x) where
    abbrev passed : List ℕ
    passed = filter test_at (numbers_from (i + 1) (length xs))

    more : (o : Option ℕ) → least_by key_at passed ≡ o → (r : Option X) → least_by key (filter test xs) ≡ r → option_and_then g o ≡ r
        → option_and_then g (least_by key_at (i ∷ passed)) ≡ least_by key (x ∷ filter test xs)
    more None h None k e = rw (h, k) here
    more None h (Some r) k e = absurd (cc e)
    more (Some j) h None k e =
        let t = (from_filter test_at (numbers_from (i + 1) (length xs)) j (from_least key_at passed j h)).0 in
        let y = some_from test (g j) t in
        let bad : None ≡ Some y.0 = sym e ∙ y.1 in absurd (cc bad)
    more (Some j) h (Some r) k e = rw (h, k) (chosen i j x r here e)

    by : option_and_then g (least_by key_at passed) ≡ least_by key (filter test xs) → (t : Bool)
        → option_and_then g (least_by key_at (cond t (i ∷ passed) passed)) ≡ least_by key (cond t (x ∷ filter test xs) (filter test xs))
    by rest true = more (least_by key_at passed) refl (least_by key (filter test xs)) refl rest
    by rest false = rest

    turn : option_and_then g (least_by key_at passed) ≡ least_by key (filter test xs)
        → option_and_then g (least_by key_at (filter test_at (i ∷ numbers_from (i + 1) (length xs)))) ≡ least_by key (filter test (x ∷ xs))
    turn rest =
        ap (λ (b : Bool). option_and_then g (least_by key_at (cond b (i ∷ passed) passed))) (ap (λ (o : Option X). option_map_or test o false) here)
        ∙ by rest (test x)

  pub least_rows : (i : ℕ) (xs : List X) → Holds i xs → option_and_then g (least_by key_at (filter test_at (numbers_from i (length xs)))) ≡ least_by key (filter test xs)
  least_rows i [] holds = refl
  least_rows i (x ∷ xs) holds = turn i x xs (first i x xs holds) (least_rows (i + 1) xs (next i x xs holds))

module _ (declared : Declared) (seen : Seen) (slot : Slot) where
  abbrev rows : List Listed
  rows = seen.containers

  abbrev found : List ℕ
  found = numbers_under (containers_under seen) (slot_text slot)

  -- a container at a place
  same_row : (k : ℕ) (row other : Listed) → slice_get rows k ≡ Some row → slice_get rows (0 + k) ≡ Some other → other ≡ row
  same_row k row other e f =
      let there : 0 + k ≡ k = omega arith in
      let same : Some other ≡ Some row = sym f ∙ ap (slice_get rows) there ∙ e in cc same

  agreeing : (k : ℕ) (row : Listed) → slice_get rows k ≡ Some row → agrees_at declared seen slot (0 + k) ≡ true → container_text row ≡ slot_text slot
  agreeing k row e t =
      let other = some_from (agrees_seen declared seen slot) (slice_get rows (0 + k)) t in
      let same = same_row k row other.0 e other.1 in
      named_text slot row.labels (agrees_slot declared seen slot row (subst (λ (r : Listed). agrees_seen declared seen slot r ≡ true) same other.2))

  slots : (k : ℕ) (row : Listed) → slice_get rows k ≡ Some row → is_slots_at declared seen slot (0 + k) ≡ true → container_text row ≡ slot_text slot
  slots k row e t =
      let other = some_from (λ (r : Listed). is_of_slot declared.project slot r.labels) (slice_get rows (0 + k)) t in
      let same = same_row k row other.0 e other.1 in
      named_text slot row.labels (subst (λ (r : Listed). names_slot slot r.labels ≡ true) same (both (is_of_project declared.project other.0.labels) _ other.2).1)

  holds : (k : ℕ) → slice_get rows (0 + k) ≡ slice_get rows k
  holds k = let there : 0 + k ≡ k = omega arith in ap (slice_get rows) there

  mapped : found ≡ numbers_under (places_under (λ (row : Listed). container_text row ∷ []) 0 rows) (slot_text slot)
  mapped = ap (λ (entries : List (List ℕ × ℕ)). numbers_under entries (slot_text slot)) (under_mapped container_text 0 rows)

  -- the container that a slot keeps is found under the slot's text
  pub kept_found : option_and_then (slice_get rows) (least_by (id_at rows) (filter (agrees_at declared seen slot) found)) ≡ kept_of declared seen slot
  kept_found =
      ap (λ (ns : List ℕ). option_and_then (slice_get rows) (least_by (id_at rows) ns))
      (ap (filter (agrees_at declared seen slot)) mapped ∙ filtered container_text (slot_text slot) (agrees_at declared seen slot) 0 rows agreeing)
      ∙ least_rows (λ (row : Listed). row.id) (agrees_seen declared seen slot) (slice_get rows) 0 rows holds

  -- and so is each container of the slot
  pub container_found : list_any (is_slots_at declared seen slot) found ≡ has_container declared seen slot
  container_found =
      ap (list_any (is_slots_at declared seen slot)) mapped ∙ any_under container_text (slot_text slot) (is_slots_at declared seen slot) 0 rows slots
      ∙ any_rows (λ (row : Listed). row.id) (λ (row : Listed). is_of_slot declared.project slot row.labels) (slice_get rows) 0 rows holds

  -- and so the look-ups tell it
  pub kept_by : {E : Type 0} (result : Result (Option ℕ) E) (places : List ℕ) → places ≡ found
      → IfOk result (λ place. place ≡ least_by (id_at rows) (filter (agrees_at declared seen slot) places))
      → IfOk result (λ place. option_and_then (slice_get rows) place ≡ kept_of declared seen slot)
  kept_by (Ok place) places is e =
      ap (option_and_then (slice_get rows)) (e ∙ ap (λ (ns : List ℕ). least_by (id_at rows) (filter (agrees_at declared seen slot) ns)) is) ∙ kept_found
  kept_by (Err x) places is e = tt

  pub has_by : {E : Type 0} (result : Result Bool E) (places : List ℕ) → places ≡ found
      → IfOk result (λ has. has ≡ list_any (is_slots_at declared seen slot) places) → IfOk result (λ has. has ≡ has_container declared seen slot)
  has_by (Ok has) places is e = e ∙ ap (list_any (is_slots_at declared seen slot)) is ∙ container_found
  has_by (Err x) places is e = tt

-- a container's service is found under its key
module _ (declared : Declared) (row other : Listed) where
  abbrev all : List DeclaredService
  all = declared.services

  keyed : (k : ℕ) (service : DeclaredService) → slice_get all k ≡ Some service → depends_by_at declared row other (0 + k) ≡ true → service.key ≡ service_named row.labels
  keyed k service e t =
      let there : 0 + k ≡ k = omega arith in
      let found = some_from (depends_by row other) (slice_get all (0 + k)) t in
      let same : Some found.0 ≡ Some service = sym found.1 ∙ ap (slice_get all) there ∙ e in
      let is : found.0 ≡ service = cc same in
      let named = (both (names_service found.0.key row.labels) _ found.2).0 in
      sym (service_is service.key row.labels (subst (λ (s : DeclaredService). names_service s.key row.labels ≡ true) is named))

  pub dependence_found : list_any (depends_by_at declared row other) (numbers_under (services_under declared) (service_named row.labels)) ≡ depends_on declared row other
  dependence_found =
      any_under (λ (service : DeclaredService). service.key) (service_named row.labels) (depends_by_at declared row other) 0 all keyed
      ∙ any_rows (λ (service : DeclaredService). service.key) (depends_by row other) (slice_get all) 0 all
      (λ k. let there : 0 + k ≡ k = omega arith in ap (slice_get all) there)

-- a place more is looked at, from the last one on
least_more : (key : ℕ → List ℕ) (xs : List ℕ) (x y : ℕ) → least_by key xs ≡ Some y → least_by key (x ∷ xs) ≡ (if is_before (key y) (key x) then Some y else Some x)
least_more key xs x y h = rw h refl

pub better : (key : ℕ → List ℕ) (test : ℕ → Bool) (places : List ℕ) (n place other chosen : ℕ) (best : Option ℕ) → n ≤ length places → 0 < n
    → place ≡ get_or places (n - 1) 0 → test place ≡ true → best ≡ least_by key (filter test (drop n places)) → best ≡ Some other
    → chosen ≡ (if is_before (key other) (key place) then other else place) → Some chosen ≡ least_by key (filter test (drop (n - 1) places))
better key test places n place other chosen best within some here passes was is less =
    let back : n - 1 + 1 ≡ n = omega (arith, some) in
    let step : drop (n - 1) places ≡ place ∷ drop n places =
    drop_more places (n - 1) 0 (omega (arith, within, some)) ∙ ap (λ (x : ℕ). x ∷ drop (n - 1 + 1) places) (sym here) ∙ ap (λ (k : ℕ). place ∷ drop k places) back in
    let all : least_by key (filter test (drop (n - 1) places)) ≡ (if is_before (key other) (key place) then Some other else Some place) =
    ap (λ (xs : List ℕ). least_by key (filter test xs)) step ∙ ap (least_by key) (filter-yes test place (drop n places) passes)
    ∙ least_more key (filter test (drop n places)) place other (sym was ∙ is) in
    ap Some less ∙ pick (is_before (key other) (key place)) ∙ sym all
  where
    pick : (t : Bool) → Some (if t then other else place) ≡ (if t then Some other else Some place)
    pick true = refl
    pick false = refl

-- places that are listed are those that were kept
pub places_kept : {E : Type 0} (declared : Declared) (seen : Seen) (result : Result (List (Option ℕ)) E) (places : List (Option ℕ)) → AreKeptPlaces declared seen places
    → IfOk result (λ list. list ≡ places) → IfOk result (λ list. AreKeptPlaces declared seen list)
places_kept declared seen (Ok list) places kept e = subst (λ (ps : List (Option ℕ)). AreKeptPlaces declared seen ps) (sym e) kept
places_kept declared seen (Err x) places kept e = tt

-- whether something stands under a text, by what is found there
pub under_some : (entries : List (List ℕ × ℕ)) (text : List ℕ) → 1 ≤ length (numbers_under entries text) → is_under entries text ≡ true
under_some [] text h = absurd (omega (arith, h))
under_some (entry ∷ entries) text h = at (bytes_eq text entry.0) h (under_some entries text)
  where
    rest : List (List ℕ × ℕ)
    rest = filter (λ (e : List ℕ × ℕ). bytes_eq text e.0) entries

    at : (t : Bool) → 1 ≤ length (map (λ (e : List ℕ × ℕ). e.1) (cond t (entry ∷ rest) rest))
        → (1 ≤ length (map (λ (e : List ℕ × ℕ). e.1) rest) → is_under entries text ≡ true) → (t || is_under entries text) ≡ true
    at true k more = refl
    at false k more = more k

pub under_none : (entries : List (List ℕ × ℕ)) (text : List ℕ) → length (numbers_under entries text) < 1 → is_under entries text ≡ false
under_none [] text h = refl
under_none (entry ∷ entries) text h = at (bytes_eq text entry.0) h (under_none entries text)
  where
    rest : List (List ℕ × ℕ)
    rest = filter (λ (e : List ℕ × ℕ). bytes_eq text e.0) entries

    at : (t : Bool) → length (map (λ (e : List ℕ × ℕ). e.1) (cond t (entry ∷ rest) rest)) < 1
        → (length (map (λ (e : List ℕ × ℕ). e.1) rest) < 1 → is_under entries text ≡ false) → (t || is_under entries text) ≡ false
    at true k more = absurd (omega (arith, k))
    at false k more = more k

-- what stands under a text
any_append : {X : Type 0} (p : X → Bool) (xs ys : List X) → list_any p (xs ++ ys) ≡ (list_any p xs || list_any p ys)
any_append p [] ys = refl
any_append p (x ∷ xs) ys = ap (λ (b : Bool). p x || b) (any_append p xs ys) ∙ at (p x) (list_any p xs) (list_any p ys)
  where
    at : (a b c : Bool) → (a || (b || c)) ≡ ((a || b) || c)
    at true b c = refl
    at false b c = refl

any_each : (texts : List (List ℕ)) (number : ℕ) (text : List ℕ) → is_under (under_each texts number) text ≡ list_any (bytes_eq text) texts
any_each [] number text = refl
any_each (t ∷ texts) number text = ap (λ (b : Bool). bytes_eq text t || b) (any_each texts number text)

pub under_one : {X : Type 0} (texts : X → List (List ℕ)) (i : ℕ) (xs : List X) (text : List ℕ)
    → is_under (places_under texts i xs) text ≡ list_any (λ x. list_any (bytes_eq text) (texts x)) xs
under_one texts i [] text = refl
under_one {X} texts i (x ∷ xs) text =
    any_append (λ (entry : List ℕ × ℕ). bytes_eq text entry.0) (under_each (texts x) i) (places_under texts (i + 1) xs)
    ∙ ap (λ (b : Bool). b || is_under (places_under texts (i + 1) xs) text) (any_each (texts x) i text)
    ∙ ap (λ (b : Bool). list_any (bytes_eq text) (texts x) || b) (under_one texts (i + 1) xs text)

-- a text is compared either way
eq_back : (s t : List ℕ) → bytes_eq s t ≡ bytes_eq t s
eq_back s t = by_cases (bytes_eq s t)
    (λ e. e ∙ sym ((bytes_eq-Decides t s).1 (sym ((bytes_eq-Decides s t).0 e))))
    (λ e. by_cases (bytes_eq t s)
    (λ f. let bad : false ≡ true = sym e ∙ (bytes_eq-Decides s t).1 (sym ((bytes_eq-Decides t s).0 f)) in absurd (cc bad))
    (λ f. e ∙ sym f))

same_any : {X : Type 0} (p q : X → Bool) (xs : List X) → ((x : X) → p x ≡ q x) → list_any p xs ≡ list_any q xs
same_any p q [] e = refl
same_any p q (x ∷ xs) e = ap (λ (b : Bool). b || list_any p xs) (e x) ∙ ap (λ (b : Bool). q x || b) (same_any p q xs e)

or_none : (b : Bool) → (b || false) ≡ b
or_none true = refl
or_none false = refl

-- whether a slot keeps a container, by its id
pub kept_by_id : (declared : Declared) (seen : Seen) (kept : List (Option ℕ)) (row : Listed) → AreKeptPlaces declared seen kept
    → is_under (kept_under seen kept) row.id ≡ is_kept declared seen row
kept_by_id declared seen kept row same =
    under_one (id_in seen) 0 kept row.id
    ∙ any_same (option_and_then (slice_get seen.containers)) (kept_of declared seen) kept declared.slots same
    (λ (o : Option Listed). list_any (bytes_eq row.id) (option_map_or (λ (r : Listed). r.id ∷ []) o []))
    ∙ same_any (λ (slot : Slot). list_any (bytes_eq row.id) (option_map_or (λ (r : Listed). r.id ∷ []) (kept_of declared seen slot) []))
    (λ (slot : Slot). option_map_or (λ (other : Listed). bytes_eq other.id row.id) (kept_of declared seen slot) false) declared.slots (λ slot. at (kept_of declared seen slot))
  where
    at : (o : Option Listed) → list_any (bytes_eq row.id) (option_map_or (λ (r : Listed). r.id ∷ []) o []) ≡ option_map_or (λ (other : Listed). bytes_eq other.id row.id) o false
    at None = refl
    at (Some other) = or_none (bytes_eq row.id other.id) ∙ eq_back row.id other.id

-- whether labels name a declared service, by its key
pub service_by_key : (declared : Declared) (labels : List Var) (key : List ℕ) → label labels service_label ≡ Some key
    → is_under (services_under declared) key ≡ has_declared_service declared labels
service_by_key declared labels key e =
    under_one (λ (service : DeclaredService). service.key ∷ []) 0 declared.services key
    ∙ same_any (λ (service : DeclaredService). list_any (bytes_eq key) (service.key ∷ []))
    (λ (service : DeclaredService). names_service service.key labels) declared.services
    (λ service. or_none (bytes_eq key service.key) ∙ eq_back key service.key ∙ sym (ap (λ (o : Option (List ℕ)). option_map_or (bytes_eq service.key) o false) e))

pub service_unnamed : (declared : Declared) (labels : List Var) → label labels service_label ≡ None → has_declared_service declared labels ≡ false
service_unnamed declared labels e = none declared.services
  where
    none : (services : List DeclaredService) → list_any (λ (service : DeclaredService). names_service service.key labels) services ≡ false
    none [] = refl
    none (service ∷ services) = ap (λ (o : Option (List ℕ)). option_map_or (bytes_eq service.key) o false || list_any (λ (s : DeclaredService). names_service s.key labels) services) e ∙ none services
