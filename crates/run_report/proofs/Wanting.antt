-- Rows of what is wanted grow need by need.
use Rattle.std.proofs.Common.{◌≡◌, ◌⊎◌, ℕ, ◌+◌, ◌<◌, ◌≤◌, Bool, true, false, List, [], ◌∷◌, ◌++◌, length, get_or, set, take, refl, sym, ap, ◌∙◌, subst, inl, inr, arith}
use Rattle.std.proofs.lemmas.Bool.{cases_eq, cases_lt}
use Rattle.std.proofs.lemmas.List.{get_or-set_other, get_or-set_same, get_or_default, length-set, set_past, take_all}
use Rattle.std.specs.Prelude.{if◌then◌else◌}
use Rattle.engine_types.specs.declared.Condition.{Condition}
use Rattle.engine_types.specs.declared.Need.{Need}
use Rattle.run_model.specs.Conditions.{is_started}
use Rattle.run_model.specs.EngineRules.{Among}
use Rattle.run_model.specs.Journals.{Setup}
use Rattle.run_model.specs.Plans.{kind_of, slot_needs}
use Rattle.run_model.proofs.DistinctLists.{from_append}
use Rattle.run_report.specs.Rows.{AreGrown, AreWanted, AreWantedBy, raised, until, unwanted, with_need}
use Rattle.run_report.specs.declared.wanted.Wanted.{Wanted}
use Rattle.run_report.proofs.Newest.{taken_more}

raised_further : (row : Wanted) (c : Condition) (place : ℕ) (d : Condition) → until row d ≤ until (raised row c place) d
raised_further row Condition.Healthy place Condition.Healthy = omega arith
raised_further row Condition.Completed place Condition.Completed = omega arith
raised_further row Condition.Running place Condition.Running = omega arith
raised_further row Condition.Healthy place d = same d
  where
    same : (d : Condition) → until row d ≤ until (raised row Condition.Healthy place) d
    same Condition.Healthy = omega arith
    same Condition.Completed = omega arith
    same Condition.Running = omega arith
    same Condition.Started = omega arith
raised_further row Condition.Completed place d = same d
  where
    same : (d : Condition) → until row d ≤ until (raised row Condition.Completed place) d
    same Condition.Healthy = omega arith
    same Condition.Completed = omega arith
    same Condition.Running = omega arith
    same Condition.Started = omega arith
raised_further row Condition.Running place d = same d
  where
    same : (d : Condition) → until row d ≤ until (raised row Condition.Running place) d
    same Condition.Healthy = omega arith
    same Condition.Completed = omega arith
    same Condition.Running = omega arith
    same Condition.Started = omega arith
raised_further row Condition.Started place d = omega arith

raised_here : (row : Wanted) (c : Condition) (place : ℕ) → is_started c ≡ false → place ≤ until (raised row c place) c
raised_here row Condition.Healthy place e = omega arith
raised_here row Condition.Completed place e = omega arith
raised_here row Condition.Running place e = omega arith
raised_here row Condition.Started place e = absurd (cc e)

grown_itself : (rows : List Wanted) → AreGrown rows rows
grown_itself rows = record { size = refl; further = λ s c. omega arith }

grown_on : (first next last : List Wanted) → AreGrown first next → AreGrown next last → AreGrown first last
grown_on first next last g h = record {
  size = h.size ∙ g.size;
  further = λ s c. let a = g.further s c in let b = h.further s c in omega (arith, a, b);
}

-- rows with one raised
set_grown : (rows : List Wanted) (s : ℕ) (c : Condition) (place : ℕ) → AreGrown rows (set rows s (raised (get_or rows s unwanted) c place))
set_grown rows s c place = record { size = length-set rows s (raised (get_or rows s unwanted) c place); further = λ t d. at t d (cases_eq t s) (cases_lt s (length rows)) }
  where
    row : Wanted
    row = raised (get_or rows s unwanted) c place

    at : (t : ℕ) (d : Condition) → (t ≡ s) ⊎ (t ≡ s → ⊥) → (s < length rows) ⊎ (length rows ≤ s) → until (get_or rows t unwanted) d ≤ until (get_or (set rows s row) t unwanted) d
    at t d k (inr past) = subst (λ (xs : List Wanted). until (get_or rows t unwanted) d ≤ until (get_or xs t unwanted) d) (sym (set_past rows s row past)) (omega arith)
    at t d (inl k) (inl within) = subst (λ (n : ℕ). until (get_or rows n unwanted) d ≤ until (get_or (set rows s row) n unwanted) d) (sym k)
        (subst (λ (r : Wanted). until (get_or rows s unwanted) d ≤ until r d) (sym (get_or-set_same rows s row unwanted within)) (raised_further (get_or rows s unwanted) c place d))
    at t d (inr k) (inl within) = subst (λ (r : Wanted). until (get_or rows t unwanted) d ≤ until r d) (sym (get_or-set_other rows s t row unwanted k)) (omega arith)

need_grown : (rows : List Wanted) (need : Need) (place : ℕ) → AreGrown rows (with_need rows need place)
need_grown rows need place = at need.required
  where
    at : (t : Bool) → AreGrown rows (if t then set rows need.slot (raised (get_or rows need.slot unwanted) need.condition place) else rows)
    at true = set_grown rows need.slot need.condition place
    at false = grown_itself rows

need_wanted : (rows : List Wanted) (need : Need) (place : ℕ) → AreWanted (with_need rows need place) (need ∷ []) place
need_wanted rows need place other (inr m) required started within = absurd m
need_wanted rows need place other (inl same) required started within =
    let here : need.required ≡ true = ap (λ (n : Need). n.required) (sym same) ∙ required in
    let kind : is_started need.condition ≡ false = ap (λ (n : Need). is_started n.condition) (sym same) ∙ started in
    let sized : length (with_need rows need place) ≡ length rows = (need_grown rows need place).size in
    let at : need.slot < length rows = let z = ap (λ (n : Need). n.slot) same in omega (arith, within, z, sized) in
    subst (λ (n : Need). place ≤ until (get_or (with_need rows need place) n.slot unwanted) n.condition) (sym same) (one here kind at)
  where
    row : Wanted
    row = raised (get_or rows need.slot unwanted) need.condition place

    one : need.required ≡ true → is_started need.condition ≡ false → need.slot < length rows → place ≤ until (get_or (with_need rows need place) need.slot unwanted) need.condition
    one r k l =
        let so : with_need rows need place ≡ set rows need.slot row = ap (λ (t : Bool). if t then set rows need.slot row else rows) r in
        subst (λ (xs : List Wanted). place ≤ until (get_or xs need.slot unwanted) need.condition) (sym so)
        (subst (λ (x : Wanted). place ≤ until x need.condition) (sym (get_or-set_same rows need.slot row unwanted l)) (raised_here (get_or rows need.slot unwanted) need.condition place k))

-- what was wanted is wanted in rows that have grown
pub wanted_still : (old new : List Wanted) (needs : List Need) (place : ℕ) → AreGrown old new → AreWanted old needs place → AreWanted new needs place
wanted_still old new needs place g w need m required started within =
    let z = g.size in
    let a = w need m required started (omega (arith, within, z)) in
    let b = g.further need.slot need.condition in
    omega (arith, a, b)

-- rows that take in the first of some needs
pub record Takes (needs : List Need) (place : ℕ) (old new : List Wanted) (i : ℕ) : Type 0 where
  pub grown : AreGrown old new
  pub wanted : AreWanted new (take i needs) place

pub takes_none : (needs : List Need) (place : ℕ) (old : List Wanted) → Takes needs place old old 0
takes_none needs place old = record { grown = grown_itself old; wanted = λ need m. absurd m }

takes_more : (needs : List Need) (place : ℕ) (old rows next : List Wanted) (i : ℕ) (need : Need) → i < length needs → need ≡ get_or needs i need
    → next ≡ with_need rows need place → Takes needs place old rows i → Takes needs place old next (i + 1)
takes_more needs place old rows next i need l is e so_far =
    let g : AreGrown rows next = subst (AreGrown rows) (sym e) (need_grown rows need place) in
    record {
      grown = grown_on old rows next so_far.grown g;
      wanted = subst (λ (xs : List Need). AreWanted next xs place) (sym (taken_more needs i need l is)) (both g);
    }
  where
    both : AreGrown rows next → AreWanted next (take i needs ++ need ∷ []) place
    both g other m = at (from_append (take i needs) (need ∷ []) other m)
      where
        at : Among (take i needs) other ⊎ Among (need ∷ []) other → other.required ≡ true → is_started other.condition ≡ false → other.slot < length next
            → place ≤ until (get_or next other.slot unwanted) other.condition
        at (inl k) = wanted_still rows next (take i needs) place g so_far.wanted other k
        at (inr k) = subst (λ (xs : List Wanted). AreWanted xs (need ∷ []) place) (sym e) (need_wanted rows need place) other k

-- one more, as it is read
pub takes_at : (needs : List Need) (place : ℕ) (old rows next : List Wanted) (i : ℕ) (d : Need) → i < length needs → next ≡ with_need rows (get_or needs i d) place
    → Takes needs place old rows i → Takes needs place old next (i + 1)
takes_at needs place old rows next i d l e so_far = takes_more needs place old rows next i (get_or needs i d) l (get_or_default needs i d (get_or needs i d) l) e so_far

-- all of them
pub takes_all : (needs : List Need) (place : ℕ) (old rows : List Wanted) (i : ℕ) → length needs ≤ i → Takes needs place old rows i → AreWanted rows needs place
takes_all needs place old rows i l so_far = subst (λ (xs : List Need). AreWanted rows xs place) (take_all i needs l) so_far.wanted

-- rows that take in the needs of one action more
pub wanted_more : (setup : Setup) (claims : List ℕ) (rows next : List Wanted) (i : ℕ) → AreWantedBy setup claims rows i → AreGrown rows next
    → AreWanted next (slot_needs setup.declared (kind_of setup.actions i)) (get_or claims i 0) → AreWantedBy setup claims next (i + 1)
wanted_more setup claims rows next i so_far g here a l = at (cases_lt a i)
  where
    at : (a < i) ⊎ (i ≤ a) → AreWanted next (slot_needs setup.declared (kind_of setup.actions a)) (get_or claims a 0)
    at (inl k) = wanted_still rows next (slot_needs setup.declared (kind_of setup.actions a)) (get_or claims a 0) g (so_far a k)
    at (inr k) = let same : i ≡ a = omega (arith, l, k) in
        subst (λ (n : ℕ). AreWanted next (slot_needs setup.declared (kind_of setup.actions n)) (get_or claims n 0)) same here
