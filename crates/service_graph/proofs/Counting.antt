-- No more places are reached first than there are.
use Rattle.std.proofs.Common.{◌≡◌, ◌⊎◌, ℕ, zero, suc, ◌+◌, ◌<◌, Bool, true, false, cond, List, [], ◌∷◌, ◌++◌, None, length, map, get_or, set, replicate, refl, ap, sym, ◌∙◌, subst, arith, inl, inr}
use Rattle.std.specs.Prelude.{find}
use Rattle.std.specs.List.{AllByRecursion, Contains}
use Rattle.service_graph.specs.Places.{AreWithin, further, last_place, leads_back, next_of, place_steps, place_ways}
use Rattle.service_graph.specs.Reaching.{fresh, marked}
use Rattle.service_graph.proofs.Lists.{none_true, up_to}
use Rattle.service_graph.proofs.Steps as steps
use Rattle.service_graph.proofs.Walks as walks

-- how many places weren't seen
abbrev unseen : List Bool → ℕ
unseen [] = 0
unseen (b ∷ bs) = cond b (unseen bs) (suc (unseen bs))

unseen_set : (bs : List Bool) (i : ℕ) → i < length bs → get_or bs i false ≡ false → unseen bs ≡ suc (unseen (set bs i true))
unseen_set [] i l e = absurd (omega (arith, l))
unseen_set (b ∷ bs) zero l e = ap (λ c. cond c (unseen bs) (suc (unseen bs))) e
unseen_set (b ∷ bs) (suc i) l e = at b (unseen_set bs i (omega (arith, l)) e)
  where
    at : (b : Bool) → unseen bs ≡ suc (unseen (set bs i true)) → cond b (unseen bs) (suc (unseen bs)) ≡ suc (cond b (unseen (set bs i true)) (suc (unseen (set bs i true))))
    at true f = f
    at false f = ap (λ n. suc n) f

length_set : (bs : List Bool) (i : ℕ) → length (set bs i true) ≡ length bs
length_set [] i = refl
length_set (b ∷ bs) zero = refl
length_set (b ∷ bs) (suc i) = ap (λ n. suc n) (length_set bs i)

unseen_none : (n : ℕ) → unseen (replicate n false) ≡ n
unseen_none zero = refl
unseen_none (suc n) = ap (λ m. suc m) (unseen_none n)

length_none : (n : ℕ) → length (replicate n false) ≡ n
length_none zero = refl
length_none (suc n) = ap (λ m. suc m) (length_none n)

pub length_start : (n i : ℕ) → length (set (replicate n false) i true) ≡ n
length_start n i = length_set (replicate n false) i ∙ length_none n

pub length_marked : (seen : List Bool) (ways : List (List ℕ)) → length (marked seen ways) ≡ length seen
length_marked seen [] = refl
length_marked seen (way ∷ ways) = at (get_or seen (last_place way) false) (length_marked seen ways) (length_marked (set seen (last_place way) true) ways ∙ length_set seen (last_place way))
  where
    at : (b : Bool) → length (marked seen ways) ≡ length seen → length (marked (set seen (last_place way) true) ways) ≡ length seen
        → length (cond b (marked seen ways) (marked (set seen (last_place way) true) ways)) ≡ length seen
    at true e f = e
    at false e f = f

-- where ways end among the places, each that is new leaves one place fewer
fewer_unseen : (seen : List Bool) (ways : List (List ℕ)) → AllByRecursion (λ way. last_place way < length seen) ways → unseen seen ≡ unseen (marked seen ways) + length (fresh seen ways)
fewer_unseen seen [] all = omega arith
fewer_unseen seen (way ∷ ways) all =
    at (get_or seen (last_place way) false) refl (fewer_unseen seen ways all.1)
    (fewer_unseen (set seen (last_place way) true) ways (subst (λ (n : ℕ). AllByRecursion (λ w. last_place w < n) ways) (sym (length_set seen (last_place way))) all.1))
  where
    at : (b : Bool) → get_or seen (last_place way) false ≡ b → unseen seen ≡ unseen (marked seen ways) + length (fresh seen ways)
        → unseen (set seen (last_place way) true) ≡ unseen (marked (set seen (last_place way) true) ways) + length (fresh (set seen (last_place way) true) ways)
        → unseen seen ≡ unseen (cond b (marked seen ways) (marked (set seen (last_place way) true) ways)) + length (cond b (fresh seen ways) (way ∷ fresh (set seen (last_place way) true) ways))
    at true e f g = f
    at false e f g = let h : unseen seen ≡ suc (unseen (set seen (last_place way) true)) = unseen_set seen (last_place way) all.0 e in omega (arith, g, h)

all-append : {X : Type 0} (P : X → Type 0) (xs ys : List X) → AllByRecursion P xs → AllByRecursion P ys → AllByRecursion P (xs ++ ys)
all-append P [] ys a b = b
all-append P (x ∷ xs) ys a b = (a.0, all-append P xs ys a.1 b)

-- the levels of places that are reached from one, and what was seen then
module _ (links : List (List ℕ)) (within : AreWithin links) (start : ℕ) (here : start < length links) where
  abbrev level : ℕ → List (List ℕ) × List Bool
  level zero = ((start ∷ []) ∷ [], set (replicate (length links) false) start true)
  level (suc count) = next (level count)
    where
      next : List (List ℕ) × List Bool → List (List ℕ) × List Bool
      next now = (fresh now.1 (further links now.0), marked now.1 (further links now.0))

  long : (count : ℕ) → length (level count).1 ≡ length links
  long zero = length_set (replicate (length links) false) start ∙ length_none (length links)
  long (suc count) = length_marked (level count).1 (further links (level count).0) ∙ long count

  ends_of : (way : List ℕ) (nexts : List ℕ) → ((to : ℕ) → Contains nexts to → to < length links) → AllByRecursion (λ w. last_place w < length links) (map (λ next. way ++ next ∷ []) nexts)
  ends_of way [] h = tt
  ends_of way (next ∷ nexts) h = (
    subst (λ (n : ℕ). n < length links) (sym (steps.last_step 0 (next_of links) (λ _. true) way next)) (h next (0, omega arith, refl)),
    ends_of way nexts (λ to c. h to (suc c.0, (let l : c.0 < length nexts = c.1 in omega (arith, l)), c.2)),
  )

  ends_all : (ways : List (List ℕ)) → AllByRecursion (λ way. last_place way < length links) (further links ways)
  ends_all [] = tt
  ends_all (way ∷ ways) =
      all-append (λ w. last_place w < length links) (place_steps links way) (further links ways) (ends_of way (next_of links (last_place way)) (within (last_place way))) (ends_all ways)

  fewer_left : (count : ℕ) → ((level count).0 ≡ []) ⊎ (unseen (level count).1 + count < length links)
  fewer_left zero =
      let l : start < length (replicate (length links) false) = subst (λ (n : ℕ). start < n) (sym (length_none (length links))) here in
      let e : get_or (replicate (length links) false) start false ≡ false = none_true (length links) start in
      let u : unseen (replicate (length links) false) ≡ suc (unseen (set (replicate (length links) false) start true)) = unseen_set (replicate (length links) false) start l e in
      let n : unseen (replicate (length links) false) ≡ length links = unseen_none (length links) in
      inr (omega (arith, u, n))
  fewer_left (suc count) = at (fewer_left count) (fresh (level count).1 (further links (level count).0)) refl
    where
      less : unseen (level count).1 ≡ unseen (level (suc count)).1 + length (level (suc count)).0
      less = fewer_unseen (level count).1 (further links (level count).0) (subst (λ (n : ℕ). AllByRecursion (λ w. last_place w < n) (further links (level count).0)) (sym (long count)) (ends_all (level count).0))

      at : ((level count).0 ≡ []) ⊎ (unseen (level count).1 + count < length links) → (next : List (List ℕ)) → (level (suc count)).0 ≡ next
          → ((level (suc count)).0 ≡ []) ⊎ (unseen (level (suc count)).1 + suc count < length links)
      at (inl none) next e = inl (ap (λ ways. fresh (level count).1 (further links ways)) none)
      at (inr some) [] e = inl e
      at (inr some) (way ∷ more) e =
          let m : length (level (suc count)).0 ≡ suc (length more) = ap (λ (ways : List (List ℕ)). length ways) e in
          inr (omega (arith, some, less, m))

  levels : (count : ℕ) → walks.NoneBelow links start count → walks.IsLevel links start count (level count).0 (level count).1
  levels zero none = walks.first_level links start (length links)
  levels (suc count) none =
      let below : walks.NoneBelow links start count = λ fewer l. none fewer (omega (arith, l)) in
      walks.next_level links start count (level count).0 (level count).1 (levels count below)
      (sym (walks.here links start count (level count).0 (level count).1 (levels count below)) ∙ none count (omega arith))

  -- a way back that has as many steps as there are places, or more, is never the only one
  pub never_back : walks.NoneBelow links start (length links) → (more : ℕ) → walks.NoneBelow links start (length links + more)
  never_back none zero fewer l = none fewer (omega (arith, l))
  never_back none (suc more) fewer l = at (up_to fewer (length links + more) (omega (arith, l))) (never_back none more)
    where
      at : (fewer < length links + more) ⊎ (fewer ≡ length links + more) → walks.NoneBelow links start (length links + more) → find (leads_back links start) (place_ways links start fewer) ≡ None
      at (inl low) below = below fewer low
      at (inr same) below = ap (λ n. find (leads_back links start) (place_ways links start n)) same ∙ (levels (length links) none).same more below ∙ empty (fewer_left (length links))
        where
          empty : ((level (length links)).0 ≡ []) ⊎ (unseen (level (length links)).1 + length links < length links) → walks.found links start more (level (length links)).0 ≡ None
          empty (inl nil) = ap (walks.found links start more) nil ∙ ap (find (leads_back links start)) (steps.on-nil 0 (next_of links) (walks.closing links start) more)
          empty (inr low) = absurd (omega (arith, low))
