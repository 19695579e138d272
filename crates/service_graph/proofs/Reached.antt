-- The ways to what was reached, as more is reached.
use Rattle.std.proofs.Common.{◌≡◌, ℕ, zero, suc, ◌+◌, ◌<◌, Bool, true, false, cond, List, [], ◌∷◌, ◌++◌, Some, length, get_or, set, refl, ap, sym, ◌∙◌, arith, append_assoc, append-nil, inl, inr}
use Rattle.std.specs.Prelude.{slice_get}
use Rattle.std.proofs.lemmas.List.{get_or_append_left, get_or_push, length-append}
use Rattle.service_graph.specs.declared.ways.Reached.{Reached}
use Rattle.service_graph.specs.Places.{last_place}
use Rattle.service_graph.specs.Reaching.{AreFromEarlier, Reaches, fresh, marked, ways_of, ways_on}
use Rattle.std.proofs.lemmas.Option.{slice_get_within}
use Rattle.service_graph.proofs.Lists.{up_to}
use Rattle.service_graph.proofs.Steps as steps

pub fresh-append : (seen : List Bool) (xs ys : List (List ℕ)) → fresh seen (xs ++ ys) ≡ fresh seen xs ++ fresh (marked seen xs) ys
fresh-append seen [] ys = refl
fresh-append seen (x ∷ xs) ys = at (get_or seen (last_place x) false) (fresh-append seen xs ys) (fresh-append (set seen (last_place x) true) xs ys)
  where
    at : (b : Bool) → fresh seen (xs ++ ys) ≡ fresh seen xs ++ fresh (marked seen xs) ys
        → fresh (set seen (last_place x) true) (xs ++ ys) ≡ fresh (set seen (last_place x) true) xs ++ fresh (marked (set seen (last_place x) true) xs) ys
        → cond b (fresh seen (xs ++ ys)) (x ∷ fresh (set seen (last_place x) true) (xs ++ ys))
        ≡ cond b (fresh seen xs) (x ∷ fresh (set seen (last_place x) true) xs) ++ fresh (cond b (marked seen xs) (marked (set seen (last_place x) true) xs)) ys
    at true e f = e
    at false e f = ap (λ l. x ∷ l) f

pub marked-append : (seen : List Bool) (xs ys : List (List ℕ)) → marked seen (xs ++ ys) ≡ marked (marked seen xs) ys
marked-append seen [] ys = refl
marked-append seen (x ∷ xs) ys = at (get_or seen (last_place x) false) (marked-append seen xs ys) (marked-append (set seen (last_place x) true) xs ys)
  where
    at : (b : Bool) → marked seen (xs ++ ys) ≡ marked (marked seen xs) ys
        → marked (set seen (last_place x) true) (xs ++ ys) ≡ marked (marked (set seen (last_place x) true) xs) ys
        → cond b (marked seen (xs ++ ys)) (marked (set seen (last_place x) true) (xs ++ ys)) ≡ marked (cond b (marked seen xs) (marked (set seen (last_place x) true) xs)) ys
    at true e f = e
    at false e f = f

-- what is reached by ways, and then by others
pub reaches_on : (a b c : List Bool) (k l m : List Reached) (xs ys : List (List ℕ)) → Reaches a k xs b l → Reaches b l ys c m → Reaches a k (xs ++ ys) c m
reaches_on a b c k l m xs ys r s = record {
  grown =
      s.grown ∙ ap (λ ways. ways ++ fresh b ys) r.grown ∙ append_assoc (ways_of k) (fresh a xs) (fresh b ys)
      ∙ ap (λ bs. ways_of k ++ (fresh a xs ++ fresh bs ys)) r.noted ∙ ap (λ ways. ways_of k ++ ways) (sym (fresh-append a xs ys));
  noted = s.noted ∙ ap (λ bs. marked bs ys) r.noted ∙ sym (marked-append a xs ys);
  earlier = λ h. s.earlier (r.earlier h);
}

-- the ways of one more that was reached
pub ways-push : (ways : List (List ℕ)) (reached : List Reached) (one : Reached) → ways_on ways (reached ++ one ∷ []) ≡ ways_on ways reached ++ (get_or (ways_on ways reached) one.from [] ++ one.place ∷ []) ∷ []
ways-push ways [] one = refl
ways-push ways (other ∷ reached) one = ways-push (ways ++ (get_or ways other.from [] ++ other.place ∷ []) ∷ []) reached one

length-on : (ways : List (List ℕ)) (reached : List Reached) → length (ways_on ways reached) ≡ length ways + length reached
length-on ways [] = omega arith
length-on ways (one ∷ reached) =
    let e : length (ways ++ (get_or ways one.from [] ++ one.place ∷ []) ∷ []) ≡ length ways + 1 = length-append ways ((get_or ways one.from [] ++ one.place ∷ []) ∷ []) in
    let f = length-on (ways ++ (get_or ways one.from [] ++ one.place ∷ []) ∷ []) reached in omega (arith, e, f)

pub length-ways : (reached : List Reached) → length (ways_of reached) ≡ length reached
length-ways reached = let e = length-on [] reached in omega (arith, e)

-- ways that stand there already stay
stay : (ways : List (List ℕ)) (reached : List Reached) (i : ℕ) → i < length ways → get_or (ways_on ways reached) i [] ≡ get_or ways i []
stay ways [] i l = refl
stay ways (one ∷ reached) i l =
    let way : List ℕ = get_or ways one.from [] ++ one.place ∷ [] in
    let e : length (ways ++ way ∷ []) ≡ length ways + 1 = length-append ways (way ∷ []) in
    stay (ways ++ way ∷ []) reached i (omega (arith, e, l)) ∙ get_or_append_left ways (way ∷ []) [] i l

-- the way to one, where it was reached from one that stands before it
way_on : (ways : List (List ℕ)) (reached : List Reached) (j : ℕ) (one : Reached) → slice_get reached j ≡ Some one → one.from < length ways + j
    → get_or (ways_on ways reached) (length ways + j) [] ≡ get_or (ways_on ways reached) one.from [] ++ one.place ∷ []
way_on ways [] j one e l = absurd (cc e)
way_on ways (other ∷ reached) zero one e l =
    let same : other ≡ one = cc e in
    let way : List ℕ = get_or ways other.from [] ++ other.place ∷ [] in
    let n : length (ways ++ way ∷ []) ≡ length ways + 1 = length-append ways (way ∷ []) in
    let z : length ways + 0 ≡ length ways = omega arith in
    let f : other.from ≡ one.from = ap (λ (r : Reached). r.from) same in
    let p : other.place ≡ one.place = ap (λ (r : Reached). r.place) same in
    ap (λ i. get_or (ways_on (ways ++ way ∷ []) reached) i []) z
    ∙ stay (ways ++ way ∷ []) reached (length ways) (omega (arith, n))
    ∙ get_or_push ways way [] (length ways) refl
    ∙ ap (λ i. i ++ other.place ∷ [])
    (sym (stay (ways ++ way ∷ []) reached other.from (omega (arith, n, l, f)) ∙ get_or_append_left ways (way ∷ []) [] other.from (omega (arith, l, f))))
    ∙ ap (λ (r : Reached). get_or (ways_on (ways ++ way ∷ []) reached) r.from [] ++ r.place ∷ []) same
way_on ways (other ∷ reached) (suc j) one e l =
    let way : List ℕ = get_or ways other.from [] ++ other.place ∷ [] in
    let n : length (ways ++ way ∷ []) ≡ length ways + 1 = length-append ways (way ∷ []) in
    let m : length ways + suc j ≡ length (ways ++ way ∷ []) + j = omega (arith, n) in
    ap (λ i. get_or (ways_on (ways ++ way ∷ []) reached) i []) m ∙ way_on (ways ++ way ∷ []) reached j one e (omega (arith, n, l))

-- the way to one goes on from the way to that from which it was reached
pub way_from : (reached : List Reached) (at : ℕ) (one : Reached) → AreFromEarlier reached → slice_get reached at ≡ Some one → 0 < at → get_or (ways_of reached) at [] ≡ get_or (ways_of reached) one.from [] ++ one.place ∷ []
way_from reached at one earlier e l =
    let z : 0 + at ≡ at = omega arith in
    ap (λ i. get_or (ways_of reached) i []) (sym z) ∙ way_on [] reached at one e (let f : one.from < at = earlier at one e l in omega (arith, f))

-- the first one has a way of its own
pub way_first : (reached : List Reached) (one : Reached) → slice_get reached 0 ≡ Some one → get_or (ways_of reached) 0 [] ≡ one.place ∷ []
way_first [] one e = absurd (cc e)
way_first (other ∷ reached) one e =
    let same : other ≡ one = cc e in
    stay ((other.place ∷ []) ∷ []) reached 0 (omega arith) ∙ ap (λ (r : Reached). r.place ∷ []) same

-- each way ends at the place that was reached
end_on : (ways : List (List ℕ)) (reached : List Reached) (j : ℕ) (one : Reached) → slice_get reached j ≡ Some one → last_place (get_or (ways_on ways reached) (length ways + j) []) ≡ one.place
end_on ways [] j one e = absurd (cc e)
end_on ways (other ∷ reached) zero one e =
    let same : other ≡ one = cc e in
    let way : List ℕ = get_or ways other.from [] ++ other.place ∷ [] in
    let n : length (ways ++ way ∷ []) ≡ length ways + 1 = length-append ways (way ∷ []) in
    let z : length ways + 0 ≡ length ways = omega arith in
    ap (λ i. last_place (get_or (ways_on (ways ++ way ∷ []) reached) i [])) z
    ∙ ap last_place (stay (ways ++ way ∷ []) reached (length ways) (omega (arith, n)) ∙ get_or_push ways way [] (length ways) refl)
    ∙ steps.last_step 0 (λ _. []) (λ _. true) (get_or ways other.from []) other.place
    ∙ ap (λ (r : Reached). r.place) same
end_on ways (other ∷ reached) (suc j) one e =
    let way : List ℕ = get_or ways other.from [] ++ other.place ∷ [] in
    let n : length (ways ++ way ∷ []) ≡ length ways + 1 = length-append ways (way ∷ []) in
    let m : length ways + suc j ≡ length (ways ++ way ∷ []) + j = omega (arith, n) in
    ap (λ i. last_place (get_or (ways_on (ways ++ way ∷ []) reached) i [])) m ∙ end_on (ways ++ way ∷ []) reached j one e

pub way_ends : (reached : List Reached) (at : ℕ) (one : Reached) → slice_get reached at ≡ Some one → last_place (get_or (ways_of reached) at []) ≡ one.place
way_ends reached at one e =
    let z : 0 + at ≡ at = omega arith in ap (λ i. last_place (get_or (ways_of reached) i [])) (sym z) ∙ end_on [] reached at one e

get_left : {X : Type 0} (xs : List X) (y : X) (i : ℕ) → i < length xs → slice_get (xs ++ y ∷ []) i ≡ slice_get xs i
get_left [] y i l = absurd (omega (arith, l))
get_left (x ∷ xs) y zero l = refl
get_left (x ∷ xs) y (suc i) l = get_left xs y i (omega (arith, l))

get_end : {X : Type 0} (xs : List X) (y : X) → slice_get (xs ++ y ∷ []) (length xs) ≡ Some y
get_end [] y = refl
get_end (x ∷ xs) y = get_end xs y

-- one more that was reached from an earlier one
pub earlier_push : (reached : List Reached) (one : Reached) → one.from < length reached → AreFromEarlier reached → AreFromEarlier (reached ++ one ∷ [])
earlier_push reached one l earlier at other e high =
    let n : length (reached ++ one ∷ []) ≡ length reached + 1 = length-append reached (one ∷ []) in
    let w : at < length (reached ++ one ∷ []) = slice_get_within (reached ++ one ∷ []) at other e in
    elim (up_to at (length reached) (omega (arith, n, w))) [
      | inl below ↦ earlier at other (sym (get_left reached one at below) ∙ e) high
      | inr here ↦ (let same : one ≡ other = some_same (sym (get_end reached one) ∙ ap (slice_get (reached ++ one ∷ [])) (sym here) ∙ e) in
          let f : one.from ≡ other.from = ap (λ (r : Reached). r.from) same in omega (arith, f, here, l))
    ]
  where
    some_same : {x y : Reached} → Some x ≡ Some y → x ≡ y
    some_same h = cc h

-- one place is reached, unless it was seen
pub reaches_one : (seen : List Bool) (reached : List Reached) (one : Reached) → one.from < length reached → get_or seen one.place false ≡ false
    → Reaches seen reached ((get_or (ways_of reached) one.from [] ++ one.place ∷ []) ∷ []) (set seen one.place true) (reached ++ one ∷ [])
reaches_one seen reached one l e =
    let way : List ℕ = get_or (ways_of reached) one.from [] ++ one.place ∷ [] in
    let f : get_or seen (last_place way) false ≡ false = ap (λ n. get_or seen n false) (steps.last_step 0 (λ _. []) (λ _. true) (get_or (ways_of reached) one.from []) one.place) ∙ e in
    record {
      grown = ways-push [] reached one ∙ sym (ap (λ b. ways_of reached ++ cond b [] (way ∷ [])) f);
      noted =
          sym (ap (λ b. cond b seen (set seen (last_place way) true)) f
          ∙ ap (λ n. set seen n true) (steps.last_step 0 (λ _. []) (λ _. true) (get_or (ways_of reached) one.from []) one.place));
      earlier = earlier_push reached one l;
    }

pub reaches_seen : (seen : List Bool) (reached : List Reached) (one : Reached) → get_or seen one.place false ≡ true
    → Reaches seen reached ((get_or (ways_of reached) one.from [] ++ one.place ∷ []) ∷ []) seen reached
reaches_seen seen reached one e =
    let way : List ℕ = get_or (ways_of reached) one.from [] ++ one.place ∷ [] in
    let f : get_or seen (last_place way) false ≡ true = ap (λ n. get_or seen n false) (steps.last_step 0 (λ _. []) (λ _. true) (get_or (ways_of reached) one.from []) one.place) ∙ e in
    record {
      grown = sym (append-nil (ways_of reached)) ∙ sym (ap (λ b. ways_of reached ++ cond b [] (way ∷ [])) f);
      noted = sym (ap (λ b. cond b seen (set seen (last_place way) true)) f);
      earlier = λ h. h;
    }
