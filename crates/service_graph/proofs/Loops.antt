-- Each loop over what was reached, one step further.
use Rattle.std.proofs.Common.{◌≡◌, ℕ, zero, suc, ◌+◌, ◌-◌, ◌<◌, ◌≤◌, Bool, cond, List, [], ◌∷◌, ◌++◌, Some, None, length, map, get_or, take, drop, refl, ap, sym, ◌∙◌, subst, arith, append-nil, drop-cons, length-drop}
use Rattle.std.specs.Prelude.{◌==◌, Option, find, slice_get}
use Rattle.std.specs.List.{list_any, range_with_len}
use Rattle.std.specs.Option.{option_or}
use Rattle.std.proofs.lemmas.Grind.{flat_map-append}
use Rattle.std.proofs.lemmas.List.{get_or-drop, get_or_append_left, length-append, map_more}
use Rattle.std.proofs.lemmas.Option.{slice_get_within}
use Rattle.std.proofs.Math.Seq.{drop-append_seam}
use Rattle.service_graph.specs.declared.ways.Reached.{Reached}
use Rattle.service_graph.specs.Cycles.{first_of}
use Rattle.service_graph.specs.Places.{further, last_place, leads_back, next_of, place_steps, way_back}
use Rattle.service_graph.specs.Reaching.{Reaches, fresh, ways_of}
use Rattle.service_graph.proofs.Reached.{length-ways, reaches_on, way_ends}
use Rattle.service_graph.proofs.Walks as walks

take_one : {X : Type 0} (xs : List X) (i : ℕ) (d : X) → i < length xs → take (suc i) xs ≡ take i xs ++ get_or xs i d ∷ []
take_one [] i d l = absurd (omega (arith, l))
take_one (x ∷ xs) zero d l = refl
take_one (x ∷ xs) (suc i) d l = ap (λ ys. x ∷ ys) (take_one xs i d (omega (arith, l)))

-- the first that leads back, from one that was reached on
pub back_there : (links : List (List ℕ)) (start : ℕ) (reached : List Reached) (at : ℕ) (one : Reached) → slice_get reached at ≡ Some one → (b : Bool) → b ≡ list_any (λ next. next == start) (next_of links one.place)
    → find (leads_back links start) (drop at (ways_of reached)) ≡ cond b (Some (get_or (ways_of reached) at [])) (find (leads_back links start) (drop (at + 1) (ways_of reached)))
back_there links start reached at one e b f =
    let l : at < length reached = slice_get_within reached at one e in
    let n : length (ways_of reached) ≡ length reached = length-ways reached in
    let low : at < length (ways_of reached) = omega (arith, l, n) in
    let more : suc at ≡ at + 1 = omega arith in
    ap (find (leads_back links start)) (drop-cons (ways_of reached) at [] low)
    ∙ ap (λ c. cond c (Some (get_or (ways_of reached) at [])) (find (leads_back links start) (drop (suc at) (ways_of reached))))
    (ap (λ place. list_any (λ next. next == start) (next_of links place)) (way_ends reached at one e) ∙ sym f)
    ∙ ap (λ n. cond b (Some (get_or (ways_of reached) at [])) (find (leads_back links start) (drop n (ways_of reached)))) more

-- what was reached before stays
pub kept_way : (seen after : List Bool) (reached all : List Reached) (ways : List (List ℕ)) → Reaches seen reached ways after all → (i : ℕ) → i < length reached → get_or (ways_of all) i [] ≡ get_or (ways_of reached) i []
kept_way seen after reached all ways r i l =
    ap (λ ws. get_or ws i []) r.grown ∙ get_or_append_left (ways_of reached) (fresh seen ways) [] i (let n : length (ways_of reached) ≡ length reached = length-ways reached in omega (arith, l, n))

pub no_shorter : (seen after : List Bool) (reached all : List Reached) (ways : List (List ℕ)) → Reaches seen reached ways after all → length reached ≤ length all
no_shorter seen after reached all ways r =
    let n : length (ways_of reached) ≡ length reached = length-ways reached in
    let m : length (ways_of all) ≡ length all = length-ways all in
    let e : length (ways_of all) ≡ length (ways_of reached) + length (fresh seen ways) = ap (λ (ws : List (List ℕ)). length ws) r.grown ∙ length-append (ways_of reached) (fresh seen ways) in
    omega (arith, n, m, e)

-- one more place is reached from one
pub one_reached : (seen now after : List Bool) (reached some all : List Reached) (next : List ℕ) (from i place : ℕ) → from < length reached → i < length next → place ≡ get_or next i 0
    → Reaches seen reached (map (λ to. get_or (ways_of reached) from [] ++ to ∷ []) (take i next)) now some
    → Reaches now some ((get_or (ways_of some) from [] ++ place ∷ []) ∷ []) after all
    → Reaches seen reached (map (λ to. get_or (ways_of reached) from [] ++ to ∷ []) (take (i + 1) next)) after all
one_reached seen now after reached some all next from i place l low e r s =
    let way : List ℕ = get_or (ways_of reached) from [] in
    let kept : get_or (ways_of some) from [] ≡ way = kept_way seen now reached some (map (λ to. way ++ to ∷ []) (take i next)) r from l in
    subst (λ (ws : List (List ℕ)). Reaches seen reached ws after all) (sym (map_more (λ to. way ++ to ∷ []) next i 0 low))
    (reaches_on seen now after reached some all (map (λ to. way ++ to ∷ []) (take i next)) ((way ++ get_or next i 0 ∷ []) ∷ []) r
    (subst (λ (p : ℕ). Reaches now some ((way ++ p ∷ []) ∷ []) after all) e (subst (λ (w : List ℕ). Reaches now some ((w ++ place ∷ []) ∷ []) after all) kept s)))

-- all is reached that one more leads to
pub all_reached : (links : List (List ℕ)) (seen now after : List Bool) (reached some all : List Reached) (first from : ℕ) (one : Reached) (next : List ℕ) → first ≤ from → from < length reached
    → slice_get some from ≡ Some one → next ≡ next_of links one.place
    → Reaches seen reached (further links (take (from - first) (drop first (ways_of reached)))) now some
    → Reaches now some (map (λ to. get_or (ways_of some) from [] ++ to ∷ []) next) after all
    → Reaches seen reached (further links (take (from + 1 - first) (drop first (ways_of reached)))) after all
all_reached links seen now after reached some all first from one next low high e n r s =
    let old : List (List ℕ) = drop first (ways_of reached) in
    let way : List ℕ = get_or (ways_of reached) from [] in
    let k : from + 1 - first ≡ suc (from - first) = omega (arith, low) in
    let size : length (ways_of reached) ≡ length reached = length-ways reached in
    let left : length old ≡ length (ways_of reached) - first = length-drop first (ways_of reached) in
    let at : get_or old (from - first) [] ≡ way = get_or-drop first (ways_of reached) (from - first) [] ∙ (let m : first + (from - first) ≡ from = omega (arith, low) in ap (λ i. get_or (ways_of reached) i []) m) in
    let kept : get_or (ways_of some) from [] ≡ way = kept_way seen now reached some (further links (take (from - first) old)) r from high in
    let ends : last_place way ≡ one.place = ap last_place (sym kept) ∙ way_ends some from one e in
    let goes : next ≡ next_of links (last_place way) = n ∙ ap (next_of links) (sym ends) in
    let more : further links (take (from + 1 - first) old) ≡ further links (take (from - first) old) ++ place_steps links way =
    ap (λ i. further links (take i old)) k
    ∙ ap (further links) (take_one old (from - first) [] (omega (arith, left, size, low, high)))
    ∙ flat_map-append (place_steps links) (take (from - first) old) (get_or old (from - first) [] ∷ [])
    ∙ ap (λ w. further links (take (from - first) old) ++ (place_steps links w ++ [])) at
    ∙ ap (λ ws. further links (take (from - first) old) ++ ws) (append-nil (place_steps links way)) in
    subst (λ (ws : List (List ℕ)). Reaches seen reached ws after all) (sym more)
    (reaches_on seen now after reached some all (further links (take (from - first) old)) (place_steps links way) r
    (subst (λ (ps : List ℕ). Reaches now some (map (λ to. way ++ to ∷ []) ps) after all) goes
    (subst (λ (w : List ℕ). Reaches now some (map (λ to. w ++ to ∷ []) next) after all) kept s)))

-- the next level is what was reached last
pub level_on : (links : List (List ℕ)) (start count first : ℕ) (seen after : List Bool) (reached all : List Reached) → walks.IsLevel links start count (drop first (ways_of reached)) seen
    → find (leads_back links start) (drop first (ways_of reached)) ≡ None → Reaches seen reached (further links (drop first (ways_of reached))) after all
    → walks.IsLevel links start (count + 1) (drop (length reached) (ways_of all)) after
level_on links start count first seen after reached all level none r =
    let ways : List (List ℕ) = drop first (ways_of reached) in
    let n : length reached ≡ length (ways_of reached) = sym (length-ways reached) in
    let m : suc count ≡ count + 1 = omega arith in
    let last : drop (length reached) (ways_of all) ≡ fresh seen (further links ways) =
    ap (λ ws. drop (length reached) ws) r.grown ∙ ap (λ i. drop i (ways_of reached ++ fresh seen (further links ways))) n ∙ drop-append_seam (ways_of reached) (fresh seen (further links ways)) in
    subst (λ (c : ℕ). walks.IsLevel links start c (drop (length reached) (ways_of all)) after) m
    (subst (λ (ws : List (List ℕ)). walks.IsLevel links start (suc count) ws after) (sym last)
    (subst (λ (bs : List Bool). walks.IsLevel links start (suc count) (fresh seen (further links ways)) bs) (sym r.noted)
    (walks.next_level links start count ways seen level none)))

pub first_later : (links : List (List ℕ)) (start : ℕ) (way : Option (List ℕ)) → start < length links → way ≡ way_back links start
    → first_of (map (way_back links) (range_with_len start (length links - start))) ≡ option_or way (first_of (map (way_back links) (range_with_len (start + 1) (length links - (start + 1)))))
first_later links start way l e =
    let n : length links - start ≡ suc (length links - (start + 1)) = omega (arith, l) in
    ap (λ i. first_of (map (way_back links) (range_with_len start i))) n
    ∙ ap (λ (o : Option (List ℕ)). option_or o (first_of (map (way_back links) (range_with_len (start + 1) (length links - (start + 1)))))) (sym e)
