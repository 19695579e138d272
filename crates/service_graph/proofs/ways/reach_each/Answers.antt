use Rattle.std.proofs.Common.{◌≡◌, ◌<◌, ◌≤◌, length, get_or, map, List, ℕ, [], ◌∷◌, ◌++◌, refl, subst, arith, rules}
use Rattle.std.proofs.lemmas.List.{take_all}
use Rattle.service_graph.specs.Reaching.{Reaches, ways_of}
use Rattle.service_graph.proofs.Loops.{no_shorter, one_reached}
use Rattle.service_graph.proofs.ways.reach_each.Goals as goal

pub reach_one-requires-clause-within : goal.reach_one-requires-clause-within
reach_one-requires-clause-within c =
    let low : get_or c.args.next.now c.loop-place.place-index 0 < length c.args.seen.now =
    c.requires.within (get_or c.args.next.now c.loop-place.place-index 0) (c.loop-place.place-index, c.loop-place-test.true, search rules) in
    let same : length c.loop-place.seen ≡ length c.args.seen.now = c.loop-place.auto.seen in
    omega (arith, low, same)

pub reach_one-requires-clause-from : goal.reach_one-requires-clause-from
reach_one-requires-clause-from c =
    let more : length c.args.reached.now.items ≤ length c.loop-place.reached.items = no_shorter _ _ _ _ _ c.loop-place.invariant in
    let low : c.args.from < length c.args.reached.now.items = c.requires.from in
    omega (arith, more, low)

pub loop-place-preserved : goal.loop-place-preserved
loop-place-preserved c =
    one_reached c.args.seen.now c.loop-place.seen c.reach_one.new.seen c.args.reached.now.items c.loop-place.reached.items c.reach_one.new.reached.items
    c.args.next.now c.args.from c.loop-place.place-index (get_or c.args.next.now c.loop-place.place-index 0) c.requires.from c.loop-place-test.true refl
    c.loop-place.invariant c.in_ok-reach_one.ensures

pub returns : goal.returns
returns c =
    subst (λ (ps : List ℕ). Reaches c.args.seen.now c.args.reached.now.items (map (λ to. get_or (ways_of c.args.reached.now.items) c.args.from [] ++ to ∷ []) ps) c.loop-place.seen c.loop-place.reached.items)
    (take_all c.loop-place.place-index c.args.next.now c.loop-place-test.false) c.loop-place.invariant
