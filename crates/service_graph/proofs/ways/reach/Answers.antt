use Rattle.std.proofs.Common.{◌≡◌, ◌-◌, ◌<◌, ◌≤◌, length, drop, List, ℕ, refl, subst, arith, length-drop}
use Rattle.std.specs.List.{Contains}
use Rattle.std.proofs.lemmas.List.{take_all}
use Rattle.std.proofs.lemmas.Option.{slice_get_read}
use Rattle.service_graph.specs.declared.ways.Reached.{Reached}
use Rattle.service_graph.specs.Places.{further}
use Rattle.service_graph.specs.Reaching.{Reaches, ways_of}
use Rattle.service_graph.proofs.Loops.{all_reached, no_shorter}
use Rattle.service_graph.proofs.Reached.{length-ways}
use Rattle.service_graph.proofs.ways.reach.Goals as goal

pub index-requires : goal.index-requires
index-requires c =
    let more : length c.args.reached.now.items ≤ length c.loop-from.reached.items = no_shorter _ _ _ _ _ c.loop-from.invariant in
    omega (arith, more, c.loop-from-test.true, c.len-from-end.ensures)

pub reach_each-requires-clause-within : goal.reach_each-requires-clause-within
reach_each-requires-clause-within c to in_it =
    let same : length c.loop-from.seen ≡ length c.args.seen.now = c.loop-from.auto.seen in
    let low : to < length c.args.links.now = c.requires.within _ to (subst (λ (ps : List ℕ). Contains ps to) c.next_of-next.ensures in_it) in
    omega (arith, same, low, c.requires.long)

pub reach_each-requires-clause-from : goal.reach_each-requires-clause-from
reach_each-requires-clause-from c =
    let more : length c.args.reached.now.items ≤ length c.loop-from.reached.items = no_shorter _ _ _ _ _ c.loop-from.invariant in
    omega (arith, more, c.loop-from-test.true, c.len-from-end.ensures)

pub loop-from-preserved : goal.loop-from-preserved
loop-from-preserved c =
    let more : length c.args.reached.now.items ≤ length c.loop-from.reached.items = no_shorter _ _ _ _ _ c.loop-from.invariant in
    let low : c.loop-from.from < length c.args.reached.now.items = omega (arith, c.loop-from-test.true, c.len-from-end.ensures) in
    let one : Reached = c.index.result.now in
    all_reached c.args.links.now c.args.seen.now c.loop-from.seen c.reach_each.new.seen c.args.reached.now.items c.loop-from.reached.items c.reach_each.new.reached.items
    c.args.first c.loop-from.from one c.next_of-next.result.now (omega arith) low
    (slice_get_read c.loop-from.reached.items (length c.loop-from.reached.items) c.loop-from.from one refl (omega (arith, more, low)) c.index.ensures) c.next_of-next.ensures
    c.loop-from.invariant c.in_ok-reach_each.ensures

pub returns : goal.returns
returns c =
    let size : length (ways_of c.args.reached.now.items) ≡ length c.args.reached.now.items = length-ways c.args.reached.now.items in
    let left : length (drop c.args.first (ways_of c.args.reached.now.items)) ≡ length (ways_of c.args.reached.now.items) - c.args.first = length-drop c.args.first (ways_of c.args.reached.now.items) in
    subst (λ (ws : List (List ℕ)). Reaches c.args.seen.now c.args.reached.now.items (further c.args.links.now ws) c.loop-from.seen c.loop-from.reached.items)
    (take_all (c.loop-from.from - c.args.first) (drop c.args.first (ways_of c.args.reached.now.items)) (omega (arith, size, left, c.loop-from-test.false, c.len-from-end.ensures))) c.loop-from.invariant
