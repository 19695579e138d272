use Rattle.std.proofs.Common.{◌≡◌, true, false, List, [], ◌∷◌, ◌++◌, get_or, set, sym, subst, arith}
use Rattle.service_graph.specs.declared.ways.Reached.{Reached}
use Rattle.service_graph.specs.Reaching.{Reaches, ways_of}
use Rattle.service_graph.proofs.Reached.{reaches_one, reaches_seen}
use Rattle.service_graph.proofs.ways.reach_one.Goals as goal

pub returns-in_ok-push : goal.returns-in_ok-push
returns-in_ok-push c =
    let one : Reached = record { place = c.args.place; from = c.args.from } in
    let e : get_or c.args.seen.now c.args.place false ≡ false = grind (arith, c.if-not-seen-place.true) in
    subst (λ (all : List Reached). Reaches c.args.seen.now c.args.reached.now.items ((get_or (ways_of c.args.reached.now.items) c.args.from [] ++ c.args.place ∷ []) ∷ []) (set c.args.seen.now c.args.place true) all)
    (sym c.in_ok-push.ensures.items) (reaches_one c.args.seen.now c.args.reached.now.items one c.requires.from e)

pub returns-else-not-seen-place : goal.returns-else-not-seen-place
returns-else-not-seen-place c =
    let one : Reached = record { place = c.args.place; from = c.args.from } in
    let e : get_or c.args.seen.now c.args.place false ≡ true = grind (arith, c.if-not-seen-place.false) in
    reaches_seen c.args.seen.now c.args.reached.now.items one e
