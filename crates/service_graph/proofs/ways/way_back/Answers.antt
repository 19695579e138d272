use Rattle.std.proofs.Common.{◌≡◌, ◌∙◌, ◌++◌, ◌+◌, [], ◌∷◌, List, ℕ, Bool, Some, None, length, get_or, take, drop, sym, ap, subst, arith, append-nil}
use Rattle.std.specs.Prelude.{find, option_map}
use Rattle.std.proofs.lemmas.Grind.{common_steps}
use Rattle.std.proofs.lemmas.List.{drop_all, take_all}
use Rattle.service_graph.specs.declared.ways.Reached.{Reached}
use Rattle.service_graph.specs.Places.{further, leads_back}
use Rattle.service_graph.specs.Reaching.{Reaches, ways_of}
use Rattle.service_graph.proofs.Counting.{length_start}
use Rattle.service_graph.proofs.Loops.{level_on}
use Rattle.service_graph.proofs.Walks.{IsLevel, first_level, level_found, none_back}
use Rattle.service_graph.proofs.ways.way_back.Goals as goal

pub loop-count-init : goal.loop-count-init
loop-count-init c =
    let links : List (List ℕ) = c.args.links.now in
    record {
      level =
          subst (λ (ws : List (List ℕ)). IsLevel links c.args.start 0 ws c.in_ok-seen.seen.items) (sym c.in_ok-reached.ensures.ways)
          (subst (λ (bs : List Bool). IsLevel links c.args.start 0 ((c.args.start ∷ []) ∷ []) bs) (sym c.in_ok-seen.ensures) (first_level links c.args.start (length links)));
      long = ap (λ (bs : List Bool). length bs) c.in_ok-seen.ensures ∙ length_start (length links) c.args.start;
      earlier = c.in_ok-reached.ensures.earlier;
    }

pub returns-in-Some : goal.returns-in-Some
returns-in-Some c =
    let links : List (List ℕ) = c.args.links.now in
    let reached : List Reached = c.loop-count.reached.items in
    let last : ℕ = c.in-Some.last in
    let f : find (leads_back links c.args.start) (drop c.loop-count.first (ways_of reached)) ≡ Some (get_or (ways_of reached) last []) =
    subst (λ (r : List Reached). find (leads_back links c.args.start) (drop c.loop-count.first (ways_of r)) ≡ Some (get_or (ways_of r) last [])) c.as_slice.ensures.value (sym c.in-Some.ensures.value) in
    let way : c.in_ok-way_to.field-0 ≡ get_or (ways_of reached) last [] =
    c.in_ok-way_to.ensures ∙ ap (λ (r : List Reached). get_or (ways_of r) last []) c.as_slice-in-Some.ensures.value in
    ap (λ (w : List ℕ). Some w) way
    ∙ sym (level_found links c.args.start c.loop-count.count (drop c.loop-count.first (ways_of reached)) c.loop-count.seen.items c.loop-count.invariant.level (get_or (ways_of reached) last []) c.loop-count-test.true f)

pub returns : goal.returns
returns c =
    sym (none_back c.args.links.now c.args.start (λ fewer l. c.loop-count.invariant.level.none fewer (omega (arith, l, c.loop-count-test.false))))

pub loop-count-preserved : goal.loop-count-preserved
loop-count-preserved c =
    let links : List (List ℕ) = c.args.links.now in
    let reached : List Reached = c.loop-count.reached.items in
    let old : List Bool = c.loop-count.seen.items in
    let seen : List Bool = c.reach.new.seen in
    let lent : c.as_mut_slice.result.now ≡ old = c.as_mut_slice.ensures.value in
    let same : length seen ≡ length c.as_mut_slice.result.now = c.reach.auto.seen in
    let both : length seen ≡ length old = same ∙ ap (λ (bs : List Bool). length bs) lent in
    let size : length seen ≡ c.loop-count.seen.len = grind (arith, common_steps, same, lent, c.as_mut_slice.ensures.len) in
    let whole : take c.loop-count.seen.len (seen ++ drop (length seen) old) ≡ seen =
    ap (λ (bs : List Bool). take c.loop-count.seen.len (seen ++ bs)) (drop_all (length seen) old (omega (arith, both)))
    ∙ ap (take c.loop-count.seen.len) (append-nil seen) ∙ take_all c.loop-count.seen.len seen (omega (arith, size)) in
    let none : c.leading_back.result ≡ None = grind (arith, common_steps, c.in_default.is, c.in_default.not-Some) in
    let nowhere : find (leads_back links c.args.start) (drop c.loop-count.first (ways_of reached)) ≡ None =
    sym (subst (λ (r : List Reached). None ≡ find (leads_back links c.args.start) (drop c.loop-count.first (ways_of r))) c.as_slice.ensures.value
    (sym (ap (option_map (λ at. get_or (ways_of c.as_slice.result.now) at [])) none) ∙ c.leading_back.ensures.value)) in
    let end : c.len-end.result ≡ length reached = grind (arith, common_steps, c.len-end.ensures) in
    let went : Reaches old reached (further links (drop c.loop-count.first (ways_of reached))) seen c.reach.new.reached.items =
    subst (λ (bs : List Bool). Reaches bs reached (further links (drop c.loop-count.first (ways_of reached))) seen c.reach.new.reached.items) lent c.in_ok-reach.ensures in
    record {
      level =
          subst (λ (bs : List Bool). IsLevel links c.args.start (c.loop-count.count + 1) (drop c.len-end.result (ways_of c.reach.new.reached.items)) bs) (sym whole)
          (subst (λ (n : ℕ). IsLevel links c.args.start (c.loop-count.count + 1) (drop n (ways_of c.reach.new.reached.items)) seen) (sym end)
          (level_on links c.args.start c.loop-count.count c.loop-count.first old seen reached c.reach.new.reached.items c.loop-count.invariant.level nowhere went));
      long = ap (λ (bs : List Bool). length bs) whole ∙ both ∙ c.loop-count.invariant.long;
      earlier = went.earlier c.loop-count.invariant.earlier;
    }
