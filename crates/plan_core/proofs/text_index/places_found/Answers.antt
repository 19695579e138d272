-- A sort and a removal of repeats keep each number.
use Rattle.std.proofs.Common.{ℕ, List, sym, subst}
use Rattle.std.proofs.lemmas.List.Filters.{dedup_is}
use Rattle.std.proofs.lemmas.List.Kept.{Contains-dedup_nat}
use Rattle.std.proofs.lemmas.List.Sorted.{Contains-permutation}
use Rattle.std.proofs.lemmas.Map.Keys.{IsStrictlyIncreasing-dedup}
use Rattle.run_model.specs.EngineRules.{Among}
use Rattle.run_model.proofs.DistinctLists.{among_flat_map}
use Rattle.plan_core.specs.Index.{numbers_under, seen_texts}
use Rattle.plan_core.proofs.Rising.{among_contains, contains_among}
use Rattle.plan_core.proofs.text_index.places_found.Goals as goal

pub returns-clause-rises : goal.returns-clause-rises
returns-clause-rises c =
    let is = dedup_is _ _ _ c.dedup.ensures.filtered in
    rw is (IsStrictlyIncreasing-dedup _ c.sort_unstable.ensures.sorted)

pub returns-clause-holds : goal.returns-clause-holds
returns-clause-holds c = λ text place asked found.
    let is = dedup_is _ _ _ c.dedup.ensures.filtered in
    let moved = c.sort_unstable.ensures.permutation in
    let there = subst (λ (numbers : List ℕ). Among numbers place) (sym c.in_ok-places.ensures)
    (among_flat_map (numbers_under c.args.index.now) (seen_texts c.args.texts.now) text place asked found) in
    among_contains _ place (rw is (Contains-dedup_nat _ place (Contains-permutation _ _ place moved (contains_among _ place there))))
