use Rattle.std.proofs.Common.{◌≡◌, ℕ, List, [], ◌∷◌, take}
use Rattle.plan_core.specs.Index.{places_under, seen_entries}
use Rattle.plan_core.proofs.keeping.texts_under.Given as goal

abbrev pub invariant-loop-at : goal.invariant-loop-at
invariant-loop-at l = seen_entries l.entries.items ≡ places_under (λ (text : List ℕ). text ∷ []) 0 (take l.at l.texts)
