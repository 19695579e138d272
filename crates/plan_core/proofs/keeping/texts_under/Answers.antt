-- A text more.
use Rattle.std.proofs.Common.{ℕ, List, [], ◌∷◌}
use Rattle.plan_core.proofs.Index.{places_turn}
use Rattle.plan_core.proofs.keeping.texts_under.Goals as goal

pub loop-at-preserved : goal.loop-at-preserved
loop-at-preserved c =
    places_turn (λ (text : List ℕ). text ∷ []) c.args.texts.now c.loop-at.at c.loop-at.entries.items _ c.loop-at.invariant c.in_ok-push_text.ensures
