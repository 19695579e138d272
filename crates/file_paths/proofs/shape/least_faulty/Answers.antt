use Rattle.std.proofs.Common.{◌≡◌, ◌∙◌, [], ◌∷◌, ◌+◌, ◌-◌, ◌<◌, ℕ, zero, suc, List, length, slice_get, None, arith, ap, sym, drop}
use Rattle.std.specs.Prelude.{filter}
use Rattle.attribute_paths.proofs.Walks.{drop_next}
use Rattle.file_paths.specs.Resolving.{Entries}
use Rattle.file_paths.specs.Shapes.{is_faulty}
use Rattle.tree_base.specs.ByteOrder.{least_by}
use Rattle.tree_base.specs.declared.Tree.{Tree}
use Rattle.file_paths.proofs.shape.least_faulty.Goals as goal

pub loop-left-preserved-in-Some : goal.loop-left-preserved-in-Some
loop-left-preserved-in-Some c =
    let all = c.args.services.now in
    let left = c.loop-left.left in
    let entry : List ℕ × Tree = (c.in-Some.name.now, c.in-Some.service.now) in
    let up : left - 1 + 1 ≡ left = omega arith in
    let next : drop (left - 1) all ≡ entry ∷ drop left all = drop_next all (left - 1) entry (sym c.in-Some.ensures) ∙ ap (λ (at : ℕ). entry ∷ drop at all) up in
    record {
      within = omega arith;
      least = c.lesser_faulty-least.ensures (drop left all) c.loop-left.invariant.least ∙ ap (λ (es : Entries). least_by (λ (e : List ℕ × Tree). e.0) (filter is_faulty es)) (sym next);
    }

-- a place within a list has an item
missed : {X : Type 0} (xs : List X) (i : ℕ) → None ≡ slice_get xs i → i < length xs → ⊥
missed [] i e h = omega arith
missed (x ∷ xs) zero e h = cc
missed (x ∷ xs) (suc i) e h = missed xs i e (omega arith)

pub loop-left-preserved : goal.loop-left-preserved
loop-left-preserved c = absurd (missed c.args.services.now (c.loop-left.left - 1) c.in_default.ensures (omega arith))
