-- What is taken out of the first place stood before the others.
use Rattle.std.proofs.Common.{◌≡◌, ◌<◌, Bool, true, false, List, [], ◌∷◌, Some, None, length, slice_get, refl, sym, ◌∙◌, arith}
use Rattle.std.specs.Prelude.{◌↔◌, IsTrue}
use Rattle.std.specs.List.{remove}
use Rattle.memory_engine.proofs.ticking.take_first.Goals as goal

not_empty : {X : Type 0} (xs : List X) (empty : Bool) → (IsTrue empty ↔ (xs ≡ [])) → empty ≡ false → 0 < length xs
not_empty [] empty means is = let clash : false ≡ true = sym is ∙ means.1 refl in absurd (cc clash)
not_empty (x ∷ xs) empty means is = omega arith

first_removed : {X : Type 0} (xs ys : List X) (x : X) → slice_get xs 0 ≡ Some x → ys ≡ remove xs 0 → xs ≡ x ∷ ys
first_removed [] ys x at rest = let clash : None ≡ Some x = at in cc
first_removed (z ∷ zs) ys x at rest = let first : Some z ≡ Some x = at in let same : z ≡ x = cc in rw (same, rest) refl

pub remove-requires : goal.remove-requires
remove-requires c = not_empty c.args.script.now c.is_empty.result c.is_empty.ensures c.if-is_empty.false

pub returns : goal.returns
returns c = first_removed c.args.script.now c.remove.new.self c.remove.result c.remove.ensures.item c.remove.ensures.rest
