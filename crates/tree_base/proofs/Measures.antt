-- How deep a mapping is.
use Rattle.std.proofs.Common.{◌≡◌, ℕ, ◌+◌, List, [], ◌∷◌, map, refl, ap, ◌∙◌, rules}
use Rattle.std.specs.Map.{values_of}
use Rattle.tree_base.specs.Trees.{depth, greatest}
use Rattle.tree_base.specs.declared.tree.Tree.{Tree, the_lemmas}
use Rattle.tree_base.specs.declared.tree.Tree.TheVariants.{Map}

values_of_mapped : {K X Y : Type 0} (f : X → Y) (es : List (K × X)) → values_of (map (λ (e : K × X). (e.0, f e.1)) es) ≡ map f (values_of es)
values_of_mapped f [] = refl
values_of_mapped f (e ∷ es) = ap (λ l. f e.1 ∷ l) (values_of_mapped f es)

fold_at_map : (es : List (List ℕ × Tree)) → depth (Map es) ≡ 1 + greatest (values_of (map (λ (e : List ℕ × Tree). (e.0, depth e.1)) es))
fold_at_map es = search (rules, the_lemmas)

-- a mapping is one deeper than its deepest value
pub depth_of_map : (es : List (List ℕ × Tree)) → depth (Map es) ≡ 1 + greatest (map depth (values_of es))
depth_of_map es = fold_at_map es ∙ ap (λ l. 1 + greatest l) (values_of_mapped depth es)
