-- What holds of a tree where it holds of its parts holds of every tree.
use Rattle.std.proofs.Common.{◌≡◌, ℕ, List, [], ◌∷◌, map, subst, sym}
use Rattle.tree_base.specs.declared.tree.Tree.{Tree, roll-Tree}
use Rattle.tree_base.specs.declared.tree.Tree.TheFolds.{ind-Tree, map-Tree}
use Rattle.tree_base.specs.declared.tree.Tree.TheOpen.{Tree-F}
use Rattle.tree_base.specs.declared.tree.Tree.TheVariants.{Map, Null, Override, Reset, Scalar, Seq, rolls-Map, rolls-Null, rolls-Override, rolls-Reset, rolls-Scalar, rolls-Seq}

-- a fact on each
abbrev pub OfAll : {X : Type 0} → (X → Type 0) → List X → Type 0
OfAll P [] = Unit {0}
OfAll P (x ∷ xs) = P x × OfAll P xs

module _ (P : Tree → Type 0) (of_null : P Null) (of_scalar : (text : List ℕ) → P (Scalar text)) (of_map : (entries : List (List ℕ × Tree)) → OfAll (λ (e : List ℕ × Tree). P e.1) entries → P (Map entries)) (of_seq : (items : List Tree) → OfAll P items → P (Seq items)) (of_reset : P Reset) (of_override : (inner : Tree) → P inner → P (Override inner)) where
  -- trees, each with the fact
  abbrev Known : Type 0
  Known = (t : Tree) × P t

  known_items : (xs : List Known) → OfAll P (map (λ (x : Known). x.0) xs)
  known_items [] = tt
  known_items (x ∷ xs) = (x.1, known_items xs)

  known_entries : (es : List (List ℕ × Known)) → OfAll (λ (e : List ℕ × Tree). P e.1) (map (λ (e : List ℕ × Known). (e.0, e.1.0)) es)
  known_entries [] = tt
  known_entries (e ∷ es) = (e.1.1, known_entries es)

  by_parts : (y : Tree-F Known) → P (roll-Tree (map-Tree Known Tree (λ (x : Known). x.0) y))
  by_parts Tree-F.Null = subst P (sym rolls-Null) of_null
  by_parts (Tree-F.Scalar text) = subst P (sym (rolls-Scalar text)) (of_scalar text)
  by_parts (Tree-F.Map es) = let entries : List (List ℕ × Tree) = map (λ (e : List ℕ × Known). (e.0, e.1.0)) es in subst P (sym (rolls-Map entries)) (of_map entries (known_entries es))
  by_parts (Tree-F.Seq xs) = let items : List Tree = map (λ (x : Known). x.0) xs in subst P (sym (rolls-Seq items)) (of_seq items (known_items xs))
  by_parts Tree-F.Reset = subst P (sym rolls-Reset) of_reset
  by_parts (Tree-F.Override x) = subst P (sym (rolls-Override x.0)) (of_override x.0 x.1)

  pub of_every : (tree : Tree) → P tree
  of_every = ind-Tree P (λ x y is. subst (λ (z : Tree-F Tree). P (roll-Tree z)) is (by_parts y))
