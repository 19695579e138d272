-- What holds of a node where it holds of its parts holds of every node.
use Rattle.std.proofs.Common.{ℕ, zero, suc, ◌<◌, ◌≤◌, List, [], ◌∷◌, map, ap, arith}
use Rattle.std.specs.Str.{encode_utf8_all}
use Rattle.project_print.specs.declared.node.Node.{Node}
use Rattle.project_print.specs.declared.node.Node.TheVariants.{Map, Null, Seq, Text, Word}
use Rattle.project_print.specs.Scalars.{doubled}
use Rattle.tree_base.specs.Trees.{depth, greatest}
use Rattle.tree_base.specs.declared.tree.Tree.{Tree}
use Rattle.laws_yaml.proofs.Sizes.{map_sizes, null_sizes, scalar_sizes, seq_sizes}
use Rattle.laws_yaml.proofs.Layers.{of_each, spelled_entry, spelled_map, spelled_null, spelled_seq, spelled_text, spelled_word}
use Rattle.laws_yaml.specs.Readable.{spelled_by}

-- every tree that is spelled has a level
pub some_level : (node : Node) → 0 < depth (spelled_by node)
some_level =
    of_each (λ n. 0 < depth (spelled_by n))
    (let sizes = null_sizes in let same = ap depth spelled_null in omega (arith, sizes.levels, same))
    (λ text. let sizes = scalar_sizes (encode_utf8_all text) in let same = ap depth (spelled_word text) in omega (arith, sizes.levels, same))
    (λ text. let sizes = scalar_sizes (encode_utf8_all (doubled text)) in let same = ap depth (spelled_text text) in omega (arith, sizes.levels, same))
    (λ es. let sizes = map_sizes (map spelled_entry es) in let same = ap depth (spelled_map es) in omega (arith, sizes.levels, same))
    (λ xs. let sizes = seq_sizes (map spelled_by xs) in let same = ap depth (spelled_seq xs) in omega (arith, sizes.levels, same))

-- a fact on each
abbrev pub OfAll : {X : Type 0} → (X → Type 0) → List X → Type 0
OfAll P [] = Unit {0}
OfAll P (x ∷ xs) = P x × OfAll P xs

module _ (P : Node → Type 0) (of_null : P Null) (of_word : (text : List ℕ) → P (Word text)) (of_text : (text : List ℕ) → P (Text text)) (of_map : (entries : List (List ℕ × Node)) → OfAll (λ (e : List ℕ × Node). P e.1) entries → P (Map entries)) (of_seq : (items : List Node) → OfAll P items → P (Seq items)) where
  each_item : (levels : ℕ) → ((n : Node) → depth (spelled_by n) ≤ levels → P n) → (xs : List Node) → greatest (map depth (map spelled_by xs)) ≤ levels → OfAll P xs
  each_item levels of [] deep = tt
  each_item levels of (x ∷ xs) deep = (of x (omega (arith, deep)), each_item levels of xs (omega (arith, deep)))

  each_entry : (levels : ℕ) → ((n : Node) → depth (spelled_by n) ≤ levels → P n) → (es : List (List ℕ × Node)) → greatest (map (λ (pair : List ℕ × Tree). depth pair.1) (map spelled_entry es)) ≤ levels → OfAll (λ (e : List ℕ × Node). P e.1) es
  each_entry levels of [] deep = tt
  each_entry levels of (e ∷ es) deep = (of e.1 (omega (arith, deep)), each_entry levels of es (omega (arith, deep)))

  of_depth : (levels : ℕ) (node : Node) → depth (spelled_by node) ≤ levels → P node
  of_depth zero node deep = let some = some_level node in absurd (omega (arith, some, deep))
  of_depth (suc levels) node deep =
      of_each (λ n. depth (spelled_by n) ≤ suc levels → P n) (λ d. of_null) (λ text d. of_word text) (λ text d. of_text text)
      (λ es d. let sizes = map_sizes (map spelled_entry es) in let same = ap depth (spelled_map es) in of_map es (each_entry levels (of_depth levels) es (omega (arith, d, sizes.levels, same))))
      (λ xs d. let sizes = seq_sizes (map spelled_by xs) in let same = ap depth (spelled_seq xs) in of_seq xs (each_item levels (of_depth levels) xs (omega (arith, d, sizes.levels, same))))
      node deep

  pub of_every : (node : Node) → P node
  of_every node = of_depth (depth (spelled_by node)) node (omega arith)
