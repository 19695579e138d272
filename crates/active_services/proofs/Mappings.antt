-- A mapping as a tree, and an entry put to one.
use Rattle.std.proofs.Common.{◌≡◌, ◌∙◌, ℕ, Bool, true, false, cond, List, [], ◌∷◌, None, Some, refl, ap, sym}
use Rattle.std.specs.Cmp.Lexicographic.{nat_list_eq_equiv}
use Rattle.std.specs.Str.{bytes_eq}
use Rattle.active_services.specs.Profiles.{Entries}
use Rattle.tree_base.specs.Entries.{value_at, with_entry}
use Rattle.tree_base.specs.declared.tree.Tree.{Tree, out-Tree, roll-Tree, roll-out-Tree}
use Rattle.tree_base.specs.declared.tree.Tree.TheOpen.{Tree-F}
use Rattle.tree_base.specs.declared.tree.Tree.TheVariants.{Map, rolls-Map}

-- a tree that opens to a mapping is that mapping
pub map_out : (tree : Tree) (entries : Entries) → out-Tree tree ≡ Tree-F.Map entries → tree ≡ Map entries
map_out tree entries is = sym (roll-out-Tree tree) ∙ ap roll-Tree is ∙ rolls-Map entries

-- the value of a key that was put
pub put_there : (entries : Entries) (key : List ℕ) (value : Tree) → value_at (with_entry entries key value) key ≡ Some value
put_there [] key value = ap (λ b. cond b (Some value) None) (nat_list_eq_equiv.refl key)
put_there (e ∷ entries) key value = by (bytes_eq key e.0) refl (put_there entries key value)
  where
    by : (same : Bool) → bytes_eq key e.0 ≡ same → value_at (with_entry entries key value) key ≡ Some value → value_at (cond same ((e.0, value) ∷ entries) (e ∷ with_entry entries key value)) key ≡ Some value
    by true is rest = rw is refl
    by false is rest = rw is rest

-- a value that is put where it stands
pub put_same : (entries : Entries) (key : List ℕ) (value : Tree) → value_at entries key ≡ Some value → with_entry entries key value ≡ entries
put_same [] key value there = absurd (cc there)
put_same (e ∷ entries) key value there = by (bytes_eq key e.0) (put_same entries key value) there
  where
    by : (same : Bool) → (value_at entries key ≡ Some value → with_entry entries key value ≡ entries) → cond same (Some e.1) (value_at entries key) ≡ Some value → cond same ((e.0, value) ∷ entries) (e ∷ with_entry entries key value) ≡ e ∷ entries
    by true rest there = let same : e.1 ≡ value = cc there in λ i. (e.0, sym same i) ∷ entries
    by false rest there = ap (λ l. e ∷ l) (rest there)
