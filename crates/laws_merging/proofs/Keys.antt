-- What entries of lists are known by.
use Rattle.std.proofs.Common.{◌≡◌, ◌∙◌, Bool, true, false, List, [], ◌∷◌, map, Option, None, Some, ap, refl, sym, true≢false}
use Rattle.std.proofs.lemmas.Bool.{and_parts}
use Rattle.std.specs.List.{list_any}
use Rattle.tree_base.specs.declared.tree.Tree.{Tree, out-Tree}
use Rattle.merge_tables.specs.declared.rules.EntryKind.{EntryKind}
use Rattle.merge_rules.specs.Sameness.{same, same_items}
use Rattle.merge_rules.specs.Uniqueness.{are_one, key_in, same_keys}
use Rattle.merge_rules.proofs.Sames.{same_self, same_told}

-- what an item is known by
abbrev pub key_of : EntryKind → Tree → Option (List Tree)
key_of kind item = key_in kind (out-Tree item)

items_told : (xs us : List Tree) → same_items (map same xs) us ≡ true → xs ≡ us
items_told [] [] h = refl
items_told [] (u ∷ us) h = absurd (true≢false (sym h))
items_told (x ∷ xs) [] h = absurd (true≢false (sym h))
items_told (x ∷ xs) (u ∷ us) h =
    let p = and_parts (same x u) (same_items (map same xs) us) h in
    (λ i. same_told x u p.0 i ∷ items_told xs us p.1 i)

items_self : (xs : List Tree) → same_items (map same xs) xs ≡ true
items_self [] = refl
items_self (x ∷ xs) = rw (same_self x, items_self xs) refl

pub keys_told : (k l : Option (List Tree)) → same_keys k l ≡ true → k ≡ l
keys_told None l h = absurd (true≢false (sym h))
keys_told (Some k) None h = absurd (true≢false (sym h))
keys_told (Some k) (Some l) h = ap (λ (x : List Tree). Some x) (items_told k l h)

pub none_right : (k : Option (List Tree)) → same_keys k None ≡ false
none_right None = refl
none_right (Some k) = refl

-- a key that is the same as another one is the same as itself
pub keys_turn : (k l : Option (List Tree)) → same_keys k l ≡ true → same_keys l k ≡ true
keys_turn k l h = let e = keys_told k l h in ap (λ x. same_keys l x) e ∙ ap (λ x. same_keys x l) (sym e) ∙ h

module _ (kind : EntryKind) where
  -- items that are one have one key
  pub one_key : (x y : Tree) → are_one kind x y ≡ true → key_of kind x ≡ key_of kind y
  one_key x y h = keys_told (key_of kind x) (key_of kind y) h

  -- items of one key are one with the same
  pub same_left : (x y z : Tree) → key_of kind x ≡ key_of kind y → are_one kind x z ≡ are_one kind y z
  same_left x y z e = ap (λ k. same_keys k (key_of kind z)) e

  pub same_right : (x y z : Tree) → key_of kind x ≡ key_of kind y → are_one kind z x ≡ are_one kind z y
  same_right x y z e = ap (λ k. same_keys (key_of kind z) k) e

  pub one_turned : (x y : Tree) → are_one kind x y ≡ true → are_one kind y x ≡ true
  one_turned x y h = keys_turn (key_of kind x) (key_of kind y) h

  pub two_turned : (x y : Tree) → are_one kind x y ≡ false → are_one kind y x ≡ false
  two_turned x y h = by (are_one kind y x) refl
    where
      by : (b : Bool) → are_one kind y x ≡ b → b ≡ false
      by true is = absurd (true≢false (sym (one_turned y x is) ∙ h))
      by false is = refl

-- an item that is one with none of some
abbrev pub IsApart : EntryKind → Tree → List Tree → Type 0
IsApart kind item items = list_any (are_one kind item) items ≡ false

-- items of one key are apart from the same
pub same_apart : (kind : EntryKind) (x y : Tree) (items : List Tree) → key_of kind x ≡ key_of kind y → list_any (are_one kind x) items ≡ list_any (are_one kind y) items
same_apart kind x y [] e = refl
same_apart kind x y (z ∷ items) e = rw (same_left kind x y z e, same_apart kind x y items e) refl
