-- Rows under keys, and rows of a sequence, are read again where each of them is.
use Rattle.std.proofs.Common.{◌≡◌, ◌∙◌, ◌⊎◌, ℕ, ◌+◌, false, List, [], ◌∷◌, ◌++◌, map, Ok, Err, inl, inr, refl, ap, sym, subst}
use Rattle.tree_base.specs.Answers.{◌>>=◌}
use Rattle.tree_base.specs.ByteOrder.{is_before}
use Rattle.tree_base.specs.declared.Step.TheVariants.{Index, Key}
use Rattle.tree_base.specs.declared.tree.Tree.{Tree, out-Tree}
use Rattle.tree_base.specs.declared.tree.Tree.TheOpen.{Tree-F}
use Rattle.tree_base.specs.declared.tree.Tree.TheVariants.{Map, Seq, outs-Map, outs-Seq}
use Rattle.attribute_types.specs.Answers.{under}
use Rattle.attribute_scalars.specs.Walks.{Entries, Read, each_entry, each_item, in_byte_order, place}
use Rattle.attribute_rows.specs.Rows.{in_mapping, keyed, listed}
use Rattle.attribute_paths.proofs.Trees.{OfAll}
use Rattle.laws_attributes.proofs.Order.{InOrder, order_stays, sorted_in_order}
use Rattle.laws_attributes.proofs.Gifts.{key_of}
use Rattle.laws_attributes.proofs.ListForms.{in_order_map}

-- what a mapping's entries gave
pub mapping_read : {X : Type 0} (read : Entries → Read X) (s : Tree-F Tree) (x : X) → in_mapping read s ≡ Ok x → (es : Entries) × (read es ≡ Ok x)
mapping_read read (Tree-F.Map es) x e = (es, e)
mapping_read read Tree-F.Null x e = absurd (cc e)
mapping_read read (Tree-F.Scalar text) x e = absurd (cc e)
mapping_read read (Tree-F.Seq items) x e = absurd (cc e)
mapping_read read Tree-F.Reset x e = absurd (cc e)
mapping_read read (Tree-F.Override inner) x e = absurd (cc e)

pub mapping_again : {X : Type 0} (read : Entries → Read X) (es : Entries) (x : X) → read es ≡ Ok x → in_mapping read (out-Tree (Map es)) ≡ Ok x
mapping_again read es x e = ap (in_mapping read) (outs-Map es) ∙ e

module _ {X : Type 0} (key : X → List ℕ) (show : X → Tree) (read : List ℕ → Tree-F Tree → Read (List X)) where
  -- a row is read again under its key
  abbrev pub IsRead : X → Type 0
  IsRead x = read (key x) (out-Tree (show x)) ≡ Ok (x ∷ [])

  -- none or one row under a key, which is read again
  abbrev pub Single : List ℕ → List X → Type 0
  Single k xs = (xs ≡ []) ⊎ ((x : X) × (xs ≡ x ∷ []) × (key x ≡ k) × IsRead x)

  abbrev reads_row : List ℕ → Tree → Read (List X)
  reads_row k value = read k (out-Tree value)

  abbrev row_entry : X → List ℕ × Tree
  row_entry x = (key x, show x)

  -- rows that are read again, in order, and not before what no entry is before
  abbrev Good : Entries → List X → Type 0
  Good es xs =
      OfAll IsRead xs × InOrder key xs × ((name : List ℕ) → OfAll (λ (e : List ℕ × Tree). is_before e.0 name ≡ false) es → OfAll (λ x. is_before (key x) name ≡ false) xs)

  module _ (single : (k : List ℕ) (s : Tree-F Tree) (xs : List X) → read k s ≡ Ok xs → Single k xs) where
    one_more : (e : List ℕ × Tree) (es : Entries) (found rest : List X) → Single e.0 found → OfAll (λ (f : List ℕ × Tree). is_before f.0 e.0 ≡ false) es → Good es rest → Good (e ∷ es) (found ++ rest)
    one_more e es found rest (inl none) first good =
        subst (λ (l : List X). Good (e ∷ es) (l ++ rest)) (sym none) (good.0, good.1, λ name h. good.2 name h.1)
    one_more e es found rest (inr one) first good =
        subst (λ (l : List X). Good (e ∷ es) (l ++ rest)) (sym one.1) (
          (one.3, good.0),
          (subst (λ (k : List ℕ). OfAll (λ x. is_before (key x) k ≡ false) rest) (sym one.2) (good.2 e.0 first), good.1),
          λ name h. (ap (λ (k : List ℕ). is_before k name) one.2 ∙ h.0, good.2 name h.1),
        )

    all_good : (es : Entries) (xs : List X) → InOrder key_of es → each_entry reads_row es ≡ Ok xs → Good es xs
    all_good [] xs h e = let none : [] ≡ xs = cc e in subst (Good []) none (tt, tt, λ name h. tt)
    all_good (f ∷ es) xs h e = at (read f.0 (out-Tree f.1)) refl (each_entry reads_row es) refl (λ rest. all_good es rest h.1) e
      where
        at : (r : Read (List X)) → read f.0 (out-Tree f.1) ≡ r → (s : Read (List X)) → each_entry reads_row es ≡ s → ((rest : List X) → each_entry reads_row es ≡ Ok rest → Good es rest)
            → (under (Key f.0) r >>= λ found. s >>= λ more. Ok (found ++ more)) ≡ Ok xs → Good (f ∷ es) xs
        at (Err refusal) p s q more g = absurd (cc g)
        at (Ok found) p (Err refusal) q more g = absurd (cc g)
        at (Ok found) p (Ok rest) q more g =
            let same : found ++ rest ≡ xs = cc g in
            subst (Good (f ∷ es)) same (one_more f es found rest (single f.0 (out-Tree f.1) found p) h.0 (more rest q))

    each_again : (xs : List X) → OfAll IsRead xs → each_entry reads_row (map row_entry xs) ≡ Ok xs
    each_again [] h = refl
    each_again (x ∷ xs) h = rw (h.0, each_again xs h.1) refl

    -- rows under keys are read again
    pub keyed_again : (s : Tree-F Tree) (xs : List X) → keyed read s ≡ Ok xs → keyed read (out-Tree (Map (map row_entry xs))) ≡ Ok xs
    keyed_again (Tree-F.Map es) xs e =
        let good = all_good (in_byte_order es) xs (sorted_in_order key_of es) e in
        ap (keyed read) (outs-Map (map row_entry xs))
        ∙ ap (each_entry reads_row) (order_stays key_of (map row_entry xs) (in_order_map key key_of row_entry (λ x. refl) xs good.1))
        ∙ each_again xs good.0
    keyed_again Tree-F.Null xs e = absurd (cc e)
    keyed_again (Tree-F.Scalar text) xs e = absurd (cc e)
    keyed_again (Tree-F.Seq items) xs e = absurd (cc e)
    keyed_again Tree-F.Reset xs e = absurd (cc e)
    keyed_again (Tree-F.Override inner) xs e = absurd (cc e)

module _ {X : Type 0} (show : X → Tree) (read : Entries → Read X) (P : X → Type 0) where
  -- a row of a sequence is read again
  abbrev pub IsListed : X → Type 0
  IsListed x = in_mapping read (out-Tree (show x)) ≡ Ok x

  abbrev reads_item : Tree → Read X
  reads_item item = in_mapping read (out-Tree item)

  module _ (again : (s : Tree-F Tree) (x : X) → in_mapping read s ≡ Ok x → P x → IsListed x) where
    items_good : (items : List Tree) (n : ℕ) (xs : List X) → each_item reads_item n items ≡ Ok xs → OfAll P xs → OfAll IsListed xs
    items_good [] n xs e h = let none : [] ≡ xs = cc e in subst (OfAll IsListed) none tt
    items_good (item ∷ items) n xs e h = at (reads_item item) refl (each_item reads_item (n + 1) items) refl (λ rest. items_good items (n + 1) rest) e
      where
        at : (r : Read X) → reads_item item ≡ r → (s : Read (List X)) → each_item reads_item (n + 1) items ≡ s → ((rest : List X) → each_item reads_item (n + 1) items ≡ Ok rest → OfAll P rest → OfAll IsListed rest)
            → (under (Index (place n)) r >>= λ found. s >>= λ more. Ok (found ∷ more)) ≡ Ok xs → OfAll IsListed xs
        at (Err refusal) p s q more g = absurd (cc g)
        at (Ok found) p (Err refusal) q more g = absurd (cc g)
        at (Ok found) p (Ok rest) q more g =
            let same : found ∷ rest ≡ xs = cc g in
            let hs : OfAll P (found ∷ rest) = subst (OfAll P) (sym same) h in
            subst (OfAll IsListed) same (again (out-Tree item) found p hs.0, more rest q hs.1)

    listed_all : (xs : List X) (n : ℕ) → OfAll IsListed xs → each_item reads_item n (map show xs) ≡ Ok xs
    listed_all [] n h = refl
    listed_all (x ∷ xs) n h = rw (h.0, listed_all xs (n + 1) h.1) refl

    -- rows of a sequence are read again
    pub listed_again : (s : Tree-F Tree) (xs : List X) → listed read s ≡ Ok xs → OfAll P xs → listed read (out-Tree (Seq (map show xs))) ≡ Ok xs
    listed_again (Tree-F.Seq items) xs e h = ap (listed read) (outs-Seq (map show xs)) ∙ listed_all xs 0 (items_good items 0 xs e h)
    listed_again Tree-F.Null xs e h = absurd (cc e)
    listed_again (Tree-F.Scalar text) xs e h = absurd (cc e)
    listed_again (Tree-F.Map es) xs e h = absurd (cc e)
    listed_again Tree-F.Reset xs e h = absurd (cc e)
    listed_again (Tree-F.Override inner) xs e h = absurd (cc e)
