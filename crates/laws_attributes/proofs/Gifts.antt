-- What entries give whose reader gives a value or none: attributes in the entries' order, each of its entry.
use Rattle.std.proofs.Common.{◌≡◌, ◌∙◌, ℕ, Bool, true, false, cond, List, [], ◌∷◌, ◌++◌, Some, None, Ok, Err, map, refl, ap, sym, subst}
use Rattle.std.specs.Prelude.{Option, find}
use Rattle.std.specs.Option.{option_map}
use Rattle.std.specs.Str.{bytes_eq}
use Rattle.tree_base.specs.Answers.{◌>>=◌}
use Rattle.tree_base.specs.ByteOrder.{is_before}
use Rattle.tree_base.specs.Entries as entries
use Rattle.tree_base.specs.declared.Step.TheVariants.{Key}
use Rattle.tree_base.specs.declared.Tree.{Tree}
use Rattle.attribute_types.specs.Answers.{under}
use Rattle.attribute_types.specs.Values.{value_at}
use Rattle.attribute_types.specs.declared.attribute.Attribute.{Attribute}
use Rattle.attribute_types.specs.declared.attribute.Value.{Value}
use Rattle.attribute_scalars.specs.Walks.{Entries, Read, each_entry, in_byte_order}
use Rattle.attribute_values.specs.Fields.{named}
use Rattle.attribute_paths.proofs.Trees.{OfAll}
use Rattle.laws_attributes.proofs.Order.{InOrder, order_stays}
use Rattle.laws_attributes.proofs.Lookups.{Apart, own_text, same_text, turned_text}

abbrev pub name_of : Attribute → List ℕ
name_of attribute = attribute.name

abbrev pub key_of : List ℕ × Tree → List ℕ
key_of entry = entry.0

-- the entries that show attributes, each by a function of it
abbrev pub shown_by : (Attribute → Tree) → List Attribute → Entries
shown_by show attributes = map (λ attribute. (attribute.name, show attribute)) attributes

module _ (one : List ℕ → Tree → Read (Option Value)) where
  -- what stands under a name, as an attribute
  abbrev pub reads : List ℕ → Tree → Read (List Attribute)
  reads name tree = one name tree >>= λ value. Ok (named name value)

  -- what entries gave, one by one
  abbrev pub Gave : Entries → List Attribute → Type 0
  Gave [] attributes = attributes ≡ []
  Gave (e ∷ es) attributes =
      (found : Option Value) × (rest : List Attribute) × (one e.0 e.1 ≡ Ok found) × (attributes ≡ named e.0 found ++ rest) × Gave es rest

  pub gave : (es : Entries) (attributes : List Attribute) → each_entry reads es ≡ Ok attributes → Gave es attributes
  gave [] attributes e = cc
  gave (entry ∷ es) attributes e = by (one entry.0 entry.1) refl (each_entry reads es) refl (gave es) e
    where
      by : (r : Read (Option Value)) → one entry.0 entry.1 ≡ r → (s : Read (List Attribute)) → each_entry reads es ≡ s
          → ((rest : List Attribute) → each_entry reads es ≡ Ok rest → Gave es rest)
          → (under (Key entry.0) (r >>= λ value. Ok (named entry.0 value)) >>= λ found. s >>= λ more. Ok (found ++ more)) ≡ Ok attributes → Gave (entry ∷ es) attributes
      by (Err refusal) p s q more e = absurd (cc e)
      by (Ok found) p (Err refusal) q more e = absurd (cc e)
      by (Ok found) p (Ok rest) q more e = let same : named entry.0 found ++ rest ≡ attributes = cc e in (found, rest, p, sym same, more rest q)

  -- where an attribute comes from
  abbrev pub From : (List ℕ × Tree → Type 0) → Attribute → Type 0
  From P attribute = (tree : Tree) × P (attribute.name, tree) × (one attribute.name tree ≡ Ok (Some attribute.value))

  -- what holds of each entry holds of that of each attribute
  pub each_from : (P : List ℕ × Tree → Type 0) (es : Entries) (attributes : List Attribute) → OfAll P es → Gave es attributes → OfAll (From P) attributes
  each_from P [] attributes h g = subst (λ (l : List Attribute). OfAll (From P) l) (sym g) tt
  each_from P (e ∷ es) attributes h g = subst (λ (l : List Attribute). OfAll (From P) l) (sym g.3) (by g.0 g.2 (each_from P es g.1 h.1 g.4))
    where
      by : (found : Option Value) → one e.0 e.1 ≡ Ok found → OfAll (From P) g.1 → OfAll (From P) (named e.0 found ++ g.1)
      by None is rest = rest
      by (Some value) is rest = ((e.1, h.0, is), rest)

  only_names : (name : List ℕ) (attributes : List Attribute) → OfAll (From (λ e. is_before e.0 name ≡ false)) attributes → OfAll (λ a. is_before (name_of a) name ≡ false) attributes
  only_names name [] h = tt
  only_names name (a ∷ others) h = (h.0.1, only_names name others h.1)

  -- attributes of entries in order are in order
  pub gave_in_order : (es : Entries) (attributes : List Attribute) → InOrder key_of es → Gave es attributes → InOrder name_of attributes
  gave_in_order [] attributes h g = subst (λ (l : List Attribute). InOrder name_of l) (sym g) tt
  gave_in_order (e ∷ es) attributes h g = subst (λ (l : List Attribute). InOrder name_of l) (sym g.3) (by g.0 (gave_in_order es g.1 h.1 g.4))
    where
      by : (found : Option Value) → InOrder name_of g.1 → InOrder name_of (named e.0 found ++ g.1)
      by None rest = rest
      by (Some value) rest = (only_names e.0 g.1 (each_from (λ f. is_before f.0 e.0 ≡ false) es g.1 h.0 g.4), rest)

  -- what stands under a key gives the attribute of its name
  abbrev pub looked : List ℕ → Option Tree → Read (Option Value)
  looked k None = Ok None
  looked k (Some tree) = one k tree

  abbrev looked_ok : Option Value → Read (Option Value)
  looked_ok found = Ok found

  pub looked_up : (es : Entries) (attributes : List Attribute) → Apart es → Gave es attributes → (k : List ℕ) → looked k (entries.value_at es k) ≡ Ok (value_at attributes k)
  looked_up [] attributes apart g k = ap (λ (l : List Attribute). looked_ok (value_at l k)) (sym g)
  looked_up (e ∷ es) attributes apart g k =
      subst (λ (l : List Attribute). looked k (cond (bytes_eq k e.0) (Some e.1) (entries.value_at es k)) ≡ Ok (value_at l k)) (sym g.3)
      (at (bytes_eq k e.0) refl g.0 g.2 (looked_up es g.1 apart.1 g.4))
    where
      first : (found : Option Value) → bytes_eq e.0 k ≡ true → value_at g.1 k ≡ None → value_at (named e.0 found ++ g.1) k ≡ found
      first None same none = none
      first (Some value) same none = ap (λ b. option_map (λ (a : Attribute). a.value) (cond b (Some (record { name = e.0; value = value })) (find (λ (a : Attribute). bytes_eq a.name k) g.1))) same

      other : (found : Option Value) → bytes_eq e.0 k ≡ false → value_at (named e.0 found ++ g.1) k ≡ value_at g.1 k
      other None differs = refl
      other (Some value) differs = ap (λ b. option_map (λ (a : Attribute). a.value) (cond b (Some (record { name = e.0; value = value })) (find (λ (a : Attribute). bytes_eq a.name k) g.1))) differs

      at : (b : Bool) → bytes_eq k e.0 ≡ b → (found : Option Value) → one e.0 e.1 ≡ Ok found → ((k : List ℕ) → looked k (entries.value_at es k) ≡ Ok (value_at g.1 k))
          → looked k (cond b (Some e.1) (entries.value_at es k)) ≡ Ok (value_at (named e.0 found ++ g.1) k)
      at true same found is more =
          let text : k ≡ e.0 = same_text k e.0 same in
          let none : value_at g.1 e.0 ≡ None = let none_so : Ok None ≡ Ok (value_at g.1 e.0) = sym (ap (looked e.0) apart.0) ∙ more e.0 in cc none_so in
          ap (λ (t : List ℕ). one t e.1) text ∙ is
          ∙ ap (λ (o : Option Value). Ok o) (sym (first found (ap (λ (t : List ℕ). bytes_eq e.0 t) text ∙ own_text e.0) (ap (value_at g.1) text ∙ none)))
      at false differs found is more = more k ∙ ap (λ (o : Option Value). Ok o) (sym (other found (turned_text k e.0 differs)))

  -- attributes that are shown, each so that it is read
  pub shown_given : (show : Attribute → Tree) (attributes : List Attribute) → OfAll (λ a. one a.name (show a) ≡ Ok (Some a.value)) attributes
      → each_entry reads (shown_by show attributes) ≡ Ok attributes
  shown_given show [] h = refl
  shown_given show (a ∷ others) h = rw (h.0, shown_given show others h.1) refl

-- entries that show attributes in order are in order
pub shown_in_order : (show : Attribute → Tree) (attributes : List Attribute) → InOrder name_of attributes → in_byte_order (shown_by show attributes) ≡ shown_by show attributes
shown_in_order show attributes h = order_stays key_of (shown_by show attributes) (each attributes h)
  where
    names : (name : List ℕ) (l : List Attribute) → OfAll (λ a. is_before (name_of a) name ≡ false) l → OfAll (λ (e : List ℕ × Tree). is_before e.0 name ≡ false) (shown_by show l)
    names name [] h = tt
    names name (a ∷ others) h = (h.0, names name others h.1)

    each : (l : List Attribute) → InOrder name_of l → InOrder key_of (shown_by show l)
    each [] h = tt
    each (a ∷ others) h = (names a.name others h.0, each others h.1)

-- the value that an attribute is shown by
pub shown_value : (show : Attribute → Tree) (attributes : List Attribute) (k : List ℕ) (value : Value) → value_at attributes k ≡ Some value
    → entries.value_at (shown_by show attributes) k ≡ Some (show (record { name = k; value = value }))
shown_value show [] k value e = absurd (cc e)
shown_value show (a ∷ others) k value e = at (bytes_eq a.name k) refl (shown_value show others k value) e
  where
    at : (b : Bool) → bytes_eq a.name k ≡ b → (value_at others k ≡ Some value → entries.value_at (shown_by show others) k ≡ Some (show (record { name = k; value = value })))
        → option_map (λ (a : Attribute). a.value) (cond b (Some a) (find (λ (a : Attribute). bytes_eq a.name k) others)) ≡ Some value
        → cond (bytes_eq k a.name) (Some (show a)) (entries.value_at (shown_by show others) k) ≡ Some (show (record { name = k; value = value }))
    at true same more e =
        let text : a.name ≡ k = same_text a.name k same in
        let is : a.value ≡ value = cc e in
        ap (λ b. cond b (Some (show a)) (entries.value_at (shown_by show others) k)) (ap (λ (t : List ℕ). bytes_eq k t) text ∙ own_text k)
        ∙ (λ i. Some (show (record { name = text i; value = is i })))
    at false differs more e = ap (λ b. cond b (Some (show a)) (entries.value_at (shown_by show others) k)) (turned_text a.name k differs) ∙ more e

-- no attribute, nothing shown
pub shown_none : (show : Attribute → Tree) (attributes : List Attribute) (k : List ℕ) → value_at attributes k ≡ None → entries.value_at (shown_by show attributes) k ≡ None
shown_none show [] k e = refl
shown_none show (a ∷ others) k e = at (bytes_eq a.name k) refl (shown_none show others k) e
  where
    at : (b : Bool) → bytes_eq a.name k ≡ b → (value_at others k ≡ None → entries.value_at (shown_by show others) k ≡ None)
        → option_map (λ (a : Attribute). a.value) (cond b (Some a) (find (λ (a : Attribute). bytes_eq a.name k) others)) ≡ None
        → cond (bytes_eq k a.name) (Some (show a)) (entries.value_at (shown_by show others) k) ≡ None
    at true same more e = absurd (cc e)
    at false differs more e = ap (λ b. cond b (Some (show a)) (entries.value_at (shown_by show others) k)) (turned_text a.name k differs) ∙ more e
