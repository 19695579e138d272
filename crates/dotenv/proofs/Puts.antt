-- What a look-up finds after a put, and what a value sees then.
use Rattle.std.proofs.Common.{◌≡◌, ◌∙◌, ℕ, Bool, true, false, cond, List, [], ◌∷◌, Option, Some, None, refl, sym, ap}
use Rattle.std.specs.Cmp.{IsEquivalence}
use Rattle.std.specs.Cmp.Lexicographic.{nat_list_eq_equiv}
use Rattle.std.specs.Map.{lookup}
use Rattle.std.specs.Str.{bytes_eq}
use Rattle.tree_base.specs.Entries.{insert_entry, value_at, with_entry}
use Rattle.dotenv.specs.Variables.{Entries, or_else, Sees, beneath}

module _ {K V : Type 0} {eq : K → K → Bool} (laws : IsEquivalence eq) where
  same_place : (k v : K) (x y : Bool) (p q : V) (rest : Option V) → x ≡ y → cond x (Some p) rest ≡ cond y (Some p) (cond x (Some q) rest)
  same_place k v true y p q rest e = ap (λ b. cond b (Some p) (cond true (Some q) rest)) e
  same_place k v false y p q rest e = ap (λ b. cond b (Some p) (cond false (Some q) rest)) e

  other_place : (x y : Bool) (p q : V) (rest : Option V) → (x ≡ true → y ≡ false) → cond y (Some q) (cond x (Some p) rest) ≡ cond x (Some p) (cond y (Some q) rest)
  other_place true true p q rest apart = let f = apart refl in absurd cc
  other_place true false p q rest apart = refl
  other_place false y p q rest apart = refl

  -- what stands under a key after a put
  pub lookup_put : (es : List (K × V)) (k : K) (v : V) (name : K) → lookup (eq name) (insert_entry eq es k v) ≡ cond (eq name k) (Some v) (lookup (eq name) es)
  lookup_put [] k v name = refl
  lookup_put (e ∷ es) k v name = by (eq k e.0) refl (lookup_put es k v name)
    where
      by : (b : Bool) → eq k e.0 ≡ b → lookup (eq name) (insert_entry eq es k v) ≡ cond (eq name k) (Some v) (lookup (eq name) es)
          → lookup (eq name) (insert_entry eq (e ∷ es) k v) ≡ cond (eq name k) (Some v) (lookup (eq name) (e ∷ es))
      by true p more =
          let x : eq name e.0 ≡ eq name k = laws.symm name e.0 ∙ sym (laws.congr k e.0 name p) ∙ laws.symm k name in
          rw p (same_place k k (eq name e.0) (eq name k) v e.1 (lookup (eq name) es) x)
      by false p more =
          rw p (ap (cond (eq name e.0) (Some e.1)) more ∙ other_place (eq name k) (eq name e.0) v e.1 (lookup (eq name) es) (λ h. laws.congr name k e.0 h ∙ p))

-- the value of a variable after a put
pub value_put : (es : Entries) (key text name : List ℕ) → value_at (with_entry es key text) name ≡ cond (bytes_eq name key) (Some text) (value_at es name)
value_put es key text name = lookup_put nat_list_eq_equiv es key text name

-- the variable that was put
pub value_put_same : (es : Entries) (key text : List ℕ) → value_at (with_entry es key text) key ≡ Some text
value_put_same es key text = value_put es key text key ∙ ap (λ b. cond b (Some text) (value_at es key)) (nat_list_eq_equiv.refl key)

-- one variable under two equal names
same_name : (es : Entries) (name key : List ℕ) → bytes_eq name key ≡ true → value_at es name ≡ value_at es key
same_name es name key e = (λ i. lookup (λ z. nat_list_eq_equiv.congr name key z e i) es)

module _ (outer env seen : Entries) (key text : List ℕ) (sees : Sees outer env seen) where
  put_beneath : (found : Option (List ℕ)) → value_at outer key ≡ found → (name : List ℕ) (b : Bool) → bytes_eq name key ≡ b
      → value_at (beneath found seen key text) name ≡ or_else (value_at outer name) (cond b (Some text) (value_at env name))
  put_beneath (Some other) h name true e =
      let there : value_at outer name ≡ Some other = same_name outer name key e ∙ h in
      sees name ∙ ap (λ o. or_else o (value_at env name)) there ∙ ap (λ o. or_else o (Some text)) (sym there)
  put_beneath (Some other) h name false e = sees name
  put_beneath None h name true e =
      let there : value_at outer name ≡ None = same_name outer name key e ∙ h in
      value_put seen key text name ∙ ap (λ b. cond b (Some text) (value_at seen name)) e ∙ ap (λ o. or_else o (Some text)) (sym there)
  put_beneath None h name false e = value_put seen key text name ∙ ap (λ b. cond b (Some text) (value_at seen name)) e ∙ sees name

  -- what is seen after a put
  pub put_sees : Sees outer (with_entry env key text) (beneath (value_at outer key) seen key text)
  put_sees name =
      put_beneath (value_at outer key) refl name (bytes_eq name key) refl ∙ ap (or_else (value_at outer name)) (sym (value_put env key text name))
