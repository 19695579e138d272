-- Puts of what stands there, and the names of a mapping, each of which stands there.
use Rattle.std.proofs.Common.{◌≡◌, ◌∙◌, ℕ, Bool, true, false, cond, List, [], ◌∷◌, None, Some, refl, sym, ap}
use Rattle.std.specs.Cmp.Lexicographic.{nat_list_eq_equiv}
use Rattle.std.specs.List.{AllByRecursion}
use Rattle.std.specs.Map.{keys_of}
use Rattle.std.specs.Str.{bytes_eq}
use Rattle.file_paths.specs.Resolving.{Entries}
use Rattle.loaded_files.specs.Fields.{names_of}
use Rattle.tree_base.specs.ByteOrder.{by_key, is_before, placed}
use Rattle.tree_base.specs.Entries.{value_at, with_entry, without_entry}
use Rattle.tree_base.specs.declared.Tree.{Tree}

-- a put of what stands there changes nothing, and neither does taking out what doesn't
pub put_same : {V : Type 0} (es : List (List ℕ × V)) (k : List ℕ) (v : V) → value_at es k ≡ Some v → with_entry es k v ≡ es
put_same [] k v h = absurd cc
put_same {V} (e ∷ es) k v h = by (put_same es k v) (bytes_eq k e.0) refl h
  where
    by : (value_at es k ≡ Some v → with_entry es k v ≡ es) → (b : Bool) → bytes_eq k e.0 ≡ b → cond b (Some e.1) (value_at es k) ≡ Some v → with_entry (e ∷ es) k v ≡ e ∷ es
    by rest true p q = rw p (let same : e.1 ≡ v = cc in ap (λ (w : V). (e.0, w) ∷ es) (sym same))
    by rest false p q = rw p (ap (λ (l : List (List ℕ × V)). e ∷ l) (rest q))

pub none_out : {V : Type 0} (es : List (List ℕ × V)) (k : List ℕ) → value_at es k ≡ None → without_entry es k ≡ es
none_out [] k h = refl
none_out {V} (e ∷ es) k h = by (none_out es k) (bytes_eq k e.0) refl h
  where
    by : (value_at es k ≡ None → without_entry es k ≡ es) → (b : Bool) → bytes_eq k e.0 ≡ b → cond b (Some e.1) (value_at es k) ≡ None → without_entry (e ∷ es) k ≡ e ∷ es
    by rest true p q = absurd cc
    by rest false p q = rw p (ap (λ (l : List (List ℕ × V)). e ∷ l) (rest q))

-- each name of a mapping has a value, also in byte order
abbrev pub Stands : Entries → List ℕ → Type 0
Stands es name = (tree : Tree) × (value_at es name ≡ Some tree)

under_first : (e : List ℕ × Tree) (es : Entries) (name : List ℕ) → Stands es name → Stands (e ∷ es) name
under_first e es name s = by (bytes_eq name e.0) refl
  where
    by : (b : Bool) → bytes_eq name e.0 ≡ b → Stands (e ∷ es) name
    by true p = (e.1, ap (λ (b : Bool). cond b (Some e.1) (value_at es name)) p)
    by false p = (s.0, ap (λ (b : Bool). cond b (Some e.1) (value_at es name)) p ∙ s.1)

all_under : (e : List ℕ × Tree) (es : Entries) (names : List (List ℕ)) → AllByRecursion (Stands es) names → AllByRecursion (Stands (e ∷ es)) names
all_under e es [] a = tt
all_under e es (name ∷ names) a = (under_first e es name a.0, all_under e es names a.1)

pub all_stand : (es : Entries) → AllByRecursion (Stands es) (keys_of es)
all_stand [] = tt
all_stand (e ∷ es) = ((e.1, ap (λ (b : Bool). cond b (Some e.1) (value_at es e.0)) (nat_list_eq_equiv.refl e.0)), all_under e es (keys_of es) (all_stand es))

all_placed : (P : List ℕ → Type 0) (x : List ℕ) (ys : List (List ℕ)) → P x → AllByRecursion P ys → AllByRecursion P (placed (λ name. name) x ys)
all_placed P x [] p a = (p, a)
all_placed P x (y ∷ ys) p a = by (all_placed P x ys p a.1) (is_before y x)
  where
    by : AllByRecursion P (placed (λ name. name) x ys) → (b : Bool) → AllByRecursion P (cond b (y ∷ placed (λ name. name) x ys) (x ∷ y ∷ ys))
    by rest true = (a.0, rest)
    by rest false = (p, a)

pub all_ordered : (P : List ℕ → Type 0) (xs : List (List ℕ)) → AllByRecursion P xs → AllByRecursion P (by_key (λ name. name) xs)
all_ordered P [] a = tt
all_ordered P (x ∷ xs) a = all_placed P x (by_key (λ name. name) xs) a.0 (all_ordered P xs a.1)

-- each name of a mapping, in byte order, stands there
pub names_stand : (es : Entries) → AllByRecursion (Stands es) (names_of es)
names_stand es = all_ordered (Stands es) (keys_of es) (all_stand es)
