-- What stands under a key of entries in byte order, and of distinct keys.
use Rattle.std.proofs.Common.{◌≡◌, ◌∙◌, ℕ, Bool, true, false, cond, List, [], ◌∷◌, Some, None, refl, ap, sym}
use Rattle.std.specs.Str.{bytes_eq}
use Rattle.std.specs.Cmp.Lexicographic.{slice_cmp}
use Rattle.std.specs.Ordering.{is_lt, is_eq, nat_cmp}
use Rattle.std.proofs.lemmas.Map.Text.{is_eq-slice_cmp}
use Rattle.std.proofs.lemmas.Slice.Eq.{bytes_eq-Decides}
use Rattle.std.specs.declared.cmp.Ordering.{Ordering}
use Rattle.std.specs.declared.cmp.Ordering.TheVariants.{Less, Equal, Greater}
use Rattle.tree_base.specs.ByteOrder.{by_key, is_before, placed}
use Rattle.tree_base.specs.Entries.{value_at}

-- a text before another isn't that one
pub before_differs : (x y : List ℕ) → is_before x y ≡ true → bytes_eq x y ≡ false
before_differs x y e = sym (is_eq-slice_cmp x y) ∙ at (slice_cmp nat_cmp x y) e
  where
    at : (o : Ordering) → is_lt o ≡ true → is_eq o ≡ false
    at Less f = refl
    at Equal f = absurd (cc f)
    at Greater f = absurd (cc f)

-- the same text, by its test
pub same_text : (x y : List ℕ) → bytes_eq x y ≡ true → x ≡ y
same_text x y e = (bytes_eq-Decides x y).0 e

pub own_text : (x : List ℕ) → bytes_eq x x ≡ true
own_text x = (bytes_eq-Decides x x).1 refl

pub turned_text : (x y : List ℕ) → bytes_eq x y ≡ false → bytes_eq y x ≡ false
turned_text x y e = at (bytes_eq y x) refl
  where
    at : (b : Bool) → bytes_eq y x ≡ b → bytes_eq y x ≡ false
    at true f = let bad : true ≡ false = sym ((bytes_eq-Decides x y).1 (sym (same_text y x f))) ∙ e in absurd (cc bad)
    at false f = f

module _ {V : Type 0} where
  abbrev key_of : List ℕ × V → List ℕ
  key_of entry = entry.0

  placed_value : (e : List ℕ × V) (es : List (List ℕ × V)) (k : List ℕ) → value_at (placed key_of e es) k ≡ value_at (e ∷ es) k
  placed_value e [] k = refl
  placed_value e (f ∷ fs) k = at (is_before f.0 e.0) refl (placed_value e fs k)
    where
      other : (b c : Bool) → bytes_eq k f.0 ≡ b → bytes_eq k e.0 ≡ c → is_before f.0 e.0 ≡ true
          → cond b (Some f.1) (cond c (Some e.1) (value_at fs k)) ≡ cond c (Some e.1) (cond b (Some f.1) (value_at fs k))
      other true true p q before =
          let bad : true ≡ false = sym ((bytes_eq-Decides f.0 e.0).1 (sym (same_text k f.0 p) ∙ same_text k e.0 q)) ∙ before_differs f.0 e.0 before in absurd (cc bad)
      other true false p q before = refl
      other false c p q before = refl

      at : (b : Bool) → is_before f.0 e.0 ≡ b → value_at (placed key_of e fs) k ≡ value_at (e ∷ fs) k
          → value_at (cond b (f ∷ placed key_of e fs) (e ∷ f ∷ fs)) k ≡ value_at (e ∷ f ∷ fs) k
      at true before rest = ap (cond (bytes_eq k f.0) (Some f.1)) rest ∙ other (bytes_eq k f.0) (bytes_eq k e.0) refl refl before
      at false before rest = refl

  -- the first value of a key stays the first
  pub sorted_value : (es : List (List ℕ × V)) (k : List ℕ) → value_at (by_key key_of es) k ≡ value_at es k
  sorted_value [] k = refl
  sorted_value (e ∷ es) k = placed_value e (by_key key_of es) k ∙ ap (cond (bytes_eq k e.0) (Some e.1)) (sorted_value es k)

  -- no key stands twice
  abbrev pub Apart : List (List ℕ × V) → Type 0
  Apart [] = Unit {0}
  Apart (e ∷ es) = (value_at es e.0 ≡ None) × Apart es

  pub placed_apart : (e : List ℕ × V) (es : List (List ℕ × V)) → value_at es e.0 ≡ None → Apart es → Apart (placed key_of e es)
  placed_apart e [] new h = (refl, tt)
  placed_apart e (f ∷ fs) new h = at (is_before f.0 e.0) (bytes_eq e.0 f.0) refl (λ rest. placed_apart e fs rest h.1) new
    where
      at : (b c : Bool) → bytes_eq e.0 f.0 ≡ c → (value_at fs e.0 ≡ None → Apart (placed key_of e fs)) → cond c (Some f.1) (value_at fs e.0) ≡ None
          → Apart (cond b (f ∷ placed key_of e fs) (e ∷ f ∷ fs))
      at b true same more none = absurd (cc none)
      at true false same more none = (placed_value e fs f.0 ∙ ap (λ t. cond t (Some e.1) (value_at fs f.0)) (turned_text e.0 f.0 same) ∙ h.0, more none)
      at false false same more none = (ap (λ t. cond t (Some f.1) (value_at fs e.0)) same ∙ none, h)

  -- nor when they are sorted
  pub sorted_apart : (es : List (List ℕ × V)) → Apart es → Apart (by_key key_of es)
  sorted_apart [] h = tt
  sorted_apart (e ∷ es) h = placed_apart e (by_key key_of es) (sorted_value es e.0 ∙ h.0) (sorted_apart es h.1)
