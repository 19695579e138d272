-- One turn more of a loop that puts the wanted actions of a row last.
use Rattle.std.proofs.Common.{◌≡◌, ℕ, zero, suc, ◌+◌, Bool, List, [], ◌∷◌, ◌++◌, map, sym, ap, ◌∙◌, append_assoc, add-one, add-zero, zero-add, arith}
use Rattle.std.specs.Prelude.{filter, flat_map}
use Rattle.std.proofs.lemmas.List.{append-nil, map-append}
use Rattle.std.proofs.lemmas.List.Elements.{filter-append}
use Rattle.std.proofs.lemmas.Grind.{flat_map-append}
use Rattle.run_model.specs.Numbers.{numbers_from}

suc_more : (i n : ℕ) → numbers_from i (suc n) ≡ numbers_from i n ++ (i + n) ∷ []
suc_more i zero = ap (λ (k : ℕ). k ∷ []) (sym (add-zero i))
suc_more i (suc n) =
    let next : i + 1 + n ≡ i + suc n = omega arith in
    ap (λ (ks : List ℕ). i ∷ ks) (suc_more (i + 1) n) ∙ ap (λ (k : ℕ). i ∷ (numbers_from (i + 1) n ++ k ∷ [])) next

-- the numbers from 0 on, with one more
pub numbers_more : (n : ℕ) → numbers_from 0 (n + 1) ≡ numbers_from 0 n ++ n ∷ []
numbers_more n = ap (numbers_from 0) (add-one n) ∙ suc_more 0 n ∙ ap (λ (k : ℕ). numbers_from 0 n ++ k ∷ []) (zero-add n)

module _ {X : Type 0} (p : X → Bool) (before : List X) where
  more : (xs ys all : List X) → all ≡ xs ++ ys → (before ++ filter p xs) ++ filter p ys ≡ before ++ filter p all
  more xs ys all e =
      append_assoc before (filter p xs) (filter p ys) ∙ ap (λ (zs : List X). before ++ zs) (sym (filter-append p xs ys) ∙ ap (filter p) (sym e))

  -- a row of actions, one for each number
  pub row_turn : (f : ℕ → X) (n : ℕ) (kinds after : List X) (x : X) → kinds ≡ before ++ filter p (map f (numbers_from 0 n))
      → after ≡ kinds ++ filter p (x ∷ []) → x ≡ f n → after ≡ before ++ filter p (map f (numbers_from 0 (n + 1)))
  row_turn f n kinds after x was pushed same =
      pushed ∙ ap (λ (ks : List X). ks ++ filter p (x ∷ [])) was
      ∙ ap (λ (y : X). (before ++ filter p (map f (numbers_from 0 n))) ++ filter p (y ∷ [])) same
      ∙ more (map f (numbers_from 0 n)) (f n ∷ []) (map f (numbers_from 0 (n + 1))) (ap (map f) (numbers_more n) ∙ map-append f (numbers_from 0 n) (n ∷ []))

  -- a row of lists of actions, one for each item of a list
  pub lists_turn : {A : Type 0} (g : A → List X) (items : List A) (a : A) (all : List A) (kinds after ys : List X) → kinds ≡ before ++ filter p (flat_map g items)
      → after ≡ kinds ++ filter p ys → ys ≡ g a → all ≡ items ++ a ∷ [] → after ≡ before ++ filter p (flat_map g all)
  lists_turn {A} g items a all kinds after ys was pushed same next =
      pushed ∙ ap (λ (ks : List X). ks ++ filter p ys) was ∙ ap (λ (zs : List X). (before ++ filter p (flat_map g items)) ++ filter p zs) same
      ∙ more (flat_map g items) (g a) (flat_map g all)
      (ap (flat_map g) next ∙ flat_map-append g items (a ∷ []) ∙ ap (λ (zs : List X). flat_map g items ++ zs) (append-nil (g a)))

module _ {X : Type 0} (p : X → Bool) where
  -- two actions, one after the other
  pub two_pushed : (kinds between after : List X) (x y : X) → between ≡ kinds ++ filter p (x ∷ []) → after ≡ between ++ filter p (y ∷ [])
      → after ≡ kinds ++ filter p (x ∷ y ∷ [])
  two_pushed kinds between after x y first second =
      second ∙ ap (λ (ks : List X). ks ++ filter p (y ∷ [])) first ∙ append_assoc kinds (filter p (x ∷ [])) (filter p (y ∷ []))
      ∙ ap (λ (ks : List X). kinds ++ ks) (sym (filter-append p (x ∷ []) (y ∷ [])))

  -- the first row of all
  pub first_row : (kinds after row : List X) → kinds ≡ [] → after ≡ kinds ++ filter p row → after ≡ filter p row
  first_row kinds after row none pushed = pushed ∙ ap (λ (ks : List X). ks ++ filter p row) none

  -- a row after others
  pub next_row : (rows kinds after row : List X) → kinds ≡ filter p rows → after ≡ kinds ++ filter p row → after ≡ filter p (rows ++ row)
  next_row rows kinds after row was pushed = pushed ∙ ap (λ (ks : List X). ks ++ filter p row) was ∙ sym (filter-append p rows row)
