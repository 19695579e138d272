-- What entries are known by, as texts.
use Rattle.std.proofs.Common.{◌≡◌, ◌∙◌, ℕ, List, ◌++◌, Bool, true, false, ◌&&◌, Some, ap, refl, sym, true≢false, rules}
use Rattle.std.proofs.lemmas.Bool.{false_from_ne_true}
use Rattle.std.proofs.lemmas.List.{append_cancel_left}
use Rattle.std.proofs.lemmas.Slice.Eq.{bytes_eq-Decides}
use Rattle.std.specs.Str.{bytes_eq}
use Rattle.tree_base.specs.declared.tree.Tree.{the_lemmas}
use Rattle.tree_base.specs.declared.tree.Tree.TheVariants.{Scalar}
use Rattle.merge_rules.specs.Sameness.{same}
use Rattle.merge_rules.specs.Uniqueness.{alone, same_keys}

and_true : (b : Bool) → (b && true) ≡ b
and_true true = refl
and_true false = refl

pub same_scalars : (text other : List ℕ) → same (Scalar text) (Scalar other) ≡ bytes_eq text other
same_scalars text other = search (rules, the_lemmas)

-- keys of one text
pub text_keys : (text other : List ℕ) → same_keys (alone (Some text)) (alone (Some other)) ≡ bytes_eq text other
text_keys text other = ap (λ (b : Bool). b && true) (same_scalars text other) ∙ and_true (bytes_eq text other)

-- what decides whether two texts are equal is whether their bytes are
pub text_decided : (text other : List ℕ) (is : Bool) → (is ≡ true → text ≡ other) × (text ≡ other → is ≡ true) → is ≡ bytes_eq text other
text_decided text other true h = sym ((bytes_eq-Decides text other).1 (h.0 refl))
text_decided text other false h = sym (false_from_ne_true (bytes_eq text other) (λ e. true≢false (sym (h.1 ((bytes_eq-Decides text other).0 e)))))

-- names in one folder
pub in_one_folder : (folder name other : List ℕ) → bytes_eq (folder ++ name) (folder ++ other) ≡ bytes_eq name other
in_one_folder folder name other =
    sym (text_decided (folder ++ name) (folder ++ other) (bytes_eq name other)
    ((λ h. ap (λ (t : List ℕ). folder ++ t) ((bytes_eq-Decides name other).0 h)), (λ e. (bytes_eq-Decides name other).1 (append_cancel_left folder name other e))))
