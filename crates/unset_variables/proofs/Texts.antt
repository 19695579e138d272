-- The scalars of a tree, by those of the trees in it, and names that are put text by text.
use Rattle.std.proofs.Common.{◌≡◌, ◌∙◌, ◌+◌, ℕ, zero, suc, List, [], ◌∷◌, ◌++◌, None, Some, flat_map, map, option_and_then, add-one, drop, slice_get, refl, sym, ap, rules}
use Rattle.std.specs.Map.{values_of}
use Rattle.interpolate.specs.Parts.{parts}
use Rattle.interpolate.specs.Substitution.{Variables}
use Rattle.tree_base.specs.Limits.{most_form_levels}
use Rattle.tree_base.specs.declared.Tree.{Tree, Map, Seq, the_lemmas}
use Rattle.unset_variables.specs.Unset.{Names, texts_in, with_texts, with_unset}

module _ {X : Type 0} (f : X → List (List ℕ)) where
  flat_again : (xs : List X) → flat_map (λ texts. texts) (map f xs) ≡ flat_map f xs
  flat_again [] = refl
  flat_again (x ∷ xs) = ap (λ l. f x ++ l) (flat_again xs)

seq_step : (items : List Tree) → texts_in (Seq items) ≡ flat_map (λ texts. texts) (map texts_in items)
seq_step items = search (rules, the_lemmas)

map_step : (entries : List (List ℕ × Tree)) → texts_in (Map entries) ≡ flat_map (λ texts. texts) (values_of (map (λ e. (e.0, texts_in e.1)) entries))
map_step entries = search (rules, the_lemmas)

values_again : (entries : List (List ℕ × Tree)) → values_of (map (λ (e : List ℕ × Tree). (e.0, texts_in e.1)) entries) ≡ map texts_in (values_of entries)
values_again [] = refl
values_again (e ∷ entries) = ap (λ l. texts_in e.1 ∷ l) (values_again entries)

-- the scalars of a sequence
pub seq_texts : (items : List Tree) → flat_map texts_in items ≡ texts_in (Seq items)
seq_texts items = sym (seq_step items ∙ flat_again texts_in items)

-- the scalars of a mapping
pub map_texts : (entries : List (List ℕ × Tree)) → flat_map texts_in (values_of entries) ≡ texts_in (Map entries)
map_texts entries = sym (map_step entries ∙ ap (flat_map (λ texts. texts)) (values_again entries) ∙ flat_again texts_in (values_of entries))

module _ {X : Type 0} (now : X → List ℕ) where
  next : (xs : List X) (i : ℕ) (x : X) → slice_get xs i ≡ Some x → drop i (map now xs) ≡ now x ∷ drop (suc i) (map now xs)
  next [] i x e = absurd cc
  next (y ∷ xs) zero x e = let same : y ≡ x = cc in ap (λ (t : X). now t ∷ map now xs) same
  next (y ∷ xs) (suc i) x e = next xs i x e

  -- the texts from a place on, where one is well formed
  pub text_fine : (env : Variables) (old new : Names) (xs : List X) (i : ℕ) (x : X) → slice_get xs i ≡ Some x → with_unset env old (parts most_form_levels 0 (now x)) ≡ Some new
      → with_texts env old (drop i (map now xs)) ≡ with_texts env new (drop (i + 1) (map now xs))
  text_fine env old new xs i x at is =
      ap (with_texts env old) (next xs i x at)
      ∙ ap (option_and_then (λ names. with_texts env names (drop (suc i) (map now xs)))) is
      ∙ rw add-one refl

  -- and where it isn't
  pub text_wrong : (env : Variables) (old : Names) (xs : List X) (i : ℕ) (x : X) → slice_get xs i ≡ Some x → with_unset env old (parts most_form_levels 0 (now x)) ≡ None → with_texts env old (drop i (map now xs)) ≡ None
  text_wrong env old xs i x at is =
      ap (with_texts env old) (next xs i x at) ∙ ap (option_and_then (λ names. with_texts env names (drop (suc i) (map now xs)))) is
