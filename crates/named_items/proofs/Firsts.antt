-- The first items of each name, one item further, beside the names that are known.
use Rattle.std.proofs.Common.{◌≡◌, ◌∙◌, ℕ, Bool, true, false, cond, not, List, [], ◌∷◌, ◌++◌, ◌<◌, ◌+◌, get_or, length, map, take, ap, refl, sym}
use Rattle.std.proofs.lemmas.List.{map-append, take_more}
use Rattle.std.specs.List.{list_any}
use Rattle.std.specs.Str.{bytes_eq}
use Rattle.indexmap.specs.IndexSet.{insert_key}
use Rattle.run_model.proofs.Firsts.{any-map, firsts-more, has}
use Rattle.tree_base.specs.ByteOrder.{first_of_each}

not_true : (b : Bool) → true ≡ not b → b ≡ false
not_true true e = absurd (cc e)
not_true false e = refl

not_false : (b : Bool) → false ≡ not b → b ≡ true
not_false true e = refl
not_false false e = absurd (cc e)

module _ {X : Type 0} (name : X → List ℕ) (items : List X) (i : ℕ) (x : X) (within : i < length items) (is : x ≡ get_or items i x) where
  next : take (i + 1) items ≡ take i items ++ x ∷ []
  next = take_more items i x within ∙ ap (λ (y : X). take i items ++ y ∷ []) (sym is)

  module _ (names : List (List ℕ)) (rows : List X) (are : rows ≡ first_of_each name (take i items)) (known : names ≡ map name rows) where
    further : (b : Bool) → list_any (bytes_eq (name x)) names ≡ b → first_of_each name (take (i + 1) items) ≡ cond b rows (rows ++ x ∷ [])
    further b e =
        ap (first_of_each name) next ∙ firsts-more name (take i items) x
        ∙ ap (λ (l : List X). cond (has name (name x) l) l (l ++ x ∷ [])) (sym are)
        ∙ ap (λ (t : Bool). cond t rows (rows ++ x ∷ [])) (sym (any-map name (name x) rows) ∙ ap (list_any (bytes_eq (name x))) (sym known) ∙ e)

    -- an item of a new name is one more
    pub one_more : list_any (bytes_eq (name x)) names ≡ false → rows ++ x ∷ [] ≡ first_of_each name (take (i + 1) items)
    one_more e = sym (further false e)

    pub one_known : list_any (bytes_eq (name x)) names ≡ false → insert_key bytes_eq names (name x) ≡ map name (rows ++ x ∷ [])
    one_known e = ap (λ (t : Bool). cond t names (names ++ name x ∷ [])) e ∙ ap (λ (l : List (List ℕ)). l ++ name x ∷ []) known ∙ sym (map-append name rows (x ∷ []))

    -- an item of a known name is none
    pub no_more : list_any (bytes_eq (name x)) names ≡ true → rows ≡ first_of_each name (take (i + 1) items)
    no_more e = sym (further true e)

    pub none_known : list_any (bytes_eq (name x)) names ≡ true → insert_key bytes_eq names (name x) ≡ map name rows
    none_known e = ap (λ (t : Bool). cond t names (names ++ name x ∷ [])) e ∙ known

    module _ (k : List ℕ) (named : k ≡ name x) (fresh : Bool) (tells : fresh ≡ not (list_any (bytes_eq k) names)) (after : List (List ℕ)) (put : after ≡ insert_key bytes_eq names k) where
      told : fresh ≡ not (list_any (bytes_eq (name x)) names)
      told = tells ∙ ap (λ (t : List ℕ). not (list_any (bytes_eq t) names)) named

      into : after ≡ insert_key bytes_eq names (name x)
      into = put ∙ ap (insert_key bytes_eq names) named

      -- a name that was new
      pub new_step : fresh ≡ true → (grown : List X) → grown ≡ rows ++ x ∷ [] → (grown ≡ first_of_each name (take (i + 1) items)) × (after ≡ map name grown)
      new_step e grown pushed =
          let absent = not_true (list_any (bytes_eq (name x)) names) (sym e ∙ told) in
          (pushed ∙ one_more absent, into ∙ one_known absent ∙ ap (map name) (sym pushed))

      -- a name that was known
      pub known_step : fresh ≡ false → (grown : List X) → grown ≡ rows → (grown ≡ first_of_each name (take (i + 1) items)) × (after ≡ map name grown)
      known_step e grown same =
          let there = not_false (list_any (bytes_eq (name x)) names) (sym e ∙ told) in
          (same ∙ no_more there, into ∙ none_known there ∙ ap (map name) (sym same))
