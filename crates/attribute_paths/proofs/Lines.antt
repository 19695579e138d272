-- Lines of a table that hold under no other key than the one that they begin with.
use Rattle.std.proofs.Common.{◌≡◌, ◌∙◌, ℕ, List, [], ◌∷◌, ◌++◌, map, true, false, sym, refl}
use Rattle.std.specs.Str.{bytes_eq}
use Rattle.std.proofs.lemmas.Bool.{false_from_ne_true}
use Rattle.std.proofs.lemmas.Grind.{flat_map-append}
use Rattle.std.proofs.lemmas.Slice.Eq.{bytes_eq-Decides}
use Rattle.attribute_paths.specs.Laws.{AllApart, Named, lines_of}
use Rattle.attribute_paths.specs.Patterns.{Pattern, below_item, below_key, left_at_key, named}

-- texts that differ
pub apart : (text key : List ℕ) → (key ≡ text → ⊥) → bytes_eq text key ≡ false
apart text key differ = false_from_ne_true (bytes_eq text key) (λ e. differ (sym ((bytes_eq-Decides text key).0 e)))

module _ {W : Type 0} where
  -- lines with a key in front of each
  abbrev pub in_front : List ℕ → List (Pattern × W) → List (Pattern × W)
  in_front name lines = map (λ (line : Pattern × W). (named name ∷ line.0, line.1)) lines

  -- lines that begin with another key hold not
  pub none_below : (key name : List ℕ) (lines : List (Pattern × W)) → bytes_eq name key ≡ false → below_key key (in_front name lines) ≡ []
  none_below key name [] e = refl
  none_below key name (line ∷ lines) e = rw e (none_below key name lines e)

  -- lines whose keys are others hold not
  pub none_named : (key : List ℕ) (lines : Named W) → AllApart key lines → below_key key (lines_of lines) ≡ []
  none_named key [] e = refl
  none_named key (line ∷ lines) e = rw e.0 (none_named key lines e.1)

  -- lines that begin with a key hold of no item
  pub none_of_items : (lines : Named W) → below_item (lines_of lines) ≡ []
  none_of_items [] = refl
  none_of_items (line ∷ lines) = none_of_items lines

  -- one line under a key: it holds there, or no line does
  pub one_here : (key name : List ℕ) (word : W) → bytes_eq name key ≡ true → below_key key ((named name ∷ [], word) ∷ []) ≡ ([], word) ∷ []
  one_here key name word e = rw e refl

  pub one_apart : (key name : List ℕ) (word : W) → bytes_eq name key ≡ false → below_key key ((named name ∷ [], word) ∷ []) ≡ []
  one_apart key name word e = rw e refl

  -- lines of which none holds
  pub none_both : (key : List ℕ) (lines more : List (Pattern × W)) → below_key key lines ≡ [] → below_key key more ≡ [] → below_key key (lines ++ more) ≡ []
  none_both key lines more none nothing = flat_map-append (λ (line : Pattern × W). left_at_key key line.0 line.1) lines more ∙ (λ i. none i ++ nothing i)
