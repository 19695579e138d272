-- Laws of what services extend, above their definitions.
use Rattle.std.specs.Prelude.{◌≡◌, ℕ, true, List, [], ◌∷◌, ◌++◌, Ok, codes}
use Rattle.file_paths.specs.Resolving.{Entries}
use Rattle.merge_rules.specs.Alone.{no_twins}
use Rattle.merge_tables.specs.Answers.{within}
use Rattle.merge_tables.specs.Attributes.{overlay_rules}
use Rattle.merge_rules.specs.Laws.{no_mark, own_keys}
use Rattle.service_bases.specs.Chains.{laid_up, layers_over}
use Rattle.service_bases.specs.declared.chain.Layer.{Layer}
use Rattle.tree_base.specs.Answers.{◌>>=◌}
use Rattle.tree_base.specs.declared.Tree.{Tree, Map}

-- a chain may be laid in parts: what its end gives is a base of the rest
abbrev pub ChainsLayInParts : Type 0
ChainsLayInParts =
    (last : Layer) (lower upper : List Layer)
    → laid_up (last ∷ lower ++ upper) ≡ (laid_up (last ∷ lower) >>= λ base. layers_over base upper)

-- a service over a base that extends another one is that service over what its base gives
abbrev pub TwoAreOne : Type 0
TwoAreOne =
    (last middle top : Layer) (base : Entries) → laid_up (last ∷ middle ∷ []) ≡ Ok base
    → laid_up (last ∷ middle ∷ top ∷ [])
    ≡ laid_up (record { at = middle.at; service = base } ∷ top ∷ [])

-- a file with one service alone
abbrev pub file_of : List ℕ → Entries → Tree
file_of name service = Map ((codes "services", Map ((name, Map service) ∷ [])) ∷ [])

-- a service of a file that is merged: alone in one it has no mark, no key twice, and no entry that is one with another
-- where entries are unique, and is within the limits
abbrev pub StandsAlone : List ℕ → Entries → Type 0
StandsAlone name service =
    (no_mark (file_of name service) ≡ true)
    × (own_keys (file_of name service) ≡ true)
    × (no_twins overlay_rules (file_of name service) ≡ true)
    × (within (file_of name service) ≡ Ok (file_of name service))

-- a service over an empty one is itself
abbrev pub EmptyBasesAddNothing : Type 0
EmptyBasesAddNothing =
    (last top : Layer) → last.service ≡ [] → StandsAlone top.at.service top.service
    → laid_up (last ∷ top ∷ []) ≡ Ok top.service
