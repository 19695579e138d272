-- The variables that a text takes though they are unset and nothing stands in for them (Compose Specification, "Interpolation").
use Rattle.std.specs.Prelude.{◌≡◌, ℕ, ◌<◌, Bool, true, false, not, if◌then◌else◌, List, [], ◌∷◌, ◌++◌, flat_map, is_some, Option, Some, None, option_and_then, Result, Ok, Err}
use Rattle.std.specs.Map.{values_of}
use Rattle.std.specs.Str.{IsCharBoundary}
use Rattle.interpolate.specs.declared.part.Action.{Action}
use Rattle.interpolate.specs.declared.part.Action.TheVariants.{Default, Require, Replace}
use Rattle.interpolate.specs.declared.refusal.SubstRefusal.{SubstRefusal}
use Rattle.interpolate.specs.Parts.{Parts, End, Text, Dollars, Variable, Braced, before, parts, tails, with_part}
use Rattle.interpolate.specs.Shapes.{first_part, part_len}
use Rattle.interpolate.specs.Substitution.{Variables, counted}
use Rattle.tree_base.specs.Answers.{◌>>=◌}
use Rattle.tree_base.specs.Entries.{with_entry}
use Rattle.tree_base.specs.Limits.{most_form_levels}
use Rattle.tree_base.specs.declared.Tree.{Tree, fold-Tree}
use Rattle.tree_base.specs.declared.Tree.TheOpen.{Tree-F}

-- names, each once, as the keys of a map
abbrev pub Names : Type 0
Names = List (List ℕ × Bool)

-- the tail of a form is taken, by whether its variable counts as set
abbrev pub is_taken : Action → Bool → Bool
is_taken Default is_set = not is_set
is_taken Require is_set = not is_set
is_taken Replace is_set = is_set

-- a name, unless its variable is set
abbrev pub unless_set : List ℕ → Option (List ℕ) → List (List ℕ)
unless_set name None = name ∷ []
unless_set name (Some value) = []

-- the names that parts take and that are unset: of a form only what its tail takes, where that is taken
abbrev pub unset : Variables → Parts → List (List ℕ)
unset env End = []
unset env (Text text rest) = unset env rest
unset env (Dollars rest) = unset env rest
unset env (Variable name rest) = unless_set name (env name) ++ unset env rest
unset env (Braced name colon action tail rest) =
    (if is_taken action (is_some (counted colon (env name))) then unset env tail else [])
    ++ unset env rest

-- names with more behind them, of which none comes again
abbrev pub with_names : Names → List (List ℕ) → Names
with_names names [] = names
with_names names (name ∷ more) = with_names (with_entry names name true) more

-- names with those of a text behind them, where the text is well formed
abbrev pub with_unset : Variables → Names → Result Parts SubstRefusal → Option Names
with_unset env names (Ok parts) = Some (with_names names (unset env parts))
with_unset env names (Err refusal) = None

-- names with those of the first part of a text
abbrev pub with_first : Variables → Names → ℕ → ℕ → List ℕ → Option Names
with_first env names levels at text =
    with_unset env names (with_part (tails levels) at text (first_part levels text) (Ok End))

-- names with those of a form
abbrev pub with_form :
    Variables → Names → List ℕ → Bool → Action → Result Parts SubstRefusal → Option Names
with_form env names name colon action tail =
    with_unset env names
    (tail >>= λ inner. before (Braced name colon action inner) (Ok End))

-- names, where a text is well formed
abbrev pub where_whole : Bool → Names → Option Names
where_whole true names = Some names
where_whole false names = None

-- the texts of a tree, by those of its parts
abbrev pub texts_step : Tree-F (List (List ℕ)) → List (List ℕ)
texts_step Tree-F.Null = []
texts_step (Tree-F.Scalar text) = text ∷ []
texts_step (Tree-F.Map entries) = flat_map (λ texts. texts) (values_of entries)
texts_step (Tree-F.Seq items) = flat_map (λ texts. texts) items
texts_step Tree-F.Reset = []
texts_step (Tree-F.Override inner) = inner

-- the scalars of a tree, in its order
abbrev pub texts_in : Tree → List (List ℕ)
texts_in = fold-Tree (List (List ℕ)) texts_step

-- names with those of some texts behind them, where all are well formed
abbrev pub with_texts : Variables → Names → List (List ℕ) → Option Names
with_texts env names [] = Some names
with_texts env names (text ∷ more) =
    option_and_then (λ names. with_texts env names more)
    (with_unset env names (parts most_form_levels 0 text))

-- what is given of the first part of a text, from wherever it stands: names with those of the part, and its length, where it is well
-- formed
abbrev pub GivesFirst : Variables → Names → ℕ → List ℕ → Option ℕ → Names → Type 0
GivesFirst env old levels text None new =
    (at : ℕ) → with_first env old levels at text ≡ None
GivesFirst env old levels text (Some len) new =
    ((at : ℕ) → with_first env old levels at text ≡ Some new)
    × (len ≡ part_len (first_part levels text)) × (0 < len) × IsCharBoundary text len
