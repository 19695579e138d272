-- The entries of `environment`, one after another, and values as scalars.
use Rattle.std.proofs.Common.{◌≡◌, ◌∙◌, ℕ, List, ◌+◌, drop, map, slice_get, Some, sym, ap}
use Rattle.std.specs.List.{zip}
use Rattle.std.specs.Map.{keys_of, values_of}
use Rattle.file_paths.specs.Paths.{Variables}
use Rattle.file_paths.specs.Resolving.{Entries}
use Rattle.loaded_files.proofs.Laid.{next_item}
use Rattle.service_environments.specs.Environments.{settings_over, with_setting}
use Rattle.tree_base.proofs.Pairs.{values_mapped}
use Rattle.tree_base.specs.declared.Tree.{Tree, Scalar, out-Tree}

pub next_setting : (env : Variables) (all put : Variables) (entries : Entries) (i : ℕ) (name : List ℕ) (value : Tree) → slice_get entries i ≡ Some (name, value) → put ≡ with_setting env all name (out-Tree value)
    → settings_over env (drop (i + 1) entries) put ≡ settings_over env (drop i entries) all
next_setting env all put entries i name value at e =
    ap (settings_over env (drop (i + 1) entries)) e ∙ sym (ap (λ (es : Entries). settings_over env es all) (next_item entries i (name, value) at))

-- the values as scalars under their names
pub as_scalars : (values : Variables) (scalars : List Tree) → scalars ≡ map Scalar (values_of values) → zip (keys_of values) scalars ≡ map (λ (entry : List ℕ × List ℕ). (entry.0, Scalar entry.1)) values
as_scalars values scalars e = ap (zip (keys_of values)) e ∙ values_mapped Scalar values
