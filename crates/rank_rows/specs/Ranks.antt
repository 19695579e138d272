-- Rows of keys, and trees over them.
use Rattle.std.specs.Prelude.{◌≡◌, ℕ, zero, suc, ◌+◌, ◌*◌, ◌-◌, ◌<◌, ◌≤◌, Bool, true, false, if◌then◌else◌, ◌&&◌, ◌||◌, ◌==◌, nat_lt, nat_le, List, [], ◌∷◌, Option, Some, None, length, find, get_or, is_some}
use Rattle.std.specs.List.{list_all}
use Rattle.tree_base.specs.Limits.{count_bound}
use Rattle.rank_rows.specs.declared.rank_row.Rank.{Rank}

-- so many numbers, from one on
abbrev pub numbers_from : ℕ → ℕ → List ℕ
numbers_from i zero = []
numbers_from i (suc n) = i ∷ numbers_from (i + 1) n

-- the key of a place
abbrev pub key_at : List (Option ℕ) → ℕ → Option ℕ
key_at keys i = get_or keys i None

-- whether the first key is there and isn't above the second, where that is there
abbrev pub is_not_above : Option ℕ → Option ℕ → Bool
is_not_above (Some k) (Some l) = nat_le k l
is_not_above (Some k) None = true
is_not_above None l = false

-- whether a place has a key, and no key is less
abbrev pub has_least_key : List (Option ℕ) → ℕ → Bool
has_least_key keys i =
    list_all (λ j. is_not_above (key_at keys i) (key_at keys j)) (numbers_from 0 (length keys))

-- the place with the least key, and the first of those
abbrev pub least : List (Option ℕ) → Option ℕ
least keys =
    find (λ i. is_some (key_at keys i) && has_least_key keys i) (numbers_from 0 (length keys))

-- a place with its key
abbrev pub rank_of : ℕ → Option ℕ → Option Rank
rank_of i (Some k) = Some (record { key = k; at = i })
rank_of i None = None

-- the place at a leaf, with its key
abbrev pub leaf_of : List (Option ℕ) → ℕ → Option Rank
leaf_of keys i = rank_of i (key_at keys i)

-- the sooner of two: the one with the lesser key, then with the lesser place
abbrev pub sooner : Option Rank → Option Rank → Option Rank
sooner None right = right
sooner (Some x) None = Some x
sooner (Some x) (Some y) =
    if (nat_lt y.key x.key || ((y.key == x.key) && nat_lt y.at x.at)) then Some y else Some x

-- a node, or the place that stands where the nodes end
abbrev pub child : List (Option Rank) → List (Option ℕ) → ℕ → Option Rank
child nodes keys j =
    if nat_lt j (length keys) then get_or nodes j None else leaf_of keys (j - length keys)

-- each node but this one is the sooner of the two under it
pub record IsTreeBut (nodes : List (Option Rank)) (keys : List (Option ℕ))
    (but : ℕ) : Type 0 where
  pub each : (j : ℕ) → 1 ≤ j → j < length keys → (j ≡ but → ⊥)
      → get_or nodes j None ≡ sooner (child nodes keys (2 * j)) (child nodes keys (2 * j + 1))

-- a node for each key, fewer keys than a place's number tells, and each node the sooner of the two under it
pub record IsRankRow (nodes : List (Option Rank)) (keys : List (Option ℕ)) : Type 0 where
  pub same : length nodes ≡ length keys
  pub small : length keys < count_bound
  pub tree : IsTreeBut nodes keys 0

-- a place with a key was found, or no place has one
abbrev pub IsFound : List (Option ℕ) → Option ℕ → Type 0
IsFound keys None = (i : ℕ) → key_at keys i ≡ None
IsFound keys (Some i) = (i < length keys) × (is_some (key_at keys i) ≡ true)
