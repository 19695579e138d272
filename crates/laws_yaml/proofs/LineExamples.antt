-- Places over which something goes, and such over which nothing does, worked out by the checker.
use Rattle.std.specs.Prelude.{◌≡◌, ℕ, List, [], ◌∷◌, codes, map, refl}
use Rattle.laws_yaml.specs.BlankLines.{NothingGoesOver, row_with, taken_behind}

-- how many of the lines that follow belong to the lines before them
abbrev taken : List (List ℕ) → List (List ℕ) → ℕ
taken before after = taken_behind 0 0 (map row_with before) (map row_with after)

-- behind a line that is whole
whole : NothingGoesOver (codes "a: 1" ∷ []) (codes "# c" ∷ codes "b: 2" ∷ [])
whole = refl

-- behind a block scalar, a comment that isn't deep enough for its content
behind_block : NothingGoesOver (codes "a: |" ∷ codes "  x" ∷ []) (codes "# c" ∷ codes "b: 2" ∷ [])
behind_block = refl

-- an empty line there belongs to the block scalar
empty_behind_block : taken (codes "a: |" ∷ codes "  x" ∷ []) (codes "" ∷ codes "b: 2" ∷ []) ≡ 1
empty_behind_block = refl

-- within a block scalar
within_block : taken (codes "a: |" ∷ codes "  x" ∷ []) (codes "  y" ∷ codes "b: 2" ∷ []) ≡ 1
within_block = refl

-- within a flow collection, and behind it
within_flow : taken (codes "a: [x," ∷ []) (codes "y]" ∷ codes "b: 2" ∷ []) ≡ 1
within_flow = refl

behind_flow : NothingGoesOver (codes "a: [x," ∷ codes "y]" ∷ []) (codes "# c" ∷ codes "b: 2" ∷ [])
behind_flow = refl
