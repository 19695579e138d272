-- Attributes by their paths, and tables that say something of each: a line of a table is a path, as `services.*.ports`, and what is said there.
use Rattle.std.specs.Prelude.{ℕ, List, [], ◌∷◌, Option, Some, None, map, ◌==◌, if◌then◌else◌, codes}
use Rattle.std.specs.List.{slice_split, flat_map}
use Rattle.std.specs.Str.{bytes_eq}

-- a step from a tree to the ones in it: a key, any key, or any item of a sequence
pub data Part : Type 0 where
  named : List ℕ → Part
  any_key : Part
  any_item : Part

-- a step as it is written: `*` is any key, and `[]` any item
abbrev pub part_of : List ℕ → Part
part_of text =
    if bytes_eq text (codes "*") then any_key
    else (if bytes_eq text (codes "[]") then any_item else named text)

-- the steps from the root of a file to an attribute
abbrev pub Pattern : Type 0
Pattern = List Part

-- steps as they are written, with points between them
abbrev pub pattern : List ℕ → Pattern
pattern text = map part_of (slice_split (λ b. b == 46) text)

module _ {W : Type 0} where
  -- a line without its first step, where that leads under this key
  abbrev pub left_at_key : List ℕ → Pattern → W → List (Pattern × W)
  left_at_key key [] word = []
  left_at_key key (named name ∷ more) word = if bytes_eq name key then (more, word) ∷ [] else []
  left_at_key key (any_key ∷ more) word = (more, word) ∷ []
  left_at_key key (any_item ∷ more) word = []

  -- the lines of a table that hold under a key
  abbrev pub below_key : List ℕ → List (Pattern × W) → List (Pattern × W)
  below_key key lines = flat_map (λ line. left_at_key key line.0 line.1) lines

  -- a line without its first step, where that leads to any item
  abbrev pub left_at_item : Pattern → W → List (Pattern × W)
  left_at_item [] word = []
  left_at_item (any_item ∷ more) word = (more, word) ∷ []
  left_at_item (named name ∷ more) word = []
  left_at_item (any_key ∷ more) word = []

  -- the lines of a table that hold of each item
  abbrev pub below_item : List (Pattern × W) → List (Pattern × W)
  below_item lines = flat_map (λ line. left_at_item line.0 line.1) lines

  -- what a line says here, where its path ends here, and else what the lines behind it say
  abbrev pub said_by : Pattern → W → Option W → Option W
  said_by [] word later = Some word
  said_by (part ∷ more) word later = later

  -- what the first line says whose path ends here
  abbrev pub here : List (Pattern × W) → Option W
  here [] = None
  here (line ∷ lines) = said_by line.0 line.1 (here lines)
