-- Paths in the text, by their parts between slashes.
use Rattle.std.specs.Prelude.{ℕ, ◌-◌, ◌==◌, ◌||◌, if◌then◌else◌, List, [], ◌∷◌, ◌++◌, length, take, drop, fold, nat_eq, Option, Some, None, Result, Ok, Err, codes}
use Rattle.std.specs.List.{slice_split, flat_map, starts_with}
use Rattle.std.specs.Str.{bytes_eq}
use Rattle.file_paths.specs.declared.refusal.PathRefusal.{PathRefusal}
use Rattle.file_paths.specs.declared.refusal.PathRefusal.TheVariants.{NoHome}
use Rattle.tree_base.specs.Answers.{◌>>=◌}
use Rattle.tree_base.specs.Entries.{value_at}

-- variables by their names
abbrev pub Variables : Type 0
Variables = List (List ℕ × List ℕ)

-- one part further: an empty one and `.` stay, and `..` goes up, but never above the root
abbrev pub after_part : List (List ℕ) → List ℕ → List (List ℕ)
after_part parts part =
    if bytes_eq part [] || bytes_eq part (codes ".") then parts
    else (if bytes_eq part (codes "..") then take (length parts - 1) parts else parts ++ part ∷ [])

-- the parts of a path, taken as if a slash stood before it
abbrev pub parts_of : List ℕ → List (List ℕ)
parts_of text = fold after_part [] (slice_split (λ b. b == 47) text)

-- the path that goes through these parts from the root
abbrev pub path_through : List (List ℕ) → List ℕ
path_through [] = codes "/"
path_through (part ∷ parts) = flat_map (λ p. 47 ∷ p) (part ∷ parts)

-- a path against a directory: one that begins at the root stays
abbrev pub joined : List ℕ → List ℕ → List ℕ
joined directory text =
    path_through (parts_of (if starts_with nat_eq text (codes "/") then text else directory ++ 47 ∷ text))

-- the directory in which a path lies: the path without its last part; that of the root is the root
abbrev pub directory_of : List ℕ → List ℕ
directory_of path = path_through (take (length (parts_of path) - 1) (parts_of path))

-- a path that begins at the home directory, behind which a rest stands; the home has to be known
abbrev pub home_in : List ℕ → List ℕ → List ℕ → Option (List ℕ) → Result (List ℕ) PathRefusal
home_in directory text rest None = Err (NoHome text)
home_in directory text rest (Some home) = Ok (joined directory (home ++ 47 ∷ rest))

-- a path against a directory, where the `~` of a leading `~/` is the value of HOME
abbrev pub homed : List ℕ → Variables → List ℕ → Result (List ℕ) PathRefusal
homed directory env text =
    if starts_with nat_eq text (codes "~/") then home_in directory text (drop 2 text) (value_at env (codes "HOME"))
    else Ok (joined directory text)

-- paths against a directory, in their order; the first without a home is refused
abbrev pub all_homed : List ℕ → Variables → List (List ℕ) → Result (List (List ℕ)) PathRefusal
all_homed directory env [] = Ok []
all_homed directory env (path ∷ paths) =
    homed directory env path >>= λ p. all_homed directory env paths >>= λ ps. Ok (p ∷ ps)
