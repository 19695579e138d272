-- Rows without their numbers, and places in them, which keep all but their lines; and the counts of what was read.
use Rattle.std.proofs.Common.{◌≡◌, ◌∙◌, ℕ, List, [], ◌∷◌, Bool, true, false, eqb, nat_lt, take, refl, ap, if◌then◌else◌}
use Rattle.tree_base.specs.declared.tree.Tree.{Tree}
use Rattle.tree_base.specs.Trees.{depth, node_count, text_size}
use Rattle.yaml_lines.specs.declared.refusal.YamlFault.{YamlFault}
use Rattle.yaml_lines.specs.declared.refusal.YamlRefusal.TheVariants.{Bad, TooDeep, TooManyNodes, TooMuchText}
use Rattle.yaml_lines.specs.declared.row.Row.{Row}
use Rattle.yaml_lines.specs.Rows.{one_more, place_after, place_in}
use Rattle.yaml_nodes.specs.declared.progress.Progress.{Progress}
use Rattle.yaml_nodes.specs.declared.spot.Spot.{Spot}
use Rattle.yaml_nodes.specs.declared.spot.Spot.TheVariants.{Here, Before}
use Rattle.yaml_nodes.specs.Progress.{bad, copied, more_nodes, more_text, one_node, place_of, taken}
use Rattle.laws_yaml.specs.BlankLines.{unlined}
use Rattle.laws_yaml.proofs.Alike.{Alike, Same, either, gives, refuses, followed}

-- a row without its number
abbrev pub bare : Row → Row
bare row = record row { number = 0 }

one_of : {A B : Type 0} (f : A → B) (b : Bool) (x y x' y' : A) → f x ≡ f x' → f y ≡ f y' → f (if b then x else y) ≡ f (if b then x' else y')
one_of f true x y x' y' h k = h
one_of f false x y x' y' h k = k

-- a place behind characters is the same one on any line
after_same : (file line line' column : ℕ) (cs : List ℕ) → unlined (place_after file line column cs) ≡ unlined (place_after file line' column cs)
after_same file line line' column [] = refl
after_same file line line' column (c ∷ cs) =
    one_of unlined (eqb c 10) _ _ _ _ (after_same file (one_more line) (one_more line') 1 cs) (after_same file line line' (one_more column) cs)

pub place_same : (file : ℕ) (row : Row) (at : ℕ) → unlined (place_in file row at) ≡ unlined (place_in file (bare row) at)
place_same file row at = after_same file row.number 0 1 (take at row.chars)

-- a spot without a line
abbrev pub bare_spot : Spot → Spot
bare_spot (Here at) = Here at
bare_spot (Before place) = Before (unlined place)

pub spot_same : (p : Progress) (row : Row) (s t : Spot) → bare_spot s ≡ bare_spot t → unlined (place_of p row s) ≡ unlined (place_of p (bare row) t)
spot_same p row (Here at) (Here at') h = let same : at ≡ at' = cc in place_same p.file row at ∙ ap (λ n. unlined (place_in p.file (bare row) n)) same
spot_same p row (Before place) (Before place') h = cc
spot_same p row (Here at) (Before place) h = absurd (cc)
spot_same p row (Before place) (Here at) h = absurd (cc)

-- a fault at a character of a row
pub bad_same : {A B : Type 0} {keep : A → B} (which : YamlFault) (p : Progress) (row : Row) (at : ℕ) → Alike keep (bad which p row at) (bad which p (bare row) at)
bad_same which p row at = refuses (ap (λ place. Bad which place) (place_same p.file row at))

pub text_same : (p : Progress) (row : Row) (s t : Spot) (bytes : ℕ) → bare_spot s ≡ bare_spot t → Same (more_text p row s bytes) (more_text p (bare row) t bytes)
text_same p row s t bytes h = either (nat_lt 16777216 _) (refuses (ap (λ place. TooMuchText place) (spot_same p row s t h))) (gives refl)

pub nodes_same : (p : Progress) (row : Row) (s t : Spot) (nodes bytes : ℕ) → bare_spot s ≡ bare_spot t → Same (more_nodes p row s nodes bytes) (more_nodes p (bare row) t nodes bytes)
nodes_same p row s t nodes bytes h = either (nat_lt 200000 _) (refuses (ap (λ place. TooManyNodes place) (spot_same p row s t h))) (text_same _ row s t bytes h)

taken_same : (levels : ℕ) (p : Progress) (row : Row) (at deep nodes bytes : ℕ) → Same (taken levels p row at deep nodes bytes) (taken levels p (bare row) at deep nodes bytes)
taken_same levels p row at deep nodes bytes =
    either (nat_lt levels deep) (refuses (ap (λ place. TooDeep place) (place_same p.file row at))) (nodes_same p row (Here at) (Here at) nodes bytes refl)

pub one_same : (levels : ℕ) (p : Progress) (row : Row) (at bytes : ℕ) → Same (one_node levels p row at bytes) (one_node levels p (bare row) at bytes)
one_same levels p row at bytes = taken_same levels p row at 1 1 bytes

pub copied_same : (levels : ℕ) (p : Progress) (row : Row) (at : ℕ) (tree : Tree) → Same (copied levels p row at tree) (copied levels p (bare row) at tree)
copied_same levels p row at tree = followed (taken_same levels p row at (depth tree) (node_count tree) (text_size tree)) (λ q. gives refl)
