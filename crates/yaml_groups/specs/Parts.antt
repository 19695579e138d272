-- Words for the parts of grouping, which private contracts cite.
use Rattle.std.specs.Prelude.{ℕ, zero, suc, ◌+◌, ◌-◌, List, [], ◌∷◌, ◌++◌, Bool, true, false, ◌==◌, ◌&&◌, if◌then◌else◌}
use Rattle.yaml_lines.specs.Blanks.{is_white}
use Rattle.yaml_lines.specs.declared.plain.Context.TheVariants.{Block}
use Rattle.yaml_lines.specs.declared.row.Row.{Row}
use Rattle.yaml_groups.specs.Cuts.{is_closing, is_space, open_behind, token_len}
use Rattle.yaml_groups.specs.declared.scan.Scan.{Scan}
use Rattle.yaml_nodes.specs.Marks.{before_colon, is_item, is_key, is_property, name_len}

-- how many characters the white space, the dash, the property or the key takes that stands before a value, 0 where none does; and whether it is a dash or a key
abbrev pub front_of : List ℕ → ℕ × Bool
front_of [] = (0, false)
front_of (c ∷ cs) =
    if is_white c then (1, false)
    else (if is_item (c ∷ cs) then (1, true)
    else (if is_property (c ∷ cs) then (name_len cs + 1, false)
    else (if is_key Block (c ∷ cs) then (before_colon Block (c ∷ cs) + 1, true) else (0, false))))

-- the characters of rows, each behind a line feed
abbrev pub led : List Row → List ℕ
led [] = []
led (row ∷ rows) = 10 ∷ row.chars ++ led rows

-- so many line ends, and this character where it is one
abbrev pub ends_with : ℕ → ℕ → ℕ
ends_with count c = if c == 10 then count + 1 else count

-- a bracket that closes the collection, where no bracket is open within
abbrev pub closes : ℕ → ℕ → Bool
closes n c = is_closing c && (n == 0)

-- how far a flow collection goes in characters, to the bracket that closes it, else to their end: so many line ends and open brackets stand before, so many characters belong to a token that began before, and `white` says whether white space precedes
abbrev pub scanned : ℕ → ℕ → ℕ → Bool → List ℕ → Scan
scanned ends n skip white [] = record { ends = ends; brackets = n; closed = false }
scanned ends n (suc skip) white (c ∷ cs) = scanned (ends_with ends c) n skip (is_space c) cs
scanned ends n zero white (c ∷ cs) =
    if closes n c then record { ends = ends; brackets = n; closed = true }
    else scanned (ends_with ends c) (open_behind n c) (token_len white (c ∷ cs) - 1) (is_space c) cs
