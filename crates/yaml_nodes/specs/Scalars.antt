-- Nodes on one line that are no collection: nothing, scalars and aliases.
use Rattle.std.specs.Prelude.{ℕ, ◌+◌, List, [], ◌∷◌, Bool, false, Option, Some, None, Result, Ok, drop, length, nat_le, ◌&&◌, ◌||◌, not, codes, if◌then◌else◌}
use Rattle.std.specs.Str.{encode_utf8_all, bytes_eq}
use Rattle.tree_base.specs.Entries.{value_at}
use Rattle.tree_base.specs.declared.tree.Tree.{Tree}
use Rattle.tree_base.specs.declared.tree.Tree.TheVariants.{Null, Scalar}
use Rattle.yaml_lines.specs.Blanks.{blanks, is_rest_blank}
use Rattle.yaml_lines.specs.declared.block_style.Chomp.{Chomp}
use Rattle.yaml_lines.specs.declared.block_style.Chomp.TheVariants.{Strip, Clip, Keep}
use Rattle.yaml_lines.specs.Block.{block_of, lines_of_rows}
use Rattle.yaml_lines.specs.declared.plain.Context.{Context}
use Rattle.yaml_lines.specs.Plain.{plain_of}
use Rattle.yaml_lines.specs.Quoted.{quoted_of}
use Rattle.yaml_lines.specs.declared.refusal.YamlFault.TheVariants.{BadScalar, UnknownAlias, Unsupported}
use Rattle.yaml_lines.specs.declared.refusal.YamlRefusal.{YamlRefusal}
use Rattle.yaml_lines.specs.declared.row.Row.{Row}
use Rattle.yaml_lines.specs.Rows.{text_at}
use Rattle.yaml_nodes.specs.declared.progress.Progress.{Progress}
use Rattle.yaml_nodes.specs.declared.properties.Properties.{Properties}
use Rattle.yaml_nodes.specs.Marks.{is_quote, name_len, starts}
use Rattle.yaml_nodes.specs.declared.spot.Spot.TheVariants.{Here}
use Rattle.yaml_nodes.specs.Progress.{◌>>=◌, bad, copied, more_text, one_node}
use Rattle.yaml_nodes.specs.Properties.{finished, is_spelled, name_of, unspelled}

-- a plain word for null
abbrev pub is_null_word : List ℕ → Bool
is_null_word text =
    bytes_eq text (codes "null")
    || (bytes_eq text (codes "Null") || (bytes_eq text (codes "NULL") || bytes_eq text (codes "~")))

-- nothing stands there: null, or the empty text by `!!str`
abbrev pub nothing : ℕ → Properties → Progress → Row → ℕ → Result (Tree × Progress) YamlRefusal
nothing levels found p row at =
    one_node levels p row at 0 >>=
    λ p. Ok (finished found ((if is_spelled found.tag then Scalar [] else Null), p))

-- a node that stands in a row and the place behind it, beside what was read
abbrev pub Inline : Type 0
Inline = (Tree × ℕ) × Progress

-- a node that is finished and ends before a place of its row
abbrev pub ending : ℕ → Tree × Progress → Inline
ending end (tree, p) = ((tree, end), p)

-- a scalar of so many characters at a place, whose node is counted: its text counts when it is read
abbrev pub scalar : Properties → Progress → Row → ℕ → Tree → List ℕ → ℕ → Result Inline YamlRefusal
scalar found p row at tree text n =
    more_text p row (Here at) (length text) >>= λ p. Ok (ending (at + n) (finished found (tree, p)))

-- a scalar in quotes: its spelling, whatever it is
abbrev pub quoted_scalar : Properties → Progress → Row → ℕ → Option (List ℕ × ℕ) →
    Result Inline YamlRefusal
quoted_scalar found p row at None = bad BadScalar p row at
quoted_scalar found p row at (Some (cs, n)) =
    scalar found p row at (Scalar (encode_utf8_all cs)) (encode_utf8_all cs) n

-- a plain word for null, where no `!!str` stands
abbrev pub is_plain_null : Properties → List ℕ → Bool
is_plain_null found text = is_null_word text && not (is_spelled found.tag)

-- the tree of a plain scalar
abbrev pub plain_tree : Properties → List ℕ → Tree
plain_tree found text = if is_plain_null found text then Null else Scalar text

-- the bytes that a plain scalar counts: null has none
abbrev pub plain_bytes : Properties → List ℕ → List ℕ
plain_bytes found text = if is_plain_null found text then [] else text

-- a plain scalar
abbrev pub plain_scalar : Properties → Progress → Row → ℕ → Option (List ℕ × ℕ) →
    Result Inline YamlRefusal
plain_scalar found p row at None = bad BadScalar p row at
plain_scalar found p row at (Some (cs, n)) =
    let text = encode_utf8_all cs in
    scalar found p row at (plain_tree found text) (plain_bytes found text) n

-- a scalar in quotes or a plain one, by the character with which it begins
abbrev pub scalar_at : Context → Properties → Progress → Row → ℕ → Result Inline YamlRefusal
scalar_at context found p row at =
    let cs = text_at row at in
    if is_quote cs then quoted_scalar found p row at (quoted_of cs)
    else plain_scalar found p row at (plain_of context cs)

-- a copy of the latest finished node of a name; a limit is met at the alias
abbrev pub copy_named : ℕ → Properties → Progress → Row → ℕ → Option Tree → ℕ →
    Result Inline YamlRefusal
copy_named levels found p row at None n = bad UnknownAlias p row at
copy_named levels found p row at (Some tree) n =
    copied levels p row at tree >>= λ got. Ok (ending (at + n) (finished found got))

-- an alias; `!!str` doesn't stand on one
abbrev pub alias : ℕ → Properties → Progress → Row → ℕ → Result Inline YamlRefusal
alias levels found p row at =
    let cs = text_at row at in
    unspelled p row found >>=
    λ found. copy_named levels found p row at (value_at p.names (name_of cs))
    (1 + name_len (drop 1 cs))

-- a scalar or an alias, which begins at a place: a scalar's node is counted before it is read
abbrev pub word : Context → ℕ → Properties → Progress → Row → ℕ → Result Inline YamlRefusal
word context levels found p row at =
    if starts 42 (text_at row at) then alias levels found p row at
    else (one_node levels p row at 0 >>= λ p. scalar_at context found p row at)

-- what stands behind the `|` or `>` of a block scalar, before the rest of the line: `-`, `+` or nothing
abbrev pub chomp_of : List ℕ → Chomp × ℕ
chomp_of cs = if starts 45 cs then (Strip, 1) else (if starts 43 cs then (Keep, 1) else (Clip, 0))

-- a decimal digit
abbrev pub is_digit : List ℕ → Bool
is_digit [] = false
is_digit (c ∷ cs) = nat_le 48 c && nat_le c 57

-- only white space and a comment stand from a place of a row to the line's end; else what stands there is refused
abbrev pub line_end : Progress → Row → ℕ → Result ℕ YamlRefusal
line_end p row at =
    let rest = text_at row at in
    if is_rest_blank false rest then Ok at else bad BadScalar p row (at + blanks rest)

-- the header of a block scalar, whose `|` or `>` stands at a place: no digit, and nothing else behind it
abbrev pub header : Progress → Row → ℕ → Result (Chomp × ℕ) YamlRefusal
header p row at =
    let chomp = chomp_of (text_at row (at + 1)) in
    let behind = at + 1 + chomp.1 in
    if is_digit (text_at row behind) then bad Unsupported p row behind
    else (line_end p row behind >>= λ behind. Ok (chomp.0, behind))

-- a block scalar, whose content is deeper than a column: its node is asked before its header is read, and its text behind it
abbrev pub block_scalar : ℕ → Properties → Progress → Row → ℕ → ℕ → List Row →
    Result Inline YamlRefusal
block_scalar levels found p row at column content =
    one_node levels p row at 0 >>= λ p.
    header p row at >>= λ read.
    let text = encode_utf8_all
    (block_of (starts 62 (text_at row at)) read.0 column (lines_of_rows content)).0 in
    more_text p row (Here at) (length text) >>=
    λ p. Ok (ending read.1 (finished found (Scalar text, p)))
