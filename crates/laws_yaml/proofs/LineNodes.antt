-- Nodes on one line are read alike in rows without their numbers.
use Rattle.std.proofs.Common.{◌≡◌, ◌∙◌, ℕ, ◌+◌, List, [], ◌∷◌, false, cond, not, ◌&&◌, Option, Some, None, length, map, refl, ap, subst, if◌then◌else◌}
use Rattle.std.specs.Str.{encode_utf8_all}
use Rattle.tree_base.specs.declared.tree.Tree.{Tree}
use Rattle.tree_base.specs.declared.tree.Tree.TheVariants.{Null, Scalar}
use Rattle.yaml_lines.specs.Blanks.{is_rest_blank}
use Rattle.yaml_lines.specs.Block.{block_of, lines_of_rows}
use Rattle.yaml_lines.specs.declared.plain.Context.{Context}
use Rattle.yaml_lines.specs.declared.refusal.YamlFault.TheVariants.{BadScalar, UnknownAlias, Unsupported}
use Rattle.yaml_lines.specs.declared.row.Row.{Row}
use Rattle.yaml_lines.specs.Plain.{plain_of}
use Rattle.yaml_lines.specs.Quoted.{quoted_of}
use Rattle.yaml_lines.specs.Rows.{text_at}
use Rattle.yaml_nodes.specs.declared.progress.Progress.{Progress}
use Rattle.yaml_nodes.specs.declared.properties.Properties.{Properties}
use Rattle.yaml_nodes.specs.declared.spot.Spot.TheVariants.{Here}
use Rattle.yaml_nodes.specs.Marks.{is_quote, starts}
use Rattle.yaml_nodes.specs.Properties.{finished}
use Rattle.yaml_nodes.specs.Scalars.{alias, block_scalar, chomp_of, copy_named, ending, header, is_digit, is_null_word, is_plain_null, line_end, nothing, plain_scalar, quoted_scalar, scalar, scalar_at, word}
use Rattle.laws_yaml.proofs.Alike.{Same, chained, either, gives, followed}
use Rattle.laws_yaml.proofs.Places.{bad_same, bare, copied_same, one_same, text_same}
use Rattle.laws_yaml.proofs.Properties.{bare_found, finished_same, spelled_same, unspelled_same}

-- behind a node only a comment stands on its line
pub line_end_same : (p : Progress) (row : Row) (at : ℕ) → Same (line_end p row at) (line_end p (bare row) at)
line_end_same p row at = either (is_rest_blank false (text_at row at)) (gives refl) (bad_same BadScalar p row _)

header_same : (p : Progress) (row : Row) (at : ℕ) → Same (header p row at) (header p (bare row) at)
header_same p row at =
    let behind = at + 1 + (chomp_of (text_at row (at + 1))).1 in
    either (is_digit (text_at row behind)) (bad_same Unsupported p row behind) (followed (line_end_same p row behind) (λ n. gives refl))

module _ (f g : Properties) (h : bare_found f ≡ bare_found g) where
  pub nothing_same : (levels : ℕ) (p : Progress) (row : Row) (at : ℕ) → Same (nothing levels f p row at) (nothing levels g p (bare row) at)
  nothing_same levels p row at =
      followed (one_same levels p row at 0)
      (λ q. gives (ap (λ b. finished f (if b then Scalar [] else Null, q)) (spelled_same f g h) ∙ finished_same f g h _))

  scalar_same : (p : Progress) (row : Row) (at : ℕ) (tree : Tree) (text : List ℕ) (n : ℕ) → Same (scalar f p row at tree text n) (scalar g p (bare row) at tree text n)
  scalar_same p row at tree text n = followed (text_same p row (Here at) (Here at) (length text) refl) (λ q. gives (ap (ending (at + n)) (finished_same f g h (tree, q))))

  quoted_same : (p : Progress) (row : Row) (at : ℕ) (read : Option (List ℕ × ℕ)) → Same (quoted_scalar f p row at read) (quoted_scalar g p (bare row) at read)
  quoted_same p row at None = bad_same BadScalar p row at
  quoted_same p row at (Some (cs, n)) = scalar_same p row at _ _ n

  null_same : (text : List ℕ) → is_plain_null f text ≡ is_plain_null g text
  null_same text = ap (λ b. is_null_word text && not b) (spelled_same f g h)

  plain_same : (p : Progress) (row : Row) (at : ℕ) (read : Option (List ℕ × ℕ)) → Same (plain_scalar f p row at read) (plain_scalar g p (bare row) at read)
  plain_same p row at None = bad_same BadScalar p row at
  plain_same p row at (Some (cs, n)) =
      let text = encode_utf8_all cs in
      let null = is_plain_null f text in
      subst (λ b. Same (scalar f p row at (cond null Null (Scalar text)) (cond null [] text) n) (scalar g p (bare row) at (cond b Null (Scalar text)) (cond b [] text) n)) (null_same text)
      (scalar_same p row at (cond null Null (Scalar text)) (cond null [] text) n)

  scalar_at_same : (context : Context) (p : Progress) (row : Row) (at : ℕ) → Same (scalar_at context f p row at) (scalar_at context g p (bare row) at)
  scalar_at_same context p row at =
      let cs = text_at row at in
      either (is_quote cs) (quoted_same p row at (quoted_of cs)) (plain_same p row at (plain_of context cs))

  copy_same : (levels : ℕ) (p : Progress) (row : Row) (at : ℕ) (tree : Option Tree) (n : ℕ) → Same (copy_named levels f p row at tree n) (copy_named levels g p (bare row) at tree n)
  copy_same levels p row at None n = bad_same UnknownAlias p row at
  copy_same levels p row at (Some tree) n = followed (copied_same levels p row at tree) (λ got. gives (ap (ending (at + n)) (finished_same f g h got)))

  block_scalar_by : (levels : ℕ) (p : Progress) (row : Row) (at column : ℕ) (content content' : List Row) → lines_of_rows content' ≡ lines_of_rows content
      → Same (block_scalar levels f p row at column content) (block_scalar levels g p (bare row) at column content')
  block_scalar_by levels p row at column content content' e =
      followed (one_same levels p row at 0)
      (λ q. followed (header_same q row at)
      (λ read. let text = λ (lines : List (List ℕ)). encode_utf8_all (block_of (starts 62 (text_at row at)) read.0 column lines).0 in
      rw e (followed (text_same q row (Here at) (Here at) (length (text (lines_of_rows content))) refl)
      (λ q. gives (ap (ending read.1) (finished_same f g h (Scalar (text (lines_of_rows content)), q)))))))

alias_same : (f g : Properties) → bare_found f ≡ bare_found g → (levels : ℕ) (p : Progress) (row : Row) (at : ℕ) → Same (alias levels f p row at) (alias levels g p (bare row) at)
alias_same f g h levels p row at = chained (unspelled_same p row f g h) (λ x y k. copy_same x y k levels p row at _ _)

-- a scalar or an alias
pub word_same : (f g : Properties) → bare_found f ≡ bare_found g → (context : Context) (levels : ℕ) (p : Progress) (row : Row) (at : ℕ) → Same (word context levels f p row at) (word context levels g p (bare row) at)
word_same f g h context levels p row at =
    either (starts 42 (text_at row at)) (alias_same f g h levels p row at) (followed (one_same levels p row at 0) (λ q. scalar_at_same f g h context q row at))

pub lines_bare : (rows : List Row) → lines_of_rows (map bare rows) ≡ lines_of_rows rows
lines_bare [] = refl
lines_bare (row ∷ rows) = ap (λ lines. row.chars ∷ lines) (lines_bare rows)

-- a block scalar
pub block_scalar_same : (f g : Properties) → bare_found f ≡ bare_found g → (levels : ℕ) (p : Progress) (row : Row) (at column : ℕ) (content : List Row)
    → Same (block_scalar levels f p row at column content) (block_scalar levels g p (bare row) at column (map bare content))
block_scalar_same f g h levels p row at column content = block_scalar_by f g h levels p row at column content (map bare content) (lines_bare content)
