-- What is read on one line is within the limits.
use Rattle.std.proofs.Common.{◌≡◌, ℕ, ◌+◌, ◌≤◌, List, [], length, Bool, true, false, Option, Some, None, refl, arith, if◌then◌else◌}
use Rattle.std.proofs.lemmas.Bool.{ltb-false}
use Rattle.std.specs.Str.{encode_utf8_all}
use Rattle.tree_base.specs.Trees.{depth, node_count, text_size}
use Rattle.tree_base.specs.declared.tree.Tree.{Tree}
use Rattle.tree_base.specs.declared.tree.Tree.TheVariants.{Null, Scalar}
use Rattle.yaml_lines.specs.declared.plain.Context.{Context}
use Rattle.yaml_lines.specs.declared.row.Row.{Row}
use Rattle.yaml_lines.specs.Plain.{plain_of}
use Rattle.yaml_lines.specs.Quoted.{quoted_of}
use Rattle.yaml_lines.specs.Rows.{text_at}
use Rattle.yaml_nodes.specs.Marks.{is_quote, starts}
use Rattle.yaml_nodes.specs.declared.progress.Progress.{Progress}
use Rattle.yaml_nodes.specs.declared.properties.Properties.{Properties}
use Rattle.yaml_nodes.specs.declared.spot.Spot.{Spot}
use Rattle.yaml_nodes.specs.declared.spot.Spot.TheVariants.{Here}
use Rattle.yaml_nodes.specs.Progress.{more_text, more_nodes, taken, one_node, copied}
use Rattle.yaml_nodes.specs.Properties.{is_spelled, unspelled}
use Rattle.yaml_nodes.specs.Scalars.{nothing, scalar, quoted_scalar, plain_scalar, scalar_at, is_plain_null, copy_named, alias, word, block_scalar}
use Rattle.laws_yaml.proofs.Chains.{Yields, given, refused, either, either_by, chained, followed, weaker}
use Rattle.laws_yaml.proofs.Limits.{IsWithin, Counts, Grows, GrowsInline, finished_grows}
use Rattle.laws_yaml.proofs.Sizes.{null_sizes, scalar_sizes}

-- more bytes, within their limit
pub record CountsText (p : Progress) (long : ℕ) (q : Progress) : Type 0 where
  pub counted : Counts p 0 long q
  pub nodes : q.nodes ≡ p.nodes
  pub text : q.text ≤ 16777216

pub more_text_counts : (p : Progress) (row : Row) (spot : Spot) (bytes : ℕ) → Yields (CountsText p bytes) (more_text p row spot bytes)
more_text_counts p row spot bytes = either_by _ _ _ (λ over. refused _)
    (λ fits. let within = ltb-false 16777216 (p.text + bytes) fits in given _ (record { counted = record { nodes = omega arith; text = omega arith }; nodes = refl; text = omega arith }))

-- more nodes and bytes, within both limits
pub record CountsBoth (p : Progress) (many long : ℕ) (q : Progress) : Type 0 where
  pub counted : Counts p many long q
  pub within : IsWithin q

pub more_nodes_counts : (p : Progress) (row : Row) (spot : Spot) (nodes bytes : ℕ) → Yields (CountsBoth p nodes bytes) (more_nodes p row spot nodes bytes)
more_nodes_counts p row spot nodes bytes = either_by _ _ _ (λ over. refused _)
    (λ fits. let within = ltb-false 200000 (p.nodes + nodes) fits in
    weaker (λ q (h : CountsText (record p { nodes = p.nodes + nodes }) bytes q). record { counted = record { nodes = omega arith; text = omega arith }; within = record { nodes = omega arith; text = omega arith } })
    (more_text_counts (record p { nodes = p.nodes + nodes }) row spot bytes))

-- a node that takes so many levels of those that are left
pub record Takes (levels deep : ℕ) (p : Progress) (many long : ℕ) (q : Progress) : Type 0 where
  pub levels_left : deep ≤ levels
  pub counted : Counts p many long q
  pub within : IsWithin q

pub taken_takes : (levels : ℕ) (p : Progress) (row : Row) (at deep nodes bytes : ℕ) → Yields (Takes levels deep p nodes bytes) (taken levels p row at deep nodes bytes)
taken_takes levels p row at deep nodes bytes = either_by _ _ _ (λ over. refused _)
    (λ fits. let enough = ltb-false levels deep fits in
    weaker (λ q (h : CountsBoth p nodes bytes q). record { levels_left = enough; counted = h.counted; within = h.within }) (more_nodes_counts p row (Here at) nodes bytes))

pub one_node_takes : (levels : ℕ) (p : Progress) (row : Row) (at bytes : ℕ) → Yields (Takes levels 1 p 1 bytes) (one_node levels p row at bytes)
one_node_takes levels p row at bytes = taken_takes levels p row at 1 1 bytes

pub copied_grows : (levels : ℕ) (p : Progress) (row : Row) (at : ℕ) (tree : Tree) → Yields (Grows levels p) (copied levels p row at tree)
copied_grows levels p row at tree = chained _ _ (taken_takes levels p row at (depth tree) (node_count tree) (text_size tree))
    (λ q h. given _ (record { deep = h.levels_left; counted = h.counted; within = h.within }))

-- null, and a scalar of no more bytes than were counted
pub null_grows : {levels : ℕ} {p q : Progress} {long : ℕ} → Takes levels 1 p 1 long q → Grows levels p (Null, q)
null_grows h = let sizes = null_sizes in record { deep = omega arith; counted = record { nodes = omega arith; text = omega arith }; within = h.within }

pub scalar_grows : {levels : ℕ} {p q : Progress} (text : List ℕ) → Takes levels 1 p 1 (length text) q → Grows levels p (Scalar text, q)
scalar_grows text h = let sizes = scalar_sizes text in record { deep = omega arith; counted = record { nodes = omega arith; text = omega arith }; within = h.within }

pub nothing_grows : (levels : ℕ) (found : Properties) (p : Progress) (row : Row) (at : ℕ) → Yields (Grows levels p) (nothing levels found p row at)
nothing_grows levels found p row at = chained _ _ (one_node_takes levels p row at 0)
    (λ q h. given _ (finished_grows levels p found _ (by q h (is_spelled found.tag))))
  where
    by : (q : Progress) → Takes levels 1 p 1 0 q → (spelled : Bool) → Grows levels p (if spelled then Scalar [] else Null, q)
    by q h true = scalar_grows [] h
    by q h false = null_grows h

-- a node that is counted, and its text behind it
with_text : {levels long : ℕ} {p first q : Progress} → Takes levels 1 p 1 0 first → CountsText first long q → Takes levels 1 p 1 long q
with_text t c = record { levels_left = t.levels_left; counted = record { nodes = omega arith; text = omega arith }; within = record { nodes = omega arith; text = c.text } }

module _ (levels : ℕ) (found : Properties) (p first : Progress) (row : Row) (at : ℕ) (takes : Takes levels 1 p 1 0 first) where
  scalar_of_grows : (tree : Tree) (text : List ℕ) (n : ℕ) → ((q : Progress) → Takes levels 1 p 1 (length text) q → Grows levels p (tree, q)) → Yields (GrowsInline levels p) (scalar found first row at tree text n)
  scalar_of_grows tree text n grows = chained _ _ (more_text_counts first row (Here at) (length text))
      (λ q c. given _ (finished_grows levels p found (tree, q) (grows q (with_text takes c))))

  quoted_grows : (read : Option (List ℕ × ℕ)) → Yields (GrowsInline levels p) (quoted_scalar found first row at read)
  quoted_grows None = refused _
  quoted_grows (Some (cs, n)) = scalar_of_grows _ _ n (λ q h. scalar_grows (encode_utf8_all cs) h)

  plain_by : (q : Progress) (text : List ℕ) (null : Bool) → Takes levels 1 p 1 (length (if null then [] else text)) q → Grows levels p (if null then Null else Scalar text, q)
  plain_by q text true h = null_grows h
  plain_by q text false h = scalar_grows text h

  plain_grows : (read : Option (List ℕ × ℕ)) → Yields (GrowsInline levels p) (plain_scalar found first row at read)
  plain_grows None = refused _
  plain_grows (Some (cs, n)) = scalar_of_grows _ _ n (λ q h. plain_by q (encode_utf8_all cs) (is_plain_null found (encode_utf8_all cs)) h)

  scalar_at_grows : (context : Context) → Yields (GrowsInline levels p) (scalar_at context found first row at)
  scalar_at_grows context =
      let cs = text_at row at in
      either (is_quote cs) _ _ (quoted_grows (quoted_of cs)) (plain_grows (plain_of context cs))

copy_grows : (levels : ℕ) (found : Properties) (p : Progress) (row : Row) (at : ℕ) (tree : Option Tree) (n : ℕ) → Yields (GrowsInline levels p) (copy_named levels found p row at tree n)
copy_grows levels found p row at None n = refused _
copy_grows levels found p row at (Some tree) n = chained _ _ (copied_grows levels p row at tree) (λ got h. given _ (finished_grows levels p found got h))

alias_grows : (levels : ℕ) (found : Properties) (p : Progress) (row : Row) (at : ℕ) → Yields (GrowsInline levels p) (alias levels found p row at)
alias_grows levels found p row at = followed (unspelled p row found) _ (λ found. copy_grows levels found p row at _ _)

-- a scalar or an alias on one line
pub word_grows : (context : Context) (levels : ℕ) (found : Properties) (p : Progress) (row : Row) (at : ℕ) → Yields (GrowsInline levels p) (word context levels found p row at)
word_grows context levels found p row at =
    either (starts 42 (text_at row at)) _ _ (alias_grows levels found p row at)
    (chained _ _ (one_node_takes levels p row at 0) (λ first takes. scalar_at_grows levels found p first row at takes context))

-- a block scalar
pub block_scalar_grows : (levels : ℕ) (found : Properties) (p : Progress) (row : Row) (at column : ℕ) (content : List Row) → Yields (GrowsInline levels p) (block_scalar levels found p row at column content)
block_scalar_grows levels found p row at column content =
    chained _ _ (one_node_takes levels p row at 0)
    (λ first t. followed _ _ (λ read. chained _ _ (more_text_counts first row (Here at) _)
    (λ q c. given _ (finished_grows levels p found _ (scalar_grows _ (with_text t c))))))
