-- Every node that is readable reads back from its flow, by induction on the levels.
use Rattle.std.proofs.Common.{◌≡◌, ◌∙◌, ℕ, zero, suc, ◌≤◌, All, true, codes, List, [], ◌∷◌, ◌++◌, map, refl, sym, ap, subst, rules, arith}
use Rattle.std.proofs.lemmas.Bool.{and_parts}
use Rattle.std.proofs.lemmas.List.Elements.{All-cons, All-nil}
use Rattle.std.specs.List.{list_all}
use Rattle.project_print.specs.declared.node.Node.{Node, the_lemmas}
use Rattle.project_print.specs.declared.node.Node.TheVariants as nodes
use Rattle.project_print.specs.Scalars.{doubled, scalar}
use Rattle.tree_base.specs.declared.tree.Tree.{Tree}
use Rattle.tree_base.specs.Trees.{depth, greatest}
use Rattle.laws_yaml.proofs.Sizes.{map_sizes, seq_sizes}
use Rattle.laws_yaml.specs.Readable.{are_distinct, is_readable, is_so, spelled_by}
use Rattle.laws_yaml.proofs.Induction.{some_level}
use Rattle.laws_yaml.proofs.Layers.{of_each, readable_map, readable_seq, readable_word, spelled_entry, spelled_keys, spelled_map, spelled_null, spelled_seq, spelled_text, spelled_word}
use Rattle.laws_yaml.proofs.FlowMappings.{mapping_is}
use Rattle.laws_yaml.proofs.FlowSequences.{sequence_is}
use Rattle.laws_yaml.proofs.FlowTexts.{IsFlowText}
use Rattle.laws_yaml.proofs.ScalarTexts.{null_flow, text_flow, word_flow}
use Rattle.laws_yaml.specs.Flows.{flow_text, pair, separated}

-- what a flow is of each kind of node
pub null_text : flow_text nodes.Null ≡ codes "null"
null_text = search (rules, the_lemmas)

pub word_text : (text : List ℕ) → flow_text (nodes.Word text) ≡ text
word_text text = search (rules, the_lemmas)

pub text_text : (text : List ℕ) → flow_text (nodes.Text text) ≡ scalar (doubled text)
text_text text = search (rules, the_lemmas)

map_text_at : (es : List (List ℕ × Node))
    → flow_text (nodes.Map es) ≡ 123 ∷ (separated (map pair (map (λ (e : List ℕ × Node). (e.0, flow_text e.1)) es)) ++ 125 ∷ [])
map_text_at es = search (rules, the_lemmas)

-- an entry as a flow has it
abbrev pub pair_of : List ℕ × Node → List ℕ
pair_of e = pair (e.0, flow_text e.1)

pairs_are : (es : List (List ℕ × Node))
    → map pair (map (λ (e : List ℕ × Node). (e.0, flow_text e.1)) es) ≡ map pair_of es
pairs_are [] = refl
pairs_are (e ∷ es) = ap (λ l. pair_of e ∷ l) (pairs_are es)

pub map_text : (es : List (List ℕ × Node))
    → flow_text (nodes.Map es) ≡ 123 ∷ (separated (map pair_of es) ++ 125 ∷ [])
map_text es = map_text_at es ∙ ap (λ l. 123 ∷ (separated l ++ 125 ∷ [])) (pairs_are es)

pub seq_text : (xs : List Node) → flow_text (nodes.Seq xs) ≡ 91 ∷ (separated (map flow_text xs) ++ 93 ∷ [])
seq_text xs = search (rules, the_lemmas)

-- a node of so many levels that is readable reads back from its flow
abbrev Claim : ℕ → Node → Type 0
Claim levels node = is_readable node ≡ true → depth (spelled_by node) ≤ levels → IsFlowText levels (flow_text node) (spelled_by node)

as_flow : (levels : ℕ) (text other : List ℕ) (tree same : Tree) → other ≡ text → same ≡ tree
    → IsFlowText levels text tree → IsFlowText levels other same
as_flow levels text other tree same e f is = subst (λ t. IsFlowText levels t same) (sym e) (subst (λ t. IsFlowText levels text t) (sym f) is)

module _ (levels : ℕ) (back : (node : Node) → Claim levels node) where
  each_value : (es : List (List ℕ × Node)) → list_all is_so (map (λ e. is_readable e.1) es) ≡ true
      → greatest (map (λ (e : List ℕ × Tree). depth e.1) (map spelled_entry es)) ≤ levels
      → All (λ (e : List ℕ × Node). IsFlowText levels (flow_text e.1) (spelled_by e.1)) es
  each_value [] so deep = All-nil (λ (e : List ℕ × Node). IsFlowText levels (flow_text e.1) (spelled_by e.1))
  each_value (e ∷ es) so deep =
      let p = and_parts (is_readable e.1) (list_all is_so (map (λ e. is_readable e.1) es)) so in
      All-cons (λ (e : List ℕ × Node). IsFlowText levels (flow_text e.1) (spelled_by e.1)) e es (back e.1 p.0 (omega (arith, deep))) (each_value es p.1 (omega (arith, deep)))

  each_item : (xs : List Node) → list_all is_so (map is_readable xs) ≡ true
      → greatest (map depth (map spelled_by xs)) ≤ levels
      → All (λ x. IsFlowText levels (flow_text x) (spelled_by x)) xs
  each_item [] so deep = All-nil (λ x. IsFlowText levels (flow_text x) (spelled_by x))
  each_item (x ∷ xs) so deep =
      let p = and_parts (is_readable x) (list_all is_so (map is_readable xs)) so in
      All-cons (λ x. IsFlowText levels (flow_text x) (spelled_by x)) x xs (back x p.0 (omega (arith, deep))) (each_item xs p.1 (omega (arith, deep)))

  map_claim : (es : List (List ℕ × Node)) → Claim (suc levels) (nodes.Map es)
  map_claim es readable deep =
      let p = and_parts (are_distinct (spelled_keys es)) (list_all is_so (map (λ e. is_readable e.1) es)) (sym (readable_map es) ∙ readable) in
      let sizes = map_sizes (map spelled_entry es) in
      let same = ap depth (spelled_map es) in
      as_flow (suc levels) _ _ _ _ (map_text es) (spelled_map es)
      (mapping_is levels (λ (e : List ℕ × Node). e.0) (λ (e : List ℕ × Node). flow_text e.1) (λ (e : List ℕ × Node). spelled_by e.1) es (each_value es p.1 (omega (arith, deep, sizes.levels, same))) p.0)

  seq_claim : (xs : List Node) → Claim (suc levels) (nodes.Seq xs)
  seq_claim xs readable deep =
      let sizes = seq_sizes (map spelled_by xs) in
      let same = ap depth (spelled_seq xs) in
      as_flow (suc levels) _ _ _ _ (seq_text xs) (spelled_seq xs) (sequence_is levels flow_text spelled_by xs (each_item xs (sym (readable_seq xs) ∙ readable) (omega (arith, deep, sizes.levels, same))))

  more_levels : (node : Node) → Claim (suc levels) node
  more_levels =
      of_each (Claim (suc levels)) (λ readable deep. as_flow (suc levels) _ _ _ _ null_text spelled_null (null_flow levels))
      (λ text readable deep. as_flow (suc levels) _ _ _ _ (word_text text) (spelled_word text) (word_flow levels text (sym (readable_word text) ∙ readable)))
      (λ text readable deep. as_flow (suc levels) _ _ _ _ (text_text text) (spelled_text text) (text_flow levels (doubled text)))
      map_claim seq_claim

pub flows_are : (levels : ℕ) (node : Node) → Claim levels node
flows_are zero node = λ readable deep. let some = some_level node in absurd (omega (arith, some, deep))
flows_are (suc levels) node = more_levels levels (flows_are levels) node
