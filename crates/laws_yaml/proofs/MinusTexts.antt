-- Words behind a minus as nodes of flow collections.
use Rattle.std.proofs.Common.{◌≡◌, ◌∙◌, ℕ, suc, ◌+◌, ◌≤◌, Bool, true, false, eqb, List, [], ◌∷◌, ◌++◌, Ok, drop, length, refl, ap, arith}
use Rattle.std.proofs.lemmas.Bool.{cond-false, cond-true}
use Rattle.std.specs.List.{ends_with, list_all}
use Rattle.std.specs.Str.{encode_utf8_all}
use Rattle.project_print.specs.Scalars.{is_plain_byte}
use Rattle.tree_base.specs.declared.tree.Tree.{Tree}
use Rattle.tree_base.specs.declared.tree.Tree.TheVariants.{Scalar}
use Rattle.tree_base.specs.Trees.{node_count, text_size}
use Rattle.yaml_flow.specs.Flow.{flow}
use Rattle.yaml_groups.specs.Cuts.{token_len}
use Rattle.yaml_lines.specs.declared.plain.Context.TheVariants.{Flow}
use Rattle.yaml_lines.specs.declared.row.Row.{Row}
use Rattle.yaml_lines.specs.Plain.{begins_plain}
use Rattle.yaml_nodes.specs.declared.progress.Progress.{Progress}
use Rattle.yaml_nodes.specs.declared.spot.Spot.TheVariants.{Here}
use Rattle.yaml_nodes.specs.Marks.{starts}
use Rattle.yaml_nodes.specs.Progress.{◌>>=◌}
use Rattle.yaml_nodes.specs.Properties.{no_properties}
use Rattle.yaml_nodes.specs.Scalars.{scalar_at}
use Rattle.yaml_nodes.specs.Scalars as nodes
use Rattle.laws_yaml.proofs.OneLine.{counted, grown, node_fits, text_fits}
use Rattle.laws_yaml.proofs.Sizes.{scalar_sizes}
use Rattle.laws_yaml.proofs.MinusWords.{begins, len_is, no_key, reads_at}
use Rattle.laws_yaml.proofs.PlainRuns.{is_word_start}
use Rattle.laws_yaml.proofs.Ends.{is_end, no_blanks_behind, no_colon_behind, plain_ends}
use Rattle.laws_yaml.proofs.FlowTexts.{IsFlowText}
use Rattle.laws_yaml.proofs.Taken.{Took}
use Rattle.laws_yaml.proofs.FlowTokens.{no_cut, token_goes}

module _ (c : ℕ) (cs : List ℕ) (start : is_word_start c ≡ true) (bytes : list_all is_plain_byte (c ∷ cs) ≡ true) (closed : ends_with eqb (c ∷ cs) (58 ∷ []) ≡ false) where
  abbrev text : List ℕ
  text = 45 ∷ c ∷ cs

  abbrev tree : Tree
  tree = Scalar (encode_utf8_all text)

  token : (white : Bool) (rest : List ℕ) → is_end rest ≡ true → token_len white (text ++ rest) ≡ length text
  token white rest ends = cond-true (begins_plain (text ++ rest)) _ _ (begins c cs start bytes closed rest) ∙ len_is c cs start bytes closed Flow rest (plain_ends rest ends)

  flow_reads : (levels : ℕ) (p : Progress) (row : Row) (at : ℕ) (rest : List ℕ)
      → drop at row.chars ≡ text ++ rest → is_end rest ≡ true
      → p.nodes + node_count tree ≤ 200000 → p.text + text_size tree ≤ 16777216
      → Took (flow (suc levels) no_properties p row at) (tree, at + length text) p (node_count tree) (text_size tree)
  flow_reads levels p row at rest here ends many long =
      let word = encode_utf8_all text in
      let sizes = scalar_sizes word in
      let q : Progress = counted (grown p 1 0) (length word) in
      let fits = node_fits (suc levels) p row at 0 (omega arith) (omega (arith, many, sizes.nodes)) (omega (arith, long)) in
      let room = text_fits (grown p 1 0) row (Here at) (length word) (omega (arith, long, sizes.text)) in
      record {
        after = q;
        is = cond-false (starts 91 (drop at row.chars)) _ _ (ap (starts 91) here)
            ∙ cond-false (starts 123 (drop at row.chars)) _ _ (ap (starts 123) here)
            ∙ cond-false (starts 42 (drop at row.chars)) _ _ (ap (starts 42) here)
            ∙ ap (λ r. r >>= λ q. scalar_at Flow no_properties q row at) fits
            ∙ reads_at c cs start bytes closed Flow rest (plain_ends rest ends) (grown p 1 0) row at here
            ∙ ap (λ r. r >>= λ q. Ok (nodes.ending (at + length text) (tree, q))) room;
        nodes_are = omega (arith, sizes.nodes);
        text_is = omega (arith, sizes.text);
      }

  -- in a flow collection
  pub minus_flow : (levels : ℕ) → IsFlowText (suc levels) text tree
  minus_flow levels = record {
    front = 45;
    more = c ∷ cs;
    is = refl;
    solid = record { feed = refl; white = refl; hash = refl; property = refl };
    goes = λ n rest ends. token_goes n n 45 (c ∷ cs) rest (no_cut n 45 refl) refl (λ white. token white rest ends);
    no_key = λ rest ends. no_key c cs start bytes closed Flow rest (plain_ends rest ends) (no_blanks_behind rest ends) (no_colon_behind rest ends);
    reads = flow_reads levels;
  }
