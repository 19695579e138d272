-- Texts that begin with a letter, a digit or `_`: none of YAML's marks stands there.
use Rattle.std.proofs.Common.{◌≡◌, ℕ, ◌<◌, ◌&&◌, ◌||◌, Bool, true, false, eqb, List, ◌∷◌, None, Ok, refl, arith}
use Rattle.std.proofs.lemmas.Bool.{agree_below, agree_below_at}
use Rattle.std.proofs.lemmas.Bool.Decides.{nat_tests}
use Rattle.yaml_groups.specs.Grouped.{begins_block, begins_flow}
use Rattle.yaml_lines.specs.Blanks.{blanks, is_rest_blank, is_white, spaces, tab_indent}
use Rattle.yaml_lines.specs.declared.plain.Context.TheVariants.{Block}
use Rattle.yaml_lines.specs.declared.row.Row.{Row}
use Rattle.yaml_lines.specs.Plain.{begins_plain, ends_plain, is_colon, is_flow_mark, is_indicator, is_mark_before_space}
use Rattle.yaml_nodes.specs.declared.progress.Progress.{Progress}
use Rattle.yaml_nodes.specs.declared.properties.Properties.{Properties}
use Rattle.yaml_nodes.specs.Marks.{is_item, is_left_out, is_property, is_quote, properties_len, starts}
use Rattle.yaml_nodes.specs.Properties.{properties_from}
use Rattle.laws_yaml.specs.BlockLaws.{is_word_char}
use Rattle.yaml_tree.specs.Reading.{is_start}

pub word_below : (c : ℕ) → is_word_char c ≡ true → c < 123
word_below c word = grind (arith, nat_tests)

-- a test that no letter, no digit and no `_` passes
pub never : (test : ℕ → Bool) → agree_below (λ c. is_word_char c && test c) (λ c. false) 123 ≡ true → (c : ℕ) → is_word_char c ≡ true → test c ≡ false
never test none c word =
    let both = agree_below_at (λ c. is_word_char c && test c) (λ c. false) 123 c none (word_below c word) in
    rw word at both

module _ (c : ℕ) (cs : List ℕ) (word : is_word_char c ≡ true) where
  pub not_blank : (white : Bool) → is_rest_blank white (c ∷ cs) ≡ false
  not_blank white = rw (never is_white refl c word, never (λ d. eqb d 10) refl c word, never (λ d. eqb d 35) refl c word)

  pub no_spaces : spaces (c ∷ cs) ≡ 0
  no_spaces = rw (never (λ d. eqb d 32) refl c word)

  pub no_blanks : blanks (c ∷ cs) ≡ 0
  no_blanks = rw (never is_white refl c word)

  pub no_tab : tab_indent (c ∷ cs) ≡ None
  no_tab = rw (not_blank true, never (λ d. eqb d 32) refl c word, never (λ d. eqb d 9) refl c word)

  pub no_alias : starts 42 (c ∷ cs) ≡ false
  no_alias = never (λ d. eqb d 42) refl c word

  pub no_quote : is_quote (c ∷ cs) ≡ false
  no_quote = never (λ d. is_quote (d ∷ cs)) refl c word

  pub no_property : is_property (c ∷ cs) ≡ false
  no_property = never (λ d. is_property (d ∷ cs)) refl c word

  pub no_item : is_item (c ∷ cs) ≡ false
  no_item = rw (never (λ d. eqb d 45) refl c word)

  pub no_colon : is_colon (c ∷ cs) ≡ false
  no_colon = rw (never (λ d. eqb d 58) refl c word)

  pub no_flow : begins_flow (c ∷ cs) ≡ false
  no_flow = never (λ d. begins_flow (d ∷ cs)) refl c word

  pub no_block : begins_block (c ∷ cs) ≡ false
  no_block = never (λ d. begins_block (d ∷ cs)) refl c word

  pub plain_begins : begins_plain (c ∷ cs) ≡ true
  plain_begins = rw (never is_mark_before_space refl c word, never (λ d. is_white d || (eqb d 10 || (is_flow_mark d || is_indicator d))) refl c word)

  pub plain_goes_on : ends_plain Block false (c ∷ cs) ≡ false
  plain_goes_on = rw (no_colon, never (λ d. eqb d 35) refl c word, never (λ d. eqb d 10) refl c word)

  pub no_properties_len : properties_len 0 (c ∷ cs) ≡ 0
  no_properties_len = rw (never is_white refl c word, no_property)

  pub no_property_from : (may_be_marked : Bool) (p : Progress) (row : Row) (at : ℕ) (found : Properties) → properties_from may_be_marked p row at found 0 (c ∷ cs) ≡ Ok found
  no_property_from may_be_marked p row at found = rw (never is_white refl c word, no_property)

  pub not_left_out : is_left_out (c ∷ cs) ≡ false
  not_left_out =
      rw (never (λ d. eqb 45 d) refl c word, never (λ d. eqb 46 d) refl c word, never (λ d. eqb d 37) refl c word, never (λ d. eqb d 32) refl c word, never (λ d. eqb 63 d) refl c word)

  pub no_document_start : is_start (c ∷ cs) ≡ false
  no_document_start = rw (never (λ d. eqb 45 d) refl c word)
