-- Texts that begin with a letter, a digit, a slash or a double quote, as the words and the keys of a page do: no other mark of YAML stands there.
use Rattle.std.proofs.Common.{◌≡◌, ℕ, ◌<◌, ◌&&◌, ◌||◌, Bool, true, false, eqb, List, ◌∷◌, Ok, refl, arith}
use Rattle.std.proofs.lemmas.Bool.{agree_below, agree_below_at}
use Rattle.std.proofs.lemmas.Bool.Decides.{nat_tests}
use Rattle.std.specs.Char.{is_ascii_alphanumeric}
use Rattle.yaml_groups.specs.Grouped.{begins_block, begins_flow}
use Rattle.yaml_lines.specs.Blanks.{blanks, is_rest_blank, is_tab_first, is_white, spaces}
use Rattle.yaml_lines.specs.declared.row.Row.{Row}
use Rattle.yaml_lines.specs.Plain.{is_colon}
use Rattle.yaml_nodes.specs.declared.progress.Progress.{Progress}
use Rattle.yaml_nodes.specs.Marks.{is_item, is_left_out, is_property, is_quote, properties_len, starts}
use Rattle.yaml_nodes.specs.Properties.{no_properties, properties_from}
use Rattle.yaml_tree.specs.Reading.{is_start}

-- a letter, a digit, a slash or a double quote
abbrev pub is_first : ℕ → Bool
is_first c = eqb c 34 || (is_ascii_alphanumeric c || eqb c 47)

pub first_below : (c : ℕ) → is_first c ≡ true → c < 128
first_below c first = grind (arith, nat_tests)

-- a test that none of a class of characters passes
pub excluded : (class test : ℕ → Bool) → agree_below (λ c. class c && test c) (λ c. false) 128 ≡ true → (c : ℕ) → c < 128 → class c ≡ true → test c ≡ false
excluded class test none c low is =
    let both = agree_below_at (λ c. class c && test c) (λ c. false) 128 c none low in
    rw is at both

pub never : (test : ℕ → Bool) → agree_below (λ c. is_first c && test c) (λ c. false) 128 ≡ true → (c : ℕ) → is_first c ≡ true → test c ≡ false
never test none c first = excluded is_first test none c (first_below c first) first

module _ (c : ℕ) (cs : List ℕ) (first : is_first c ≡ true) where
  no : (test : ℕ → Bool) → agree_below (λ c. is_first c && test c) (λ c. false) 128 ≡ true → test c ≡ false
  no test none = never test none c first

  pub not_white : is_white c ≡ false
  not_white = no is_white refl

  pub not_blank : (white : Bool) → is_rest_blank white (c ∷ cs) ≡ false
  not_blank white = rw (not_white, no (λ d. eqb d 10) refl, no (λ d. eqb d 35) refl)

  pub no_spaces : spaces (c ∷ cs) ≡ 0
  no_spaces = rw (no (λ d. eqb d 32) refl)

  pub no_blanks : blanks (c ∷ cs) ≡ 0
  no_blanks = rw not_white

  pub no_tab : is_tab_first (c ∷ cs) ≡ false
  no_tab = rw (no (λ d. eqb d 32) refl, no (λ d. eqb d 9) refl)

  pub no_alias : starts 42 (c ∷ cs) ≡ false
  no_alias = no (λ d. eqb d 42) refl

  pub no_property : is_property (c ∷ cs) ≡ false
  no_property = no (λ d. is_property (d ∷ cs)) refl

  pub no_item : is_item (c ∷ cs) ≡ false
  no_item = rw (no (λ d. eqb d 45) refl)

  pub no_colon : is_colon (c ∷ cs) ≡ false
  no_colon = rw (no (λ d. eqb d 58) refl)

  pub no_flow : begins_flow (c ∷ cs) ≡ false
  no_flow = no (λ d. begins_flow (d ∷ cs)) refl

  pub no_block : begins_block (c ∷ cs) ≡ false
  no_block = no (λ d. begins_block (d ∷ cs)) refl

  pub no_properties_len : properties_len 0 (c ∷ cs) ≡ 0
  no_properties_len = rw (not_white, no_property)

  pub no_property_from : (may_be_marked : Bool) (p : Progress) (row : Row) (at : ℕ) → properties_from may_be_marked p row at no_properties 0 (c ∷ cs) ≡ Ok no_properties
  no_property_from may_be_marked p row at = rw (not_white, no_property)

  pub not_left_out : is_left_out (c ∷ cs) ≡ false
  not_left_out = rw (no (λ d. eqb 45 d) refl, no (λ d. eqb 46 d) refl, no (λ d. eqb d 37) refl, no (λ d. eqb d 32) refl, no (λ d. eqb 63 d) refl)

  pub no_document_start : is_start (c ∷ cs) ≡ false
  no_document_start = rw (no (λ d. eqb 45 d) refl)

  -- it stands in quotes where a double one is in front
  pub quotes_are : is_quote (c ∷ cs) ≡ eqb c 34
  quotes_are = rw (no (λ d. eqb d 39) refl) refl
