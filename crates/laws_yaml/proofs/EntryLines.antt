-- A line that is a word, a colon, a space and a word: where its parts stand.
use Rattle.std.proofs.Common.{◌≡◌, ◌∙◌, ℕ, suc, ◌+◌, ◌&&◌, ◌||◌, Bool, true, false, cond, List, [], ◌∷◌, ◌++◌, Some, None, drop, length, arith, refl, sym, ap}
use Rattle.std.proofs.lemmas.Bool.{and_parts, cond-false}
use Rattle.std.proofs.lemmas.List.{drop-drop, drop_at}
use Rattle.yaml_groups.specs.Grouped.{begins_block, begins_flow, head_of}
use Rattle.yaml_lines.specs.Blanks.{is_white, spaces, tab_indent}
use Rattle.yaml_lines.specs.declared.plain.Context.TheVariants.{Block}
use Rattle.yaml_lines.specs.Plain.{is_colon, plain_of}
use Rattle.yaml_nodes.specs.Marks.{before_colon, is_item, is_key, is_key_behind, is_left_out, is_property, is_quote, starts}
use Rattle.laws_yaml.specs.BlockLaws.{IsWord, are_word_chars, entry_line, is_word_char}
use Rattle.yaml_tree.specs.Reading.{is_start}
use Rattle.laws_yaml.proofs.NumberedLines.{IsOneLine}
use Rattle.laws_yaml.proofs.OneLine.{head_is}
use Rattle.laws_yaml.proofs.PlainWords.{before_is, key_behind, key_is, plain_is}
use Rattle.laws_yaml.proofs.WordLines.{never, no_alias, no_block, no_colon, no_document_start, no_flow, no_item, no_property, no_quote, no_spaces, no_tab, not_blank, not_left_out}

-- a key stands at the first column of a line, and none of the marks that a line may begin with
pub record IsEntryLine (cs : List ℕ) : Type 0 where
  pub first : spaces cs ≡ 0
  pub untabbed : tab_indent cs ≡ None
  pub kept : is_left_out cs ≡ false
  pub inside : is_start cs ≡ false
  pub undashed : is_item cs ≡ false
  pub bare : is_property cs ≡ false
  pub unquoted : is_quote cs ≡ false
  pub own : (starts 42 cs || is_colon cs) ≡ false
  pub keyed : is_key Block cs ≡ true
  pub begins : is_key_behind Block cs ≡ true

-- the third of four cases
pub third_of_four : {A : Type 0} (a b c : Bool) (x y third z : A) → a ≡ false → b ≡ false → c ≡ true → cond a x (cond b y (cond c third z)) ≡ third
third_of_four a b c x y third z p q r = rw (p, q, r)

-- a key and its colon are passed over
passed : (owner at : ℕ) (cs : List ℕ) (d : ℕ) (rest : List ℕ) → head_of owner at (suc (length cs)) (cs ++ d ∷ rest) ≡ head_of owner (at + suc (length cs)) 0 rest
passed owner at [] d rest = refl
passed owner at (c ∷ cs) d rest =
    let e : at + 1 + suc (length cs) ≡ at + suc (suc (length cs)) = omega arith in
    passed owner (at + 1) cs d rest ∙ ap (λ n. head_of owner n 0 rest) e

module _ (c : ℕ) (cs : List ℕ) (chars : are_word_chars (c ∷ cs) ≡ true) (value : List ℕ) where
  is_first : is_word_char c ≡ true
  is_first = (and_parts (is_word_char c) (are_word_chars cs) chars).0

  pub colon_is : before_colon Block (entry_line (c ∷ cs, value)) ≡ suc (length cs)
  colon_is = before_is c cs (58 ∷ 32 ∷ value) chars refl refl

  -- what stands behind the key and so many characters more
  pub behind_key : (at n : ℕ) → at ≡ suc (length cs) + n → drop at (entry_line (c ∷ cs, value)) ≡ drop n (58 ∷ 32 ∷ value)
  behind_key at n e =
      ap (λ k. drop k (entry_line (c ∷ cs, value))) e ∙ sym (drop-drop n (suc (length cs)) (entry_line (c ∷ cs, value)))
      ∙ ap (drop n) (drop_at (c ∷ cs) (58 ∷ 32 ∷ value) (suc (length cs)) refl)

  pub key_of_line : plain_of Block (entry_line (c ∷ cs, value)) ≡ Some (c ∷ cs, suc (length cs))
  key_of_line = plain_is c cs (58 ∷ 32 ∷ value) chars refl

  pub entry_line_is : IsEntryLine (entry_line (c ∷ cs, value))
  entry_line_is =
      let more : List ℕ = cs ++ 58 ∷ 32 ∷ value in
      record {
        first = no_spaces c more is_first;
        untabbed = no_tab c more is_first;
        kept = not_left_out c more is_first;
        inside = no_document_start c more is_first;
        undashed = no_item c more is_first;
        bare = no_property c more is_first;
        unquoted = no_quote c more is_first;
        own = rw (no_alias c more is_first) (no_colon c more is_first);
        keyed = key_is c cs (58 ∷ 32 ∷ value) chars refl refl;
        begins = key_behind c more is_first (key_is c cs (58 ∷ 32 ∷ value) chars refl refl);
      }

pub is_entry_line : (key value : List ℕ) → IsWord key → IsEntryLine (entry_line (key, value))
is_entry_line [] value is = absurd (is.some refl)
is_entry_line (c ∷ cs) value is = entry_line_is c cs is.chars value

module _ (c : ℕ) (cs : List ℕ) (key : are_word_chars (c ∷ cs) ≡ true) (d : ℕ) (ds : List ℕ) (value : are_word_chars (d ∷ ds) ≡ true) where
  place : ℕ
  place = 1 + suc (length cs) + 1

  head_of_line : head_of 0 0 0 (entry_line (c ∷ cs, d ∷ ds)) ≡ (0, place)
  unfolding place
  head_of_line =
      let line = entry_line_is c cs key (d ∷ ds) in
      cond-false _ _ _ (never is_white refl c (is_first c cs key (d ∷ ds))) ∙ third_of_four _ _ _ _ _ _ _ line.undashed line.bare line.keyed
      ∙ ap (λ n. head_of 0 1 n (cs ++ 58 ∷ 32 ∷ d ∷ ds)) (colon_is c cs key (d ∷ ds))
      ∙ passed 0 1 cs 58 (32 ∷ d ∷ ds) ∙ head_is 0 (1 + suc (length cs) + 1) d ds value

  line_is_one : IsOneLine (entry_line (c ∷ cs, d ∷ ds))
  unfolding place
  line_is_one =
      let word = (and_parts (is_word_char d) (are_word_chars ds) value).0 in
      let here = behind_key c cs key (d ∷ ds) place 2 (omega arith) in
      record {
        black = not_blank c (cs ++ 58 ∷ 32 ∷ d ∷ ds) (is_first c cs key (d ∷ ds)) true;
        at = place;
        head = head_of_line;
        flat = ap begins_flow here ∙ no_flow d ds word;
        bare = ap begins_block here ∙ no_block d ds word;
      }

pub entry_is_one : (key value : List ℕ) → IsWord key → IsWord value → IsOneLine (entry_line (key, value))
entry_is_one [] value is has = absurd (is.some refl)
entry_is_one (c ∷ cs) [] is has = absurd (has.some refl)
entry_is_one (c ∷ cs) (d ∷ ds) is has = line_is_one c cs is.chars d ds has.chars
