-- Words behind a minus, as numbers below zero are, are read as they stand where they take the rest of a line.
use Rattle.std.proofs.Common.{◌≡◌, ◌∙◌, ℕ, ◌+◌, ◌&&◌, ◌||◌, not, Bool, true, false, cond, eqb, List, [], ◌∷◌, ◌++◌, Option, Some, None, drop, length, take, refl, sym, ap, add-one, add-zero, append-nil, arith}
use Rattle.std.proofs.Math.Seq.{take-append_seam}
use Rattle.std.proofs.lemmas.Bool.{cond-false, cond-true}
use Rattle.std.proofs.lemmas.List.{drop_at}
use Rattle.std.specs.Prelude.{nat_lt}
use Rattle.std.specs.List.{ends_with, list_all}
use Rattle.std.specs.Str.{encode_utf8_all}
use Rattle.project_print.specs.Scalars.{is_plain_byte}
use Rattle.tree_base.specs.declared.tree.Tree.{Tree}
use Rattle.tree_base.specs.declared.tree.Tree.TheVariants.{Scalar}
use Rattle.yaml_lines.specs.Blanks.{blanks}
use Rattle.yaml_lines.specs.declared.plain.Context.{Context}
use Rattle.yaml_lines.specs.declared.plain.Context.TheVariants.{Block, Flow}
use Rattle.yaml_lines.specs.declared.row.Row.{Row}
use Rattle.yaml_lines.specs.Plain.{begins_plain, ends_plain, is_colon, plain_len, plain_of, plain_run, trimmed_len}
use Rattle.yaml_nodes.specs.declared.progress.Progress.{Progress}
use Rattle.yaml_nodes.specs.Marks.{before_colon, is_item, is_key, is_quote, key_len}
use Rattle.yaml_nodes.specs.Properties.{no_properties}
use Rattle.yaml_nodes.specs.Scalars.{is_null_word, scalar_at}
use Rattle.yaml_nodes.specs.Scalars as nodes
use Rattle.laws_yaml.proofs.Sizes.{scalar_sizes}
use Rattle.laws_yaml.proofs.Firsts.{excluded}
use Rattle.laws_yaml.proofs.LoneScalars.{alone_is, lone_is}
use Rattle.laws_yaml.proofs.PlainRuns.{is_word_start, plain_read, start_below}
use Rattle.laws_yaml.proofs.Spelled.{encoded}
use Rattle.laws_yaml.proofs.Values.{IsValue}

-- how long a plain scalar is that is read
plain_len_of : (context : Context) (cs text : List ℕ) (n : ℕ) → plain_of context cs ≡ Some (text, n)
    → plain_len context cs ≡ n
plain_len_of context cs text n = by (begins_plain cs)
  where
    by : (b : Bool)
        → cond {A = Option (List ℕ × ℕ)} b (Some (take (plain_len context cs) cs, plain_len context cs)) None ≡ Some (text, n)
        → plain_len context cs ≡ n
    by true h = let both : ◌≡◌ {A = List ℕ × ℕ} (take (plain_len context cs) cs, plain_len context cs) (text, n) = cc in ap (λ (p : List ℕ × ℕ). p.1) both
    by false h = absurd (cc)

-- a minus makes it longer by one
longer : (context : Context) (cs : List ℕ) → plain_len context (45 ∷ cs) ≡ plain_len context cs + 1
longer Block cs = ap (λ k. trimmed_len (take k (45 ∷ cs))) (add-one (plain_run Block false cs))
longer Flow cs = ap (λ k. trimmed_len (take k (45 ∷ cs))) (add-one (plain_run Flow false cs))

never_colon : (a : Bool) → ((a && (false || false)) || false) ≡ false
never_colon true = refl
never_colon false = refl

module _ (c : ℕ) (cs : List ℕ) (start : is_word_start c ≡ true) (bytes : list_all is_plain_byte (c ∷ cs) ≡ true) (closed : ends_with eqb (c ∷ cs) (58 ∷ []) ≡ false) where
  abbrev text : List ℕ
  text = 45 ∷ c ∷ cs

  abbrev tree : Tree
  tree = Scalar (encode_utf8_all text)

  no_space : (eqb c 32 || eqb c 10) ≡ false
  no_space = excluded is_word_start (λ d. eqb d 32 || eqb d 10) refl c (start_below c start) start

  no_dash : eqb 45 c ≡ false
  no_dash = excluded is_word_start (λ d. eqb 45 d) refl c (start_below c start) start

  pub begins : (rest : List ℕ) → begins_plain (text ++ rest) ≡ true
  begins rest = ap not no_space

  pub len_is : (context : Context) (rest : List ℕ) → ends_plain context false rest ≡ true
      → plain_len context (text ++ rest) ≡ length text
  len_is context rest ends =
      let end : length (c ∷ cs) + 1 ≡ length text = omega arith in
      longer context (c ∷ (cs ++ rest))
      ∙ ap (λ n. n + 1) (plain_len_of context (c ∷ (cs ++ rest)) (c ∷ cs) (length (c ∷ cs)) (plain_read context c cs rest start bytes closed ends))
      ∙ end

  plain_is : (context : Context) (rest : List ℕ) → ends_plain context false rest ≡ true
      → plain_of context (text ++ rest) ≡ Some (text, length text)
  plain_is context rest ends =
      cond-true (begins_plain (text ++ rest)) _ _ (begins rest)
      ∙ ap (λ k. Some (take k (text ++ rest), k)) (len_is context rest ends)
      ∙ ap (λ t. Some (t, length text)) (take-append_seam text rest)

  key_len_is : (context : Context) (rest : List ℕ) → ends_plain context false rest ≡ true
      → key_len context (text ++ rest) ≡ length text
  key_len_is context rest ends = cond-true (begins_plain (text ++ rest)) _ _ (begins rest) ∙ len_is context rest ends

  no_null : is_null_word (encode_utf8_all text) ≡ false
  no_null = ap is_null_word (encoded text bytes)

  -- where it stands it is read as its text
  pub reads_at : (context : Context) (rest : List ℕ) → ends_plain context false rest ≡ true
      → (p : Progress) (row : Row) (at : ℕ) → drop at row.chars ≡ text ++ rest
      → scalar_at context no_properties p row at ≡ nodes.scalar no_properties p row at tree (encode_utf8_all text) (length text)
  reads_at context rest ends p row at here =
      cond-false (is_quote (drop at row.chars)) _ _ (ap is_quote here)
      ∙ ap (λ l. nodes.plain_scalar no_properties p row at (plain_of context l)) here
      ∙ ap (nodes.plain_scalar no_properties p row at) (plain_is context rest ends)
      ∙ rw no_null refl

  behind : (rest : List ℕ) → drop (length text) (text ++ rest) ≡ rest
  behind rest = drop_at text rest (length text) refl

  -- nothing stands between it and what stands behind it
  behind_key : (context : Context) (rest : List ℕ) → ends_plain context false rest ≡ true → blanks rest ≡ 0
      → drop (before_colon context (text ++ rest)) (text ++ rest) ≡ rest
  behind_key context rest ends black =
      let all : List ℕ = text ++ rest in
      ap (λ n. drop (n + blanks (drop n all)) all) (key_len_is context rest ends)
      ∙ ap (λ l. drop (length text + blanks l) all) (behind rest)
      ∙ ap (λ k. drop (length text + k) all) black
      ∙ ap (λ n. drop n all) (add-zero (length text))
      ∙ behind rest

  pub no_key : (context : Context) (rest : List ℕ) → ends_plain context false rest ≡ true → blanks rest ≡ 0
      → is_colon rest ≡ false
      → (is_key context (text ++ rest) || false) ≡ false
  no_key Block rest ends black colon =
      ap (λ r. (nat_lt 0 (key_len Block (text ++ rest)) && (is_colon r || false)) || false) (behind_key Block rest ends black)
      ∙ ap (λ b. (nat_lt 0 (key_len Block (text ++ rest)) && (b || false)) || false) colon
      ∙ never_colon (nat_lt 0 (key_len Block (text ++ rest)))
  no_key Flow rest ends black colon =
      ap (λ r. (nat_lt 0 (key_len Flow (text ++ rest)) && (is_colon r || false)) || false) (behind_key Flow rest ends black)
      ∙ ap (λ b. (nat_lt 0 (key_len Flow (text ++ rest)) && (b || false)) || false) colon
      ∙ never_colon (nat_lt 0 (key_len Flow (text ++ rest)))

  whole : text ++ [] ≡ text
  whole = λ i. 45 ∷ c ∷ append-nil cs i

  reads_alone : (p : Progress) (row : Row) (at : ℕ) → drop at row.chars ≡ text
      → scalar_at Block no_properties p row at ≡ nodes.scalar no_properties p row at tree (encode_utf8_all text) (length text)
  reads_alone p row at here = reads_at Block [] refl p row at (here ∙ sym whole)

  or_first : (a : Bool) → (a || false) ≡ false → a ≡ false
  or_first true h = h
  or_first false h = refl

  no_key_alone : (is_key Block text || false) ≡ false
  no_key_alone = ap (λ t. is_key Block t || false) (sym whole) ∙ no_key Block [] refl refl refl

  -- it stands for a text
  pub minus_value : IsValue text tree
  minus_value = record {
    black = λ white. refl;
    unindented = refl;
    unblanked = refl;
    untabbed = refl;
    kept = rw no_dash refl;
    inside = rw no_dash refl;
    bare = refl;
    no_run = refl;
    none_from = λ may_be_marked p row at. refl;
    undashed = no_space;
    unkeyed = no_key_alone;
    head = λ owner at. cond-false (is_item text) _ _ no_space ∙ cond-false (is_key Block text) _ _ (or_first (is_key Block text) no_key_alone);
    lone = lone_is text (encode_utf8_all text) tree (scalar_sizes (encode_utf8_all text)) refl refl refl reads_alone;
    alone = alone_is text (encode_utf8_all text) tree (scalar_sizes (encode_utf8_all text)) refl refl refl reads_alone;
  }
