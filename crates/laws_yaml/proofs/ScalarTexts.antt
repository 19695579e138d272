-- Scalars as nodes of flow collections: what is read where one stands.
use Rattle.std.proofs.Common.{◌≡◌, ◌∙◌, ℕ, suc, ◌+◌, ◌-◌, ◌<◌, ◌≤◌, ◌&&◌, ◌||◌, Bool, true, false, cond, eqb, nat_lt, List, [], ◌∷◌, ◌++◌, Ok, codes, drop, length, refl, sym, ap, subst, add-zero, append-nil, arith}
use Rattle.std.proofs.lemmas.Bool.{and_left, cond-false, cond-true}
use Rattle.std.proofs.lemmas.List.{drop_at}
use Rattle.std.specs.Str.{encode_utf8_all}
use Rattle.yaml_groups.specs.Cuts.{is_closing, is_opening, open_behind, quoted_token, token_len, with_colon}
use Rattle.project_print.specs.Scalars.{scalar}
use Rattle.tree_base.specs.declared.tree.Tree.{Tree}
use Rattle.tree_base.specs.declared.tree.Tree.TheVariants.{Null, Scalar}
use Rattle.tree_base.specs.Trees.{node_count, text_size}
use Rattle.yaml_flow.specs.Flow.{flow}
use Rattle.yaml_lines.specs.Blanks.{blanks, is_white}
use Rattle.yaml_lines.specs.declared.plain.Context.TheVariants.{Flow}
use Rattle.yaml_lines.specs.declared.row.Row.{Row}
use Rattle.yaml_lines.specs.Plain.{begins_plain, ends_plain, is_colon, plain_len}
use Rattle.yaml_lines.specs.Quoted.{quoted_of}
use Rattle.yaml_nodes.specs.declared.progress.Progress.{Progress}
use Rattle.yaml_nodes.specs.declared.spot.Spot.TheVariants.{Here}
use Rattle.yaml_nodes.specs.Marks.{before_colon, is_key, is_key_behind, is_property, is_quote, key_len, read_len, starts}
use Rattle.yaml_nodes.specs.Progress.{◌>>=◌}
use Rattle.yaml_nodes.specs.Properties.{no_properties}
use Rattle.yaml_nodes.specs.Scalars.{scalar_at}
use Rattle.yaml_nodes.specs.Scalars as nodes
use Rattle.laws_yaml.proofs.OneLine.{counted, grown, node_fits, text_fits}
use Rattle.laws_yaml.proofs.Sizes.{IsOfSizes, null_sizes, scalar_sizes}
use Rattle.laws_yaml.specs.Readable.{is_read_as_word}
use Rattle.laws_yaml.proofs.Firsts.{is_first, never, no_alias, no_colon, no_properties_len, quotes_are}
use Rattle.laws_yaml.proofs.PlainRuns.{plain_read}
use Rattle.laws_yaml.proofs.Spelled.{IsSpelled, scalar_spelled, word_spelled}
use Rattle.laws_yaml.proofs.Words.{of_word}
use Rattle.laws_yaml.proofs.PageTokens.{front_len, len_is, null_scalar, scalar_is}
use Rattle.laws_yaml.proofs.Ends.{is_end, no_blanks_behind, no_colon_behind, no_key_colon, no_mark_behind, plain_ends}
use Rattle.laws_yaml.proofs.FlowTexts.{IsFlowText, IsSolid}
use Rattle.laws_yaml.proofs.MinusTexts.{minus_flow}
use Rattle.laws_yaml.proofs.Taken.{Took}
use Rattle.laws_yaml.proofs.FlowTokens.{no_cut, token_goes}

pub first_solid : (c : ℕ) → is_first c ≡ true → IsSolid c
first_solid c first = record {
  feed = never (λ d. eqb d 10) refl c first;
  white = never is_white refl c first;
  hash = never (λ d. eqb d 35) refl c first;
  property = never (λ d. eqb d 38 || eqb d 33) refl c first;
}

-- it opens and closes no bracket
pub first_opens : (n c : ℕ) → is_first c ≡ true → open_behind n c ≡ n
first_opens n c first = last_of_three (is_opening c) (is_closing c) (n + 1) (n - 1) n (never is_opening refl c first) (never is_closing refl c first)
  where
    last_of_three : {A : Type 0} (a b : Bool) (x y last : A) → a ≡ false → b ≡ false
        → cond a x (cond b y last) ≡ last
    last_of_three a b x y last p q = rw (p, q) refl

no_length : (n : ℕ) → 0 < n → 0 ≡ n → ⊥
no_length n some none = omega (arith, some, none)

module _ (c : ℕ) (cs : List ℕ) (first : is_first c ≡ true) (n : ℕ) (some : 0 < n) (len : key_len Flow (c ∷ cs) ≡ n) where
  no_comment : (white : Bool) → (eqb c 35 && white) ≡ false
  no_comment white = and_left (eqb c 35) white (never (λ d. eqb d 35) refl c first)

  -- a scalar in quotes is a token with the colon behind it
  pub quoted_token_is : eqb c 34 ≡ true → (white : Bool)
      → token_len white (c ∷ cs) ≡ with_colon n (drop n (c ∷ cs))
  quoted_token_is in_quotes white =
      let quotes : is_quote (c ∷ cs) ≡ true = quotes_are c cs first ∙ in_quotes in
      let read : read_len (quoted_of (c ∷ cs)) ≡ n = sym (cond-true (is_quote (c ∷ cs)) (read_len (quoted_of (c ∷ cs))) _ quotes) ∙ len in
      cond-false (eqb c 35 && white) _ _ (no_comment white)
      ∙ cond-true (is_quote (c ∷ cs)) (quoted_token (c ∷ cs)) _ quotes
      ∙ ap (λ k. with_colon k (drop k (c ∷ cs))) read

  -- and a plain one is a token
  pub plain_token_is : eqb c 34 ≡ false → (white : Bool) → token_len white (c ∷ cs) ≡ n
  plain_token_is bare white =
      cond-false (eqb c 35 && white) _ _ (no_comment white)
      ∙ cond-false (is_quote (c ∷ cs)) _ _ (quotes_are c cs first ∙ bare)
      ∙ cond-false (is_property (c ∷ cs) || starts 42 (c ∷ cs)) _ _ (never (λ d. (eqb d 38 || eqb d 33) || eqb d 42) refl c first)
      ∙ by (begins_plain (c ∷ cs)) refl
    where
      key : key_len Flow (c ∷ cs) ≡ cond (begins_plain (c ∷ cs)) (plain_len Flow (c ∷ cs)) 0
      key = cond-false (is_quote (c ∷ cs)) _ _ (quotes_are c cs first ∙ bare) ∙ cond-false (starts 42 (c ∷ cs)) _ _ (no_alias c cs first)

      by : (b : Bool) → begins_plain (c ∷ cs) ≡ b → cond b (plain_len Flow (c ∷ cs)) 1 ≡ n
      by true h = sym (key ∙ cond-true (begins_plain (c ∷ cs)) _ _ h) ∙ len
      by false h = absurd (no_length n some (sym (key ∙ cond-false (begins_plain (c ∷ cs)) _ _ h) ∙ len))

no_by : (a m b s : Bool) → b ≡ false → s ≡ false → (a && (b || (m && s))) ≡ false
no_by a m b s p q = rw (p, q) (none a m)
  where
    none : (a m : Bool) → (a && (false || (m && false))) ≡ false
    none true true = refl
    none true false = refl
    none false true = refl
    none false false = refl

-- characters that are the text of a scalar, before what may stand behind it
module _ (c : ℕ) (cs : List ℕ) (first : is_first c ≡ true) (tree : Tree) (bytes : List ℕ) (sizes : IsOfSizes tree 1 1 (length bytes))
    (len : (rest : List ℕ) → is_end rest ≡ true → key_len Flow (c ∷ (cs ++ rest)) ≡ suc (length cs))
    (reads : (rest : List ℕ) → is_end rest ≡ true → (p : Progress) (row : Row) (at : ℕ) → drop at row.chars ≡ c ∷ (cs ++ rest) → scalar_at Flow no_properties p row at ≡ nodes.scalar no_properties p row at tree bytes (suc (length cs))) where
  behind : (rest : List ℕ) → drop (suc (length cs)) (c ∷ (cs ++ rest)) ≡ rest
  behind rest = drop_at (c ∷ cs) rest (suc (length cs)) refl

  token : (white : Bool) (rest : List ℕ) → is_end rest ≡ true
      → token_len white (c ∷ (cs ++ rest)) ≡ suc (length cs)
  token white rest ends = by (eqb c 34) refl
    where
      by : (b : Bool) → eqb c 34 ≡ b → token_len white (c ∷ (cs ++ rest)) ≡ suc (length cs)
      by true h =
          quoted_token_is c (cs ++ rest) first (suc (length cs)) (omega arith) (len rest ends) h white
          ∙ ap (with_colon (suc (length cs))) (behind rest) ∙ no_key_colon (suc (length cs)) rest ends
      by false h = plain_token_is c (cs ++ rest) first (suc (length cs)) (omega arith) (len rest ends) h white

  behind_key : (rest : List ℕ) → is_end rest ≡ true
      → drop (before_colon Flow (c ∷ (cs ++ rest))) (c ∷ (cs ++ rest)) ≡ rest
  behind_key rest ends =
      let all : List ℕ = c ∷ (cs ++ rest) in
      ap (λ n. drop (n + blanks (drop n all)) all) (len rest ends)
      ∙ ap (λ l. drop (suc (length cs) + blanks l) all) (behind rest)
      ∙ ap (λ k. drop (suc (length cs) + k) all) (no_blanks_behind rest ends)
      ∙ ap (λ n. drop n all) (add-zero (suc (length cs)))
      ∙ behind rest

  no_key_here : (rest : List ℕ) → is_end rest ≡ true → is_key Flow (c ∷ (cs ++ rest)) ≡ false
  no_key_here rest ends =
      let all : List ℕ = c ∷ (cs ++ rest) in
      ap (λ r. nat_lt 0 (key_len Flow all) && (is_colon r || (is_quote all && starts 58 r))) (behind_key rest ends)
      ∙ no_by (nat_lt 0 (key_len Flow all)) (is_quote all) (is_colon rest) (starts 58 rest) (no_colon_behind rest ends) (no_mark_behind rest ends)

  unkeyed : (rest : List ℕ) → is_end rest ≡ true → is_key_behind Flow (c ∷ (cs ++ rest)) ≡ false
  unkeyed rest ends =
      let all : List ℕ = c ∷ (cs ++ rest) in
      ap (λ n. is_key Flow (drop n all) || is_colon (drop n all)) (no_properties_len c (cs ++ rest) first)
      ∙ (λ i. no_key_here rest ends i || no_colon c (cs ++ rest) first i)

  scalar_reads : (levels : ℕ) (p : Progress) (row : Row) (at : ℕ) (rest : List ℕ)
      → drop at row.chars ≡ c ∷ (cs ++ rest) → is_end rest ≡ true
      → p.nodes + node_count tree ≤ 200000 → p.text + text_size tree ≤ 16777216
      → Took (flow (suc levels) no_properties p row at) (tree, at + suc (length cs)) p (node_count tree) (text_size tree)
  scalar_reads levels p row at rest here ends many long =
      let q : Progress = counted (grown p 1 0) (length bytes) in
      let fits = node_fits (suc levels) p row at 0 (omega arith) (omega (arith, many, sizes.nodes)) (omega (arith, long)) in
      let room = text_fits (grown p 1 0) row (Here at) (length bytes) (omega (arith, long, sizes.text)) in
      record {
        after = q;
        is = cond-false (starts 91 (drop at row.chars)) _ _ (ap (starts 91) here ∙ never (λ d. eqb d 91) refl c first)
            ∙ cond-false (starts 123 (drop at row.chars)) _ _ (ap (starts 123) here ∙ never (λ d. eqb d 123) refl c first)
            ∙ cond-false (starts 42 (drop at row.chars)) _ _ (ap (starts 42) here ∙ never (λ d. eqb d 42) refl c first)
            ∙ ap (λ r. r >>= λ q. scalar_at Flow no_properties q row at) fits
            ∙ reads rest ends (grown p 1 0) row at here
            ∙ ap (λ r. r >>= λ q. Ok (nodes.ending (at + suc (length cs)) (tree, q))) room;
        nodes_are = omega (arith, sizes.nodes);
        text_is = omega (arith, sizes.text);
      }

  -- a scalar in a flow collection
  pub scalar_flow : (levels : ℕ) → IsFlowText (suc levels) (c ∷ cs) tree
  scalar_flow levels = record {
    front = c;
    more = cs;
    is = refl;
    solid = first_solid c first;
    goes = λ n rest ends. token_goes n n c cs rest (no_cut n c (never (λ d. is_closing d || eqb d 44) refl c first)) (first_opens n c first) (λ white. token white rest ends);
    no_key = unkeyed;
    reads = scalar_reads levels;
  }

-- a text that spells another, before what may stand behind it
spelled_flow : (levels : ℕ) (word text : List ℕ)
    → ((rest : List ℕ) → ends_plain Flow false rest ≡ true → IsSpelled Flow (word ++ rest) text (length word))
    → IsFlowText (suc levels) word (Scalar (encode_utf8_all text))
spelled_flow levels word text spelled =
    let tree = Scalar (encode_utf8_all text) in
    let whole = spelled [] refl in
    let is : word ≡ whole.front ∷ whole.more = sym (append-nil word) ∙ whole.is in
    subst (λ w. IsFlowText (suc levels) w tree) (sym is)
    (scalar_flow whole.front whole.more whole.first tree (encode_utf8_all text) (scalar_sizes (encode_utf8_all text))
    (λ rest ends. ap (λ w. key_len Flow (w ++ rest)) (sym is) ∙ len_is Flow (word ++ rest) text (length word) (spelled rest (plain_ends rest ends)) ∙ ap length is)
    (λ rest ends p row at here. scalar_is Flow (word ++ rest) text (length word) (spelled rest (plain_ends rest ends)) p row at (here ∙ ap (λ w. w ++ rest) (sym is)) ∙ ap (nodes.scalar no_properties p row at tree (encode_utf8_all text)) (ap length is))
    levels)

-- a text, in quotes or not
pub text_flow : (levels : ℕ) (text : List ℕ)
    → IsFlowText (suc levels) (scalar text) (Scalar (encode_utf8_all text))
text_flow levels text = spelled_flow levels (scalar text) text (λ rest ends. scalar_spelled Flow text rest ends)

-- a word that is read as it stands
pub word_flow : (levels : ℕ) (text : List ℕ) → is_read_as_word text ≡ true
    → IsFlowText (suc levels) text (Scalar (encode_utf8_all text))
word_flow levels =
    of_word (λ text. IsFlowText (suc levels) text (Scalar (encode_utf8_all text)))
    (λ text reads. spelled_flow levels text text (λ rest ends. word_spelled Flow text rest reads ends))
    (λ c cs start bytes closed. minus_flow c cs start bytes closed levels)

-- the word for null
pub null_flow : (levels : ℕ) → IsFlowText (suc levels) (codes "null") Null
null_flow levels =
    scalar_flow 110 (117 ∷ 108 ∷ 108 ∷ []) refl Null [] null_sizes
    (λ rest ends. front_len Flow (codes "null") 4 110 (117 ∷ 108 ∷ 108 ∷ rest) refl (plain_read Flow 110 (117 ∷ 108 ∷ 108 ∷ []) rest refl refl refl (plain_ends rest ends)))
    (λ rest ends p row at here. null_scalar Flow rest (plain_ends rest ends) p row at here)
    levels
