-- Where a scalar of a page stands, it is read as its text, and it is as long as a key.
use Rattle.std.proofs.Common.{◌≡◌, ◌∙◌, ℕ, zero, suc, ◌+◌, ◌&&◌, ◌||◌, Bool, true, false, cond, eqb, List, [], ◌∷◌, ◌++◌, Option, Some, None, Ok, Result, codes, drop, take, refl, sym, ap, add-zero}
use Rattle.std.proofs.lemmas.Bool.{lt-ltb}
use Rattle.std.proofs.lemmas.Str.{encode_ascii}
use Rattle.std.specs.Prelude.{nat_lt}
use Rattle.std.specs.Str.{bytes_eq, encode_utf8_all}
use Rattle.tree_base.specs.declared.tree.Tree.TheVariants.{Null, Scalar}
use Rattle.yaml_lines.specs.Blanks.{blanks}
use Rattle.yaml_lines.specs.declared.plain.Context.{Context}
use Rattle.yaml_lines.specs.declared.refusal.YamlRefusal.{YamlRefusal}
use Rattle.yaml_lines.specs.declared.row.Row.{Row}
use Rattle.yaml_lines.specs.Plain.{begins_plain, ends_plain, is_colon, plain_len, plain_of}
use Rattle.yaml_lines.specs.Quoted.{quoted_of}
use Rattle.yaml_nodes.specs.declared.key.Key.{Key}
use Rattle.yaml_nodes.specs.declared.progress.Progress.{Progress}
use Rattle.yaml_nodes.specs.Mappings.{key_at, key_with}
use Rattle.yaml_nodes.specs.Marks.{before_colon, is_colon_of, is_key, is_key_behind, is_property, is_quote, key_len, may_follow_at_once, properties_len, read_len, starts}
use Rattle.yaml_nodes.specs.Properties.{no_properties}
use Rattle.yaml_nodes.specs.Scalars.{is_null_word, scalar_at}
use Rattle.yaml_nodes.specs.Scalars as nodes
use Rattle.laws_yaml.proofs.Firsts.{first_below, is_first, never, no_alias, no_colon, no_properties_len, no_property, quotes_are}
use Rattle.laws_yaml.proofs.PlainRuns.{plain_read}
use Rattle.laws_yaml.proofs.Spelled.{IsSpelled, encoded, read_in}
use Rattle.laws_yaml.proofs.PlainWords.{or_false}

-- the key that a text of so many characters is: never the merge key
abbrev pub key_of : List ℕ → ℕ → Key
key_of text len = record { is_merge = false; text = encode_utf8_all text; len = len }

-- the second of three cases isn't met
skipped : (a a' b : Bool) (x y z : ℕ) → a ≡ a' → b ≡ false → cond a x (cond b y z) ≡ cond a' x z
skipped a a' b x y z p q = rw (p, q)

-- the first two of four cases aren't met
behind_two : {A : Type 0} (a b c c' : Bool) (x y third fourth : A) → a ≡ false → b ≡ false → c ≡ c' → cond a x (cond b y (cond c third fourth)) ≡ cond c' third fourth
behind_two a b c c' x y third fourth p q r = rw (p, q, r)

record IsPlainOf (context : Context) (cs text : List ℕ) (n : ℕ) : Type 0 where
  begins : begins_plain cs ≡ true
  len : plain_len context cs ≡ n
  is : take n cs ≡ text

plain_parts : (context : Context) (cs text : List ℕ) (n : ℕ) → plain_of context cs ≡ Some (text, n) → IsPlainOf context cs text n
plain_parts context cs text n h = by (begins_plain cs) refl h
  where
    by : (b : Bool) → begins_plain cs ≡ b → cond {A = Option (List ℕ × ℕ)} b (Some (take (plain_len context cs) cs, plain_len context cs)) None ≡ Some (text, n) → IsPlainOf context cs text n
    by true e h =
        let both : ◌≡◌ {A = List ℕ × ℕ} (take (plain_len context cs) cs, plain_len context cs) (text, n) = cc in
        let len : plain_len context cs ≡ n = ap (λ (p : List ℕ × ℕ). p.1) both in
        record { begins = e; len = len; is = ap (λ k. take k cs) (sym len) ∙ ap (λ (p : List ℕ × ℕ). p.0) both }
    by false e h = absurd (cc)

-- what begins as a scalar of a page does is no merge key
no_merge : (c : ℕ) (cs : List ℕ) (n : ℕ) → is_first c ≡ true → bytes_eq (encode_utf8_all (take n (c ∷ cs))) (codes "<<") ≡ false
no_merge c cs zero first = refl
no_merge c cs (suc n) first = rw (encode_ascii c (first_below c first), never (λ d. eqb d 60) refl c first)

module _ (context : Context) (text : List ℕ) (len c : ℕ) (cs : List ℕ) (first : is_first c ≡ true) (read : read_in context c cs ≡ Some (text, len)) where
  pub front_scalar : (eqb c 34 ≡ false → is_null_word (encode_utf8_all text) ≡ false) → (p : Progress) (row : Row) (at : ℕ) → drop at row.chars ≡ c ∷ cs
      → scalar_at context no_properties p row at ≡ nodes.scalar no_properties p row at (Scalar (encode_utf8_all text)) (encode_utf8_all text) len
  front_scalar spells p row at here = rw (here, quotes_are c cs first) (by (eqb c 34) refl read)
    where
      by : (b : Bool) → eqb c 34 ≡ b → cond b (quoted_of (c ∷ cs)) (plain_of context (c ∷ cs)) ≡ Some (text, len)
          → cond b (nodes.quoted_scalar no_properties p row at (quoted_of (c ∷ cs))) (nodes.plain_scalar no_properties p row at (plain_of context (c ∷ cs)))
          ≡ nodes.scalar no_properties p row at (Scalar (encode_utf8_all text)) (encode_utf8_all text) len
      by true e h = ap (nodes.quoted_scalar no_properties p row at) h
      by false e h = ap (nodes.plain_scalar no_properties p row at) h ∙ rw (spells e) refl

  pub front_len : key_len context (c ∷ cs) ≡ len
  front_len = skipped _ _ _ _ _ _ (quotes_are c cs first) (no_alias c cs first) ∙ by (eqb c 34) refl read
    where
      by : (b : Bool) → eqb c 34 ≡ b → cond b (quoted_of (c ∷ cs)) (plain_of context (c ∷ cs)) ≡ Some (text, len)
          → cond b (read_len (quoted_of (c ∷ cs))) (cond (begins_plain (c ∷ cs)) (plain_len context (c ∷ cs)) 0) ≡ len
      by true e h = ap read_len h
      by false e h = let parts = plain_parts context (c ∷ cs) text len h in rw parts.begins parts.len

  key_by : (p : Progress) (row : Row) (at : ℕ) (b : Bool) → is_property (drop at row.chars) ≡ false → (starts 42 (drop at row.chars) || is_colon (drop at row.chars)) ≡ false → is_quote (drop at row.chars) ≡ b
      → key_at context p row at ≡ cond b (key_with false p row at (quoted_of (drop at row.chars))) (key_with true p row at (plain_of context (drop at row.chars)))
  key_by p row at b bare own quotes = behind_two _ _ _ _ _ _ _ _ bare own quotes

  front_key : (p : Progress) (row : Row) (at : ℕ) → drop at row.chars ≡ c ∷ cs → key_at context p row at ≡ Ok (key_of text len)
  front_key p row at here =
      let bare : is_property (drop at row.chars) ≡ false = rw here (no_property c cs first) in
      let own : (starts 42 (drop at row.chars) || is_colon (drop at row.chars)) ≡ false = rw here (rw (no_alias c cs first) (no_colon c cs first)) in
      let quotes : is_quote (drop at row.chars) ≡ eqb c 34 = rw here (quotes_are c cs first) in
      key_by p row at (eqb c 34) bare own quotes
      ∙ ap (λ l. cond (eqb c 34) (key_with false p row at (quoted_of l)) (key_with true p row at (plain_of context l))) here
      ∙ by (eqb c 34) refl read
    where
      made : Bool → Result Key YamlRefusal
      made merge = Ok (record { is_merge = merge; text = encode_utf8_all text; len = len })

      by : (b : Bool) → eqb c 34 ≡ b → cond b (quoted_of (c ∷ cs)) (plain_of context (c ∷ cs)) ≡ Some (text, len)
          → cond b (key_with false p row at (quoted_of (c ∷ cs))) (key_with true p row at (plain_of context (c ∷ cs))) ≡ Ok (key_of text len)
      by true e h = ap (key_with false p row at) h
      by false e h =
          let parts = plain_parts context (c ∷ cs) text len h in
          ap (key_with true p row at) h ∙ ap made (ap (λ t. bytes_eq (encode_utf8_all t) (codes "<<")) (sym parts.is) ∙ no_merge c cs len first)

module _ (context : Context) (cs text : List ℕ) (len : ℕ) (is : IsSpelled context cs text len) where
  -- the scalar at a place is its text
  pub scalar_is : (p : Progress) (row : Row) (at : ℕ) → drop at row.chars ≡ cs → scalar_at context no_properties p row at ≡ nodes.scalar no_properties p row at (Scalar (encode_utf8_all text)) (encode_utf8_all text) len
  scalar_is p row at here = front_scalar context text len is.front is.more is.first is.read is.spells p row at (here ∙ is.is)

  -- as a key it is as long as it is
  pub len_is : key_len context cs ≡ len
  len_is = ap (key_len context) is.is ∙ front_len context text len is.front is.more is.first is.read

  -- the key at a place is its text
  pub key_is : (p : Progress) (row : Row) (at : ℕ) → drop at row.chars ≡ cs → key_at context p row at ≡ Ok (key_of text len)
  key_is p row at here = front_key context text len is.front is.more is.first is.read p row at (here ∙ is.is)

  module _ (rest : List ℕ) (behind : drop len cs ≡ rest) (black : blanks rest ≡ 0) where
    -- what stands behind it stands right there
    pub before_is : before_colon context cs ≡ len
    before_is = ap (λ n. n + blanks (drop n cs)) len_is ∙ ap (λ l. len + blanks l) behind ∙ ap (λ n. len + n) black ∙ add-zero len

    behind_is : drop (before_colon context cs) cs ≡ rest
    behind_is = ap (λ n. drop n cs) before_is ∙ behind

    key_where : is_key context cs ≡ is_colon_of context cs rest
    key_where =
        ap (λ n. nat_lt 0 n && is_colon_of context cs (drop (before_colon context cs) cs)) len_is
        ∙ ap (λ l. nat_lt 0 len && is_colon_of context cs l) behind_is
        ∙ ap (λ b. b && is_colon_of context cs rest) (lt-ltb 0 len is.some)

    key_behind_where : is_key_behind context cs ≡ is_colon_of context cs rest
    key_behind_where =
        ap (λ n. is_key context (drop n cs) || is_colon (drop n cs)) (ap (properties_len 0) is.is ∙ no_properties_len is.front is.more is.first)
        ∙ ap (λ b. is_key context cs || b) (ap is_colon is.is ∙ no_colon is.front is.more is.first)
        ∙ or_false (is_key context cs) ∙ key_where

    -- it is a key where a colon before a space or the line's end stands there
    pub is_key_before : is_colon rest ≡ true → (is_key context cs ≡ true) × (is_key_behind context cs ≡ true)
    is_key_before colon =
        let keyed : is_colon_of context cs rest ≡ true = ap (λ b. b || (may_follow_at_once context cs && starts 58 rest)) colon in
        (key_where ∙ keyed, key_behind_where ∙ keyed)

    -- and none where none does
    pub no_key_before : is_colon_of context cs rest ≡ false → (is_key context cs ≡ false) × (is_key_behind context cs ≡ false)
    no_key_before bare = (key_where ∙ bare, key_behind_where ∙ bare)

-- the word for null is null, which has no bytes
pub null_scalar : (context : Context) (rest : List ℕ) → ends_plain context false rest ≡ true → (p : Progress) (row : Row) (at : ℕ) → drop at row.chars ≡ codes "null" ++ rest
    → scalar_at context no_properties p row at ≡ nodes.scalar no_properties p row at Null [] 4
null_scalar context rest ends p row at here =
    rw here (ap (nodes.plain_scalar no_properties p row at) (plain_read context 110 (117 ∷ 108 ∷ 108 ∷ []) rest refl refl refl ends) ∙ rw (encoded (codes "null") refl) refl)
