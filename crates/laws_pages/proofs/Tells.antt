-- The JSON of a node tells the node.
use Rattle.std.proofs.Common.{◌≡◌, ◌∙◌, ◌&&◌, ℕ, zero, suc, true, cond, List, [], ◌∷◌, ◌++◌, ap, append_assoc, arith, codes, map, not, refl, sym}
use Rattle.std.specs.Prelude.{◌==◌}
use Rattle.std.proofs.lemmas.Bool.{and_parts}
use Rattle.std.proofs.lemmas.List.{append_cancel_left}
use Rattle.std.specs.List.{list_all}
use Rattle.json.specs.Print.{quoted}
use Rattle.laws_pages.proofs.Nodes.{OfAll, json_entry, json_map, json_null, json_seq, json_text, json_word, of_each, of_every, words_in, words_map, words_seq, words_word}
use Rattle.laws_pages.proofs.JsonNodeTexts.{ends, part_ends, parted, spelled_tells, string_tells, word_tells}
use Rattle.laws_pages.specs.JsonNodeLaws.{JsonTellsNodes}
use Rattle.laws_pages.specs.Words.{has_words, is_word, is_word_byte}
use Rattle.project_print.specs.Json.{json_of, spelled}
use Rattle.project_print.specs.Written.{comma, listed_from}
use Rattle.project_print.specs.declared.compact_json.Dollars.{Dollars}
use Rattle.project_print.specs.declared.node.Node.{Node}
use Rattle.project_print.specs.declared.node.Node.TheVariants.{Map, Null, Seq, Text, Word}

-- by what a text begins: 0 for a word, and else the byte
abbrev front : List ℕ → ℕ
front [] = 0
front (c ∷ cs) = cond (is_word_byte c && not (c == 110)) 0 c

word_front : (text r : List ℕ) → is_word text ≡ true → front (text ++ r) ≡ 0
word_front [] r h = absurd (cc h)
word_front (c ∷ cs) r h =
    let parts = and_parts (not (c == 110)) (list_all is_word_byte (c ∷ cs)) h in
    let first = and_parts (is_word_byte c) (list_all is_word_byte cs) parts.1 in λ i. cond (first.0 i && parts.0 i) 0 c

word_bytes : (text : List ℕ) → is_word text ≡ true → list_all is_word_byte text ≡ true
word_bytes [] h = absurd (cc h)
word_bytes (c ∷ cs) h = (and_parts (not (c == 110)) (list_all is_word_byte (c ∷ cs)) h).1

module _ (dollars : Dollars) where
  -- the JSON of a node begins so
  abbrev Begins : Node → ℕ → Type 0
  Begins node c = (r : List ℕ) → has_words node ≡ true → front (json_of dollars node ++ r) ≡ c

  null_begins : Begins Null 110
  null_begins r h = ap (λ (t : List ℕ). front (t ++ r)) (json_null dollars)

  word_begins : (text : List ℕ) → Begins (Word text) 0
  word_begins text r h = ap (λ (t : List ℕ). front (t ++ r)) (json_word dollars text) ∙ word_front text r (sym (words_word is_word text) ∙ h)

  text_begins : (text : List ℕ) → Begins (Text text) 34
  text_begins text r h = ap (λ (t : List ℕ). front (t ++ r)) (json_text dollars text)

  map_begins : (es : List (List ℕ × Node)) → Begins (Map es) 123
  map_begins es r h = ap (λ (t : List ℕ). front (t ++ r)) (json_map dollars es)

  seq_begins : (xs : List Node) → Begins (Seq xs) 91
  seq_begins xs r h = ap (λ (t : List ℕ). front (t ++ r)) (json_seq dollars xs)

  -- of two nodes in front of something, whose JSON is the same
  abbrev Meets : Node → Node → Type 0
  Meets node other =
      (r u : List ℕ) → has_words node ≡ true → has_words other ≡ true → ends r ≡ true → ends u ≡ true → json_of dollars node ++ r ≡ json_of dollars other ++ u
      → (node ≡ other) × (r ≡ u)

  abbrev Claim : Node → Type 0
  Claim node = (other : Node) → Meets node other

  differ : (node other : Node) (x y : ℕ) → Begins node x → Begins other y → (x ≡ y → ⊥) → Meets node other
  differ node other x y f g apart r u a b p q e = absurd (apart (sym (f r a) ∙ ap front e ∙ g u b))

  null_claim : Claim Null
  null_claim =
      of_each (Meets Null)
      (λ r u a b p q e. (refl, append_cancel_left (codes "null") r u (sym (ap (λ (t : List ℕ). t ++ r) (json_null dollars)) ∙ e ∙ ap (λ (t : List ℕ). t ++ u) (json_null dollars))))
      (λ text. differ Null (Word text) 110 0 null_begins (word_begins text) (λ s. omega (arith, s)))
      (λ text. differ Null (Text text) 110 34 null_begins (text_begins text) (λ s. omega (arith, s)))
      (λ es. differ Null (Map es) 110 123 null_begins (map_begins es) (λ s. omega (arith, s)))
      (λ xs. differ Null (Seq xs) 110 91 null_begins (seq_begins xs) (λ s. omega (arith, s)))

  words_meet : (w v : List ℕ) → Meets (Word w) (Word v)
  words_meet w v r u a b p q e =
      let lined = sym (ap (λ (t : List ℕ). t ++ r) (json_word dollars w)) ∙ e ∙ ap (λ (t : List ℕ). t ++ u) (json_word dollars v) in
      let same = word_tells w v r u (word_bytes w (sym (words_word is_word w) ∙ a)) (word_bytes v (sym (words_word is_word v) ∙ b)) p q lined in (ap Word same.0, same.1)

  word_claim : (w : List ℕ) → Claim (Word w)
  word_claim w =
      of_each (Meets (Word w)) (differ (Word w) Null 0 110 (word_begins w) null_begins (λ s. omega (arith, s)))
      (words_meet w)
      (λ text. differ (Word w) (Text text) 0 34 (word_begins w) (text_begins text) (λ s. omega (arith, s)))
      (λ es. differ (Word w) (Map es) 0 123 (word_begins w) (map_begins es) (λ s. omega (arith, s)))
      (λ xs. differ (Word w) (Seq xs) 0 91 (word_begins w) (seq_begins xs) (λ s. omega (arith, s)))

  texts_meet : (s t : List ℕ) → Meets (Text s) (Text t)
  texts_meet s t r u a b p q e =
      let lined = sym (ap (λ (z : List ℕ). z ++ r) (json_text dollars s)) ∙ e ∙ ap (λ (z : List ℕ). z ++ u) (json_text dollars t) in
      let same = string_tells (spelled dollars s) (spelled dollars t) r u lined in (ap Text (spelled_tells dollars s t same.0), same.1)

  text_claim : (s : List ℕ) → Claim (Text s)
  text_claim s =
      of_each (Meets (Text s)) (differ (Text s) Null 34 110 (text_begins s) null_begins (λ z. omega (arith, z)))
      (λ text. differ (Text s) (Word text) 34 0 (text_begins s) (word_begins text) (λ z. omega (arith, z)))
      (texts_meet s)
      (λ es. differ (Text s) (Map es) 34 123 (text_begins s) (map_begins es) (λ z. omega (arith, z)))
      (λ xs. differ (Text s) (Seq xs) 34 91 (text_begins s) (seq_begins xs) (λ z. omega (arith, z)))

  -- what begins a node's JSON closes no list
  unclosed : (node : Node) (r u : List ℕ) → has_words node ≡ true → json_of dollars node ++ r ≡ 93 ∷ u → ⊥
  unclosed =
      of_each (λ node. (r u : List ℕ) → has_words node ≡ true → json_of dollars node ++ r ≡ 93 ∷ u → ⊥)
      (λ r u h e. let bad : 110 ≡ 93 = sym (null_begins r h) ∙ ap front e in omega (arith, bad))
      (λ text r u h e. let bad : 0 ≡ 93 = sym (word_begins text r h) ∙ ap front e in omega (arith, bad))
      (λ text r u h e. let bad : 34 ≡ 93 = sym (text_begins text r h) ∙ ap front e in omega (arith, bad))
      (λ es r u h e. let bad : 123 ≡ 93 = sym (map_begins es r h) ∙ ap front e in omega (arith, bad))
      (λ xs r u h e. let bad : 91 ≡ 93 = sym (seq_begins xs r h) ∙ ap front e in omega (arith, bad))

  no_item : (at : ℕ) (y : Node) (ys : List Node) (r u : List ℕ) → has_words y ≡ true → listed_from at (map (json_of dollars) (y ∷ ys)) ++ r ≡ 93 ∷ u → ⊥
  no_item zero y ys r u h e = unclosed y (listed_from 1 (map (json_of dollars) ys) ++ r) u h (sym (parted 0 (json_of dollars y) (map (json_of dollars) ys) r) ∙ e)
  no_item (suc at) y ys r u h e = let bad : 44 ≡ 93 = ap front e in omega (arith, bad)

  items_tell : (at : ℕ) (xs ys : List Node) → OfAll Claim xs → list_all (λ is. is) (map has_words xs) ≡ true → list_all (λ is. is) (map has_words ys) ≡ true → (r u : List ℕ)
      → listed_from at (map (json_of dollars) xs) ++ 93 ∷ r ≡ listed_from at (map (json_of dollars) ys) ++ 93 ∷ u → (xs ≡ ys) × (r ≡ u)
  items_tell at [] [] claims a b r u e = (refl, append_cancel_left (93 ∷ []) r u e)
  items_tell at [] (y ∷ ys) claims a b r u e =
      absurd (no_item at y ys (93 ∷ u) r (and_parts (has_words y) (list_all (λ is. is) (map has_words ys)) b).0 (sym e))
  items_tell at (x ∷ xs) [] claims a b r u e = absurd (no_item at x xs (93 ∷ r) u (and_parts (has_words x) (list_all (λ is. is) (map has_words xs)) a).0 e)
  items_tell at (x ∷ xs) (y ∷ ys) claims a b r u e =
      let one = and_parts (has_words x) (list_all (λ is. is) (map has_words xs)) a in
      let two = and_parts (has_words y) (list_all (λ is. is) (map has_words ys)) b in
      let lined = sym (parted at (json_of dollars x) (map (json_of dollars) xs) (93 ∷ r)) ∙ e ∙ parted at (json_of dollars y) (map (json_of dollars) ys) (93 ∷ u) in
      let same = claims.0 y (listed_from (suc at) (map (json_of dollars) xs) ++ 93 ∷ r) (listed_from (suc at) (map (json_of dollars) ys) ++ 93 ∷ u) one.0 two.0
      (part_ends at (map (json_of dollars) xs) 93 r refl) (part_ends at (map (json_of dollars) ys) 93 u refl) (append_cancel_left (comma at) _ _ lined) in
      let rest = items_tell (suc at) xs ys claims.1 one.1 two.1 r u same.1 in ((λ i. same.0 i ∷ rest.0 i), rest.1)

  no_member : (at : ℕ) (e : List ℕ × Node) (es : List (List ℕ × Node)) (r u : List ℕ) → listed_from at (map (json_entry dollars) (e ∷ es)) ++ r ≡ 125 ∷ u → ⊥
  no_member zero e es r u h = let bad : 34 ≡ 125 = ap front h in omega (arith, bad)
  no_member (suc at) e es r u h = let bad : 44 ≡ 125 = ap front h in omega (arith, bad)

  -- a member, and what stands behind it
  member_parts : (at : ℕ) (e : List ℕ × Node) (es : List (List ℕ × Node)) (r : List ℕ)
      → listed_from at (map (json_entry dollars) (e ∷ es)) ++ r ≡ comma at ++ (quoted e.0 ++ (codes ":" ++ (json_of dollars e.1 ++ (listed_from (suc at) (map (json_entry dollars) es) ++ r))))
  member_parts at e es r =
      parted at (json_entry dollars e) (map (json_entry dollars) es) r
      ∙ ap (λ (t : List ℕ). comma at ++ t) (shape (quoted e.0) (codes ":") (json_of dollars e.1) (listed_from (suc at) (map (json_entry dollars) es) ++ r))
    where
      shape : (k h v l : List ℕ) → (k ++ (h ++ v)) ++ l ≡ k ++ (h ++ (v ++ l))
      shape k h v l = simp append_assoc

  members_tell : (at : ℕ) (es fs : List (List ℕ × Node)) → OfAll (λ (e : List ℕ × Node). Claim e.1) es → list_all (λ is. is) (words_in is_word es) ≡ true → list_all (λ is. is) (words_in is_word fs) ≡ true
      → (r u : List ℕ) → listed_from at (map (json_entry dollars) es) ++ 125 ∷ r ≡ listed_from at (map (json_entry dollars) fs) ++ 125 ∷ u → (es ≡ fs) × (r ≡ u)
  members_tell at [] [] claims a b r u h = (refl, append_cancel_left (125 ∷ []) r u h)
  members_tell at [] (f ∷ fs) claims a b r u h = absurd (no_member at f fs (125 ∷ u) r (sym h))
  members_tell at (e ∷ es) [] claims a b r u h = absurd (no_member at e es (125 ∷ r) u h)
  members_tell at (e ∷ es) (f ∷ fs) claims a b r u h =
      let one = and_parts (has_words e.1) (list_all (λ is. is) (words_in is_word es)) a in
      let two = and_parts (has_words f.1) (list_all (λ is. is) (words_in is_word fs)) b in
      let lined = sym (member_parts at e es (125 ∷ r)) ∙ h ∙ member_parts at f fs (125 ∷ u) in
      let keys = string_tells e.0 f.0 _ _ (append_cancel_left (comma at) _ _ lined) in
      let same = claims.0 f.1 (listed_from (suc at) (map (json_entry dollars) es) ++ 125 ∷ r) (listed_from (suc at) (map (json_entry dollars) fs) ++ 125 ∷ u) one.0 two.0
      (part_ends at (map (json_entry dollars) es) 125 r refl) (part_ends at (map (json_entry dollars) fs) 125 u refl) (append_cancel_left (codes ":") _ _ keys.1) in
      let rest = members_tell (suc at) es fs claims.1 one.1 two.1 r u same.1 in ((λ i. (keys.0 i, same.0 i) ∷ rest.0 i), rest.1)

  maps_meet : (es fs : List (List ℕ × Node)) → OfAll (λ (e : List ℕ × Node). Claim e.1) es → Meets (Map es) (Map fs)
  maps_meet es fs claims r u a b p q e =
      let lined = sym (ap (λ (t : List ℕ). t ++ r) (json_map dollars es)) ∙ e ∙ ap (λ (t : List ℕ). t ++ u) (json_map dollars fs) in
      let inner = sym (append_assoc (listed_from 0 (map (json_entry dollars) es)) (125 ∷ []) r) ∙ append_cancel_left (codes "{") _ _ lined ∙ append_assoc (listed_from 0 (map (json_entry dollars) fs)) (125 ∷ []) u in
      let same = members_tell 0 es fs claims (sym (words_map is_word es) ∙ a) (sym (words_map is_word fs) ∙ b) r u inner in (ap Map same.0, same.1)

  map_claim : (es : List (List ℕ × Node)) → OfAll (λ (e : List ℕ × Node). Claim e.1) es → Claim (Map es)
  map_claim es claims =
      of_each (Meets (Map es)) (differ (Map es) Null 123 110 (map_begins es) null_begins (λ s. omega (arith, s)))
      (λ text. differ (Map es) (Word text) 123 0 (map_begins es) (word_begins text) (λ s. omega (arith, s)))
      (λ text. differ (Map es) (Text text) 123 34 (map_begins es) (text_begins text) (λ s. omega (arith, s)))
      (λ fs. maps_meet es fs claims)
      (λ xs. differ (Map es) (Seq xs) 123 91 (map_begins es) (seq_begins xs) (λ s. omega (arith, s)))

  seqs_meet : (xs ys : List Node) → OfAll Claim xs → Meets (Seq xs) (Seq ys)
  seqs_meet xs ys claims r u a b p q e =
      let lined = sym (ap (λ (t : List ℕ). t ++ r) (json_seq dollars xs)) ∙ e ∙ ap (λ (t : List ℕ). t ++ u) (json_seq dollars ys) in
      let inner = sym (append_assoc (listed_from 0 (map (json_of dollars) xs)) (93 ∷ []) r) ∙ append_cancel_left (codes "[") _ _ lined ∙ append_assoc (listed_from 0 (map (json_of dollars) ys)) (93 ∷ []) u in
      let same = items_tell 0 xs ys claims (sym (words_seq is_word xs) ∙ a) (sym (words_seq is_word ys) ∙ b) r u inner in (ap Seq same.0, same.1)

  seq_claim : (xs : List Node) → OfAll Claim xs → Claim (Seq xs)
  seq_claim xs claims =
      of_each (Meets (Seq xs)) (differ (Seq xs) Null 91 110 (seq_begins xs) null_begins (λ s. omega (arith, s)))
      (λ text. differ (Seq xs) (Word text) 91 0 (seq_begins xs) (word_begins text) (λ s. omega (arith, s)))
      (λ text. differ (Seq xs) (Text text) 91 34 (seq_begins xs) (text_begins text) (λ s. omega (arith, s)))
      (λ es. differ (Seq xs) (Map es) 91 123 (seq_begins xs) (map_begins es) (λ s. omega (arith, s)))
      (λ ys. seqs_meet xs ys claims)

pub tells : JsonTellsNodes
tells dollars node other a b e =
    (of_every (Claim dollars) (null_claim dollars) (word_claim dollars) (text_claim dollars) (map_claim dollars) (seq_claim dollars) node other [] [] a b refl refl (ap (λ (t : List ℕ). t ++ []) e)).0
