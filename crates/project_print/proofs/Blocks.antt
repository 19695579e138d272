-- Lines of blocks, as they grow at the end of a text.
use Rattle.std.proofs.Common.{◌≡◌, ◌≢◌, ◌∙◌, ℕ, zero, suc, ◌+◌, List, [], ◌∷◌, ◌++◌, Bool, true, false, cond, not, codes, map, flat_map, ◌↔◌, refl, sym, ap, append_assoc, add-one, rules}
use Rattle.std.proofs.lemmas.Bool.{false_from_ne_true, not_from_false, not_from_true}
use Rattle.std.proofs.lemmas.Grind.{flat_map-append}
use Rattle.std.proofs.lemmas.List.{append-nil}
use Rattle.std.specs.List.{zip}
use Rattle.std.specs.Map.{keys_of, values_of}
use Rattle.tree_base.proofs.Pairs.{values_mapped}
use Rattle.project_print.specs.declared.node.Node.{Node, the_lemmas}
use Rattle.project_print.specs.declared.node.Node.TheVariants.{Map, Null, Seq, Text}
use Rattle.project_print.specs.Pages.{Shown, block, deeper, ended, entry, item, lines_of, shown, word}
use Rattle.project_print.specs.Scalars.{doubled, scalar}
use Rattle.project_print.specs.Written.{entries_text, gap, hanging, indent, indented, items_text, key_text, parts_text}

pub indent_more : (d : ℕ) → indent (suc d) ≡ indent d ++ codes "  "
indent_more zero = refl
indent_more (suc d) = ap deeper (indent_more d)

indented_deeper : (d : ℕ) (l : List ℕ) → indented d (deeper l) ≡ indented (suc d) l
indented_deeper d l = sym (append_assoc (indent d) (codes "  ") (ended l)) ∙ ap (λ x. x ++ ended l) (sym (indent_more d))

-- lines one level deeper are lines of the next depth
below_deeper : (d : ℕ) (ls : List (List ℕ)) → flat_map (indented d) (map deeper ls) ≡ flat_map (indented (suc d)) ls
below_deeper d [] = refl
below_deeper d (l ∷ ls) = λ i. indented_deeper d l i ++ below_deeper d ls i

above : (k i e y : List ℕ) → ((k ++ 58 ∷ []) ++ 10 ∷ []) ++ ((i ++ e) ++ y) ≡ (k ++ 58 ∷ 10 ∷ i) ++ (e ++ y)
above k i e y = simp append_assoc

behind : (k f e y : List ℕ) → ((k ++ 58 ∷ 32 ∷ f) ++ e) ++ y ≡ (k ++ 58 ∷ 32 ∷ []) ++ ((f ++ e) ++ y)
behind k f e y = simp append_assoc

-- an entry is its key, what stands before its value, and the value's lines
pub entry_text : (d : ℕ) (key : List ℕ) (value : Shown) → hanging d (entry (key, value)) ≡ key_text (suc d) key value.is_block ++ hanging (suc d) value
entry_text d key value = by value.is_block
  where
    block_of : Shown
    block_of = record { is_block = true; first = scalar key ++ codes ":"; more = map deeper (lines_of value) }

    word_of : Shown
    word_of = record { is_block = true; first = scalar key ++ (codes ": " ++ value.first); more = map deeper value.more }

    by : (b : Bool) → hanging d (cond b block_of word_of) ≡ key_text (suc d) key b ++ hanging (suc d) value
    by true =
        (λ i. ended (scalar key ++ codes ":") ++ (indented_deeper d value.first i ++ below_deeper d value.more i))
        ∙ above (scalar key) (indent (suc d)) (ended value.first) (flat_map (indented (suc d)) value.more)
    by false =
        ap (λ y. ended (scalar key ++ (codes ": " ++ value.first)) ++ y) (below_deeper d value.more)
        ∙ behind (scalar key) value.first (codes "\n") (flat_map (indented (suc d)) value.more)

-- an item is its dash and its lines
pub item_text : (d : ℕ) (value : Shown) → hanging d (item value) ≡ codes "- " ++ hanging (suc d) value
item_text d value = ap (λ y. codes "- " ++ (ended value.first ++ y)) (below_deeper d value.more)

parts_below : (d n : ℕ) (ps : List Shown) → parts_text d (suc n) ps ≡ flat_map (indented d) (flat_map lines_of ps)
parts_below d n [] = refl
parts_below d n (p ∷ ps) =
    ap (λ y. indent d ++ (hanging d p ++ y)) (parts_below d (suc n) ps)
    ∙ joined (indent d) (ended p.first) (flat_map (indented d) p.more) (flat_map (indented d) (flat_map lines_of ps))
    ∙ ap (λ y. indented d p.first ++ y) (sym (flat_map-append (indented d) p.more (flat_map lines_of ps)))
  where
    joined : (i e m r : List ℕ) → i ++ ((e ++ m) ++ r) ≡ (i ++ e) ++ (m ++ r)
    joined i e m r = simp append_assoc

-- parts below one another are a block
block_text : (d : ℕ) (empty : List ℕ) (ps : List Shown) → ps ≢ [] → parts_text d 0 ps ≡ hanging d (block empty ps)
block_text d empty [] some = absurd (some refl)
block_text d empty (p ∷ ps) some =
    ap (λ y. hanging d p ++ y) (parts_below d 0 ps)
    ∙ append_assoc (ended p.first) (flat_map (indented d) p.more) (flat_map (indented d) (flat_map lines_of ps))
    ∙ ap (λ y. ended p.first ++ y) (sym (flat_map-append (indented d) p.more (flat_map lines_of ps)))

fold_at_map : (es : List (List ℕ × Node)) → shown (Map es) ≡ block (codes "{}") (map entry (map (λ (e : List ℕ × Node). (e.0, shown e.1)) es))
fold_at_map es = search (rules, the_lemmas)

fold_at_seq : (xs : List Node) → shown (Seq xs) ≡ block (codes "[]") (map item (map shown xs))
fold_at_seq xs = search (rules, the_lemmas)

-- what stands under keys, as the entries of a mapping
abbrev pub pairs_of : List (List ℕ) → List Node → List (List ℕ × Shown)
pairs_of keys values = zip keys (map shown values)

some_entries : (es : List (List ℕ × Node)) → es ≢ [] → map entry (map (λ (e : List ℕ × Node). (e.0, shown e.1)) es) ≢ []
some_entries [] some = absurd (some refl)
some_entries (e ∷ es) some = λ no. cc

some_items : (xs : List Node) → xs ≢ [] → map item (map shown xs) ≢ []
some_items [] some = absurd (some refl)
some_items (x ∷ xs) some = λ no. cc

-- the entries of a mapping, one below the other, are what is shown of it
pub map_text : (d : ℕ) (es : List (List ℕ × Node)) → es ≢ [] → entries_text d (pairs_of (keys_of es) (values_of es)) ≡ hanging d (shown (Map es))
map_text d es some =
    ap (entries_text d) (values_mapped shown es)
    ∙ block_text d (codes "{}") (map entry (map (λ (e : List ℕ × Node). (e.0, shown e.1)) es)) (some_entries es some)
    ∙ ap (hanging d) (sym (fold_at_map es))

-- also where its entries are given by their keys and what is shown of them
pub map_lines : (d : ℕ) (es : List (List ℕ × Node)) → es ≢ [] → parts_text d 0 (map entry (map (λ (e : List ℕ × Node). (e.0, shown e.1)) es)) ≡ hanging d (shown (Map es))
map_lines d es some =
    block_text d (codes "{}") (map entry (map (λ (e : List ℕ × Node). (e.0, shown e.1)) es)) (some_entries es some) ∙ ap (hanging d) (sym (fold_at_map es))

-- a mapping without entries
pub no_lines : (d : ℕ) → hanging d (shown (Map [])) ≡ codes "{}\n"
no_lines d = ap (hanging d) (fold_at_map [])

-- and so are the items of a sequence
pub seq_text : (d : ℕ) (xs : List Node) → xs ≢ [] → items_text d (map shown xs) ≡ hanging d (shown (Seq xs))
seq_text d xs some = block_text d (codes "[]") (map item (map shown xs)) (some_items xs some) ∙ ap (hanging d) (sym (fold_at_seq xs))

-- a mapping is a block exactly where it isn't empty
pub map_is_block : (b : Bool) (es : List (List ℕ × Node)) → ((b ≡ true) ↔ (es ≡ [])) → not b ≡ (shown (Map es)).is_block
map_is_block b [] h = not_from_true b (h.1 refl) ∙ sym (ap (λ s. s.is_block) (fold_at_map []))
map_is_block b (e ∷ es) h =
    not_from_false b (false_from_ne_true b (λ yes. let no : e ∷ es ≡ [] = h.0 yes in cc)) ∙ sym (ap (λ s. s.is_block) (fold_at_map (e ∷ es)))

-- and so is a sequence
pub seq_is_block : (b : Bool) (xs : List Node) → ((b ≡ true) ↔ (xs ≡ [])) → not b ≡ (shown (Seq xs)).is_block
seq_is_block b [] h = not_from_true b (h.1 refl) ∙ sym (ap (λ s. s.is_block) (fold_at_seq []))
seq_is_block b (x ∷ xs) h =
    not_from_false b (false_from_ne_true b (λ yes. let no : x ∷ xs ≡ [] = h.0 yes in cc)) ∙ sym (ap (λ s. s.is_block) (fold_at_seq (x ∷ xs)))

-- one entry more
pub entry_step : (d at below : ℕ) (out one two three total k : List ℕ) (b : Bool) (v : Node) (parts rest : List Shown)
    → below ≡ d + 1 → b ≡ (shown v).is_block → one ≡ out ++ gap d at → two ≡ one ++ key_text below k b → three ≡ two ++ hanging below (shown v)
    → parts ≡ entry (k, shown v) ∷ rest → out ++ parts_text d at parts ≡ total → three ++ parts_text d (at + 1) rest ≡ total
entry_step d at below out one two three total k b v parts rest deep is e f g p so_far =
    let level : below ≡ suc d = deep ∙ add-one d in
    let text : key_text below k b ++ hanging below (shown v) ≡ hanging d (entry (k, shown v)) =
    (λ i. key_text (level i) k (is i) ++ hanging (level i) (shown v)) ∙ sym (entry_text d k (shown v)) in
    (λ i. (g ∙ ap (λ x. x ++ hanging below (shown v)) (f ∙ ap (λ x. x ++ key_text below k b) e)) i ++ parts_text d (add-one at i) rest)
    ∙ joined out (gap d at) (key_text below k b) (hanging below (shown v)) (parts_text d (suc at) rest)
    ∙ ap (λ x. out ++ (gap d at ++ (x ++ parts_text d (suc at) rest))) text
    ∙ ap (λ x. out ++ parts_text d at x) (sym p)
    ∙ so_far
  where
    joined : (a g k h r : List ℕ) → (((a ++ g) ++ k) ++ h) ++ r ≡ a ++ (g ++ ((k ++ h) ++ r))
    joined a g k h r = simp append_assoc

fold_at_text : (t : List ℕ) → shown (Text t) ≡ word (scalar (doubled t))
fold_at_text t = search (rules, the_lemmas)

-- the line of a text, wherever it stands
pub text_line : (d : ℕ) (t : List ℕ) → scalar (doubled t) ++ codes "\n" ≡ hanging d (shown (Text t))
text_line d t = sym (append-nil (scalar (doubled t) ++ codes "\n")) ∙ ap (hanging d) (sym (fold_at_text t))

fold_at_null : shown Null ≡ word (codes "null")
fold_at_null = search (rules, the_lemmas)

-- the line of null
pub null_line : (d : ℕ) → codes "null\n" ≡ hanging d (shown Null)
null_line d = ap (hanging d) (sym fold_at_null)

-- neither is a block
pub text_is_word : (t : List ℕ) → false ≡ (shown (Text t)).is_block
text_is_word t = sym (ap (λ s. s.is_block) (fold_at_text t))

pub null_is_word : false ≡ (shown Null).is_block
null_is_word = sym (ap (λ s. s.is_block) fold_at_null)

-- the items of a sequence, and none
pub seq_lines : (d : ℕ) (xs : List Node) → xs ≢ [] → parts_text d 0 (map item (map shown xs)) ≡ hanging d (shown (Seq xs))
seq_lines d xs some = seq_text d xs some

pub no_items : (d : ℕ) → hanging d (shown (Seq [])) ≡ codes "[]\n"
no_items d = ap (hanging d) (fold_at_seq [])

-- one part more
pub part_step : (d at : ℕ) (out one two total : List ℕ) (part : Shown) (parts rest : List Shown)
    → one ≡ out ++ gap d at → two ≡ one ++ hanging d part → parts ≡ part ∷ rest → out ++ parts_text d at parts ≡ total → two ++ parts_text d (at + 1) rest ≡ total
part_step d at out one two total part parts rest e f p so_far =
    (λ i. (f ∙ ap (λ x. x ++ hanging d part) e) i ++ parts_text d (add-one at i) rest)
    ∙ joined out (gap d at) (hanging d part) (parts_text d (suc at) rest)
    ∙ ap (λ x. out ++ parts_text d at x) (sym p)
    ∙ so_far
  where
    joined : (a g h r : List ℕ) → ((a ++ g) ++ h) ++ r ≡ a ++ (g ++ (h ++ r))
    joined a g h r = simp append_assoc

-- a key, and what is shown under it
pub keyed : (d below : ℕ) (out one two k : List ℕ) (b : Bool) (v : Shown)
    → below ≡ d + 1 → b ≡ v.is_block → one ≡ out ++ key_text below k b → two ≡ one ++ hanging below v → two ≡ out ++ hanging d (entry (k, v))
keyed d below out one two k b v deep is e f =
    let level : below ≡ suc d = deep ∙ add-one d in
    f ∙ ap (λ x. x ++ hanging below v) e
    ∙ append_assoc out (key_text below k b) (hanging below v)
    ∙ ap (λ x. out ++ x) ((λ i. key_text (level i) k (is i) ++ hanging (level i) v) ∙ sym (entry_text d k v))

-- one item more
pub item_step : (d at below : ℕ) (out one two three total : List ℕ) (v : Node) (parts rest : List Shown)
    → below ≡ d + 1 → one ≡ out ++ gap d at → two ≡ one ++ codes "- " → three ≡ two ++ hanging below (shown v)
    → parts ≡ item (shown v) ∷ rest → out ++ parts_text d at parts ≡ total → three ++ parts_text d (at + 1) rest ≡ total
item_step d at below out one two three total v parts rest deep e f g p so_far =
    let text : codes "- " ++ hanging below (shown v) ≡ hanging d (item (shown v)) =
    ap (λ n. codes "- " ++ hanging n (shown v)) (deep ∙ add-one d) ∙ sym (item_text d (shown v)) in
    (λ i. (g ∙ ap (λ x. x ++ hanging below (shown v)) (f ∙ ap (λ x. x ++ codes "- ") e)) i ++ parts_text d (add-one at i) rest)
    ∙ joined out (gap d at) (codes "- ") (hanging below (shown v)) (parts_text d (suc at) rest)
    ∙ ap (λ x. out ++ (gap d at ++ (x ++ parts_text d (suc at) rest))) text
    ∙ ap (λ x. out ++ parts_text d at x) (sym p)
    ∙ so_far
  where
    joined : (a g k h r : List ℕ) → (((a ++ g) ++ k) ++ h) ++ r ≡ a ++ (g ++ ((k ++ h) ++ r))
    joined a g k h r = simp append_assoc

-- nothing is left behind the last part
pub parts_done : (d at : ℕ) (out total : List ℕ) (parts : List Shown) → parts ≡ [] → out ++ parts_text d at parts ≡ total → out ≡ total
parts_done d at out total parts e h = sym (append-nil out) ∙ ap (λ x. out ++ parts_text d at x) (sym e) ∙ h

-- one level more of an indentation
pub indent_step : (out before new : List ℕ) (n : ℕ) → new ≡ before ++ codes "  " → before ≡ out ++ indent n → new ≡ out ++ indent (n + 1)
indent_step out before new n e so_far =
    e ∙ ap (λ x. x ++ codes "  ") so_far ∙ append_assoc out (indent n) (codes "  ")
    ∙ ap (λ x. out ++ x) (sym (indent_more n)) ∙ ap (λ k. out ++ indent k) (sym (add-one n))
