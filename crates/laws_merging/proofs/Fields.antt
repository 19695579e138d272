-- Fields of mappings that are laid over one another, and what entries are known by then.
use Rattle.std.proofs.Common.{◌≡◌, ◌⊎◌, inl, inr, ◌∙◌, ℕ, Bool, true, false, cond, List, [], ◌∷◌, Option, None, Some, ap, refl, sym, subst, true≢false, rules}
use Rattle.std.specs.List.{list_any}
use Rattle.std.specs.Map.{keys_of}
use Rattle.std.specs.Str.{bytes_eq}
use Rattle.tree_base.specs.Entries.{value_at, with_entry}
use Rattle.tree_base.specs.declared.tree.Tree.{Tree, out-Tree, the_lemmas}
use Rattle.tree_base.specs.declared.tree.Tree.TheOpen.{Tree-F}
use Rattle.tree_base.specs.declared.tree.Tree.TheVariants.{Map, Null, Override, Reset, Scalar, Seq}
use Rattle.attribute_paths.specs.Patterns.{below_key}
use Rattle.attribute_paths.proofs.Trees.{of_every}
use Rattle.merge_tables.specs.declared.rules.Standing.TheVariants.{Value}
use Rattle.merge_tables.specs.Attributes.{JoiningRules}
use Rattle.merge_rules.specs.Overlay.{scalar_over}
use Rattle.merge_rules.specs.Uniqueness.{protocol_in}
use Rattle.merge_tables.specs.Parts.{or_null, text_in}
use Rattle.laws_merging.specs.Grouping.{is_text}
use Rattle.laws_merging.proofs.Entries.{Entries, other_value, own_value, same_key, turned_key}
use Rattle.laws_merging.proofs.Options.{◌>>?◌}
use Rattle.laws_merging.proofs.Over.{null_lays, over, put, puts, scalar_lays, tree_of}
use Rattle.laws_merging.proofs.Plain.{IsNew, PlainEntries, first_new, or_parts}

-- a step that gave something came from one that did
pub came : {A B : Type 0} (o : Option A) (f : A → Option B) (b : B) → (o >>? f) ≡ Some b → (a : A) × ((o ≡ Some a) × (f a ≡ Some b))
came None f b h = absurd (let wrong : ⊥ = cc in wrong)
came (Some a) f b h = (a, (refl, h))

-- a key that is new has no value
pub new_value : (es : Entries) (k : List ℕ) → IsNew k es → value_at es k ≡ None
new_value [] k new = refl
new_value (e ∷ es) k new =
    let p = or_parts (bytes_eq e.0 k) (list_any (λ other. bytes_eq other k) (keys_of es)) new in
    rw (turned_key e.0 k p.0) (new_value es k p.1)

-- a field of entries over entries is that field over that field
pub fields_meet : (lines : JoiningRules) (es fs made : Entries) → PlainEntries lines es → puts lines es fs ≡ Some made → (k : List ℕ)
    → over (below_key k lines) (or_null (value_at fs k)) (or_null (value_at es k)) ≡ Some (or_null (value_at made k))
fields_meet lines [] fs made plain h k =
    ap tree_of (null_lays Value (below_key k lines) (or_null (value_at fs k)))
    ∙ ap (λ (o : Option Entries). o >>? λ (l : Entries). Some (or_null (value_at l k))) h
fields_meet lines (e ∷ es) fs made plain h k =
    let first = first_new e es plain.0 in
    let next = came (put lines fs e) (λ all. puts lines es all) made h in
    let value = came (over (below_key e.0 lines) (or_null (value_at fs e.0)) e.1) (λ v. Some (with_entry fs e.0 v)) next.0 next.1.0 in
    by value.0 value.1.0 (bytes_eq k e.0) refl (fields_meet lines es (with_entry fs e.0 value.0) made (first.1, plain.1.1) (ap (λ (o : Option Entries). o >>? λ all. puts lines es all) value.1.1 ∙ next.1.1))
  where
    by : (v : Tree) → over (below_key e.0 lines) (or_null (value_at fs e.0)) e.1 ≡ Some v → (b : Bool) → bytes_eq k e.0 ≡ b
        → ((q : List ℕ) → over (below_key q lines) (or_null (value_at (with_entry fs e.0 v) q)) (or_null (value_at es q)) ≡ Some (or_null (value_at made q)))
        → over (below_key k lines) (or_null (value_at fs k)) (or_null (cond b (Some e.1) (value_at es k))) ≡ Some (or_null (value_at made k))
    by v is true same more =
        let first = first_new e es plain.0 in
        let key = same_key k e.0 same in
        let own : over (below_key e.0 lines) (or_null (value_at (with_entry fs e.0 v) e.0)) (or_null (value_at es e.0)) ≡ Some v =
        ap (λ (o : Option Tree). over (below_key e.0 lines) (or_null o) (or_null (value_at es e.0))) (own_value fs e.0 v)
        ∙ ap (λ (o : Option Tree). over (below_key e.0 lines) v (or_null o)) (new_value es e.0 first.0)
        ∙ ap tree_of (null_lays Value (below_key e.0 lines) v) in
        subst (λ (q : List ℕ). over (below_key q lines) (or_null (value_at fs q)) e.1 ≡ Some (or_null (value_at made q))) (sym key) (is ∙ sym own ∙ more e.0)
    by v is false differs more =
        ap (λ (o : Option Tree). over (below_key k lines) (or_null o) (or_null (value_at es k))) (sym (other_value fs e.0 k v differs)) ∙ more k

-- a text over anything is that text, and null leaves what is there
pub scalar_stays : (text : List ℕ) (base made : Tree) → over [] base (Scalar text) ≡ Some made → made ≡ Scalar text
scalar_stays text base made h = by (out-Tree base) (sym (ap tree_of (scalar_lays Value [] base text)) ∙ h)
  where
    by : (v : Tree-F Tree) → tree_of (scalar_over text v) ≡ Some made → made ≡ Scalar text
    by Tree-F.Null h = cc
    by (Tree-F.Scalar old) h = cc
    by (Tree-F.Map es) h = absurd (let wrong : ⊥ = cc in wrong)
    by (Tree-F.Seq xs) h = absurd (let wrong : ⊥ = cc in wrong)
    by Tree-F.Reset h = absurd (let wrong : ⊥ = cc in wrong)
    by (Tree-F.Override inner) h = absurd (let wrong : ⊥ = cc in wrong)

pub null_leaves : (base made : Tree) → over [] base Null ≡ Some made → made ≡ base
null_leaves base made h = let e : Some base ≡ Some made = sym (ap tree_of (null_lays Value [] base)) ∙ h in cc

-- a text, or null
abbrev IsText : Tree → Type 0
IsText tree = is_text (out-Tree tree) ≡ true

-- what a text makes of a tree: null leaves it, and any other text takes its place
abbrev Made : Tree → Tree → Tree → Type 0
Made tree base made = ((tree ≡ Null) × (made ≡ base)) ⊎ ((text : List ℕ) × ((tree ≡ Scalar text) × (made ≡ Scalar text)))

map_no_text : (es : Entries) → is_text (out-Tree (Map es)) ≡ false
map_no_text es = search (rules, the_lemmas)

seq_no_text : (xs : List Tree) → is_text (out-Tree (Seq xs)) ≡ false
seq_no_text xs = search (rules, the_lemmas)

reset_no_text : is_text (out-Tree Reset) ≡ false
reset_no_text = search (rules, the_lemmas)

override_no_text : (inner : Tree) → is_text (out-Tree (Override inner)) ≡ false
override_no_text inner = search (rules, the_lemmas)

text_makes : (tree base made : Tree) → IsText tree → over [] base tree ≡ Some made → Made tree base made
text_makes tree base made =
    of_every (λ tree. IsText tree → over [] base tree ≡ Some made → Made tree base made)
    (λ is h. inl (refl, null_leaves base made h))
    (λ text is h. inr (text, (refl, scalar_stays text base made h)))
    (λ es more is h. absurd (true≢false (sym is ∙ map_no_text es)))
    (λ xs more is h. absurd (true≢false (sym is ∙ seq_no_text xs)))
    (λ is h. absurd (true≢false (sym is ∙ reset_no_text)))
    (λ inner more is h. absurd (true≢false (sym is ∙ override_no_text inner)))
    tree

null_text : IsText Null
null_text = search (rules, the_lemmas)

scalar_text : (text : List ℕ) → IsText (Scalar text)
scalar_text text = search (rules, the_lemmas)

-- texts stay texts
pub texts_stay : (tree base made : Tree) → IsText tree → IsText base → over [] base tree ≡ Some made → IsText made
texts_stay tree base made is other h =
    elim (text_makes tree base made is h) as (λ x. IsText made)
    [ inl p ↦ subst IsText (sym p.1) other | inr p ↦ subst IsText (sym p.1.1) (scalar_text p.0) ]

-- the same text over itself
pub text_same : (tree base made : Tree) → IsText tree → tree ≡ base → over [] base tree ≡ Some made → made ≡ tree
text_same tree base made is same h =
    elim (text_makes tree base made is h) as (λ x. made ≡ tree)
    [ inl p ↦ p.1 ∙ sym same | inr p ↦ p.1.1 ∙ sym p.1.0 ]

abbrev protocol : Tree → Tree
protocol tree = protocol_in (out-Tree tree) tree

scalar_protocol : (text : List ℕ) → protocol (Scalar text) ≡ Scalar text
scalar_protocol text = search (rules, the_lemmas)

pub protocol_same : (tree base made : Tree) → IsText tree → protocol tree ≡ protocol base → over [] base tree ≡ Some made → protocol made ≡ protocol tree
protocol_same tree base made is same h =
    elim (text_makes tree base made is h) as (λ x. protocol made ≡ protocol tree)
    [ inl p ↦ ap protocol p.1 ∙ sym same | inr p ↦ ap protocol (p.1.1 ∙ sym p.1.0) ]

-- the text of a scalar stays
scalar_in : (tree : Tree) (text : List ℕ) → text_in (out-Tree tree) ≡ Some text → tree ≡ Scalar text
scalar_in tree text =
    of_every (λ tree. text_in (out-Tree tree) ≡ Some text → tree ≡ Scalar text)
    (λ h. absurd (let e : text_in (out-Tree Null) ≡ None = search (rules, the_lemmas) in let wrong : ⊥ = cc in wrong))
    (λ other h. let e : text_in (out-Tree (Scalar other)) ≡ Some other = search (rules, the_lemmas) in cc)
    (λ es more h. absurd (let e : text_in (out-Tree (Map es)) ≡ None = search (rules, the_lemmas) in let wrong : ⊥ = cc in wrong))
    (λ xs more h. absurd (let e : text_in (out-Tree (Seq xs)) ≡ None = search (rules, the_lemmas) in let wrong : ⊥ = cc in wrong))
    (λ h. absurd (let e : text_in (out-Tree Reset) ≡ None = search (rules, the_lemmas) in let wrong : ⊥ = cc in wrong))
    (λ inner more h. absurd (let e : text_in (out-Tree (Override inner)) ≡ None = search (rules, the_lemmas) in let wrong : ⊥ = cc in wrong))
    tree

text_of : (text : List ℕ) → text_in (out-Tree (Scalar text)) ≡ Some text
text_of text = search (rules, the_lemmas)

pub text_stays : (tree base made : Tree) (text : List ℕ) → text_in (out-Tree tree) ≡ Some text → over [] base tree ≡ Some made → text_in (out-Tree made) ≡ Some text
text_stays tree base made text is h =
    let e = scalar_stays text base made (ap (over [] base) (sym (scalar_in tree text is)) ∙ h) in
    ap (λ (x : Tree). text_in (out-Tree x)) e ∙ text_of text
