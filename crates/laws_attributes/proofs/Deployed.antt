-- How a service is deployed says the same when its keys are in byte order.
use Rattle.std.proofs.Common.{◌≡◌, ◌∙◌, ℕ, Bool, true, false, cond, List, [], ◌∷◌, ◌++◌, map, codes, Option, Some, None, Ok, refl, ap, sym, subst}
use Rattle.std.specs.Option.{option_and_then, option_map}
use Rattle.std.specs.Str.{bytes_eq}
use Rattle.tree_base.specs.Answers.{◌>>=◌}
use Rattle.tree_base.specs.Entries.{value_at}
use Rattle.tree_base.specs.declared.Step.TheVariants.{Key}
use Rattle.tree_base.specs.declared.tree.Tree.{Tree, out-Tree}
use Rattle.tree_base.specs.declared.tree.Tree.TheOpen.{Tree-F}
use Rattle.tree_base.specs.declared.tree.Tree.TheVariants.{outs-Map, outs-Null, outs-Override, outs-Reset, outs-Scalar, outs-Seq}
use Rattle.attribute_types.specs.Answers.{under}
use Rattle.attribute_types.specs.declared.attribute.Value.{Value}
use Rattle.attribute_types.specs.declared.form.Plain.{Plain}
use Rattle.attribute_scalars.specs.Lists.{mapping_in, ordered}
use Rattle.attribute_scalars.specs.Scalars.{num_of, text_in}
use Rattle.attribute_scalars.specs.Walks.{Entries, Read, each_entry, in_byte_order, is_in}
use Rattle.attribute_scalars.proofs.KeptKeys as kept_keys
use Rattle.attribute_values.specs.Forms.{count_of, counted_or_null, deploy_option, deployed, entries_of, kept, text_or_null, text_under, update_option, update_options}
use Rattle.attribute_paths.proofs.Trees.{of_every}
use Rattle.laws_attributes.proofs.Order.{order_stays, sorted_in_order}
use Rattle.laws_attributes.proofs.Lookups.{sorted_value}
use Rattle.laws_attributes.proofs.Gifts.{key_of}
use Rattle.laws_attributes.proofs.KeptTrees.{ordered_entries, ordered_entry, ordered_map, ordered_null, ordered_out, ordered_override, ordered_reset, ordered_scalar, ordered_seq}
use Rattle.laws_attributes.proofs.ListForms.{kept_there, mapping_back, mapping_given}
use Rattle.laws_attributes.proofs.PlainForms.{Back, bound_given, kept_back, kept_given}

-- the shape of a tree in byte order
abbrev pub ordered_shape : Tree-F Tree → Tree-F Tree
ordered_shape Tree-F.Null = Tree-F.Null
ordered_shape (Tree-F.Scalar text) = Tree-F.Scalar text
ordered_shape (Tree-F.Map es) = Tree-F.Map (ordered_entries es)
ordered_shape (Tree-F.Seq xs) = Tree-F.Seq (map ordered xs)
ordered_shape Tree-F.Reset = Tree-F.Reset
ordered_shape (Tree-F.Override inner) = Tree-F.Override (ordered inner)

abbrev Shaped : Tree → Type 0
Shaped tree = out-Tree (ordered tree) ≡ ordered_shape (out-Tree tree)

pub shaped : (tree : Tree) → Shaped tree
shaped = of_every Shaped
    (ap out-Tree ordered_null ∙ outs-Null ∙ sym (ap ordered_shape outs-Null))
    (λ text. ap out-Tree (ordered_scalar text) ∙ outs-Scalar text ∙ sym (ap ordered_shape (outs-Scalar text)))
    (λ es h. ap out-Tree (ordered_map es) ∙ outs-Map (ordered_entries es) ∙ sym (ap ordered_shape (outs-Map es)))
    (λ xs h. ap out-Tree (ordered_seq xs) ∙ outs-Seq (map ordered xs) ∙ sym (ap ordered_shape (outs-Seq xs)))
    (ap out-Tree ordered_reset ∙ outs-Reset ∙ sym (ap ordered_shape outs-Reset))
    (λ inner h. ap out-Tree (ordered_override inner) ∙ outs-Override (ordered inner) ∙ sym (ap ordered_shape (outs-Override inner)))

-- what is asked of each entry, where it is the same of a tree in byte order
module _ (asked : List ℕ → Tree → Read (List Value)) (same : (key : List ℕ) (tree : Tree) → asked key (ordered tree) ≡ asked key tree) where
  each_same : (es : Entries) → each_entry asked (map ordered_entry es) ≡ each_entry asked es
  each_same [] = refl
  each_same (e ∷ es) = (λ i. under (Key e.0) (same e.0 e.1 i) >>= λ found. each_same es i >>= λ more. Ok (found ++ more))

  pub asked_same : (es : Entries) → each_entry asked (in_byte_order (ordered_entries es)) ≡ each_entry asked (in_byte_order es)
  asked_same es =
      ap (each_entry asked) (order_stays key_of (ordered_entries es) (sorted_in_order key_of (map ordered_entry es)) ∙ sym (kept_keys.map-by_key ordered_entry key_of es))
      ∙ each_same (in_byte_order es)

counted_same : {X : Type 0} (read : List ℕ → Option X) (s : Tree-F Tree) → counted_or_null read (ordered_shape s) ≡ counted_or_null read s
counted_same read Tree-F.Null = refl
counted_same read (Tree-F.Scalar text) = refl
counted_same read (Tree-F.Map es) = refl
counted_same read (Tree-F.Seq xs) = refl
counted_same read Tree-F.Reset = refl
counted_same read (Tree-F.Override inner) = refl

text_same : (s : Tree-F Tree) → text_or_null (ordered_shape s) ≡ text_or_null s
text_same Tree-F.Null = refl
text_same (Tree-F.Scalar text) = refl
text_same (Tree-F.Map es) = refl
text_same (Tree-F.Seq xs) = refl
text_same Tree-F.Reset = refl
text_same (Tree-F.Override inner) = refl

update_same : (key : List ℕ) (s : Tree-F Tree) → update_option key (ordered_shape s) ≡ update_option key s
update_same key s = (λ i. cond (bytes_eq key (codes "parallelism")) (counted_same num_of s i) (cond (is_in (codes "failure_action" ∷ codes "order" ∷ []) key) (text_same s i) (Ok [])))

updates_same : (s : Tree-F Tree) → update_options (ordered_shape s) ≡ update_options s
updates_same Tree-F.Null = refl
updates_same (Tree-F.Scalar text) = refl
updates_same (Tree-F.Map es) =
    asked_same (λ key tree. update_option key (out-Tree tree)) (λ key tree. ap (update_option key) (shaped tree) ∙ update_same key (out-Tree tree)) es
updates_same (Tree-F.Seq xs) = refl
updates_same Tree-F.Reset = refl
updates_same (Tree-F.Override inner) = refl

deploys_same : (key : List ℕ) (s : Tree-F Tree) → deploy_option key (ordered_shape s) ≡ deploy_option key s
deploys_same key s = (λ i. cond (bytes_eq key (codes "replicas")) (counted_same count_of s i) (cond (bytes_eq key (codes "update_config")) (updates_same s i) (Ok [])))

abbrev asks : List ℕ → Tree → Read (List Value)
asks key option = deploy_option key (out-Tree option)

options_same : (es : Entries) → each_entry asks (in_byte_order (ordered_entries es)) ≡ each_entry asks (in_byte_order es)
options_same es = asked_same asks (λ key tree. ap (deploy_option key) (shaped tree) ∙ deploys_same key (out-Tree tree)) es

-- what is said of a tree, behind what is asked of its entries
abbrev asked_then : Read Tree → Read (List Value) → Read Tree
asked_then tree asked = tree >>= λ kept_tree. asked >>= λ none. Ok kept_tree

pub deployed_given : (tree : Tree) (s : Tree-F Tree) (t : Tree) → deployed tree s ≡ Ok t
    → (es : Entries) × (s ≡ Tree-F.Map es) × (ordered tree ≡ t) × (none : List Value) × (each_entry asks (in_byte_order es) ≡ Ok none)
deployed_given tree s t e =
    let b = bound_given (mapping_in tree s) (λ kept_tree. each_entry asks (in_byte_order (entries_of s)) >>= λ none. Ok kept_tree) t e in
    let m = mapping_given tree s b.0 b.1 in
    let n = bound_given (each_entry asks (in_byte_order (entries_of s))) (λ none. Ok b.0) t b.2 in
    let same : b.0 ≡ t = cc n.2 in
    (m.0, m.1, m.2 ∙ same, n.0, ap (λ z. each_entry asks (in_byte_order (entries_of z))) (sym m.1) ∙ n.1)

pub deployed_back : (tree : Tree) (es : Entries) (none : List Value) → out-Tree tree ≡ Tree-F.Map es → each_entry asks (in_byte_order es) ≡ Ok none
    → deployed (ordered tree) (out-Tree (ordered tree)) ≡ Ok (ordered tree)
deployed_back tree es none is asked =
    let right : each_entry asks (in_byte_order (entries_of (out-Tree (ordered tree)))) ≡ Ok none =
    ap (λ z. each_entry asks (in_byte_order (entries_of z))) (ordered_out tree es is) ∙ options_same es ∙ asked in
    (λ i. asked_then (mapping_back tree es is i) (right i))

pub deploy_form : (tree : Tree) (v : Value) → kept Value.Kept (deployed tree (out-Tree tree)) ≡ Ok (Some v) → Back Plain.Deploy v
deploy_form tree v e =
    let k = kept_given Value.Kept (deployed tree (out-Tree tree)) v e in
    let d = deployed_given tree (out-Tree tree) k.0 k.1 in
    subst (Back Plain.Deploy) (ap (λ t. Value.Kept t) d.2 ∙ k.2)
    (kept_there tree d.0 d.1, λ beside. kept_back Value.Kept (deployed (ordered tree) (out-Tree (ordered tree))) (ordered tree) (deployed_back tree d.0 d.3 d.1 d.4))

-- the number of containers that a deployment says
abbrev pub count_in : Tree → Option ℕ
count_in deploy = option_and_then count_of (text_under (entries_of (out-Tree deploy)) (codes "replicas"))

text_shape : (s : Tree-F Tree) → text_in (ordered_shape s) ≡ text_in s
text_shape Tree-F.Null = refl
text_shape (Tree-F.Scalar text) = refl
text_shape (Tree-F.Map es) = refl
text_shape (Tree-F.Seq xs) = refl
text_shape Tree-F.Reset = refl
text_shape (Tree-F.Override inner) = refl

ordered_value : (es : Entries) (k : List ℕ) → value_at (map ordered_entry es) k ≡ option_map ordered (value_at es k)
ordered_value [] k = refl
ordered_value (e ∷ es) k = at (bytes_eq k e.0) (ordered_value es k)
  where
    at : (b : Bool) → value_at (map ordered_entry es) k ≡ option_map ordered (value_at es k)
        → cond b (Some (ordered e.1)) (value_at (map ordered_entry es) k) ≡ option_map ordered (cond b (Some e.1) (value_at es k))
    at true h = refl
    at false h = h

text_ordered : (es : Entries) (k : List ℕ) → text_under (ordered_entries es) k ≡ text_under es k
text_ordered es k =
    ap (option_and_then (λ tree. text_in (out-Tree tree))) (sorted_value (map ordered_entry es) k ∙ ordered_value es k) ∙ at (value_at es k)
  where
    at : (o : Option Tree) → option_and_then (λ tree. text_in (out-Tree tree)) (option_map ordered o) ≡ option_and_then (λ tree. text_in (out-Tree tree)) o
    at None = refl
    at (Some tree) = ap text_in (shaped tree) ∙ text_shape (out-Tree tree)

-- is said by it in byte order too
pub count_ordered : (tree : Tree) → count_in (ordered tree) ≡ count_in tree
count_ordered tree = ap (λ s. option_and_then count_of (text_under (entries_of s) (codes "replicas"))) (shaped tree) ∙ at (out-Tree tree)
  where
    at : (s : Tree-F Tree) → option_and_then count_of (text_under (entries_of (ordered_shape s)) (codes "replicas")) ≡ option_and_then count_of (text_under (entries_of s) (codes "replicas"))
    at Tree-F.Null = refl
    at (Tree-F.Scalar text) = refl
    at (Tree-F.Map es) = ap (option_and_then count_of) (text_ordered es (codes "replicas"))
    at (Tree-F.Seq xs) = refl
    at Tree-F.Reset = refl
    at (Tree-F.Override inner) = refl
