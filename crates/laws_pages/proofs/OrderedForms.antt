-- What attributes without attributes of their own give of a tree that is put in order: the same.
use Rattle.std.proofs.Common.{◌≡◌, ◌∙◌, ℕ, Bool, true, false, cond, List, [], ◌∷◌, ◌++◌, Some, None, Ok, map, codes, refl, ap}
use Rattle.std.specs.Prelude.{◌||◌, ◌&&◌, Option, if◌then◌else◌, nat_le, not}
use Rattle.std.specs.List.{zip}
use Rattle.std.specs.Map.{keys_of, values_of}
use Rattle.std.specs.Option.{ok_or, option_and_then, option_map, option_map_or}
use Rattle.std.specs.Str.{bytes_eq}
use Rattle.tree_base.specs.Answers.{◌>>=◌}
use Rattle.tree_base.specs.ByteOrder.{is_before, placed}
use Rattle.tree_base.specs.Entries.{value_at}
use Rattle.tree_base.specs.declared.Step.TheVariants.{Key}
use Rattle.tree_base.specs.declared.Tree.{Tree, out-Tree}
use Rattle.tree_base.specs.declared.Tree.TheOpen.{Tree-F}
use Rattle.attribute_types.specs.Answers.{refused, under}
use Rattle.attribute_types.specs.declared.attribute.Value.{Value}
use Rattle.attribute_types.specs.declared.form.Plain.{Plain}
use Rattle.attribute_types.specs.declared.form.WordSet.TheVariants as words
use Rattle.attribute_types.specs.declared.refusal.AttributeRefusal.TheVariants.{At}
use Rattle.attribute_types.specs.declared.refusal.Fault.{Fault}
use Rattle.attribute_scalars.specs.Lists.{all_passing, as_test, collected, labelled, mapping_in, nullable_in, ordered, pairs_from, pairs_of, texts_of}
use Rattle.attribute_scalars.specs.Scalars.{has_no_colon, accepted, bool_of, has_form, if_passes, int_of, is_word_of, num_of, text_in, text_of, written}
use Rattle.attribute_scalars.specs.Walks.{Entries, Read, each_entry, in_byte_order, is_in, is_null}
use Rattle.attribute_values.specs.Forms.{if_right, same_count, bind_option, bind_value, count_of, counted_or_null, deploy_option, deployed, entries_of, external_among, first_label, flag, has_networks, is_bind, is_empty, is_filled, is_of_own, kept, kept_if_any, label_in, made_path, no_options, plain_value, replicas_among, scale_among, source_among, text_or_null, text_under, update_option, update_options}
use Rattle.short_forms.specs.Decimals.{decimal_of}
use Rattle.short_forms.specs.Durations.{duration_of}
use Rattle.short_forms.specs.PortLaws.{published_in, target_in}
use Rattle.short_forms.specs.Sizes.{size_of}
use Rattle.laws_pages.proofs.OrderedTrees.{AreOrdered, any_ordered, are_ordered, entry_key, ordered_entries, ordered_entry, ordered_out, ordered_twice, out-ordered}

-- a reader of what is seen of a tree gives the same of the tree in order
abbrev pub Same : {X : Type 0} → (Tree-F Tree → X) → Type 0
Same read = (v : Tree-F Tree) → read (ordered_out v) ≡ read v

-- and so of the tree itself
pub of_tree : {X : Type 0} (read : Tree-F Tree → X) → Same read → (tree : Tree) → read (out-Tree (ordered tree)) ≡ read (out-Tree tree)
of_tree read same tree = ap read (out-ordered tree) ∙ same (out-Tree tree)

-- a walk over ordered entries, by readers that give the same
pub walk_same : {X : Type 0} (read other : List ℕ → Tree → Read (List X)) → ((key : List ℕ) (tree : Tree) → read key (ordered tree) ≡ other key tree)
    → (entries others : Entries) → AreOrdered entries others → each_entry read (in_byte_order entries) ≡ each_entry other (in_byte_order others)
walk_same {X} read other same entries others are = ap (each_entry read) are.sorted ∙ each (in_byte_order others)
  where
    each : (es : Entries) → each_entry read (map ordered_entry es) ≡ each_entry other es
    each [] = refl
    each (e ∷ es) = (λ i. under (Key e.0) (same e.0 e.1 i) >>= λ found. each es i >>= λ more. Ok (found ++ more))

-- a walk by a reader of what is seen
pub walk_seen : {X : Type 0} (read : List ℕ → Tree-F Tree → Read (List X)) → ((key : List ℕ) → Same (read key)) → (entries others : Entries) → AreOrdered entries others
    → each_entry (λ key tree. read key (out-Tree tree)) (in_byte_order entries) ≡ each_entry (λ key tree. read key (out-Tree tree)) (in_byte_order others)
walk_seen read same entries others are =
    walk_same (λ key tree. read key (out-Tree tree)) (λ key tree. read key (out-Tree tree)) (λ key tree. of_tree (read key) (same key) tree) entries others are

text_same : Same text_in
text_same Tree-F.Null = refl
text_same (Tree-F.Scalar text) = refl
text_same (Tree-F.Map entries) = refl
text_same (Tree-F.Seq items) = refl
text_same Tree-F.Reset = refl
text_same (Tree-F.Override inner) = refl

nullable_same : Same nullable_in
nullable_same Tree-F.Null = refl
nullable_same (Tree-F.Scalar text) = refl
nullable_same (Tree-F.Map entries) = refl
nullable_same (Tree-F.Seq items) = refl
nullable_same Tree-F.Reset = refl
nullable_same (Tree-F.Override inner) = refl

pub null_same : Same is_null
null_same Tree-F.Null = refl
null_same (Tree-F.Scalar text) = refl
null_same (Tree-F.Map entries) = refl
null_same (Tree-F.Seq items) = refl
null_same Tree-F.Reset = refl
null_same (Tree-F.Override inner) = refl

text_of_same : Same text_of
text_of_same v = ap (λ (o : Option (List ℕ)). ok_or o (At Fault.WrongKind [])) (text_same v)

pub written_same : {X : Type 0} (read : List ℕ → Option X) → Same (written read)
written_same read v = ap (λ (o : Option (List ℕ)). ok_or (option_and_then read o) (At Fault.WrongKind [])) (text_same v)

accepted_same : {X : Type 0} (read : List ℕ → Option X) → Same (accepted read)
accepted_same {X} read v = ap (λ (r : Read (List ℕ)). r >>= λ text. ok_or (read text) (At Fault.BadValue [])) (text_of_same v)

-- items and values, each read
collected_same : {X : Type 0} (read : Tree → Option X) → ((tree : Tree) → read (ordered tree) ≡ read tree) → (trees : List Tree) → collected read (map ordered trees) ≡ collected read trees
collected_same read same [] = refl
collected_same read same (tree ∷ trees) = (λ i. option_and_then (λ x. option_map (λ xs. x ∷ xs) (collected_same read same trees i)) (same tree i))

texts_same : Same texts_of
texts_same Tree-F.Null = refl
texts_same (Tree-F.Scalar text) = refl
texts_same (Tree-F.Map entries) = refl
texts_same (Tree-F.Seq items) =
    ap (λ (o : Option (List (List ℕ))). ok_or o (At Fault.WrongKind [])) (collected_same (λ tree. text_in (out-Tree tree)) (of_tree text_in text_same) items)
texts_same Tree-F.Reset = refl
texts_same (Tree-F.Override inner) = refl

ordered_keys : (es : Entries) → keys_of (map ordered_entry es) ≡ keys_of es
ordered_keys [] = refl
ordered_keys (e ∷ es) = ap (λ (l : List (List ℕ)). e.0 ∷ l) (ordered_keys es)

ordered_values : (es : Entries) → values_of (map ordered_entry es) ≡ map ordered (values_of es)
ordered_values [] = refl
ordered_values (e ∷ es) = ap (λ l. ordered e.1 ∷ l) (ordered_values es)

pairs_from_same : (es : Entries) → pairs_from (map ordered_entry es) ≡ pairs_from es
pairs_from_same es =
    ap (λ (keys : List (List ℕ)). ok_or (option_map (zip keys) (collected (λ tree. nullable_in (out-Tree tree)) (values_of (map ordered_entry es)))) (At Fault.WrongKind [])) (ordered_keys es)
    ∙ ap (λ (o : Option (List (Option (List ℕ)))). ok_or (option_map (zip (keys_of es)) o) (At Fault.WrongKind []))
    (ap (collected (λ tree. nullable_in (out-Tree tree))) (ordered_values es) ∙ collected_same (λ tree. nullable_in (out-Tree tree)) (of_tree nullable_in nullable_same) (values_of es))

pairs_same : Same pairs_of
pairs_same Tree-F.Null = refl
pairs_same (Tree-F.Scalar text) = refl
pairs_same (Tree-F.Map entries) = ap pairs_from ((are_ordered entries).sorted) ∙ pairs_from_same (in_byte_order entries)
pairs_same (Tree-F.Seq items) = refl
pairs_same Tree-F.Reset = refl
pairs_same (Tree-F.Override inner) = refl

-- a mapping that is kept
mapping_same : (tree : Tree) (v : Tree-F Tree) → mapping_in (ordered tree) (ordered_out v) ≡ mapping_in tree v
mapping_same tree Tree-F.Null = refl
mapping_same tree (Tree-F.Scalar text) = refl
mapping_same tree (Tree-F.Map entries) = ap (λ t. Ok t) (ordered_twice tree)
mapping_same tree (Tree-F.Seq items) = refl
mapping_same tree Tree-F.Reset = refl
mapping_same tree (Tree-F.Override inner) = refl

-- the text under a key
text_under_same : (entries others : Entries) → AreOrdered entries others → (key : List ℕ) → text_under entries key ≡ text_under others key
text_under_same entries others are key = ap (option_and_then (λ tree. text_in (out-Tree tree))) (are.values key) ∙ at (value_at others key)
  where
    at : (o : Option Tree) → option_and_then (λ tree. text_in (out-Tree tree)) (option_map ordered o) ≡ option_and_then (λ tree. text_in (out-Tree tree)) o
    at None = refl
    at (Some tree) = of_tree text_in text_same tree

placed_some : (e : List ℕ × Tree) (es : Entries) → is_empty (Tree-F.Map (placed entry_key e es)) ≡ false
placed_some e [] = refl
placed_some e (y ∷ ys) = at (is_before y.0 e.0)
  where
    at : (b : Bool) → is_empty (Tree-F.Map (cond b (y ∷ placed entry_key e ys) (e ∷ y ∷ ys))) ≡ false
    at true = refl
    at false = refl

filled : Same (λ v. not (is_null v) && not (is_empty v))
filled Tree-F.Null = refl
filled (Tree-F.Scalar text) = refl
filled (Tree-F.Map []) = refl
filled (Tree-F.Map (e ∷ es)) = ap not (placed_some (ordered_entry e) (in_byte_order (map ordered_entry es)))
filled (Tree-F.Seq []) = refl
filled (Tree-F.Seq (item ∷ items)) = refl
filled Tree-F.Reset = refl
filled (Tree-F.Override inner) = refl

filled_same : (o : Option Tree) → is_filled (option_map ordered o) ≡ is_filled o
filled_same None = refl
filled_same (Some tree) = of_tree (λ v. not (is_null v) && not (is_empty v)) filled tree

-- the number that stands in how a service is deployed
abbrev count_in : Tree-F Tree → Option ℕ
count_in v = option_and_then count_of (text_under (entries_of v) (codes "replicas"))

count_same : Same count_in
count_same Tree-F.Null = refl
count_same (Tree-F.Scalar text) = refl
count_same (Tree-F.Map entries) = ap (option_and_then count_of) (text_under_same (ordered_entries entries) entries (are_ordered entries) (codes "replicas"))
count_same (Tree-F.Seq items) = refl
count_same Tree-F.Reset = refl
count_same (Tree-F.Override inner) = refl

own_same : (e : List ℕ × Tree) → is_of_own (ordered_entry e) ≡ is_of_own e
own_same e = ap (λ b. not (is_in (codes "external" ∷ codes "name" ∷ []) e.0) && not b) (of_tree is_null null_same e.1)

module _ (entries others : Entries) (are : AreOrdered entries others) where
  networks_same : has_networks entries ≡ has_networks others
  networks_same = ap is_filled (are.values (codes "networks")) ∙ filled_same (value_at others (codes "networks"))

  pub bind_same : is_bind entries ≡ is_bind others
  bind_same = ap (λ (o : Option (List ℕ)). option_map_or (bytes_eq (codes "bind")) o false) (text_under_same entries others are (codes "type"))

  replicas_same : replicas_among entries ≡ replicas_among others
  replicas_same = ap (option_and_then (λ deploy. count_in (out-Tree deploy))) (are.values (codes "deploy")) ∙ at (value_at others (codes "deploy"))
    where
      at : (o : Option Tree) → option_and_then (λ deploy. count_in (out-Tree deploy)) (option_map ordered o) ≡ option_and_then (λ deploy. count_in (out-Tree deploy)) o
      at None = refl
      at (Some tree) = of_tree count_in count_same tree

  external_same : (given : Bool) → external_among entries given ≡ external_among others given
  external_same true = ap (λ b. if_right (not b) (Some (Value.Bool true))) (any_ordered is_of_own own_same entries others are)
  external_same false = refl

  source_same : (text : List ℕ) → source_among entries text ≡ source_among others text
  source_same text = ap (λ b. if_right (not b || has_no_colon text) (Some (Value.Text text))) bind_same

  scale_same : (count : ℕ) → scale_among entries count ≡ scale_among others count
  scale_same count = ap (λ (o : Option ℕ). if_right (nat_le count 100 && same_count count o) (Some (Value.Num count))) replicas_same

made_same : Same made_path
made_same Tree-F.Null = refl
made_same (Tree-F.Scalar text) = refl
made_same (Tree-F.Map entries) = refl
made_same (Tree-F.Seq items) = refl
made_same Tree-F.Reset = refl
made_same (Tree-F.Override inner) = refl

label_same : Same label_in
label_same Tree-F.Null = refl
label_same (Tree-F.Scalar text) = refl
label_same (Tree-F.Map entries) = refl
label_same (Tree-F.Seq items) = refl
label_same Tree-F.Reset = refl
label_same (Tree-F.Override inner) = refl

counted_same : {X : Type 0} (read : List ℕ → Option X) → Same (counted_or_null read)
counted_same read Tree-F.Null = refl
counted_same read (Tree-F.Scalar text) = refl
counted_same read (Tree-F.Map entries) = refl
counted_same read (Tree-F.Seq items) = refl
counted_same read Tree-F.Reset = refl
counted_same read (Tree-F.Override inner) = refl

text_or_same : Same text_or_null
text_or_same Tree-F.Null = refl
text_or_same (Tree-F.Scalar text) = refl
text_or_same (Tree-F.Map entries) = refl
text_or_same (Tree-F.Seq items) = refl
text_or_same Tree-F.Reset = refl
text_or_same (Tree-F.Override inner) = refl

option_same : (key : List ℕ) → Same (bind_option key)
option_same key v =
    (λ i. if bytes_eq key (codes "create_host_path") then made_same v i else (if bytes_eq key (codes "selinux") then label_same v i else refused Fault.UnknownAttribute))

bind_value_same : Same bind_value
bind_value_same Tree-F.Null = refl
bind_value_same (Tree-F.Scalar text) = refl
bind_value_same (Tree-F.Map entries) =
    ap (λ (r : Read (List (List ℕ))). r >>= λ labels. Ok (first_label labels))
    (walk_seen bind_option option_same (ordered_entries entries) entries (are_ordered entries))
bind_value_same (Tree-F.Seq items) = refl
bind_value_same Tree-F.Reset = refl
bind_value_same (Tree-F.Override inner) = refl

none_same : Same no_options
none_same Tree-F.Null = refl
none_same (Tree-F.Scalar text) = refl
none_same (Tree-F.Map entries) =
    ap (λ (r : Read (List Value)). r >>= λ none. Ok None)
    (walk_same (λ key tree. refused {X = List Value} Fault.UnknownAttribute) (λ key tree. refused {X = List Value} Fault.UnknownAttribute) (λ key tree. refl) (ordered_entries entries) entries (are_ordered entries))
none_same (Tree-F.Seq items) = refl
none_same Tree-F.Reset = refl
none_same (Tree-F.Override inner) = refl

update_same : (key : List ℕ) → Same (update_option key)
update_same key v =
    (λ i. if bytes_eq key (codes "parallelism") then counted_same num_of v i else (if is_in (codes "failure_action" ∷ codes "order" ∷ []) key then text_or_same v i else Ok []))

updates_same : Same update_options
updates_same Tree-F.Null = refl
updates_same (Tree-F.Scalar text) = refl
updates_same (Tree-F.Map entries) = walk_seen update_option update_same (ordered_entries entries) entries (are_ordered entries)
updates_same (Tree-F.Seq items) = refl
updates_same Tree-F.Reset = refl
updates_same (Tree-F.Override inner) = refl

deploy_same : (key : List ℕ) → Same (deploy_option key)
deploy_same key v = (λ i. if bytes_eq key (codes "replicas") then counted_same count_of v i else (if bytes_eq key (codes "update_config") then updates_same v i else Ok []))

abbrev deploy_walk : Tree-F Tree → Read (List Value)
deploy_walk v = each_entry (λ key option. deploy_option key (out-Tree option)) (in_byte_order (entries_of v))

walked_same : Same deploy_walk
walked_same Tree-F.Null = refl
walked_same (Tree-F.Scalar text) = refl
walked_same (Tree-F.Map entries) = walk_seen deploy_option deploy_same (ordered_entries entries) entries (are_ordered entries)
walked_same (Tree-F.Seq items) = refl
walked_same Tree-F.Reset = refl
walked_same (Tree-F.Override inner) = refl

deployed_same : (tree : Tree) (v : Tree-F Tree) → deployed (ordered tree) (ordered_out v) ≡ deployed tree v
deployed_same tree v = (λ i. mapping_same tree v i >>= λ kept_tree. walked_same v i >>= λ none. Ok kept_tree)

module _ (entries others : Entries) (are : AreOrdered entries others) (tree : Tree) (v : Tree-F Tree) where
  mode_same : plain_value Plain.NetworkMode entries (ordered tree) (ordered_out v) ≡ plain_value Plain.NetworkMode others tree v
  mode_same =
      (λ i. accepted_same (if_passes (is_word_of words.NetworkModes)) v i >>= λ mode. if_right (not (networks_same entries others are i)) (Some (Value.Text mode)))

  -- what stands in order gives the same value
  pub plain_same : (plain : Plain) → plain_value plain entries (ordered tree) (ordered_out v) ≡ plain_value plain others tree v
  plain_same Plain.Text = ap (kept Value.Text) (text_of_same v)
  plain_same Plain.Bool = ap (kept Value.Bool) (written_same bool_of v)
  plain_same Plain.Flag = ap (λ (r : Read Bool). r >>= λ given. Ok (flag given)) (written_same bool_of v)
  plain_same Plain.Num = ap (kept Value.Num) (written_same num_of v)
  plain_same Plain.Int = ap (kept Value.Int) (written_same int_of v)
  plain_same Plain.List = ap (kept_if_any Value.List) (texts_same v)
  plain_same (Plain.Items form) = ap (λ (r : Read (List (List ℕ))). kept_if_any Value.List (r >>= all_passing (has_form form))) (texts_same v)
  plain_same Plain.Pairs = ap (kept_if_any Value.Pairs) (pairs_same v)
  plain_same Plain.Labels = ap (λ (r : Read (List (List ℕ × Option (List ℕ)))). kept_if_any Value.Pairs (r >>= λ pairs. Ok (map labelled pairs))) (pairs_same v)
  plain_same Plain.Argv = ap (kept Value.Argv) (texts_same v)
  plain_same Plain.Duration = ap (kept Value.Duration) (written_same duration_of v)
  plain_same Plain.Size = ap (kept Value.Size) (written_same size_of v)
  plain_same Plain.Decimal = ap (kept Value.Decimal) (written_same decimal_of v)
  plain_same (Plain.Word set) = ap (kept Value.Text) (accepted_same (if_passes (is_word_of set)) v)
  plain_same Plain.Kept = ap (kept Value.Kept) (mapping_same tree v)
  plain_same Plain.Scale = (λ i. written_same num_of v i >>= λ count. scale_same entries others are count i)
  plain_same Plain.Deploy = ap (kept Value.Kept) (deployed_same tree v)
  plain_same Plain.NetworkMode = mode_same
  plain_same Plain.External = (λ i. written_same bool_of v i >>= λ given. external_same entries others are given i)
  plain_same Plain.Test = ap (λ (r : Read (List (List ℕ))). kept Value.Argv (r >>= as_test)) (texts_same v)
  plain_same Plain.PortTarget = ap (kept Value.Port) (accepted_same target_in v)
  plain_same Plain.Published = ap (kept Value.Text) (accepted_same published_in v)
  plain_same Plain.Source = (λ i. text_of_same v i >>= λ text. source_same entries others are text i)
  plain_same Plain.Target = ap (kept Value.Text) (accepted_same (if_passes has_no_colon) v)
  plain_same Plain.Bind = bind_value_same v
  plain_same Plain.NoOptions = none_same v
  plain_same Plain.Dropped = refl
