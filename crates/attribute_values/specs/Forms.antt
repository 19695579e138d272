-- The value that stands at an attribute, by its form, or why there is none.
use Rattle.std.specs.Prelude.{ℕ, Bool, true, false, ◌==◌, ◌&&◌, ◌||◌, nat_le, not, List, [], ◌∷◌, Option, Some, None, Ok, codes, map, if◌then◌else◌}
use Rattle.std.specs.List.{list_any}
use Rattle.std.specs.Option.{option_and_then, option_map, option_map_or}
use Rattle.std.specs.Str.{bytes_eq}
use Rattle.tree_base.specs.Limits.{most_containers}
use Rattle.short_forms.specs.Decimals.{decimal_of}
use Rattle.short_forms.specs.Digits.{number_up_to}
use Rattle.short_forms.specs.Durations.{duration_of}
use Rattle.short_forms.specs.PortLaws.{published_in, target_in}
use Rattle.short_forms.specs.Sizes.{size_of}
use Rattle.tree_base.specs.Answers.{◌>>=◌}
use Rattle.tree_base.specs.Entries.{value_at}
use Rattle.tree_base.specs.declared.Tree.{Tree, out-Tree}
use Rattle.tree_base.specs.declared.Tree.TheOpen.{Tree-F}
use Rattle.attribute_types.specs.Answers.{refused}
use Rattle.attribute_types.specs.declared.attribute.Value.{Value}
use Rattle.attribute_types.specs.declared.form.ItemForm.{ItemForm}
use Rattle.attribute_types.specs.declared.form.Plain.{Plain}
use Rattle.attribute_types.specs.declared.form.WordSet.TheVariants as words
use Rattle.attribute_types.specs.declared.refusal.Fault.{Fault}
use Rattle.attribute_scalars.specs.Lists.{all_passing, as_test, if_any, labelled, mapping_in, pairs_of, text_in, texts_of}
use Rattle.attribute_scalars.specs.Scalars.{accepted, bool_of, has_form, has_no_colon, if_passes, int_of, is_word_of, num_of, text_of, written}
use Rattle.attribute_scalars.specs.Walks.{Entries, Read, each_entry, in_byte_order, is_in, is_null}

-- a value that is there
abbrev pub kept : {X : Type 0} → (X → Value) → Read X → Read (Option Value)
kept make found = found >>= λ x. Ok (Some (make x))

-- what was found, or a tree of another kind
abbrev pub found_or_other : Option Value → Read (Option Value)
found_or_other None = refused Fault.WrongKind
found_or_other (Some value) = Ok (Some value)

-- a list that isn't empty; an empty one is as good as none
abbrev pub kept_if_any : {X : Type 0} → (List X → Value) → Read (List X) → Read (Option Value)
kept_if_any make found = found >>= λ xs. Ok (option_map make (if_any xs))

-- a bool that is true; false is as good as none
abbrev pub flag : Bool → Option Value
flag true = Some (Value.Bool true)
flag false = None

-- what is given, where a test is passed
abbrev pub if_right : {X : Type 0} → Bool → X → Read X
if_right true x = Ok x
if_right false x = refused Fault.BadValue

-- a sequence or a mapping of nothing
abbrev pub is_empty : Tree-F Tree → Bool
is_empty (Tree-F.Map []) = true
is_empty (Tree-F.Seq []) = true
is_empty tree = false

-- something stands there that isn't empty
abbrev pub is_filled : Option Tree → Bool
is_filled None = false
is_filled (Some tree) = not (is_null (out-Tree tree)) && not (is_empty (out-Tree tree))

-- networks stand beside an attribute
abbrev pub has_networks : Entries → Bool
has_networks beside = is_filled (value_at beside (codes "networks"))

-- what is external has no attribute of its own but a name
abbrev pub is_of_own : List ℕ × Tree → Bool
is_of_own (key, tree) =
    not (is_in (codes "external" ∷ codes "name" ∷ []) key) && not (is_null (out-Tree tree))

-- an external network or volume has nothing else said of it (Compose Specification, `external`)
abbrev pub external_among : Entries → Bool → Read (Option Value)
external_among beside true = if_right (not (list_any is_of_own beside)) (Some (Value.Bool true))
external_among beside false = Ok None

-- the text of a scalar under a key
abbrev pub text_under : Entries → List ℕ → Option (List ℕ)
text_under entries key = option_and_then (λ tree. text_in (out-Tree tree)) (value_at entries key)

-- the type of a mount is `bind`
abbrev pub is_bind : Entries → Bool
is_bind beside = option_map_or (bytes_eq (codes "bind")) (text_under beside (codes "type")) false

-- a source; a path of the host has no `:`
abbrev pub source_among : Entries → List ℕ → Read (Option Value)
source_among beside text =
    if_right (not (is_bind beside) || has_no_colon text) (Some (Value.Text text))

-- the host's path is made where it isn't there, and nothing else is built
abbrev pub made_path : Tree-F Tree → Read (List (List ℕ))
made_path Tree-F.Null = Ok []
made_path tree = written bool_of tree >>= λ is_made. if_right is_made []

-- a label for SELinux
abbrev pub label_in : Tree-F Tree → Read (List (List ℕ))
label_in Tree-F.Null = Ok []
label_in tree = accepted (if_passes (is_word_of words.Labels)) tree >>= λ label. Ok (label ∷ [])

-- an option of a bind, of which the label is kept (Compose Specification, `volumes`, `bind`)
abbrev pub bind_option : List ℕ → Tree-F Tree → Read (List (List ℕ))
bind_option key tree =
    if bytes_eq key (codes "create_host_path") then made_path tree
    else (if bytes_eq key (codes "selinux") then label_in tree else refused Fault.UnknownAttribute)

-- the label of the one option that has one
abbrev pub first_label : List (List ℕ) → Option Value
first_label [] = None
first_label (label ∷ labels) = Some (Value.Text label)

-- the label among the options of a bind, which stand in byte order
abbrev pub label_among : Entries → Read (Option Value)
label_among options =
    each_entry (λ key tree. bind_option key (out-Tree tree)) options >>= λ labels.
    Ok (first_label labels)

-- what the options of a bind say
abbrev pub bind_value : Tree-F Tree → Read (Option Value)
bind_value (Tree-F.Map entries) = label_among (in_byte_order entries)
bind_value tree = refused Fault.WrongKind

-- the options of a volume are none: the first key is unknown
abbrev pub no_options : Tree-F Tree → Read (Option Value)
no_options (Tree-F.Map entries) =
    each_entry (λ key tree. refused {X = List Value} Fault.UnknownAttribute) (in_byte_order entries) >>= λ none.
    Ok None
no_options tree = refused Fault.WrongKind

-- a number of a service's containers, at most 100
abbrev pub count_of : List ℕ → Option ℕ
count_of text = number_up_to most_containers text

-- the entries of a mapping, none of another tree
abbrev pub entries_of : Tree-F Tree → Entries
entries_of (Tree-F.Map entries) = entries
entries_of tree = []

-- the number of containers that stands in `deploy` (Compose Specification, deploy, `replicas`)
abbrev pub replicas_among : Entries → Option ℕ
replicas_among beside =
    option_and_then (λ deploy. option_and_then count_of (text_under (entries_of (out-Tree deploy)) (codes "replicas")))
    (value_at beside (codes "deploy"))

-- two places say the same number, where both say one
abbrev pub same_count : ℕ → Option ℕ → Bool
same_count count other = option_map_or (λ replicas. replicas == count) other true

-- the number of a service's containers, which `deploy` doesn't say otherwise
abbrev pub scale_among : Entries → ℕ → Read (Option Value)
scale_among beside count =
    if_right (nat_le count most_containers && same_count count (replicas_among beside)) (Some (Value.Num count))

-- null, or a text that writes what is asked; whatever else stands there is a bad value
abbrev pub counted_or_null : {X : Type 0} → (List ℕ → Option X) → Tree-F Tree → Read (List Value)
counted_or_null read Tree-F.Null = Ok []
counted_or_null read (Tree-F.Scalar text) = option_map_or (λ x. Ok []) (read text) (refused Fault.BadValue)
counted_or_null read tree = refused Fault.BadValue

-- null, or a text
abbrev pub text_or_null : Tree-F Tree → Read (List Value)
text_or_null Tree-F.Null = Ok []
text_or_null tree = text_of tree >>= λ text. Ok []

-- what is asked of how a service is updated (Compose Specification, deploy, `update_config`)
abbrev pub update_option : List ℕ → Tree-F Tree → Read (List Value)
update_option key tree =
    if bytes_eq key (codes "parallelism") then counted_or_null num_of tree
    else (if is_in (codes "failure_action" ∷ codes "order" ∷ []) key then text_or_null tree else Ok [])

-- null, or a mapping of such
abbrev pub update_options : Tree-F Tree → Read (List Value)
update_options Tree-F.Null = Ok []
update_options (Tree-F.Map entries) =
    each_entry (λ key tree. update_option key (out-Tree tree)) (in_byte_order entries)
update_options tree = refused Fault.WrongKind

-- what is asked of how a service is deployed
abbrev pub deploy_option : List ℕ → Tree-F Tree → Read (List Value)
deploy_option key tree =
    if bytes_eq key (codes "replicas") then counted_or_null count_of tree
    else (if bytes_eq key (codes "update_config") then update_options tree else Ok [])

-- how a service is deployed, which is kept as it is read
abbrev pub deployed : Tree → Tree-F Tree → Read Tree
deployed tree shape =
    mapping_in tree shape >>= λ kept_tree.
    each_entry (λ key option. deploy_option key (out-Tree option)) (in_byte_order (entries_of shape)) >>= λ none.
    Ok kept_tree

-- the texts of a sequence that all have a form
abbrev pub items_of : ItemForm → Tree-F Tree → Read (List (List ℕ))
items_of form tree = texts_of tree >>= all_passing (has_form form)

-- labels, of which null is the empty text
abbrev pub labels_of : Tree-F Tree → Read (List (List ℕ × Option (List ℕ)))
labels_of tree = pairs_of tree >>= λ pairs. Ok (map labelled pairs)

-- the command of a health check
abbrev pub test_of : Tree-F Tree → Read (List (List ℕ))
test_of tree = texts_of tree >>= as_test

-- a number of containers, beside `deploy`
abbrev pub scale_of : Entries → Tree-F Tree → Read (Option Value)
scale_of beside tree = written num_of tree >>= scale_among beside

-- the source of a mount, beside its type
abbrev pub source_of : Entries → Tree-F Tree → Read (Option Value)
source_of beside tree = text_of tree >>= source_among beside

-- the value of a tree that isn't null, by the form of its attribute and what stands beside it; None where it is as good as none
abbrev pub plain_value : Plain → Entries → Tree → Tree-F Tree → Read (Option Value)
plain_value Plain.Text beside tree shape = kept Value.Text (text_of shape)
plain_value Plain.Bool beside tree shape = kept Value.Bool (written bool_of shape)
plain_value Plain.Flag beside tree shape = written bool_of shape >>= λ given. Ok (flag given)
plain_value Plain.Num beside tree shape = kept Value.Num (written num_of shape)
plain_value Plain.Int beside tree shape = kept Value.Int (written int_of shape)
plain_value Plain.List beside tree shape = kept_if_any Value.List (texts_of shape)
plain_value (Plain.Items form) beside tree shape = kept_if_any Value.List (items_of form shape)
plain_value Plain.Pairs beside tree shape = kept_if_any Value.Pairs (pairs_of shape)
plain_value Plain.Labels beside tree shape = kept_if_any Value.Pairs (labels_of shape)
plain_value Plain.Argv beside tree shape = kept Value.Argv (texts_of shape)
plain_value Plain.Duration beside tree shape = kept Value.Duration (written duration_of shape)
plain_value Plain.Size beside tree shape = kept Value.Size (written size_of shape)
plain_value Plain.Decimal beside tree shape = kept Value.Decimal (written decimal_of shape)
plain_value (Plain.Word set) beside tree shape =
    kept Value.Text (accepted (if_passes (is_word_of set)) shape)
plain_value Plain.Kept beside tree shape = kept Value.Kept (mapping_in tree shape)
plain_value Plain.Scale beside tree shape = scale_of beside shape
plain_value Plain.Deploy beside tree shape = kept Value.Kept (deployed tree shape)
plain_value Plain.NetworkMode beside tree shape =
    accepted (if_passes (is_word_of words.NetworkModes)) shape >>= λ mode.
    if_right (not (has_networks beside)) (Some (Value.Text mode))
plain_value Plain.External beside tree shape = written bool_of shape >>= external_among beside
plain_value Plain.Test beside tree shape = kept Value.Argv (test_of shape)
plain_value Plain.PortTarget beside tree shape = kept Value.Port (accepted target_in shape)
plain_value Plain.Published beside tree shape = kept Value.Text (accepted published_in shape)
plain_value Plain.Source beside tree shape = source_of beside shape
plain_value Plain.Target beside tree shape =
    kept Value.Text (accepted (if_passes has_no_colon) shape)
plain_value Plain.Bind beside tree shape = bind_value shape
plain_value Plain.NoOptions beside tree shape = no_options shape
plain_value Plain.Dropped beside tree shape = Ok None
