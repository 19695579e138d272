-- A service whose attributes are read again is settled to one whose attributes are.
use Rattle.std.proofs.Common.{◌≡◌, ◌∙◌, ℕ, Bool, true, false, cond, List, [], ◌∷◌, Some, None, Ok, Err, map, codes, refl, sym, ap, subst, rules}
use Rattle.std.specs.Prelude.{◌||◌, Option, filter, find, if◌then◌else◌, is_some, not, unwrap_or}
use Rattle.std.specs.Option.{option_and_then, option_map}
use Rattle.std.specs.Str.{bytes_eq}
use Rattle.std.proofs.lemmas.Slice.Eq.{bytes_eq-Decides}
use Rattle.tree_base.specs.Answers.{◌>>=◌}
use Rattle.tree_base.specs.ByteOrder.{placed}
use Rattle.tree_base.specs.Entries as entries
use Rattle.tree_base.specs.declared.tree.Tree.{Tree, out-Tree}
use Rattle.tree_base.specs.declared.tree.Tree.TheOpen.{Tree-F}
use Rattle.tree_base.specs.declared.tree.Tree.TheVariants as trees
use Rattle.attribute_types.specs.Lookups.{as_dependencies, as_text, networks_at, text_at}
use Rattle.attribute_types.specs.Tables.{host_lines, joining_lines, process_lines, resource_lines, running_lines}
use Rattle.attribute_types.specs.Values.{value_at}
use Rattle.attribute_types.specs.declared.attribute.Attribute.{Attribute}
use Rattle.attribute_types.specs.declared.attribute.Value.{Value}
use Rattle.attribute_types.specs.declared.form.WordSet.TheVariants as words
use Rattle.attribute_types.specs.declared.rows.Dependency.{Dependency}
use Rattle.attribute_scalars.specs.Lists.{if_any}
use Rattle.attribute_scalars.specs.Scalars.{accepted, if_passes, is_word_of}
use Rattle.attribute_scalars.specs.Walks.{Entries, Read, each_entry, in_byte_order, is_given, is_in, is_there}
use Rattle.attribute_scalars.proofs.KeptKeys.{map-by_key}
use Rattle.attribute_values.specs.Fields.{fields_of, named, unless_null}
use Rattle.attribute_types.specs.declared.form.Plain.{Plain}
use Rattle.attribute_values.specs.Forms.{plain_value, count_of, entries_of, has_networks, if_right, is_filled, replicas_among, text_under}
use Rattle.attribute_types.specs.Tables.{dependency_lines}
use Rattle.attribute_rows.specs.Attributes.{attribute_under}
use Rattle.attribute_rows.specs.Rows.{dependency_from, dependency_of}
use Rattle.typed_project.specs.declared.service.Service.{Service}
use Rattle.service_graph.specs.Cycles.{dependencies_of}
use Rattle.project_meaning.specs.Completing.{says_networks, settled, with_default, with_value, without, without_missing}
use Rattle.project_pages.specs.AttributePages.{dependency_entry, value_node}
use Rattle.project_print.specs.Values.{value_of}
use Rattle.project_print.specs.declared.node.Node as nodes
use Rattle.project_print.specs.declared.node.Node.{Node}
use Rattle.project_print.specs.declared.node.Node.TheVariants.{Map, Null, Text}
use Rattle.laws_attributes.specs.ReadBack.{entries_shown}
use Rattle.laws_pages.proofs.Beside.{attribute_again}
use Rattle.laws_pages.proofs.Each.{Each, each-both, each-filter, each-map, each-placed, map-map, none_passes}
use Rattle.laws_pages.proofs.GivenEntries.{OneOf, all_back, each_back, entry_key, rises_given}
use Rattle.laws_pages.proofs.Rising.{Rises, by_key_rising, rises-by_key, rises-filter, rises-placed}
use Rattle.laws_pages.proofs.ServicesBack.{Back, IsRead, IsShown, wanted_by}
use Rattle.laws_pages.proofs.Settled.{is_named, is_other, joins_default, name_of, value-placed_other, value-without_other}
use Rattle.laws_pages.proofs.ShownAttributes.{IsOwn, each_any, shown, shown_value}

-- an entry of a page with the tree that it means
abbrev pub value_entry : List ℕ × Node → List ℕ × Tree
value_entry e = (e.0, value_of e.1)

pub value_map : (es : List (List ℕ × Node)) → value_of (Map es) ≡ trees.Map (map value_entry es)
value_map es = search (rules, nodes.the_lemmas)

pub value_null : value_of Null ≡ trees.Null
value_null = search (rules, nodes.the_lemmas)

pub value_text : (text : List ℕ) → value_of (Text text) ≡ trees.Scalar text
value_text text = search (rules, nodes.the_lemmas)

pub map_seen : (es : List (List ℕ × Node)) → out-Tree (value_of (Map es)) ≡ Tree-F.Map (map value_entry es)
map_seen es = ap out-Tree (value_map es) ∙ trees.outs-Map (map value_entry es)

pub null_seen : out-Tree (value_of Null) ≡ Tree-F.Null
null_seen = ap out-Tree value_null ∙ trees.outs-Null

pub text_seen : (text : List ℕ) → out-Tree (value_of (Text text)) ≡ Tree-F.Scalar text
text_seen text = ap out-Tree (value_text text) ∙ trees.outs-Scalar text

-- an attribute that is found is one of them
pub found_among : (P : Attribute → Type 0) (name : List ℕ) (attributes : List Attribute) (a : Attribute) → Each P attributes → find (is_named name) attributes ≡ Some a → P a × (a.name ≡ name)
found_among P name [] a h e = absurd (cc e)
found_among P name (x ∷ xs) a h e = at (bytes_eq x.name name) refl e (found_among P name xs a h.1)
  where
    at : (b : Bool) → bytes_eq x.name name ≡ b → cond b (Some x) (find (is_named name) xs) ≡ Some a → (find (is_named name) xs ≡ Some a → P a × (a.name ≡ name)) → P a × (a.name ≡ name)
    at true f e so = let same : x ≡ a = cc e in subst (λ (z : Attribute). P z × (z.name ≡ name)) same (h.0, (bytes_eq-Decides x.name name).0 f)
    at false f e so = so e

-- attributes with the same value under a name show the same there
pub shown_same : (new old : List Attribute) (name : List ℕ) → value_at new name ≡ value_at old name → entries.value_at (entries_shown new) name ≡ entries.value_at (entries_shown old) name
shown_same new old name same = shown_value new name ∙ ap (option_map (λ value. value_of (value_node value))) same ∙ sym (shown_value old name)

-- what is wanted of a service, and is shown
module _ (new old : List Attribute) (build : value_at new (codes "build") ≡ value_at old (codes "build")) (image : value_at new (codes "image") ≡ value_at old (codes "image")) where
  pub same_wanted : wanted_by new ≡ wanted_by old
  same_wanted = ap (λ (o : Option Tree). if is_given o then [] else codes "image" ∷ []) (shown_same new old (codes "build") build)

  pub same_wants : Each (IsShown old) (wanted_by old) → Each (IsShown new) (wanted_by new)
  same_wants h = subst (λ (names : List (List ℕ)). Each (IsShown new) names) (sym same_wanted) (at (is_there (entries_shown old) (codes "build")) h)
    where
      at : (b : Bool) → Each (IsShown old) (if b then [] else codes "image" ∷ []) → Each (IsShown new) (if b then [] else codes "image" ∷ [])
      at true h = tt
      at false h = (ap is_some (shown_same new old (codes "image") image) ∙ h.0, tt)

pub same_replicas : (new old : List Attribute) → value_at new (codes "deploy") ≡ value_at old (codes "deploy") → replicas_among (entries_shown new) ≡ replicas_among (entries_shown old)
same_replicas new old same =
    ap (option_and_then (λ deploy. option_and_then count_of (text_under (entries_of (out-Tree deploy)) (codes "replicas")))) (shown_same new old (codes "deploy") same)

pub same_networks : (new old : List Attribute) → value_at new (codes "networks") ≡ value_at old (codes "networks") → has_networks (entries_shown new) ≡ has_networks (entries_shown old)
same_networks new old same = ap is_filled (shown_same new old (codes "networks") same)

-- dependencies, as they are shown and read
abbrev need_tree : Dependency → Tree
need_tree need = value_of (dependency_entry need).1

abbrev need_entry : Dependency → List ℕ × Tree
need_entry need = (need.key, need_tree need)

abbrev need_key : Dependency → List ℕ
need_key need = need.key

abbrev need_read : List ℕ → Tree → Read (List Dependency)
need_read key tree = dependency_of key (out-Tree tree)

need_one : (key : List ℕ) (v : Tree-F Tree) (found : List Dependency) → dependency_of key v ≡ Ok found → OneOf need_key (λ need. Unit {0}) key found
need_one key Tree-F.Null found h = let same : dependency_from key [] ∷ [] ≡ found = cc h in subst (OneOf need_key (λ need. Unit {0}) key) same (refl, tt)
need_one key (Tree-F.Scalar text) found h = absurd (cc h)
need_one key (Tree-F.Map es) found h = at (fields_of dependency_lines [] es) h
  where
    at : (r : Read (List Attribute)) → (r >>= λ attributes. Ok (dependency_from key attributes ∷ [])) ≡ Ok found → OneOf need_key (λ need. Unit {0}) key found
    at (Err refusal) h = absurd (cc h)
    at (Ok attributes) h = let same : dependency_from key attributes ∷ [] ≡ found = cc h in subst (OneOf need_key (λ need. Unit {0}) key) same (refl, tt)
need_one key (Tree-F.Seq items) found h = absurd (cc h)
need_one key Tree-F.Reset found h = absurd (cc h)
need_one key (Tree-F.Override inner) found h = absurd (cc h)

abbrev depends_on : List ℕ
depends_on = codes "depends_on"

abbrev needs_of : List Dependency → Attribute
needs_of needs = record { name = depends_on; value = Value.Dependencies needs }

needs_seen : (needs : List Dependency) → out-Tree (shown (needs_of needs)) ≡ Tree-F.Map (map need_entry needs)
needs_seen needs = map_seen (map dependency_entry needs) ∙ ap Tree-F.Map (map-map value_entry dependency_entry needs)

abbrev needs_given : Read (List Dependency) → Read (List Attribute)
needs_given r = (r >>= λ xs. Ok (option_map Value.Dependencies (if_any xs))) >>= λ value. Ok (named depends_on value)

-- what is read of dependencies is what a walk over them gives
needs_read : (wanted : List (List ℕ)) (beside : Entries) (needs : List Dependency) → attribute_under wanted beside depends_on (shown (needs_of needs)) ≡ needs_given (each_entry need_read (in_byte_order (map need_entry needs)))
unfolding process_lines host_lines resource_lines joining_lines running_lines
needs_read wanted beside needs = rw needs_seen refl

abbrev first_needs : List Attribute → List Dependency
first_needs [] = []
first_needs (a ∷ attributes) = unwrap_or (as_dependencies a.value) []

given_needs : (needs : List Dependency) (r : Read (List Dependency)) → needs_given r ≡ Ok (needs_of needs ∷ []) → r ≡ Ok needs
given_needs needs (Err refusal) h = absurd (cc h)
given_needs needs (Ok []) h = let bad : [] ≡ needs_of needs ∷ [] = cc h in absurd (cc bad)
given_needs needs (Ok (x ∷ xs)) h = let same : needs_of (x ∷ xs) ∷ [] ≡ needs_of needs ∷ [] = cc h in ap (λ (l : List Attribute). Ok (first_needs l)) same

needs_any : (needs : List Dependency) (x : Dependency) (xs : List Dependency) → needs ≡ x ∷ xs → needs_given (Ok needs) ≡ Ok (needs_of needs ∷ [])
needs_any needs x xs e = subst (λ (l : List Dependency). needs_given (Ok l) ≡ Ok (needs_of l ∷ [])) (sym e) refl

needs_order : (needs : List Dependency) → Rises need_key needs → in_byte_order (map need_entry needs) ≡ map need_entry needs
needs_order needs rise = sym (map-by_key need_entry entry_key needs) ∙ ap (map need_entry) (by_key_rising need_key needs rise)

any_needs : (needs : List Dependency) → Each (λ need. Unit {0}) needs
any_needs [] = tt
any_needs (need ∷ needs) = (tt, any_needs needs)

-- of dependencies that are read, those that pass a test are read too
module _ (wanted : List (List ℕ)) (beside : Entries) (needs : List Dependency) (read : IsRead wanted beside (needs_of needs)) where
  walked : each_entry need_read (in_byte_order (map need_entry needs)) ≡ Ok needs
  walked = given_needs needs (each_entry need_read (in_byte_order (map need_entry needs))) (sym (needs_read wanted beside needs) ∙ read)

  needs_rise : Rises need_key needs
  needs_rise =
      rises_given need_key need_read (λ e. Unit {0}) (λ e found u h. need_one e.0 (out-Tree e.1) found h) (in_byte_order (map need_entry needs)) needs
      (each_any (in_byte_order (map need_entry needs))) (rises-by_key entry_key (map need_entry needs)) walked

  each_need : Each (λ need. need_read need.key (need_tree need) ≡ Ok (need ∷ [])) needs
  each_need =
      each_back need_key need_read need_tree (λ need. Unit {0}) (λ need found u h. need_one need.key (out-Tree (need_tree need)) found h) needs (any_needs needs)
      (sym (ap (each_entry need_read) (needs_order needs needs_rise)) ∙ walked)

  some_read : (test : Dependency → Bool) (other : Entries) (x : Dependency) (xs : List Dependency) → filter test needs ≡ x ∷ xs → IsRead wanted other (needs_of (filter test needs))
  some_read test other x xs e =
      needs_read wanted other (filter test needs)
      ∙ ap needs_given
      (ap (each_entry need_read) (needs_order (filter test needs) (rises-filter need_key test needs needs_rise))
      ∙ all_back need_key need_read need_tree (filter test needs) (each-filter (λ need. need_read need.key (need_tree need) ≡ Ok (need ∷ [])) test needs each_need))
      ∙ needs_any (filter test needs) x xs e

-- the default network is read
default_read : (wanted : List (List ℕ)) (beside : Entries) → IsRead wanted beside joins_default
unfolding process_lines host_lines resource_lines joining_lines running_lines
default_read wanted beside = rw (map_seen, null_seen) refl

abbrev mode_name : List ℕ
mode_name = codes "network_mode"

-- what stands under `network_mode` is a text
mode_form : (wanted : List (List ℕ)) (beside : Entries) (tree : Tree)
    → attribute_under wanted beside mode_name tree ≡ (unless_null (is_in wanted mode_name) (plain_value Plain.NetworkMode beside tree) (out-Tree tree) >>= λ value. Ok (named mode_name value))
unfolding process_lines host_lines resource_lines joining_lines running_lines
mode_form wanted beside tree = refl

mode_by : (b : Bool) (value : Value) (r : Read (List ℕ)) → (r >>= λ mode. if_right b (Some (Value.Text mode))) ≡ Ok (Some value) → is_some (as_text value) ≡ true
mode_by b value (Err refusal) h = absurd (cc h)
mode_by true value (Ok mode) h = let same : Value.Text mode ≡ value = cc h in subst (λ (v : Value). is_some (as_text v) ≡ true) same refl
mode_by false value (Ok mode) h = absurd (cc h)

mode_given : (wanted : Bool) (beside : Entries) (tree : Tree) (value : Value) (v : Tree-F Tree) → unless_null wanted (plain_value Plain.NetworkMode beside tree) v ≡ Ok (Some value) → is_some (as_text value) ≡ true
mode_given true beside tree value Tree-F.Null h = absurd (cc h)
mode_given false beside tree value Tree-F.Null h = absurd (cc h)
mode_given wanted beside tree value (Tree-F.Scalar text) h = mode_by (not (has_networks beside)) value (accepted (if_passes (is_word_of words.NetworkModes)) (Tree-F.Scalar text)) h
mode_given wanted beside tree value (Tree-F.Map es) h = absurd (cc h)
mode_given wanted beside tree value (Tree-F.Seq items) h = absurd (cc h)
mode_given wanted beside tree value Tree-F.Reset h = absurd (cc h)
mode_given wanted beside tree value (Tree-F.Override inner) h = absurd (cc h)

abbrev first_text : List Attribute → Bool
first_text [] = false
first_text (b ∷ l) = is_some (as_text b.value)

mode_named : (a : Attribute) (r : Read (Option Value)) → (r >>= λ value. Ok (named mode_name value)) ≡ Ok (a ∷ []) → ((value : Value) → r ≡ Ok (Some value) → is_some (as_text value) ≡ true) → is_some (as_text a.value) ≡ true
mode_named a (Err refusal) h so = absurd (cc h)
mode_named a (Ok None) h so = let bad : [] ≡ a ∷ [] = cc h in absurd (cc bad)
mode_named a (Ok (Some value)) h so =
    let one : Attribute = record { name = mode_name; value = value } in
    let same : one ∷ [] ≡ a ∷ [] = cc h in sym (ap first_text same) ∙ so value refl

mode_text : (wanted : List (List ℕ)) (beside : Entries) (a : Attribute) → a.name ≡ mode_name → IsRead wanted beside a → is_some (as_text a.value) ≡ true
mode_text wanted beside a named_so read =
    mode_named a (unless_null (is_in wanted mode_name) (plain_value Plain.NetworkMode beside (shown a)) (out-Tree (shown a)))
    (sym (mode_form wanted beside (shown a)) ∙ sym (ap (λ (name : List ℕ). attribute_under wanted beside name (shown a)) named_so) ∙ read)
    (λ value h. mode_given (is_in wanted mode_name) beside (shown a) value (out-Tree (shown a)) h)

-- attributes that are read again, and others that show the same where a service looks
module _ (old : List Attribute) (back : Back old) (new : List Attribute) (build : value_at new (codes "build") ≡ value_at old (codes "build")) (image : value_at new (codes "image") ≡ value_at old (codes "image"))
    (deploy : value_at new (codes "deploy") ≡ value_at old (codes "deploy")) where
  moved : Rises name_of new → Each (λ a. IsOwn a.name) new → Each (IsRead (wanted_by old) (entries_shown new)) new → Back new
  moved rise own each = record {
    rises = rise;
    own = own;
    wants = same_wants new old build image back.wants;
    each = subst (λ (wanted : List (List ℕ)). Each (IsRead wanted (entries_shown new)) new) (sym (same_wanted new old build image)) each;
  }

  -- one that was read is read beside them
  still_read : (a : Attribute) → (bytes_eq a.name mode_name ≡ true → has_networks (entries_shown new) ≡ has_networks (entries_shown old)) → IsRead (wanted_by old) (entries_shown old) a → IsRead (wanted_by old) (entries_shown new) a
  still_read a networks h = attribute_again (entries_shown new) (entries_shown old) a.name (same_replicas new old deploy) networks (wanted_by old) (shown a) ∙ h

module _ (keys : List (List ℕ)) (service : Service) (back : Back service.attributes) where
  abbrev old : List Attribute
  old = service.attributes

  abbrev kept : List Attribute
  kept = without depends_on old

  abbrev is_there_need : Dependency → Bool
  is_there_need need = is_in keys need.key

  kept_value : (name : List ℕ) → bytes_eq name depends_on ≡ false → value_at kept name ≡ value_at old name
  kept_value name apart = value-without_other depends_on name old apart

  kept_own : Each (λ a. IsOwn a.name) kept
  kept_own = each-filter (λ a. IsOwn a.name) (is_other depends_on) old back.own

  kept_rises : Rises name_of kept
  kept_rises = rises-filter name_of (is_other depends_on) old back.rises

  kept_read : (new : List Attribute) → value_at new (codes "build") ≡ value_at old (codes "build") → value_at new (codes "image") ≡ value_at old (codes "image")
      → value_at new (codes "deploy") ≡ value_at old (codes "deploy") → value_at new (codes "networks") ≡ value_at old (codes "networks") → Each (IsRead (wanted_by old) (entries_shown new)) kept
  kept_read new build image deploy networks =
      each-map (IsRead (wanted_by old) (entries_shown old)) (IsRead (wanted_by old) (entries_shown new))
      (λ a h. still_read old back new build image deploy a (λ u. same_networks new old networks) h) kept
      (each-filter (IsRead (wanted_by old) (entries_shown old)) (is_other depends_on) old back.each)

  kept_back : Back kept
  kept_back =
      moved old back kept (kept_value (codes "build") refl) (kept_value (codes "image") refl) (kept_value (codes "deploy") refl) kept_rises kept_own
      (kept_read kept (kept_value (codes "build") refl) (kept_value (codes "image") refl) (kept_value (codes "deploy") refl) (kept_value (codes "networks") refl))

  abbrev with_needs : List Dependency → List Attribute
  with_needs needs = placed name_of (needs_of needs) kept

  with_value_of : (needs : List Dependency) (name : List ℕ) → bytes_eq depends_on name ≡ false → bytes_eq name depends_on ≡ false → value_at (with_needs needs) name ≡ value_at old name
  with_value_of needs name other apart = value-placed_other (needs_of needs) name kept other ∙ kept_value name apart

  needs_back : (needs : List Dependency) → IsRead (wanted_by old) (entries_shown (with_needs needs)) (needs_of needs) → Back (with_needs needs)
  needs_back needs read =
      let build = with_value_of needs (codes "build") refl refl in
      let image = with_value_of needs (codes "image") refl refl in
      let deploy = with_value_of needs (codes "deploy") refl refl in
      let networks = with_value_of needs (codes "networks") refl refl in
      moved old back (with_needs needs) build image deploy (rises-placed name_of (needs_of needs) kept kept_rises) (each-placed name_of (λ a. IsOwn a.name) (needs_of needs) kept refl kept_own)
      (each-placed name_of (IsRead (wanted_by old) (entries_shown (with_needs needs))) (needs_of needs) kept read (kept_read (with_needs needs) build image deploy networks))

  abbrev needs_in : Option Value → List Dependency
  needs_in value = unwrap_or (option_and_then as_dependencies value) []

  valued : (a : Attribute) (v : Value) → a.value ≡ v → a.name ≡ depends_on → IsRead (wanted_by old) (entries_shown old) a → (x : Dependency) (xs : List Dependency) → filter is_there_need (needs_in (Some v)) ≡ x ∷ xs
      → IsRead (wanted_by old) (entries_shown old) (needs_of (needs_in (Some v)))
  valued a (Value.Dependencies needs) is named_so read x xs h =
      let same : a ≡ needs_of needs = (λ i. let z : Attribute = record { name = named_so i; value = is i } in z) in subst (IsRead (wanted_by old) (entries_shown old)) same read
  valued a value is named_so read x xs h = absurd (cc h)

  needs_found : (o : Option Attribute) → find (is_named depends_on) old ≡ o → (x : Dependency) (xs : List Dependency) → filter is_there_need (needs_in (option_map (λ a. a.value) o)) ≡ x ∷ xs
      → IsRead (wanted_by old) (entries_shown old) (needs_of (needs_in (option_map (λ a. a.value) o)))
  needs_found None e x xs h = absurd (cc h)
  needs_found (Some a) e x xs h =
      let one = found_among (IsRead (wanted_by old) (entries_shown old)) depends_on old a back.each e in valued a a.value refl one.1 one.0 x xs h

  missing_by : (needs : List Dependency) → filter is_there_need (dependencies_of service) ≡ needs → Back (with_value depends_on (option_map Value.Dependencies (if_any needs)) kept)
  missing_by [] e = kept_back
  missing_by (x ∷ xs) e =
      needs_back (x ∷ xs)
      (subst (λ (l : List Dependency). IsRead (wanted_by old) (entries_shown (with_needs (x ∷ xs))) (needs_of l)) e
      (some_read (wanted_by old) (entries_shown old) (dependencies_of service) (needs_found (find (is_named depends_on) old) refl x xs e) is_there_need (entries_shown (with_needs (x ∷ xs))) x xs e))

  missing_back : Back (without_missing keys service)
  missing_back = missing_by (filter is_there_need (dependencies_of service)) refl

module _ (old : List Attribute) (back : Back old) where
  not_mode : says_networks old ≡ false → (o : Option Attribute) → find (is_named mode_name) old ≡ o → Each (λ a. is_named mode_name a ≡ false) old
  not_mode says None e = none_passes (is_named mode_name) old e
  not_mode says (Some a) e =
      let one = found_among (IsRead (wanted_by old) (entries_shown old)) mode_name old a back.each e in
      let text : is_some (as_text a.value) ≡ true = mode_text (wanted_by old) (entries_shown old) a one.1 one.0 in
      let there : is_some (text_at old mode_name) ≡ true = ap (λ (o : Option Attribute). is_some (option_and_then as_text (option_map (λ a. a.value) o))) e ∙ text in
      let bad : true ≡ false = sym (or_last (is_some (networks_at old (codes "networks"))) (is_some (text_at old mode_name)) there) ∙ says in absurd (cc bad)
    where
      or_last : (b c : Bool) → c ≡ true → (b || c) ≡ true
      or_last true c h = refl
      or_last false c h = h

  abbrev with_it : List Attribute
  with_it = placed name_of joins_default old

  same_value : (name : List ℕ) → bytes_eq (codes "networks") name ≡ false → value_at with_it name ≡ value_at old name
  same_value name other = value-placed_other joins_default name old other

  default_back : says_networks old ≡ false → Back with_it
  default_back says =
      let build = same_value (codes "build") refl in
      let image = same_value (codes "image") refl in
      let deploy = same_value (codes "deploy") refl in
      moved old back with_it build image deploy (rises-placed name_of joins_default old back.rises) (each-placed name_of (λ a. IsOwn a.name) joins_default old refl back.own)
      (each-placed name_of (IsRead (wanted_by old) (entries_shown with_it)) joins_default old (default_read (wanted_by old) (entries_shown with_it))
      (each-both (λ a. is_named mode_name a ≡ false) (IsRead (wanted_by old) (entries_shown old)) (IsRead (wanted_by old) (entries_shown with_it))
      (λ a no h. still_read old back with_it build image deploy a (λ yes. let bad : true ≡ false = sym yes ∙ no in absurd (cc bad)) h) old
      (not_mode says (find (is_named mode_name) old) refl) back.each))

  with_default_back : Back (with_default old)
  with_default_back = at (says_networks old) refl
    where
      at : (says : Bool) → says_networks old ≡ says → Back (if says then old else with_it)
      at true e = back
      at false e = default_back e

-- the attributes of a settled service are read again
pub settled_back : (keys : List (List ℕ)) (service : Service) → Back service.attributes → Back (settled keys service).attributes
settled_back keys service back = with_default_back (without_missing keys service) (missing_back keys service back)
