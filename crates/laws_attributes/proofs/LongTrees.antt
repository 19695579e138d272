-- A tree that means a project is in long forms.
use Rattle.std.proofs.Common.{◌≡◌, ◌∙◌, ℕ, Bool, true, false, cond, List, [], ◌∷◌, ◌++◌, Some, None, Ok, Err, codes, refl, sym, ap, subst}
use Rattle.std.specs.Prelude.{Option, Result, All, ◌||◌, find}
use Rattle.std.specs.List.{list_all}
use Rattle.std.specs.Option.{option_map}
use Rattle.std.specs.Str.{bytes_eq}
use Rattle.std.proofs.lemmas.Bool.{and_parts}
use Rattle.std.proofs.lemmas.List.Elements.{All-head, All-tail}
use Rattle.std.proofs.lemmas.Slice.Eq.{bytes_eq-Decides}
use Rattle.tree_base.specs.Answers.{◌>>=◌}
use Rattle.tree_base.specs.Entries.{value_at}
use Rattle.tree_base.specs.declared.tree.Tree.{Tree, out-Tree}
use Rattle.tree_base.specs.declared.tree.Tree.TheOpen.{Tree-F}
use Rattle.tree_base.specs.declared.tree.Tree.TheVariants.{Map}
use Rattle.attribute_paths.proofs.Trees.{OfAll}
use Rattle.attribute_paths.specs.Patterns.{Pattern, any_item, any_key, below_key, named}
use Rattle.attribute_types.specs.Tables.{Lines, line_of, network_lines, volume_lines}
use Rattle.attribute_types.specs.declared.attribute.Attribute.{Attribute}
use Rattle.attribute_types.specs.declared.form.Plain.{Plain}
use Rattle.attribute_scalars.specs.Walks.{Entries, Read, is_extension, is_in, own_entries}
use Rattle.attribute_values.specs.Fields.{field_by, field_of, fields_of, unless_null}
use Rattle.attribute_values.specs.Fields as fields
use Rattle.attribute_values.specs.Forms.{plain_value}
use Rattle.file_paths.specs.Shapes.{entries_in, is_mapping, or_null}
use Rattle.merge_tables.specs.declared.refusal.MergeRefusal.{MergeRefusal}
use Rattle.merge_tables.specs.Answers.{within}
use Rattle.merge_rules.specs.Laws.{own_keys}
use Rattle.merge_tables.specs.Attributes.{ShortRules, short_rules}
use Rattle.long_forms.specs.LongForms.{lengthened, long_forms}
use Rattle.merge_tables.specs.Spots.{resource_forms, resources_forms, service_forms, services_forms}
use Rattle.long_forms.proofs.Lengthening.{stays}
use Rattle.project_meaning.specs.Meaning.{element_form, network_of, section, section_form, service_of, volume_of, with_name}
use Rattle.typed_project.specs.declared.network.Network.{Network}
use Rattle.typed_project.specs.declared.volume.Volume.{Volume}
use Rattle.laws_attributes.proofs.Declaring.{Declared, Declares, HasForm, IsFound, declares, entries_there, section_at, section_looks, service_read, tree_found}
use Rattle.laws_attributes.proofs.Entering.{IsRead, of_own, sorted_read, weaker}
use Rattle.laws_attributes.proofs.Looks.{bound, looks, plain_kind, plain_looks, unless_looks}
use Rattle.laws_attributes.proofs.LongServices.{IsLong, Keeps, accepted_long, agrees, is_named, looks_long, map_out, mapping_stays, none_extends, null_long, null_out}
use Rattle.laws_attributes.specs.Accepted.{AcceptedTreesAreLong, AreLongIfLoose, IsLongIfLoose}

-- the fields of a network or a volume that a table reads
module _ (lines : Lines Plain) (forms : ShortRules) (fit : list_all (λ line. agrees (plain_kind line.1) (below_key line.0 forms)) lines ≡ true) (own : list_all (λ line. is_named line.0) forms ≡ true) where
  abbrev fits_line : List ℕ × Plain → Bool
  fits_line line = agrees (plain_kind line.1) (below_key line.0 forms)

  line_fits : (ls : Lines Plain) → list_all fits_line ls ≡ true → (name : List ℕ) (plain : Plain) → line_of ls name ≡ Some plain → fits_line (name, plain) ≡ true
  line_fits [] h name plain e = absurd (cc e)
  line_fits (l ∷ ls) h name plain e =
      let both = and_parts (fits_line l) (list_all fits_line ls) h in at (bytes_eq l.0 name) refl both.0 (line_fits ls both.1 name plain) e
    where
      at : (b : Bool) → bytes_eq l.0 name ≡ b → fits_line l ≡ true → (line_of ls name ≡ Some plain → fits_line (name, plain) ≡ true)
          → option_map (λ line. line.1) (cond b (Some l) (find (λ (line : List ℕ × Plain). bytes_eq line.0 name) ls)) ≡ Some plain → fits_line (name, plain) ≡ true
      at true is p more f =
          let same : l.1 ≡ plain = cc f in
          let text : l.0 ≡ name = (bytes_eq-Decides l.0 name).0 is in
          let whole : l ≡ (name, plain) = (λ i. (text i, same i)) in subst (λ (line : List ℕ × Plain). fits_line line ≡ true) whole p
      at false is p more f = more f

  field_long : (beside : Entries) (entry : List ℕ × Tree) → (is_extension entry.0 ≡ false → IsRead (field_of lines [] beside) entry) → Keeps forms entry
  field_long beside entry read = at (is_extension entry.0) refl
    where
      by_line : (o : Option Plain) → line_of lines entry.0 ≡ o → (found : List Attribute) → field_by o false beside entry.0 entry.1 ≡ Ok found → Keeps forms entry
      by_line None is found e = absurd (cc e)
      by_line (Some plain) is found e =
          let b = bound (unless_null false (plain_value plain beside entry.1) (out-Tree entry.1)) (λ value. Ok (fields.named entry.0 value)) found e in
          looks_long (plain_kind plain) (below_key entry.0 forms) entry.1 (line_fits lines fit entry.0 plain is)
          (unless_looks (looks (plain_kind plain)) false (plain_value plain beside entry.1) (out-Tree entry.1) b.0 (λ given f. plain_looks plain beside entry.1 (out-Tree entry.1) given f) b.1)

      at : (b : Bool) → is_extension entry.0 ≡ b → Keeps forms entry
      at true is = ap (lengthened entry.1) (none_extends forms entry.0 is own) ∙ stays entry.1
      at false is = let r = read is in by_line (line_of lines entry.0) refl r.0 r.1

  fields_long : (es : Entries) (attributes : List Attribute) → fields_of lines [] (own_entries es) ≡ Ok attributes → IsLong forms (Map es)
  fields_long es attributes e =
      mapping_stays forms es
      (weaker (λ e. is_extension e.0 ≡ false → IsRead (field_of lines [] (own_entries es)) e) (Keeps forms) (field_long (own_entries es)) es
      (of_own (IsRead (field_of lines [] (own_entries es))) es (sorted_read (field_of lines [] (own_entries es)) (own_entries es) attributes e)))

-- networks
network_fit : list_all (λ line. agrees (plain_kind line.1) (below_key line.0 resource_forms)) network_lines ≡ true
unfolding network_lines resource_forms resources_forms short_rules
network_fit = refl

resource_names : list_all (λ line. is_named line.0) resource_forms ≡ true
unfolding resource_forms resources_forms short_rules
resource_names = refl

networks_below : (key : List ℕ) → below_key key (below_key (codes "networks") short_rules) ≡ resource_forms
unfolding resource_forms resources_forms short_rules
networks_below key = refl

network_long : (name key : List ℕ) (tree : Tree) (s : Tree-F Tree) (network : Network) → out-Tree tree ≡ s → network_of name key s ≡ Ok network → IsLong resource_forms tree
network_long name key tree Tree-F.Null network is e = subst (IsLong resource_forms) (sym (null_out tree is)) (null_long resource_forms)
network_long name key tree (Tree-F.Scalar text) network is e = absurd (cc e)
network_long name key tree (Tree-F.Map es) network is e = at (fields_of network_lines [] (own_entries es)) refl e
  where
    at : (r : Read (List Attribute)) → fields_of network_lines [] (own_entries es) ≡ r → (r >>= λ attributes. Ok (record { key = key; attributes = with_name name key attributes })) ≡ Ok network → IsLong resource_forms tree
    at (Ok attributes) so f = subst (IsLong resource_forms) (sym (map_out tree es is)) (fields_long network_lines resource_forms network_fit resource_names es attributes so)
    at (Err refusal) so f = absurd (cc f)
network_long name key tree (Tree-F.Seq items) network is e = absurd (cc e)
network_long name key tree Tree-F.Reset network is e = absurd (cc e)
network_long name key tree (Tree-F.Override inner) network is e = absurd (cc e)

-- volumes
volume_fit : list_all (λ line. agrees (plain_kind line.1) (below_key line.0 (below_key [] (below_key (codes "volumes") short_rules)))) volume_lines ≡ true
unfolding volume_lines short_rules
volume_fit = refl

volume_names : list_all (λ line. is_named line.0) (below_key [] (below_key (codes "volumes") short_rules)) ≡ true
unfolding short_rules
volume_names = refl

volumes_below : (key : List ℕ) → below_key key (below_key (codes "volumes") short_rules) ≡ below_key [] (below_key (codes "volumes") short_rules)
unfolding short_rules
volumes_below key = refl

abbrev volume_forms : ShortRules
volume_forms = below_key [] (below_key (codes "volumes") short_rules)

volume_long : (name key : List ℕ) (tree : Tree) (s : Tree-F Tree) (volume : Volume) → out-Tree tree ≡ s → volume_of name key s ≡ Ok volume → IsLong volume_forms tree
volume_long name key tree Tree-F.Null volume is e = subst (IsLong volume_forms) (sym (null_out tree is)) (null_long volume_forms)
volume_long name key tree (Tree-F.Scalar text) volume is e = absurd (cc e)
volume_long name key tree (Tree-F.Map es) volume is e = at (fields_of volume_lines [] (own_entries es)) refl e
  where
    at : (r : Read (List Attribute)) → fields_of volume_lines [] (own_entries es) ≡ r → (r >>= λ attributes. Ok (record { key = key; attributes = with_name name key attributes })) ≡ Ok volume → IsLong volume_forms tree
    at (Ok attributes) so f = subst (IsLong volume_forms) (sym (map_out tree es is)) (fields_long volume_lines volume_forms volume_fit volume_names es attributes so)
    at (Err refusal) so f = absurd (cc f)
volume_long name key tree (Tree-F.Seq items) volume is e = absurd (cc e)
volume_long name key tree Tree-F.Reset volume is e = absurd (cc e)
volume_long name key tree (Tree-F.Override inner) volume is e = absurd (cc e)

-- services
services_below : (key : List ℕ) → below_key key (below_key (codes "services") short_rules) ≡ service_forms
unfolding service_forms services_forms short_rules
services_below key = refl

service_long : (entry : List ℕ × Tree) → Declared service_of entry → All IsLongIfLoose (entries_in (out-Tree entry.1)) → IsLong service_forms entry.1
service_long entry h loose =
    let r = service_read entry.0 (out-Tree entry.1) h.0 h.1 in
    subst (IsLong service_forms) (sym (map_out entry.1 r.0 r.2)) (accepted_long r.0 r.1 r.3 (subst (λ (s : Tree-F Tree). All IsLongIfLoose (entries_in s)) r.2 loose))

-- a section, whose items are in their long forms
section_long : (lines forms : ShortRules) → ((key : List ℕ) → below_key key lines ≡ forms) → (tree : Tree) (s : Tree-F Tree) → out-Tree tree ≡ s → or_null is_mapping s ≡ true
    → OfAll (λ (e : List ℕ × Tree). IsLong forms e.1) (entries_in s) → IsLong lines tree
section_long lines forms below tree Tree-F.Null is e h = subst (IsLong lines) (sym (null_out tree is)) (null_long lines)
section_long lines forms below tree (Tree-F.Scalar text) is e h = absurd (cc e)
section_long lines forms below tree (Tree-F.Map es) is e h =
    subst (IsLong lines) (sym (map_out tree es is))
    (mapping_stays lines es (weaker (λ (e : List ℕ × Tree). IsLong forms e.1) (Keeps lines) (λ e l. ap (lengthened e.1) (below e.0) ∙ l) es h))
section_long lines forms below tree (Tree-F.Seq items) is e h = absurd (cc e)
section_long lines forms below tree Tree-F.Reset is e h = absurd (cc e)
section_long lines forms below tree (Tree-F.Override inner) is e h = absurd (cc e)

-- lines that go on at some keys alone
abbrev goes_among : List (List ℕ) → Pattern → Bool
goes_among names [] = true
goes_among names (named name ∷ more) = is_in names name
goes_among names (any_key ∷ more) = false
goes_among names (any_item ∷ more) = true

none_among : (lines : ShortRules) (names : List (List ℕ)) (key : List ℕ) → is_in names key ≡ false → list_all (λ line. goes_among names line.0) lines ≡ true → below_key key lines ≡ []
none_among [] names key other e = refl
none_among (([], form) ∷ lines) names key other e = none_among lines names key other e
none_among ((named name ∷ more, form) ∷ lines) names key other e =
    let both = and_parts (is_in names name) (list_all (λ line. goes_among names line.0) lines) e in by (bytes_eq name key) refl both.0 (none_among lines names key other both.1)
  where
    by : (b : Bool) → bytes_eq name key ≡ b → is_in names name ≡ true → below_key key lines ≡ [] → cond b ((more, form) ∷ []) [] ++ below_key key lines ≡ []
    by true is one rest =
        let same : name ≡ key = (bytes_eq-Decides name key).0 is in
        let bad : true ≡ false = sym (ap (is_in names) (sym same) ∙ one) ∙ other in absurd (cc bad)
    by false is one rest = rest
none_among ((any_key ∷ more, form) ∷ lines) names key other e = absurd (cc e)
none_among ((any_item ∷ more, form) ∷ lines) names key other e = none_among lines names key other e

abbrev sections : List (List ℕ)
sections = codes "services" ∷ codes "networks" ∷ codes "volumes" ∷ []

short_sections : list_all (λ line. goes_among sections line.0) short_rules ≡ true
unfolding short_rules
short_sections = refl

all_services : (services : Entries) → OfAll (Declared service_of) services → All (λ service. All IsLongIfLoose (entries_in (out-Tree service.1))) services → OfAll (λ (e : List ℕ × Tree). IsLong service_forms e.1) services
all_services [] h loose = tt
all_services (entry ∷ services) h loose =
    let P : List ℕ × Tree → Type 0 = λ service. All IsLongIfLoose (entries_in (out-Tree service.1)) in
    (service_long entry h.0 (All-head P entry services loose), all_services services h.1 (All-tail P entry services loose))

module _ (name : List ℕ) (tree : Tree) (is_declared : Declares name tree) (own : own_keys tree ≡ true) (loose : AreLongIfLoose tree) where
  abbrev elements : Entries
  elements = entries_in (out-Tree tree)

  element_long : (entry : List ℕ × Tree) → HasForm entry → IsFound elements entry → Keeps short_rules entry
  element_long entry form found = at (bytes_eq entry.0 (codes "services")) refl (bytes_eq entry.0 (codes "networks")) refl (bytes_eq entry.0 (codes "volumes")) refl
    where
      formed : (section_name : List ℕ) → entry.0 ≡ section_name → ((s : Tree-F Tree) → element_form section_name s ≡ section_form s) → or_null is_mapping (out-Tree entry.1) ≡ true
      formed section_name is same = section_looks (out-Tree entry.1) form.0 (sym (ap (λ (k : List ℕ). element_form k (out-Tree entry.1)) is ∙ same (out-Tree entry.1)) ∙ form.1)

      there : (section_name : List ℕ) → entry.0 ≡ section_name → section elements section_name ≡ entries_in (out-Tree entry.1)
      there section_name is =
          section_at elements section_name
          ∙ entries_there elements section_name entry.1 (ap (value_at elements) (sym is) ∙ found)

      at : (b : Bool) → bytes_eq entry.0 (codes "services") ≡ b → (c : Bool) → bytes_eq entry.0 (codes "networks") ≡ c → (d : Bool) → bytes_eq entry.0 (codes "volumes") ≡ d → Keeps short_rules entry
      at true p c q d r =
          let is : entry.0 ≡ codes "services" = (bytes_eq-Decides entry.0 (codes "services")).0 p in
          let all : section elements (codes "services") ≡ entries_in (out-Tree entry.1) = there (codes "services") is in
          let held = subst (λ (l : Entries). All (λ service. All IsLongIfLoose (entries_in (out-Tree service.1))) l) (sym (section_at elements (codes "services")) ∙ all) loose in
          ap (λ (k : List ℕ). lengthened entry.1 (below_key k short_rules)) is
          ∙ section_long (below_key (codes "services") short_rules) service_forms services_below entry.1 (out-Tree entry.1) refl (formed (codes "services") is (λ s. refl))
          (all_services (entries_in (out-Tree entry.1)) (subst (OfAll (Declared service_of)) all is_declared.services) held)
      at false p true q d r =
          let is : entry.0 ≡ codes "networks" = (bytes_eq-Decides entry.0 (codes "networks")).0 q in
          let all : section elements (codes "networks") ≡ entries_in (out-Tree entry.1) = there (codes "networks") is in
          ap (λ (k : List ℕ). lengthened entry.1 (below_key k short_rules)) is
          ∙ section_long (below_key (codes "networks") short_rules) resource_forms networks_below entry.1 (out-Tree entry.1) refl (formed (codes "networks") is (λ s. refl))
          (weaker (Declared (network_of name)) (λ (e : List ℕ × Tree). IsLong resource_forms e.1) (λ e h. network_long name e.0 e.1 (out-Tree e.1) h.0 refl h.1) (entries_in (out-Tree entry.1))
          (subst (OfAll (Declared (network_of name))) all is_declared.networks))
      at false p false q true r =
          let is : entry.0 ≡ codes "volumes" = (bytes_eq-Decides entry.0 (codes "volumes")).0 r in
          let all : section elements (codes "volumes") ≡ entries_in (out-Tree entry.1) = there (codes "volumes") is in
          ap (λ (k : List ℕ). lengthened entry.1 (below_key k short_rules)) is
          ∙ section_long (below_key (codes "volumes") short_rules) volume_forms volumes_below entry.1 (out-Tree entry.1) refl (formed (codes "volumes") is (λ s. refl))
          (weaker (Declared (volume_of name)) (λ (e : List ℕ × Tree). IsLong volume_forms e.1) (λ e h. volume_long name e.0 e.1 (out-Tree e.1) h.0 refl h.1) (entries_in (out-Tree entry.1))
          (subst (OfAll (Declared (volume_of name))) all is_declared.volumes))
      at false p false q false r =
          let none : is_in sections entry.0 ≡ false = (λ i. p i || (q i || (r i || false))) in
          ap (lengthened entry.1) (none_among short_rules sections entry.0 none short_sections) ∙ stays entry.1

  elements_long : (es : Entries) → OfAll HasForm es → OfAll (IsFound elements) es → OfAll (Keeps short_rules) es
  elements_long [] form found = tt
  elements_long (e ∷ es) form found = (element_long e form.0 found.0, elements_long es form.1 found.1)

  tree_long : (s : Tree-F Tree) → out-Tree tree ≡ s → or_null is_mapping s ≡ true → OfAll (Keeps short_rules) (entries_in s) → IsLong short_rules tree
  tree_long Tree-F.Null is e h = subst (IsLong short_rules) (sym (null_out tree is)) (null_long short_rules)
  tree_long (Tree-F.Scalar text) is e h = absurd (cc e)
  tree_long (Tree-F.Map es) is e h = subst (IsLong short_rules) (sym (map_out tree es is)) (mapping_stays short_rules es h)
  tree_long (Tree-F.Seq items) is e h = absurd (cc e)
  tree_long Tree-F.Reset is e h = absurd (cc e)
  tree_long (Tree-F.Override inner) is e h = absurd (cc e)

  pub whole_long : IsLong short_rules tree
  whole_long = tree_long (out-Tree tree) refl is_declared.rooted (elements_long elements is_declared.formed (tree_found tree own))

pub accepted_trees_long : AcceptedTreesAreLong
unfolding long_forms
accepted_trees_long name tree project h own loose = ap (λ (r : Result Tree MergeRefusal). r >>= within) (whole_long name tree (declares name tree project h) own loose)
