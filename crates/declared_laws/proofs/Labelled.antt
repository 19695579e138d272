-- What the labels of a container say.
use Rattle.std.proofs.Common.{◌≡◌, ◌∙◌, ◌&&◌, ℕ, Bool, true, false, cond, List, [], ◌∷◌, Option, Some, decimal, map, refl, sym, ap}
use Rattle.std.specs.Prelude.{find}
use Rattle.std.specs.Option.{option_map, option_map_or}
use Rattle.std.specs.Ordering.{is_eq, is_lt, nat_cmp}
use Rattle.std.specs.Cmp.Lexicographic.{slice_cmp}
use Rattle.std.specs.Str.{bytes_eq}
use Rattle.std.specs.declared.cmp.Ordering.{Ordering}
use Rattle.std.specs.declared.cmp.Ordering.TheVariants.{Less, Equal, Greater}
use Rattle.std.proofs.lemmas.Map.Text.{is_eq-slice_cmp}
use Rattle.std.proofs.lemmas.Slice.Eq.{bytes_eq-Decides}
use Rattle.declared_resources.specs.Resources.{variable_of}
use Rattle.declared_set.specs.Labels.{config_files_label, config_files_text, container_labels, depends_on_label, depends_on_text, own_labels, with_dependencies, with_known, with_origin, working_dir_label}
use Rattle.declared_set.specs.declared.LoadedProject.{LoadedProject}
use Rattle.engine_types.specs.Labels as the
use Rattle.engine_types.specs.Labels.{label}
use Rattle.engine_types.specs.declared.Slot.{Slot}
use Rattle.run_model.specs.EngineRules.{has_label}
use Rattle.run_model.specs.Labels.{hash_for, is_of_slot}
use Rattle.run_model.proofs.Firsts.{flipped}
use Rattle.tree_base.specs.ByteOrder.{by_key, is_before, placed}
use Rattle.tree_base.specs.Entries.{value_at, with_entry}
use Rattle.tree_base.specs.declared.Var.{Var}
use Rattle.typed_project.specs.declared.service.Service.{Service}
use Rattle.declared_laws.proofs.Firsts.{not_same, same_text}
use Rattle.declared_laws.specs.Laws.{SayOrigin}

-- no text stands before itself
pub not_before_itself : (t : List ℕ) → is_before t t ≡ false
not_before_itself t = at (slice_cmp nat_cmp t t) (is_eq-slice_cmp t t ∙ same_text t)
  where
    at : (o : Ordering) → is_eq o ≡ true → is_lt o ≡ false
    at Less e = absurd (cc e)
    at Equal e = refl
    at Greater e = refl

module _ {X : Type 0} (key : X → List ℕ) (name : List ℕ) where
  -- the first element of a name is that one, also once the elements stand in byte order
  find-placed : (x : X) (xs : List X) → find (λ y. bytes_eq (key y) name) (placed key x xs) ≡ find (λ y. bytes_eq (key y) name) (x ∷ xs)
  find-placed x [] = refl
  find-placed x (y ∷ ys) = at (is_before (key y) (key x)) refl (find-placed x ys)
    where
      swapped : is_before (key y) (key x) ≡ true → (s t : Bool) → bytes_eq (key y) name ≡ s → bytes_eq (key x) name ≡ t → (rest : Option X)
          → cond s (Some y) (cond t (Some x) rest) ≡ cond t (Some x) (cond s (Some y) rest)
      swapped e true true f g rest =
          let one : key y ≡ name = (bytes_eq-Decides (key y) name).0 f in
          let two : key x ≡ name = (bytes_eq-Decides (key x) name).0 g in
          let bad : true ≡ false = sym e ∙ ap (λ t. is_before t (key x)) (one ∙ sym two) ∙ not_before_itself (key x) in
          absurd (cc bad)
      swapped e true false f g rest = refl
      swapped e false true f g rest = refl
      swapped e false false f g rest = refl

      at : (b : Bool) → is_before (key y) (key x) ≡ b → find (λ z. bytes_eq (key z) name) (placed key x ys) ≡ find (λ z. bytes_eq (key z) name) (x ∷ ys)
          → find (λ z. bytes_eq (key z) name) (cond b (y ∷ placed key x ys) (x ∷ y ∷ ys)) ≡ find (λ z. bytes_eq (key z) name) (x ∷ y ∷ ys)
      at true e rest = ap (λ o. cond (bytes_eq (key y) name) (Some y) o) rest ∙ swapped e (bytes_eq (key y) name) (bytes_eq (key x) name) refl refl (find (λ z. bytes_eq (key z) name) ys)
      at false e rest = refl

  find-by_key : (xs : List X) → find (λ y. bytes_eq (key y) name) (by_key key xs) ≡ find (λ y. bytes_eq (key y) name) xs
  find-by_key [] = refl
  find-by_key (x ∷ xs) = find-placed x (by_key key xs) ∙ ap (λ o. cond (bytes_eq (key x) name) (Some x) o) (find-by_key xs)

-- the label of a name is the value under it
label_of : (entries : List (List ℕ × List ℕ)) (name : List ℕ) → label (map variable_of entries) name ≡ value_at entries name
label_of [] name = refl
label_of (entry ∷ entries) name = at (bytes_eq entry.0 name) refl (label_of entries name)
  where
    at : (b : Bool) → bytes_eq entry.0 name ≡ b → label (map variable_of entries) name ≡ value_at entries name
        → option_map (λ (pair : Var). pair.value) (cond b (Some (variable_of entry)) (find (λ pair. bytes_eq pair.name name) (map variable_of entries))) ≡ cond (bytes_eq name entry.0) (Some entry.1) (value_at entries name)
    at true e rest = sym (ap (λ b. cond b (Some entry.1) (value_at entries name)) (flipped entry.0 name true e))
    at false e rest = rest ∙ sym (ap (λ b. cond b (Some entry.1) (value_at entries name)) (flipped entry.0 name false e))

-- what stands under a name once a value was put
put_seen : (entries : List (List ℕ × List ℕ)) (key value name : List ℕ) → value_at (with_entry entries key value) name ≡ cond (bytes_eq name key) (Some value) (value_at entries name)
put_seen [] key value name = refl
put_seen (entry ∷ entries) key value name = at (bytes_eq key entry.0) refl (put_seen entries key value name)
  where
    twice : (b : Bool) → cond b (Some value) (value_at entries name) ≡ cond b (Some value) (cond b (Some entry.1) (value_at entries name))
    twice true = refl
    twice false = refl

    swapped : bytes_eq key entry.0 ≡ false → (s t : Bool) → bytes_eq name entry.0 ≡ s → bytes_eq name key ≡ t
        → cond s (Some entry.1) (cond t (Some value) (value_at entries name)) ≡ cond t (Some value) (cond s (Some entry.1) (value_at entries name))
    swapped e true true f g = absurd (not_same key entry.0 e (sym ((bytes_eq-Decides name key).0 g) ∙ (bytes_eq-Decides name entry.0).0 f))
    swapped e true false f g = refl
    swapped e false true f g = refl
    swapped e false false f g = refl

    at : (b : Bool) → bytes_eq key entry.0 ≡ b → value_at (with_entry entries key value) name ≡ cond (bytes_eq name key) (Some value) (value_at entries name)
        → value_at (cond b ((entry.0, value) ∷ entries) (entry ∷ with_entry entries key value)) name
        ≡ cond (bytes_eq name key) (Some value) (cond (bytes_eq name entry.0) (Some entry.1) (value_at entries name))
    at true e rest =
        let same : key ≡ entry.0 = (bytes_eq-Decides key entry.0).0 e in
        twice (bytes_eq name entry.0) ∙ sym (ap (λ t. cond (bytes_eq name t) (Some value) (cond (bytes_eq name entry.0) (Some entry.1) (value_at entries name))) same)
    at false e rest = ap (λ o. cond (bytes_eq name entry.0) (Some entry.1) o) rest ∙ swapped e (bytes_eq name entry.0) (bytes_eq name key) refl refl

module _ (loaded : LoadedProject) (service : Service) (hash : List ℕ) (number : ℕ) where
  abbrev filed : List (List ℕ × List ℕ)
  filed = with_entry (own_labels service) config_files_label (config_files_text loaded.files)

  abbrev homed : List (List ℕ × List ℕ)
  homed = with_origin loaded (own_labels service)

  abbrev given : List (List ℕ × List ℕ)
  given = with_dependencies service homed

  abbrev all : List (List ℕ × List ℕ)
  all = with_known loaded.project.name service.key hash number given

  abbrev labels : List Var
  labels = container_labels loaded service hash number

  seen : (name : List ℕ) → label labels name ≡ value_at all name
  seen name = ap (option_map (λ (pair : Var). pair.value)) (find-by_key (λ (v : Var). v.name) name (map variable_of all)) ∙ label_of all name

  abbrev first : List (List ℕ × List ℕ)
  first = with_entry given the.project_label loaded.project.name

  abbrev second : List (List ℕ × List ℕ)
  second = with_entry first the.service_label service.key

  abbrev third : List (List ℕ × List ℕ)
  third = with_entry second the.number_label (decimal number)

  abbrev fourth : List (List ℕ × List ℕ)
  fourth = with_entry third the.hash_label hash

  abbrev fifth : List (List ℕ × List ℕ)
  fifth = with_entry fourth the.version_label the.hash_version

  oneoff_is : label labels the.oneoff_label ≡ Some the.not_oneoff
  oneoff_is = seen the.oneoff_label ∙ put_seen fifth the.oneoff_label the.not_oneoff the.oneoff_label

  version_is : label labels the.version_label ≡ Some the.hash_version
  version_is = seen the.version_label ∙ put_seen fifth the.oneoff_label the.not_oneoff the.version_label ∙ put_seen fourth the.version_label the.hash_version the.version_label

  hash_is : label labels the.hash_label ≡ Some hash
  hash_is =
      seen the.hash_label ∙ put_seen fifth the.oneoff_label the.not_oneoff the.hash_label ∙ put_seen fourth the.version_label the.hash_version the.hash_label
      ∙ put_seen third the.hash_label hash the.hash_label

  number_is : label labels the.number_label ≡ Some (decimal number)
  number_is =
      seen the.number_label ∙ put_seen fifth the.oneoff_label the.not_oneoff the.number_label ∙ put_seen fourth the.version_label the.hash_version the.number_label
      ∙ put_seen third the.hash_label hash the.number_label ∙ put_seen second the.number_label (decimal number) the.number_label

  service_is : label labels the.service_label ≡ Some service.key
  service_is =
      seen the.service_label ∙ put_seen fifth the.oneoff_label the.not_oneoff the.service_label ∙ put_seen fourth the.version_label the.hash_version the.service_label
      ∙ put_seen third the.hash_label hash the.service_label ∙ put_seen second the.number_label (decimal number) the.service_label
      ∙ put_seen first the.service_label service.key the.service_label

  project_is : label labels the.project_label ≡ Some loaded.project.name
  project_is =
      seen the.project_label ∙ put_seen fifth the.oneoff_label the.not_oneoff the.project_label ∙ put_seen fourth the.version_label the.hash_version the.project_label
      ∙ put_seen third the.hash_label hash the.project_label ∙ put_seen second the.number_label (decimal number) the.project_label
      ∙ put_seen first the.service_label service.key the.project_label ∙ put_seen given the.project_label loaded.project.name the.project_label

  config_files_is : label labels config_files_label ≡ Some (config_files_text loaded.files)
  config_files_is =
      seen config_files_label ∙ put_seen fifth the.oneoff_label the.not_oneoff config_files_label ∙ put_seen fourth the.version_label the.hash_version config_files_label
      ∙ put_seen third the.hash_label hash config_files_label ∙ put_seen second the.number_label (decimal number) config_files_label
      ∙ put_seen first the.service_label service.key config_files_label ∙ put_seen given the.project_label loaded.project.name config_files_label
      ∙ put_seen homed depends_on_label (depends_on_text service) config_files_label ∙ put_seen filed working_dir_label loaded.directory config_files_label
      ∙ put_seen (own_labels service) config_files_label (config_files_text loaded.files) config_files_label

  working_dir_is : label labels working_dir_label ≡ Some loaded.directory
  working_dir_is =
      seen working_dir_label ∙ put_seen fifth the.oneoff_label the.not_oneoff working_dir_label ∙ put_seen fourth the.version_label the.hash_version working_dir_label
      ∙ put_seen third the.hash_label hash working_dir_label ∙ put_seen second the.number_label (decimal number) working_dir_label
      ∙ put_seen first the.service_label service.key working_dir_label ∙ put_seen given the.project_label loaded.project.name working_dir_label
      ∙ put_seen homed depends_on_label (depends_on_text service) working_dir_label ∙ put_seen filed working_dir_label loaded.directory working_dir_label

  has_value : (name value : List ℕ) → label labels name ≡ Some value → has_label labels name value ≡ true
  has_value name value e = ap (λ o. option_map_or (bytes_eq value) o false) e ∙ same_text value

  both : (b c : Bool) → b ≡ true → c ≡ true → (b && c) ≡ true
  both true c e f = f
  both false c e f = absurd (cc e)

  -- the labels are those of a slot of this service and number
  pub labels_of_slot : (slot : Slot) → slot.service ≡ service.key → slot.number ≡ number → is_of_slot loaded.project.name slot labels ≡ true
  labels_of_slot slot e f =
      both (has_label labels the.project_label loaded.project.name && has_label labels the.oneoff_label the.not_oneoff)
      (has_label labels the.service_label slot.service && has_label labels the.number_label (decimal slot.number))
      (both (has_label labels the.project_label loaded.project.name) (has_label labels the.oneoff_label the.not_oneoff)
      (has_value the.project_label loaded.project.name project_is) (has_value the.oneoff_label the.not_oneoff oneoff_is))
      (both (has_label labels the.service_label slot.service) (has_label labels the.number_label (decimal slot.number))
      (has_value the.service_label slot.service (service_is ∙ ap Some (sym e)))
      (has_value the.number_label (decimal slot.number) (number_is ∙ ap (λ n. Some (decimal n)) (sym f))))

  -- and they have the hash of their version
  pub labels_have_hash : (slot : Slot) → slot.hash ≡ hash → has_label labels the.hash_label (hash_for slot labels) ≡ true
  labels_have_hash slot e =
      ap (λ b. has_label labels the.hash_label (cond b slot.hash slot.old_hash)) (has_value the.version_label the.hash_version version_is)
      ∙ has_value the.hash_label slot.hash (hash_is ∙ ap Some (sym e))

  -- and they say the files and the directory of the project
  pub labels_say_origin : SayOrigin loaded labels
  labels_say_origin = (
    has_value config_files_label (config_files_text loaded.files) config_files_is,
    has_value working_dir_label loaded.directory working_dir_is,
  )
