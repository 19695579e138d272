-- The attributes of services, networks, volumes, secrets and configs are read back from their page.
use Rattle.std.proofs.Common.{◌≡◌, ◌∙◌, ℕ, true, List, [], ◌∷◌, All, codes, Ok, refl, ap}
use Rattle.std.proofs.lemmas.List.Elements.{All-head, All-tail}
use Rattle.tree_base.specs.declared.tree.Tree.{Tree}
use Rattle.attribute_types.specs.Tables.{Lines, file_lines, network_lines, volume_lines}
use Rattle.attribute_types.specs.declared.attribute.Attribute.{Attribute}
use Rattle.attribute_types.specs.declared.attribute.Value.{Value}
use Rattle.attribute_types.specs.declared.form.Plain.{Plain}
use Rattle.attribute_types.specs.declared.form.Row.{Row}
use Rattle.attribute_types.specs.declared.rows.FileUse.{FileUse}
use Rattle.attribute_scalars.specs.Walks.{Entries, own_entries}
use Rattle.attribute_values.specs.Fields.{fields_of}
use Rattle.attribute_rows.specs.Attributes.{attributes_of}
use Rattle.merge_rules.specs.Laws.{no_mark}
use Rattle.attribute_paths.proofs.Trees.{OfAll}
use Rattle.laws_attributes.specs.ReadBack as stated
use Rattle.laws_attributes.specs.ReadBack.{ArePlain, FieldsReadBack, FilesReadBack, NamedNetworksReadBack, NamedVolumesReadBack, NetworksReadBack, ServicesReadBack, VolumesReadBack, entries_shown, named}
use Rattle.laws_attributes.proofs.Order.{all_placed, all_weaker}
use Rattle.laws_attributes.proofs.Lookups.{Apart}
use Rattle.laws_attributes.proofs.Fields.{Came, fields_came}
use Rattle.laws_attributes.proofs.FileRow as files
use Rattle.laws_attributes.proofs.FileRow.{configs_row, secrets_row}
use Rattle.laws_attributes.proofs.Gifts.{name_of, shown_by}
use Rattle.laws_attributes.proofs.HealthRow.{health_again}
use Rattle.laws_attributes.proofs.LimitRow.{limits_again, networks_again}
use Rattle.laws_attributes.proofs.LoggingRow.{logging_again}
use Rattle.laws_attributes.proofs.Marks.{given_unmarked, mapping_apart, plain_unmarked}
use Rattle.laws_attributes.proofs.MountRow.{mounts_again}
use Rattle.laws_attributes.proofs.Named.{network_named, volume_named}
use Rattle.laws_attributes.proofs.NeedRow.{needs_again}
use Rattle.laws_attributes.proofs.PageTrees.{IsUnmarked, entries_unmarked, node_means}
use Rattle.laws_attributes.proofs.PortRow.{ports_again}
use Rattle.laws_attributes.proofs.Services.{RowsBack, service_again, service_came}
use Rattle.laws_attributes.proofs.Shown.{whole}
use Rattle.laws_attributes.proofs.Tables.{file_back, network_back, volume_back}
use Rattle.laws_attributes.proofs.Wanting.{IsOwn, all_own, own_apart}

-- entries whose trees have no mark
abbrev IsClean : List ℕ × Tree → Type 0
IsClean entry = no_mark entry.1 ≡ true

module _ (entries : Entries) (plain : ArePlain entries) where
  own_clean : OfAll (λ e. IsClean e × IsOwn e) (own_entries entries)
  own_clean = all_own IsClean entries (entries_unmarked entries plain.0)

  owned : OfAll IsOwn (own_entries entries)
  owned = all_weaker (λ e. IsClean e × IsOwn e) IsOwn (λ e h. h.1) (own_entries entries) own_clean

  clean : OfAll IsClean (own_entries entries)
  clean = all_weaker (λ e. IsClean e × IsOwn e) IsClean (λ e h. h.0) (own_entries entries) own_clean

  apart : Apart (own_entries entries)
  apart = own_apart entries (mapping_apart entries plain.1)

-- what a page shows of values without marks
shown_so : (attributes : List Attribute) → OfAll (λ a. IsUnmarked a.value) attributes → entries_shown attributes ≡ shown_by whole attributes
shown_so [] h = refl
shown_so (a ∷ others) h = (λ i. (a.name, node_means a.value h.0 i) ∷ shown_so others h.1 i)

-- a table's attributes have no mark
module _ (lines : Lines Plain) (wanted : List (List ℕ)) (entries : Entries) (plain : ArePlain entries) (attributes : List Attribute)
    (e : fields_of lines wanted (own_entries entries) ≡ Ok attributes) where
  fields_unmarked : OfAll (λ a. IsUnmarked a.value) attributes
  fields_unmarked =
      all_weaker (Came lines wanted (own_entries entries) IsClean) (λ a. IsUnmarked a.value)
      (λ a c. plain_unmarked c.0 (own_entries entries) c.2 a.value c.3 c.5) attributes
      (fields_came lines wanted (own_entries entries) attributes e IsClean (clean entries plain))

pub networks_law : NetworksReadBack
networks_law entries attributes plain e =
    ap (λ l. fields_of network_lines [] (own_entries l)) (shown_so attributes (fields_unmarked network_lines [] entries plain attributes e))
    ∙ network_back (own_entries entries) attributes (owned entries plain) e

pub volumes_law : VolumesReadBack
volumes_law entries attributes plain e =
    ap (λ l. fields_of volume_lines [] (own_entries l)) (shown_so attributes (fields_unmarked volume_lines [] entries plain attributes e))
    ∙ volume_back (own_entries entries) attributes (owned entries plain) e

pub files_law : FilesReadBack
files_law entries attributes plain e =
    let names = codes "file" ∷ [] in
    ap (λ l. fields_of file_lines names (own_entries l)) (shown_so attributes (fields_unmarked file_lines names entries plain attributes e))
    ∙ file_back (own_entries entries) attributes (apart entries plain) (owned entries plain) e

-- with a name placed among them
placed_shown : (text : List ℕ) (attributes : List Attribute) → OfAll (λ a. IsUnmarked a.value) attributes → entries_shown (named text attributes) ≡ shown_by whole (named text attributes)
placed_shown text attributes h = shown_so (named text attributes) (all_placed name_of (λ a. IsUnmarked a.value) (record { name = codes "name"; value = Value.Text text }) attributes tt h)

pub named_networks_law : NamedNetworksReadBack
named_networks_law entries attributes text plain e =
    ap (λ l. fields_of network_lines [] (own_entries l)) (placed_shown text attributes (fields_unmarked network_lines [] entries plain attributes e))
    ∙ network_named (own_entries entries) attributes (owned entries plain) e text

pub named_volumes_law : NamedVolumesReadBack
named_volumes_law entries attributes text plain e =
    ap (λ l. fields_of volume_lines [] (own_entries l)) (placed_shown text attributes (fields_unmarked volume_lines [] entries plain attributes e))
    ∙ volume_named (own_entries entries) attributes (owned entries plain) e text

-- all rows are read again
rows_law : RowsBack files.HavePlaces
rows_law Row.Ulimits s v e places = limits_again s v e
rows_law Row.Logging s v e places = logging_again s v e
rows_law Row.Ports s v e places = ports_again s v e
rows_law Row.Mounts s v e places = mounts_again s v e
rows_law Row.Secrets s v e places = secrets_row s v e places
rows_law Row.Configs s v e places = configs_row s v e places
rows_law Row.Networks s v e places = networks_again s v e
rows_law Row.HealthCheck s v e places = health_again s v e
rows_law Row.Dependencies s v e places = needs_again s v e

files_placed : (list : List FileUse) → All stated.HasPlace list → OfAll files.HasPlace list
files_placed [] h = tt
files_placed (file ∷ list) h = (All-head stated.HasPlace file list h, files_placed list (All-tail stated.HasPlace file list h))

places_of : (value : Value) → stated.HavePlaces value → files.HavePlaces value
places_of (Value.Files list) h = files_placed list h
places_of (Value.Text text) h = tt
places_of value h = tt

all_places : (attributes : List Attribute) → All (λ attribute. stated.HavePlaces attribute.value) attributes → OfAll (λ a. files.HavePlaces a.value) attributes
all_places [] h = tt
all_places (a ∷ others) h =
    (places_of a.value (All-head (λ attribute. stated.HavePlaces attribute.value) a others h), all_places others (All-tail (λ attribute. stated.HavePlaces attribute.value) a others h))

pub services_law : ServicesReadBack
services_law entries attributes plain e places =
    let es = own_entries entries in
    let passing = all_places attributes places in
    let came = service_came files.HavePlaces rows_law es (apart entries plain) attributes e passing IsClean (clean entries plain) in
    let unmarked = all_weaker _ (λ a. IsUnmarked a.value) (λ a g. given_unmarked g.0 es g.1 a.value g.2 g.3) attributes came in
    ap attributes_of (shown_so attributes unmarked) ∙ service_again files.HavePlaces rows_law es (apart entries plain) attributes e passing (owned entries plain)
