-- Attributes are read back from their page.
use Rattle.std.specs.Prelude.{◌≡◌, ◌||◌, ℕ, true, List, [], ◌∷◌, Ok, All, codes, map}
use Rattle.tree_base.specs.ByteOrder.{placed}
use Rattle.tree_base.specs.declared.Tree.{Tree, Map}
use Rattle.attribute_types.specs.Tables.{Lines, file_lines, network_lines, volume_lines}
use Rattle.attribute_types.specs.declared.attribute.Attribute.{Attribute}
use Rattle.attribute_types.specs.declared.attribute.Value.{Value}
use Rattle.attribute_types.specs.declared.form.Plain.{Plain}
use Rattle.attribute_types.specs.declared.rows.FileUse.{FileUse}
use Rattle.attribute_scalars.specs.Scalars.{has_no_colon}
use Rattle.attribute_scalars.specs.Walks.{Entries, own_entries}
use Rattle.attribute_values.specs.Fields.{fields_of}
use Rattle.attribute_rows.specs.Attributes.{attributes_of}
use Rattle.merge_rules.specs.Laws.{no_mark, own_keys}
use Rattle.project_pages.specs.AttributePages.{value_node}
use Rattle.project_print.specs.Values.{value_of}

-- the entry of a mapping that a page shows of an attribute
abbrev pub entry_shown : Attribute → List ℕ × Tree
entry_shown attribute = (attribute.name, value_of (value_node attribute.value))

-- the entries that a page shows of attributes
abbrev pub entries_shown : List Attribute → Entries
entries_shown attributes = map entry_shown attributes

-- no mark stands in the entries' trees, and no key twice in one mapping
abbrev pub ArePlain : Entries → Type 0
ArePlain entries = (no_mark (Map entries) ≡ true) × (own_keys (Map entries) ≡ true)

-- the source of a file that a service sees, or the path where it is seen, has no colon
abbrev pub HasPlace : FileUse → Type 0
HasPlace file = (has_no_colon file.source || has_no_colon file.target) ≡ true

-- so have all files of a value
abbrev pub HavePlaces : Value → Type 0
HavePlaces (Value.Files files) = All HasPlace files
HavePlaces value = Unit {0}

-- the attributes of a service are read back, where none of its files has a colon both in its source
-- and in its path
abbrev pub ServicesReadBack : Type 0
ServicesReadBack =
    (entries : Entries) (attributes : List Attribute) → ArePlain entries
    → attributes_of entries ≡ Ok attributes → All (λ attribute. HavePlaces attribute.value) attributes
    → attributes_of (entries_shown attributes) ≡ Ok attributes

-- attributes that a table reads of entries are read back
abbrev pub FieldsReadBack : Lines Plain → List (List ℕ) → Type 0
FieldsReadBack lines wanted =
    (entries : Entries) (attributes : List Attribute) → ArePlain entries
    → fields_of lines wanted (own_entries entries) ≡ Ok attributes
    → fields_of lines wanted (own_entries (entries_shown attributes)) ≡ Ok attributes

-- so are those of networks
abbrev pub NetworksReadBack : Type 0
NetworksReadBack = FieldsReadBack network_lines []

-- and of volumes
abbrev pub VolumesReadBack : Type 0
VolumesReadBack = FieldsReadBack volume_lines []

-- and of secrets and configs
abbrev pub FilesReadBack : Type 0
FilesReadBack = FieldsReadBack file_lines (codes "file" ∷ [])

-- attributes with a name placed among them
abbrev pub named : List ℕ → List Attribute → List Attribute
named text attributes =
    placed {X = Attribute} (λ attribute. attribute.name)
    (record { name = codes "name"; value = Value.Text text }) attributes

-- attributes that a table reads are read back with a name placed among them
abbrev pub NamedReadBack : Lines Plain → Type 0
NamedReadBack lines =
    (entries : Entries) (attributes : List Attribute) (text : List ℕ) → ArePlain entries
    → fields_of lines [] (own_entries entries) ≡ Ok attributes
    → fields_of lines [] (own_entries (entries_shown (named text attributes))) ≡ Ok (named text attributes)

-- so are those of networks
abbrev pub NamedNetworksReadBack : Type 0
NamedNetworksReadBack = NamedReadBack network_lines

-- and of volumes
abbrev pub NamedVolumesReadBack : Type 0
NamedVolumesReadBack = NamedReadBack volume_lines
