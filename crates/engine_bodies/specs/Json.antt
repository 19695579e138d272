-- Values of JSON (RFC 8259) as a table of members spells them.
use Rattle.std.specs.Prelude.{ℕ, ℤ, List, Option, Some, None, fold, map}
use Rattle.serde_json.specs.Data.{Data, Members, array, no_members, number, object, put, string}
use Rattle.serde_json.specs.Find.{of_integer}
use Rattle.serde_json.specs.View.{items_of}
use Rattle.tree_base.specs.declared.place.Var.{Var}

-- a member of an object: its name, and its value where it has one
abbrev pub Member : Type 0
Member = List ℕ × Option Data

-- members with one more, which takes its place in byte order of the names; what has no value isn't there
unfoldable pub with_member : Members → Member → Members
with_member members (name, None) = members
with_member members (name, Some value) = put name value members

-- the object of a table: each row is a member, in byte order of the names
abbrev pub object_of : List Member → Data
object_of rows = object (fold with_member no_members rows)

-- a list
abbrev pub array_of : {X : Type 0} → (X → Data) → List X → Data
array_of told items = array (items_of (map told items))

-- a list of texts
abbrev pub texts : List (List ℕ) → Data
texts items = array_of string items

-- a number
abbrev pub integer : ℤ → Data
integer n = number (of_integer n)

-- a mapping: each item's value under its key; of two items with one key the later counts
abbrev pub mapping_of : {X : Type 0} → (X → List ℕ) → (X → Data) → List X → Data
mapping_of key told items = object_of (map (λ item. (key item, Some (told item))) items)

-- a mapping of texts
abbrev pub pairs : List Var → Data
pairs given = mapping_of (λ pair. pair.name) (λ pair. string pair.value) given

-- the object without a member
abbrev pub empty_object : Data
empty_object = object no_members

-- a set, as a mapping of its names to objects without a member
abbrev pub set_of : List (List ℕ) → Data
set_of names = mapping_of (λ name. name) (λ name. empty_object) names

-- the object of a table, where it has a member
abbrev pub if_any : Members → Option Data
if_any no_members = None
if_any members = Some (object members)
