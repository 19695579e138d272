-- Looking for texts, tables and rows in a body of JSON (RFC 8259).
use Rattle.std.specs.Prelude.{ℕ, List, [], ◌∷◌, Option, Some, None, option_map, option_and_then, if◌then◌else◌, find}
use Rattle.std.specs.Str.{bytes_eq, is_utf8}
use Rattle.serde_json.specs.Data.{Data, null, string, object, Items, no_items, item, Members, no_members, member}
use Rattle.serde_json.specs.Find.{get, as_str, as_array}
use Rattle.serde_json.specs.Read.{read}
use Rattle.tree_base.specs.declared.Var.{Var}

-- what comes of a value that is there
abbrev pub given : {A B : Type 0} → Option A → (A → Option B) → Option B
given found next = option_and_then next found

-- the JSON that bytes are: a text of UTF-8 that nests at most 127 deep
abbrev pub json_of : List ℕ → Option Data
json_of bytes = if is_utf8 bytes then read bytes else None

-- what is given of each item, where it is given of all of them
abbrev pub of_each : {A B : Type 0} → (A → Option B) → List A → Option (List B)
of_each f [] = Some []
of_each f (x ∷ xs) = given (f x) (λ y. option_map (λ ys. y ∷ ys) (of_each f xs))

-- the items of an array, as a list
abbrev pub listed : Items → List Data
listed no_items = []
listed (item d ds) = d ∷ listed ds

-- the members of an object, as a list: each key once, in byte order
abbrev pub entries : Members → List (List ℕ × Data)
entries no_members = []
entries (member key d more) = (key, d) ∷ entries more

-- the rows of an array, where each of them can be read
abbrev pub rows : {A : Type 0} → (Data → Option A) → Data → Option (List A)
rows f d = given (as_array d) (λ items. of_each f (listed items))

-- the text under a key
abbrev pub text_at : List ℕ → Data → Option (List ℕ)
text_at key d = given (get key d) as_str

-- a text, and the empty one for null
abbrev pub text_or_null : Data → Option (List ℕ)
text_or_null null = Some []
text_or_null (string text) = Some text
text_or_null _ = None

-- a name with its value
abbrev pub pair_of : List ℕ × Data → Option Var
pair_of (name, d) = option_map (λ value. record { name = name; value = value }) (text_or_null d)

-- names with their values in byte order: of an object of texts and nulls, and none of null
abbrev pub pairs_of : Data → Option (List Var)
pairs_of null = Some []
pairs_of (object members) = of_each pair_of (entries members)
pairs_of _ = None

-- what a word stands for in a table
abbrev pub meaning : {A : Type 0} → List (List ℕ × A) → List ℕ → Option A
meaning table word = option_map (λ row. row.1) (find (λ row. bytes_eq row.0 word) table)
