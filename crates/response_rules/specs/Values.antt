-- How many values the JSON of a body has at most (RFC 8259, sections 2 to 7).
use Rattle.std.specs.Prelude.{ℕ, ◌+◌, Bool, true, false, not, List, [], ◌∷◌, if◌then◌else◌, nat_lt, ◌==◌, ◌&&◌, ◌||◌}
use Rattle.tree_base.specs.Limits.{most_body_values}
use Rattle.engine_types.specs.declared.Request.{Request}

-- a byte outside of strings behind which a value may stand: a comma, and the bracket or the brace that
-- begins an array or an object
abbrev pub is_place : Bool → ℕ → Bool
is_place in_string b = not in_string && (b == 44 || (b == 91 || b == 123))

-- whether what stands behind a byte is in a string: a quotation mark begins one and ends it, but for
-- one behind a backslash
abbrev pub string_after : Bool → Bool → ℕ → Bool
string_after in_string escaped b = if b == 34 && not escaped then not in_string else in_string

-- whether what stands behind a byte is escaped: the byte is a backslash in a string, and not escaped
-- itself
abbrev pub escape_after : Bool → Bool → ℕ → Bool
escape_after in_string escaped b = in_string && (not escaped && b == 92)

-- how many such places bytes have, which begin in a string or outside of one, and escaped or not
abbrev pub places_from : Bool → Bool → List ℕ → ℕ
places_from in_string escaped [] = 0
places_from in_string escaped (b ∷ bytes) =
    (if is_place in_string b then 1 else 0)
    + places_from (string_after in_string escaped b) (escape_after in_string escaped b) bytes

-- how many values JSON has at most: itself, and one for each such place. Where no array and no object
-- is empty it has so many
abbrev pub values_in : List ℕ → ℕ
values_in bytes = 1 + places_from false false bytes

-- the body of a response is JSON, but that of logs
abbrev pub is_of_json : Request → ℕ → Bool
is_of_json (Request.Logs id) status = not (status == 200)
is_of_json request status = true

-- the body of a response is JSON of more values than the limit
abbrev pub has_many_values : Request → ℕ → List ℕ → Bool
has_many_values request status body =
    is_of_json request status && nat_lt most_body_values (values_in body)
