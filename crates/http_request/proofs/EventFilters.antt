-- The filter of events as JSON and as a text.
use Rattle.std.proofs.Common.{◌≡◌, ℕ, false, List, ◌++◌, refl, ap, append_assoc}
use Rattle.std.specs.Prelude.{codes}
use Rattle.json.specs.Print.{quoted}
use Rattle.serde_json.specs.Data.{Data, array, item, member, no_items, no_members, object, string}
use Rattle.serde_json.specs.Written.{compact_text, has_float}
use Rattle.serde_json.proofs.OnLiterals.{serde_json_on_literals}
use Rattle.http_request.specs.Events.{events_filter}

abbrev pub events_data : List ℕ → Data
events_data label =
    object (member (codes "label") (array (item (string label) no_items)) (member (codes "type") (array (item (string (codes "container")) no_items)) no_members))

pub events_have_no_float : (label : List ℕ) → has_float (events_data label) ≡ false
unfolding serde_json_on_literals
events_have_no_float label = refl

pub events_printed : (label : List ℕ) → compact_text (events_data label) ≡ events_filter label
unfolding serde_json_on_literals events_filter
events_printed label =
    ap (λ (t : List ℕ). codes "{\"label\":[" ++ t)
    (append_assoc (quoted label) (codes "]") (codes ",\"type\":[\"container\"]}"))
