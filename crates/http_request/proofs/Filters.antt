-- The filter of containers as JSON and as a text.
use Rattle.std.proofs.Common.{◌≡◌, ℕ, false, List, ◌++◌, refl, ap, append_assoc}
use Rattle.std.specs.Prelude.{codes}
use Rattle.json.specs.Print.{quoted}
use Rattle.serde_json.specs.Data.{Data, array, item, member, no_items, no_members, object, string}
use Rattle.serde_json.specs.Written.{compact_text, has_float}
use Rattle.serde_json.proofs.OnLiterals.{serde_json_on_literals}
use Rattle.http_request.specs.Requests.{filter_text}

abbrev pub filter_data : List ℕ → Data
filter_data label =
    object (member (codes "label") (array (item (string label) (item (string (codes "com.docker.compose.oneoff=False")) no_items))) no_members)

pub filter_has_no_float : (label : List ℕ) → has_float (filter_data label) ≡ false
unfolding serde_json_on_literals
filter_has_no_float label = refl

pub filter_printed : (label : List ℕ) → compact_text (filter_data label) ≡ filter_text label
unfolding serde_json_on_literals filter_text
filter_printed label =
    ap (λ (t : List ℕ). codes "{\"label\":[" ++ t)
    (append_assoc (quoted label) (codes ",\"com.docker.compose.oneoff=False\"]") (codes "}"))
