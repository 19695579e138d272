-- Strings of JSON as nodes of flow collections.
use Rattle.std.proofs.Common.{ℕ, suc, List, [], ◌∷◌, ◌++◌, flat_map, length, refl}
use Rattle.std.specs.Str.{encode_utf8_all}
use Rattle.json.specs.Print.{escape_byte, quoted}
use Rattle.tree_base.specs.declared.tree.Tree.TheVariants.{Scalar}
use Rattle.yaml_lines.specs.declared.plain.Context.TheVariants.{Flow}
use Rattle.laws_yaml.proofs.Sizes.{scalar_sizes}
use Rattle.laws_yaml.proofs.PageTokens.{len_is, scalar_is}
use Rattle.laws_yaml.proofs.FlowTexts.{IsFlowText}
use Rattle.laws_yaml.proofs.ScalarTexts.{scalar_flow}
use Rattle.laws_yaml.proofs.Strings.{string_spelled}

-- a string reads as its text
pub string_flow : (levels : ℕ) (text : List ℕ)
    → IsFlowText (suc levels) (quoted text) (Scalar (encode_utf8_all text))
string_flow levels text =
    scalar_flow 34 (flat_map escape_byte text ++ 34 ∷ []) refl (Scalar (encode_utf8_all text)) (encode_utf8_all text) (scalar_sizes (encode_utf8_all text))
    (λ rest ends. len_is Flow (quoted text ++ rest) text (length (quoted text)) (string_spelled Flow text rest))
    (λ rest ends p row at here. scalar_is Flow (quoted text ++ rest) text (length (quoted text)) (string_spelled Flow text rest) p row at here)
    levels
