-- Nodes as JSON, worked out by the checker.
use Rattle.std.proofs.Common.{◌≡◌, ◌∙◌, ◌&&◌, true, [], ◌∷◌, codes}
use Rattle.json.specs.Print.{escape_byte}
use Rattle.project_print.specs.declared.compact_json.Dollars.TheVariants.{Twice}
use Rattle.project_print.specs.declared.node.Node.TheVariants as nodes
use Rattle.project_print.specs.Json.{json_of}
use Rattle.laws_yaml.proofs.JsonTrees.{map_text, null_text, seq_text, text_text, word_text}
use Rattle.laws_yaml.specs.Readable.{is_so}
use Rattle.laws_yaml.proofs.Decoded.{printable_null, printable_seq, printable_word}
use Rattle.laws_yaml.specs.Printed.{is_printable}

-- keys keep their dollars, texts have them twice, and a number below zero stands as it is
nested : json_of Twice (nodes.Map ((codes "a$b", nodes.Text (codes "x$y\n")) ∷ (codes "d", nodes.Seq (nodes.Word (codes "-1") ∷ nodes.Null ∷ [])) ∷ [])) ≡ codes "{\"a$b\":\"x$$y\\n\",\"d\":[-1,null]}"
unfolding escape_byte
nested = simp (map_text, seq_text, text_text, word_text, null_text)

-- such words are read back
printable : is_printable (nodes.Seq (nodes.Word (codes "-1") ∷ nodes.Null ∷ [])) ≡ true
printable = printable_seq (nodes.Word (codes "-1") ∷ nodes.Null ∷ []) ∙ (λ i. is_so (printable_word (codes "-1") i) && (is_so (printable_null i) && true))
