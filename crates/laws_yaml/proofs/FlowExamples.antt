-- Nodes as flows, worked out by the checker.
use Rattle.std.proofs.Common.{◌≡◌, [], ◌∷◌, codes}
use Rattle.project_print.specs.declared.node.Node.TheVariants as nodes
use Rattle.laws_yaml.proofs.FlowTrees.{map_text, null_text, seq_text, text_text, word_text}
use Rattle.laws_yaml.specs.Flows.{flow_text}

-- keys and texts, plain and in quotes, and collections within others
nested : flow_text (nodes.Map ((codes "a", nodes.Text (codes "b c")) ∷ (codes "d e", nodes.Seq (nodes.Word (codes "1") ∷ nodes.Null ∷ nodes.Text (codes "x$y") ∷ [])) ∷ [])) ≡ codes "{a: \"b c\", \"d e\": [1, null, \"x$$y\"]}"
nested = simp (map_text, seq_text, text_text, word_text, null_text)

-- a number below zero stands as it is
below : flow_text (nodes.Map ((codes "soft", nodes.Word (codes "-1")) ∷ [])) ≡ codes "{soft: -1}"
below = simp (map_text, word_text)

-- collections without parts
empty : flow_text (nodes.Seq (nodes.Map [] ∷ nodes.Seq [] ∷ [])) ≡ codes "[{}, []]"
empty = simp (map_text, seq_text)
