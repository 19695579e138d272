-- Examples of reading, worked out by the checker. Those with aliases and merge keys aren't here: the size of a tree doesn't compute outside its crate.
use lib.Utf8.{encode}
use Rattle.std.specs.Str.{chars, is_utf8}
use Rattle.std.specs.Str.Lossy.{utf8_valid_len}
use Rattle.std.specs.Prelude.{◌≡◌, ℕ, List, [], ◌∷◌, Result, Ok, Err, codes, refl}
use Rattle.tree_base.specs.declared.tree.Tree.{Tree}
use Rattle.tree_base.specs.declared.tree.Tree.TheVariants.{Null, Scalar, Map, Seq, Reset, Override}
use Rattle.yaml_lines.specs.declared.refusal.YamlFault.{YamlFault}
use Rattle.yaml_lines.specs.declared.refusal.YamlFault.TheVariants.{TabIndent, BadScalar, BadIndent, BadFlow, RepeatedKey, UnknownAlias, BadMerge, BadTag, Unsupported}
use Rattle.yaml_lines.specs.declared.refusal.YamlRefusal.{YamlRefusal}
use Rattle.yaml_lines.specs.declared.refusal.YamlRefusal.TheVariants.{Bad}
use Rattle.yaml_lines.specs.Scan.{scan_of}
use Rattle.yaml_tree.specs.Reading.{reading}
use Rattle.yaml_nodes.specs.Progress.{◌>>=◌}

-- what the text of a file spells
abbrev spelled : List ℕ → Result Tree YamlRefusal
spelled text = scan_of 0 text >>= reading

-- a text is refused at a place of its file
abbrev IsBad : List ℕ → YamlFault → ℕ → ℕ → Type 0
IsBad text which line column = spelled text ≡ Err (Bad which (record { file = 0; line = line; column = column }))

-- a text spells a tree
abbrev Spells : List ℕ → Tree → Type 0
Spells text tree = spelled text ≡ Ok tree

spells_1 : Spells (codes "") Null
unfolding utf8_valid_len is_utf8 chars encode
spells_1 = refl

spells_2 : Spells (codes "# c\n\n") Null
unfolding utf8_valid_len is_utf8 chars encode
spells_2 = refl

spells_3 : Spells (codes "a: 1\nb: x y # c\n") (Map ((codes "a", (Scalar (codes "1"))) ∷ (codes "b", (Scalar (codes "x y"))) ∷ []))
unfolding utf8_valid_len is_utf8 chars encode
spells_3 = refl

spells_4 : Spells (codes "a:\n- x\n- y\nb:\n") (Map ((codes "a", (Seq ((Scalar (codes "x")) ∷ (Scalar (codes "y")) ∷ []))) ∷ (codes "b", Null) ∷ []))
unfolding utf8_valid_len is_utf8 chars encode
spells_4 = refl

spells_5 : Spells (codes "- a: 1\n  b: 2\n- - c\n  -\n") (Seq ((Map ((codes "a", (Scalar (codes "1"))) ∷ (codes "b", (Scalar (codes "2"))) ∷ [])) ∷ (Seq ((Scalar (codes "c")) ∷ Null ∷ [])) ∷ []))
unfolding utf8_valid_len is_utf8 chars encode
spells_5 = refl

spells_6 : Spells (codes "a: [b, {c: d, e}, 'f',]\n") (Map ((codes "a", (Seq ((Scalar (codes "b")) ∷ (Map ((codes "c", (Scalar (codes "d"))) ∷ (codes "e", Null) ∷ [])) ∷ (Scalar (codes "f")) ∷ []))) ∷ []))
unfolding utf8_valid_len is_utf8 chars encode
spells_6 = refl

spells_7 : Spells (codes "a: [b, # x]\nc\n]\nd: e\n") (Map ((codes "a", (Seq ((Scalar (codes "b")) ∷ (Scalar (codes "c")) ∷ []))) ∷ (codes "d", (Scalar (codes "e"))) ∷ []))
unfolding utf8_valid_len is_utf8 chars encode
spells_7 = refl

spells_8 : Spells (codes "a: |\n  x\n   y\n\nb: >-\n  p\n  q\n") (Map ((codes "a", (Scalar (codes "x\n y\n"))) ∷ (codes "b", (Scalar (codes "p q"))) ∷ []))
unfolding utf8_valid_len is_utf8 chars encode
spells_8 = refl

spells_11 : Spells (codes "---\n- ~\n- !!str ~\n- !!str\n- \"null\"\n") (Seq (Null ∷ (Scalar (codes "~")) ∷ (Scalar (codes "")) ∷ (Scalar (codes "null")) ∷ []))
unfolding utf8_valid_len is_utf8 chars encode
spells_11 = refl

spells_12 : Spells (codes "a: !reset 1\nb: !override {c: d}\n") (Map ((codes "a", Reset) ∷ (codes "b", (Override (Map ((codes "c", (Scalar (codes "d"))) ∷ [])))) ∷ []))
unfolding utf8_valid_len is_utf8 chars encode
spells_12 = refl

spells_14 : Spells (codes "a:\n  |\n x\nb: c\n") (Map ((codes "a", (Scalar (codes "x\n"))) ∷ (codes "b", (Scalar (codes "c"))) ∷ []))
unfolding utf8_valid_len is_utf8 chars encode
spells_14 = refl

spells_15 : Spells (codes "{a:, b: , \"c\":d, \"e\" : f}") (Map ((codes "a:", Null) ∷ (codes "b", Null) ∷ (codes "c", (Scalar (codes "d"))) ∷ (codes "e", (Scalar (codes "f"))) ∷ []))
unfolding utf8_valid_len is_utf8 chars encode
spells_15 = refl

spells_17 : Spells (codes "'k' : \"v\"\n") (Map ((codes "k", (Scalar (codes "v"))) ∷ []))
unfolding utf8_valid_len is_utf8 chars encode
spells_17 = refl

spells_18 : Spells (codes "- |\n a\n- b\n") (Seq ((Scalar (codes "a\n")) ∷ (Scalar (codes "b")) ∷ []))
unfolding utf8_valid_len is_utf8 chars encode
spells_18 = refl

bad_1 : IsBad (codes "services:\n  a:\n    command: [x, y") BadFlow 3 14
unfolding utf8_valid_len is_utf8 chars encode
bad_1 = refl

bad_2 : IsBad (codes "services:\n\ta: 1\n") TabIndent 2 1
unfolding utf8_valid_len is_utf8 chars encode
bad_2 = refl

bad_3 : IsBad (codes "a: 1\na: 2\n") RepeatedKey 2 1
unfolding utf8_valid_len is_utf8 chars encode
bad_3 = refl

bad_4 : IsBad (codes "a: *n\n") UnknownAlias 1 4
unfolding utf8_valid_len is_utf8 chars encode
bad_4 = refl

bad_5 : IsBad (codes "a: 1\n  b: 2\n") Unsupported 2 3
unfolding utf8_valid_len is_utf8 chars encode
bad_5 = refl

bad_6 : IsBad (codes "a: [1]\n  b\n") BadIndent 2 3
unfolding utf8_valid_len is_utf8 chars encode
bad_6 = refl

bad_7 : IsBad (codes "a: 1\nb\n") BadScalar 2 1
unfolding utf8_valid_len is_utf8 chars encode
bad_7 = refl

bad_8 : IsBad (codes "- a\nb: 1\n") BadIndent 2 1
unfolding utf8_valid_len is_utf8 chars encode
bad_8 = refl

bad_9 : IsBad (codes "a: b: c") BadScalar 1 5
unfolding utf8_valid_len is_utf8 chars encode
bad_9 = refl

bad_10 : IsBad (codes "a:\n \tb\n") TabIndent 2 2
unfolding utf8_valid_len is_utf8 chars encode
bad_10 = refl

bad_12 : IsBad (codes "a: !foo b") BadTag 1 4
unfolding utf8_valid_len is_utf8 chars encode
bad_12 = refl

bad_13 : IsBad (codes "- !reset a") BadTag 1 3
unfolding utf8_valid_len is_utf8 chars encode
bad_13 = refl

bad_14 : IsBad (codes "a: !!str [b]") BadTag 1 4
unfolding utf8_valid_len is_utf8 chars encode
bad_14 = refl

bad_15 : IsBad (codes "[a: b]") Unsupported 1 2
unfolding utf8_valid_len is_utf8 chars encode
bad_15 = refl

bad_16 : IsBad (codes "[a,,b]") BadFlow 1 1
unfolding utf8_valid_len is_utf8 chars encode
bad_16 = refl

bad_17 : IsBad (codes "[a}") BadFlow 1 1
unfolding utf8_valid_len is_utf8 chars encode
bad_17 = refl

bad_18 : IsBad (codes "{a: [b}") BadFlow 1 5
unfolding utf8_valid_len is_utf8 chars encode
bad_18 = refl

bad_19 : IsBad (codes ": 1") Unsupported 1 1
unfolding utf8_valid_len is_utf8 chars encode
bad_19 = refl

bad_20 : IsBad (codes "a: : b") BadScalar 1 4
unfolding utf8_valid_len is_utf8 chars encode
bad_20 = refl

bad_21 : IsBad (codes "[\n---\n") Unsupported 2 1
unfolding utf8_valid_len is_utf8 chars encode
bad_21 = refl

bad_22 : IsBad (codes "a: |2\n  x\n") Unsupported 1 5
unfolding utf8_valid_len is_utf8 chars encode
bad_22 = refl

bad_23 : IsBad (codes "a: |x\n") BadScalar 1 5
unfolding utf8_valid_len is_utf8 chars encode
bad_23 = refl

bad_24 : IsBad (codes "? a\n") Unsupported 1 1
unfolding utf8_valid_len is_utf8 chars encode
bad_24 = refl

bad_25 : IsBad (codes "- ? a\n") BadScalar 1 3
unfolding utf8_valid_len is_utf8 chars encode
bad_25 = refl

bad_26 : IsBad (codes "a: 1\n- x\n") BadIndent 2 1
unfolding utf8_valid_len is_utf8 chars encode
bad_26 = refl

bad_27 : IsBad (codes "{[a]: b}") BadScalar 1 2
unfolding utf8_valid_len is_utf8 chars encode
bad_27 = refl

bad_28 : IsBad (codes "[[a]: b]") BadFlow 1 1
unfolding utf8_valid_len is_utf8 chars encode
bad_28 = refl

bad_29 : IsBad (codes "\"a\":1\n") BadScalar 1 4
unfolding utf8_valid_len is_utf8 chars encode
bad_29 = refl

bad_30 : IsBad (codes "&x a: 1\n") Unsupported 1 1
unfolding utf8_valid_len is_utf8 chars encode
bad_30 = refl

bad_31 : IsBad (codes "!!str a: 1\n") BadTag 1 1
unfolding utf8_valid_len is_utf8 chars encode
bad_31 = refl

bad_32 : IsBad (codes "a: &x &y b\n") BadScalar 1 7
unfolding utf8_valid_len is_utf8 chars encode
bad_32 = refl

bad_33 : IsBad (codes "a: [b\nc]\n") BadFlow 1 4
unfolding utf8_valid_len is_utf8 chars encode
bad_33 = refl

bad_34 : IsBad (codes "a\nb: 1\n") Unsupported 2 1
unfolding utf8_valid_len is_utf8 chars encode
bad_34 = refl

bad_35 : IsBad (codes "a: \"b\" c\n") BadScalar 1 8
unfolding utf8_valid_len is_utf8 chars encode
bad_35 = refl

bad_36 : IsBad (codes "--- a\n") Unsupported 1 1
unfolding utf8_valid_len is_utf8 chars encode
bad_36 = refl

bad_37 : IsBad (codes "a: 1\n---\n") Unsupported 2 1
unfolding utf8_valid_len is_utf8 chars encode
bad_37 = refl

bad_38 : IsBad (codes "a:\n    b: 1\n  c: 2\n") BadIndent 3 3
unfolding utf8_valid_len is_utf8 chars encode
bad_38 = refl

bad_39 : IsBad (codes "a: |\n  x\n y\n") BadIndent 3 2
unfolding utf8_valid_len is_utf8 chars encode
bad_39 = refl

bad_40 : IsBad (codes "!!str\n: x\n") BadTag 1 1
unfolding utf8_valid_len is_utf8 chars encode
bad_40 = refl

bad_41 : IsBad (codes "!!str\n&x a: 1\n") BadTag 1 1
unfolding utf8_valid_len is_utf8 chars encode
bad_41 = refl

bad_42 : IsBad (codes "{\"a\" b}\n") BadFlow 1 1
unfolding utf8_valid_len is_utf8 chars encode
bad_42 = refl
