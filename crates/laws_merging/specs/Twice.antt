-- Files that don't merge the same however they are grouped.
use Rattle.std.specs.Prelude.{◌≡◌, ℕ, List, [], ◌∷◌, true, codes, Ok}
use Rattle.tree_base.specs.Answers.{◌>>=◌}
use Rattle.tree_base.specs.declared.Tree.{Tree, Map, Scalar, Seq}
use Rattle.merge_tables.specs.Attributes.{overlay_rules}
use Rattle.merge_rules.specs.Overlay.{over_files}
use Rattle.laws_merging.specs.Grouping.{is_plain}

-- a file with the ports of one service
abbrev pub ports : List Tree → Tree
ports entries = Map ((codes "services", Map ((codes "web", Map ((codes "ports", Seq entries) ∷ [])) ∷ [])) ∷ [])

-- a port with a name, which it isn't known by
abbrev pub named_port : List ℕ → Tree
named_port name = Map ((codes "target", Scalar (codes "80")) ∷ (codes "name", Scalar name) ∷ [])

-- a port as it is published
abbrev pub published_port : Tree → Tree
published_port published = Map ((codes "target", Scalar (codes "80")) ∷ (codes "published", published) ∷ [])

-- a text as a sequence of one
abbrev pub one_text : List ℕ → Tree
one_text text = Seq (Scalar text ∷ [])

-- two texts as a sequence
abbrev pub two_texts : List ℕ → List ℕ → Tree
two_texts text other = Seq (Scalar text ∷ Scalar other ∷ [])

-- where the second of three files has one port twice, the third file counts if it comes last,
-- and the second's own last entry if the upper two are put together first
abbrev pub TwiceDiffers : Type 0
TwiceDiffers =
    ((over_files (Map []) (ports (named_port (codes "x") ∷ named_port (codes "y") ∷ [])) >>= λ tree. over_files tree (ports (named_port (codes "z") ∷ []))) ≡ Ok (ports (named_port (codes "z") ∷ [])))
    × ((over_files (ports (named_port (codes "x") ∷ named_port (codes "y") ∷ [])) (ports (named_port (codes "z") ∷ [])) >>= λ tree. over_files (Map []) tree) ≡ Ok (ports (named_port (codes "y") ∷ [])))

-- a port that is published as a list grows as it is merged, and is known by another list then:
-- so the same three files give their entries in two orders
abbrev pub GrownDiffers : Type 0
GrownDiffers =
    ((over_files (ports (published_port (one_text (codes "1")) ∷ [])) (ports (published_port (one_text (codes "1")) ∷ [])) >>= λ tree. over_files tree (ports (published_port (one_text (codes "1")) ∷ [])))
    ≡ Ok (ports (published_port (two_texts (codes "1") (codes "1")) ∷ published_port (one_text (codes "1")) ∷ [])))
    × ((over_files (ports (published_port (one_text (codes "1")) ∷ [])) (ports (published_port (one_text (codes "1")) ∷ [])) >>= λ tree. over_files (ports (published_port (one_text (codes "1")) ∷ [])) tree)
    ≡ Ok (ports (published_port (one_text (codes "1")) ∷ published_port (two_texts (codes "1") (codes "1")) ∷ [])))

-- a file whose ports are published by texts, each once, is plain
abbrev pub PortsArePlain : Type 0
PortsArePlain = is_plain (ports (published_port (Scalar (codes "1")) ∷ published_port (Scalar (codes "2")) ∷ [])) overlay_rules ≡ true
