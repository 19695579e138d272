-- Worked examples of merging, by computation.
use Rattle.std.proofs.Common.{◌≡◌, ℕ, List, [], ◌∷◌, Ok, rules}
use Rattle.std.specs.Prelude.{codes}
use Rattle.tree_base.specs.declared.tree.Tree.{Tree, the_lemmas}
use Rattle.tree_base.specs.declared.tree.Tree.TheVariants.{Map, Null, Override, Reset, Scalar, Seq}
use Rattle.merge_tables.specs.Attributes.{overlay_rules}
use Rattle.merge_rules.specs.Overlay.{over_files}

-- a file with one service of one attribute
abbrev web : List ℕ → Tree → Tree
web name value = Map ((codes "services", Map ((codes "web", Map ((name, value) ∷ [])) ∷ [])) ∷ [])

abbrev one : List ℕ → Tree
one text = Seq (Scalar text ∷ [])

abbrev both : List ℕ → List ℕ → Tree
both text other = Seq (Scalar text ∷ Scalar other ∷ [])

abbrev field : List ℕ → List ℕ → Tree
field name value = Map ((name, Scalar value) ∷ [])

-- a port in its long form
abbrev port : List ℕ → List ℕ → Tree
port published protocol = Map ((codes "target", Scalar (codes "80")) ∷ (codes "protocol", Scalar protocol) ∷ (codes "published", Scalar published) ∷ [])

abbrev ports : List Tree → Tree
ports entries = web (codes "ports") (Seq entries)

-- ports of another number or protocol are put behind
ports_behind : over_files (ports (port (codes "8080") (codes "tcp") ∷ [])) (ports (port (codes "8081") (codes "tcp") ∷ port (codes "8080") (codes "udp") ∷ []))
    ≡ Ok (ports (port (codes "8080") (codes "tcp") ∷ port (codes "8081") (codes "tcp") ∷ port (codes "8080") (codes "udp") ∷ []))
unfolding overlay_rules over_files
ports_behind = search (rules, the_lemmas)

-- and the same port stands once
ports_once : over_files (ports (port (codes "8080") (codes "tcp") ∷ port (codes "8081") (codes "tcp") ∷ port (codes "8080") (codes "udp") ∷ [])) (ports (port (codes "8080") (codes "tcp") ∷ []))
    ≡ Ok (ports (port (codes "8080") (codes "tcp") ∷ port (codes "8081") (codes "tcp") ∷ port (codes "8080") (codes "udp") ∷ []))
unfolding overlay_rules over_files
ports_once = search (rules, the_lemmas)

-- a service with ports and variables
abbrev served : Tree → Tree → Tree
served entries variables = Map ((codes "services", Map ((codes "web", Map ((codes "ports", entries) ∷ (codes "environment", variables) ∷ [])) ∷ [])) ∷ [])

-- the marks take the ports away, and replace the variables
marks_act : over_files (served (Seq (port (codes "8080") (codes "tcp") ∷ [])) (Map ((codes "A", Scalar (codes "1")) ∷ (codes "B", Scalar (codes "2")) ∷ []))) (served Reset (Override (field (codes "C") (codes "3"))))
    ≡ Ok (web (codes "environment") (field (codes "C") (codes "3")))
unfolding overlay_rules over_files
marks_act = search (rules, the_lemmas)

-- a port whose number is no text, which no reader of ports takes: lists grow, so it is known by another key then
abbrev listed : List Tree → Tree
listed published = Map ((codes "target", Scalar (codes "80")) ∷ (codes "published", Seq published) ∷ [])

-- so three files of it merge otherwise as they are grouped: the second over the first
grown : over_files (ports (listed (Scalar (codes "1") ∷ []) ∷ [])) (ports (listed (Scalar (codes "1") ∷ []) ∷ [])) ≡ Ok (ports (listed (Scalar (codes "1") ∷ Scalar (codes "1") ∷ []) ∷ []))
unfolding overlay_rules over_files
grown = search (rules, the_lemmas)

-- and the third over these
third_behind : over_files (ports (listed (Scalar (codes "1") ∷ Scalar (codes "1") ∷ []) ∷ [])) (ports (listed (Scalar (codes "1") ∷ []) ∷ []))
    ≡ Ok (ports (listed (Scalar (codes "1") ∷ Scalar (codes "1") ∷ []) ∷ listed (Scalar (codes "1") ∷ []) ∷ []))
unfolding overlay_rules over_files
third_behind = search (rules, the_lemmas)

-- or the second and the third, which are the same as the first and the second, over the first
first_in_front : over_files (ports (listed (Scalar (codes "1") ∷ []) ∷ [])) (ports (listed (Scalar (codes "1") ∷ Scalar (codes "1") ∷ []) ∷ []))
    ≡ Ok (ports (listed (Scalar (codes "1") ∷ []) ∷ listed (Scalar (codes "1") ∷ Scalar (codes "1") ∷ []) ∷ []))
unfolding overlay_rules over_files
first_in_front = search (rules, the_lemmas)

-- a port with a name, which it isn't known by
abbrev called : List ℕ → Tree
called name = Map ((codes "target", Scalar (codes "80")) ∷ (codes "name", Scalar name) ∷ [])

-- so do three files of which the second has two entries that are one: over the first, the later of these counts
twice_over_nothing : over_files (Map []) (ports (called (codes "x") ∷ called (codes "y") ∷ [])) ≡ Ok (ports (called (codes "y") ∷ []))
unfolding overlay_rules over_files
twice_over_nothing = search (rules, the_lemmas)

-- and then the third
third_counts : over_files (ports (called (codes "y") ∷ [])) (ports (called (codes "z") ∷ [])) ≡ Ok (ports (called (codes "z") ∷ []))
unfolding overlay_rules over_files
third_counts = search (rules, the_lemmas)

-- but under the third they stand apart
twice_below : over_files (ports (called (codes "x") ∷ called (codes "y") ∷ [])) (ports (called (codes "z") ∷ [])) ≡ Ok (ports (called (codes "z") ∷ called (codes "y") ∷ []))
unfolding overlay_rules over_files
twice_below = search (rules, the_lemmas)

-- and over the first the later counts again
later_counts : over_files (Map []) (ports (called (codes "z") ∷ called (codes "y") ∷ [])) ≡ Ok (ports (called (codes "y") ∷ []))
unfolding overlay_rules over_files
later_counts = search (rules, the_lemmas)
