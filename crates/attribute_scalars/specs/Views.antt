-- What the program's own entries are.
use Rattle.std.specs.Prelude.{ℕ, List, [], ◌∷◌, ◌++◌, Option, Result, Ok, Err}
use Rattle.std.specs.Option.{option_to_list}
use Rattle.tree_base.specs.Answers.{◌>>=◌}
use Rattle.tree_base.specs.declared.Tree.{Tree}
use Rattle.attribute_types.specs.declared.attribute.Value.{Value}
use Rattle.attribute_types.specs.declared.refusal.AttributeRefusal.{AttributeRefusal}
use Rattle.attribute_scalars.specs.Walks.{Read}
use Rattle.attribute_scalars.specs.declared.entries.Entry.{Entry}

-- an entry: its key, and what stands under it
abbrev pub seen_entry : Entry → List ℕ × Tree
seen_entry entry = (entry.key.now, entry.value.now)

-- what a call gave that asks something, and gives nothing
abbrev pub passed : Result (Unit {0}) AttributeRefusal → Read (List Value)
passed (Ok done) = Ok []
passed (Err refusal) = Err refusal

-- what a call gave that puts something into a list, by the list that it left
abbrev pub onto : {X : Type 0} → List X → Result (Unit {0}) AttributeRefusal → Read (List X)
onto new (Ok done) = Ok new
onto new (Err refusal) = Err refusal

-- what is given, behind what is done
abbrev pub behind : {X : Type 0} → List X → Read (List X) → Read (List X)
behind done given = given >>= λ found. Ok (done ++ found)

-- the one that is given, behind what is done
abbrev pub one_behind : {X : Type 0} → List X → Read X → Read (List X)
one_behind done given = given >>= λ one. Ok (done ++ one ∷ [])

-- one or none, as a list
abbrev pub if_one : {X : Type 0} → Read (Option X) → Read (List X)
if_one given = given >>= λ found. Ok (option_to_list found)

-- one, as a list
abbrev pub just_one : {X : Type 0} → Read X → Read (List X)
just_one given = given >>= λ one. Ok (one ∷ [])
