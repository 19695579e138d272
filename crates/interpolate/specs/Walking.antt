-- A tree with the values of its scalars, or the first refusal in the tree's order: a mapping's key comes before its value.
use Rattle.std.specs.Prelude.{◌≡◌, ℕ, ◌+◌, Bool, true, false, List, [], ◌∷◌, ◌++◌, length, reverse, Result, Ok, Err, nat_le, if◌then◌else◌}
use Rattle.std.specs.List.{zip}
use Rattle.std.specs.Map.{keys_of}
use Rattle.tree_base.specs.Limits.{most_text}
use Rattle.tree_base.specs.Answers.{◌>>=◌}
use Rattle.tree_base.specs.Answers as answers
use Rattle.tree_base.specs.declared.Tree.{Tree, fold-Tree, Null, Scalar, Map, Seq, Reset, Override}
use Rattle.tree_base.specs.declared.Tree.TheOpen.{Tree-F}
use Rattle.tree_base.specs.declared.Step.{Step}
use Rattle.tree_base.specs.declared.Step.TheVariants.{Key, Index}
use Rattle.interpolate.specs.declared.refusal.SubstRefusal.{SubstRefusal}
use Rattle.interpolate.specs.declared.refusal.SubstRefusal.TheVariants as refusals
use Rattle.interpolate.specs.declared.refusal.SubstTreeRefusal.{SubstTreeRefusal}
use Rattle.interpolate.specs.declared.refusal.SubstTreeRefusal.TheVariants.{At, TooMuchText, Memory}
use Rattle.interpolate.specs.Parts.{place}
use Rattle.interpolate.specs.Substitution.{Variables, substituted}

-- what a tree gives, and how many bytes keys and scalars have with it, by how many they have before it
abbrev pub Walk : Type 0
Walk = ℕ → Result (Tree × ℕ) SubstTreeRefusal

-- so many bytes more, of which there may be 16,777,216
abbrev pub with_bytes : ℕ → ℕ → Result ℕ SubstTreeRefusal
with_bytes size more = if nat_le (size + more) most_text then Ok (size + more) else Err TooMuchText

-- the refusal of a tree, by that of the scalar that it is
abbrev pub root_refusal : SubstRefusal → SubstTreeRefusal
root_refusal refusals.Memory = Memory
root_refusal refusals.TooMuchText = TooMuchText
root_refusal (refusals.Unclosed at) = At [] (refusals.Unclosed at)
root_refusal (refusals.BadForm at) = At [] (refusals.BadForm at)
root_refusal (refusals.RequiredVariable name message) = At [] (refusals.RequiredVariable name message)

-- the value of a scalar
abbrev pub here : Result (List ℕ) SubstRefusal → Result (List ℕ) SubstTreeRefusal
here (Ok value) = Ok value
here (Err cause) = Err (root_refusal cause)

-- a scalar is its value, which counts
abbrev pub scalar_walk : Result (List ℕ) SubstRefusal → Walk
scalar_walk read size = here read >>= λ value. with_bytes size (length value) >>= λ size. Ok (Scalar value, size)

-- what a tree gives that stands a step below
abbrev pub under : {A : Type 0} → Step → Result A SubstTreeRefusal → Result A SubstTreeRefusal
under step (Ok x) = Ok x
under step (Err Memory) = Err Memory
under step (Err TooMuchText) = Err TooMuchText
under step (Err (At path cause)) = Err (At (step ∷ path) cause)

-- one more item behind those that are done
abbrev pub one_more : List Tree → Result (Tree × ℕ) SubstTreeRefusal → Result (List Tree × ℕ) SubstTreeRefusal
one_more done read = read >>= λ got. Ok (done ++ got.0 ∷ [], got.1)

-- the items of a sequence from a place on, behind those that are done
abbrev pub items_walk : List Tree × ℕ → ℕ → List Walk → Result (List Tree × ℕ) SubstTreeRefusal
items_walk done at [] = Ok done
items_walk done at (walk ∷ walks) = one_more done.0 (under (Index (place at)) (walk done.1)) >>= λ more. items_walk more (at + 1) walks

-- an entry of a mapping: its key counts and stays
abbrev pub entry_walk : List ℕ × Walk → Walk
entry_walk entry size = with_bytes size (length entry.0) >>= λ size. under (Key entry.0) (entry.1 size)

-- the values of a mapping's entries, behind those that are done
abbrev pub entries_walk : List Tree × ℕ → List (List ℕ × Walk) → Result (List Tree × ℕ) SubstTreeRefusal
entries_walk done [] = Ok done
entries_walk done (entry ∷ entries) = one_more done.0 (entry_walk entry done.1) >>= λ more. entries_walk more entries

-- a tree, by what the trees in it give
abbrev pub tree_step : Variables → Tree-F Walk → Walk
tree_step env Tree-F.Null = λ size. Ok (Null, size)
tree_step env (Tree-F.Scalar text) = scalar_walk (substituted env text)
tree_step env (Tree-F.Map entries) = λ size. entries_walk ([], size) entries >>= λ got. Ok (Map (zip (keys_of entries) got.0), got.1)
tree_step env (Tree-F.Seq items) = λ size. items_walk ([], size) 0 items >>= λ got. Ok (Seq got.0, got.1)
tree_step env Tree-F.Reset = λ size. Ok (Reset, size)
tree_step env (Tree-F.Override inner) = λ size. inner size >>= λ got. Ok (Override got.0, got.1)

-- a tree, and how many bytes there are with it
abbrev pub tree_walk : Variables → Tree → Walk
tree_walk env = fold-Tree Walk (tree_step env)

-- a tree that keeps its scalars whatever the variables are, before which there are so many bytes, and with it so many
abbrev pub Stays : Tree → ℕ → ℕ → Type 0
Stays tree size more = (env : Variables) → tree_walk env tree size ≡ Ok (tree, more)

-- the tree with the values of its scalars, and each key as it is
abbrev pub substituted_tree : Variables → Tree → Result Tree SubstTreeRefusal
substituted_tree env tree = tree_walk env tree 0 >>= λ got. Ok got.0

-- a refusal for want of memory
abbrev pub wants_memory : SubstTreeRefusal → Bool
wants_memory Memory = true
wants_memory TooMuchText = false
wants_memory (At path cause) = false

-- a call refused, for want of memory or as the answer does
abbrev pub TreeFails : {X : Type 0} → SubstTreeRefusal → Result X SubstTreeRefusal → Type 0
TreeFails refusal answer = answers.Fails wants_memory refusal answer

-- what a call gave is the answer, unless it found no memory
abbrev pub TreeGives : {X : Type 0} → Result X SubstTreeRefusal → Result X SubstTreeRefusal → Type 0
TreeGives given answer = answers.Gives wants_memory given answer

-- a refusal whose path is told from the scalar up, with one step more
abbrev pub outer : Step → SubstTreeRefusal → SubstTreeRefusal
outer step Memory = Memory
outer step TooMuchText = TooMuchText
outer step (At path cause) = At (path ++ step ∷ []) cause

-- and that refusal with its path from the root down
abbrev pub turned : SubstTreeRefusal → SubstTreeRefusal
turned Memory = Memory
turned TooMuchText = TooMuchText
turned (At path cause) = At (reverse path) cause

-- what a function returned whose refusals have their paths from the scalar up
abbrev pub UpGives : {X : Type 0} → Result X SubstTreeRefusal → Result X SubstTreeRefusal → Type 0
UpGives (Ok x) read = read ≡ Ok x
UpGives (Err e) read = TreeFails (turned e) read

-- what it returned beside the number that it left
abbrev pub beside : {A : Type 0} → Result A SubstTreeRefusal → ℕ → Result (A × ℕ) SubstTreeRefusal
beside (Ok a) size = Ok (a, size)
beside (Err e) size = Err e
