-- How a call answers that merges, and where its refusals are told.
use Rattle.std.specs.Prelude.{◌≡◌, ℕ, Bool, true, false, [], ◌∷◌, ◌++◌, Result, Ok, Err, min, reverse, nat_le, if◌then◌else◌}
use Rattle.tree_base.specs.Limits.{greatest_place, most_nodes, most_text}
use Rattle.tree_base.specs.Answers as answers
use Rattle.tree_base.specs.Trees.{node_count, text_size}
use Rattle.tree_base.specs.declared.Tree.{Tree}
use Rattle.tree_base.specs.declared.Step.{Step}
use Rattle.merge_tables.specs.declared.refusal.MergeRefusal.{MergeRefusal}
use Rattle.merge_tables.specs.declared.refusal.MergeRefusal.TheVariants.{KindMismatch, BadUniqueEntry, MarkUnderExtends, TooManyNodes, TooMuchText, Memory}

-- a refusal with one step more in front of its path
abbrev pub stepped : Step → MergeRefusal → MergeRefusal
stepped step (KindMismatch path) = KindMismatch (step ∷ path)
stepped step (BadUniqueEntry path) = BadUniqueEntry (step ∷ path)
stepped step (MarkUnderExtends path) = MarkUnderExtends (step ∷ path)
stepped step TooManyNodes = TooManyNodes
stepped step TooMuchText = TooMuchText
stepped step Memory = Memory

-- what is given a step below
abbrev pub under : {A : Type 0} → Step → Result A MergeRefusal → Result A MergeRefusal
under step (Ok x) = Ok x
under step (Err refusal) = Err (stepped step refusal)

-- a place as a number of 32 bits, or the greatest of these
abbrev pub place : ℕ → ℕ
place n = min n greatest_place

-- a tree within the limits: 200,000 nodes, and 16,777,216 bytes of keys and scalars
abbrev pub within : Tree → Result Tree MergeRefusal
within tree = if nat_le (node_count tree) most_nodes then (if nat_le (text_size tree) most_text then Ok tree else Err TooMuchText) else Err TooManyNodes

-- a refusal for want of memory
abbrev pub wants_memory : MergeRefusal → Bool
wants_memory Memory = true
wants_memory TooManyNodes = false
wants_memory TooMuchText = false
wants_memory (KindMismatch path) = false
wants_memory (BadUniqueEntry path) = false
wants_memory (MarkUnderExtends path) = false

-- a call refused, for want of memory or as the answer does
abbrev pub Fails : {X : Type 0} → MergeRefusal → Result X MergeRefusal → Type 0
Fails refusal answer = answers.Fails wants_memory refusal answer

-- what a call gave is the answer, unless it found no memory
abbrev pub Gives : {X : Type 0} → Result X MergeRefusal → Result X MergeRefusal → Type 0
Gives given answer = answers.Gives wants_memory given answer

-- a refusal whose path is told from the inside out, with one step more
abbrev pub outer : Step → MergeRefusal → MergeRefusal
outer step (KindMismatch path) = KindMismatch (path ++ step ∷ [])
outer step (BadUniqueEntry path) = BadUniqueEntry (path ++ step ∷ [])
outer step (MarkUnderExtends path) = MarkUnderExtends (path ++ step ∷ [])
outer step TooManyNodes = TooManyNodes
outer step TooMuchText = TooMuchText
outer step Memory = Memory

-- and that refusal with its path from the root down
abbrev pub turned : MergeRefusal → MergeRefusal
turned (KindMismatch path) = KindMismatch (reverse path)
turned (BadUniqueEntry path) = BadUniqueEntry (reverse path)
turned (MarkUnderExtends path) = MarkUnderExtends (reverse path)
turned TooManyNodes = TooManyNodes
turned TooMuchText = TooMuchText
turned Memory = Memory

-- what a function gave whose refusals have their paths from the inside out
abbrev pub UpGives : {X : Type 0} → Result X MergeRefusal → Result X MergeRefusal → Type 0
UpGives (Ok x) answer = answer ≡ Ok x
UpGives (Err refusal) answer = Fails (turned refusal) answer
