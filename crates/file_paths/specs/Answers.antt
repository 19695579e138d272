-- How a call answers that takes paths absolute: with the answer of its definition, unless memory was wanted.
use Rattle.std.specs.Prelude.{Bool, true, false, Result}
use Rattle.tree_base.specs.Answers as answers
use Rattle.file_paths.specs.declared.refusal.PathRefusal.{PathRefusal}
use Rattle.file_paths.specs.declared.refusal.PathRefusal.TheVariants.{NoHome, Memory}

-- a refusal for want of memory
abbrev pub wants_memory : PathRefusal → Bool
wants_memory Memory = true
wants_memory (NoHome path) = false

-- a call refused, for want of memory or as the answer does
abbrev pub Fails : {X : Type 0} → PathRefusal → Result X PathRefusal → Type 0
Fails refusal answer = answers.Fails wants_memory refusal answer

-- what a call gave is the answer, unless it found no memory
abbrev pub Gives : {X : Type 0} → Result X PathRefusal → Result X PathRefusal → Type 0
Gives given answer = answers.Gives wants_memory given answer
