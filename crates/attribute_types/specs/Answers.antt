-- How a call answers that reads attributes, and where its refusals are told.
use Rattle.std.specs.Prelude.{Bool, true, false, [], ◌∷◌, Result, Ok, Err}
use Rattle.tree_base.specs.Answers as answers
use Rattle.tree_base.specs.declared.Step.{Step}
use Rattle.attribute_types.specs.declared.refusal.AttributeRefusal.{AttributeRefusal}
use Rattle.attribute_types.specs.declared.refusal.AttributeRefusal.TheVariants.{At, Memory}
use Rattle.attribute_types.specs.declared.refusal.Fault.{Fault}

-- what stands here is refused
abbrev pub refused : {X : Type 0} → Fault → Result X AttributeRefusal
refused fault = Err (At fault [])

-- a refusal with one step more in front of its path
abbrev pub stepped : Step → AttributeRefusal → AttributeRefusal
stepped step (At fault path) = At fault (step ∷ path)
stepped step Memory = Memory

-- what is given a step below
abbrev pub under : {X : Type 0} → Step → Result X AttributeRefusal → Result X AttributeRefusal
under step (Ok x) = Ok x
under step (Err refusal) = Err (stepped step refusal)

-- a refusal for want of memory
abbrev pub wants_memory : AttributeRefusal → Bool
wants_memory Memory = true
wants_memory (At fault path) = false

-- what a call gave is the answer, unless it found no memory
abbrev pub Gives : {X : Type 0} → Result X AttributeRefusal → Result X AttributeRefusal → Type 0
Gives given answer = answers.Gives wants_memory given answer
