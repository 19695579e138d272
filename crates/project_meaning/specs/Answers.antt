-- A call's whole answer, its refusal included, and what calls give that ask something or change a project.
use Rattle.std.specs.Prelude.{Bool, true, false, List, [], Option, Some, None, Result, Ok, Err}
use Rattle.tree_base.specs.Answers as answers
use Rattle.tree_base.specs.Answers.{◌>>=◌}
use Rattle.attribute_scalars.specs.Walks.{Entries, Read}
use Rattle.attribute_types.specs.declared.attribute.Attribute.{Attribute}
use Rattle.attribute_types.specs.declared.refusal.AttributeRefusal.{AttributeRefusal}
use Rattle.loading_words.specs.declared.refusal.ProjectRefusal.{ProjectRefusal}
use Rattle.loading_words.specs.declared.refusal.TreeRefusal.{TreeRefusal}

-- a refusal for want of memory
abbrev pub wants_memory : TreeRefusal → Bool
wants_memory TreeRefusal.Memory = true
wants_memory refusal = false

-- what a call gave is the answer, unless it found no memory
abbrev pub Gives : {X : Type 0} → Result X TreeRefusal → Result X TreeRefusal → Type 0
Gives given answer = answers.Gives wants_memory given answer

-- what a call gave that asks something of attributes, and gives nothing
abbrev pub asked : Result (Unit {0}) AttributeRefusal → Read (List Attribute)
asked (Ok done) = Ok []
asked (Err refusal) = Err refusal

-- what a call gave that changes something, by what it left
abbrev pub leaving : {X : Type 0} → X → Result (Unit {0}) TreeRefusal → Result X TreeRefusal
leaving left (Ok done) = Ok left
leaving left (Err refusal) = Err refusal

-- what is answered once something is asked: the refusal, or what was there
abbrev pub unless_refused : {X : Type 0} → Option ProjectRefusal → X → Result X TreeRefusal
unless_refused None there = Ok there
unless_refused (Some refusal) there = Err (TreeRefusal.Project refusal)
