-- A call's whole answer, its refusal included.
use Rattle.std.specs.Prelude.{◌≡◌, Bool, true, false, Result}
use Rattle.active_services.specs.declared.refusal.ActiveRefusal.{ActiveRefusal}
use Rattle.tree_base.specs.Answers as answers

-- a refusal for want of memory
abbrev pub wants_memory : ActiveRefusal → Bool
wants_memory ActiveRefusal.Memory = true
wants_memory refusal = false

-- what a call gave is the answer, unless it found no memory
abbrev pub Gives : {X : Type 0} → Result X ActiveRefusal → Result X ActiveRefusal → Type 0
Gives given answer = answers.Gives wants_memory given answer

-- a refusal is the one that is meant, unless it is for want of memory
abbrev pub IsMeant : ActiveRefusal → ActiveRefusal → Type 0
IsMeant refusal meant = answers.Unless (wants_memory refusal) (refusal ≡ meant)
