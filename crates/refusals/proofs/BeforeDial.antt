-- Refusals that come before the dial.
use Rattle.refusals.specs.Origins.{IsBeforeDial, IsOfAsking, IsOfDeclaring}
use Rattle.refusals.specs.declared.refusal.Refusal.{Refusal}

-- a refusal of what is asked for comes before the dial
pub asking_before_dial : (refusal : Refusal) → IsOfAsking refusal → IsBeforeDial refusal
asking_before_dial (Refusal.Words words) h = tt
asking_before_dial (Refusal.NotBuilt unbuilt) h = tt
asking_before_dial (Refusal.Load load) h = tt
asking_before_dial (Refusal.Name name) h = tt
asking_before_dial (Refusal.Active active) h = tt
asking_before_dial (Refusal.Project project) h = tt
asking_before_dial (Refusal.Digest digest) h = tt
asking_before_dial (Refusal.Identity identity) h = tt
asking_before_dial (Refusal.Seen fault) h = absurd h
asking_before_dial (Refusal.Request request outcome) h = absurd h
asking_before_dial (Refusal.Condition slot condition report) h = absurd h
asking_before_dial Refusal.Stopped h = absurd h
asking_before_dial (Refusal.Late why) h = absurd h
asking_before_dial (Refusal.Outside part) h = absurd h
asking_before_dial Refusal.Memory h = tt

-- and so does one of what is declared
pub declaring_before_dial : (refusal : Refusal) → IsOfDeclaring refusal → IsBeforeDial refusal
declaring_before_dial (Refusal.Words words) h = tt
declaring_before_dial (Refusal.NotBuilt unbuilt) h = tt
declaring_before_dial (Refusal.Load load) h = tt
declaring_before_dial (Refusal.Name name) h = tt
declaring_before_dial (Refusal.Active active) h = tt
declaring_before_dial (Refusal.Project project) h = tt
declaring_before_dial (Refusal.Digest digest) h = tt
declaring_before_dial (Refusal.Identity identity) h = tt
declaring_before_dial (Refusal.Seen fault) h = absurd h
declaring_before_dial (Refusal.Request request outcome) h = absurd h
declaring_before_dial (Refusal.Condition slot condition report) h = absurd h
declaring_before_dial Refusal.Stopped h = absurd h
declaring_before_dial (Refusal.Late why) h = absurd h
declaring_before_dial (Refusal.Outside part) h = absurd h
declaring_before_dial Refusal.Memory h = tt
