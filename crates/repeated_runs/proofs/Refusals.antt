-- Refusals of runs.
use Rattle.std.proofs.Common.{◌≡◌, Some, None, refl, ap, ◌∙◌}
use Rattle.std.specs.Prelude.{Bool, Option}
use Rattle.compose_cli.specs.Ends.{failed_dial}
use Rattle.compose_cli.specs.Runs.{IsUnbegun, refusal_after}
use Rattle.engine_types.specs.declared.RunFault.{RunFault}
use Rattle.refusals.proofs.Said.{said}
use Rattle.refusals.specs.Origins.{IsBeforeDial, IsOfLoading, IsOfRun}
use Rattle.refusals.specs.Saying.{IsSaid, IsSaidIfAny}
use Rattle.refusals.specs.declared.Refusal.{Refusal}
use Rattle.repeated_runs.specs.Calls.{IsRefusedBeforeDial}
use Rattle.repeated_runs.specs.Conflicts.{conflict_of}
use Rattle.repeated_runs.specs.Dials.{refusal_of}
use Rattle.repeated_runs.specs.declared.dialling.DialFault.{DialFault}

-- a refusal may be said as it is
pub said_same : (refusal : Option Refusal) → IsSaidIfAny refusal refusal
said_same None = refl
said_same (Some (Refusal.Words words)) = refl
said_same (Some (Refusal.NotBuilt unbuilt)) = refl
said_same (Some (Refusal.Load load)) = refl
said_same (Some (Refusal.Name name)) = refl
said_same (Some (Refusal.Active active)) = refl
said_same (Some (Refusal.Project project)) = refl
said_same (Some (Refusal.Digest digest)) = refl
said_same (Some (Refusal.Identity identity)) = refl
said_same (Some (Refusal.Seen fault)) = refl
said_same (Some (Refusal.Request request outcome)) = refl
said_same (Some (Refusal.Condition slot condition report)) = refl
said_same (Some Refusal.Stopped) = refl
said_same (Some (Refusal.Late why)) = refl
said_same (Some (Refusal.Outside part)) = refl
said_same (Some Refusal.Memory) = tt

-- a refusal of a run is none of loading
pub no_loading : (refusal : Option Refusal) → IsOfRun refusal → IsOfLoading refusal → ⊥
no_loading None run loading = loading
no_loading (Some (Refusal.Words words)) run loading = run
no_loading (Some (Refusal.NotBuilt unbuilt)) run loading = run
no_loading (Some (Refusal.Load load)) run loading = run
no_loading (Some (Refusal.Name name)) run loading = run
no_loading (Some (Refusal.Active active)) run loading = run
no_loading (Some (Refusal.Project project)) run loading = run
no_loading (Some (Refusal.Digest digest)) run loading = run
no_loading (Some (Refusal.Identity identity)) run loading = run
no_loading (Some (Refusal.Seen fault)) run loading = loading
no_loading (Some (Refusal.Request request outcome)) run loading = loading
no_loading (Some (Refusal.Condition slot condition report)) run loading = loading
no_loading (Some Refusal.Stopped) run loading = loading
no_loading (Some (Refusal.Late why)) run loading = loading
no_loading (Some (Refusal.Outside part)) run loading = loading
no_loading (Some Refusal.Memory) run loading = loading

-- what a call is refused with that has no run is said so, or a want of memory in its place
pub said_before_dial : (refusal : Refusal) (found : Option Refusal) → IsBeforeDial refusal → IsSaid refusal found → IsRefusedBeforeDial found
said_before_dial refusal found before is_said = said refusal found is_said IsRefusedBeforeDial tt before

-- a run without memory is refused so
pub memory_refusal : (fault : Option RunFault) (whole : Bool) (refusal : Option Refusal) → refusal ≡ refusal_after fault whole → fault ≡ Some RunFault.Memory → refusal ≡ Some Refusal.Memory
memory_refusal fault whole refusal after is = after ∙ ap (λ (f : Option RunFault). refusal_after f whole) is

-- a want of memory is no conflict
pub no_conflict : (refusal : Option Refusal) → refusal ≡ Some Refusal.Memory → conflict_of refusal ≡ None
no_conflict refusal is = ap conflict_of is

-- what a call is refused with that has no hand for some worker
pub plug_fault : (fault : DialFault) → Some (refusal_of fault) ≡ failed_dial → fault ≡ DialFault.Plug
plug_fault DialFault.Plug e = refl
plug_fault DialFault.Memory e = absurd (cc e)

pub undialled_unbegun : (fault : DialFault) → IsUnbegun (Some (refusal_of fault))
undialled_unbegun DialFault.Plug = tt
undialled_unbegun DialFault.Memory = tt

pub undialled_loading : (fault : DialFault) → IsOfLoading (Some (refusal_of fault)) → ⊥
undialled_loading DialFault.Plug h = h
undialled_loading DialFault.Memory h = h

pub undialled_conflict : (fault : DialFault) → conflict_of (Some (refusal_of fault)) ≡ None
undialled_conflict DialFault.Plug = refl
undialled_conflict DialFault.Memory = refl
