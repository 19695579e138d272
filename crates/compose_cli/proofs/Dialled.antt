-- Which hands a call asks its plug for.
use Rattle.std.proofs.Common.{◌≡◌, ◌⊎◌, ◌+◌, ◌≤◌, ℕ, List, [], ◌∷◌, ◌++◌, Some, Ok, ap, append-nil, arith, inl, inr, length, refl, subst, sym}
use Rattle.std.specs.Prelude.{Option, Result, IfOk}
use Rattle.asked_project.specs.Asking.{Variables, options_asked}
use Rattle.asked_target.specs.Targets.{asked_stop_file, asked_target}
use Rattle.compose_cli.specs.Dialling.{AreDials, Dials, IsDialAsked, IsDialAt, IsDialFor, MadeHands}
use Rattle.compose_cli.specs.Ends.{failed_dial}
use Rattle.compose_cli.specs.declared.reaching.Place.{Place}
use Rattle.compose_words.specs.declared.Options.{Options}
use Rattle.outside_api.specs.Plugs.{dial_of}
use Rattle.outside_api.specs.declared.dial.Dial.{Dial}
use Rattle.refusals.proofs.Said.{said}
use Rattle.refusals.specs.Origins.{IsOfRun}
use Rattle.refusals.specs.Saying.{IsSaid}
use Rattle.refusals.specs.declared.Part.{Part}
use Rattle.refusals.specs.declared.Refusal.{Refusal}

each : (F G : ℕ → Dial → Type 0) → ((n : ℕ) (dial : Dial) → F n dial → G n dial) → (from : ℕ) (dials : List Dial) → AreDials F from dials → AreDials G from dials
each F G k from [] h = tt
each F G k from (dial ∷ rest) h = (k from dial h.0, each F G k (from + 1) rest h.1)

-- dials of which one fact holds are such of which another one holds that follows from it
pub dials_by : (F G : ℕ → Dial → Type 0) (workers : ℕ) (old new : List Dial) (hands : ℕ) (refusal : Option Refusal) → ((n : ℕ) (dial : Dial) → F n dial → G n dial) → Dials F workers old new hands refusal → Dials G workers old new hands refusal
dials_by F G workers old new hands refusal k h = (h.0, h.1, each F G k 0 h.0 h.2, h.3, h.4)

-- the dial at a place is the one that options ask for, which ask for that place
pub dial_for : {E : Type 0} (options : Options) (env : Variables) (cwd : List ℕ) (place : Result Place E) → IfOk place (λ here. asked_target options env cwd ≡ Ok (Some here.target)) → IfOk place (λ here. here.stop_file ≡ asked_stop_file options cwd)
    → (n : ℕ) (dial : Dial) → IsDialAt place n dial → IsDialFor options env cwd n dial
dial_for {E} options env cwd place target stop n dial at =
    subst (λ (d : Dial). IsDialFor options env cwd n d) (sym at.2) (
      subst (λ (r : Result Place E). IfOk r (λ here. asked_target options env cwd ≡ Ok (Some here.target))) at.1 target,
      subst (λ (r : Result Place E). IfOk r (λ here. here.stop_file ≡ asked_stop_file options cwd)) at.1 stop,
      refl,
    )

-- a dial with the place's Engine and stop file is the one at that place
pub dial_at : {E : Type 0} (place : Result Place E) (here : Place) (stop : Option (List ℕ)) (n : ℕ) → place ≡ Ok here → stop ≡ here.stop_file → IsDialAt place n (dial_of here.target stop n)
dial_at place here stop n is e = (here, is, ap (λ (found : Option (List ℕ)). dial_of here.target found n) e)

-- the dial that options ask for is the one that words ask for, which have these options
pub dial_asked : (words : List (List ℕ)) (env : Variables) (cwd : List ℕ) (options : Options) → options_asked words env ≡ Ok options → (n : ℕ) (dial : Dial) → IsDialFor options env cwd n dial → IsDialAsked words env cwd n dial
dial_asked words env cwd options is n dial fits = (options, is, fits)

-- a run is refused for no dial
pub of_run : (refusal : Option Refusal) → IsOfRun refusal → refusal ≡ failed_dial → ⊥
of_run refusal run e = subst IsOfRun e run

abbrev Unmade : Option Refusal → Type 0
Unmade found = (found ≡ failed_dial) ⊎ (found ≡ Some Refusal.Memory)

wanted : (refusal : Option Refusal) → IsSaid Refusal.Memory refusal → refusal ≡ Some Refusal.Memory
wanted refusal is_said = said Refusal.Memory refusal is_said (λ found. found ≡ Some Refusal.Memory) refl refl

module _ {H : Type 0} (F : ℕ → Dial → Type 0) (workers : ℕ) (old : List Dial) (hands : List H) (refusal : Option Refusal) where
  -- no dial, where no hand was made and none is refused
  pub undialled : hands ≡ [] → (refusal ≡ failed_dial → ⊥) → Dials F workers old old (length hands) refusal
  undialled none unfailed = ([], sym (append-nil old), tt, omega arith, inl (sym (ap (length {A = H}) none), unfailed))

  -- no dial, since memory was wanted before it
  pub unplaced : hands ≡ [] → IsSaid Refusal.Memory refusal → Dials F workers old old (length hands) refusal
  unplaced none is_said = undialled none (λ e. cc (e, wanted refusal is_said))

module _ {H : Type 0} (F : ℕ → Dial → Type 0) (old new : List Dial) (dial : Dial) (is : F 0 dial) (hands : List H) (refusal : Option Refusal) where
  -- one dial, which made the one hand
  pub dialled : new ≡ old ++ dial ∷ [] → length hands ≡ 1 → (refusal ≡ failed_dial → ⊥) → Dials F 1 old new (length hands) refusal
  dialled grown one unfailed = (dial ∷ [], grown, (is, tt), omega arith, inl (sym one, unfailed))

  unmade : new ≡ old ++ dial ∷ [] → hands ≡ [] → Unmade refusal → Dials F 1 old new (length hands) refusal
  unmade grown none why = (dial ∷ [], grown, (is, tt), omega arith, inr (sym (ap (λ (hs : List H). length hs + 1) none), why))

  -- one dial, which failed
  pub unanswered : new ≡ old ++ dial ∷ [] → hands ≡ [] → IsSaid (Refusal.Outside Part.Plug) refusal → Dials F 1 old new (length hands) refusal
  unanswered grown none is_said = unmade grown none (said (Refusal.Outside Part.Plug) refusal is_said Unmade (inr refl) (inl refl))

  -- one dial that wanted memory, or none
  pub unmoved : (new ≡ old) ⊎ (new ≡ old ++ dial ∷ []) → hands ≡ [] → IsSaid Refusal.Memory refusal → Dials F 1 old new (length hands) refusal
  unmoved (inl same) none is_said = subst (λ (dials : List Dial). Dials F 1 old dials (length hands) refusal) (sym same) (unplaced F 1 old hands refusal none is_said)
  unmoved (inr grown) none is_said = unmade grown none (inr (wanted refusal is_said))
