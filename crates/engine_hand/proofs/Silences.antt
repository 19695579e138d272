-- What an exchange with a silent peer leaves.
use Rattle.std.proofs.Common.{◌≡◌, Bool, true, List, [], ◌∷◌, ◌++◌, Some, refl, ap, ◌∙◌, inr}
use Rattle.std.proofs.lemmas.List.{map-append}
use Rattle.engine_types.specs.declared.Outcome.{Outcome}
use Rattle.engine_types.specs.declared.Request.{Request}
use Rattle.engine_types.specs.declared.WireEnd.{WireEnd}
use Rattle.outside_api.specs.Hands.{HasCause}
use Rattle.response_rules.specs.Broken.{IsBroken}
use Rattle.response_rules.specs.Responses.{no_head}
use Rattle.response_rules.proofs.Shown.{skips_nothing}
use Rattle.engine_hand.specs.SilentHands.{silence, silences}

-- no byte before the connection's end is broken by that end, whatever was asked
nothing_ended : (request : Request) → IsBroken request WireEnd.Ended [] true
nothing_ended request = no_head [] [] true [] (skips_nothing []) refl refl

heard_more : (old new : List Bool) → new ≡ old ++ true ∷ [] → silences new ≡ silences old ++ silence true ∷ []
heard_more old new e = ap silences e ∙ map-append silence old (true ∷ [])

pub silent_caused : (request : Request) (old new : List Bool) → new ≡ old ++ true ∷ [] → HasCause request (Some (silences new)) 0 0 (Outcome.Lost WireEnd.Ended)
silent_caused request old new e = inr (silence true, nothing_ended request, (silences old, heard_more old new e))
