-- An observation asks for each next exchange.
use Rattle.std.proofs.Common.{◌≡◌, ℕ, Bool, true, false, List, [], ◌∷◌, ◌++◌, length, Option, Some, None, refl}
use Rattle.std.specs.Prelude.{if◌then◌else◌, ◌==◌}
use Rattle.engine_types.specs.declared.Declared.{Declared}
use Rattle.engine_types.specs.declared.Exchange.{Exchange}
use Rattle.engine_types.specs.declared.Outcome.{Outcome}
use Rattle.engine_types.specs.declared.Policy.{Policy}
use Rattle.engine_types.specs.declared.Purpose.{Purpose}
use Rattle.engine_types.specs.declared.Reply.{Reply}
use Rattle.engine_types.specs.declared.Request.{Request}
use Rattle.engine_types.specs.declared.Seen.{Seen}
use Rattle.engine_types.specs.declared.SeenEnd.{SeenEnd}
use Rattle.engine_types.specs.declared.SeenFault.{SeenFault}
use Rattle.engine_types.specs.declared.Slot.{Slot}
use Rattle.run_model.specs.Observation.{Asks, Onward, Strays, after_containers, after_first_look, after_judging, after_look, after_networks, after_pull, after_volumes, asking, builder_of, by_policy, ending, failing, fault_in, fetching, images_of, inspecting, is_asked, is_request, judging, listing_fault, listing_networks, listing_volumes, observed, policy_of, pulling, seeing_images, seen_containers, wanting, with_image}

-- what comes after these exchanges is the request of the next one
abbrev AsksNext : (List Exchange → Onward) → List Exchange → Exchange → Type 0
AsksNext onward xs x = (request : Request) × (onward xs ≡ Asks request) × (is_request request x.request ≡ true)

-- exchanges that don't stray were each asked for
record GoesOn (onward : List Exchange → Onward) : Type 0 where
  on : (xs : List Exchange) (x : Exchange) (ys : List Exchange) → is_asked (onward (xs ++ x ∷ ys)) ≡ true → AsksNext onward xs x

ending_on : (end : SeenEnd) → GoesOn (ending end)
ending_on end = record { on = at }
  where
    at : (xs : List Exchange) (x : Exchange) (ys : List Exchange) → is_asked (ending end (xs ++ x ∷ ys)) ≡ true → AsksNext (ending end) xs x
    at [] x ys h = absurd (cc h)
    at (y ∷ xs) x ys h = absurd (cc h)

asking_on : (request : Request) (onward : Outcome → List Exchange → Onward) → ((outcome : Outcome) → GoesOn (onward outcome)) → GoesOn (asking request onward)
asking_on request onward each = record { on = at }
  where
    first : (t : Bool) (o : Onward) → is_asked (if t then o else Strays) ≡ true → t ≡ true
    first true o h = refl
    first false o h = absurd (cc h)

    later : (t : Bool) (o p : Onward) (q : Request) → t ≡ true → o ≡ Asks q → (if t then o else p) ≡ Asks q
    later true o p q e f = f
    later false o p q e f = absurd (cc e)

    inner : (t : Bool) (o : Onward) → t ≡ true → is_asked (if t then o else Strays) ≡ true → is_asked o ≡ true
    inner true o e h = h
    inner false o e h = absurd (cc e)

    at : (xs : List Exchange) (x : Exchange) (ys : List Exchange) → is_asked (asking request onward (xs ++ x ∷ ys)) ≡ true → AsksNext (asking request onward) xs x
    at [] x ys h = (request, refl, first (is_request request x.request) (onward x.outcome ys) h)
    at (y ∷ xs) x ys h =
        let e = first (is_request request y.request) (onward y.outcome (xs ++ x ∷ ys)) h in
        let r = (each y.outcome).on xs x ys (inner (is_request request y.request) (onward y.outcome (xs ++ x ∷ ys)) e h) in
        (r.0, later (is_request request y.request) (onward y.outcome xs) Strays r.0 e r.1, r.2)

module _ (image : List ℕ) (onward : List ℕ → List Exchange → Onward) (each : (id : List ℕ) → GoesOn (onward id)) where
  after_look_on : (outcome : Outcome) → GoesOn (after_look image onward outcome)
  after_look_on (Outcome.Answered (Reply.ImageId id)) = each id
  after_look_on outcome = ending_on (SeenEnd.Bad (fault_in (Request.Image image) outcome))

  inspecting_on : GoesOn (inspecting image onward)
  inspecting_on = asking_on (Request.Image image) (after_look image onward) after_look_on

  after_pull_on : (outcome : Outcome) → GoesOn (after_pull image onward outcome)
  after_pull_on (Outcome.Answered Reply.Pulled) = inspecting_on
  after_pull_on (Outcome.Answered (Reply.PullFailed message)) = ending_on (SeenEnd.Bad (SeenFault.PullFailed image message))
  after_pull_on outcome = ending_on (SeenEnd.Bad (fault_in (Request.Pull image) outcome))

  pulling_on : GoesOn (pulling image onward)
  pulling_on = asking_on (Request.Pull image) (after_pull image onward) after_pull_on

  wanting_on : (builder : Option Slot) → GoesOn (wanting builder image onward)
  wanting_on (Some slot) = ending_on (SeenEnd.Bad (SeenFault.NeedsBuild slot.service))
  wanting_on None = pulling_on

  either : (t : Bool) (one other : List Exchange → Onward) → GoesOn one → GoesOn other → GoesOn (λ rest. if t then one rest else other rest)
  either true one other a b = a
  either false one other a b = b

  after_first_look_on : (builder : Option Slot) (outcome : Outcome) → GoesOn (after_first_look builder image onward outcome)
  after_first_look_on builder (Outcome.Answered (Reply.ImageId id)) = each id
  after_first_look_on builder (Outcome.Answered (Reply.Refused status message)) =
      either (status == 404) (wanting builder image onward) (failing (Request.Image image) (Outcome.Answered (Reply.Refused status message)))
      (wanting_on builder) (ending_on (SeenEnd.Bad (fault_in (Request.Image image) (Outcome.Answered (Reply.Refused status message)))))
  after_first_look_on builder outcome = ending_on (SeenEnd.Bad (fault_in (Request.Image image) outcome))

  fetching_on : (builder : Option Slot) → GoesOn (fetching builder image onward)
  fetching_on builder = asking_on (Request.Image image) (after_first_look builder image onward) (after_first_look_on builder)

  by_policy_on : (declared : Declared) (policy : Policy) → GoesOn (by_policy declared policy image onward)
  by_policy_on declared Policy.Always = pulling_on
  by_policy_on declared Policy.Missing = fetching_on (builder_of declared image)
  by_policy_on declared Policy.Never = inspecting_on

module _ (declared : Declared) where
  seeing_images_on : (images : List (List ℕ)) (seen : Seen) → GoesOn (seeing_images declared images seen)
  seeing_images_on [] seen = ending_on (SeenEnd.Good seen)
  seeing_images_on (image ∷ images) seen =
      by_policy_on image (λ id. seeing_images declared images (with_image seen image id)) (λ id. seeing_images_on images (with_image seen image id)) declared (policy_of declared image)

  module _ (purpose : Purpose) where
    after_judging_on : (seen : Seen) (fault : Option SeenFault) (p : Purpose) → GoesOn (after_judging declared p seen fault)
    after_judging_on seen (Some bad) p = ending_on (SeenEnd.Bad bad)
    after_judging_on seen None Purpose.Up = seeing_images_on (images_of declared) seen
    after_judging_on seen None Purpose.Down = ending_on (SeenEnd.Good seen)

    judging_on : (seen : Seen) → GoesOn (judging declared purpose seen)
    judging_on seen = after_judging_on seen (listing_fault declared purpose seen) purpose

    after_volumes_on : (seen : Seen) (outcome : Outcome) → GoesOn (after_volumes declared purpose seen outcome)
    after_volumes_on seen (Outcome.Answered (Reply.Volumes names)) = judging_on (record seen { volumes = names })
    after_volumes_on seen outcome = ending_on (SeenEnd.Bad (fault_in Request.ListVolumes outcome))

    one_of : (t : Bool) (one other : List Exchange → Onward) → GoesOn one → GoesOn other → GoesOn (λ rest. if t then one rest else other rest)
    one_of true one other a b = a
    one_of false one other a b = b

    listing_volumes_on : (seen : Seen) → GoesOn (listing_volumes declared purpose seen)
    listing_volumes_on seen = one_of (length declared.volumes == 0) (judging declared purpose seen) (asking Request.ListVolumes (after_volumes declared purpose seen))
        (judging_on seen) (asking_on Request.ListVolumes (after_volumes declared purpose seen) (after_volumes_on seen))

    after_networks_on : (seen : Seen) (outcome : Outcome) → GoesOn (after_networks declared purpose seen outcome)
    after_networks_on seen (Outcome.Answered (Reply.Networks rows)) = listing_volumes_on (record seen { networks = rows })
    after_networks_on seen outcome = ending_on (SeenEnd.Bad (fault_in Request.ListNetworks outcome))

    listing_networks_on : (seen : Seen) → GoesOn (listing_networks declared purpose seen)
    listing_networks_on seen = one_of (length declared.networks == 0) (listing_volumes declared purpose seen) (asking Request.ListNetworks (after_networks declared purpose seen))
        (listing_volumes_on seen) (asking_on Request.ListNetworks (after_networks declared purpose seen) (after_networks_on seen))

    after_containers_on : (outcome : Outcome) → GoesOn (after_containers declared purpose outcome)
    after_containers_on (Outcome.Answered (Reply.Containers rows)) = listing_networks_on (seen_containers rows)
    after_containers_on outcome = ending_on (SeenEnd.Bad (fault_in (Request.ListContainers declared.project) outcome))

    observed_on : GoesOn (observed declared purpose)
    observed_on = asking_on (Request.ListContainers declared.project) (after_containers declared purpose) after_containers_on

pub each_is_asked : (declared : Declared) (purpose : Purpose) (xs : List Exchange) (x : Exchange) (ys : List Exchange)
    → is_asked (observed declared purpose (xs ++ x ∷ ys)) ≡ true
    → (request : Request) × (observed declared purpose xs ≡ Asks request) × (is_request request x.request ≡ true)
each_is_asked declared purpose xs x ys h = (observed_on declared purpose).on xs x ys h
