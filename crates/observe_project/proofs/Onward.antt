-- Before an observation has ended, a request comes next.
use Rattle.std.proofs.Common.{◌≡◌, ℕ, Bool, true, false, List, [], ◌∷◌, length, Option, Some, None, refl}
use Rattle.std.specs.Prelude.{if◌then◌else◌, ◌==◌}
use Rattle.engine_types.specs.declared.Declared.{Declared}
use Rattle.engine_types.specs.declared.Exchange.{Exchange}
use Rattle.engine_types.specs.declared.Policy.{Policy}
use Rattle.engine_types.specs.declared.Purpose.{Purpose}
use Rattle.engine_types.specs.declared.Request.{Request}
use Rattle.engine_types.specs.declared.Seen.{Seen}
use Rattle.engine_types.specs.declared.SeenFault.{SeenFault}
use Rattle.engine_types.specs.declared.Slot.{Slot}
use Rattle.run_model.specs.Observation.{Onward, after_judging, after_networks, after_volumes, asking, by_policy, images_of, is_asked, judging, listing_fault, listing_networks, listing_volumes, policy_of, seeing_images, wanting, with_image}
use Rattle.observe_project.specs.Reading.{AreAsked, found_or_wanted}

either : (t : Bool) (one other : Onward) → is_asked one ≡ true → is_asked other ≡ true → is_asked (if t then one else other) ≡ true
either true one other a b = a
either false one other a b = b

by_policy_asked : (declared : Declared) (policy : Policy) (image : List ℕ) (onward : List ℕ → List Exchange → Onward) → is_asked (by_policy declared policy image onward []) ≡ true
by_policy_asked declared Policy.Always image onward = refl
by_policy_asked declared Policy.Missing image onward = refl
by_policy_asked declared Policy.Never image onward = refl

pub wanting_asked : (builder : Option Slot) (image : List ℕ) (onward : List ℕ → List Exchange → Onward) → is_asked (wanting builder image onward []) ≡ true
wanting_asked (Some slot) image onward = refl
wanting_asked None image onward = refl

pub found_asked : (builder : Option Slot) (image : List ℕ) (onward : List ℕ → List Exchange → Onward) → AreAsked onward → (found : Option (List ℕ))
    → is_asked (found_or_wanted builder image onward found []) ≡ true
found_asked builder image onward each (Some id) = each id
found_asked builder image onward each None = wanting_asked builder image onward

pub seeing_asked : (declared : Declared) (images : List (List ℕ)) (seen : Seen) → is_asked (seeing_images declared images seen []) ≡ true
seeing_asked declared [] seen = refl
seeing_asked declared (image ∷ images) seen =
    by_policy_asked declared (policy_of declared image) image (λ id. seeing_images declared images (with_image seen image id))

after_judging_asked : (declared : Declared) (purpose : Purpose) (seen : Seen) (fault : Option SeenFault) → is_asked (after_judging declared purpose seen fault []) ≡ true
after_judging_asked declared purpose seen (Some bad) = refl
after_judging_asked declared Purpose.Up seen None = seeing_asked declared (images_of declared) seen
after_judging_asked declared Purpose.Down seen None = refl

pub judging_asked : (declared : Declared) (purpose : Purpose) (seen : Seen) → is_asked (judging declared purpose seen []) ≡ true
judging_asked declared purpose seen = after_judging_asked declared purpose seen (listing_fault declared purpose seen)

pub listing_volumes_asked : (declared : Declared) (purpose : Purpose) (seen : Seen) → is_asked (listing_volumes declared purpose seen []) ≡ true
listing_volumes_asked declared purpose seen =
    either (length declared.volumes == 0) (judging declared purpose seen []) (asking Request.ListVolumes (after_volumes declared purpose seen) [])
    (judging_asked declared purpose seen) refl

pub listing_networks_asked : (declared : Declared) (purpose : Purpose) (seen : Seen) → is_asked (listing_networks declared purpose seen []) ≡ true
listing_networks_asked declared purpose seen =
    either (length declared.networks == 0) (listing_volumes declared purpose seen []) (asking Request.ListNetworks (after_networks declared purpose seen) [])
    (listing_volumes_asked declared purpose seen) refl
