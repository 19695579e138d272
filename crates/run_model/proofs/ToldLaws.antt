-- Where an observation ended well, it saw what its exchanges told.
use Rattle.std.proofs.Common.{◌≡◌, ◌⊎◌, ℕ, Bool, true, false, cond, not, ◌&&◌, List, [], ◌∷◌, ◌++◌, map, length, reverse, Option, Some, None, refl, sym, ap, ◌∙◌, subst, inl, inr, arith}
use Rattle.std.proofs.lemmas.Bool.{eqb-true}
use Rattle.std.proofs.lemmas.List.{append_assoc, reverse-append}
use Rattle.std.proofs.lemmas.Slice.Eq.{bytes_eq-Decides}
use Rattle.std.specs.List.{list_all}
use Rattle.std.specs.Option.{option_map}
use Rattle.std.specs.Prelude.{filter, find, if◌then◌else◌, ◌==◌}
use Rattle.std.specs.Str.{bytes_eq}
use Rattle.engine_types.specs.declared.Declared.{Declared}
use Rattle.engine_types.specs.declared.Exchange.{Exchange}
use Rattle.engine_types.specs.declared.ImageRow.{ImageRow}
use Rattle.engine_types.specs.declared.NetRow.{NetRow}
use Rattle.engine_types.specs.declared.Outcome.{Outcome}
use Rattle.engine_types.specs.declared.Policy.{Policy}
use Rattle.engine_types.specs.declared.Purpose.{Purpose}
use Rattle.engine_types.specs.declared.Reply.{Reply}
use Rattle.engine_types.specs.declared.Request.{Request}
use Rattle.engine_types.specs.declared.Seen.{Seen}
use Rattle.engine_types.specs.declared.SeenEnd.{SeenEnd}
use Rattle.engine_types.specs.declared.SeenFault.{SeenFault}
use Rattle.engine_types.specs.declared.Slot.{Slot}
use Rattle.run_model.specs.EngineRules.{Among}
use Rattle.run_model.specs.Observation.{Ends, Onward, Strays, after_containers, after_first_look, after_judging, after_look, after_networks, after_pull, after_volumes, asking, builder_of, by_policy, ending, failing, fault_in, fetching, images_of, inspecting, is_request, is_up, judging, listing_fault, listing_networks, listing_volumes, observed, policy_of, pulling, seeing_images, seen_containers, wanting, with_image}
use Rattle.tree_base.specs.ByteOrder.{first_of_each}
use Rattle.run_model.specs.Told.{IsTold, answered, id_after, id_told, is_look}
use Rattle.run_model.proofs.DistinctLists.{Distinct, among_by_key, among_filter, among_map, distinct_by_key, distinct_filter, from_filter}
use Rattle.run_model.proofs.RequestLemmas.{request_is, same_text}

-- what is known of an image's id after exchanges, oldest first
abbrev known : List ℕ → Option (List ℕ) → List Exchange → Option (List ℕ)
known image before [] = before
known image before (x ∷ rest) = known image (id_after image x.request x.outcome before) rest

known-append : (image : List ℕ) (before : Option (List ℕ)) (xs ys : List Exchange) → known image before (xs ++ ys) ≡ known image (known image before xs) ys
known-append image before [] ys = refl
known-append image before (x ∷ xs) ys = known-append image (id_after image x.request x.outcome before) xs ys

known-told : (image : List ℕ) (xs past : List Exchange) → id_told image (reverse xs ++ past) ≡ known image (id_told image past) xs
known-told image [] past = refl
known-told image (x ∷ xs) past =
    let e : reverse (x ∷ xs) ++ past ≡ reverse xs ++ (x ∷ past) = ap (λ (l : List Exchange). l ++ past) (reverse-append (x ∷ []) xs) ∙ append_assoc (reverse xs) (x ∷ []) past in
    ap (id_told image) e ∙ known-told image xs (x ∷ past)

-- whether exchanges are looks
abbrev are_looks : List Exchange → Bool
are_looks = list_all (λ (x : Exchange). is_look x.request x.outcome)

looks-append : (xs ys : List Exchange) → are_looks xs ≡ true → are_looks ys ≡ true → are_looks (xs ++ ys) ≡ true
looks-append [] ys e f = f
looks-append (x ∷ xs) ys e f = at (is_look x.request x.outcome) (looks-append xs ys) e
  where
    at : (t : Bool) → (are_looks xs ≡ true → are_looks ys ≡ true → are_looks (xs ++ ys) ≡ true) → (t && are_looks xs) ≡ true → (t && are_looks (xs ++ ys)) ≡ true
    at true rest h = rest h f
    at false rest h = absurd (cc h)

looks-cons : (x : Exchange) (xs : List Exchange) → is_look x.request x.outcome ≡ true → are_looks xs ≡ true → are_looks (x ∷ xs) ≡ true
looks-cons x xs e f = rw (e, f) refl

-- an observation that ends well doesn't fail
no_bad : (bad : SeenFault) (rest : List Exchange) (seen : Seen) → ending (SeenEnd.Bad bad) rest ≡ Ends (SeenEnd.Good seen) → ⊥
no_bad bad [] seen e = cc e
no_bad bad (x ∷ rest) seen e = cc e

ends_here : (seen final : Seen) (rest : List Exchange) → ending (SeenEnd.Good seen) rest ≡ Ends (SeenEnd.Good final) → (rest ≡ []) × (seen ≡ final)
ends_here seen final [] e = (refl, cc e)
ends_here seen final (x ∷ rest) e = absurd (cc e)

-- a request that was asked was the first exchange's
record Led (request : Request) (onward : Outcome → List Exchange → Onward) (xs : List Exchange) (seen : Seen) : Type 0 where
  outcome : Outcome
  rest : List Exchange
  are : xs ≡ record { request = request; outcome = outcome } ∷ rest
  on : onward outcome rest ≡ Ends (SeenEnd.Good seen)

led : (request : Request) (onward : Outcome → List Exchange → Onward) (xs : List Exchange) (seen : Seen) → asking request onward xs ≡ Ends (SeenEnd.Good seen)
    → Led request onward xs seen
led request onward [] seen e = absurd (cc e)
led request onward (x ∷ rest) seen e = at (is_request request x.request) refl e
  where
    at : (t : Bool) → is_request request x.request ≡ t → (if t then onward x.outcome rest else Strays) ≡ Ends (SeenEnd.Good seen) → Led request onward (x ∷ rest) seen
    at true h f = record {
      outcome = x.outcome;
      rest = rest;
      are = ap (λ (r : Request). (let y : Exchange = record { request = r; outcome = x.outcome } in y) ∷ rest) (sym (request_is request x.request h));
      on = f;
    }
    at false h f = absurd (cc f)

-- what the exchanges on one image come to
record Looked (image : List ℕ) (onward : List ℕ → List Exchange → Onward) (xs : List Exchange) (seen : Seen) : Type 0 where
  id : List ℕ
  done : List Exchange
  more : List Exchange
  are : xs ≡ done ++ more
  on : onward id more ≡ Ends (SeenEnd.Good seen)
  looks : are_looks done ≡ true
  told : (before : Option (List ℕ)) → known image before done ≡ Some id
  others : (other : List ℕ) → bytes_eq other image ≡ false → (before : Option (List ℕ)) → known other before done ≡ before

module _ (image : List ℕ) (onward : List ℕ → List Exchange → Onward) (seen : Seen) where
  look_told : (id : List ℕ) (before : Option (List ℕ)) → known image before (answered (Request.Image image) (Reply.ImageId id) ∷ []) ≡ Some id
  look_told id before = rw (same_text image) refl

  look_others : (other id : List ℕ) → bytes_eq other image ≡ false → (before : Option (List ℕ)) → known other before (answered (Request.Image image) (Reply.ImageId id) ∷ []) ≡ before
  look_others other id e before = rw e refl

  inspected_at : (outcome : Outcome) (rest xs : List Exchange) → xs ≡ record { request = Request.Image image; outcome = outcome } ∷ rest
      → after_look image onward outcome rest ≡ Ends (SeenEnd.Good seen) → Looked image onward xs seen
  inspected_at (Outcome.Answered (Reply.ImageId id)) rest xs e f = record {
    id = id;
    done = answered (Request.Image image) (Reply.ImageId id) ∷ [];
    more = rest;
    are = e;
    on = f;
    looks = refl;
    told = look_told id;
    others = λ other h before. look_others other id h before;
  }
  inspected_at outcome rest xs e f = absurd (no_bad (fault_in (Request.Image image) outcome) rest seen f)

  inspected : (xs : List Exchange) → inspecting image onward xs ≡ Ends (SeenEnd.Good seen) → Looked image onward xs seen
  inspected xs e = let r = led (Request.Image image) (after_look image onward) xs seen e in inspected_at r.outcome r.rest xs r.are r.on

  -- one more exchange before, which tells nothing of other images
  longer : (x : Exchange) (rest xs : List Exchange) → xs ≡ x ∷ rest → is_look x.request x.outcome ≡ true
      → ((other : List ℕ) → bytes_eq other image ≡ false → (before : Option (List ℕ)) → id_after other x.request x.outcome before ≡ before)
      → Looked image onward rest seen → Looked image onward xs seen
  longer x rest xs e look apart r = record {
    id = r.id;
    done = x ∷ r.done;
    more = r.more;
    are = e ∙ ap (λ (l : List Exchange). x ∷ l) r.are;
    on = r.on;
    looks = looks-cons x r.done look r.looks;
    told = λ before. r.told (id_after image x.request x.outcome before);
    others = λ other h before. ap (λ (o : Option (List ℕ)). known other o r.done) (apart other h before) ∙ r.others other h before;
  }

  pulled_at : (outcome : Outcome) (rest xs : List Exchange) → xs ≡ record { request = Request.Pull image; outcome = outcome } ∷ rest
      → after_pull image onward outcome rest ≡ Ends (SeenEnd.Good seen) → Looked image onward xs seen
  pulled_at (Outcome.Answered Reply.Pulled) rest xs e f = longer (answered (Request.Pull image) Reply.Pulled) rest xs e refl (λ other h before. rw h refl) (inspected rest f)
  pulled_at (Outcome.Answered (Reply.PullFailed message)) rest xs e f = absurd (no_bad (SeenFault.PullFailed image message) rest seen f)
  pulled_at outcome rest xs e f = absurd (no_bad (fault_in (Request.Pull image) outcome) rest seen f)

  pulled : (xs : List Exchange) → pulling image onward xs ≡ Ends (SeenEnd.Good seen) → Looked image onward xs seen
  pulled xs e = let r = led (Request.Pull image) (after_pull image onward) xs seen e in pulled_at r.outcome r.rest xs r.are r.on

  wanted : (builder : Option Slot) (xs : List Exchange) → wanting builder image onward xs ≡ Ends (SeenEnd.Good seen) → Looked image onward xs seen
  wanted (Some slot) xs e = absurd (no_bad (SeenFault.NeedsBuild slot.service) xs seen e)
  wanted None xs e = pulled xs e

  refused_at : (builder : Option Slot) (status : ℕ) (message : List ℕ) (rest xs : List Exchange) → xs ≡ answered (Request.Image image) (Reply.Refused status message) ∷ rest → (t : Bool)
      → (if t then wanting builder image onward rest else failing (Request.Image image) (Outcome.Answered (Reply.Refused status message)) rest) ≡ Ends (SeenEnd.Good seen)
      → Looked image onward xs seen
  refused_at builder status message rest xs e true f = longer (answered (Request.Image image) (Reply.Refused status message)) rest xs e refl (λ other h before. refl) (wanted builder rest f)
  refused_at builder status message rest xs e false f = absurd (no_bad (SeenFault.RequestFailed (Request.Image image) status message) rest seen f)

  fetched_at : (builder : Option Slot) (outcome : Outcome) (rest xs : List Exchange) → xs ≡ record { request = Request.Image image; outcome = outcome } ∷ rest
      → after_first_look builder image onward outcome rest ≡ Ends (SeenEnd.Good seen) → Looked image onward xs seen
  fetched_at builder (Outcome.Answered (Reply.ImageId id)) rest xs e f = inspected_at (Outcome.Answered (Reply.ImageId id)) rest xs e f
  fetched_at builder (Outcome.Answered (Reply.Refused status message)) rest xs e f = refused_at builder status message rest xs e (status == 404) f
  fetched_at builder outcome rest xs e f = absurd (no_bad (fault_in (Request.Image image) outcome) rest seen f)

  fetched : (builder : Option Slot) (xs : List Exchange) → fetching builder image onward xs ≡ Ends (SeenEnd.Good seen) → Looked image onward xs seen
  fetched builder xs e = let r = led (Request.Image image) (after_first_look builder image onward) xs seen e in fetched_at builder r.outcome r.rest xs r.are r.on

  looked : (declared : Declared) (policy : Policy) (xs : List Exchange) → by_policy declared policy image onward xs ≡ Ends (SeenEnd.Good seen) → Looked image onward xs seen
  looked declared Policy.Always xs e = pulled xs e
  looked declared Policy.Missing xs e = fetched (builder_of declared image) xs e
  looked declared Policy.Never xs e = inspected xs e

-- the row of an image
abbrev found : List ℕ → List ImageRow → Option ImageRow
found image rows = find (λ (row : ImageRow). bytes_eq row.name image) rows

abbrev row_of : List ℕ → List ℕ → ImageRow
row_of image id = record { name = image; id = id }

found-later : (image : List ℕ) (xs ys : List ImageRow) (row : ImageRow) → found image xs ≡ Some row → found image (xs ++ ys) ≡ Some row
found-later image [] ys row e = absurd (cc e)
found-later image (x ∷ xs) ys row e = at (bytes_eq x.name image) (found-later image xs ys row) e
  where
    at : (t : Bool) → (found image xs ≡ Some row → found image (xs ++ ys) ≡ Some row) → cond t (Some x) (found image xs) ≡ Some row → cond t (Some x) (found image (xs ++ ys)) ≡ Some row
    at true rest h = h
    at false rest h = rest h

found-next : (image : List ℕ) (xs ys : List ImageRow) → found image xs ≡ None → found image (xs ++ ys) ≡ found image ys
found-next image [] ys e = refl
found-next image (x ∷ xs) ys e = at (bytes_eq x.name image) (found-next image xs ys) e
  where
    at : (t : Bool) → (found image xs ≡ None → found image (xs ++ ys) ≡ found image ys) → cond t (Some x) (found image xs) ≡ None → cond t (Some x) (found image (xs ++ ys)) ≡ found image ys
    at true rest h = absurd (cc h)
    at false rest h = rest h

-- texts that differ
differ : (s t : List ℕ) → (s ≡ t → ⊥) → bytes_eq s t ≡ false
differ s t apart = at (bytes_eq s t) refl
  where
    at : (b : Bool) → bytes_eq s t ≡ b → bytes_eq s t ≡ false
    at true e = absurd (apart ((bytes_eq-Decides s t).0 e))
    at false e = e

-- what the exchanges on all images come to
record Imaged (images : List (List ℕ)) (start : Seen) (rest : List Exchange) (final : Seen) : Type 0 where
  looks : are_looks rest ≡ true
  containers : final.containers ≡ start.containers
  networks : final.networks ≡ start.networks
  volumes : final.volumes ≡ start.volumes
  each : (image : List ℕ) → Among images image → found image start.images ≡ None
      → (id : List ℕ) × ((before : Option (List ℕ)) → known image before rest ≡ Some id) × (found image final.images ≡ Some (row_of image id))
  others : (image : List ℕ) → (Among images image → ⊥) → (before : Option (List ℕ)) → known image before rest ≡ before
  kept : (image : List ℕ) (row : ImageRow) → found image start.images ≡ Some row → found image final.images ≡ Some row

imaged : (declared : Declared) (images : List (List ℕ)) (start : Seen) (rest : List Exchange) (final : Seen) → Distinct images
    → seeing_images declared images start rest ≡ Ends (SeenEnd.Good final) → Imaged images start rest final
imaged declared [] start rest final d e =
    let r = ends_here start final rest e in
    record {
      looks = rw r.0 refl;
      containers = rw (← r.1) refl;
      networks = rw (← r.1) refl;
      volumes = rw (← r.1) refl;
      each = λ image m none. absurd m;
      others = λ image m before. rw r.0 refl;
      kept = λ image row h. rw (← r.1) h;
    }
imaged declared (i ∷ is) start rest final d e =
    let onward : List ℕ → List Exchange → Onward = λ (id : List ℕ). seeing_images declared is (with_image start i id) in
    step (looked i (λ (id : List ℕ). seeing_images declared is (with_image start i id)) final declared (policy_of declared i) rest e)
    (λ id more h. imaged declared is (with_image start i id) more final d.1 h)
  where
    step : Looked i (λ (id : List ℕ). seeing_images declared is (with_image start i id)) rest final
        → ((id : List ℕ) (more : List Exchange) → seeing_images declared is (with_image start i id) more ≡ Ends (SeenEnd.Good final) → Imaged is (with_image start i id) more final)
        → Imaged (i ∷ is) start rest final
    step l next =
        let n = next l.id l.more l.on in
        let split : (image : List ℕ) (before : Option (List ℕ)) → known image before rest ≡ known image (known image before l.done) l.more
        = λ image before. ap (known image before) l.are ∙ known-append image before l.done l.more in
        record {
          looks = rw l.are (looks-append l.done l.more l.looks n.looks);
          containers = n.containers;
          networks = n.networks;
          volumes = n.volumes;
          each = λ image m none. each l n split image m none;
          others = λ image m before. split image before
              ∙ ap (λ (o : Option (List ℕ)). known image o l.more) (l.others image (differ image i (λ same. m (inl same))) before) ∙ n.others image (λ k. m (inr k)) before;
          kept = λ image row h. n.kept image row (found-later image start.images (row_of i l.id ∷ []) row h);
        }
      where
        each : (l : Looked i (λ (id : List ℕ). seeing_images declared is (with_image start i id)) rest final) → Imaged is (with_image start i l.id) l.more final
            → ((image : List ℕ) (before : Option (List ℕ)) → known image before rest ≡ known image (known image before l.done) l.more)
            → (image : List ℕ) → Among (i ∷ is) image → found image start.images ≡ None
            → (id : List ℕ) × ((before : Option (List ℕ)) → known image before rest ≡ Some id) × (found image final.images ≡ Some (row_of image id))
        each l n split image (inl same) none =
            let here : found i start.images ≡ None = subst (λ (t : List ℕ). found t start.images ≡ None) same none in
            let put : found i (start.images ++ row_of i l.id ∷ []) ≡ Some (row_of i l.id) =
            found-next i start.images (row_of i l.id ∷ []) here ∙ (rw (same_text i) refl) in
            let goal : (before : Option (List ℕ)) → known i before rest ≡ Some l.id =
            λ before. split i before ∙ ap (λ (o : Option (List ℕ)). known i o l.more) (l.told before) ∙ n.others i d.0 (Some l.id) in
            subst (λ (t : List ℕ). (id : List ℕ) × ((before : Option (List ℕ)) → known t before rest ≡ Some id) × (found t final.images ≡ Some (row_of t id))) (sym same)
            (l.id, goal, n.kept i (row_of i l.id) put)
        each l n split image (inr m) none =
            let apart : image ≡ i → ⊥ = λ same. d.0 (subst (λ (t : List ℕ). Among is t) same m) in
            let absent : found image (start.images ++ row_of i l.id ∷ []) ≡ None =
            found-next image start.images (row_of i l.id ∷ []) none ∙ (rw (differ i image (λ same. apart (sym same))) refl) in
            let r = n.each image m absent in
            (r.0, (λ before. split image before ∙ r.1 (known image before l.done)), r.2)

-- each image of the slots is looked at, and once
among_first : (xs : List (List ℕ)) (z : List ℕ) → Among xs z → Among (first_of_each (λ (t : List ℕ). t) xs) z
among_first [] z m = absurd m
among_first (x ∷ xs) z (inl e) = inl e
among_first (x ∷ xs) z (inr m) = at (bytes_eq x z) refl (among_first xs z m)
  where
    at : (t : Bool) → bytes_eq x z ≡ t → Among (first_of_each (λ (t : List ℕ). t) xs) z → Among (first_of_each (λ (t : List ℕ). t) (x ∷ xs)) z
    at true h n = inl (sym ((bytes_eq-Decides x z).0 h))
    at false h n = inr (among_filter (λ (y : List ℕ). not (bytes_eq x y)) (first_of_each (λ (t : List ℕ). t) xs) z (rw h refl) n)

distinct_first : (xs : List (List ℕ)) → Distinct (first_of_each (λ (t : List ℕ). t) xs)
distinct_first [] = tt
distinct_first (x ∷ xs) = (apart, distinct_filter (λ (y : List ℕ). not (bytes_eq x y)) (first_of_each (λ (t : List ℕ). t) xs) (distinct_first xs))
  where
    apart : Among (filter (λ (y : List ℕ). not (bytes_eq x y)) (first_of_each (λ (t : List ℕ). t) xs)) x → ⊥
    apart m = let h = (from_filter (λ (y : List ℕ). not (bytes_eq x y)) (first_of_each (λ (t : List ℕ). t) xs) x m).0 in
        let bad : not true ≡ true = rw (same_text x) at h in cc bad

among_images : (declared : Declared) (slot : Slot) → Among declared.slots slot → Among (images_of declared) slot.image
among_images declared slot m = among_by_key (λ (t : List ℕ). t) _ slot.image (among_first (map (λ (s : Slot). s.image) declared.slots) slot.image
    (among_map (λ (s : Slot). s.image) declared.slots slot m))

distinct_images : (declared : Declared) → Distinct (images_of declared)
distinct_images declared = distinct_by_key (λ (t : List ℕ). t) _ (distinct_first (map (λ (s : Slot). s.image) declared.slots))

-- what comes after the listings
record Judged (declared : Declared) (purpose : Purpose) (start : Seen) (rest : List Exchange) (final : Seen) : Type 0 where
  looks : are_looks rest ≡ true
  containers : final.containers ≡ start.containers
  networks : final.networks ≡ start.networks
  volumes : final.volumes ≡ start.volumes
  sound : listing_fault declared purpose start ≡ None
  images : is_up purpose ≡ true → (image : List ℕ) → Among (images_of declared) image
      → (id : List ℕ) × ((before : Option (List ℕ)) → known image before rest ≡ Some id) × (found image final.images ≡ Some (row_of image id))

judged : (declared : Declared) (purpose : Purpose) (start : Seen) (rest : List Exchange) (final : Seen) → start.images ≡ []
    → judging declared purpose start rest ≡ Ends (SeenEnd.Good final) → Judged declared purpose start rest final
judged declared purpose start rest final none e = at purpose (listing_fault declared purpose start) refl e
  where
    at : (p : Purpose) (o : Option SeenFault) → listing_fault declared p start ≡ o → after_judging declared p start o rest ≡ Ends (SeenEnd.Good final) → Judged declared p start rest final
    at p (Some bad) h f = absurd (no_bad bad rest final f)
    at Purpose.Up None h f =
        let r = imaged declared (images_of declared) start rest final (distinct_images declared) f in
        record {
          looks = r.looks;
          containers = r.containers;
          networks = r.networks;
          volumes = r.volumes;
          sound = h;
          images = λ u image m. r.each image m (rw none refl);
        }
    at Purpose.Down None h f =
        let r = ends_here start final rest f in
        record {
          looks = rw r.0 refl;
          containers = rw (← r.1) refl;
          networks = rw (← r.1) refl;
          volumes = rw (← r.1) refl;
          sound = h;
          images = λ u image m. absurd (cc u);
        }

empty_from : {X : Type 0} (xs : List X) → (length xs == 0) ≡ true → xs ≡ []
empty_from [] e = refl
empty_from (x ∷ xs) e = absurd (omega (arith, eqb-true (length (x ∷ xs)) 0 e))

-- what is told of the rest of an observation
record Rest (declared : Declared) (purpose : Purpose) (rest : List Exchange) (final : Seen) : Type 0 where
  looks : are_looks rest ≡ true
  sound : listing_fault declared purpose final ≡ None
  volumes : ((declared.volumes ≡ []) × (final.volumes ≡ [])) ⊎ Among rest (answered Request.ListVolumes (Reply.Volumes final.volumes))
  images : is_up purpose ≡ true → (image : List ℕ) → Among (images_of declared) image
      → (id : List ℕ) × ((before : Option (List ℕ)) → known image before rest ≡ Some id) × (found image final.images ≡ Some (row_of image id))

-- a listing before tells nothing of images
listed_before : (image : List ℕ) (request : Request) (reply : Reply) (rest : List Exchange) (id : List ℕ)
    → ((before : Option (List ℕ)) → id_after image request (Outcome.Answered reply) before ≡ before)
    → ((before : Option (List ℕ)) → known image before rest ≡ Some id) → (before : Option (List ℕ)) → known image before (answered request reply ∷ rest) ≡ Some id
listed_before image request reply rest id none h before = h (id_after image request (Outcome.Answered reply) before)

same_fault : (declared : Declared) (purpose : Purpose) (start final : Seen) → final.networks ≡ start.networks → final.volumes ≡ start.volumes
    → listing_fault declared purpose start ≡ None → listing_fault declared purpose final ≡ None
same_fault declared purpose start final e f h = rw (e, f) h

volumes_told : (declared : Declared) (purpose : Purpose) (start : Seen) (rest : List Exchange) (final : Seen) → start.images ≡ [] → start.volumes ≡ []
    → listing_volumes declared purpose start rest ≡ Ends (SeenEnd.Good final)
    → (final.containers ≡ start.containers) × (final.networks ≡ start.networks) × Rest declared purpose rest final
volumes_told declared purpose start rest final none empty e = at (length declared.volumes == 0) refl e
  where
    asked : (outcome : Outcome) (more : List Exchange) → rest ≡ record { request = Request.ListVolumes; outcome = outcome } ∷ more
        → after_volumes declared purpose start outcome more ≡ Ends (SeenEnd.Good final)
        → (final.containers ≡ start.containers) × (final.networks ≡ start.networks) × Rest declared purpose rest final
    asked (Outcome.Answered (Reply.Volumes names)) more are f =
        let r = judged declared purpose (record start { volumes = names }) more final none f in (
          r.containers,
          r.networks,
          record {
            looks = rw are r.looks;
            sound = same_fault declared purpose (record start { volumes = names }) final r.networks r.volumes r.sound;
            volumes = inr (subst (λ (xs : List Exchange). Among xs (answered Request.ListVolumes (Reply.Volumes final.volumes))) (sym are)
                (inl (ap (λ (vs : List (List ℕ)). answered Request.ListVolumes (Reply.Volumes vs)) r.volumes)));
            images = λ u image m. let i = r.images u image m in (
              i.0,
              subst (λ (xs : List Exchange). (before : Option (List ℕ)) → known image before xs ≡ Some i.0) (sym are)
                  (listed_before image Request.ListVolumes (Reply.Volumes names) more i.0 (λ before. refl) i.1),
              i.2,
            );
          },
        )
    asked outcome more are f = absurd (no_bad (fault_in Request.ListVolumes outcome) more final f)

    at : (t : Bool) → (length declared.volumes == 0) ≡ t
        → (if t then judging declared purpose start rest else asking Request.ListVolumes (after_volumes declared purpose start) rest) ≡ Ends (SeenEnd.Good final)
        → (final.containers ≡ start.containers) × (final.networks ≡ start.networks) × Rest declared purpose rest final
    at true h f =
        let r = judged declared purpose start rest final none f in (
          r.containers,
          r.networks,
          record {
            looks = r.looks;
            sound = same_fault declared purpose start final r.networks r.volumes r.sound;
            volumes = inl (empty_from declared.volumes h, r.volumes ∙ empty);
            images = r.images;
          },
        )
    at false h f = let r = led Request.ListVolumes (after_volumes declared purpose start) rest final f in asked r.outcome r.rest r.are r.on

networks_told : (declared : Declared) (purpose : Purpose) (start : Seen) (rest : List Exchange) (final : Seen) → start.images ≡ [] → start.volumes ≡ [] → start.networks ≡ []
    → listing_networks declared purpose start rest ≡ Ends (SeenEnd.Good final)
    → (final.containers ≡ start.containers) × Rest declared purpose rest final
    × (((declared.networks ≡ []) × (final.networks ≡ [])) ⊎ Among rest (answered Request.ListNetworks (Reply.Networks final.networks)))
networks_told declared purpose start rest final none empty bare e = at (length declared.networks == 0) refl e
  where
    asked : (outcome : Outcome) (more : List Exchange) → rest ≡ record { request = Request.ListNetworks; outcome = outcome } ∷ more
        → after_networks declared purpose start outcome more ≡ Ends (SeenEnd.Good final)
        → (final.containers ≡ start.containers) × Rest declared purpose rest final
        × (((declared.networks ≡ []) × (final.networks ≡ [])) ⊎ Among rest (answered Request.ListNetworks (Reply.Networks final.networks)))
    asked (Outcome.Answered (Reply.Networks rows)) more are f =
        let r = volumes_told declared purpose (record start { networks = rows }) more final none empty f in (
          r.0,
          record {
            looks = rw are r.2.looks;
            sound = r.2.sound;
            volumes = later r.2.volumes;
            images = λ u image m. let i = r.2.images u image m in (
              i.0,
              subst (λ (xs : List Exchange). (before : Option (List ℕ)) → known image before xs ≡ Some i.0) (sym are)
                  (listed_before image Request.ListNetworks (Reply.Networks rows) more i.0 (λ before. refl) i.1),
              i.2,
            );
          },
          inr (subst (λ (xs : List Exchange). Among xs (answered Request.ListNetworks (Reply.Networks final.networks))) (sym are)
              (inl (ap (λ (ns : List NetRow). answered Request.ListNetworks (Reply.Networks ns)) r.1))),
        )
      where
        later : ((declared.volumes ≡ []) × (final.volumes ≡ [])) ⊎ Among more (answered Request.ListVolumes (Reply.Volumes final.volumes))
            → ((declared.volumes ≡ []) × (final.volumes ≡ [])) ⊎ Among rest (answered Request.ListVolumes (Reply.Volumes final.volumes))
        later (inl x) = inl x
        later (inr m) = inr (subst (λ (xs : List Exchange). Among xs (answered Request.ListVolumes (Reply.Volumes final.volumes))) (sym are) (inr m))
    asked outcome more are f = absurd (no_bad (fault_in Request.ListNetworks outcome) more final f)

    at : (t : Bool) → (length declared.networks == 0) ≡ t
        → (if t then listing_volumes declared purpose start rest else asking Request.ListNetworks (after_networks declared purpose start) rest) ≡ Ends (SeenEnd.Good final)
        → (final.containers ≡ start.containers) × Rest declared purpose rest final
        × (((declared.networks ≡ []) × (final.networks ≡ [])) ⊎ Among rest (answered Request.ListNetworks (Reply.Networks final.networks)))
    at true h f =
        let r = volumes_told declared purpose start rest final none empty f in
        (r.0, r.2, inl (empty_from declared.networks h, r.1 ∙ bare))
    at false h f = let r = led Request.ListNetworks (after_networks declared purpose start) rest final f in asked r.outcome r.rest r.are r.on

pub seen_is_told : (declared : Declared) (purpose : Purpose) (exchanges : List Exchange) (seen : Seen)
    → observed declared purpose exchanges ≡ Ends (SeenEnd.Good seen) → IsTold declared purpose exchanges seen
seen_is_told declared purpose exchanges seen e =
    let r = led (Request.ListContainers declared.project) (after_containers declared purpose) exchanges seen e in at r.outcome r.rest r.are r.on
  where
    at : (outcome : Outcome) (rest : List Exchange) → exchanges ≡ record { request = Request.ListContainers declared.project; outcome = outcome } ∷ rest
        → after_containers declared purpose outcome rest ≡ Ends (SeenEnd.Good seen) → IsTold declared purpose exchanges seen
    at (Outcome.Answered (Reply.Containers rows)) rest are f =
        let r = networks_told declared purpose (seen_containers rows) rest seen refl refl refl f in
        record {
          looks = rw are r.1.looks;
          rows = rows;
          listed = subst (λ (xs : List Exchange). Among xs (answered (Request.ListContainers declared.project) (Reply.Containers rows))) (sym are) (inl refl);
          containers = r.0;
          networks = networks r.2;
          volumes = volumes r.1.volumes;
          sound = r.1.sound;
          images = λ slot u m. let i = r.1.images u slot.image (among_images declared slot m) in (
            i.0,
            subst (λ (xs : List Exchange). id_told slot.image (reverse xs) ≡ Some i.0) (sym are) (told slot.image i.0 i.1),
            ap (option_map (λ (row : ImageRow). row.id)) i.2,
          );
        }
      where
        networks : ((declared.networks ≡ []) × (seen.networks ≡ [])) ⊎ Among rest (answered Request.ListNetworks (Reply.Networks seen.networks))
            → ((declared.networks ≡ []) × (seen.networks ≡ [])) ⊎ Among exchanges (answered Request.ListNetworks (Reply.Networks seen.networks))
        networks (inl x) = inl x
        networks (inr m) = inr (subst (λ (xs : List Exchange). Among xs (answered Request.ListNetworks (Reply.Networks seen.networks))) (sym are) (inr m))

        volumes : ((declared.volumes ≡ []) × (seen.volumes ≡ [])) ⊎ Among rest (answered Request.ListVolumes (Reply.Volumes seen.volumes))
            → ((declared.volumes ≡ []) × (seen.volumes ≡ [])) ⊎ Among exchanges (answered Request.ListVolumes (Reply.Volumes seen.volumes))
        volumes (inl x) = inl x
        volumes (inr m) = inr (subst (λ (xs : List Exchange). Among xs (answered Request.ListVolumes (Reply.Volumes seen.volumes))) (sym are) (inr m))

        told : (image id : List ℕ) → ((before : Option (List ℕ)) → known image before rest ≡ Some id)
            → id_told image (reverse (answered (Request.ListContainers declared.project) (Reply.Containers rows) ∷ rest)) ≡ Some id
        told image id h =
            ap (id_told image) (reverse-append (answered (Request.ListContainers declared.project) (Reply.Containers rows) ∷ []) rest)
            ∙ known-told image rest (answered (Request.ListContainers declared.project) (Reply.Containers rows) ∷ []) ∙ h None
    at outcome rest are f = absurd (no_bad (fault_in (Request.ListContainers declared.project) outcome) rest seen f)
