-- Each action of a plan has a request, once what it needs ended well.
use Rattle.std.proofs.Common.{◌≡◌, ℕ, ◌<◌, Bool, true, false, not, ◌&&◌, List, [], ◌∷◌, length, Option, Some, None, slice_get, refl, sym, ap, ◌∙◌, inl}
use Rattle.std.proofs.lemmas.Bool.{eq-eqb}
use Rattle.std.proofs.lemmas.Slice.Eq.{bytes_eq-Decides}
use Rattle.std.specs.Prelude.{filter, find, option_map}
use Rattle.std.specs.Str.{bytes_eq}
use Rattle.engine_types.specs.declared.Action.{Action}
use Rattle.engine_types.specs.declared.ActionKind.{ActionKind}
use Rattle.engine_types.specs.declared.ActionKind.TheVariants.{ConnectSlot, CreateSlot, MakeNetwork, MakeVolume, RemoveContainer, RemoveNetwork, RemoveVolume, StopKept, StartSlot, StopContainer}
use Rattle.engine_types.specs.declared.Aim.{Aim}
use Rattle.engine_types.specs.declared.Attach.{Attach}
use Rattle.engine_types.specs.declared.Entry.{Entry}
use Rattle.engine_types.specs.declared.Listed.{Listed}
use Rattle.engine_types.specs.declared.NetRow.{NetRow}
use Rattle.engine_types.specs.declared.NetworkSpec.{NetworkSpec}
use Rattle.engine_types.specs.declared.Reply.{Reply}
use Rattle.engine_types.specs.declared.Request.{Request}
use Rattle.engine_types.specs.declared.Slot.{Slot}
use Rattle.engine_types.specs.declared.VolumeSpec.{VolumeSpec}
use Rattle.run_model.specs.EngineRules.{Among, is_live}
use Rattle.run_model.specs.Journals.{Setup, Standing, Well, is_well, standing}
use Rattle.run_model.specs.Observation.{is_up, listing_fault, network_fault}
use Rattle.run_model.specs.Plans.{Basis, CarriesOut, IsWhole, is_create_of, is_make_of, is_needed_by, is_network_seen, is_removed, is_restarted, is_unattached, is_unstarted, is_wanted, keeps_live, kept, kept_of, kind_of, make_of, slot_at}
use Rattle.run_model.specs.Requests.{connect_request, made_id, network_id, request_of, seen_network_id, slot_id, stop_seconds}
use Rattle.run_model.specs.Numbers.{places}
use Rattle.run_model.proofs.DistinctLists.{among_places, from_filter, from_place}
use Rattle.run_model.proofs.KeptLaws.{any_from_list}
use Rattle.run_model.proofs.PlanLaws.{both, some_from}
use Rattle.run_requests.proofs.Replies.{Tells, create_tells, finds_create, finds_make, make_tells, well_is_good}
use Rattle.run_requests.proofs.Searches.{find_passes, find_some, first_none, none_first, some_below}

-- what a plan is made from
abbrev pub basis_for : Aim → Setup → Basis
basis_for aim setup = record { declared = setup.declared; seen = setup.seen; aim = aim }

module _ (aim : Aim) (setup : Setup) (is_plan : CarriesOut (basis_for aim setup) setup.actions) (whole : IsWhole setup.declared) where
  abbrev basis : Basis
  basis = basis_for aim setup

  among_actions : (a : ℕ) (kind : ActionKind) → kind_of setup.actions a ≡ Some kind → Among (places setup.actions) a
  among_actions a kind e = at (slice_get setup.actions a) refl e
    where
      at : (o : Option Action) → slice_get setup.actions a ≡ o → option_map (λ action. action.kind) o ≡ Some kind → Among (places setup.actions) a
      at None h f = absurd (cc f)
      at (Some action) h f = among_places setup.actions a action h

  -- a wanted action that a test is for is found
  pub found : (p : Option ActionKind → Bool) (kind : ActionKind) → p (Some kind) ≡ true → is_wanted basis kind ≡ true
      → (a : ℕ) × (find (λ (b : ℕ). p (kind_of setup.actions b)) (places setup.actions) ≡ Some a)
  found p kind t w = let r = is_plan.all kind w in
      find_some (λ (b : ℕ). p (kind_of setup.actions b)) (places setup.actions) r.0 (among_actions r.0 kind r.1) (ap p r.1 ∙ t)

  module _ (past : List Entry) (sound : listing_fault setup.declared aim.purpose setup.seen ≡ None) where
    -- the actions of a kind ended well
    abbrev pub DidWell : ActionKind → Type 0
    DidWell kind = (b : ℕ) → kind_of setup.actions b ≡ Some kind → is_well (standing setup past b) ≡ true

    made : (b : ℕ) (kind : ActionKind) → Tells kind → kind_of setup.actions b ≡ Some kind → is_well (standing setup past b) ≡ true
        → (id : List ℕ) × (made_id (standing setup past b) ≡ Some id)
    made b kind tells k e = at (standing setup past b) refl e
      where
        at : (s : Standing) → standing setup past b ≡ s → is_well s ≡ true → (id : List ℕ) × (made_id (standing setup past b) ≡ Some id)
        at (Well reply) h f = let t = tells reply (well_is_good setup past b reply kind k h) in (t.0, ap made_id (h ∙ ap (λ (r : Reply). Well r) t.1))
        at _ h f = absurd (cc f)

    pub slot_known : (s : ℕ) (slot : Slot) → slot_at setup.declared s ≡ Some slot → is_up aim.purpose ≡ true → DidWell (CreateSlot s) → (id : List ℕ) × (slot_id setup past s ≡ Some id)
    slot_known s slot there up well = at (kept setup.declared setup.seen s) refl
      where
        wanted : kept setup.declared setup.seen s ≡ None → is_wanted basis (CreateSlot s) ≡ true
        wanted e = let none : kept_of setup.declared setup.seen slot ≡ None = rw there at e in rw (up, there, none) refl

        at : (o : Option Listed) → kept setup.declared setup.seen s ≡ o → (id : List ℕ) × (slot_id setup past s ≡ Some id)
        at (Some row) e = (row.id, rw e refl)
        at None e =
            let f = found (is_create_of s) (CreateSlot s) (eq-eqb s s refl) (wanted e) in
            let p = find_passes (λ (b : ℕ). is_create_of s (kind_of setup.actions b)) (places setup.actions) f.0 f.1 in
            let k = finds_create s (kind_of setup.actions f.0) p.0 in
            let id = made f.0 (CreateSlot s) (create_tells s) k (well f.0 k) in
            (id.0, rw (e, f.1) id.1)

    -- a network that was seen has an id
    seen_known : (network : NetworkSpec) (row : NetRow) → Among setup.seen.networks row → bytes_eq row.name network.name ≡ true → (id : List ℕ) × (seen_network_id setup network.name ≡ Some id)
    seen_known network row m e =
        let f = find_some (λ (r : NetRow). bytes_eq r.name network.name) setup.seen.networks row m e in (f.0.id, ap (option_map (λ (r : NetRow). r.id)) f.1)

    any_known : (network : NetworkSpec) → is_network_seen setup.seen network.name ≡ true → (id : List ℕ) × (seen_network_id setup network.name ≡ Some id)
    any_known network e = let r = any_from_list (λ (row : NetRow). bytes_eq row.name network.name) setup.seen.networks e in seen_known network r.0 r.1 r.2

    -- a network that isn't made was seen
    network_seen : (n : ℕ) (network : NetworkSpec) → slice_get setup.declared.networks n ≡ Some network → is_up aim.purpose ≡ true → make_of setup.actions n ≡ None
        → (id : List ℕ) × (seen_network_id setup network.name ≡ Some id)
    network_seen n network there up none = at network.external refl (is_network_seen setup.seen network.name) refl
      where
        unmade : is_wanted basis (MakeNetwork n) ≡ true → ⊥
        unmade w = let f = found (is_make_of n) (MakeNetwork n) (eq-eqb n n refl) w in let bad : Some f.0 ≡ None = sym f.1 ∙ none in cc bad

        rows : List NetRow
        rows = filter (λ (row : NetRow). bytes_eq network.name row.name) setup.seen.networks

        -- an external network that isn't there is a fault
        listed : network.external ≡ true → (xs : List NetRow) → rows ≡ xs → (id : List ℕ) × (seen_network_id setup network.name ≡ Some id)
        listed e [] h =
            let fine : network_fault setup.declared aim.purpose setup.seen.networks network ≡ None =
            none_first (network_fault setup.declared aim.purpose setup.seen.networks) setup.declared.networks network (first_none _ _ sound) (from_place setup.declared.networks n network there) in
            let bad : Some _ ≡ None = rw (h, e, up) at fine in absurd (cc bad)
        listed e (row ∷ xs) h =
            let k : Among rows row = rw h (inl refl) in
            let f = from_filter (λ (r : NetRow). bytes_eq network.name r.name) setup.seen.networks row k in
            seen_known network row f.1 ((bytes_eq-Decides row.name network.name).1 (sym ((bytes_eq-Decides network.name row.name).0 f.0)))

        at : (external : Bool) → network.external ≡ external → (seen_now : Bool) → is_network_seen setup.seen network.name ≡ seen_now
            → (id : List ℕ) × (seen_network_id setup network.name ≡ Some id)
        at external h true s = any_known network s
        at true h false s = listed h rows refl
        at false h false s = absurd (unmade (rw (up, there, h, s) refl))

    network_known : (n : ℕ) → n < length setup.declared.networks → is_up aim.purpose ≡ true → DidWell (MakeNetwork n) → (id : List ℕ) × (network_id setup past n ≡ Some id)
    network_known n within up well = at (make_of setup.actions n) refl
      where
        at : (o : Option ℕ) → make_of setup.actions n ≡ o → (id : List ℕ) × (network_id setup past n ≡ Some id)
        at (Some d) f =
            let p = find_passes (λ (b : ℕ). is_make_of n (kind_of setup.actions b)) (places setup.actions) d f in
            let k = finds_make n (kind_of setup.actions d) p.0 in
            let id = made d (MakeNetwork n) (make_tells n) k (well d k) in (id.0, rw f id.1)
        at None f =
            let spec = some_below setup.declared.networks n within in
            let id = network_seen n spec.0 spec.1 up f in (id.0, rw (f, spec.1) id.1)

    -- no network is made where none is wanted
    pub none_made : (n : ℕ) → not (is_up aim.purpose) ≡ true → make_of setup.actions n ≡ None
    none_made n down = at (make_of setup.actions n) refl
      where
        against : (t : Bool) → not t ≡ true → t ≡ true → ⊥
        against true e f = cc e
        against false e f = cc f

        at : (o : Option ℕ) → make_of setup.actions n ≡ o → make_of setup.actions n ≡ None
        at None f = f
        at (Some d) f =
            let p = find_passes (λ (b : ℕ). is_make_of n (kind_of setup.actions b)) (places setup.actions) d f in
            let w = is_plan.wanted d (MakeNetwork n) (finds_make n (kind_of setup.actions d) p.0) in
            absurd (against (is_up aim.purpose) down (both (is_up aim.purpose) _ w).0)

    stop_kept : (s : ℕ) (slot : Slot) (row : Listed) → slot_at setup.declared s ≡ Some slot → kept_of setup.declared setup.seen slot ≡ Some row
        → request_of setup past (StopKept s) ≡ Some (Request.Stop row.id slot.stop_seconds)
    stop_kept s slot row there e = rw (there, e) refl

    -- each wanted action has a request, once what it needs ended well
    pub request_known : (kind : ActionKind) → is_wanted basis kind ≡ true → ((other : ActionKind) → is_needed_by basis kind other ≡ true → DidWell other)
        → (request : Request) × (request_of setup past kind ≡ Some request)
    request_known (MakeVolume v) w needs =
        let r = some_from _ (slice_get setup.declared.volumes v) (both (is_up aim.purpose) _ w).1 in (Request.MakeVolume r.0, ap (option_map (λ (spec : VolumeSpec). Request.MakeVolume spec)) r.1)
    request_known (MakeNetwork n) w needs =
        let r = some_from _ (slice_get setup.declared.networks n) (both (is_up aim.purpose) _ w).1 in (Request.MakeNetwork r.0, ap (option_map (λ (spec : NetworkSpec). Request.MakeNetwork spec)) r.1)
    request_known (StopContainer c) w needs =
        let r = some_from (is_removed basis) (slice_get setup.seen.containers c) w in (Request.Stop r.0.id (stop_seconds setup r.0), ap (option_map (λ (row : Listed). Request.Stop row.id (stop_seconds setup row))) r.1)
    request_known (RemoveContainer c) w needs =
        let r = some_from (is_removed basis) (slice_get setup.seen.containers c) w in (Request.Remove r.0.id, ap (option_map (λ (row : Listed). Request.Remove row.id)) r.1)
    request_known (CreateSlot s) w needs =
        let r = some_from _ (slot_at setup.declared s) (both (is_up aim.purpose) _ w).1 in (Request.Create r.0.name r.0.spec, ap (option_map (λ (slot : Slot). Request.Create slot.name slot.spec)) r.1)
    request_known (ConnectSlot s k) w needs =
        let r = some_from (λ (slot : Slot). is_unattached basis slot k) (slot_at setup.declared s) (both (is_up aim.purpose) _ w).1 in
        by_attach r.0 r.1 (slice_get r.0.attach k) refl r.2
      where
        up : is_up aim.purpose ≡ true
        up = (both (is_up aim.purpose) _ w).0

        joined : (attach : Attach) (x y : List ℕ) → network_id setup past attach.network ≡ Some x → slot_id setup past s ≡ Some y
            → connect_request setup past s attach ≡ Some (Request.Connect x y attach.aliases)
        joined attach x y p q = rw (p, q) refl

        by_attach : (slot : Slot) → slot_at setup.declared s ≡ Some slot → (o : Option Attach) → slice_get slot.attach k ≡ o → is_unattached basis slot k ≡ true
            → (request : Request) × (request_of setup past (ConnectSlot s k) ≡ Some request)
        by_attach slot there None f u = let bad : false ≡ true = rw f at u in absurd (cc bad)
        by_attach slot there (Some attach) f u =
            let within = whole.attaches slot attach (from_place setup.declared.slots s slot there) (from_place slot.attach k attach f) in
            let id = slot_known s slot there up (needs (CreateSlot s) (eq-eqb s s refl)) in
            let by_make : is_needed_by basis (ConnectSlot s k) (MakeNetwork attach.network) ≡ true = rw (there, f) (eq-eqb attach.network attach.network refl) in
            let net = network_known attach.network within up (needs (MakeNetwork attach.network) by_make) in
            (Request.Connect net.0 id.0 attach.aliases, rw (there, f) (joined attach net.0 id.0 net.1 id.1))
    request_known (StopKept s) w needs =
        let r = some_from (is_restarted setup.declared setup.seen) (slot_at setup.declared s) (both (is_up aim.purpose) _ w).1 in
        let k = some_from (λ (row : Listed). is_live row.state) (kept_of setup.declared setup.seen r.0) (both (keeps_live setup.declared setup.seen r.0) _ r.2).0 in
        (Request.Stop k.0.id r.0.stop_seconds, stop_kept s r.0 k.0 r.1 k.1)
    request_known (StartSlot s) w needs =
        let r = some_from (is_unstarted basis) (slot_at setup.declared s) (both (is_up aim.purpose) _ w).1 in
        let id = slot_known s r.0 r.1 (both (is_up aim.purpose) _ w).0 (needs (CreateSlot s) (eq-eqb s s refl)) in
        (Request.Start id.0, ap (option_map (λ (i : List ℕ). Request.Start i)) id.1)
    request_known (RemoveNetwork n) w needs =
        let r = some_from _ (slice_get setup.declared.networks n) (both (not (is_up aim.purpose)) _ w).1 in
        by_network r.0 r.1 (both _ _ r.2).1
      where
        by_network : (network : NetworkSpec) → slice_get setup.declared.networks n ≡ Some network → is_network_seen setup.seen network.name ≡ true
            → (request : Request) × (request_of setup past (RemoveNetwork n) ≡ Some request)
        by_network network there e =
            let id = any_known network e in
            let none = none_made n (both (not (is_up aim.purpose)) _ w).0 in
            let net : network_id setup past n ≡ Some id.0 = rw (none, there) id.1 in
            (Request.RemoveNetwork id.0, ap (option_map (λ (i : List ℕ). Request.RemoveNetwork i)) net)
    request_known (RemoveVolume v) w needs =
        let r = some_from _ (slice_get setup.declared.volumes v) (both (not (is_up aim.purpose) && aim.volumes) _ w).1 in (Request.RemoveVolume r.0.name, ap (option_map (λ (spec : VolumeSpec). Request.RemoveVolume spec.name)) r.1)
