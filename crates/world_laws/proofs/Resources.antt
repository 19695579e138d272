-- Networks, volumes and images of a run of `up`, from the end of its observation on.
use Rattle.std.proofs.Common.{◌≡◌, ◌⊎◌, ℕ, ◌<◌, Bool, true, false, cond, not, ◌&&◌, List, [], ◌∷◌, Option, Some, None, slice_get, refl, sym, ap, ◌∙◌, subst, inl, inr}
use Rattle.std.proofs.lemmas.Bool.{cases_order, eqb-true}
use Rattle.std.proofs.lemmas.Cmp.{nat_list_cmp_total, tied_itself}
use Rattle.std.proofs.lemmas.Option.{slice_get_within}
use Rattle.std.proofs.lemmas.Slice.Eq.{bytes_eq-Decides}
use Rattle.std.specs.List.{list_any}
use Rattle.std.specs.Option.{option_or}
use Rattle.std.specs.Ordering.{is_lt}
use Rattle.std.specs.Prelude.{filter, find, if◌then◌else◌, option_and_then}
use Rattle.std.specs.Str.{bytes_eq}
use Rattle.engine_types.specs.declared.Action.{Action}
use Rattle.engine_types.specs.declared.ActionKind.{ActionKind}
use Rattle.engine_types.specs.declared.ActionKind.TheVariants.{MakeVolume, MakeNetwork}
use Rattle.engine_types.specs.declared.Aim.{Aim}
use Rattle.engine_types.specs.declared.Declared.{Declared}
use Rattle.engine_types.specs.declared.Engine.{Engine}
use Rattle.engine_types.specs.declared.Entry.{Entry}
use Rattle.engine_types.specs.declared.Kind.{Kind}
use Rattle.engine_types.specs.declared.NetRow.{NetRow}
use Rattle.engine_types.specs.declared.NetworkSpec.{NetworkSpec}
use Rattle.engine_types.specs.declared.Observed.{Observed}
use Rattle.engine_types.specs.declared.Purpose.{Purpose}
use Rattle.engine_types.specs.declared.Reply.{Reply}
use Rattle.engine_types.specs.declared.Request.{Request}
use Rattle.engine_types.specs.declared.Seen.{Seen}
use Rattle.engine_types.specs.declared.SeenFault.{SeenFault}
use Rattle.engine_types.specs.declared.Slot.{Slot}
use Rattle.engine_types.specs.declared.VolumeSpec.{VolumeSpec}
use Rattle.run_model.specs.EngineRules.{Among, has_volume, image_at, network_at, network_has_name}
use Rattle.run_model.specs.Exact.{IsExactNetwork}
use Rattle.run_model.specs.Journals.{Setup, is_good, standing}
use Rattle.run_model.specs.Legal.{IsLegal}
use Rattle.run_model.specs.Observation.{first_in, is_up, network_fault, volume_fault}
use Rattle.run_model.specs.Plans.{Basis, CarriesOut, is_make_of, is_network_seen, is_volume_seen, is_wanted, kind_of, make_of, seen_image}
use Rattle.tree_base.specs.ByteOrder.{IsAscending, by_key, is_before}
use Rattle.run_model.specs.Requests.{OfAction, OfPoll, made_id, network_id, seen_network_id}
use Rattle.run_model.specs.Numbers.{places}
use Rattle.run_model.specs.Worlds.{Changed, Did, Move, Took, effect_of, entries_of}
use Rattle.run_model.proofs.DistinctLists.{among_by_key, among_filter, at_place, from_by_key, from_filter}
use Rattle.run_model.proofs.KeptLaws.{any_from_list, any_of_list}
use Rattle.run_model.proofs.LegalLaws.{found_passes}
use Rattle.run_model.proofs.PlanLaws.{some_from}
use Rattle.run_model.proofs.RequestLemmas.{same_text}
use Rattle.world_laws.specs.Sights.{IsSightOf}
use Rattle.world_laws.proofs.Along.{IsKept, holds_along}
use Rattle.world_laws.proofs.Claimed.{IsTail}
use Rattle.world_laws.proofs.Effects.{each_has_effect, made_effect}
use Rattle.world_laws.proofs.Finished.{IsFinished, IsRunning, basis_of}
use Rattle.world_laws.proofs.Keeping.{network_row}
use Rattle.world_laws.proofs.ActionRequests.{map_from}
use Rattle.world_laws.proofs.Sights.{seen_is_there}
use Rattle.world_laws.proofs.ResourceMoves.{HasNetworks, HasResources, HasVolumes, IsMade, at_seen, goes_acted, goes_did, goes_itself, goes_polled, plan_of, resources_later}

-- texts that are equal, either way round
same_back : (s t : List ℕ) → bytes_eq s t ≡ true → bytes_eq t s ≡ true
same_back s t e = (bytes_eq-Decides t s).1 (sym ((bytes_eq-Decides s t).0 e))

-- what was found is an element that passes
found_among : {X : Type 0} (test : X → Bool) (xs : List X) (x : X) → find test xs ≡ Some x → Among xs x
found_among test [] x e = absurd (cc e)
found_among {X} test (y ∷ ys) x e = at (test y) (found_among test ys x) e
  where
    at : (t : Bool) → (find test ys ≡ Some x → Among ys x) → cond t (Some y) (find test ys) ≡ Some x → Among (y ∷ ys) x
    at true rest f = let same : y ≡ x = cc f in inl (sym same)
    at false rest f = inr (rest f)

-- a network is under its own id
own_id : (engine : Engine) (id : List ℕ) (row : NetRow) → network_at engine id ≡ Some row → row.id ≡ id
own_id engine id row e = (bytes_eq-Decides row.id id).0 (found_passes (λ (r : NetRow). bytes_eq r.id id) engine.networks row e)

-- two faults of which there is neither
neither : (a b : Option SeenFault) → option_or a b ≡ None → (a ≡ None) × (b ≡ None)
neither None b e = (refl, e)
neither (Some fault) b e = absurd (cc e)

none_in : {X : Type 0} (fault : X → Option SeenFault) (xs : List X) (x : X) → first_in fault xs ≡ None → Among xs x → fault x ≡ None
none_in fault [] x e m = absurd m
none_in fault (y ∷ ys) x e (inl h) = ap fault h ∙ (neither (fault y) (first_in fault ys) e).0
none_in fault (y ∷ ys) x e (inr m) = none_in fault ys x (neither (fault y) (first_in fault ys) e).1 m

-- names in byte order differ
names_differ : {X : Type 0} (name : X → List ℕ) (xs : List X) → IsAscending (λ x other. is_before (name x) (name other)) xs → (i j : ℕ) (x y : X)
    → slice_get xs i ≡ Some x → slice_get xs j ≡ Some y → name x ≡ name y → i ≡ j
names_differ name xs ascending i j x y h k e = at (cases_order i j)
  where
    never : (s t : List ℕ) → s ≡ t → is_before s t ≡ true → ⊥
    never s t same before =
        let bad : false ≡ true = sym (ap is_lt (tied_itself nat_list_cmp_total s)) ∙ subst (λ (u : List ℕ). is_before s u ≡ true) (sym same) before in cc bad

    at : (i ≡ j) ⊎ ((i < j) ⊎ (j < i)) → i ≡ j
    at (inl same) = same
    at (inr (inl less)) = absurd (never (name x) (name y) e (ascending i j x y less h k))
    at (inr (inr more)) = absurd (never (name y) (name x) (sym e) (ascending j i y x more k h))

-- the one seen row of a network's name
record IsOneRow (seen : Seen) (network : NetworkSpec) : Type 0 where
  row : NetRow
  seen_row : Among seen.networks row
  named : bytes_eq network.name row.name ≡ true
  alone : (other : NetRow) → Among seen.networks other → bytes_eq network.name other.name ≡ true → other ≡ row

-- a declared network without a fault that is external or was seen has one row
one_row : (declared : Declared) (seen : Seen) (network : NetworkSpec) → network_fault declared Purpose.Up seen.networks network ≡ None
    → (network.external ≡ true) ⊎ (is_network_seen seen network.name ≡ true) → IsOneRow seen network
one_row declared seen network sound there = at (by_key (λ (row : NetRow). row.id) named) refl
  where
    named : List NetRow
    named = filter (λ (row : NetRow). bytes_eq network.name row.name) seen.networks

    has : (row : NetRow) → Among seen.networks row → bytes_eq network.name row.name ≡ true → Among (by_key (λ (r : NetRow). r.id) named) row
    has row m e = among_by_key (λ (r : NetRow). r.id) named row (among_filter (λ (r : NetRow). bytes_eq network.name r.name) seen.networks row e m)

    unlisted : (external listed : Bool) → (external ≡ true) ⊎ (listed ≡ true) → (if external && true then Some (SeenFault.ExternalMissing Kind.Network network.name) else None) ≡ None
        → listed ≡ true
    unlisted true listed t f = absurd (cc f)
    unlisted false listed (inl t) f = absurd (cc t)
    unlisted false listed (inr t) f = t

    at : (rows : List NetRow) → by_key (λ (row : NetRow). row.id) named ≡ rows → IsOneRow seen network
    at [] e =
        let f : (if network.external && true then Some (SeenFault.ExternalMissing Kind.Network network.name) else None) ≡ None = rw e at sound in
        let r = any_from_list (λ (row : NetRow). bytes_eq row.name network.name) seen.networks (unlisted network.external (is_network_seen seen network.name) there f) in
        let m : Among [] r.0 = subst (λ (rows : List NetRow). Among rows r.0) e (has r.0 r.1 (same_back r.0.name network.name r.2)) in absurd m
    at (row ∷ []) e =
        let first : Among (row ∷ []) row = inl refl in
        let here = from_filter (λ (r : NetRow). bytes_eq network.name r.name) seen.networks row
        (from_by_key (λ (r : NetRow). r.id) named row (subst (λ (rows : List NetRow). Among rows row) (sym e) first)) in
        record { row = row; seen_row = here.1; named = here.0; alone = λ other m k. only other (subst (λ (rows : List NetRow). Among rows other) e (has other m k)) }
      where
        only : (other : NetRow) → Among (row ∷ []) other → other ≡ row
        only other (inl same) = same
        only other (inr m) = absurd m
    at (row ∷ other ∷ rest) e = let f : Some (SeenFault.NetworkTwice network.name row.id other.id) ≡ None = rw e at sound in absurd (cc f)

-- a declared volume without a fault that is external was seen
volume_seen : (names : List (List ℕ)) (volume : VolumeSpec) → volume_fault Purpose.Up names volume ≡ None → volume.external ≡ true → list_any (bytes_eq volume.name) names ≡ true
volume_seen names volume sound e = at volume.external (list_any (bytes_eq volume.name) names) e sound
  where
    at : (external listed : Bool) → external ≡ true
        → (if external && true && not listed then Some (SeenFault.ExternalMissing Kind.Volume volume.name) else None) ≡ None → listed ≡ true
    at true true t f = refl
    at true false t f = absurd (cc f)
    at false listed t f = absurd (cc t)

make_kind : (n : ℕ) (kind : Option ActionKind) → is_make_of n kind ≡ true → kind ≡ Some (MakeNetwork n)
make_kind n (Some (MakeNetwork m)) e = ap (λ (k : ℕ). Some (MakeNetwork k)) (eqb-true m n e)
make_kind n _ e = absurd (cc e)

good_network : (n : ℕ) (reply : Reply) → is_good (MakeNetwork n) reply ≡ true → (id : List ℕ) × (reply ≡ Reply.Made id)
good_network n (Reply.Made id) e = (id, refl)
good_network n _ e = absurd (cc e)

good_volume : (v : ℕ) (reply : Reply) → is_good (MakeVolume v) reply ≡ true → reply ≡ Reply.Done
good_volume v Reply.Done e = refl
good_volume v _ e = absurd (cc e)

-- what is external, seen, or neither
there_or_wanted : (external listed : Bool) → ((external ≡ true) ⊎ (listed ≡ true)) ⊎ ((not external && not listed) ≡ true)
there_or_wanted true listed = inl (inl refl)
there_or_wanted false true = inl (inr refl)
there_or_wanted false false = inr refl

not_wanted : (external listed : Bool) → (external ≡ true) ⊎ (listed ≡ true) → (not external && not listed) ≡ true → ⊥
not_wanted true listed t e = cc e
not_wanted false true t e = cc e
not_wanted false false (inl t) e = cc t
not_wanted false false (inr t) e = cc t

-- a plan makes the declared networks and volumes that are neither external nor seen
network_wanted : (basis : Basis) (n : ℕ) (network : NetworkSpec) → is_up basis.aim.purpose ≡ true → slice_get basis.declared.networks n ≡ Some network
    → is_wanted basis (MakeNetwork n) ≡ (not network.external && not (is_network_seen basis.seen network.name))
network_wanted basis n network up d = rw (up, d) refl

volume_wanted : (basis : Basis) (v : ℕ) (volume : VolumeSpec) → is_up basis.aim.purpose ≡ true → slice_get basis.declared.volumes v ≡ Some volume
    → is_wanted basis (MakeVolume v) ≡ (not volume.external && not (is_volume_seen basis.seen volume.name))
volume_wanted basis v volume up d = rw (up, d) refl

-- an action of the plan that all have ended well
record HasDone (setup : Setup) (moves : List Move) (kind : ActionKind) : Type 0 where
  action : ℕ
  kind_is : kind_of setup.actions action ≡ Some kind
  reply : Reply
  effect : effect_of moves (OfAction action) ≡ Some reply
  good : is_good kind reply ≡ true

has_done : (aim : Aim) (setup : Setup) (first last : Engine) (moves : List Move) (kind : ActionKind) → IsFinished aim setup first moves last
    → is_wanted (basis_of aim setup) kind ≡ true → HasDone setup moves kind
has_done aim setup first last moves kind finished wanted =
    let plan = plan_of aim setup first last moves finished.running in
    let a = plan.all kind wanted in
    let action = map_from (λ (x : Action). x.kind) (slice_get setup.actions a.0) kind a.1 in
    let done = each_has_effect setup first last moves a.0 finished.running.world (finished.well a.0 (slice_get_within setup.actions a.0 action.0 action.1)) in
    let has = done.1 in
    let some : Some has.good.kind ≡ Some kind = sym has.good.kind_is ∙ a.1 in
    let same : has.good.kind ≡ kind = cc some in
    record {
      action = a.0;
      kind_is = a.1;
      reply = done.0;
      effect = has.effect;
      good = subst (λ (k : ActionKind). is_good k done.0 ≡ true) same has.good.good;
    }

upward : (purpose : Purpose) → is_up purpose ≡ true → purpose ≡ Purpose.Up
upward Purpose.Up e = refl
upward Purpose.Down e = absurd (cc e)

-- what the Engine has of networks, volumes and images once the observation has ended well
pub resources : (aim : Aim) (setup : Setup) (first last : Engine) (moves : List Move) → IsRunning aim setup first moves last → HasResources setup moves last
resources aim setup first last moves run = holds_along aim setup first (HasResources setup) kept moves last run
  where
    begins : (observation : Observed) (before : List Move) (engine : Engine) → IsRunning aim setup first (Did (Entry.Seen observation) ∷ before) engine
        → entries_of before ≡ [] → ((a : ℕ) → effect_of before (OfAction a) ≡ None) → HasResources setup (Did (Entry.Seen observation) ∷ before) engine
    begins observation before engine r empty none =
        let legal : IsLegal aim setup (Entry.Seen observation ∷ []) = subst (λ (past : List Entry). IsLegal aim setup (Entry.Seen observation ∷ past)) empty r.legal in
        let sight : IsSightOf setup.declared aim.purpose setup.seen engine = seen_is_there aim setup first engine before observation r.world empty legal r.saw in
        at_seen setup observation before engine (subst (λ (purpose : Purpose). IsSightOf setup.declared purpose setup.seen engine) (upward aim.purpose r.up) sight) none

    kept : IsKept aim setup first (HasResources setup)
    kept = record {
      begins = begins;
      notes = λ entry before engine r has. resources_later setup before engine (Did entry) engine (goes_did setup before engine entry) has;
      acts = λ a request reply before old new r effect has.
          resources_later setup before old (Took (OfAction a) request reply) new (goes_acted aim setup first a request reply before old new r effect) has;
      polls = λ n id reply before engine r has.
          resources_later setup before engine (Took (OfPoll n) (Request.Inspect id) reply) engine (goes_polled setup before engine n id reply) has;
      changes = λ before old new r itself has. resources_later setup before old Changed new (goes_itself setup before old new itself) has;
    }

-- each slot's image is the one that was seen
pub image_stays : (aim : Aim) (setup : Setup) (first last : Engine) (moves : List Move) → IsRunning aim setup first moves last
    → (slot : Slot) → Among setup.declared.slots slot → (id : List ℕ) × (seen_image setup.seen slot ≡ Some id) × (image_at last slot.image ≡ Some id)
image_stays aim setup first last moves run = (resources aim setup first last moves run).images

-- the id of a declared network that a tail of the journal tells is a network's of that name
pub network_named : (aim : Aim) (setup : Setup) (first last : Engine) (moves : List Move) → IsRunning aim setup first moves last
    → (tail : List Entry) → IsTail tail (entries_of moves) → (n : ℕ) (network : NetworkSpec) (id : List ℕ)
    → slice_get setup.declared.networks n ≡ Some network → network_id setup tail n ≡ Some id → network_has_name last network.name id ≡ true
network_named aim setup first last moves run tail t n network id d e = at (resources aim setup first last moves run).networks
  where
    named : (row : NetRow) → network_at last id ≡ Some row → bytes_eq network.name row.name ≡ true → network_has_name last network.name id ≡ true
    named row h k = rw h k

    seen : HasNetworks setup moves last → make_of setup.actions n ≡ None → network_has_name last network.name id ≡ true
    seen has h =
        let f : option_and_then (λ (spec : NetworkSpec). seen_network_id setup spec.name) (slice_get setup.declared.networks n) ≡ Some id = rw h at e in
        let g : seen_network_id setup network.name ≡ Some id = rw d at f in
        let r = map_from (λ (row : NetRow). row.id) (find (λ (row : NetRow). bytes_eq row.name network.name) setup.seen.networks) id g in
        let row : NetRow = r.0 in
        let there = has.kept row (found_among (λ (x : NetRow). bytes_eq x.name network.name) setup.seen.networks row r.1) in
        named row (ap (network_at last) (sym r.2) ∙ there)
        (same_back row.name network.name (found_passes (λ (x : NetRow). bytes_eq x.name network.name) setup.seen.networks row r.1))

    made : HasNetworks setup moves last → (a : ℕ) → make_of setup.actions n ≡ Some a → network_has_name last network.name id ≡ true
    made has a h =
        let f : made_id (standing setup tail a) ≡ Some id = rw h at e in
        let effect = made_effect aim setup first last moves run.legal run.world tail t a id f in
        let kind = make_kind n (kind_of setup.actions a) (found_passes (λ (b : ℕ). is_make_of n (kind_of setup.actions b)) (places setup.actions) a h) in
        named (network_row id network) (has.made a n network id kind d effect) (same_text network.name)

    on : HasNetworks setup moves last → (o : Option ℕ) → make_of setup.actions n ≡ o → network_has_name last network.name id ≡ true
    on has None h = seen has h
    on has (Some a) h = made has a h

    at : (setup.declared.networks ≡ []) ⊎ HasNetworks setup moves last → network_has_name last network.name id ≡ true
    at (inl empty) = let bad : None ≡ Some network = rw empty at d in absurd (cc bad)
    at (inr has) = on has (make_of setup.actions n) refl

module _ (aim : Aim) (setup : Setup) (first last : Engine) (moves : List Move) (finished : IsFinished aim setup first moves last) where
  run : IsRunning aim setup first moves last
  run = finished.running

  has_all : HasResources setup moves last
  has_all = resources aim setup first last moves run

  plan : CarriesOut (basis_of aim setup) setup.actions
  plan = plan_of aim setup first last moves run

  -- each slot's image is the one that was seen
  pub image_at_end : (slot : Slot) → Among setup.declared.slots slot → image_at last slot.image ≡ seen_image setup.seen slot
  image_at_end slot m = let r = has_all.images slot m in r.2 ∙ sym r.1

  -- a network that was made under this name was made for this place
  made_for : (n : ℕ) (network : NetworkSpec) → slice_get setup.declared.networks n ≡ Some network → (i : List ℕ) (row : NetRow) (made : IsMade setup moves i row)
      → bytes_eq network.name row.name ≡ true → kind_of setup.actions made.action ≡ Some (MakeNetwork n)
  made_for n network d i row made named =
      let name : network.name ≡ made.network.name = (bytes_eq-Decides network.name row.name).0 named ∙ ap (λ (r : NetRow). r.name) made.is in
      let place : n ≡ made.place = names_differ (λ (x : NetworkSpec). x.name) setup.declared.networks run.whole.networks n made.place network made.network d made.declares name in
      subst (λ (k : ℕ). kind_of setup.actions made.action ≡ Some (MakeNetwork k)) (sym place) made.kind

  module _ (has : HasNetworks setup moves last) (n : ℕ) (network : NetworkSpec) (d : slice_get setup.declared.networks n ≡ Some network) where
    wanted_is : is_wanted (basis_of aim setup) (MakeNetwork n) ≡ (not network.external && not (is_network_seen setup.seen network.name))
    wanted_is = network_wanted (basis_of aim setup) n network run.up d

    was_there : Among setup.declared.networks network → (network.external ≡ true) ⊎ (is_network_seen setup.seen network.name ≡ true) → IsExactNetwork last network.name
    was_there m there =
        let sound = none_in (network_fault setup.declared Purpose.Up setup.seen.networks) setup.declared.networks network
        (neither (first_in (network_fault setup.declared Purpose.Up setup.seen.networks) setup.declared.networks) _ has_all.sound).0 m in
        let one = one_row setup.declared setup.seen network sound there in
        record { id = one.row.id; is_there = rw (has.kept one.row one.seen_row) one.named; only = λ i e. only one i e }
      where
        only : (one : IsOneRow setup.seen network) (i : List ℕ) → network_has_name last network.name i ≡ true → i ≡ one.row.id
        only one i e =
            let r = some_from (λ (row : NetRow). bytes_eq network.name row.name) (network_at last i) e in
            at r.0 r.1 r.2 (has.from i r.0 r.1)
          where
            at : (row : NetRow) → network_at last i ≡ Some row → bytes_eq network.name row.name ≡ true → Among setup.seen.networks row ⊎ IsMade setup moves i row → i ≡ one.row.id
            at row h k (inl s) = sym (own_id last i row h) ∙ ap (λ (x : NetRow). x.id) (one.alone row s k)
            at row h k (inr made) =
                let w = plan.wanted made.action (MakeNetwork n) (made_for n network d i row made k) in
                absurd (not_wanted network.external (is_network_seen setup.seen network.name) there (sym wanted_is ∙ w))

    is_new : (not network.external && not (is_network_seen setup.seen network.name)) ≡ true → IsExactNetwork last network.name
    is_new w =
        let done = has_done aim setup first last moves (MakeNetwork n) finished (wanted_is ∙ w) in
        let told = good_network n done.reply done.good in
        let effect : effect_of moves (OfAction done.action) ≡ Some (Reply.Made told.0) = done.effect ∙ ap (λ (r : Reply). Some r) told.1 in
        let there = has.made done.action n network told.0 done.kind_is d effect in
        record { id = told.0; is_there = rw there (same_text network.name); only = λ i e. only done.action told.0 done.kind_is effect i e }
      where
        only : (a : ℕ) (id : List ℕ) → kind_of setup.actions a ≡ Some (MakeNetwork n) → effect_of moves (OfAction a) ≡ Some (Reply.Made id)
            → (i : List ℕ) → network_has_name last network.name i ≡ true → i ≡ id
        only a id kind effect i e =
            let r = some_from (λ (row : NetRow). bytes_eq network.name row.name) (network_at last i) e in
            at r.0 r.2 (has.from i r.0 r.1)
          where
            at : (row : NetRow) → bytes_eq network.name row.name ≡ true → Among setup.seen.networks row ⊎ IsMade setup moves i row → i ≡ id
            at row k (inl s) = absurd (not_wanted network.external (is_network_seen setup.seen network.name)
                (inr (any_of_list (λ (x : NetRow). bytes_eq x.name network.name) setup.seen.networks row s (same_back network.name row.name k))) w)
            at row k (inr made) =
                let same : made.action ≡ a = plan.once made.action a (MakeNetwork n) (made_for n network d i row made k) kind in
                let one : Some (Reply.Made i) ≡ Some (Reply.Made id) = sym made.effect ∙ ap (λ (b : ℕ). effect_of moves (OfAction b)) same ∙ effect in cc one

  -- each declared network is there exactly once
  pub network_at_end : (network : NetworkSpec) → Among setup.declared.networks network → IsExactNetwork last network.name
  network_at_end network m = at has_all.networks
    where
      at : (setup.declared.networks ≡ []) ⊎ HasNetworks setup moves last → IsExactNetwork last network.name
      at (inl empty) = let bad : Among [] network = subst (λ (xs : List NetworkSpec). Among xs network) empty m in absurd bad
      at (inr has) =
          let r = at_place setup.declared.networks network m in
          on r.0 r.1 (there_or_wanted network.external (is_network_seen setup.seen network.name))
        where
          on : (n : ℕ) → slice_get setup.declared.networks n ≡ Some network
              → ((network.external ≡ true) ⊎ (is_network_seen setup.seen network.name ≡ true)) ⊎ ((not network.external && not (is_network_seen setup.seen network.name)) ≡ true)
              → IsExactNetwork last network.name
          on n d (inl there) = was_there has n network d m there
          on n d (inr w) = is_new has n network d w

  -- each declared volume is there
  pub volume_at_end : (volume : VolumeSpec) → Among setup.declared.volumes volume → has_volume last volume.name ≡ true
  volume_at_end volume m = at has_all.volumes
    where
      at : (setup.declared.volumes ≡ []) ⊎ HasVolumes setup moves last → has_volume last volume.name ≡ true
      at (inl empty) = let bad : Among [] volume = subst (λ (xs : List VolumeSpec). Among xs volume) empty m in absurd bad
      at (inr has) =
          let r = at_place setup.declared.volumes volume m in
          on r.0 r.1 (there_or_wanted volume.external (is_volume_seen setup.seen volume.name))
        where
          sound : volume_fault Purpose.Up setup.seen.volumes volume ≡ None
          sound = none_in (volume_fault Purpose.Up setup.seen.volumes) setup.declared.volumes volume
              (neither (first_in (network_fault setup.declared Purpose.Up setup.seen.networks) setup.declared.networks) _ has_all.sound).1 m

          on : (v : ℕ) → slice_get setup.declared.volumes v ≡ Some volume
              → ((volume.external ≡ true) ⊎ (is_volume_seen setup.seen volume.name ≡ true)) ⊎ ((not volume.external && not (is_volume_seen setup.seen volume.name)) ≡ true)
              → has_volume last volume.name ≡ true
          on v d (inl (inl external)) = has.kept volume.name (volume_seen setup.seen.volumes volume sound external)
          on v d (inl (inr s)) = has.kept volume.name s
          on v d (inr w) =
              let done = has_done aim setup first last moves (MakeVolume v) finished (volume_wanted (basis_of aim setup) v volume run.up d ∙ w) in
              has.made done.action v volume done.kind_is d (done.effect ∙ ap (λ (r : Reply). Some r) (good_volume v done.reply done.good))
