-- What an observation saw that ended well is what the Engine has at its end.
use Rattle.std.proofs.Common.{◌≡◌, ◌⊎◌, ℕ, Bool, true, false, List, [], ◌∷◌, map, reverse, Option, Some, None, refl, sym, ap, ◌∙◌, subst, inl, inr}
use Rattle.std.proofs.lemmas.Slice.Eq.{bytes_eq-Decides}
use Rattle.std.specs.List.{IsDistinct, list_any}
use Rattle.std.specs.Option.{option_map_or}
use Rattle.std.specs.Prelude.{if◌then◌else◌}
use Rattle.std.specs.Str.{bytes_eq}
use Rattle.engine_types.specs.declared.ContainerRow.{ContainerRow}
use Rattle.engine_types.specs.declared.Engine.{Engine}
use Rattle.engine_types.specs.declared.Exchange.{Exchange}
use Rattle.engine_types.specs.declared.Listed.{Listed}
use Rattle.engine_types.specs.declared.NetRow.{NetRow}
use Rattle.engine_types.specs.declared.Outcome.{Outcome}
use Rattle.engine_types.specs.declared.Reply.{Reply}
use Rattle.engine_types.specs.declared.Request.{Request}
use Rattle.run_model.specs.EngineRules.{Among, Answers, ChangesItself, ListsContainers, ListsNetworks, ListsVolumes, SameNetworks, SameVolumes, Shows, container_at, image_at, is_of_project, network_has_name}
use Rattle.run_model.specs.Journals.{Setup}
use Rattle.run_model.specs.Labels.{is_lost_state}
use Rattle.run_model.specs.Requests.{OfAction, OfPoll, OfSeen}
use Rattle.run_model.specs.Told.{IsTold, answered, id_after, id_told, is_look}
use Rattle.run_model.specs.Worlds.{Changed, Did, Effect, Move, Took, World, entries_of, seen_effects}
use Rattle.run_model.proofs.LegalLaws.{found_passes}
use Rattle.run_model.proofs.RequestLemmas.{same_text}
use Rattle.world_laws.specs.Laws.{SeenIsThere}
use Rattle.world_laws.specs.Sights.{IsSightOf, Resembles}
use Rattle.world_laws.proofs.FirstRows.{first_same}
use Rattle.world_laws.proofs.Looks.{AreLooks, IsSame, Keeps, all_among, among_reverse, as_exchanges, effects_are, from_reverse, look_keeps, own_keeps}
use Rattle.world_laws.proofs.Observing.{IsSeenWell, good_end, told_by}

-- an Engine has these listed containers of a project, each once, and no other
record Shown (engine : Engine) (project : List ℕ) (rows : List Listed) : Type 0 where
  ids : IsDistinct bytes_eq (map (λ (listed : Listed). listed.id) rows)
  shown : (listed : Listed) → Among rows listed → (row : ContainerRow)
      × (container_at engine listed.id ≡ Some row) × (is_of_project project row.labels ≡ true) × Resembles engine row listed
  all : (id : List ℕ) (row : ContainerRow) → container_at engine id ≡ Some row → is_of_project project row.labels ≡ true
      → (listed : Listed) × Among rows listed × (listed.id ≡ id) × Resembles engine row listed

-- a container has the id that it is found at
has_id : (engine : Engine) (id : List ℕ) (row : ContainerRow) → container_at engine id ≡ Some row → row.id ≡ id
has_id engine id row e = (bytes_eq-Decides row.id id).0 (found_passes (λ (r : ContainerRow). bytes_eq r.id id) engine.containers row e)

-- a network's name is the same where the networks are
same_names : (old new : Engine) → SameNetworks old new → (n : List ℕ) (ids : List (List ℕ)) → list_any (network_has_name new n) ids ≡ list_any (network_has_name old n) ids
same_names old new same n ids =
    ap (λ (p : List ℕ → Bool). list_any p ids) (λ i id. option_map_or (λ row. bytes_eq n row.name) (same id i) false)

shown_at_once : (engine : Engine) (project : List ℕ) (rows : List Listed) → ListsContainers engine project rows → Shown engine project rows
shown_at_once engine project rows lists = record {
  ids = lists.distinct;
  shown = λ listed m. let s = lists.shown listed m in (s.0, s.1, s.2, like s.0 listed s.3);
  all = λ id row e p. let a = lists.all id row e p in (a.0, a.1, a.2.id ∙ has_id engine id row e, like row a.0 a.2);
}
  where
    like : (row : ContainerRow) (listed : Listed) → Shows engine row listed → Resembles engine row listed
    like row listed s = record { id = s.id; labels = s.labels; image_id = s.image_id; lost = ap is_lost_state s.state; networks = s.networks }

-- what is there stays
shown_later : (old new : Engine) (project : List ℕ) (rows : List Listed) → Keeps old new → Shown old project rows → Shown new project rows
shown_later old new project rows keeps s = record {
  ids = s.ids;
  shown = λ listed m. let a = s.shown listed m in let b = keeps.forth listed.id a.0 a.1 in (
    b.0,
    b.1,
    rw b.2.labels a.2,
    like a.0 b.0 listed b.2 a.3,
  );
  all = λ id now e p. let b = keeps.back id now e in
      let a = s.all id b.0 b.1 (rw (← b.2.labels) p) in (a.0, a.1, a.2, like b.0 now a.0 b.2 a.3);
}
  where
    like : (row now : ContainerRow) (listed : Listed) → IsSame row now → Resembles old row listed → Resembles new now listed
    like row now listed same r = record {
      id = r.id ∙ sym same.id;
      labels = r.labels ∙ sym same.labels;
      image_id = r.image_id ∙ sym same.image_id;
      lost = r.lost ∙ sym same.lost;
      networks = λ n. r.networks n ∙ sym (same_names old new keeps.networks n row.networks) ∙ sym (ap (λ (ids : List (List ℕ)). list_any (network_has_name new n) ids) same.networks);
    }

networks_later : (old new : Engine) (rows : List NetRow) → SameNetworks old new → ListsNetworks old rows → ListsNetworks new rows
networks_later old new rows same l = record { distinct = l.distinct; shown = λ row m. same row.id ∙ l.shown row m; all = λ id row e. l.all id row (sym (same id) ∙ e) }

volumes_later : (old new : Engine) (names : List (List ℕ)) → SameVolumes old new → ListsVolumes old names → ListsVolumes new names
volumes_later old new names same l = record { distinct = l.distinct; same = λ n. l.same n ∙ sym (same n) }

-- what holds at the start of an observation and after each of its effects, and stays with own changes
module _ (P : Engine → List Effect → Type 0)
    (own : (old new : Engine) (es : List Effect) → ChangesItself old new → P old es → P new es)
    (look : (old new : Engine) (request : Request) (reply : Reply) (es : List Effect) → is_look request (Outcome.Answered reply) ≡ true
    → Answers old request reply new → P old es → P new (record { request = request; reply = reply } ∷ es)) where
  along : (setup : Setup) (first last : Engine) (moves : List Move) → P first [] → World setup first moves last → entries_of moves ≡ []
      → AreLooks (as_exchanges (seen_effects moves)) → P last (seen_effects moves)
  along setup first last [] start w e looks = subst (λ (engine : Engine). P engine []) (sym w) start
  along setup first last (Did entry ∷ moves) start w e looks = absurd (cc e)
  along setup first last (Took (OfSeen i) request reply ∷ moves) start w e looks =
      look w.0 last request reply (seen_effects moves) (looks (answered request reply) (inl refl)) w.2.1
      (along setup first w.0 moves start w.1 e (λ x m. looks x (inr m)))
  along setup first last (Took (OfAction a) request reply ∷ moves) start w e looks = let bad = rw e at w.2.0.may_act.0 in absurd (cc bad)
  along setup first last (Took (OfPoll n) request reply ∷ moves) start w e looks = let bad = rw e at w.2.0.may_act.0 in absurd (cc bad)
  along setup first last (Changed ∷ moves) start w e looks = own w.0 last (seen_effects moves) w.2 (along setup first w.0 moves start w.1 e looks)

-- an Engine has what such effects told
record HasTold (engine : Engine) (effects : List Effect) : Type 0 where
  containers : (project : List ℕ) (rows : List Listed) → Among (as_exchanges effects) (answered (Request.ListContainers project) (Reply.Containers rows)) → Shown engine project rows
  networks : (rows : List NetRow) → Among (as_exchanges effects) (answered Request.ListNetworks (Reply.Networks rows)) → ListsNetworks engine rows
  volumes : (names : List (List ℕ)) → Among (as_exchanges effects) (answered Request.ListVolumes (Reply.Volumes names)) → ListsVolumes engine names
  images : (image id : List ℕ) → id_told image (as_exchanges effects) ≡ Some id → image_at engine image ≡ Some id

nothing_told : (engine : Engine) → HasTold engine []
nothing_told engine = record {
  containers = λ project rows m. absurd m;
  networks = λ rows m. absurd m;
  volumes = λ names m. absurd m;
  images = λ image id e. absurd (cc e);
}

told_own : (old new : Engine) (es : List Effect) → ChangesItself old new → HasTold old es → HasTold new es
told_own old new es own h = let keeps = own_keeps old new own in record {
  containers = λ project rows m. shown_later old new project rows keeps (h.containers project rows m);
  networks = λ rows m. networks_later old new rows keeps.networks (h.networks rows m);
  volumes = λ names m. volumes_later old new names keeps.volumes (h.volumes names m);
  images = λ image id e. own.changes.images image ∙ h.images image id e;
}

-- an answer that is the one asked about was given to the request asked about
given : (old new : Engine) (request other : Request) (reply wanted : Reply) → answered other wanted ≡ answered request reply → Answers old request reply new → Answers old other wanted new
given old new request other reply wanted e h =
    let q : other ≡ request = ap (λ (x : Exchange). x.request) e in
    let o : Outcome.Answered wanted ≡ Outcome.Answered reply = ap (λ (x : Exchange). x.outcome) e in
    let r : wanted ≡ reply = cc o in
    rw (q, r) h

apart_back : (s t : List ℕ) → bytes_eq s t ≡ false → bytes_eq t s ≡ false
apart_back s t e = at (bytes_eq t s) refl
  where
    at : (b : Bool) → bytes_eq t s ≡ b → bytes_eq t s ≡ false
    at false h = h
    at true h = let bad : bytes_eq s t ≡ true = rw ((bytes_eq-Decides t s).0 h) (same_text s) in absurd (cc (sym e ∙ bad))

-- a pull leaves the images of other names
pull_spares : (old new : Engine) (name : List ℕ) (reply : Reply) (image : List ℕ) → bytes_eq name image ≡ false → Answers old (Request.Pull name) reply new
    → image_at new image ≡ image_at old image
pull_spares old new name (Reply.Refused status message) image e h = rw h refl
pull_spares old new name (Reply.PullFailed message) image e h = rw h refl
pull_spares old new name Reply.Pulled image e h = h.1.images image ∙ (rw e refl)
pull_spares old new name _ image e h = absurd h

-- what an exchange tells of an image is what the Engine then has
image_told : (old new : Engine) (request : Request) (reply : Reply) (image id : List ℕ) (before : Option (List ℕ)) → is_look request (Outcome.Answered reply) ≡ true
    → Answers old request reply new → (before ≡ Some id → image_at old image ≡ Some id) → id_after image request (Outcome.Answered reply) before ≡ Some id → image_at new image ≡ Some id
image_told old new (Request.Image name) (Reply.ImageId told) image id before l h known e = at (bytes_eq image name) refl e
  where
    at : (t : Bool) → bytes_eq image name ≡ t → (if t then Some told else before) ≡ Some id → image_at new image ≡ Some id
    at true s f = rw h.1 (rw ((bytes_eq-Decides image name).0 s) (h.0 ∙ f))
    at false s f = rw h.1 (known f)
image_told old new (Request.Image name) (Reply.Refused status message) image id before l h known e = rw h (known e)
image_told old new (Request.Image name) _ image id before l h known e = absurd h
image_told old new (Request.Pull name) reply image id before l h known e = at (bytes_eq image name) refl e
  where
    at : (t : Bool) → bytes_eq image name ≡ t → (if t then None else before) ≡ Some id → image_at new image ≡ Some id
    at true s f = absurd (cc f)
    at false s f = pull_spares old new name reply image (apart_back image name s) h ∙ known f
image_told old new (Request.ListContainers project) (Reply.Refused status message) image id before l h known e = rw h (known e)
image_told old new (Request.ListContainers project) (Reply.Containers rows) image id before l h known e = rw h.1 (known e)
image_told old new (Request.ListContainers project) _ image id before l h known e = absurd h
image_told old new Request.ListNetworks (Reply.Refused status message) image id before l h known e = rw h (known e)
image_told old new Request.ListNetworks (Reply.Networks rows) image id before l h known e = rw h.1 (known e)
image_told old new Request.ListNetworks _ image id before l h known e = absurd h
image_told old new Request.ListVolumes (Reply.Refused status message) image id before l h known e = rw h (known e)
image_told old new Request.ListVolumes (Reply.Volumes names) image id before l h known e = rw h.1 (known e)
image_told old new Request.ListVolumes _ image id before l h known e = absurd h
image_told old new _ reply image id before l h known e = absurd (cc l)

told_look : (old new : Engine) (request : Request) (reply : Reply) (es : List Effect) → is_look request (Outcome.Answered reply) ≡ true → Answers old request reply new
    → HasTold old es → HasTold new (record { request = request; reply = reply } ∷ es)
told_look old new request reply es l h told = record {
  containers = λ project rows. containers project rows;
  networks = λ rows. networks rows;
  volumes = λ names. volumes names;
  images = λ image id e. image_told old new request reply image id (id_told image (as_exchanges es)) l h (told.images image id) e;
}
  where
    keeps : Keeps old new
    keeps = look_keeps request reply old new l h

    containers : (project : List ℕ) (rows : List Listed)
        → Among (as_exchanges (record { request = request; reply = reply } ∷ es)) (answered (Request.ListContainers project) (Reply.Containers rows)) → Shown new project rows
    containers project rows (inl e) = let g = given old new request (Request.ListContainers project) reply (Reply.Containers rows) e h in
        rw g.1 (shown_at_once old project rows g.0)
    containers project rows (inr m) = shown_later old new project rows keeps (told.containers project rows m)

    networks : (rows : List NetRow)
        → Among (as_exchanges (record { request = request; reply = reply } ∷ es)) (answered Request.ListNetworks (Reply.Networks rows)) → ListsNetworks new rows
    networks rows (inl e) = let g = given old new request Request.ListNetworks reply (Reply.Networks rows) e h in rw g.1 g.0
    networks rows (inr m) = networks_later old new rows keeps.networks (told.networks rows m)

    volumes : (names : List (List ℕ))
        → Among (as_exchanges (record { request = request; reply = reply } ∷ es)) (answered Request.ListVolumes (Reply.Volumes names)) → ListsVolumes new names
    volumes names (inl e) = let g = given old new request Request.ListVolumes reply (Reply.Volumes names) e h in rw g.1 g.0
    volumes names (inr m) = volumes_later old new names keeps.volumes (told.volumes names m)

pub seen_is_there : SeenIsThere
seen_is_there aim setup first last moves observation w none legal saw =
    subst (λ (engine : Engine). IsSightOf setup.declared aim.purpose setup.seen engine) (sym w.2.1) (sight shown networks volumes)
  where
    well : IsSeenWell setup.declared aim setup.seen
    well = record { observation = observation; is = legal.1.1; good = good_end observation [] setup.seen saw }

    told : IsTold setup.declared aim.purpose observation.exchanges setup.seen
    told = told_by setup.declared aim setup.seen well

    effects : List Effect
    effects = seen_effects moves

    are : reverse observation.exchanges ≡ as_exchanges effects
    are = effects_are (reverse observation.exchanges) effects
        (λ x m. all_among (λ (y : Exchange). is_look y.request y.outcome) observation.exchanges x told.looks (from_reverse observation.exchanges x m)) w.2.0

    among : (x : Exchange) → Among observation.exchanges x → Among (as_exchanges effects) x
    among x m = subst (λ (xs : List Exchange). Among xs x) are (among_reverse observation.exchanges x m)

    looks : AreLooks (as_exchanges effects)
    looks x m = all_among (λ (y : Exchange). is_look y.request y.outcome) observation.exchanges x told.looks
        (from_reverse observation.exchanges x (subst (λ (xs : List Exchange). Among xs x) (sym are) m))

    holds : HasTold w.0 effects
    holds = along HasTold told_own told_look setup first w.0 moves (nothing_told first) w.1 none looks

    listed : Shown w.0 setup.declared.project told.rows
    listed = holds.containers setup.declared.project told.rows (among _ told.listed)

    shown : Shown w.0 setup.declared.project setup.seen.containers
    shown = subst (λ (rows : List Listed). Shown w.0 setup.declared.project rows) (sym (told.containers ∙ first_same (λ (row : Listed). row.id) told.rows listed.ids)) listed

    networks : (setup.declared.networks ≡ []) ⊎ ListsNetworks w.0 setup.seen.networks
    networks = at told.networks
      where
        at : ((setup.declared.networks ≡ []) × (setup.seen.networks ≡ [])) ⊎ Among observation.exchanges (answered Request.ListNetworks (Reply.Networks setup.seen.networks))
            → (setup.declared.networks ≡ []) ⊎ ListsNetworks w.0 setup.seen.networks
        at (inl h) = inl h.0
        at (inr m) = inr (holds.networks setup.seen.networks (among _ m))

    volumes : (setup.declared.volumes ≡ []) ⊎ ListsVolumes w.0 setup.seen.volumes
    volumes = at told.volumes
      where
        at : ((setup.declared.volumes ≡ []) × (setup.seen.volumes ≡ [])) ⊎ Among observation.exchanges (answered Request.ListVolumes (Reply.Volumes setup.seen.volumes))
            → (setup.declared.volumes ≡ []) ⊎ ListsVolumes w.0 setup.seen.volumes
        at (inl h) = inl h.0
        at (inr m) = inr (holds.volumes setup.seen.volumes (among _ m))

    sight : Shown w.0 setup.declared.project setup.seen.containers → (setup.declared.networks ≡ []) ⊎ ListsNetworks w.0 setup.seen.networks
        → (setup.declared.volumes ≡ []) ⊎ ListsVolumes w.0 setup.seen.volumes → IsSightOf setup.declared aim.purpose setup.seen w.0
    sight s n v = record {
      ids = s.ids;
      shown = s.shown;
      all = s.all;
      networks = n;
      volumes = v;
      images = λ up slot m. let i = told.images slot up m in
          (i.0, i.2, holds.images slot.image i.0 (subst (λ (xs : List Exchange). id_told slot.image xs ≡ Some i.0) are i.1));
      sound = told.sound;
    }
