-- What looks and an Engine's own changes leave as it is.
use Rattle.std.proofs.Common.{◌≡◌, ◌⊎◌, ℕ, Bool, true, false, List, [], ◌∷◌, ◌&&◌, map, reverse, ◌++◌, Some, refl, sym, ap, ◌∙◌, subst, inl, inr}
use Rattle.std.proofs.lemmas.List.{reverse-append}
use Rattle.std.proofs.lemmas.Slice.Eq.{bytes_eq-Decides}
use Rattle.std.specs.List.{list_all}
use Rattle.std.specs.Prelude.{if◌then◌else◌}
use Rattle.std.specs.Str.{bytes_eq}
use Rattle.engine_types.specs.declared.ContainerRow.{ContainerRow}
use Rattle.engine_types.specs.declared.ContainerState.{ContainerState}
use Rattle.engine_types.specs.declared.Engine.{Engine}
use Rattle.engine_types.specs.declared.Exchange.{Exchange}
use Rattle.engine_types.specs.declared.Outcome.{Outcome}
use Rattle.engine_types.specs.declared.Reply.{Reply}
use Rattle.engine_types.specs.declared.Report.{Report}
use Rattle.engine_types.specs.declared.Request.{Request}
use Rattle.run_model.specs.EngineRules.{Among, Answers, ChangesItself, SameNetworks, SameVolumes, TurnsInto, container_at, is_lively}
use Rattle.run_model.specs.Labels.{is_lost_state}
use Rattle.run_model.specs.Told.{answered, is_look}
use Rattle.run_model.specs.Worlds.{Effect, FitsLast, FitsSeen}
use Rattle.run_model.proofs.DistinctLists.{among_left, among_right, from_append}

-- an effect as an exchange that was answered
abbrev pub as_exchange : Effect → Exchange
as_exchange effect = answered effect.request effect.reply

-- the effects as exchanges
abbrev pub as_exchanges : List Effect → List Exchange
as_exchanges effects = map as_exchange effects

-- exchanges of which each is a look
abbrev pub AreLooks : List Exchange → Type 0
AreLooks xs = (x : Exchange) → Among xs x → is_look x.request x.outcome ≡ true

module _ {X : Type 0} where
  pub all_among : (p : X → Bool) (xs : List X) (x : X) → list_all p xs ≡ true → Among xs x → p x ≡ true
  all_among p [] x e m = absurd m
  all_among p (y ∷ ys) x e m = at (p y) refl e m (all_among p ys x)
    where
      at : (t : Bool) → p y ≡ t → (t && list_all p ys) ≡ true → (x ≡ y) ⊎ Among ys x → (list_all p ys ≡ true → Among ys x → p x ≡ true) → p x ≡ true
      at true h f (inl same) rest = rw same h
      at true h f (inr n) rest = rest f n
      at false h f n rest = absurd (cc f)

  pub among_reverse : (xs : List X) (x : X) → Among xs x → Among (reverse xs) x
  among_reverse [] x m = absurd m
  among_reverse (y ∷ ys) x m = subst (λ (l : List X). Among l x) (sym (reverse-append (y ∷ []) ys)) (at m (among_reverse ys x))
    where
      at : (x ≡ y) ⊎ Among ys x → (Among ys x → Among (reverse ys) x) → Among (reverse ys ++ y ∷ []) x
      at (inl e) rest = among_right (reverse ys) (y ∷ []) x (inl e)
      at (inr n) rest = among_left (reverse ys) (y ∷ []) x (rest n)

  pub from_reverse : (xs : List X) (x : X) → Among (reverse xs) x → Among xs x
  from_reverse [] x m = absurd m
  from_reverse (y ∷ ys) x m = at (from_append (reverse ys) (y ∷ []) x (subst (λ (l : List X). Among l x) (reverse-append (y ∷ []) ys) m)) (from_reverse ys x)
    where
      at : Among (reverse ys) x ⊎ Among (y ∷ []) x → (Among (reverse ys) x → Among ys x) → (x ≡ y) ⊎ Among ys x
      at (inl n) rest = inr (rest n)
      at (inr (inl e)) rest = inl e
      at (inr (inr n)) rest = absurd n

-- a look was answered
pub look_answered : (request : Request) (outcome : Outcome) → is_look request outcome ≡ true → (reply : Reply) × (outcome ≡ Outcome.Answered reply)
look_answered (Request.ListContainers project) (Outcome.Answered reply) e = (reply, refl)
look_answered _ (Outcome.Answered reply) e = (reply, refl)
look_answered _ _ e = absurd (cc e)

same_exchange : (x : Exchange) (request : Request) (reply : Reply) → x.request ≡ request → x.outcome ≡ Outcome.Answered reply → x ≡ answered request reply
same_exchange x request reply p q = λ i. record { request = p i; outcome = q i }

-- where each exchange is a look, the effects are the exchanges one by one
pub effects_are : (xs : List Exchange) (effects : List Effect) → AreLooks xs → FitsSeen xs effects → xs ≡ as_exchanges effects
effects_are [] effects looks fits = rw fits refl
effects_are (x ∷ xs) effects looks fits =
    let a = look_answered x.request x.outcome (looks x (inl refl)) in
    at a.0 a.1 effects (subst (λ (o : Outcome). FitsLast o x.request (FitsSeen xs) effects) a.1 fits) (λ es. effects_are xs es (λ y m. looks y (inr m)))
  where
    at : (reply : Reply) → x.outcome ≡ Outcome.Answered reply → (es : List Effect) → FitsLast (Outcome.Answered reply) x.request (FitsSeen xs) es
        → ((es : List Effect) → FitsSeen xs es → xs ≡ as_exchanges es) → x ∷ xs ≡ as_exchanges es
    at reply a [] f rest = absurd f
    at reply a (effect ∷ es) f rest =
        ap (λ (y : Exchange). y ∷ xs) (same_exchange x effect.request effect.reply (sym f.0) (a ∙ ap (λ (r : Reply). Outcome.Answered r) (sym f.1)))
        ∙ ap (λ (ys : List Exchange). as_exchange effect ∷ ys) (rest es f.2)

-- a container is another one but for its state, and is on its way out exactly where that one is
pub record IsSame (row now : ContainerRow) : Type 0 where
  pub id : now.id ≡ row.id
  pub labels : now.labels ≡ row.labels
  pub image_id : now.image_id ≡ row.image_id
  pub networks : now.networks ≡ row.networks
  pub lost : is_lost_state now.report.state ≡ is_lost_state row.report.state

pub itself : (row : ContainerRow) → IsSame row row
itself row = record { id = refl; labels = refl; image_id = refl; networks = refl; lost = refl }

-- the second Engine has the containers of the first but for their states, no other, and the same networks and volumes
pub record Keeps (old new : Engine) : Type 0 where
  pub forth : (id : List ℕ) (row : ContainerRow) → container_at old id ≡ Some row → (now : ContainerRow) × (container_at new id ≡ Some now) × IsSame row now
  pub back : (id : List ℕ) (now : ContainerRow) → container_at new id ≡ Some now → (row : ContainerRow) × (container_at old id ≡ Some row) × IsSame row now
  pub networks : SameNetworks old new
  pub volumes : SameVolumes old new

pub kept_same : (old new : Engine) → ((id : List ℕ) → container_at new id ≡ container_at old id) → SameNetworks old new → SameVolumes old new → Keeps old new
kept_same old new same networks volumes = record {
  forth = λ id row e. (row, same id ∙ e, itself row);
  back = λ id now e. (now, sym (same id) ∙ e, itself now);
  networks = networks;
  volumes = volumes;
}

pub unchanged : (old new : Engine) → new ≡ old → Keeps old new
unchanged old new e = subst (λ (engine : Engine). Keeps old engine) (sym e) (kept_same old old (λ id. refl) (λ id. refl) (λ name. refl))

-- a state that an Engine leaves by itself is none of those on the way out
lively_stays : (state : ContainerState) → is_lively state ≡ true → is_lost_state state ≡ false
lively_stays ContainerState.Running e = refl
lively_stays ContainerState.Restarting e = refl
lively_stays ContainerState.Exited e = refl
lively_stays _ e = absurd (cc e)

turned : (old new : Report) → TurnsInto old new → is_lost_state new.state ≡ is_lost_state old.state
turned old new (inl h) = lively_stays new.state h.1 ∙ sym (lively_stays old.state h.0)
turned old new (inr h) = ap (λ (report : Report). is_lost_state report.state) h.1

-- an own change keeps
pub own_keeps : (old new : Engine) → ChangesItself old new → Keeps old new
own_keeps old new own = record {
  forth = λ id row e. forth id row e (bytes_eq own.id id) refl;
  back = λ id now e. back id now e (bytes_eq own.id id) refl;
  networks = own.changes.networks;
  volumes = own.changes.volumes;
}
  where
    after : ContainerRow
    after = record own.row { report = own.report }

    changed : IsSame own.row after
    changed = record { id = refl; labels = refl; image_id = refl; networks = refl; lost = turned own.row.report own.report own.turns }

    put : (id : List ℕ) (t : Bool) → bytes_eq own.id id ≡ t → container_at new id ≡ (if t then Some after else container_at old id)
    put id t h = own.changes.containers id ∙ ap (λ (b : Bool). if b then Some after else container_at old id) h

    here : (id : List ℕ) → bytes_eq own.id id ≡ true → container_at old id ≡ Some own.row
    here id h = subst (λ (i : List ℕ). container_at old i ≡ Some own.row) ((bytes_eq-Decides own.id id).0 h) own.was

    forth : (id : List ℕ) (row : ContainerRow) → container_at old id ≡ Some row → (t : Bool) → bytes_eq own.id id ≡ t
        → (now : ContainerRow) × (container_at new id ≡ Some now) × IsSame row now
    forth id row e true h =
        let same : Some own.row ≡ Some row = sym (here id h) ∙ e in
        let one : own.row ≡ row = cc same in (after, put id true h, subst (λ (r : ContainerRow). IsSame r after) one changed)
    forth id row e false h = (row, put id false h ∙ e, itself row)

    back : (id : List ℕ) (now : ContainerRow) → container_at new id ≡ Some now → (t : Bool) → bytes_eq own.id id ≡ t
        → (row : ContainerRow) × (container_at old id ≡ Some row) × IsSame row now
    back id now e true h =
        let same : Some after ≡ Some now = sym (put id true h) ∙ e in
        let one : after ≡ now = cc same in (own.row, here id h, subst (λ (r : ContainerRow). IsSame own.row r) one changed)
    back id now e false h = (now, sym (put id false h) ∙ e, itself now)

-- a look keeps
pub look_keeps : (request : Request) (reply : Reply) (old new : Engine) → is_look request (Outcome.Answered reply) ≡ true → Answers old request reply new → Keeps old new
look_keeps (Request.ListContainers project) (Reply.Refused status message) old new l h = unchanged old new h
look_keeps (Request.ListContainers project) (Reply.Containers rows) old new l h = unchanged old new h.1
look_keeps (Request.ListContainers project) _ old new l h = absurd h
look_keeps Request.ListNetworks (Reply.Refused status message) old new l h = unchanged old new h
look_keeps Request.ListNetworks (Reply.Networks rows) old new l h = unchanged old new h.1
look_keeps Request.ListNetworks _ old new l h = absurd h
look_keeps Request.ListVolumes (Reply.Refused status message) old new l h = unchanged old new h
look_keeps Request.ListVolumes (Reply.Volumes names) old new l h = unchanged old new h.1
look_keeps Request.ListVolumes _ old new l h = absurd h
look_keeps (Request.Image name) (Reply.Refused status message) old new l h = unchanged old new h
look_keeps (Request.Image name) (Reply.ImageId id) old new l h = unchanged old new h.1
look_keeps (Request.Image name) _ old new l h = absurd h
look_keeps (Request.Pull name) (Reply.Refused status message) old new l h = unchanged old new h
look_keeps (Request.Pull name) (Reply.PullFailed message) old new l h = unchanged old new h
look_keeps (Request.Pull name) Reply.Pulled old new l h = kept_same old new h.1.containers h.1.networks h.1.volumes
look_keeps (Request.Pull name) _ old new l h = absurd h
look_keeps _ reply old new l h = absurd (cc l)
