-- A live container stays live until it is stopped, and what a listing showed live is live.
use Rattle.std.proofs.Common.{◌≡◌, ◌⊎◌, ℕ, Bool, true, false, not, List, [], ◌∷◌, Option, Some, None, refl, sym, ap, ◌∙◌, subst, inl, inr}
use Rattle.std.proofs.lemmas.Bool.{both_ways}
use Rattle.std.proofs.lemmas.Slice.Eq.{bytes_eq-Decides}
use Rattle.std.specs.Prelude.{if◌then◌else◌}
use Rattle.std.specs.Str.{bytes_eq}
use Rattle.tree_base.specs.declared.Var.{Var}
use Rattle.engine_types.specs.declared.ContainerRow.{ContainerRow}
use Rattle.engine_types.specs.declared.ContainerState.{ContainerState}
use Rattle.engine_types.specs.declared.Engine.{Engine}
use Rattle.engine_types.specs.declared.Exchange.{Exchange}
use Rattle.engine_types.specs.declared.Listed.{Listed}
use Rattle.engine_types.specs.declared.Outcome.{Outcome}
use Rattle.engine_types.specs.declared.Reply.{Reply}
use Rattle.engine_types.specs.declared.Request.{Request}
use Rattle.run_model.specs.EngineRules.{Among, Answers, container_at, created_row, is_live, is_started, started_row, stopped_row}
use Rattle.run_model.specs.Journals.{Setup, is_good}
use Rattle.engine_types.specs.declared.ActionKind.TheVariants.{StartSlot}
use Rattle.run_model.specs.Requests.{OfAction, OfPoll, OfSeen}
use Rattle.run_model.specs.Told.{answered, is_look}
use Rattle.run_model.specs.Worlds.{Changed, Did, Effect, Move, Took, World, entries_of, seen_effects}
use Rattle.run_model.proofs.RequestLemmas.{same_text}
use Rattle.world_laws.proofs.Looks.{AreLooks, as_exchanges}
use Rattle.rolling_update.specs.Filled.{IsUndisturbed}
use Rattle.rolling_update.specs.Moments.{is_stop_of}

-- a live container with these labels is at the id
pub record IsLiveAt (engine : Engine) (id : List ℕ) (labels : List Var) : Type 0 where
  pub row : ContainerRow
  pub is_there : container_at engine id ≡ Some row
  pub labels_are : row.labels ≡ labels
  pub live : is_live row.report.state ≡ true

module _ (old new : Engine) (id : List ℕ) (labels : List Var) (x : IsLiveAt old id labels) where
  -- it stays where the Engine has the same container there
  still : container_at new id ≡ container_at old id → IsLiveAt new id labels
  still e = record { row = x.row; is_there = e ∙ x.is_there; labels_are = x.labels_are; live = x.live }

  same : new ≡ old → IsLiveAt new id labels
  same e = still (ap (λ (engine : Engine). container_at engine id) e)

  -- it stays where one at another id changed
  apart : (i : List ℕ) (now : Option ContainerRow) → container_at new id ≡ (if bytes_eq i id then now else container_at old id) → bytes_eq i id ≡ false → IsLiveAt new id labels
  apart i now e h = still (e ∙ ap (λ (t : Bool). if t then now else container_at old id) h)

  -- it becomes another one that is live and has its labels
  becomes : (i : List ℕ) (was now : ContainerRow) → container_at old i ≡ Some was → container_at new id ≡ (if bytes_eq i id then Some now else container_at old id)
      → now.labels ≡ was.labels → (is_live was.report.state ≡ true → is_live now.report.state ≡ true) → IsLiveAt new id labels
  becomes i was now there e named lives = at (bytes_eq i id) refl
    where
      at : (t : Bool) → bytes_eq i id ≡ t → IsLiveAt new id labels
      at false h = apart i (Some now) e h
      at true h =
          let here : container_at old id ≡ Some was = subst (λ (j : List ℕ). container_at old j ≡ Some was) ((bytes_eq-Decides i id).0 h) there in
          let both : Some was ≡ Some x.row = sym here ∙ x.is_there in
          let one : was ≡ x.row = cc both in
          record {
            row = now;
            is_there = e ∙ ap (λ (t : Bool). if t then Some now else container_at old id) h;
            labels_are = named ∙ ap (λ (row : ContainerRow). row.labels) one ∙ x.labels_are;
            live = lives (ap (λ (row : ContainerRow). is_live row.report.state) one ∙ x.live);
          }

  -- what isn't there, or isn't live, stands elsewhere
  not_free : (i : List ℕ) → container_at old i ≡ None → bytes_eq i id ≡ false
  not_free i none = at (bytes_eq i id) refl
    where
      at : (t : Bool) → bytes_eq i id ≡ t → bytes_eq i id ≡ false
      at false h = h
      at true h =
          let here : container_at old id ≡ None = subst (λ (j : List ℕ). container_at old j ≡ None) ((bytes_eq-Decides i id).0 h) none in
          let bad : None ≡ Some x.row = sym here ∙ x.is_there in absurd (cc bad)

  not_resting : (i : List ℕ) (was : ContainerRow) → container_at old i ≡ Some was → not (is_live was.report.state) ≡ true → bytes_eq i id ≡ false
  not_resting i was there rests = at (bytes_eq i id) refl
    where
      at : (t : Bool) → bytes_eq i id ≡ t → bytes_eq i id ≡ false
      at false h = h
      at true h =
          let here : container_at old id ≡ Some was = subst (λ (j : List ℕ). container_at old j ≡ Some was) ((bytes_eq-Decides i id).0 h) there in
          let both : Some was ≡ Some x.row = sym here ∙ x.is_there in
          let one : was ≡ x.row = cc both in
          let bad : false ≡ true = sym (ap not (ap (λ (row : ContainerRow). is_live row.report.state) one ∙ x.live)) ∙ rests in absurd (cc bad)

  not_it : (i : List ℕ) → bytes_eq id i ≡ false → bytes_eq i id ≡ false
  not_it i e = at (bytes_eq i id) refl
    where
      at : (t : Bool) → bytes_eq i id ≡ t → bytes_eq i id ≡ false
      at false h = h
      at true h = absurd (both_ways (bytes_eq id i) e ((bytes_eq-Decides id i).1 (sym ((bytes_eq-Decides i id).0 h))))

  -- a live container stays live unless it is stopped
  pub stays_live : (request : Request) (reply : Reply) → Answers old request reply new → is_stop_of id request reply ≡ false → IsLiveAt new id labels
  stays_live request (Reply.Refused status message) h e = same h
  stays_live (Request.ListContainers project) (Reply.Containers rows) h e = same h.1
  stays_live (Request.Inspect i) (Reply.State report) h e = same h.1
  stays_live (Request.Logs i) (Reply.Bytes bytes) h e = same h.1
  stays_live (Request.Create name spec) (Reply.Made i) h e =
      apart i (Some (created_row i name spec h.image h.networks)) (h.changes.containers id) (not_free i h.fresh)
  stays_live (Request.Start i) Reply.Done h e = becomes i h.row (started_row h.row) h.was (h.changes.containers id) refl (λ live. refl)
  stays_live (Request.Start i) Reply.Already h e = same h.same
  stays_live (Request.Stop i seconds) Reply.Done h e = apart i (Some (stopped_row h.row)) (h.changes.containers id) (not_it i e)
  stays_live (Request.Stop i seconds) Reply.Already h e = same h.same
  stays_live (Request.Remove i) Reply.Done h e = apart i None (h.changes.containers id) (not_resting i h.row h.was h.could)
  stays_live Request.ListNetworks (Reply.Networks rows) h e = same h.1
  stays_live (Request.MakeNetwork spec) (Reply.Made i) h e = still (h.1.containers id)
  stays_live (Request.Connect network i aliases) Reply.Done h e =
      becomes i h.row (record h.row { networks = h.networks }) h.was (h.changes.containers id) refl (λ live. live)
  stays_live (Request.RemoveNetwork i) Reply.Done h e = still (h.2.containers id)
  stays_live Request.ListVolumes (Reply.Volumes names) h e = same h.1
  stays_live (Request.MakeVolume spec) Reply.Done h e = still (h.containers id)
  stays_live (Request.RemoveVolume name) Reply.Done h e = still (h.2.containers id)
  stays_live (Request.Image name) (Reply.ImageId i) h e = same h.1
  stays_live (Request.Pull name) Reply.Pulled h e = still (h.1.containers id)
  stays_live (Request.Pull name) (Reply.PullFailed message) h e = same h
  stays_live _ _ h e = absurd h

-- a container that is found started is live
started_lives : (state : ContainerState) → is_started state ≡ true → is_live state ≡ true
started_lives ContainerState.Running e = refl
started_lives ContainerState.Restarting e = refl
started_lives _ e = absurd (cc e)

-- what was started well is live
pub start_lives : (old new : Engine) (id : List ℕ) (row : ContainerRow) (s : ℕ) (reply : Reply) → container_at old id ≡ Some row → Answers old (Request.Start id) reply new
    → is_good (StartSlot s) reply ≡ true → IsLiveAt new id row.labels
start_lives old new id row s Reply.Done there h good =
    let both : Some h.row ≡ Some row = sym h.was ∙ there in
    let one : h.row ≡ row = cc both in
    record {
      row = started_row h.row;
      is_there = h.changes.containers id ∙ ap (λ (t : Bool). if t then Some (started_row h.row) else container_at old id) (same_text id);
      labels_are = ap (λ (r : ContainerRow). r.labels) one;
      live = refl;
    }
start_lives old new id row s Reply.Already there h good =
    let both : Some h.row ≡ Some row = sym h.was ∙ there in
    let one : h.row ≡ row = cc both in
    record {
      row = row;
      is_there = ap (λ (engine : Engine). container_at engine id) h.same ∙ there;
      labels_are = refl;
      live = started_lives row.report.state (ap (λ (r : ContainerRow). is_started r.report.state) (sym one) ∙ h.could);
    }
start_lives old new id row s _ there h good = absurd (cc good)

-- a look stops nothing
look_spares : (id : List ℕ) (request : Request) (reply : Reply) → is_look request (Outcome.Answered reply) ≡ true → is_stop_of id request reply ≡ false
look_spares id (Request.Stop other seconds) reply e = absurd (cc e)
look_spares id _ reply e = refl

-- what a listing of the observation showed live is live at each moment of the observation after it
module _ (setup : Setup) (first : Engine) (project : List ℕ) (rows : List Listed) (listed : Listed) (m : Among rows listed) (live : is_live listed.state ≡ true) where
  abbrev listing : Exchange
  listing = answered (Request.ListContainers project) (Reply.Containers rows)

  -- at the listing
  shown : (old new : Engine) (request : Request) (reply : Reply) → listing ≡ answered request reply → Answers old request reply new → IsLiveAt new listed.id listed.labels
  shown old new request reply e h =
      let asks : Request.ListContainers project ≡ request = ap (λ (x : Exchange). x.request) e in
      let told : Outcome.Answered (Reply.Containers rows) ≡ Outcome.Answered reply = ap (λ (x : Exchange). x.outcome) e in
      let tells : Reply.Containers rows ≡ reply = cc told in
      let answers : Answers old (Request.ListContainers project) (Reply.Containers rows) new
      = subst (λ (q : Request). Answers old q (Reply.Containers rows) new) (sym asks) (subst (λ (r : Reply). Answers old request r new) (sym tells) h) in
      let s = answers.0.shown listed m in
      record {
        row = s.0;
        is_there = ap (λ (engine : Engine). container_at engine listed.id) answers.1 ∙ s.1;
        labels_are = sym s.3.labels;
        live = ap is_live (sym s.3.state) ∙ live;
      }

  pub listed_lives : (moves : List Move) (last : Engine) → World setup first moves last → entries_of moves ≡ [] → AreLooks (as_exchanges (seen_effects moves)) → IsUndisturbed moves
      → Among (as_exchanges (seen_effects moves)) listing → IsLiveAt last listed.id listed.labels
  listed_lives [] last w e looks still n = absurd n
  listed_lives (Did entry ∷ moves) last w e looks still n = absurd (cc e)
  listed_lives (Took (OfAction a) request reply ∷ moves) last w e looks still n = let bad = rw e at w.2.0.may_act.0 in absurd (cc bad)
  listed_lives (Took (OfPoll k) request reply ∷ moves) last w e looks still n = let bad = rw e at w.2.0.may_act.0 in absurd (cc bad)
  listed_lives (Took (OfSeen i) request reply ∷ moves) last w e looks still n = at n (listed_lives moves w.0 w.1 e (λ x k. looks x (inr k)) still)
    where
      at : (listing ≡ answered request reply) ⊎ Among (as_exchanges (seen_effects moves)) listing
          → (Among (as_exchanges (seen_effects moves)) listing → IsLiveAt w.0 listed.id listed.labels) → IsLiveAt last listed.id listed.labels
      at (inl here) rest = shown w.0 last request reply here w.2.1
      at (inr k) rest = stays_live w.0 last listed.id listed.labels (rest k) request reply w.2.1
          (look_spares listed.id request reply (looks (answered request reply) (inl refl)))
  listed_lives (Changed ∷ moves) last w e looks still n =
      let none : Among (as_exchanges []) listing = subst (λ (es : List Effect). Among (as_exchanges es) listing) still n in absurd none
