-- What an answer of the Engine, or a change of its own, does to the containers.
use Rattle.std.proofs.Common.{◌≡◌, ℕ, Bool, true, false, ◌||◌, List, Option, Some, None, refl, sym, ap, ◌∙◌, subst, inl, inr}
use Rattle.std.proofs.lemmas.Slice.Eq.{bytes_eq-Decides}
use Rattle.std.specs.List.{list_any}
use Rattle.std.specs.Prelude.{if◌then◌else◌}
use Rattle.std.specs.Str.{bytes_eq}
use Rattle.engine_types.specs.declared.ContainerRow.{ContainerRow}
use Rattle.engine_types.specs.declared.ContainerSpec.{ContainerSpec}
use Rattle.engine_types.specs.declared.ContainerState.{ContainerState}
use Rattle.engine_types.specs.declared.Engine.{Engine}
use Rattle.engine_types.specs.declared.Reply.{Reply}
use Rattle.engine_types.specs.declared.Report.{Report}
use Rattle.engine_types.specs.declared.Request.{Request}
use Rattle.run_model.specs.EngineRules.{Answers, ChangesItself, Connects, Creates, SameContainers, TurnsInto, can_start, container_at, is_live, is_lively, is_on, network_has_name, started_row, stopped_row}
use Rattle.run_model.specs.Labels.{is_lost_state}
use Rattle.run_model.proofs.KeptLaws.{any_from_list, any_of_list}
use Rattle.run_model.proofs.RequestLemmas.{same_text}
use Rattle.world_laws.proofs.Keeping.{KeepsResources, named_stays}

-- a container is as it was: its labels, its image, whether it is on its way out, and at least the networks that it was on
pub record IsAlike (old new : ContainerRow) : Type 0 where
  pub labels : new.labels ≡ old.labels
  pub image_id : new.image_id ≡ old.image_id
  pub lost : is_lost_state new.report.state ≡ is_lost_state old.report.state
  pub networks : (n : List ℕ) → is_on n old ≡ true → is_on n new ≡ true

-- the container is as it was, or there is none still
abbrev pub AlikeAt : Option ContainerRow → Option ContainerRow → Type 0
AlikeAt None None = Unit {0}
AlikeAt (Some old) (Some new) = IsAlike old new
AlikeAt _ _ = ⊥

-- each container is as it was
abbrev pub KeepsContainers : Engine → Engine → Type 0
KeepsContainers old new = (i : List ℕ) → AlikeAt (container_at old i) (container_at new i)

alike : (row : ContainerRow) → IsAlike row row
alike row = record { labels = refl; image_id = refl; lost = refl; networks = λ n e. e }

pub alike_at : (o : Option ContainerRow) → AlikeAt o o
alike_at None = tt
alike_at (Some row) = alike row

keeps_same : (old new : Engine) → new ≡ old → KeepsContainers old new
keeps_same old new e i = subst (λ (x : Engine). AlikeAt (container_at old i) (container_at x i)) (sym e) (alike_at (container_at old i))

keeps_others : (old new : Engine) → SameContainers old new → KeepsContainers old new
keeps_others old new same i = subst (λ (o : Option ContainerRow). AlikeAt (container_at old i) o) (sym (same i)) (alike_at (container_at old i))

-- one container became another that is like it
keeps_put : (old new : Engine) (id : List ℕ) (row now : ContainerRow) → container_at old id ≡ Some row → IsAlike row now
    → ((i : List ℕ) → container_at new i ≡ (if bytes_eq id i then Some now else container_at old i)) → KeepsContainers old new
keeps_put old new id row now was like puts i = at (bytes_eq id i) refl (puts i)
  where
    at : (t : Bool) → bytes_eq id i ≡ t → container_at new i ≡ (if t then Some now else container_at old i) → AlikeAt (container_at old i) (container_at new i)
    at false h e = subst (λ (o : Option ContainerRow). AlikeAt (container_at old i) o) (sym e) (alike_at (container_at old i))
    at true h e =
        let here : container_at old i ≡ Some row = subst (λ (x : List ℕ). container_at old x ≡ Some row) ((bytes_eq-Decides id i).0 h) was in
        rw (here, e) like

-- a live container isn't on its way out, nor is one that may be started, or that changes by itself
live_stays : (s : ContainerState) → is_live s ≡ true → is_lost_state s ≡ false
live_stays ContainerState.Dead e = absurd (cc e)
live_stays ContainerState.Removing e = absurd (cc e)
live_stays _ e = refl

startable_stays : (s : ContainerState) → can_start s ≡ true → is_lost_state s ≡ false
startable_stays ContainerState.Dead e = absurd (cc e)
startable_stays ContainerState.Removing e = absurd (cc e)
startable_stays _ e = refl

lively_stays : (s : ContainerState) → is_lively s ≡ true → is_lost_state s ≡ false
lively_stays ContainerState.Dead e = absurd (cc e)
lively_stays ContainerState.Removing e = absurd (cc e)
lively_stays _ e = refl

with_report : (row : ContainerRow) (report : Report) → is_lost_state report.state ≡ is_lost_state row.report.state → IsAlike row (record row { report = report })
with_report row report e = record { labels = refl; image_id = refl; lost = e; networks = λ n h. h }

-- whether an answer makes a container, and whether one takes it away
abbrev pub is_making : Request → Reply → Bool
is_making (Request.Create name spec) (Reply.Made id) = true
is_making _ _ = false

abbrev pub is_taking : Request → Reply → Bool
is_taking (Request.Remove id) Reply.Done = true
is_taking _ _ = false

-- what an answer does to the containers: it leaves them as they were, makes one, or takes one away
pub data Turn (old : Engine) (request : Request) (reply : Reply) (new : Engine) : Type 0 where
  Keeps : is_making request reply ≡ false → is_taking request reply ≡ false → KeepsContainers old new → Turn old request reply new
  Makes : (name : List ℕ) (spec : ContainerSpec) (id : List ℕ) → request ≡ Request.Create name spec → reply ≡ Reply.Made id → Creates old new name spec id
      → Turn old request reply new
  Takes : (id : List ℕ) → request ≡ Request.Remove id → reply ≡ Reply.Done
      → ((i : List ℕ) → container_at new i ≡ (if bytes_eq id i then None else container_at old i)) → Turn old request reply new

joins_alike : (old new : Engine) (network container : List ℕ) (c : Connects old new network container) → IsAlike c.row (record c.row { networks = c.networks })
joins_alike old new network container c = record { labels = refl; image_id = refl; lost = refl; networks = λ n e. on n (bytes_eq n network) (c.joined n) e }
  where
    on : (n : List ℕ) (t : Bool) → list_any (bytes_eq n) c.networks ≡ (t || list_any (bytes_eq n) c.row.networks) → list_any (bytes_eq n) c.row.networks ≡ true
        → list_any (bytes_eq n) c.networks ≡ true
    on n true e h = e
    on n false e h = e ∙ h

pub turn : (old : Engine) (request : Request) (reply : Reply) (new : Engine) → Answers old request reply new → Turn old request reply new
turn old (Request.ListContainers project) (Reply.Containers rows) new h = Keeps refl refl (keeps_same old new h.1)
turn old (Request.ListContainers project) (Reply.Refused status message) new h = Keeps refl refl (keeps_same old new h)
turn old (Request.ListContainers project) _ new h = absurd h
turn old (Request.Inspect id) (Reply.State report) new h = Keeps refl refl (keeps_same old new h.1)
turn old (Request.Inspect id) (Reply.Refused status message) new h = Keeps refl refl (keeps_same old new h)
turn old (Request.Inspect id) _ new h = absurd h
turn old (Request.Logs id) (Reply.Bytes bytes) new h = Keeps refl refl (keeps_same old new h.1)
turn old (Request.Logs id) (Reply.Refused status message) new h = Keeps refl refl (keeps_same old new h)
turn old (Request.Logs id) _ new h = absurd h
turn old (Request.Create name spec) (Reply.Made id) new h = Makes name spec id refl refl h
turn old (Request.Create name spec) (Reply.Refused status message) new h = Keeps refl refl (keeps_same old new h)
turn old (Request.Create name spec) _ new h = absurd h
turn old (Request.Start id) Reply.Done new h = Keeps refl refl (keeps_put old new id h.row (started_row h.row) h.was
    (with_report h.row (started_row h.row).report (sym (startable_stays h.row.report.state h.could))) h.changes.containers)
turn old (Request.Start id) Reply.Already new h = Keeps refl refl (keeps_same old new h.same)
turn old (Request.Start id) (Reply.Refused status message) new h = Keeps refl refl (keeps_same old new h)
turn old (Request.Start id) _ new h = absurd h
turn old (Request.Stop id seconds) Reply.Done new h = Keeps refl refl (keeps_put old new id h.row (stopped_row h.row) h.was
    (with_report h.row (stopped_row h.row).report (sym (live_stays h.row.report.state h.could))) h.changes.containers)
turn old (Request.Stop id seconds) Reply.Already new h = Keeps refl refl (keeps_same old new h.same)
turn old (Request.Stop id seconds) (Reply.Refused status message) new h = Keeps refl refl (keeps_same old new h)
turn old (Request.Stop id seconds) _ new h = absurd h
turn old (Request.Remove id) Reply.Done new h = Takes id refl refl h.changes.containers
turn old (Request.Remove id) (Reply.Refused status message) new h = Keeps refl refl (keeps_same old new h)
turn old (Request.Remove id) _ new h = absurd h
turn old Request.ListNetworks (Reply.Networks rows) new h = Keeps refl refl (keeps_same old new h.1)
turn old Request.ListNetworks (Reply.Refused status message) new h = Keeps refl refl (keeps_same old new h)
turn old Request.ListNetworks _ new h = absurd h
turn old (Request.MakeNetwork spec) (Reply.Made id) new h = Keeps refl refl (keeps_others old new h.1.containers)
turn old (Request.MakeNetwork spec) (Reply.Refused status message) new h = Keeps refl refl (keeps_same old new h)
turn old (Request.MakeNetwork spec) _ new h = absurd h
turn old (Request.Connect network container aliases) Reply.Done new h = Keeps refl refl (keeps_put old new container h.row (record h.row { networks = h.networks }) h.was
    (joins_alike old new network container h) h.changes.containers)
turn old (Request.Connect network container aliases) (Reply.Refused status message) new h = Keeps refl refl (keeps_same old new h)
turn old (Request.Connect network container aliases) _ new h = absurd h
turn old (Request.RemoveNetwork id) Reply.Done new h = Keeps refl refl (keeps_others old new h.2.containers)
turn old (Request.RemoveNetwork id) (Reply.Refused status message) new h = Keeps refl refl (keeps_same old new h)
turn old (Request.RemoveNetwork id) _ new h = absurd h
turn old Request.ListVolumes (Reply.Volumes names) new h = Keeps refl refl (keeps_same old new h.1)
turn old Request.ListVolumes (Reply.Refused status message) new h = Keeps refl refl (keeps_same old new h)
turn old Request.ListVolumes _ new h = absurd h
turn old (Request.MakeVolume spec) Reply.Done new h = Keeps refl refl (keeps_others old new h.containers)
turn old (Request.MakeVolume spec) (Reply.Refused status message) new h = Keeps refl refl (keeps_same old new h)
turn old (Request.MakeVolume spec) _ new h = absurd h
turn old (Request.RemoveVolume name) Reply.Done new h = Keeps refl refl (keeps_others old new h.2.containers)
turn old (Request.RemoveVolume name) (Reply.Refused status message) new h = Keeps refl refl (keeps_same old new h)
turn old (Request.RemoveVolume name) _ new h = absurd h
turn old (Request.Image name) (Reply.ImageId id) new h = Keeps refl refl (keeps_same old new h.1)
turn old (Request.Image name) (Reply.Refused status message) new h = Keeps refl refl (keeps_same old new h)
turn old (Request.Image name) _ new h = absurd h
turn old (Request.Pull name) Reply.Pulled new h = Keeps refl refl (keeps_others old new h.1.containers)
turn old (Request.Pull name) (Reply.PullFailed message) new h = Keeps refl refl (keeps_same old new h)
turn old (Request.Pull name) (Reply.Refused status message) new h = Keeps refl refl (keeps_same old new h)
turn old (Request.Pull name) _ new h = absurd h

-- a change of the Engine's own leaves the containers as they were
pub itself_keeps : (old new : Engine) → ChangesItself old new → KeepsContainers old new
itself_keeps old new c = keeps_put old new c.id c.row (record c.row { report = c.report }) c.was (with_report c.row c.report (lost c.turns)) c.changes.containers
  where
    lost : TurnsInto c.row.report c.report → is_lost_state c.report.state ≡ is_lost_state c.row.report.state
    lost (inl t) = lively_stays c.report.state t.1 ∙ sym (lively_stays c.row.report.state t.0)
    lost (inr t) = ap (λ (r : Report). is_lost_state r.state) t.1

-- a container that is like the one before is on a network with each name that that one had
pub on_named : (old new : Engine) (name : List ℕ) (row now : ContainerRow) → KeepsResources old new → IsAlike row now
    → list_any (network_has_name old name) row.networks ≡ true → list_any (network_has_name new name) now.networks ≡ true
on_named old new name row now keeps like e =
    let r = any_from_list (network_has_name old name) row.networks e in
    let q = any_from_list (bytes_eq r.0) now.networks (like.networks r.0 (any_of_list (bytes_eq r.0) row.networks r.0 r.1 (same_text r.0))) in
    any_of_list (network_has_name new name) now.networks q.0 q.1
    (subst (λ (i : List ℕ). network_has_name new name i ≡ true) ((bytes_eq-Decides r.0 q.0).0 q.2) (named_stays old new keeps name r.0 r.2))
