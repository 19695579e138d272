-- The judgement of what was listed, item by item; its faults tell of no exchange.
use Rattle.std.proofs.Common.{◌≡◌, ℕ, is_some, Bool, true, false, cond, not, ◌&&◌, List, [], ◌∷◌, filter, find, Option, Some, None, slice_get, refl, sym, ap, ◌∙◌, subst}
use Rattle.std.specs.List.{list_any}
use Rattle.std.specs.Option.{option_or}
use Rattle.std.specs.Str.{bytes_eq}
use Rattle.engine_types.specs.Labels as the
use Rattle.engine_types.specs.declared.Declared.{Declared}
use Rattle.engine_types.specs.declared.Exchange.{Exchange}
use Rattle.engine_types.specs.declared.Kind.{Kind}
use Rattle.engine_types.specs.declared.NetRow.{NetRow}
use Rattle.engine_types.specs.declared.NetworkSpec.{NetworkSpec}
use Rattle.engine_types.specs.declared.Purpose.{Purpose}
use Rattle.engine_types.specs.declared.Seen.{Seen}
use Rattle.engine_types.specs.declared.SeenEnd.{SeenEnd}
use Rattle.engine_types.specs.declared.SeenFault.{SeenFault}
use Rattle.engine_types.specs.declared.VolumeSpec.{VolumeSpec}
use Rattle.run_model.specs.EngineRules.{has_label}
use Rattle.run_model.specs.Observation.{Ends, after_judging, first_in, is_up, judging, listing_fault, network_fault, volume_fault}
use Rattle.tree_base.specs.ByteOrder.{by_key}
use Rattle.outside_api.specs.Hands.{Heard}
use Rattle.observe_project.specs.Exchanges.{HasCauseOfFault}
use Rattle.observe_project.specs.LeastRows.{fault_by, foreign_fault, missing_fault}
use Rattle.observe_project.specs.Reading.{is_missing}

-- the rows of a name, in byte order of their ids
abbrev pub named : NetworkSpec → List NetRow → List NetRow
named network rows = by_key (λ row. row.id) (filter (λ row. bytes_eq network.name row.name) rows)

module _ (declared : Declared) (purpose : Purpose) (rows : List NetRow) (network : NetworkSpec) where
  pub fault-none : named network rows ≡ [] → network_fault declared purpose rows network ≡ missing_fault purpose network
  fault-none e = rw e refl

  pub fault-one : (row : NetRow) → named network rows ≡ row ∷ [] → network_fault declared purpose rows network ≡ foreign_fault declared network row
  fault-one row e = rw e refl

  pub fault-two : (row other : NetRow) (rest : List NetRow) → named network rows ≡ row ∷ other ∷ rest
      → network_fault declared purpose rows network ≡ Some (SeenFault.NetworkTwice network.name row.id other.id)
  fault-two row other rest e = rw e refl

pub fault-by : (declared : Declared) (purpose : Purpose) (rows : List NetRow) (network : NetworkSpec) (first second : Option NetRow)
    → first ≡ slice_get (named network rows) 0 → second ≡ slice_get (named network rows) 1
    → network_fault declared purpose rows network ≡ fault_by declared purpose network first second
fault-by declared purpose rows network first second e f =
    at (named network rows) refl ∙ ap (λ o. fault_by declared purpose network o (slice_get (named network rows) 1)) (sym e) ∙ ap (fault_by declared purpose network first) (sym f)
  where
    at : (found : List NetRow) → named network rows ≡ found
        → network_fault declared purpose rows network ≡ fault_by declared purpose network (slice_get (named network rows) 0) (slice_get (named network rows) 1)
    at [] g = fault-none declared purpose rows network g ∙ ap (λ l. fault_by declared purpose network (slice_get l 0) (slice_get l 1)) (sym g)
    at (row ∷ []) g = fault-one declared purpose rows network row g ∙ ap (λ l. fault_by declared purpose network (slice_get l 0) (slice_get l 1)) (sym g)
    at (row ∷ other ∷ rest) g = fault-two declared purpose rows network row other rest g ∙ ap (λ l. fault_by declared purpose network (slice_get l 0) (slice_get l 1)) (sym g)

-- a fault that tells of no exchange
abbrev pub NeedsNoCause : SeenFault → Type 0
NeedsNoCause fault = (heard : Option (List Heard)) (old new : ℕ) → HasCauseOfFault heard old new fault

no_cause_if : (b : Bool) (expected fault : SeenFault) → NeedsNoCause expected → cond b (Some expected) None ≡ Some fault → NeedsNoCause fault
no_cause_if true expected fault h e = let same : expected ≡ fault = cc e in subst NeedsNoCause same h
no_cause_if false expected fault h e = absurd (cc e)

no_cause_unless : (b c : Bool) (expected fault : SeenFault) → NeedsNoCause expected → cond b None (cond c None (Some expected)) ≡ Some fault → NeedsNoCause fault
no_cause_unless true c expected fault h e = absurd (cc e)
no_cause_unless false true expected fault h e = absurd (cc e)
no_cause_unless false false expected fault h e = let same : expected ≡ fault = cc e in subst NeedsNoCause same h

no_cause_by : (declared : Declared) (purpose : Purpose) (network : NetworkSpec) (first second : Option NetRow) (fault : SeenFault)
    → fault_by declared purpose network first second ≡ Some fault → NeedsNoCause fault
no_cause_by declared purpose network None second fault e =
    no_cause_if (network.external && is_up purpose) (SeenFault.ExternalMissing Kind.Network network.name) fault (λ heard old new. tt) e
no_cause_by declared purpose network (Some row) None fault e =
    no_cause_unless network.external (has_label row.labels the.project_label declared.project) (SeenFault.ForeignNetwork network.name row.id) fault (λ heard old new. tt) e
no_cause_by declared purpose network (Some row) (Some other) fault e =
    let same : SeenFault.NetworkTwice network.name row.id other.id ≡ fault = cc e in subst NeedsNoCause same (λ heard old new. tt)

no_cause_network : (declared : Declared) (purpose : Purpose) (rows : List NetRow) (network : NetworkSpec) (fault : SeenFault)
    → network_fault declared purpose rows network ≡ Some fault → NeedsNoCause fault
no_cause_network declared purpose rows network fault e =
    no_cause_by declared purpose network (slice_get (named network rows) 0) (slice_get (named network rows) 1) fault
    (sym (fault-by declared purpose rows network (slice_get (named network rows) 0) (slice_get (named network rows) 1) refl refl) ∙ e)

no_cause_volume : (purpose : Purpose) (names : List (List ℕ)) (volume : VolumeSpec) (fault : SeenFault) → volume_fault purpose names volume ≡ Some fault → NeedsNoCause fault
no_cause_volume purpose names volume fault e =
    no_cause_if (volume.external && is_up purpose && not (list_any (bytes_eq volume.name) names)) (SeenFault.ExternalMissing Kind.Volume volume.name) fault (λ heard old new. tt) e

no_cause_or : (one other : Option SeenFault) (fault : SeenFault) → ((f : SeenFault) → one ≡ Some f → NeedsNoCause f) → ((f : SeenFault) → other ≡ Some f → NeedsNoCause f)
    → option_or one other ≡ Some fault → NeedsNoCause fault
no_cause_or (Some f) other fault a b e = a fault e
no_cause_or None other fault a b e = b fault e

no_cause_in : {X : Type 0} (test : X → Option SeenFault) → ((x : X) (f : SeenFault) → test x ≡ Some f → NeedsNoCause f) → (xs : List X) (fault : SeenFault)
    → first_in test xs ≡ Some fault → NeedsNoCause fault
no_cause_in test each [] fault e = absurd (cc e)
no_cause_in test each (x ∷ xs) fault e = no_cause_or (test x) (first_in test xs) fault (each x) (no_cause_in test each xs) e

no_cause_listing : (declared : Declared) (purpose : Purpose) (seen : Seen) (fault : SeenFault) → listing_fault declared purpose seen ≡ Some fault → NeedsNoCause fault
no_cause_listing declared purpose seen fault =
    no_cause_or (first_in (network_fault declared purpose seen.networks) declared.networks) (first_in (volume_fault purpose seen.volumes) declared.volumes) fault
    (no_cause_in (network_fault declared purpose seen.networks) (no_cause_network declared purpose seen.networks) declared.networks)
    (no_cause_in (volume_fault purpose seen.volumes) (no_cause_volume purpose seen.volumes) declared.volumes)

-- what was judged, where the fault of the listing is this, leads on
module _ (declared : Declared) (purpose : Purpose) (seen : Seen) where
  pub judged-bad : (fault : SeenFault) → listing_fault declared purpose seen ≡ Some fault → judging declared purpose seen [] ≡ Ends (SeenEnd.Bad fault)
  judged-bad fault e = ap (λ o. after_judging declared purpose seen o []) e

  pub judged-good : listing_fault declared purpose seen ≡ None → (rest : List Exchange) → judging declared purpose seen rest ≡ after_judging declared purpose seen None rest
  judged-good e rest = ap (λ o. after_judging declared purpose seen o rest) e

  pub judged-cause : (fault : SeenFault) → listing_fault declared purpose seen ≡ Some fault → NeedsNoCause fault
  judged-cause fault e = no_cause_listing declared purpose seen fault e

pub or_some : {X : Type 0} (o r : Option X) → is_some o ≡ true → option_or o r ≡ o
or_some None r e = absurd (cc e)
or_some (Some x) r e = refl

pub or_none : {X : Type 0} (o r : Option X) → is_some o ≡ false → option_or o r ≡ r
or_none None r e = refl
or_none (Some x) r e = absurd (cc e)

-- the first fault of a list is that of its first item with one
module _ {X : Type 0} (f : X → Option SeenFault) where
  pub first-found : (xs : List X) (x : X) → Some x ≡ find (λ y. is_some (f y)) xs → (first_in f xs ≡ f x) × (is_some (f x) ≡ true)
  first-found [] x e = absurd (cc e)
  first-found (y ∷ ys) x e = at (f y) refl (first-found ys x) e
    where
      at : (o : Option SeenFault) → f y ≡ o → (Some x ≡ find (λ z. is_some (f z)) ys → (first_in f ys ≡ f x) × (is_some (f x) ≡ true))
          → Some x ≡ cond (is_some o) (Some y) (find (λ z. is_some (f z)) ys) → (option_or o (first_in f ys) ≡ f x) × (is_some (f x) ≡ true)
      at (Some fault) g rest h = let same : x ≡ y = cc h in (sym g ∙ ap f (sym same), ap (λ z. is_some (f z)) same ∙ ap is_some g)
      at None g rest h = rest h

  pub first-unfound : (xs : List X) → None ≡ find (λ y. is_some (f y)) xs → first_in f xs ≡ None
  first-unfound [] e = refl
  first-unfound (y ∷ ys) e = at (f y) (first-unfound ys) e
    where
      at : (o : Option SeenFault) → (None ≡ find (λ z. is_some (f z)) ys → first_in f ys ≡ None)
          → None ≡ cond (is_some o) (Some y) (find (λ z. is_some (f z)) ys) → option_or o (first_in f ys) ≡ None
      at (Some fault) rest h = absurd (cc h)
      at None rest h = rest h

-- the fault of a listing is that of its first bad network, or else of its first missing volume
module _ (declared : Declared) (purpose : Purpose) (seen : Seen) where
  pub listing-network : (network : NetworkSpec) → Some network ≡ find (λ (n : NetworkSpec). is_some (network_fault declared purpose seen.networks n)) declared.networks
      → listing_fault declared purpose seen ≡ network_fault declared purpose seen.networks network
  listing-network network e =
      let first = first-found (network_fault declared purpose seen.networks) declared.networks network e in
      let volumes = first_in (volume_fault purpose seen.volumes) declared.volumes in
      ap (λ o. option_or o volumes) first.0 ∙ or_some (network_fault declared purpose seen.networks network) volumes first.1

  pub listing-volumes : None ≡ find (λ (n : NetworkSpec). is_some (network_fault declared purpose seen.networks n)) declared.networks
      → listing_fault declared purpose seen ≡ first_in (volume_fault purpose seen.volumes) declared.volumes
  listing-volumes e = ap (λ o. option_or o (first_in (volume_fault purpose seen.volumes) declared.volumes)) (first-unfound (network_fault declared purpose seen.networks) declared.networks e)

-- the fault of the volumes is that of the first missing one
module _ (purpose : Purpose) (names : List (List ℕ)) where
  pub volumes-missing : (volumes : List VolumeSpec) (volume : VolumeSpec) → Some volume ≡ find (λ (v : VolumeSpec). is_missing purpose names v) volumes
      → Some (SeenFault.ExternalMissing Kind.Volume volume.name) ≡ first_in (volume_fault purpose names) volumes
  volumes-missing [] volume e = absurd (cc e)
  volumes-missing (v ∷ vs) volume e = at (is_missing purpose names v) (volumes-missing vs volume) e
    where
      at : (b : Bool) → (Some volume ≡ find (λ (w : VolumeSpec). is_missing purpose names w) vs → Some (SeenFault.ExternalMissing Kind.Volume volume.name) ≡ first_in (volume_fault purpose names) vs)
          → Some volume ≡ cond b (Some v) (find (λ (w : VolumeSpec). is_missing purpose names w) vs)
          → Some (SeenFault.ExternalMissing Kind.Volume volume.name) ≡ option_or (cond b (Some (SeenFault.ExternalMissing Kind.Volume v.name)) None) (first_in (volume_fault purpose names) vs)
      at true rest h = let same : volume ≡ v = cc h in ap (λ (w : VolumeSpec). Some (SeenFault.ExternalMissing Kind.Volume w.name)) same
      at false rest h = rest h

  pub volumes-there : (volumes : List VolumeSpec) → None ≡ find (λ (v : VolumeSpec). is_missing purpose names v) volumes → None ≡ first_in (volume_fault purpose names) volumes
  volumes-there [] e = refl
  volumes-there (v ∷ vs) e = at (is_missing purpose names v) (volumes-there vs) e
    where
      at : (b : Bool) → (None ≡ find (λ (w : VolumeSpec). is_missing purpose names w) vs → None ≡ first_in (volume_fault purpose names) vs)
          → None ≡ cond b (Some v) (find (λ (w : VolumeSpec). is_missing purpose names w) vs)
          → None ≡ option_or (cond b (Some (SeenFault.ExternalMissing Kind.Volume v.name)) None) (first_in (volume_fault purpose names) vs)
      at true rest h = absurd (cc h)
      at false rest h = rest h
