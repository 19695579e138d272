-- The container of a slot: the one that it keeps, or the one that was made for it.
use Rattle.std.proofs.Common.{◌≡◌, ℕ, true, false, List, Option, Some, None, slice_get, refl, sym, ap, ◌∙◌}
use Rattle.std.proofs.lemmas.Bool.{eqb-true}
use Rattle.std.specs.Option.{option_map_or}
use Rattle.std.specs.Prelude.{filter, option_and_then}
use Rattle.std.specs.Str.{bytes_eq}
use Rattle.engine_types.specs.declared.ActionKind.{ActionKind}
use Rattle.engine_types.specs.declared.ActionKind.TheVariants.{MakeVolume, MakeNetwork, StopContainer, RemoveContainer, CreateSlot, ConnectSlot, StopKept, StartSlot, RemoveNetwork, RemoveVolume}
use Rattle.engine_types.specs.declared.Aim.{Aim}
use Rattle.engine_types.specs.declared.Declared.{Declared}
use Rattle.engine_types.specs.declared.Engine.{Engine}
use Rattle.engine_types.specs.declared.Entry.{Entry}
use Rattle.engine_types.specs.declared.Listed.{Listed}
use Rattle.engine_types.specs.declared.Reply.{Reply}
use Rattle.engine_types.specs.declared.Seen.{Seen}
use Rattle.engine_types.specs.declared.Slot.{Slot}
use Rattle.run_model.specs.EngineRules.{Among}
use Rattle.run_model.specs.Journals.{Setup, standing}
use Rattle.run_model.specs.Plans.{agrees_seen, create_of, is_create_of, is_kept, kept, kept_of, kind_of, slot_at}
use Rattle.run_model.specs.Requests.{made_id, slot_id}
use Rattle.run_model.specs.Numbers.{places}
use Rattle.run_model.specs.Worlds.{Move, entries_of}
use Rattle.run_model.proofs.DistinctLists.{at_place, from_filter}
use Rattle.run_model.proofs.KeptLaws.{any_of_list, from_least}
use Rattle.run_model.proofs.LegalLaws.{found_passes}
use Rattle.run_model.proofs.RequestLemmas.{same_text}
use Rattle.world_laws.proofs.ActionRequests.{then_from}
use Rattle.world_laws.proofs.Claimed.{IsTail}
use Rattle.world_laws.proofs.Effects.{made_effect}
use Rattle.world_laws.proofs.Finished.{IsRunning}
use Rattle.world_laws.proofs.Held.{IsMade, IsUnremoved, effects}
use Rattle.world_laws.proofs.Planning.{leaves}
use Rattle.world_laws.proofs.ResourceMoves.{plan_of}

-- the container that a slot keeps, with its place among those that were seen
pub record IsKeptAt (declared : Declared) (seen : Seen) (slot : Slot) (listed : Listed) : Type 0 where
  pub c : ℕ
  pub listed_is : slice_get seen.containers c ≡ Some listed
  pub agrees : agrees_seen declared seen slot listed ≡ true
  pub kept : is_kept declared seen listed ≡ true

pub kept_at : (declared : Declared) (seen : Seen) (slot : Slot) (listed : Listed) → Among declared.slots slot → kept_of declared seen slot ≡ Some listed → IsKeptAt declared seen slot listed
kept_at declared seen slot listed m e =
    let among = from_least (λ (row : Listed). row.id) (filter (agrees_seen declared seen slot) seen.containers) listed e in
    let f = from_filter (agrees_seen declared seen slot) seen.containers listed among in
    let p = at_place seen.containers listed f.1 in
    record {
      c = p.0;
      listed_is = p.1;
      agrees = f.0;
      kept = any_of_list (λ (other : Slot). option_map_or (λ (row : Listed). bytes_eq row.id listed.id) (kept_of declared seen other) false) declared.slots slot m (rw e (same_text listed.id));
    }

-- the id of a slot's container
pub data IsSlotId (setup : Setup) (effect : ℕ → Option Reply) (s : ℕ) (id : List ℕ) : Type 0 where
  OfKept : (slot : Slot) (listed : Listed) → slot_at setup.declared s ≡ Some slot → kept_of setup.declared setup.seen slot ≡ Some listed → listed.id ≡ id → IsSlotId setup effect s id
  OfMade : (a : ℕ) (slot : Slot) → IsMade setup effect a s slot id → IsSlotId setup effect s id

create_kind : (s : ℕ) (kind : Option ActionKind) → is_create_of s kind ≡ true → kind ≡ Some (CreateSlot s)
create_kind s (Some (CreateSlot t)) e = ap (λ (x : ℕ). Some (CreateSlot x)) (eqb-true t s e)
create_kind s None e = absurd (cc e)
create_kind s (Some (MakeVolume v)) e = absurd (cc e)
create_kind s (Some (MakeNetwork n)) e = absurd (cc e)
create_kind s (Some (StopContainer c)) e = absurd (cc e)
create_kind s (Some (RemoveContainer c)) e = absurd (cc e)
create_kind s (Some (ConnectSlot t k)) e = absurd (cc e)
create_kind s (Some (StopKept t)) e = absurd (cc e)
create_kind s (Some (StartSlot t)) e = absurd (cc e)
create_kind s (Some (RemoveNetwork n)) e = absurd (cc e)
create_kind s (Some (RemoveVolume v)) e = absurd (cc e)

module _ (aim : Aim) (setup : Setup) (first last : Engine) (moves : List Move) (run : IsRunning aim setup first moves last) where
  -- what a slot keeps isn't removed
  pub kept_unremoved : (effect : ℕ → Option Reply) (c : ℕ) (listed : Listed) → slice_get setup.seen.containers c ≡ Some listed → is_kept setup.declared setup.seen listed ≡ true
      → IsUnremoved setup effect c
  kept_unremoved effect c listed e k a kind done =
      let wanted = (plan_of aim setup first last moves run).wanted a (RemoveContainer c) kind in
      let bad : false ≡ true = sym ((leaves aim setup first last moves run).removes c listed e k) ∙ wanted in cc bad

  -- the id that the journal tells of a slot's container is its id
  pub told_slot_id : (tail : List Entry) → IsTail tail (entries_of moves) → (s : ℕ) (slot : Slot) (id : List ℕ) → slot_at setup.declared s ≡ Some slot → slot_id setup tail s ≡ Some id
      → IsSlotId setup (effects moves) s id
  told_slot_id tail t s slot id h e = at (kept setup.declared setup.seen s) refl
    where
      by_create : option_and_then (λ a. made_id (standing setup tail a)) (create_of setup.actions s) ≡ Some id → IsSlotId setup (effects moves) s id
      by_create f =
          let x = then_from (λ a. made_id (standing setup tail a)) (create_of setup.actions s) id f in
          let kind = create_kind s (kind_of setup.actions x.0) (found_passes (λ a. is_create_of s (kind_of setup.actions a)) (places setup.actions) x.0 x.1) in
          OfMade x.0 slot (record { kind_is = kind; slot_is = h; effect_is = made_effect aim setup first last moves run.legal run.world tail t x.0 id x.2 })

      at : (o : Option Listed) → kept setup.declared setup.seen s ≡ o → IsSlotId setup (effects moves) s id
      at (Some listed) k =
          let same : Some listed.id ≡ Some id = rw k at e in
          let keeps : kept_of setup.declared setup.seen slot ≡ Some listed = rw h at k in
          OfKept slot listed h keeps (cc same)
      at None k = by_create (rw k at e)
