-- A connect that was done leaves the slot's container on its network.
use Rattle.std.proofs.Common.{◌≡◌, ◌⊎◌, ℕ, zero, suc, ◌<◌, true, List, [], Option, Some, None, length, slice_get, refl, sym, ◌∙◌, subst, inl, inr, arith, ◌∷◌}
use Rattle.std.proofs.lemmas.Slice.Eq.{bytes_eq-Decides}
use Rattle.std.specs.List.{list_any}
use Rattle.std.specs.Str.{bytes_eq}
use Rattle.engine_types.specs.declared.ActionKind.TheVariants.{ConnectSlot}
use Rattle.engine_types.specs.declared.Aim.{Aim}
use Rattle.engine_types.specs.declared.Attach.{Attach}
use Rattle.engine_types.specs.declared.ContainerRow.{ContainerRow}
use Rattle.engine_types.specs.declared.Engine.{Engine}
use Rattle.engine_types.specs.declared.NetworkSpec.{NetworkSpec}
use Rattle.engine_types.specs.declared.Reply.{Reply}
use Rattle.engine_types.specs.declared.Request.{Request}
use Rattle.engine_types.specs.declared.Slot.{Slot}
use Rattle.run_model.specs.EngineRules.{Connects, container_at, network_has_name}
use Rattle.run_model.specs.Journals.{Setup}
use Rattle.run_model.specs.Plans.{kind_of, network_name, slot_at}
use Rattle.run_model.specs.Requests.{OfAction}
use Rattle.run_model.specs.Worlds.{Move, Took, entries_of}
use Rattle.run_model.proofs.DistinctLists.{from_place}
use Rattle.run_model.proofs.KeptLaws.{any_from_list, any_of_list}
use Rattle.run_model.proofs.RequestLemmas.{same_text}
use Rattle.world_laws.proofs.Bodies.{AlikeAt, itself_keeps, on_named}
use Rattle.world_laws.proofs.Along.{IsEffect, IsKept, holds_along}
use Rattle.world_laws.proofs.Claimed.{tail_of}
use Rattle.world_laws.proofs.Effects.{effect_kept, effect_new}
use Rattle.world_laws.proofs.Finished.{IsRunning}
use Rattle.world_laws.proofs.Held.{Holds, effects}
use Rattle.world_laws.proofs.Holding.{holds, made_spared, networks, taken_is, the_turn}
use Rattle.world_laws.proofs.Keeping.{KeepsResources, keeps_itself, named_stays}
use Rattle.world_laws.proofs.Kept.{IsSlotId, OfKept, OfMade, kept_at, kept_unremoved, told_slot_id}
use Rattle.world_laws.proofs.Planning.{connect_of}
use Rattle.world_laws.proofs.Resources.{network_named}
use Rattle.world_laws.proofs.Turns.{IsTaken, stays_or_taken}

-- the container at the id is on a network with the name
pub record IsOn (engine : Engine) (id name : List ℕ) : Type 0 where
  pub row : ContainerRow
  pub is_there : container_at engine id ≡ Some row
  pub on : list_any (network_has_name engine name) row.networks ≡ true

on_stays : (old new : Engine) (id name : List ℕ) → AlikeAt (container_at old id) (container_at new id) → KeepsResources old new → IsOn old id name → IsOn new id name
on_stays old new id name alike keeps x = at (container_at new id) refl (subst (λ (o : Option ContainerRow). AlikeAt o (container_at new id)) x.is_there alike)
  where
    at : (o : Option ContainerRow) → container_at new id ≡ o → AlikeAt (Some x.row) o → IsOn new id name
    at None e a = absurd a
    at (Some now) e a = record { row = now; is_there = e; on = on_named old new name x.row now keeps a x.on }

-- each connect that was done left its slot's container on the network of the attach
pub record IsJoined (setup : Setup) (effect : ℕ → Option Reply) (engine : Engine) (s : ℕ) (attach : Attach) : Type 0 where
  pub id : List ℕ
  pub is_slots : IsSlotId setup effect s id
  pub on : IsOn engine id (network_name setup.declared attach)

abbrev pub AreJoined : Setup → (ℕ → Option Reply) → Engine → Type 0
AreJoined setup effect engine = (a s k : ℕ) (slot : Slot) (attach : Attach) → kind_of setup.actions a ≡ Some (ConnectSlot s k) → slot_at setup.declared s ≡ Some slot
    → slice_get slot.attach k ≡ Some attach → effect a ≡ Some Reply.Done → IsJoined setup effect engine s attach

-- a place below a list's length has an element
place_below : (specs : List NetworkSpec) (n : ℕ) → n < length specs → (spec : NetworkSpec) × (slice_get specs n ≡ Some spec)
place_below [] n less = absurd (omega (arith, less))
place_below (spec ∷ specs) zero less = (spec, refl)
place_below (spec ∷ specs) (suc n) less = place_below specs n (omega (arith, less))

module _ (aim : Aim) (setup : Setup) (first : Engine) (a : ℕ) (request : Request) (reply : Reply) (moves : List Move) (old new : Engine)
    (run : IsRunning aim setup first moves old) (effect : IsEffect setup moves a request reply old new) (joined : AreJoined setup (effects moves) old) where
  abbrev after : ℕ → Option Reply
  after = effects (Took (OfAction a) request reply ∷ moves)

  held : Holds setup (effects moves) old
  held = holds aim setup first moves old run

  keeps : KeepsResources old new
  keeps = networks aim setup first a request reply moves old new run effect held

  same_id : (s : ℕ) (id : List ℕ) → IsSlotId setup (effects moves) s id → IsSlotId setup after s id
  same_id s id (OfKept slot listed h k e) = OfKept slot listed h k e
  same_id s id (OfMade b slot m) =
      OfMade b slot (record { kind_is = m.kind_is; slot_is = m.slot_is; effect_is = effect_kept moves a b request reply (Reply.Made id) effect.none_yet m.effect_is })

  -- a slot's container isn't taken away
  spared : (s : ℕ) (id : List ℕ) → IsSlotId setup (effects moves) s id → IsTaken request reply id → ⊥
  spared s id (OfMade b slot m) t = made_spared aim setup first a request reply moves old new run effect held b s slot id m t
  spared s id (OfKept slot listed h k e) t =
      let x = kept_at setup.declared setup.seen slot listed (from_place setup.declared.slots s slot h) k in
      let r = taken_is aim setup first a request reply moves old new run effect held id x.c listed t x.listed_is e in
      kept_unremoved aim setup first old moves run after x.c listed x.listed_is x.kept a r.0 r.1

  stays : (s : ℕ) (attach : Attach) → IsJoined setup (effects moves) old s attach → IsJoined setup after new s attach
  stays s attach x = at (stays_or_taken old request reply new x.id x.on.row (the_turn aim setup first a request reply moves old new run effect held) x.on.is_there)
    where
      at : AlikeAt (container_at old x.id) (container_at new x.id) ⊎ IsTaken request reply x.id → IsJoined setup after new s attach
      at (inl alike) = record { id = x.id; is_slots = same_id s x.id x.is_slots; on = on_stays old new x.id (network_name setup.declared attach) alike keeps x.on }
      at (inr t) = absurd (spared s x.id x.is_slots t)

  -- a container that a connect leaves on a network with a name
  connected : (network id name : List ℕ) → Connects old new network id → network_has_name old name network ≡ true → IsOn new id name
  connected network id name c named = record {
    row = record c.row { networks = c.networks };
    is_there = c.changes.containers id ∙ rw (same_text id) refl;
    on =
        let on : list_any (bytes_eq network) c.networks ≡ true = c.joined network ∙ rw (same_text network) refl in
        let q = any_from_list (bytes_eq network) c.networks on in
        any_of_list (network_has_name new name) c.networks q.0 q.1
        (subst (λ (i : List ℕ). network_has_name new name i ≡ true) ((bytes_eq-Decides network q.0).0 q.2) (named_stays old new keeps name network named));
  }

  joins : (s k : ℕ) (slot : Slot) (attach : Attach) → kind_of setup.actions a ≡ Some (ConnectSlot s k) → slot_at setup.declared s ≡ Some slot → slice_get slot.attach k ≡ Some attach
      → reply ≡ Reply.Done → IsJoined setup after new s attach
  joins s k slot attach kind h e done =
      let kinds : Some effect.asks.kind ≡ Some (ConnectSlot s k) = sym effect.asks.kind_is ∙ kind in
      let is : effect.asks.kind ≡ ConnectSlot s k = cc kinds in
      let c = connect_of setup effect.asks.tail s k request (rw is at effect.asks.request_is) in
      let slots : Some c.slot ≡ Some slot = sym c.slot_is ∙ h in
      let one : c.slot ≡ slot = cc slots in
      let attaches : Some c.attach ≡ Some attach = sym c.attach_is ∙ rw (← one) at e in
      let two : c.attach ≡ attach = cc attaches in
      let tail = tail_of _ effect.asks.tail (entries_of moves) effect.asks.claimed in
      let answers : Connects old new c.network c.id = rw (c.request_is, done) at effect.answers in
      let n = place_below setup.declared.networks attach.network
      (run.whole.attaches slot attach (from_place setup.declared.slots s slot h) (from_place slot.attach k attach e)) in
      let named = network_named aim setup first old moves run effect.asks.tail tail attach.network n.0 c.network n.1
      (rw two at c.network_is) in
      let name : network_name setup.declared attach ≡ n.0.name = rw n.1 refl in
      record {
        id = c.id;
        is_slots = same_id s c.id (told_slot_id aim setup first old moves run effect.asks.tail tail s slot c.id h c.id_is);
        on = connected c.network c.id (network_name setup.declared attach) answers (rw name named);
      }

  pub joined_acted : AreJoined setup after new
  joined_acted b s k slot attach kind h e done = at (effect_new moves a b request reply Reply.Done done)
    where
      at : ((a ≡ b) × (reply ≡ Reply.Done)) ⊎ (effects moves b ≡ Some Reply.Done) → IsJoined setup after new s attach
      at (inl f) = joins s k slot attach (subst (λ (x : ℕ). kind_of setup.actions x ≡ Some (ConnectSlot s k)) (sym f.0) kind) h e f.1
      at (inr f) = stays s attach (joined b s k slot attach kind h e f)

module _ (aim : Aim) (setup : Setup) (first : Engine) where
  joining : IsKept aim setup first (λ moves engine. AreJoined setup (effects moves) engine)
  joining = record {
    begins = λ observation moves engine run empty none a s k slot attach kind h e done. let bad : None ≡ Some Reply.Done = sym (none a) ∙ done in absurd (cc bad);
    notes = λ entry moves engine run joined. joined;
    acts = λ a request reply moves old new run effect joined. joined_acted aim setup first a request reply moves old new run effect joined;
    polls = λ n id reply moves engine run joined. joined;
    changes = λ moves old new run change joined a s k slot attach kind h e done.
        let x = joined a s k slot attach kind h e done in
        record { id = x.id; is_slots = x.is_slots; on = on_stays old new x.id (network_name setup.declared attach) (itself_keeps old new change x.id) (keeps_itself old new change) x.on };
  }

  pub are_joined : (moves : List Move) (last : Engine) → IsRunning aim setup first moves last → AreJoined setup (effects moves) last
  are_joined moves last run = holds_along aim setup first (λ ms engine. AreJoined setup (effects ms) engine) joining moves last run
