-- The request of an open permit stays the one that it was granted with.
use Rattle.std.proofs.Common.{◌≡◌, ℕ, suc, ◌<◌, Bool, true, false, List, [], ◌∷◌, length, Option, if◌then◌else◌, refl, sym, ap, ◌∙◌, arith}
use Rattle.std.proofs.lemmas.Bool.{eq-eqb, ne_eqb}
use Rattle.std.specs.Prelude.{◌==◌, unwrap_or}
use Rattle.engine_types.specs.declared.Aim.{Aim}
use Rattle.engine_types.specs.declared.Entry.{Entry}
use Rattle.engine_types.specs.declared.Request.{Request}
use Rattle.run_model.specs.Journals.{Holding, Nothing, Out, Setup, Watch, Work, holding, is_free, standing}
use Rattle.run_model.specs.Legal.{IsLegal}
use Rattle.run_model.specs.Requests.{OfAction, OfPoll, action_request, asked, poll_place, poll_request, request_out}
use Rattle.run_model.proofs.LegalLaws.{claim_allowed}
use Rattle.run_model.proofs.PlanLaws.{both}
use Rattle.journal_laws.proofs.Holders.{is_held}
use Rattle.worker_laws.specs.Own.{granted}

-- an entry that leaves what a worker holds leaves its request too, where it is no claim of the same action and no poll
stays : (setup : Setup) (e : Entry) (past : List Entry) (w : ℕ) → holding (e ∷ past) w ≡ holding past w → poll_place (e ∷ past) w ≡ poll_place past w
    → ((a : ℕ) → holding past w ≡ Work a → asked setup (e ∷ past) (OfAction a) ≡ asked setup past (OfAction a))
    → ((s : ℕ) → holding past w ≡ Watch s → asked setup (e ∷ past) (OfPoll (poll_place past w)) ≡ asked setup past (OfPoll (poll_place past w)))
    → request_out setup (e ∷ past) w ≡ request_out setup past w
stays setup e past w same place acts polls = at (holding past w) refl
  where
    at : (held : Holding) → holding past w ≡ held → request_out setup (e ∷ past) w ≡ request_out setup past w
    at Nothing h = rw (same ∙ h, h) refl
    at (Work a) h = rw (same ∙ h, h) (ap (λ (r : Option Request). unwrap_or r (Request.ListContainers setup.declared.project)) (acts a h))
    at (Watch s) h = rw (same ∙ h, h, place) (ap (λ (r : Option Request). unwrap_or r (Request.ListContainers setup.declared.project)) (polls s h))

-- who looks at a slot has polled
place_below : (past : List Entry) (w s : ℕ) → holding past w ≡ Watch s → poll_place past w < length past
place_below [] w s h = absurd (cc h)
place_below (Entry.Poll v t ∷ past) w s h = on (v == w) h (place_below past w s)
  where
    on : (b : Bool) → (if b then Watch t else holding past w) ≡ Watch s → (holding past w ≡ Watch s → poll_place past w < length past) → (if b then length past else poll_place past w) < suc (length past)
    on true k rec = omega arith
    on false k rec = let r = rec k in omega (arith, r)
place_below (Entry.Claim v a ∷ past) w s h = on (v == w) h (place_below past w s)
  where
    on : (b : Bool) → (if b then Work a else holding past w) ≡ Watch s → (holding past w ≡ Watch s → poll_place past w < length past) → poll_place past w < suc (length past)
    on true k rec = absurd (cc k)
    on false k rec = let r = rec k in omega (arith, r)
place_below (Entry.Ended v outcome ∷ past) w s h = on (v == w) h (place_below past w s)
  where
    on : (b : Bool) → (if b then Nothing else holding past w) ≡ Watch s → (holding past w ≡ Watch s → poll_place past w < length past) → poll_place past w < suc (length past)
    on true k rec = absurd (cc k)
    on false k rec = let r = rec k in omega (arith, r)
place_below (Entry.Seen observation ∷ past) w s h = let r = place_below past w s h in omega (arith, r)
place_below (Entry.Idle v ∷ past) w s h = let r = place_below past w s h in omega (arith, r)
place_below (Entry.Leave v ∷ past) w s h = let r = place_below past w s h in omega (arith, r)
place_below (Entry.Stop v ∷ past) w s h = let r = place_below past w s h in omega (arith, r)
place_below (Entry.Late v why ∷ past) w s h = let r = place_below past w s h in omega (arith, r)
place_below (Entry.Short v ∷ past) w s h = let r = place_below past w s h in omega (arith, r)

-- the action that a worker holds is claimed by nobody else
apart : (aim : Aim) (setup : Setup) (past : List Entry) (v a w b : ℕ) → IsLegal aim setup (Entry.Claim v a ∷ past) → holding past w ≡ Work b → (a == b) ≡ false
apart aim setup past v a w b legal h = ne_eqb a b (λ same.
    let free : is_free (standing setup past a) ≡ true = (both _ _ (both _ _ (claim_allowed aim setup past v a legal)).0).0 in
    let out : standing setup past b ≡ Out = (is_held aim setup past w b legal.0 h).out in
    let bad : false ≡ true = sym (ap is_free (ap (standing setup past) same ∙ out)) ∙ free in cc bad)

other_claim : (aim : Aim) (setup : Setup) (past : List Entry) (v a w : ℕ) → IsLegal aim setup (Entry.Claim v a ∷ past) → (v == w) ≡ false
    → request_out setup (Entry.Claim v a ∷ past) w ≡ request_out setup past w
other_claim aim setup past v a w legal h = stays setup (Entry.Claim v a) past w (rw h refl) refl (λ b k. rw (apart aim setup past v a w b legal k) refl) (λ s k. refl)

other_poll : (setup : Setup) (past : List Entry) (v s w : ℕ) → (v == w) ≡ false → request_out setup (Entry.Poll v s ∷ past) w ≡ request_out setup past w
other_poll setup past v s w h = stays setup (Entry.Poll v s) past w (rw h refl) (rw h refl) (λ b k. refl)
    (λ t k. rw (ne_eqb (length past) (poll_place past w) (λ same. let r = place_below past w t k in omega (arith, same, r))) refl)

watched : (setup : Setup) (e : Entry) (past : List Entry) (w s n : ℕ) → holding (e ∷ past) w ≡ Watch s → poll_place (e ∷ past) w ≡ n
    → request_out setup (e ∷ past) w ≡ unwrap_or (asked setup (e ∷ past) (OfPoll n)) (Request.ListContainers setup.declared.project)
watched setup e past w s n h p = rw (h, p) refl

pub is_granted : (aim : Aim) (setup : Setup) (past : List Entry) (w : ℕ) → IsLegal aim setup past → request_out setup past w ≡ granted setup past w
is_granted aim setup [] w legal = refl
is_granted aim setup (Entry.Claim v a ∷ past) w legal = on (v == w) refl (is_granted aim setup past w legal.0)
  where
    on : (t : Bool) → (v == w) ≡ t → request_out setup past w ≡ granted setup past w → request_out setup (Entry.Claim v a ∷ past) w ≡ (if t then unwrap_or (action_request setup past a) (Request.ListContainers setup.declared.project) else granted setup past w)
    on true h r = rw (h, eq-eqb a a refl) refl
    on false h r = other_claim aim setup past v a w legal h ∙ r
is_granted aim setup (Entry.Poll v s ∷ past) w legal = on (v == w) refl (is_granted aim setup past w legal.0)
  where
    on : (t : Bool) → (v == w) ≡ t → request_out setup past w ≡ granted setup past w → request_out setup (Entry.Poll v s ∷ past) w ≡ (if t then unwrap_or (poll_request setup past s) (Request.ListContainers setup.declared.project) else granted setup past w)
    on true h r = watched setup (Entry.Poll v s) past w s (length past) (rw h refl) (rw h refl) ∙ rw (eq-eqb (length past) (length past) refl) refl
    on false h r = other_poll setup past v s w h ∙ r
is_granted aim setup (Entry.Ended v outcome ∷ past) w legal = on (v == w) refl (is_granted aim setup past w legal.0)
  where
    on : (t : Bool) → (v == w) ≡ t → request_out setup past w ≡ granted setup past w → request_out setup (Entry.Ended v outcome ∷ past) w ≡ (if t then Request.ListContainers setup.declared.project else granted setup past w)
    on true h r = rw h refl
    on false h r = stays setup (Entry.Ended v outcome) past w (rw h refl) refl (λ b k. refl) (λ s k. refl) ∙ r
is_granted aim setup (Entry.Seen observation ∷ past) w legal = stays setup (Entry.Seen observation) past w refl refl (λ b k. refl) (λ s k. refl) ∙ is_granted aim setup past w legal.0
is_granted aim setup (Entry.Idle v ∷ past) w legal = stays setup (Entry.Idle v) past w refl refl (λ b k. refl) (λ s k. refl) ∙ is_granted aim setup past w legal.0
is_granted aim setup (Entry.Leave v ∷ past) w legal = stays setup (Entry.Leave v) past w refl refl (λ b k. refl) (λ s k. refl) ∙ is_granted aim setup past w legal.0
is_granted aim setup (Entry.Stop v ∷ past) w legal = stays setup (Entry.Stop v) past w refl refl (λ b k. refl) (λ s k. refl) ∙ is_granted aim setup past w legal.0
is_granted aim setup (Entry.Late v why ∷ past) w legal = stays setup (Entry.Late v why) past w refl refl (λ b k. refl) (λ s k. refl) ∙ is_granted aim setup past w legal.0
is_granted aim setup (Entry.Short v ∷ past) w legal = stays setup (Entry.Short v) past w refl refl (λ b k. refl) (λ s k. refl) ∙ is_granted aim setup past w legal.0
