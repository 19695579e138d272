-- What a run saw of a slot's image is the one id that all runs are told.
use Rattle.std.proofs.Common.{◌≡◌, ℕ, Bool, true, false, List, [], ◌∷◌, ◌++◌, reverse, Some, None, refl, sym, ap, ◌∙◌, subst, inl, inr}
use Rattle.std.proofs.lemmas.List.{reverse-append}
use Rattle.std.proofs.lemmas.Slice.Eq.{bytes_eq-Decides}
use Rattle.std.specs.Prelude.{if◌then◌else◌}
use Rattle.std.specs.Str.{bytes_eq}
use Rattle.engine_types.specs.declared.Aim.{Aim}
use Rattle.engine_types.specs.declared.Entry.{Entry}
use Rattle.engine_types.specs.declared.Exchange.{Exchange}
use Rattle.engine_types.specs.declared.Outcome.{Outcome}
use Rattle.engine_types.specs.declared.Reply.{Reply}
use Rattle.engine_types.specs.declared.Request.{Request}
use Rattle.engine_types.specs.declared.Slot.{Slot}
use Rattle.run_model.specs.Cuts.{TellsImages}
use Rattle.run_model.specs.EngineRules.{Among}
use Rattle.run_model.specs.Journals.{Setup, seen_in}
use Rattle.run_model.specs.Legal.{IsLegal}
use Rattle.run_model.specs.Observation.{is_up}
use Rattle.run_model.specs.Plans.{seen_image}
use Rattle.run_model.specs.Told.{answered, id_after, id_told}
use Rattle.world_laws.proofs.Looks.{from_reverse}
use Rattle.world_laws.proofs.Observing.{IsSeenWell, good_end, told_by}

-- an id that is known was told
told_among : (image id : List ℕ) (xs : List Exchange) → id_told image xs ≡ Some id → Among xs (answered (Request.Image image) (Reply.ImageId id))
told_among image id [] e = absurd (cc e)
told_among image id (x ∷ xs) e = at x.request refl x.outcome refl (λ f. inr (told_among image id xs f)) e
  where
    same : (request : Request) (outcome : Outcome) → x.request ≡ request → x.outcome ≡ outcome → (let y : Exchange = record { request = request; outcome = outcome } in y) ≡ x
    same request outcome p q = λ i. record { request = sym p i; outcome = sym q i }

    looked : (other told : List ℕ) → x.request ≡ Request.Image other → x.outcome ≡ Outcome.Answered (Reply.ImageId told) → (t : Bool) → bytes_eq image other ≡ t
        → (id_told image xs ≡ Some id → Among (x ∷ xs) (answered (Request.Image image) (Reply.ImageId id)))
        → (if t then Some told else id_told image xs) ≡ Some id → Among (x ∷ xs) (answered (Request.Image image) (Reply.ImageId id))
    looked other told p q false h later f = later f
    looked other told p q true h later f =
        let ids : told ≡ id = cc f in
        let names : image ≡ other = (bytes_eq-Decides image other).0 h in
        inl (same (Request.Image image) (Outcome.Answered (Reply.ImageId id)) (p ∙ ap (λ (n : List ℕ). Request.Image n) (sym names))
        (q ∙ ap (λ (i : List ℕ). Outcome.Answered (Reply.ImageId i)) ids))

    pulled : (t : Bool) → (id_told image xs ≡ Some id → Among (x ∷ xs) (answered (Request.Image image) (Reply.ImageId id))) → (if t then None else id_told image xs) ≡ Some id → Among (x ∷ xs) (answered (Request.Image image) (Reply.ImageId id))
    pulled true later f = absurd (cc f)
    pulled false later f = later f

    at : (request : Request) → x.request ≡ request → (outcome : Outcome) → x.outcome ≡ outcome
        → (id_told image xs ≡ Some id → Among (x ∷ xs) (answered (Request.Image image) (Reply.ImageId id))) → id_after image x.request x.outcome (id_told image xs) ≡ Some id
        → Among (x ∷ xs) (answered (Request.Image image) (Reply.ImageId id))
    at (Request.Image other) p (Outcome.Answered (Reply.ImageId told)) q later f =
        let g : (if bytes_eq image other then Some told else id_told image xs) ≡ Some id = rw (p, q) at f in
        looked other told p q (bytes_eq image other) refl later g
    at (Request.Image other) p outcome q later f = let g : id_told image xs ≡ Some id = rw (p, q) at f in later g
    at (Request.Pull other) p outcome q later f = let g : (if bytes_eq image other then None else id_told image xs) ≡ Some id = rw p at f in pulled (bytes_eq image other) later g
    at request p outcome q later f = let g : id_told image xs ≡ Some id = rw p at f in later g

-- what was seen of the images is what all runs are told
abbrev pub SeesImages : (List ℕ → List ℕ) → Setup → Type 0
SeesImages images setup = (slot : Slot) → Among setup.declared.slots slot → seen_image setup.seen slot ≡ Some (images slot.image)

-- where the journal tells these ids, its observation saw them
pub sees_images : (images : List ℕ → List ℕ) (aim : Aim) (setup : Setup) → is_up aim.purpose ≡ true → (past : List Entry) → IsLegal aim setup past → seen_in past ≡ Some setup.seen
    → TellsImages images past → SeesImages images setup
sees_images images aim setup up [] legal saw tells slot m = absurd (cc saw)
sees_images images aim setup up (Entry.Seen observation ∷ past) legal saw tells slot m =
    let well : IsSeenWell setup.declared aim setup.seen = record { observation = observation; is = legal.1.1; good = good_end observation past setup.seen saw } in
    let i = (told_by setup.declared aim setup.seen well).images slot up m in
    i.2 ∙ ap (λ (id : List ℕ). Some id) (tells slot.image i.0 (from_reverse observation.exchanges _ (told_among slot.image i.0 (reverse observation.exchanges) i.1)))
sees_images images aim setup up (Entry.Claim w a ∷ past) legal saw tells slot m = sees_images images aim setup up past legal.0 saw tells slot m
sees_images images aim setup up (Entry.Poll w s ∷ past) legal saw tells slot m = sees_images images aim setup up past legal.0 saw tells slot m
sees_images images aim setup up (Entry.Ended w outcome ∷ past) legal saw tells slot m = sees_images images aim setup up past legal.0 saw tells slot m
sees_images images aim setup up (Entry.Idle w ∷ past) legal saw tells slot m = sees_images images aim setup up past legal.0 saw tells slot m
sees_images images aim setup up (Entry.Leave w ∷ past) legal saw tells slot m = sees_images images aim setup up past legal.0 saw tells slot m
sees_images images aim setup up (Entry.Stop w ∷ past) legal saw tells slot m = sees_images images aim setup up past legal.0 saw tells slot m
sees_images images aim setup up (Entry.Late w why ∷ past) legal saw tells slot m = sees_images images aim setup up past legal.0 saw tells slot m
sees_images images aim setup up (Entry.Short w ∷ past) legal saw tells slot m = sees_images images aim setup up past legal.0 saw tells slot m

-- what a journal tells, its first entries tell
tells_first : (images : List ℕ → List ℕ) (first rest : List Entry) → TellsImages images (first ++ rest) → TellsImages images first
tells_first images [] rest tells = tt
tells_first images (Entry.Seen observation ∷ first) rest tells = tells
tells_first images (Entry.Claim w a ∷ first) rest tells = tells_first images first rest tells
tells_first images (Entry.Poll w s ∷ first) rest tells = tells_first images first rest tells
tells_first images (Entry.Ended w outcome ∷ first) rest tells = tells_first images first rest tells
tells_first images (Entry.Idle w ∷ first) rest tells = tells_first images first rest tells
tells_first images (Entry.Leave w ∷ first) rest tells = tells_first images first rest tells
tells_first images (Entry.Stop w ∷ first) rest tells = tells_first images first rest tells
tells_first images (Entry.Late w why ∷ first) rest tells = tells_first images first rest tells
tells_first images (Entry.Short w ∷ first) rest tells = tells_first images first rest tells

-- without its newest entry
tells_older : (images : List ℕ → List ℕ) (entry : Entry) (past : List Entry) → TellsImages images (reverse (entry ∷ past)) → TellsImages images (reverse past)
tells_older images entry past tells = tells_first images (reverse past) (entry ∷ []) (subst (TellsImages images) (reverse-append (entry ∷ []) past) tells)

-- a legal journal tells the same, whether its oldest entry or its newest one stands first
pub tells_latest_first : (images : List ℕ → List ℕ) (aim : Aim) (setup : Setup) (past : List Entry) → IsLegal aim setup past → TellsImages images (reverse past) → TellsImages images past
tells_latest_first images aim setup [] legal tells = tt
tells_latest_first images aim setup (Entry.Seen observation ∷ past) legal tells =
    subst (λ (l : List Entry). TellsImages images (reverse (Entry.Seen observation ∷ l)) → TellsImages images (Entry.Seen observation ∷ l)) (sym legal.1.0) (λ t. t) tells
tells_latest_first images aim setup (Entry.Claim w a ∷ past) legal tells = tells_latest_first images aim setup past legal.0 (tells_older images (Entry.Claim w a) past tells)
tells_latest_first images aim setup (Entry.Poll w s ∷ past) legal tells = tells_latest_first images aim setup past legal.0 (tells_older images (Entry.Poll w s) past tells)
tells_latest_first images aim setup (Entry.Ended w outcome ∷ past) legal tells = tells_latest_first images aim setup past legal.0 (tells_older images (Entry.Ended w outcome) past tells)
tells_latest_first images aim setup (Entry.Idle w ∷ past) legal tells = tells_latest_first images aim setup past legal.0 (tells_older images (Entry.Idle w) past tells)
tells_latest_first images aim setup (Entry.Leave w ∷ past) legal tells = tells_latest_first images aim setup past legal.0 (tells_older images (Entry.Leave w) past tells)
tells_latest_first images aim setup (Entry.Stop w ∷ past) legal tells = tells_latest_first images aim setup past legal.0 (tells_older images (Entry.Stop w) past tells)
tells_latest_first images aim setup (Entry.Late w why ∷ past) legal tells = tells_latest_first images aim setup past legal.0 (tells_older images (Entry.Late w why) past tells)
tells_latest_first images aim setup (Entry.Short w ∷ past) legal tells = tells_latest_first images aim setup past legal.0 (tells_older images (Entry.Short w) past tells)
