-- A run may be cut off after each of its moves.
use Rattle.std.proofs.Common.{◌≡◌, ℕ, true, false, List, [], ◌∷◌, ◌++◌, reverse, Some, is_some, refl, sym, ap, ◌∙◌, subst, inl, inr}
use Rattle.std.proofs.lemmas.List.{reverse-append, reverse-reverse}
use Rattle.engine_types.specs.declared.Aim.{Aim}
use Rattle.engine_types.specs.declared.Declared.{Declared}
use Rattle.engine_types.specs.declared.Engine.{Engine}
use Rattle.engine_types.specs.declared.Entry.{Entry}
use Rattle.engine_types.specs.declared.Exchange.{Exchange}
use Rattle.engine_types.specs.declared.LateWhy.{LateWhy}
use Rattle.engine_types.specs.declared.Outcome.{Outcome}
use Rattle.engine_types.specs.declared.Purpose.{Purpose}
use Rattle.run_model.specs.Cuts.{IsCutJournal, IsCutSeeing, TellsImages}
use Rattle.run_model.specs.Journals.{Setup, seen_in}
use Rattle.run_model.specs.Legal.{IsLegal, MayStand}
use Rattle.run_model.specs.Observation.{is_asked, observed}
use Rattle.run_model.specs.Requests.{OfAction, OfPoll, OfSeen, Source, asked}
use Rattle.run_model.specs.Worlds.{Changed, Did, Effect, Fits, FitsLast, FitsSeen, Move, Took, World, entries_of, seen_effects}
use Rattle.cut_laws.specs.Once.{CutsAnywhere}
use Rattle.cut_laws.proofs.ObservationLaws.{each_is_asked}
use Rattle.cut_laws.proofs.Looking.{is_on}

-- the first exchanges of an observation are such, too
shorter : (declared : Declared) (purpose : Purpose) (x : Exchange) (past : List Exchange) → is_asked (observed declared purpose (reverse (x ∷ past))) ≡ true
    → is_asked (observed declared purpose (reverse past)) ≡ true
shorter declared purpose x past e =
    let f : is_asked (observed declared purpose (reverse past ++ x ∷ [])) ≡ true = subst (λ (xs : List Exchange). is_asked (observed declared purpose xs) ≡ true) (reverse-append (x ∷ []) past) e in
    let r = each_is_asked declared purpose (reverse past) x [] f in
    ap is_asked r.1

-- without the latest effect of an observation: its exchange and those behind it are left out
without : (declared : Declared) (purpose : Purpose) (past : List Exchange) (effect : Effect) (effects : List Effect) → is_asked (observed declared purpose (reverse past)) ≡ true
    → FitsSeen past (effect ∷ effects) → (before : List Exchange) × (is_asked (observed declared purpose (reverse before)) ≡ true) × FitsSeen before effects
without declared purpose [] effect effects e fits = absurd (cc fits)
without declared purpose (x ∷ past) effect effects e fits = at x.outcome fits (shorter declared purpose x past e) (λ f g. without declared purpose past effect effects f g)
  where
    at : (outcome : Outcome) → FitsLast outcome x.request (FitsSeen past) (effect ∷ effects) → is_asked (observed declared purpose (reverse past)) ≡ true
        → (is_asked (observed declared purpose (reverse past)) ≡ true → FitsSeen past (effect ∷ effects)
        → (before : List Exchange) × (is_asked (observed declared purpose (reverse before)) ≡ true) × FitsSeen before effects)
        → (before : List Exchange) × (is_asked (observed declared purpose (reverse before)) ≡ true) × FitsSeen before effects
    at (Outcome.Answered reply) f g rest = (past, g, f.2)
    at Outcome.NotSent f g rest = rest g f
    at (Outcome.Lost cause) (inl f) g rest = rest g f
    at (Outcome.Lost cause) (inr f) g rest = (past, g, f.1)
    at Outcome.Memory (inl f) g rest = rest g f
    at Outcome.Memory (inr f) g rest = (past, g, f.1)

module _ (aim : Aim) (setup : Setup) where
  -- what stays of a cut observation
  seeing_of : (moves : List Move) (before : List Exchange) → is_asked (observed setup.declared aim.purpose (reverse before)) ≡ true → FitsSeen before (seen_effects moves)
      → IsCutSeeing aim setup moves
  seeing_of moves before e fits = record {
    exchanges = reverse before;
    asked = e;
    effects = subst (λ (xs : List Exchange). FitsSeen xs (seen_effects moves)) (sym (reverse-reverse before)) fits;
  }

  -- the journal without the latest move
  cut_journal : (move : Move) (moves : List Move) (first last : Engine) → World setup first (move ∷ moves) last → IsCutJournal aim setup (move ∷ moves) → IsCutJournal aim setup moves
  cut_journal (Did entry) moves first last world legal = at (entries_of moves) refl legal.1 world.2.0
    where
      nothing : (past : List Entry) → entries_of moves ≡ past → past ≡ [] → is_some (seen_in (entries_of moves)) ≡ true → ⊥
      nothing past e empty begun = let bad : false ≡ true = rw (e ∙ empty) at begun in cc bad

      seen : (e : Entry) → entries_of moves ≡ [] → MayStand aim setup (entries_of moves) e → Fits moves e → IsCutSeeing aim setup moves
      seen (Entry.Seen observation) none may fits =
          record { exchanges = observation.exchanges; asked = is_on aim setup observation may.1; effects = fits }
      seen (Entry.Ended v outcome) none may fits = let bad : false ≡ true = rw none at may in absurd (cc bad)
      seen (Entry.Claim v a) none may fits = absurd (nothing [] none refl may.0.begun)
      seen (Entry.Poll v s) none may fits = absurd (nothing [] none refl may.0.begun)
      seen (Entry.Idle v) none may fits = absurd (nothing [] none refl may.0.begun)
      seen (Entry.Leave v) none may fits = absurd (nothing [] none refl may.0.begun)
      seen (Entry.Stop v) none may fits = absurd (nothing [] none refl may.0.begun)
      seen (Entry.Late v LateWhy.Entries) none may fits = absurd (nothing [] none refl may.0.begun)
      seen (Entry.Late v (LateWhy.Deadline reading)) none may fits = absurd (nothing [] none refl may.0.begun)
      seen (Entry.Short v) none may fits = absurd (nothing [] none refl may.0.begun)

      at : (past : List Entry) → entries_of moves ≡ past → MayStand aim setup (entries_of moves) entry → Fits moves entry → IsCutJournal aim setup moves
      at [] none may fits = rw none (seen entry none may fits)
      at (e ∷ past) same may fits = rw same (subst (λ (l : List Entry). IsLegal aim setup l) same legal.0)
  cut_journal Changed moves first last world journal = at (entries_of moves) refl
    where
      at : (past : List Entry) → entries_of moves ≡ past → IsCutJournal aim setup moves
      at [] none =
          let seeing : IsCutSeeing aim setup (Changed ∷ moves) = rw none at journal in
          let kept : IsCutSeeing aim setup moves = record { exchanges = seeing.exchanges; asked = seeing.asked; effects = seeing.effects } in
          rw none kept
      at (e ∷ past) same = let legal : IsLegal aim setup (e ∷ past) = rw same at journal in rw same legal
  cut_journal (Took source request reply) moves first last world journal = at (entries_of moves) refl
    where
      seen : (s : Source) → World setup first (Took s request reply ∷ moves) last → entries_of moves ≡ [] → IsCutSeeing aim setup (Took s request reply ∷ moves) → IsCutSeeing aim setup moves
      seen (OfSeen i) w none seeing =
          let r = without setup.declared aim.purpose (reverse seeing.exchanges) (record { request = request; reply = reply }) (seen_effects moves)
          (subst (λ (xs : List Exchange). is_asked (observed setup.declared aim.purpose xs) ≡ true) (sym (reverse-reverse seeing.exchanges)) seeing.asked) seeing.effects in
          seeing_of moves r.0 r.1 r.2
      seen (OfAction a) w none seeing = let asks : asked setup [] (OfAction a) ≡ Some request = rw none at w.2.0.may_act.0 in absurd (cc asks)
      seen (OfPoll n) w none seeing = let asks : asked setup [] (OfPoll n) ≡ Some request = rw none at w.2.0.may_act.0 in absurd (cc asks)

      at : (past : List Entry) → entries_of moves ≡ past → IsCutJournal aim setup moves
      at [] none =
          let seeing : IsCutSeeing aim setup (Took source request reply ∷ moves) = rw none at journal in
          rw none (seen source world none seeing)
      at (e ∷ past) same = let legal : IsLegal aim setup (e ∷ past) = rw same at journal in rw same legal

-- what the journal tells of images without the latest move
tells_less : (images : List ℕ → List ℕ) (aim : Aim) (setup : Setup) (move : Move) (moves : List Move) → IsCutJournal aim setup (move ∷ moves) → TellsImages images (entries_of (move ∷ moves))
    → TellsImages images (entries_of moves)
tells_less images aim setup (Did (Entry.Seen observation)) moves legal tells = rw legal.1.0 tt
tells_less images aim setup (Did (Entry.Claim w a)) moves legal tells = tells
tells_less images aim setup (Did (Entry.Poll w s)) moves legal tells = tells
tells_less images aim setup (Did (Entry.Ended w outcome)) moves legal tells = tells
tells_less images aim setup (Did (Entry.Idle w)) moves legal tells = tells
tells_less images aim setup (Did (Entry.Leave w)) moves legal tells = tells
tells_less images aim setup (Did (Entry.Stop w)) moves legal tells = tells
tells_less images aim setup (Did (Entry.Late w why)) moves legal tells = tells
tells_less images aim setup (Did (Entry.Short w)) moves legal tells = tells
tells_less images aim setup (Took source request reply) moves journal tells = tells
tells_less images aim setup Changed moves journal tells = tells

pub cuts_anywhere : CutsAnywhere
cuts_anywhere declared images first aim setup move moves last is = record {
  declares = is.declares;
  up = is.up;
  plan = is.plan;
  journal = cut_journal aim setup move moves first last is.world is.journal;
  told = tells_less images aim setup move moves is.journal is.told;
  world = is.world.1;
}
