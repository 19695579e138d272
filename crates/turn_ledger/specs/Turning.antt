-- The rule of the turns, and what each step tells. Two words count the tickets drawn and the turns ended; one slot has the object.
use Rattle.std.specs.Prelude.{◌≡◌, ◌≢◌, ℕ, suc, ◌+◌, ◌-◌, ◌<◌, ◌≤◌, List, [], ◌∷◌, ◌++◌, length, drop, Option, Some, None, if◌then◌else◌, nat_lt}
use mathlib.Core.Option.{some}
use mathlib.Core.List.{IsPrefix}
use lib.ListN.{get_elem?}
use Rattle.atomic_table.specs.Table.{State, Me, Step, rest}
use Rattle.turn_ledger.specs.declared.view.View.{View}
use Rattle.turn_ledger.specs.declared.view.Opening.{Opening}
use Rattle.turn_ledger.specs.declared.view.Stage.{Stage}
use Rattle.turn_ledger.specs.declared.view.Stage.TheVariants.{Spent, Idle, Waiting, Turn, Done}
use Rattle.turn_ledger.specs.Own.{own, Each}

-- a seat at this stage still takes steps: it wasn't taken into another one
abbrev pub IsLive : Stage → Type 0
IsLive Spent = ⊥
IsLive Idle = Unit {0}
IsLive (Waiting t) = Unit {0}
IsLive (Turn t) = Unit {0}
IsLive (Done t) = Unit {0}

-- a seat at this stage has the object, or has yet to end the turn in which it had it
abbrev pub IsOut : Stage → Type 0
IsOut Spent = ⊥
IsOut Idle = ⊥
IsOut (Waiting t) = ⊥
IsOut (Turn t) = Unit {0}
IsOut (Done t) = Unit {0}

-- a seat at this stage holds this ticket
abbrev pub Draws : ℕ → Stage → Type 0
Draws t Spent = ⊥
Draws t Idle = ⊥
Draws t (Waiting u) = u ≡ t
Draws t (Turn u) = u ≡ t
Draws t (Done u) = u ≡ t

-- 1 where a ticket is held
abbrev pub held : Stage → ℕ
held Spent = 0
held Idle = 0
held (Waiting t) = 1
held (Turn t) = 1
held (Done t) = 1

-- how many tickets seats hold
abbrev pub tickets : {Q E : Type 0} → List (View Q E) → ℕ
tickets [] = 0
tickets (v ∷ vs) = held v.stage + tickets vs

-- what a seat's stage says of the words and of the history h: a ticket isn't served yet, or is served and all of h is seen
abbrev pub Knows : {E : Type 0} → ℕ → ℕ → List E → List E → Stage → Type 0
Knows next serving h seen Spent = Unit {0}
Knows next serving h seen Idle = Unit {0}
Knows next serving h seen (Waiting t) = (serving ≤ t) × (t < next)
Knows next serving h seen (Turn t) =
    (t ≡ serving) × (seen ≡ h) × (length h ≡ serving) × (serving < next)
Knows next serving h seen (Done t) =
    (t ≡ serving) × (seen ≡ h) × (length h ≡ suc serving) × (serving < next)

-- what a live seat knows fits the history h
pub record Fits {Q E : Type 0} (by : E → ℕ) (k : Opening Q) (next serving : ℕ) (h : List E) (i : ℕ)
    (v : View Q E) : Type 0 where
  pub opened : v.opened ≡ Some k.object.value
  pub seats : v.seats ≡ k.seats
  pub number : v.number ≡ i
  pub seen : IsPrefix v.seen h
  pub shown : IsPrefix v.shown h
  pub mine : v.mine ≡ own by i h
  pub stage : Knows next serving h v.seen v.stage

-- the object at home has the opening journal and then h
abbrev pub Stands : {Q E O : Type 0} → (Q → List E) → (Q → O) → Q → List E → Q → Type 0
Stands journal origin q h x = (journal x ≡ journal q ++ h) × (origin x ≡ origin q)

-- a seat that was taken in: it is spent, and these are its calls
pub record Took {Q E : Type 0} (by : E → ℕ) (views : List (View Q E)) (h : List E) (j : ℕ × List E)
    : Type 0 where
  pub made : j.0 < length views
  pub spent : (w : View Q E) → get_elem? views j.0 ≡ some w → ¬ IsLive w.stage
  pub calls : j.1 ≡ own by j.0 h

-- the rule: there is one history, the tickets out are those between the words, each live seat's view fits, no two seats hold
-- one ticket, and where no seat has the object it is at home with the whole history
pub record Kept {Q E O : Type 0} (journal : Q → List E) (origin : Q → O) (by : E → ℕ) (most : ℕ)
    (k : Opening Q) (s : State (Option Q) (View Q E)) : Type 0 where
  pub history : List E
  pub next : ℕ
  pub serving : ℕ
  pub words : s.words ≡ next ∷ serving ∷ []
  pub counted : next ≡ serving + tickets s.views
  pub short : length history ≤ most
  pub low : serving ≤ most
  pub few : k.seats ≤ 16
  pub fit : (i : ℕ) (v : View Q E) → get_elem? s.views i ≡ some v → IsLive v.stage
      → Fits by k next serving history i v
  pub apart : (i j t : ℕ) (v w : View Q E) → get_elem? s.views i ≡ some v
      → get_elem? s.views j ≡ some w → Draws t v.stage → Draws t w.stage → i ≡ j
  pub made : (e : ℕ) → length s.views ≤ e → own by e history ≡ []
  pub spare : ℕ
  pub keeper : ℕ
  pub full : length s.views + spare ≡ k.seats
  pub left : (i : ℕ) (v : View Q E) → get_elem? s.views i ≡ some v → v.left ≢ 0
      → (i ≡ keeper) × (v.left ≡ spare)
  pub took : (i : ℕ) (v : View Q E) → get_elem? s.views i ≡ some v
      → Each (Took by s.views history) v.joined
  pub known : (i : ℕ) × (v : View Q E) × (get_elem? s.views i ≡ some v) × IsLive v.stage
      × (v.seen ≡ history)
  pub one_slot : length s.homes ≡ 1
  pub home : ((i : ℕ) (v : View Q E) → get_elem? s.views i ≡ some v → ¬ IsOut v.stage)
      → (length history ≡ serving)
      × ((x : Q) × (get_elem? s.homes 0 ≡ some (some (Some x)))
      × Stands journal origin k.object.value history x)

-- a seat as the table has it: its view, and the slots that are out with it
abbrev pub Sat : Type 0 → Type 0 → Type 0
Sat Q E = Me (Option Q) (View Q E)

-- the first seat's view
abbrev pub newcomer : {Q E : Type 0} → Opening Q → View Q E
newcomer k = record {
  opened = Some k.object.value;
  seats = k.seats;
  number = 0;
  stage = Idle;
  seen = [];
  shown = [];
  mine = [];
  joined = [];
  left = k.seats - 1;
}

-- of two lists the longer one, the first where they are as long
abbrev pub longer : {E : Type 0} → List E → List E → List E
longer xs ys = if nat_lt (length xs) (length ys) then ys else xs

-- of two lists the other one
abbrev pub shorter : {E : Type 0} → List E → List E → List E
shorter xs ys = if nat_lt (length xs) (length ys) then xs else ys

module _ {Q E : Type 0} where
  -- the view at a stage
  abbrev pub at_stage : View Q E → Stage → View Q E
  at_stage v st = record v { stage = st }

  -- the view at a stage, with these entries seen
  abbrev pub sees : View Q E → Stage → List E → View Q E
  sees v st h = record v { stage = st; seen = h }

  -- the view with entries of its own more
  abbrev pub adds : View Q E → Stage → List E → View Q E
  adds v st es = record v { stage = st; seen = v.seen ++ es; mine = v.mine ++ es }

  -- a ticket is drawn
  abbrev pub drawn : Step (Option Q) → Sat Q E → ℕ → Sat Q E → Type 0
  drawn st m n m' = m' ≡ (at_stage m.0 (Waiting n), m.1)

  -- where the ticket is served, the object is taken, and the history so far is seen
  abbrev pub looked : {O : Type 0} → (Q → List E) → (Q → O) → (E → ℕ) → Step (Option Q) → Sat Q E
      → ℕ → Sat Q E → Type 0
  looked journal origin by st m n m' =
      (m.0.stage ≡ Waiting n
      → (x : Q) × (m' ≡ (sees m.0 (Turn n) m'.0.seen, (0, Some x) ∷ m.1))
      × IsPrefix m.0.seen m'.0.seen × (m.0.mine ≡ own by m.0.number m'.0.seen)
      × ((q : Q) → m.0.opened ≡ Some q → Stands journal origin q m'.0.seen x))
      × (m.0.stage ≢ Waiting n → m' ≡ m)

  -- what the object in hand has more than the base
  abbrev pub fresh : (Q → List E) → List E → Option Q → List E
  fresh journal base None = []
  fresh journal base (Some x) = drop (length base) (journal x)

  -- the journal of an object as it was opened
  abbrev pub opening_of : (Q → List E) → Option Q → List E
  opening_of journal None = []
  opening_of journal (Some q) = journal q

  -- what the object that a seat has put back has more than the seat has seen
  abbrev pub added : (Q → List E) → Sat Q E → List E
  added journal m = added_of (opening_of journal m.0.opened ++ m.0.seen) m.1 where
    added_of : List E → List (ℕ × Option Q) → List E
    added_of base [] = []
    added_of base (y ∷ c) = fresh journal base y.1

  -- the turn's entry joins what was seen, and the seat's own
  abbrev pub marked : (Q → List E) → Step (Option Q) → Sat Q E → ℕ → Sat Q E → Type 0
  marked journal st m n m' = m' ≡ (adds m.0 (Done n) (added journal m), m.1)

  -- the turn ends, with nothing of the object left
  abbrev pub ended : Step (Option Q) → Sat Q E → ℕ → Sat Q E → Type 0
  ended st m n m' = m' ≡ (at_stage m.0 Idle, rest m.1)

  -- the ticket is served, the history so far was seen, and the object has it
  abbrev pub Sees : {O : Type 0} → (Q → List E) → (Q → O) → (E → ℕ) → ℕ → View Q E → View Q E → Q
      → Type 0
  Sees journal origin by t v w x =
      (w ≡ sees v (Turn t) w.seen) × IsPrefix v.seen w.seen × (w.mine ≡ own by w.number w.seen)
      × ((q : Q) → v.opened ≡ Some q → Stands journal origin q w.seen x)

  -- the object has one entry more than what the seat has seen, and it is the seat's
  abbrev pub IsNext : {O : Type 0} → (Q → List E) → (Q → O) → (E → ℕ) → ℕ → View Q E → E → Q → Type 0
  IsNext journal origin by most v e x =
      (by e ≡ v.number) × (length (journal x) ≤ most)
      × ((q : Q) × (v.opened ≡ Some q) × (journal x ≡ (journal q ++ v.seen) ++ e ∷ [])
      × (origin x ≡ origin q))

  -- a seat learns that it may make fewer seats than there are, and that the list which it was shown begins what it has seen
  abbrev pub learned : Step (Option Q) → Sat Q E → ℕ → Sat Q E → Type 0
  learned st m n m' =
      (m' ≡ m) × (m.0.left < m.0.seats) × (m.0.seats ≤ 16)
      × (length m.0.shown ≤ length m.0.seen → IsPrefix m.0.shown m.0.seen)

  -- the old seat after a split
  abbrev pub spared : View Q E → View Q E
  spared v = record v { left = v.left - 1 }

  -- the new seat of a split: the next number, with what the old one had seen and no call of its own
  abbrev pub forked : View Q E → View Q E
  forked v = record {
    opened = v.opened;
    seats = v.seats;
    number = v.seats - v.left;
    stage = Idle;
    seen = v.seen;
    shown = [];
    mine = [];
    joined = [];
    left = 0;
  }

  -- what is left of a seat that was taken in
  abbrev pub spent : View Q E
  spent = record {
    opened = None;
    seats = 0;
    number = 0;
    stage = Spent;
    seen = [];
    shown = [];
    mine = [];
    joined = [];
    left = 0;
  }

  -- a seat that took another in
  abbrev pub both : View Q E → View Q E → View Q E
  both v w = record v {
    seen = longer v.seen w.seen;
    shown = shorter v.seen w.seen;
    joined = v.joined ++ (w.number, w.mine) ∷ w.joined;
    left = v.left + w.left;
  }

-- a seat's call was answered as the object answers it at its place in the history, which begins with all that the seat had seen
abbrev pub Acts : {Q E O C A : Type 0} → (Q → List E) → (Q → O) → (E → ℕ)
    → (O → List E → ℕ → C → A → E → Type 0) → Q → View Q E → C → A → View Q E → Type 0
Acts {Q} {E} journal origin by gives q v call answer w =
    (before : List E) × (e : E) × IsPrefix v.seen before
    × (w ≡ adds (sees v Idle before) Idle (e ∷ [])) × (by e ≡ v.number)
    × (w.mine ≡ own by v.number w.seen)
    × gives (origin q) (journal q ++ before) v.number call answer e
