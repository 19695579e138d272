-- Seats in a line, and their end.
use Rattle.std.proofs.Common.{◌≡◌, ℕ, ◌+◌, ◌<◌, ◌≤◌, List, [], ◌∷◌, ◌++◌, get_or, map, length, sym, ap, ◌∙◌, subst, inl, inr, append_assoc, arith}
use Rattle.std.proofs.lemmas.List.{length-map, map-append}
use Rattle.std.specs.Prelude.{remove}
use mathlib.Core.List.{IsPrefix}
use mathlib.Core.Logic.{dite}
use native.Mathlib.Decide.{ℕ_discrete}
use Rattle.log_book.specs.Books.{Book, opening}
use Rattle.log_book.specs.declared.entries.LogEntry.{LogEntry}
use Rattle.turn_ledger.specs.Own.{Each, HasNumber, own}
use Rattle.turn_ledger.specs.Seats.{Covers, Opened}
use Rattle.turn_ledger.specs.Turning.{both}
use Rattle.turn_ledger.proofs.Lists.{prefix_self, prefix_trans}
use Rattle.logs_run.specs.declared.fetching.Met.{Met}
use Rattle.logs_run.specs.Crew.{AreCalm, AreFresh, AreLined, HaveEnded, IsPlain, Seat, calls_of, calm, met_by, met_with}
use Rattle.logs_run.specs.Crew.{both as both_met}
use Rattle.logs_run.specs.Adding.{SeatView}

-- the first of a list, and the rest
pub front : {X : Type 0} (xs ys : List X) (x : X) → 0 < length xs → x ≡ get_or xs 0 x → ys ≡ remove xs 0 → xs ≡ x ∷ ys
front [] ys x some is rest = absurd (omega (arith, some))
front (y ∷ xs) ys x some is rest = ap (λ z. z ∷ xs) (sym is) ∙ ap (λ zs. x ∷ zs) (sym rest)

pub lined_plain : (turns : Opened Book) (n : ℕ) (ss : List Seat) → AreLined turns n ss → Each (λ (s : Seat). IsPlain turns s) ss
lined_plain turns n [] l = tt
lined_plain turns n (s ∷ ss) l = (l.0, lined_plain turns (n + 1) ss l.2)

lined_has : (turns : Opened Book) (n : ℕ) (ss : List Seat) → AreLined turns n ss → (m : ℕ) → n ≤ m → m < n + length ss → HasNumber m (map calls_of ss)
lined_has turns n [] l m le lt = absurd (omega (arith, le, lt))
lined_has turns n (s ∷ ss) l m le lt = dite (ℕ_discrete n m) (λ is. inl (l.1 ∙ is)) (λ ne. inr (lined_has turns (n + 1) ss l.2 m (omega (arith, le, ne)) (omega (arith, lt))))

pub lined_more : (turns : Opened Book) (n : ℕ) (ss : List Seat) (s : Seat) → AreLined turns n ss → IsPlain turns s → s.view.number ≡ n + length ss → AreLined turns n (ss ++ s ∷ [])
lined_more turns n [] s l plain number = (plain, omega (arith, number), tt)
lined_more turns n (x ∷ ss) s l plain number = (l.0, l.1, lined_more turns (n + 1) ss s l.2 plain (omega (arith, number)))

pub fresh_more : (ss : List Seat) (s : Seat) → AreFresh ss → s.view.mine ≡ [] → AreFresh (ss ++ s ∷ [])
fresh_more [] s f is = (is, tt)
fresh_more (x ∷ ss) s f is = (f.0, fresh_more ss s f.1 is)

-- the entries of a number
abbrev own_of : ℕ → List LogEntry → List LogEntry
own_of n es = own (λ (e : LogEntry). e.worker) n es

-- each seat has its calls of a history
each_has : (h : List LogEntry) (ss : List Seat) → Each (λ (j : ℕ × List LogEntry). j.1 ≡ own_of j.0 h) (map calls_of ss) → Each (λ (s : Seat). own (λ e. e.worker) s.view.number h ≡ s.view.mine) ss
each_has h [] c = tt
each_has h (s ∷ ss) c = (sym c.0, each_has h ss c.1)

-- the calls of a seat that is taken in are put behind those of the seats before it
pub took_calls : (joined taken : List (ℕ × List LogEntry)) (s : Seat) (rest : List Seat) → s.view.joined ≡ [] → taken ≡ joined ++ (s.view.number, s.view.mine) ∷ s.view.joined
    → taken ++ map calls_of rest ≡ joined ++ map calls_of (s ∷ rest)
took_calls joined taken s rest none is =
    ap (λ (l : List (ℕ × List LogEntry)). l ++ map calls_of rest) (is ∙ ap (λ (l : List (ℕ × List LogEntry)). joined ++ (s.view.number, s.view.mine) ∷ l) none)
    ∙ append_assoc joined ((s.view.number, s.view.mine) ∷ []) (map calls_of rest)

-- the seat that took all others in has taken each number's in
pub covers : (turns : Opened Book) (first : Seat) (ss : List Seat) (last : SeatView) → first.view.number ≡ 0 → last.number ≡ first.view.number → last.joined ≡ map calls_of ss → last.seats ≡ turns.seats
    → turns.seats ≡ length (first ∷ ss) → AreLined turns 1 ss → Covers last
covers turns first ss last zero number joined seats all lined n lt =
    let below : n < length ss + 1 = omega (arith, lt, seats, all) in
    dite (ℕ_discrete n 0) (λ z. inl (z ∙ sym zero ∙ sym number))
    (λ nz. inr (subst (λ (l : List (ℕ × List LogEntry)). HasNumber n l) (sym joined) (lined_has turns 1 ss lined n (omega (arith, nz)) (omega (arith, below)))))

-- the ledger that comes back has all that each seat has seen, and of each number what its seat has
pub have_ended : (turns : Opened Book) (first : Seat) (ss : List Seat) (last : SeatView) (new : Book) → last.number ≡ first.view.number → last.mine ≡ first.view.mine → last.joined ≡ map calls_of ss
    → ((h : List LogEntry) → IsPrefix last.seen h → IsPrefix first.view.seen h × Each (λ (s : Seat). IsPrefix s.view.seen h) ss)
    → (new.entries ≡ turns.object.entries ++ last.seen) × (opening new ≡ opening turns.object)
    → last.mine ≡ own_of last.number last.seen → Each (λ (j : ℕ × List LogEntry). j.1 ≡ own_of j.0 last.seen) last.joined
    → HaveEnded turns.object (first ∷ ss) new
have_ended turns first ss last new number mine joined begins stands owns each =
    let b = begins last.seen (prefix_self last.seen) in record {
      history = last.seen;
      entries = stands.0;
      origin = stands.1;
      begins = b;
      mine = (
        ap (λ (n : ℕ). own_of n last.seen) (sym number) ∙ sym owns ∙ mine,
        each_has last.seen ss (subst (λ (l : List (ℕ × List LogEntry)). Each (λ (j : ℕ × List LogEntry). j.1 ≡ own_of j.0 last.seen) l) joined each),
      );
    }

-- a worker more that has met nothing
pub calm_more : {M : Type 0} (met : M → Met) (crew new : List M) (m : M) → new ≡ crew ++ m ∷ [] → AreCalm (map met crew) → met m ≡ calm → AreCalm (map met new)
calm_more {M} met crew new m is were now =
    subst (λ (l : List Met). AreCalm l) (sym (ap (λ (l : List M). map met l) is ∙ map-append met crew (m ∷ []))) (behind (map met crew) (met m) were now)
  where
    behind : (mets : List Met) (one : Met) → AreCalm mets → one ≡ calm → AreCalm (mets ++ one ∷ [])
    behind [] one h e = (e, tt)
    behind (x ∷ mets) one h e = (h.0, behind mets one h.1 e)

-- what a worker met is added to what the first one met
pub met_taken : {M : Type 0} (met : M → Met) (crew rest : List M) (m : M) (known new all : Met) → crew ≡ m ∷ rest → new ≡ both_met known (met m)
    → met_with known (map met crew) ≡ all → met_with new (map met rest) ≡ all
met_taken {M} met crew rest m known new all head is was =
    ap (λ (x : Met). met_with x (map met rest)) is ∙ ap (λ (l : List M). met_with known (map met l)) (sym head) ∙ was

pub met_all : {M : Type 0} (met : M → Met) (crew : List M) (known all : Met) → crew ≡ [] → met_with known (map met crew) ≡ all → known ≡ all
met_all {M} met crew known all none was = ap (λ (l : List M). met_with known (map met l)) (sym none) ∙ was

pub met_first : {M : Type 0} (met : M → Met) (crew rest : List M) (m : M) (all : Met) → crew ≡ m ∷ rest → all ≡ met_with (met m) (map met rest) → all ≡ met_by (map met crew)
met_first {M} met crew rest m all head is = is ∙ ap (λ (l : List M). met_by (map met l)) (sym head)

-- a crew, by the seat and the hand of each member
module _ {M H : Type 0} (seat : M → Seat) (hand : M → H) where
  -- a hand has its seat
  pub record HasSat (turns : Opened Book) (crew : List M) (hands start : List H) : Type 0 where
    pub given : map hand crew ++ hands ≡ start
    pub seats : AreLined turns 1 (map seat crew)
    pub fresh : AreFresh (map seat crew)

  pub sits : (turns : Opened Book) (crew new : List M) (m : M) (hands rest start : List H) → new ≡ crew ++ m ∷ [] → hands ≡ hand m ∷ rest → map hand crew ++ hands ≡ start
      → AreLined turns 1 (map seat crew) → AreFresh (map seat crew) → IsPlain turns (seat m) → (seat m).view.number ≡ 1 + length crew → (seat m).view.mine ≡ [] → HasSat turns new rest start
  sits turns crew new m hands rest start is first given lined fresh plain number mine = record {
    given = ap (λ (l : List M). map hand l ++ rest) is ∙ ap (λ (l : List H). l ++ rest) (map-append hand crew (m ∷ [])) ∙ append_assoc (map hand crew) (hand m ∷ []) rest
        ∙ ap (λ (l : List H). map hand crew ++ l) (sym first) ∙ given;
    seats = subst (λ (l : List Seat). AreLined turns 1 l) (sym seats_are) (lined_more turns 1 (map seat crew) (seat m) lined plain (let long = length-map crew seat in omega (arith, number, long)));
    fresh = subst (λ (l : List Seat). AreFresh l) (sym seats_are) (fresh_more (map seat crew) (seat m) fresh mine);
  }
    where
      seats_are : map seat new ≡ map seat crew ++ seat m ∷ []
      seats_are = ap (λ (l : List M). map seat l) is ∙ map-append seat crew (m ∷ [])

  -- a seat was taken in, and its hand is back
  pub record IsTaken (turns : Opened Book) (rest start : List M) (m : M) (w v0 : SeatView) (hands hands0 : List H) : Type 0 where
    pub none : (seat m).view.left ≡ 0
    pub plain : Each (λ (s : Seat). IsPlain turns s) (map seat rest)
    pub joined : w.joined ++ map calls_of (map seat rest) ≡ v0.joined ++ map calls_of (map seat start)
    pub begins : (h : List LogEntry) → IsPrefix w.seen h → Each (λ (s : Seat). IsPrefix s.view.seen h) (map seat rest) → IsPrefix v0.seen h × Each (λ (s : Seat). IsPrefix s.view.seen h) (map seat start)
    pub given : hands ++ map hand rest ≡ hands0 ++ map hand start

  takes_first : (turns : Opened Book) (rest start : List M) (m : M) (v w v0 : SeatView) (hands new hands0 : List H) → Each (λ (s : Seat). IsPlain turns s) (map seat (m ∷ rest))
      → v.joined ++ map calls_of (map seat (m ∷ rest)) ≡ v0.joined ++ map calls_of (map seat start)
      → ((h : List LogEntry) → IsPrefix v.seen h → Each (λ (s : Seat). IsPrefix s.view.seen h) (map seat (m ∷ rest)) → IsPrefix v0.seen h × Each (λ (s : Seat). IsPrefix s.view.seen h) (map seat start))
      → hands ++ map hand (m ∷ rest) ≡ hands0 ++ map hand start
      → w ≡ both v (seat m).view → IsPrefix v.seen w.seen × IsPrefix (seat m).view.seen w.seen → new ≡ hands ++ hand m ∷ [] → IsTaken turns rest start m w v0 new hands0
  takes_first turns rest start m v w v0 hands new hands0 plain joined begins given is seen put = record {
    none = plain.0.left;
    plain = plain.1;
    joined = took_calls v.joined w.joined (seat m) (map seat rest) plain.0.joined (ap (λ (x : SeatView). x.joined) is) ∙ joined;
    begins = λ h p e. begins h (prefix_trans v.seen w.seen h seen.0 p) (prefix_trans (seat m).view.seen w.seen h seen.1 p, e);
    given = ap (λ (l : List H). l ++ map hand rest) put ∙ append_assoc hands (hand m ∷ []) (map hand rest) ∙ given;
  }

  pub takes : (turns : Opened Book) (crew rest start : List M) (m : M) (v w v0 : SeatView) (hands new hands0 : List H) → crew ≡ m ∷ rest → Each (λ (s : Seat). IsPlain turns s) (map seat crew)
      → v.joined ++ map calls_of (map seat crew) ≡ v0.joined ++ map calls_of (map seat start)
      → ((h : List LogEntry) → IsPrefix v.seen h → Each (λ (s : Seat). IsPrefix s.view.seen h) (map seat crew) → IsPrefix v0.seen h × Each (λ (s : Seat). IsPrefix s.view.seen h) (map seat start))
      → hands ++ map hand crew ≡ hands0 ++ map hand start
      → w ≡ both v (seat m).view → IsPrefix v.seen w.seen × IsPrefix (seat m).view.seen w.seen → new ≡ hands ++ hand m ∷ [] → IsTaken turns rest start m w v0 new hands0
  takes turns crew rest start m v w v0 hands new hands0 head plain joined begins given is seen put =
      takes_first turns rest start m v w v0 hands new hands0
      (subst (λ (l : List M). Each (λ (s : Seat). IsPlain turns s) (map seat l)) head plain)
      (subst (λ (l : List M). v.joined ++ map calls_of (map seat l) ≡ v0.joined ++ map calls_of (map seat start)) head joined)
      (subst (λ (l : List M). (h : List LogEntry) → IsPrefix v.seen h → Each (λ (s : Seat). IsPrefix s.view.seen h) (map seat l) → IsPrefix v0.seen h × Each (λ (s : Seat). IsPrefix s.view.seen h) (map seat start)) head begins)
      (subst (λ (l : List M). hands ++ map hand l ≡ hands0 ++ map hand start) head given)
      is seen put

  -- where none is left, each was taken in
  pub all_taken : (crew start : List M) (v v0 : SeatView) → crew ≡ []
      → ((h : List LogEntry) → IsPrefix v.seen h → Each (λ (s : Seat). IsPrefix s.view.seen h) (map seat crew) → IsPrefix v0.seen h × Each (λ (s : Seat). IsPrefix s.view.seen h) (map seat start))
      → (h : List LogEntry) → IsPrefix v.seen h → IsPrefix v0.seen h × Each (λ (s : Seat). IsPrefix s.view.seen h) (map seat start)
  all_taken crew start v v0 none begins h p = begins h p (subst (λ (l : List M). Each (λ (s : Seat). IsPrefix s.view.seen h) (map seat l)) (sym none) tt)

  -- the other seats of a line
  pub others_lined : (turns : Opened Book) (crew rest : List M) (m : M) → crew ≡ m ∷ rest → AreLined turns 0 (map seat crew) → AreLined turns 0 (map seat (m ∷ rest))
  others_lined turns crew rest m head lined = subst (λ (l : List M). AreLined turns 0 (map seat l)) head lined

  pub covers_all : (turns : Opened Book) (crew rest : List M) (m : M) (last : SeatView) → crew ≡ m ∷ rest → AreLined turns 0 (map seat crew) → turns.seats ≡ length crew
      → last.number ≡ (seat m).view.number → last.joined ≡ (seat m).view.joined ++ map calls_of (map seat rest) → last.seats ≡ turns.seats → Covers last
  covers_all turns crew rest m last head lined all number joined seats =
      let l = others_lined turns crew rest m head lined in
      covers turns (seat m) (map seat rest) last l.1 number (joined ∙ ap (λ (x : List (ℕ × List LogEntry)). x ++ map calls_of (map seat rest)) l.0.joined) seats
      (let long = length-map rest seat in let some : length crew ≡ length (m ∷ rest) = ap (λ (x : List M). length x) head in omega (arith, all, long, some)) l.2

  pub ended_all : (turns : Opened Book) (crew rest : List M) (m : M) (last : SeatView) (new : Book) → crew ≡ m ∷ rest → AreLined turns 0 (map seat crew)
      → last.number ≡ (seat m).view.number → last.mine ≡ (seat m).view.mine → last.joined ≡ (seat m).view.joined ++ map calls_of (map seat rest)
      → ((h : List LogEntry) → IsPrefix last.seen h → IsPrefix (seat m).view.seen h × Each (λ (s : Seat). IsPrefix s.view.seen h) (map seat rest))
      → (new.entries ≡ turns.object.entries ++ last.seen) × (opening new ≡ opening turns.object)
      → last.mine ≡ own_of last.number last.seen → Each (λ (j : ℕ × List LogEntry). j.1 ≡ own_of j.0 last.seen) last.joined
      → HaveEnded turns.object (map seat crew) new
  ended_all turns crew rest m last new head lined number mine joined begins stands owns each =
      let l = others_lined turns crew rest m head lined in
      subst (λ (x : List M). HaveEnded turns.object (map seat x) new) (sym head)
      (have_ended turns (seat m) (map seat rest) last new number mine (joined ∙ ap (λ (x : List (ℕ × List LogEntry)). x ++ map calls_of (map seat rest)) l.0.joined) begins stands owns each)
