-- What a turn makes of what a seat knows.
use Rattle.std.proofs.Common.{◌≡◌, ℕ, ◌≤◌, Bool, true, false, cond, List, [], ◌∷◌, ◌++◌, length, reverse, refl, sym, ap, ◌∙◌, subst, append_assoc, arith}
use Rattle.std.proofs.lemmas.Bool.{eq-eqb}
use Rattle.std.proofs.lemmas.List.{append_cancel_right, reverse-append}
use Rattle.std.proofs.lemmas.List.Elements.{filter-append}
use Rattle.std.specs.Prelude.{◌==◌}
use Rattle.engine_types.specs.declared.Entry.{Entry}
use Rattle.engine_types.specs.declared.Exchange.{Exchange}
use Rattle.engine_types.specs.declared.Outcome.{Outcome}
use Rattle.engine_types.specs.declared.Request.{Request}
use Rattle.engine_types.specs.declared.Seen.{Seen}
use Rattle.outside_api.proofs.Accounts.{caused-append, caused-one}
use Rattle.run_model.specs.Journals.{Setup}
use Rattle.run_model.specs.Legal.{IsLegal}
use Rattle.run_model.specs.Logs.{exchanges_of}
use Rattle.run_model.specs.Requests.{request_out}
use Rattle.journal_laws.specs.Courses.{Course, entries, first_seen, grown, setup_of}
use Rattle.ledger_core.specs.declared.permit.Permit.{Permit}
use Rattle.ledger_run.specs.Tellings.{Exchanges, Telling, account_in}
use Rattle.ledger_run.specs.Turns.{with_more}
use Rattle.ledger_run.specs.Works.{HasOnlySeen}
use Rattle.ledger_run.proofs.Stepping.{grows-append, grows-one}
use Rattle.turn_ledger.specs.Turning.{Acts}
use Rattle.worker_laws.specs.Own.{granted, own_of, worker_of}
use Rattle.worker_laws.proofs.Adding.{added, nothing_more}
use Rattle.worker_laws.proofs.Granting.{is_granted}
use Rattle.ledger_turns.specs.Calls.{Gives, IsOpen, Told, opening}
use Rattle.ledger_turns.specs.declared.calls.LedgerAnswer.{LedgerAnswer}
use Rattle.ledger_turns.specs.declared.calls.LedgerCall.{LedgerCall}
use Rattle.ledger_turns.proofs.Calling.{has_room, newest, own_reverse}
use Rattle.worker_pool.specs.Seats.{EndsBy, GoesOnTo, HasMade, IsGranted, IsPlaced, SeatView, Went, mine_of}

-- a turn was taken: what a seat's call entered, and where
pub record Acted (q : Course) (v : SeatView) (call : LedgerCall) (answer : LedgerAnswer) (w : SeatView) : Type 0 where
  pub before : List Entry
  pub entry : Entry
  pub goes_on : GoesOnTo v before
  pub seen : w.seen ≡ before ++ entry ∷ []
  pub mine : w.mine ≡ v.mine ++ entry ∷ []
  pub number : w.number ≡ v.number
  pub left : w.left ≡ v.left
  pub joined : w.joined ≡ v.joined
  pub by : worker_of entry ≡ v.number
  pub told : Told (with_more q before) v.number call answer entry
  pub shared : IsOpen (grown (with_more q before) entry)
  pub owned : w.mine ≡ own_of w.number w.seen

own_hers : (n : ℕ) (xs : List Entry) (e : Entry) → worker_of e ≡ n → own_of n (xs ++ e ∷ []) ≡ own_of n xs ++ e ∷ []
own_hers n xs e is = filter-append (λ e. worker_of e == n) xs (e ∷ []) ∙ ap (λ (ys : List Entry). own_of n xs ++ ys) (rw (eq-eqb (worker_of e) n is) refl)

pub acted : (q : Course) (v w : SeatView) (call : LedgerCall) (answer : LedgerAnswer)
    → Acts (λ (run : Course). run.journal) (λ run. opening run) (λ e. worker_of e) (λ opened before w call answer e. Gives opened before w call answer e) q v call answer w → Acted q v call answer w
acted q v w call answer a = record {
  before = a.0;
  entry = a.1;
  goes_on = record { begins = a.2; own = own };
  seen = ap (λ (x : SeatView). x.seen) a.3;
  mine = ap (λ (x : SeatView). x.mine) a.3;
  number = ap (λ (x : SeatView). x.number) a.3;
  left = ap (λ (x : SeatView). x.left) a.3;
  joined = ap (λ (x : SeatView). x.joined) a.3;
  by = a.4;
  told = a.6.told;
  shared = a.6.still;
  owned = a.5 ∙ ap (λ (n : ℕ). own_of n w.seen) (sym (ap (λ (x : SeatView). x.number) a.3));
}
  where
    own : own_of v.number a.0 ≡ v.mine
    own = append_cancel_right (own_of v.number a.0) v.mine (a.1 ∷ [])
        (sym (own_hers v.number a.0 a.1 a.4) ∙ ap (own_of v.number) (sym (ap (λ (x : SeatView). x.seen) a.3)) ∙ sym a.5 ∙ ap (λ (x : SeatView). x.mine) a.3)

-- the same of an answer that is known to be this
pub acted_as : (q : Course) (v w : SeatView) (call : LedgerCall) (x y : LedgerAnswer) → x ≡ y
    → Acts (λ (run : Course). run.journal) (λ run. opening run) (λ e. worker_of e) (λ opened before w call answer e. Gives opened before w call answer e) q v call x w → Acted q v call y w
acted_as q v w call x y is a = subst (λ (z : LedgerAnswer). Acted q v call z w) is (acted q v w call x a)

-- a later history of the seat is the turn's, and then entries of others
pub record Since (before : List Entry) (entry : Entry) (n : ℕ) (h : List Entry) : Type 0 where
  pub more : List Entry
  pub is : h ≡ (before ++ entry ∷ []) ++ more
  pub others : own_of n more ≡ []

pub since : (q : Course) (v w : SeatView) (call : LedgerCall) (answer : LedgerAnswer) (a : Acted q v call answer w) (h : List Entry) → GoesOnTo w h → Since a.before a.entry v.number h
since q v w call answer a h g = record {
  more = g.begins.0;
  is = is;
  others = nothing_more (own_of v.number (a.before ++ a.entry ∷ [])) (own_of v.number g.begins.0)
      (sym (filter-append (λ e. worker_of e == v.number) (a.before ++ a.entry ∷ []) g.begins.0) ∙ ap (own_of v.number) (sym is) ∙ ap (λ (n : ℕ). own_of n h) (sym a.number) ∙ g.own ∙ a.mine ∙ sym (own_hers v.number a.before a.entry a.by ∙ ap (λ (l : List Entry). l ++ a.entry ∷ []) a.goes_on.own));
}
  where
    is : h ≡ (a.before ++ a.entry ∷ []) ++ g.begins.0
    is = sym g.begins.1 ∙ ap (λ (l : List Entry). l ++ g.begins.0) a.seen

-- the whole journal with it, newest first
pub turned : (journal before more : List Entry) (e : Entry) → reverse (journal ++ ((before ++ e ∷ []) ++ more)) ≡ reverse more ++ (e ∷ reverse (journal ++ before))
turned journal before more e =
    ap reverse (sym (append_assoc journal (before ++ e ∷ []) more)) ∙ reverse-append (journal ++ (before ++ e ∷ [])) more
    ∙ ap (λ (l : List Entry). reverse more ++ l) (ap reverse (sym (append_assoc journal before (e ∷ []))) ∙ reverse-append (journal ++ before) (e ∷ []))

-- the exchanges of the worker by a later history are those by the turn's
pub exchanges_since : (q : Course) (v w : SeatView) (call : LedgerCall) (answer : LedgerAnswer) (a : Acted q v call answer w) (h : List Entry) → GoesOnTo w h
    → exchanges_of (setup_of q) (reverse (q.journal ++ h)) v.number ≡ exchanges_of (setup_of q) (a.entry ∷ reverse (q.journal ++ a.before)) v.number
exchanges_since q v w call answer a h g =
    let s = since q v w call answer a h g in
    ap (λ (l : List Entry). exchanges_of (setup_of q) (reverse (q.journal ++ l)) v.number) s.is
    ∙ ap (λ (l : List Entry). exchanges_of (setup_of q) l v.number) (turned q.journal a.before s.more a.entry)
    ∙ added (setup_of q) (reverse s.more) (a.entry ∷ reverse (q.journal ++ a.before)) v.number (own_reverse v.number s.more ∙ ap reverse s.others)

seen_kept : (items more : List Entry) → (items ≡ [] → ⊥) → first_seen (items ++ more) ≡ first_seen items
seen_kept [] more some = absurd (some refl)
seen_kept (Entry.Seen observation ∷ rest) more some = refl
seen_kept (x ∷ rest) more some = refl

pub some_of : (q : Course) → HasOnlySeen q.journal → q.journal ≡ [] → ⊥
some_of q only e = let bad : Entry.Seen only.observation ∷ [] ≡ [] = sym only.only ∙ e in cc bad

pub setup_kept : (q : Course) (more : List Entry) → HasOnlySeen q.journal → setup_of (with_more q more) ≡ setup_of q
setup_kept q more only = ap (λ (seen : Seen). record { declared = q.declared; seen = seen; actions = q.plan.actions; limits = q.limits }) (seen_kept q.journal more (some_of q only))

-- the run at the turn, without the turn's entry, is legal
pub legal_before : (q : Course) (v w : SeatView) (call : LedgerCall) (answer : LedgerAnswer) (a : Acted q v call answer w) → HasOnlySeen q.journal → IsLegal a.shared.aim (setup_of q) (reverse (q.journal ++ a.before))
legal_before q v w call answer a only =
    (subst (λ (past : List Entry). IsLegal a.shared.aim (setup_of q) past) (newest (with_more q a.before) a.entry)
    (subst (λ (s : Setup). IsLegal a.shared.aim s (entries (grown (with_more q a.before) a.entry)))
    (ap (λ (l : List Entry). setup_of (record q { journal = l })) (append_assoc q.journal a.before (a.entry ∷ [])) ∙ setup_kept q (a.before ++ a.entry ∷ []) only)
    a.shared.legal)).0

own_few : (n : ℕ) (es : List Entry) → length (own_of n es) ≤ length es
own_few n [] = omega arith
own_few n (e ∷ es) = by (worker_of e == n) (own_few n es)
  where
    by : (t : Bool) → length (own_of n es) ≤ length es → length (cond t (e ∷ own_of n es) (own_of n es)) ≤ length (e ∷ es)
    by true l = omega (arith, l)
    by false l = omega (arith, l)

pub placed_of : (q : Course) (v w : SeatView) (call : LedgerCall) (answer : LedgerAnswer) → Acted q v call answer w → IsPlaced q w
placed_of q v w call answer a = record {
  own = a.owned;
  short =
      let few = own_few w.number (q.journal ++ w.seen) in
      let room : length ((q.journal ++ a.before) ++ a.entry ∷ []) ≤ 1000048 = has_room (grown (with_more q a.before) a.entry) a.shared in
      let same : length (q.journal ++ w.seen) ≡ length ((q.journal ++ a.before) ++ a.entry ∷ []) = ap (λ (l : List Entry). length (q.journal ++ l)) a.seen ∙ ap (λ (l : List Entry). length l) (sym (append_assoc q.journal a.before (a.entry ∷ []))) in
      let is : length (own_of w.number (q.journal ++ w.seen)) ≡ length (mine_of q w) = ap (λ (l : List Entry). length l) (filter-append (λ e. worker_of e == w.number) q.journal w.seen ∙ ap (λ (l : List Entry). own_of w.number q.journal ++ l) (sym a.owned)) in
      omega (arith, few, room, same, is);
}

-- a permit was ended: the exchange is the one that it was granted for
pub ended_went : (q : Course) (v w : SeatView) (permit : Permit) (outcome : Outcome) (request : Request) (answer : LedgerAnswer) (s t : Telling) → HasOnlySeen q.journal → IsGranted q v request
    → Acted q v (LedgerCall.End permit outcome) answer w → Exchanges request outcome s t → EndsBy q v w s t
ended_went q v w permit outcome request answer s t only granted a x = record {
  outcome = outcome;
  mine = a.mine ∙ ap (λ (e : Entry). v.mine ++ e ∷ []) a.told.1;
  went = record {
    number = a.number;
    left = a.left;
    joined = a.joined;
    made = made ∷ [];
    are = λ earlier had h g. ap (λ (n : ℕ). exchanges_of (setup_of q) (reverse (q.journal ++ h)) n) a.number ∙ exchanges_since q v w (LedgerCall.End permit outcome) answer a h g
        ∙ ap (λ (e : Entry). exchanges_of (setup_of q) (e ∷ reverse (q.journal ++ a.before)) v.number) a.told.1
        ∙ one ∙ ap (λ (l : List Exchange). l ++ made ∷ []) (had a.before a.goes_on);
    log = grows-one s.log request outcome t.log x.caused.logged;
    caused = caused-one made (account_in s) (account_in t) x.caused;
  };
  timed = x.timed;
  placed = placed_of q v w (LedgerCall.End permit outcome) answer a;
}
  where
    made : Exchange
    made = record { request = request; outcome = outcome }

    asked : request_out (setup_of q) (reverse (q.journal ++ a.before)) v.number ≡ request
    asked = is_granted a.shared.aim (setup_of q) (reverse (q.journal ++ a.before)) v.number (legal_before q v w (LedgerCall.End permit outcome) answer a only) ∙ granted a.before a.goes_on

    one : exchanges_of (setup_of q) (Entry.Ended v.number outcome ∷ reverse (q.journal ++ a.before)) v.number ≡ exchanges_of (setup_of q) (reverse (q.journal ++ a.before)) v.number ++ record { request = request; outcome = outcome } ∷ []
    one = rw (eq-eqb v.number v.number refl) (ap (λ (r : Request). exchanges_of (setup_of q) (reverse (q.journal ++ a.before)) v.number ++ record { request = r; outcome = outcome } ∷ []) asked)

-- one way behind another
pub went_on : (q : Course) (u v w : SeatView) (r s t : Telling) → Went q u v r s → Went q v w s t → Went q u w r t
went_on q u v w r s t a b = record {
  number = b.number ∙ a.number;
  left = b.left ∙ a.left;
  joined = b.joined ∙ a.joined;
  made = a.made ++ b.made;
  are = λ earlier had. subst (λ (l : List Exchange). HasMade q w l) (append_assoc earlier a.made b.made) (b.are (earlier ++ a.made) (a.are earlier had));
  log = grows-append a.made b.made r.log s.log t.log a.log b.log;
  caused = caused-append a.made b.made (account_in r) (account_in s) (account_in t) a.caused b.caused;
}
