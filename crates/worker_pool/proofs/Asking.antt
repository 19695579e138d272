-- What an ask in a turn gives a seat.
use Rattle.std.proofs.Common.{◌≡◌, ℕ, false, List, [], ◌∷◌, ◌++◌, reverse, Option, Some, refl, sym, ap, ◌∙◌, subst, append_assoc}
use Rattle.std.proofs.lemmas.Bool.{eq-eqb}
use Rattle.std.proofs.lemmas.List.{append-nil, reverse-append}
use Rattle.std.specs.Prelude.{◌==◌, unwrap_or}
use Rattle.engine_types.specs.declared.Entry.{Entry}
use Rattle.engine_types.specs.declared.Request.{Request}
use Rattle.outside_api.specs.Accounts.{Account}
use Rattle.run_model.specs.Journals.{Setup, holding}
use Rattle.run_model.specs.Legal.{Decision, Full, Go, Look, Pause, Take}
use Rattle.run_model.specs.Logs.{GrowsBy, exchanges_of}
use Rattle.run_model.specs.Requests.{action_request, poll_request}
use Rattle.journal_laws.specs.Courses.{Course, entries, setup_of}
use Rattle.journal_laws.specs.Laws.{decided}
use Rattle.ledger_core.specs.Answers.{Answers, AsksFor, answer_entry, held_by}
use Rattle.ledger_core.specs.declared.asked.Asked.{Asked}
use Rattle.ledger_core.specs.declared.permit.Grant.{Grant}
use Rattle.ledger_core.specs.declared.permit.Permit.{Permit}
use Rattle.ledger_run.specs.Tellings.{Telling, account_in}
use Rattle.ledger_run.specs.Turns.{with_more}
use Rattle.ledger_run.specs.Works.{HasOnlySeen}
use Rattle.ledger_run.proofs.Stepping.{grows-none}
use Rattle.worker_laws.specs.Own.{granted, own_of, worker_of}
use Rattle.worker_laws.proofs.Adding.{none_own}
use Rattle.ledger_turns.specs.declared.calls.LedgerAnswer.{LedgerAnswer}
use Rattle.ledger_turns.specs.declared.calls.LedgerCall.{LedgerCall}
use Rattle.ledger_turns.proofs.Calling.{own_reverse}
use Rattle.worker_pool.specs.Seats.{GoesOnTo, IsGranted, IsHeld, SeatView, Went, mine_of}
use Rattle.worker_pool.proofs.Going.{Acted, exchanges_since, setup_kept, since, turned}

-- an action was granted at these entries
pub record IsWork (run : Course) (n : ℕ) (permit : Permit) (request : Request) (e : Entry) : Type 0 where
  pub action : ℕ
  pub takes : decided run n ≡ Take action
  pub own : permit.worker ≡ n
  pub grant : permit.grant ≡ Grant.Action action
  pub asks : action_request (setup_of run) (entries run) action ≡ Some request
  pub claimed : e ≡ Entry.Claim n action

pub is_work : (run : Course) (n : ℕ) (permit : Permit) (request : Request) (e : Entry) → Answers n (decided run n) (Asked.Work permit request)
    → AsksFor (setup_of run) (entries run) (decided run n) (Asked.Work permit request) → e ≡ answer_entry n (decided run n) (Asked.Work permit request) → IsWork run n permit request e
is_work run n permit request e answers asks entered = by (decided run n) refl answers asks entered
  where
    by : (d : Decision) → decided run n ≡ d → Answers n d (Asked.Work permit request) → AsksFor (setup_of run) (entries run) d (Asked.Work permit request)
        → e ≡ answer_entry n d (Asked.Work permit request) → IsWork run n permit request e
    by (Take a) is h q m = record { action = a; takes = is; own = h.0; grant = h.1; asks = q; claimed = m }
    by Full is h q m = absurd h
    by Go is h q m = absurd h
    by (Look s) is h q m = absurd h
    by Pause is h q m = absurd h

-- a poll was
pub record IsWatch (run : Course) (n : ℕ) (permit : Permit) (request : Request) (e : Entry) : Type 0 where
  pub slot : ℕ
  pub looks : decided run n ≡ Look slot
  pub own : permit.worker ≡ n
  pub grant : permit.grant ≡ Grant.Slot slot
  pub asks : poll_request (setup_of run) (entries run) slot ≡ Some request
  pub polled : e ≡ Entry.Poll n slot

pub is_watch : (run : Course) (n : ℕ) (permit : Permit) (request : Request) (e : Entry) → Answers n (decided run n) (Asked.Watch permit request)
    → AsksFor (setup_of run) (entries run) (decided run n) (Asked.Watch permit request) → e ≡ answer_entry n (decided run n) (Asked.Watch permit request) → IsWatch run n permit request e
is_watch run n permit request e answers asks entered = by (decided run n) refl answers asks entered
  where
    by : (d : Decision) → decided run n ≡ d → Answers n d (Asked.Watch permit request) → AsksFor (setup_of run) (entries run) d (Asked.Watch permit request)
        → e ≡ answer_entry n d (Asked.Watch permit request) → IsWatch run n permit request e
    by (Look s) is h q m = record { slot = s; looks = is; own = h.0; grant = h.1; asks = q; polled = m }
    by Full is h q m = absurd h
    by Go is h q m = absurd h
    by (Take a) is h q m = absurd h
    by Pause is h q m = absurd h

-- a seat's entries with one more, newest first
pub mine_more : (q : Course) (v w : SeatView) (call : LedgerCall) (answer : LedgerAnswer) (a : Acted q v call answer w) → reverse (mine_of q w) ≡ a.entry ∷ reverse (mine_of q v)
mine_more q v w call answer a =
    ap (λ (n : ℕ). reverse (own_of n q.journal ++ w.mine)) a.number ∙ ap (λ (l : List Entry). reverse (own_of v.number q.journal ++ l)) a.mine
    ∙ ap reverse (sym (append_assoc (own_of v.number q.journal) v.mine (a.entry ∷ []))) ∙ reverse-append (own_of v.number q.journal ++ v.mine) (a.entry ∷ [])

pub holds_work : (q : Course) (v w : SeatView) (permit : Permit) (request : Request) (answer : LedgerAnswer) (a : Acted q v LedgerCall.Ask answer w)
    → IsWork (with_more q a.before) v.number permit request a.entry → IsHeld q w permit
holds_work q v w permit request answer a k = (
  k.own ∙ sym a.number,
  ap (λ (n : ℕ). holding (reverse (mine_of q w)) n) a.number ∙ ap (λ (l : List Entry). holding l v.number) (mine_more q v w LedgerCall.Ask answer a ∙ ap (λ (e : Entry). e ∷ reverse (mine_of q v)) k.claimed)
      ∙ rw (eq-eqb v.number v.number refl) (sym (ap held_by k.grant)),
)

pub holds_watch : (q : Course) (v w : SeatView) (permit : Permit) (request : Request) (answer : LedgerAnswer) (a : Acted q v LedgerCall.Ask answer w)
    → IsWatch (with_more q a.before) v.number permit request a.entry → IsHeld q w permit
holds_watch q v w permit request answer a k = (
  k.own ∙ sym a.number,
  ap (λ (n : ℕ). holding (reverse (mine_of q w)) n) a.number ∙ ap (λ (l : List Entry). holding l v.number) (mine_more q v w LedgerCall.Ask answer a ∙ ap (λ (e : Entry). e ∷ reverse (mine_of q v)) k.polled)
      ∙ rw (eq-eqb v.number v.number refl) (sym (ap held_by k.grant)),
)

-- entries of others leave what a worker was granted
granted_strange : (setup : Setup) (e : Entry) (past : List Entry) (w : ℕ) → (worker_of e == w) ≡ false → granted setup (e ∷ past) w ≡ granted setup past w
granted_strange setup (Entry.Claim v a) past w h = rw h refl
granted_strange setup (Entry.Poll v s) past w h = rw h refl
granted_strange setup (Entry.Ended v outcome) past w h = rw h refl
granted_strange setup (Entry.Seen observation) past w h = refl
granted_strange setup (Entry.Idle v) past w h = refl
granted_strange setup (Entry.Leave v) past w h = refl
granted_strange setup (Entry.Stop v) past w h = refl
granted_strange setup (Entry.Late v why) past w h = refl
granted_strange setup (Entry.Short v) past w h = refl

granted_added : (setup : Setup) (more past : List Entry) (w : ℕ) → own_of w more ≡ [] → granted setup (more ++ past) w ≡ granted setup past w
granted_added setup [] past w h = refl
granted_added setup (e ∷ more) past w h = let n = none_own w e more h in granted_strange setup e (more ++ past) w n.0 ∙ granted_added setup more past w n.1

granted_since : (q : Course) (v w : SeatView) (call : LedgerCall) (answer : LedgerAnswer) (a : Acted q v call answer w) (h : List Entry) → GoesOnTo w h
    → granted (setup_of q) (reverse (q.journal ++ h)) w.number ≡ granted (setup_of q) (a.entry ∷ reverse (q.journal ++ a.before)) v.number
granted_since q v w call answer a h g =
    let s = since q v w call answer a h g in
    ap (λ (n : ℕ). granted (setup_of q) (reverse (q.journal ++ h)) n) a.number
    ∙ ap (λ (l : List Entry). granted (setup_of q) (reverse (q.journal ++ l)) v.number) s.is
    ∙ ap (λ (l : List Entry). granted (setup_of q) l v.number) (turned q.journal a.before s.more a.entry)
    ∙ granted_added (setup_of q) (reverse s.more) (a.entry ∷ reverse (q.journal ++ a.before)) v.number (own_reverse v.number s.more ∙ ap reverse s.others)

pub grants_work : (q : Course) (v w : SeatView) (permit : Permit) (request : Request) (answer : LedgerAnswer) (a : Acted q v LedgerCall.Ask answer w) → HasOnlySeen q.journal
    → IsWork (with_more q a.before) v.number permit request a.entry → IsGranted q w request
grants_work q v w permit request answer a only k h g =
    granted_since q v w LedgerCall.Ask answer a h g ∙ ap (λ (e : Entry). granted (setup_of q) (e ∷ reverse (q.journal ++ a.before)) v.number) k.claimed
    ∙ rw (eq-eqb v.number v.number refl) (ap (λ (o : Option Request). unwrap_or o (Request.ListContainers q.declared.project))
    (subst (λ (s : Setup). action_request s (reverse (q.journal ++ a.before)) k.action ≡ Some request) (setup_kept q a.before only) k.asks))

pub grants_watch : (q : Course) (v w : SeatView) (permit : Permit) (request : Request) (answer : LedgerAnswer) (a : Acted q v LedgerCall.Ask answer w) → HasOnlySeen q.journal
    → IsWatch (with_more q a.before) v.number permit request a.entry → IsGranted q w request
grants_watch q v w permit request answer a only k h g =
    granted_since q v w LedgerCall.Ask answer a h g ∙ ap (λ (e : Entry). granted (setup_of q) (e ∷ reverse (q.journal ++ a.before)) v.number) k.polled
    ∙ rw (eq-eqb v.number v.number refl) (ap (λ (o : Option Request). unwrap_or o (Request.ListContainers q.declared.project))
    (subst (λ (s : Setup). poll_request s (reverse (q.journal ++ a.before)) k.slot ≡ Some request) (setup_kept q a.before only) k.asks))

-- an entry by which no exchange is made
abbrev pub IsQuiet : Entry → Type 0
IsQuiet e = (setup : Setup) (past : List Entry) (w : ℕ) → exchanges_of setup (e ∷ past) w ≡ exchanges_of setup past w

-- a turn by which no exchange was made, while the hand told nothing new of its exchanges
pub quiet_went : (q : Course) (v w : SeatView) (call : LedgerCall) (answer : LedgerAnswer) (s t : Telling) (a : Acted q v call answer w) → IsQuiet a.entry → account_in t ≡ account_in s → Went q v w s t
quiet_went q v w call answer s t a quiet same = record {
  number = a.number;
  left = a.left;
  joined = a.joined;
  made = [];
  are = λ earlier had h g. ap (λ (n : ℕ). exchanges_of (setup_of q) (reverse (q.journal ++ h)) n) a.number ∙ exchanges_since q v w call answer a h g
      ∙ quiet (setup_of q) (reverse (q.journal ++ a.before)) v.number ∙ had a.before a.goes_on ∙ sym (append-nil earlier);
  log = subst (λ (x : Account). GrowsBy [] s.log x.log) (sym same) (grows-none s.log);
  caused = same;
}
