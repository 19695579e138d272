-- What the members of a crew have done, by the whole journal.
use Rattle.std.proofs.Common.{◌≡◌, ℕ, zero, suc, ◌+◌, ◌<◌, ◌≤◌, Bool, true, List, [], ◌∷◌, ◌++◌, drop, get_or, length, take, map, reverse, Option, if◌then◌else◌, sym, ap, ◌∙◌, subst, arith}
use Rattle.std.proofs.lemmas.List.{append-nil, drop_all, length-map, reverse-append, take_all}
use Rattle.std.proofs.lemmas.List.Elements.{filter-append}
use Rattle.std.specs.Prelude.{All, ◌==◌}
use Rattle.engine_types.specs.declared.Entry.{Entry}
use Rattle.outside_api.specs.Clock.{Clock}
use Rattle.run_model.specs.Ending.{EveryWorkerLeft}
use Rattle.run_model.specs.Journals.{Setup, has_left}
use Rattle.run_model.specs.Logs.{exchanges_of}
use Rattle.journal_laws.specs.Courses.{Course, entries, setup_of}
use Rattle.ledger_run.specs.Tellings.{Telling}
use Rattle.ledger_run.specs.Timing.{HasRoom, late_by, readings_for}
use Rattle.ledger_run.specs.Turns.{with_more}
use Rattle.ledger_run.specs.Works.{HasOnlySeen}
use Rattle.turn_ledger.specs.Own.{Each}
use Rattle.turn_ledger.specs.Seats.{Opened}
use Rattle.worker_laws.specs.Own.{own_of, worker_of}
use Rattle.worker_laws.proofs.Adding.{added}
use Rattle.worker_laws.proofs.Told.{own_entries}
use Rattle.ledger_turns.proofs.Calling.{own_reverse}
use Rattle.worker_pool.specs.Crew.{AreFresh, AreLined, ComesTo, EachPair, HasDone, HaveEnded, IsPlain, IsReady, Seat}
use Rattle.worker_pool.specs.Seats.{GoesOnTo, HasMade, HasWorked, IsTimedBy, IsWorker, SeatView, mine_of}
use Rattle.worker_pool.proofs.Going.{setup_kept}

-- the exchanges of a worker that has made no call are those of the opening
fresh_made : (q : Course) (v : SeatView) → v.mine ≡ [] → HasMade q v (exchanges_of (setup_of q) (entries q) v.number)
fresh_made q v fresh h g =
    ap (λ (l : List Entry). exchanges_of (setup_of q) l v.number) (reverse-append q.journal h)
    ∙ added (setup_of q) (reverse h) (reverse q.journal) v.number (own_reverse v.number h ∙ ap reverse (g.own ∙ fresh))

-- a seat's entries are its worker's of the whole journal
mine_is : (q : Course) (v : SeatView) (h : List Entry) → GoesOnTo v h → reverse (mine_of q v) ≡ own_of v.number (reverse (q.journal ++ h))
mine_is q v h g =
    sym (own_reverse v.number (q.journal ++ h) ∙ ap reverse (filter-append (λ e. worker_of e == v.number) q.journal h ∙ ap (λ (l : List Entry). own_of v.number q.journal ++ l) g.own))

-- what a clock is by a worker's own entries, it is by all
timed_by_all : (w : ℕ) (deadline : Option ℕ) (past : List Entry) (old new : Clock) → IsTimedBy w deadline (own_of w past) old new → IsTimedBy w deadline past old new
timed_by_all w deadline past old new t = record {
  looks = t.looks ∙ ap (λ (n : ℕ). old.looks + n) (own_entries.asks past w);
  stops = t.stops ∙ ap (λ (b : Bool). old.yeses + (if b then 1 else 0)) (own_entries.asked_to_stop past w);
  paused = t.paused ∙ ap (λ (n : ℕ). old.paused + n) (own_entries.pauses past w);
  readings = t.readings ∙ ap (λ (n : ℕ). old.readings + readings_for deadline n) (own_entries.unstopped past w);
  first = t.first;
  place = t.place;
  late = sym (own_entries.late past w) ∙ t.late ∙ ap (λ (n : ℕ). late_by deadline n new.last) (own_entries.unstopped past w);
}

-- a member as it was seated, and as it has worked
pub record HasServed (turns : Opened Course) (deadline : Option ℕ) (n : ℕ) (old new : Seat) (before after : Telling) : Type 0 where
  pub plain : IsPlain turns old
  pub number : old.view.number ≡ n
  pub fresh : old.view.mine ≡ []
  pub worker : IsWorker turns new
  pub worked : HasWorked turns.object deadline old.view new.view before after

done_by : (turns : Opened Course) (deadline : Option ℕ) (n : ℕ) (old new : Seat) (s t : Telling) (h : List Entry) → HasOnlySeen turns.object.journal → HasServed turns deadline n old new s t → GoesOnTo new.view h
    → HasDone n deadline turns.object (with_more turns.object h) s t
done_by turns deadline n old new s t h only served g = record {
  made = served.worked.went.made;
  are = ap (λ (x : Setup). exchanges_of x (reverse (turns.object.journal ++ h)) n) (setup_kept turns.object h only)
      ∙ ap (λ (m : ℕ). exchanges_of (setup_of turns.object) (reverse (turns.object.journal ++ h)) m) (sym same)
      ∙ served.worked.went.are (exchanges_of (setup_of turns.object) (entries turns.object) old.view.number) (fresh_made turns.object old.view served.fresh) h g
      ∙ ap (λ (m : ℕ). exchanges_of (setup_of turns.object) (entries turns.object) m ++ served.worked.went.made) served.number;
  log = served.worked.went.log;
  caused = served.worked.went.caused;
  timed = subst (λ (m : ℕ). IsTimedBy m deadline (reverse (turns.object.journal ++ h)) s.clock t.clock) same
      (timed_by_all new.view.number deadline (reverse (turns.object.journal ++ h)) s.clock t.clock
      (subst (λ (l : List Entry). IsTimedBy new.view.number deadline l s.clock t.clock) (mine_is turns.object new.view h g) served.worked.timed));
}
  where
    same : new.view.number ≡ n
    same = served.worked.went.number ∙ served.number

left_by : (turns : Opened Course) (deadline : Option ℕ) (n : ℕ) (old new : Seat) (s t : Telling) (h : List Entry) → HasServed turns deadline n old new s t → GoesOnTo new.view h
    → has_left (reverse (turns.object.journal ++ h)) n ≡ true
left_by turns deadline n old new s t h served g =
    ap (λ (m : ℕ). has_left (reverse (turns.object.journal ++ h)) m) (sym (served.worked.went.number ∙ served.number))
    ∙ sym (own_entries.left (reverse (turns.object.journal ++ h)) new.view.number)
    ∙ ap (λ (l : List Entry). has_left l new.view.number) (sym (mine_is turns.object new.view h g))
    ∙ served.worked.left

none_before : (w : ℕ) → 0 + w ≡ w
none_before w = omega arith

-- what is written back into a list that is as long
pub refilled : {X : Type 0} (n : ℕ) (ws xs : List X) → n ≡ length xs → length ws ≡ length xs → take n (ws ++ drop (length ws) xs) ≡ ws
refilled n ws xs long same =
    ap (λ l. take n (ws ++ l)) (drop_all (length ws) xs (omega (arith, same))) ∙ ap (λ l. take n l) (append-nil ws) ∙ take_all n ws (omega (arith, long, same))

-- a crew, by the seat and the hand of each member, and by what its hand tells
module _ {M H : Type 0} (seat : M → Seat) (hand : M → H) (tell : H → Telling) where
  -- each member was seated, and has worked
  abbrev pub HaveServed : Opened Course → Option ℕ → ℕ → List M → List M → Type 0
  HaveServed turns deadline n xs ys = EachPair (λ w x y. HasServed turns deadline w (seat x) (seat y) (tell (hand x)) (tell (hand y))) n xs ys

  -- what was done at each place
  abbrev pub HaveWorked : Opened Course → Option ℕ → List M → List M → Type 0
  HaveWorked turns deadline xs ys = (k : ℕ) (d : M) → k < length xs
      → IsWorker turns (seat (get_or ys k d)) × HasWorked turns.object deadline (seat (get_or xs k d)).view (seat (get_or ys k d)).view (tell (hand (get_or xs k d))) (tell (hand (get_or ys k d)))

  ready_all : (turns : Opened Course) (clock : H → Clock) (n : ℕ) (xs : List M) → HasOnlySeen turns.object.journal → AreLined turns n (map seat xs) → AreFresh (map seat xs)
      → n + length xs ≤ turns.object.limits.workers → All (λ h. HasRoom (clock h)) (map hand xs) → All (λ m. IsReady turns (seat m) (clock (hand m))) xs
  ready_all turns clock n [] only lined fresh few room k d l = absurd (omega (arith, l))
  ready_all turns clock n (x ∷ xs) only lined fresh few room zero d l = record {
    worker = record { of = lined.0.of; only = only; below = subst (λ (m : ℕ). m < turns.object.limits.workers) (sym lined.1) (omega (arith, few)) };
    fresh = fresh.0;
    room = room 0 (hand x) (omega arith);
  }
  ready_all turns clock n (x ∷ xs) only lined fresh few room (suc k) d l =
      ready_all turns clock (n + 1) xs only lined.2 fresh.1 (omega (arith, few)) (λ j e m. room (suc j) e (omega (arith, m))) k d (omega (arith, l))

  pub ready_crew : (turns : Opened Course) (clock : H → Clock) (xs : List M) (olds : List H) → HasOnlySeen turns.object.journal → AreLined turns 0 (map seat xs) → AreFresh (map seat xs) → map hand xs ≡ olds
      → turns.object.limits.workers ≡ length olds → All (λ h. HasRoom (clock h)) olds → All (λ m. IsReady turns (seat m) (clock (hand m))) xs
  ready_crew turns clock xs olds only lined fresh were many room =
      let count : length olds ≡ length xs = ap (λ (l : List H). length l) (sym were) ∙ length-map xs hand in
      ready_all turns clock 0 xs only lined fresh (omega (arith, many, count)) (subst (λ (l : List H). All (λ h. HasRoom (clock h)) l) (sym were) room)

  pub served_all : (turns : Opened Course) (deadline : Option ℕ) (n : ℕ) (xs ys : List M) → length ys ≡ length xs → AreLined turns n (map seat xs) → AreFresh (map seat xs)
      → HaveWorked turns deadline xs ys → HaveServed turns deadline n xs ys
  served_all turns deadline n [] [] same lined fresh works = tt
  served_all turns deadline n [] (y ∷ ys) same lined fresh works = absurd (omega (arith, same))
  served_all turns deadline n (x ∷ xs) [] same lined fresh works = absurd (omega (arith, same))
  served_all turns deadline n (x ∷ xs) (y ∷ ys) same lined fresh works =
      let first = works 0 x (omega arith) in (
        record { plain = lined.0; number = lined.1; fresh = fresh.0; worker = first.0; worked = first.1 },
        served_all turns deadline (n + 1) xs ys (omega (arith, same)) lined.2 fresh.1 (λ k d l. works (suc k) d (omega (arith, l))),
      )

  pub lined_still : (turns : Opened Course) (deadline : Option ℕ) (n : ℕ) (xs ys : List M) → HaveServed turns deadline n xs ys → AreLined turns n (map seat ys)
  lined_still turns deadline n [] [] served = tt
  lined_still turns deadline n [] (y ∷ ys) served = absurd served
  lined_still turns deadline n (x ∷ xs) [] served = absurd served
  lined_still turns deadline n (x ∷ xs) (y ∷ ys) served =
      let s = served.0 in (
        record { of = s.worker.of; joined = s.worked.went.joined ∙ s.plain.joined; left = s.worked.went.left ∙ s.plain.left },
        s.worked.went.number ∙ s.number,
        lined_still turns deadline (n + 1) xs ys served.1,
      )

  pub done_all : (turns : Opened Course) (deadline : Option ℕ) (n : ℕ) (xs ys : List M) (h : List Entry) → HasOnlySeen turns.object.journal → HaveServed turns deadline n xs ys
      → Each (λ (s : Seat). GoesOnTo s.view h) (map seat ys) → EachPair (λ w x y. HasDone w deadline turns.object (with_more turns.object h) (tell x) (tell y)) n (map hand xs) (map hand ys)
  done_all turns deadline n [] [] h only served goes = tt
  done_all turns deadline n [] (y ∷ ys) h only served goes = absurd served
  done_all turns deadline n (x ∷ xs) [] h only served goes = absurd served
  done_all turns deadline n (x ∷ xs) (y ∷ ys) h only served goes =
      (done_by turns deadline n (seat x) (seat y) (tell (hand x)) (tell (hand y)) h only served.0 goes.0, done_all turns deadline (n + 1) xs ys h only served.1 goes.1)

  pub left_all : (turns : Opened Course) (deadline : Option ℕ) (n : ℕ) (xs ys : List M) (h : List Entry) → HaveServed turns deadline n xs ys → Each (λ (s : Seat). GoesOnTo s.view h) (map seat ys)
      → (k : ℕ) → k < length xs → has_left (reverse (turns.object.journal ++ h)) (n + k) ≡ true
  left_all turns deadline n [] [] h served goes k l = absurd (omega (arith, l))
  left_all turns deadline n [] (y ∷ ys) h served goes k l = absurd served
  left_all turns deadline n (x ∷ xs) [] h served goes k l = absurd served
  left_all turns deadline n (x ∷ xs) (y ∷ ys) h served goes zero l =
      ap (λ (m : ℕ). has_left (reverse (turns.object.journal ++ h)) m) (omega arith) ∙ left_by turns deadline n (seat x) (seat y) (tell (hand x)) (tell (hand y)) h served.0 goes.0
  left_all turns deadline n (x ∷ xs) (y ∷ ys) h served goes (suc k) l =
      let next : n + suc k ≡ (n + 1) + k = omega arith in
      ap (λ (m : ℕ). has_left (reverse (turns.object.journal ++ h)) m) next ∙ left_all turns deadline (n + 1) xs ys h served.1 goes.1 k (omega (arith, l))

  -- what the crew leaves, by what each member did and by how the turns ended
  pub record Leaves (turns : Opened Course) (deadline : Option ℕ) (new : Course) (olds news : List H) : Type 0 where
    pub come : ComesTo turns.object new
    pub left : EveryWorkerLeft (setup_of new) (entries new)
    pub hands : EachPair (λ w x y. HasDone w deadline turns.object new (tell x) (tell y)) 0 olds news

  pub leaves : (turns : Opened Course) (deadline : Option ℕ) (xs ys : List M) (new : Course) (olds news : List H) → HasOnlySeen turns.object.journal → length ys ≡ length xs → map hand xs ≡ olds
      → AreLined turns 0 (map seat xs) → AreFresh (map seat xs) → turns.object.limits.workers ≡ length olds → HaveWorked turns deadline xs ys → news ≡ map hand ys
      → HaveEnded turns.object (map seat ys) new → Leaves turns deadline new olds news
  leaves turns deadline xs ys new olds news only same were lined fresh many works are ended = record {
    come = record { history = ended.history; come = is };
    left = subst (λ (run : Course). EveryWorkerLeft (setup_of run) (entries run)) (sym is)
        (λ w below. subst (λ (m : ℕ). has_left (reverse (turns.object.journal ++ ended.history)) m ≡ true) (none_before w)
        (left_all turns deadline 0 xs ys ended.history served ended.each w (omega (arith, below, many, count))));
    hands = subst (λ (run : Course). EachPair (λ w x y. HasDone w deadline turns.object run (tell x) (tell y)) 0 olds news) (sym is)
        (subst (λ (l : List H). EachPair (λ w x y. HasDone w deadline turns.object (with_more turns.object ended.history) (tell x) (tell y)) 0 l news) were
        (subst (λ (l : List H). EachPair (λ w x y. HasDone w deadline turns.object (with_more turns.object ended.history) (tell x) (tell y)) 0 (map hand xs) l) (sym are)
        (done_all turns deadline 0 xs ys ended.history only served ended.each)));
  }
    where
      served : HaveServed turns deadline 0 xs ys
      served = served_all turns deadline 0 xs ys same lined fresh works

      count : length olds ≡ length xs
      count = ap (λ (l : List H). length l) (sym were) ∙ length-map xs hand

      is : new ≡ with_more turns.object ended.history
      is = ap (λ (o : Course). record { declared = o.declared; plan = o.plan; limits = o.limits; journal = new.journal }) ended.origin
          ∙ ap (λ (j : List Entry). record { declared = turns.object.declared; plan = turns.object.plan; limits = turns.object.limits; journal = j }) ended.journal

  -- the seats of a crew that has worked, which was seated, and is there still
  pub seats_kept : (turns : Opened Course) (deadline : Option ℕ) (seated lent worked after : List M) → lent ≡ seated → length worked ≡ length lent → after ≡ worked
      → AreLined turns 0 (map seat seated) → AreFresh (map seat seated) → HaveWorked turns deadline lent worked → AreLined turns 0 (map seat after)
  seats_kept turns deadline seated lent worked after is same stays lined fresh works =
      subst (λ (l : List M). AreLined turns 0 (map seat l)) (sym stays)
      (lined_still turns deadline 0 lent worked (served_all turns deadline 0 lent worked same
      (subst (λ (l : List M). AreLined turns 0 (map seat l)) (sym is) lined) (subst (λ (l : List M). AreFresh (map seat l)) (sym is) fresh) works))

  pub leaves_so : (turns : Opened Course) (deadline : Option ℕ) (seated lent worked after : List M) (new : Course) (olds news : List H) → lent ≡ seated → length worked ≡ length lent → after ≡ worked
      → HasOnlySeen turns.object.journal → map hand seated ≡ olds → AreLined turns 0 (map seat seated) → AreFresh (map seat seated) → turns.object.limits.workers ≡ length olds
      → HaveWorked turns deadline lent worked → news ≡ map hand after → HaveEnded turns.object (map seat after) new → Leaves turns deadline new olds news
  leaves_so turns deadline seated lent worked after new olds news is same stays only were lined fresh many works are ended =
      leaves turns deadline lent worked new olds news only same (ap (λ (l : List M). map hand l) is ∙ were)
      (subst (λ (l : List M). AreLined turns 0 (map seat l)) (sym is) lined) (subst (λ (l : List M). AreFresh (map seat l)) (sym is) fresh) many works
      (are ∙ ap (λ (l : List M). map hand l) stays) (subst (λ (l : List M). HaveEnded turns.object (map seat l) new) stays ended)
