-- What all workers of a crew have done together.
use Rattle.std.proofs.Common.{◌≡◌, ◌∙◌, ℕ, zero, suc, ◌+◌, ◌%◌, ◌<◌, ◌≤◌, ◌==◌, Bool, true, false, not, List, [], ◌∷◌, ◌++◌, Option, Some, None, Result, Ok, Err, drop, get_or, length, map, refl, sym, ap, subst, inl, inr, take, append_assoc, arith}
use Rattle.std.proofs.lemmas.List.{append-nil, drop_all, length-map, take_all}
use Rattle.std.specs.Prelude.{◌||◌, IfSome}
use mathlib.Core.List.{IsPrefix}
use Rattle.engine_types.specs.declared.Declared.{Declared}
use Rattle.engine_types.specs.declared.Listed.{Listed}
use Rattle.tree_base.specs.Limits.{most_log_slots, most_workers}
use Rattle.outside_api.specs.Accounts.{Account}
use Rattle.turn_ledger.specs.Own.{Each, own}
use Rattle.turn_ledger.specs.Seats.{Opened}
use Rattle.log_book.specs.Books.{Book, IsBook, opening}
use Rattle.log_book.specs.declared.entries.LogEntry.{LogEntry}
use Rattle.logs_run.specs.declared.fetching.Fault.{Fault}
use Rattle.logs_run.specs.declared.fetching.Met.{Met}
use Rattle.engine_types.specs.declared.LogsRefusal.{LogsRefusal}
use Rattle.logs_run.specs.declared.tasks.Task.{Task}
use Rattle.logs_run.specs.Crew.{AreCalm, AreFresh, AreLined, HaveEnded, IsPlain, Seat, both, calm, met_by, met_with}
use Rattle.logs_run.specs.Ending.{Has}
use Rattle.logs_run.specs.Fetching.{AllLeave, Fetch, HasFetched}
use Rattle.logs_run.specs.Listing.{ListsWith}
use Rattle.logs_run.specs.Logged.{HasLogged, HaveFetched, IsLogged, IsLoggedBy, rows_told}
use Rattle.logs_run.specs.Met.{HasFetchedAs, MayFetch}
use Rattle.logs_run.specs.Refusing.{IsLeastFault, RefusedBy}
use Rattle.logs_run.specs.Slots.{AreAscending, own_tasks, tasks}
use Rattle.logs_run.proofs.Exchanging.{log_still}
use Rattle.logs_run.proofs.Faults.{first_least, least_append, slots_of}
use Rattle.logs_run.proofs.Going.{all_later}
use Rattle.logs_run.proofs.TaskLists.{ascend_some, below_slots, each_append, each_filter, each_one, tasks_ascend}

or_assoc : (a b c : Bool) → ((a || b) || c) ≡ (a || (b || c))
or_assoc true b c = refl
or_assoc false b c = refl

or_none : (a : Bool) → a ≡ (a || false)
or_none true = refl
or_none false = refl

pub or_left : (a b : Bool) → (a || b) ≡ false → a ≡ false
or_left true b e = e
or_left false b e = refl

pub or_right : (a b : Bool) → (a || b) ≡ false → b ≡ false
or_right true b e = absurd cc
or_right false b e = e

-- the first of ascending tasks ascend
pub ascend_first : (xs ys : List Task) → AreAscending (xs ++ ys) → AreAscending xs
ascend_first [] ys h = tt
ascend_first (x ∷ xs) ys (one, more) = (each_one (λ (t : Task). x.slot < t.slot) xs ys one, ascend_first xs ys more)

-- the fetches of a worker are of its first tasks
pub fetched_first : (P : List Task → Type 0) (history : List LogEntry) (w workers : ℕ) (all : List Task) (short : Bool) (mine : List LogEntry) (a b : Account) (h : HasFetched history w (own_tasks workers w all) short mine a b)
    → ((xs ys : List Task) → P (xs ++ ys) → P xs) → P (own_tasks workers w all) → P (slots_of h.fetches)
fetched_first P history w workers all short mine a b h first own_has = first (slots_of h.fetches) h.asked.0 (subst P (sym h.asked.1) own_has)

-- a member as it was seated, and what it has fetched
pub record HasServed (turns : Opened Book) (all : List Task) (workers n : ℕ) (old new : Seat) (met : Met) (before after : Account) : Type 0 where
  pub plain : IsPlain turns old
  pub number : old.view.number ≡ n
  pub fetched : HasFetchedAs turns all workers n old new met before after

-- what workers have fetched together, and what they met
pub record HaveGathered (all : List Task) (workers slots n : ℕ) (entries : List LogEntry) (olds news : List Account) (mets : List Met) : Type 0 where
  pub fetches : List Fetch
  pub short : Bool
  pub fetched : HaveFetched workers all entries n olds news fetches short
  pub is_short : (met : Met) → (met_with met mets).short ≡ (met.short || short)
  pub within : Each (λ (t : Task). t.slot < slots) (slots_of fetches)
  pub least : (met : Met) (before : List Fetch) → (met.short || short) ≡ false → IsLeastFault before met.fault → IsLeastFault (before ++ fetches) (met_with met mets).fault

none_gathered : (all : List Task) (workers slots n : ℕ) (entries : List LogEntry) → HaveGathered all workers slots n entries [] [] []
none_gathered all workers slots n entries = record {
  fetches = [];
  short = false;
  fetched = (refl, refl);
  is_short = λ met. or_none met.short;
  within = tt;
  least = λ met before none h. subst (λ (l : List Fetch). IsLeastFault l met.fault) (sym (append-nil before)) h;
}

slots_append : (xs ys : List Fetch) → slots_of xs ++ slots_of ys ≡ slots_of (xs ++ ys)
slots_append [] ys = refl
slots_append (x ∷ xs) ys = ap (λ (l : List Task). x.task ∷ l) (slots_append xs ys)

more_gathered : (turns : Opened Book) (all : List Task) (workers slots n : ℕ) (entries : List LogEntry) (old new : Seat) (met : Met) (before after : Account) (olds news : List Account) (mets : List Met)
    → AreAscending all → Each (λ (t : Task). t.slot < slots) all → HasServed turns all workers n old new met before after
    → IsPrefix new.view.seen entries → own (λ e. e.worker) new.view.number entries ≡ new.view.mine → HaveGathered all workers slots (n + 1) entries olds news mets
    → HaveGathered all workers slots n entries (before ∷ olds) (after ∷ news) (met ∷ mets)
more_gathered turns all workers slots n entries old new met before after olds news mets asc below served seen mine r = record {
  fetches = served.fetched.fetched.fetches ++ r.fetches;
  short = met.short || r.short;
  fetched = (met.short, r.short, r.fetches, done, r.fetched, refl, refl);
  is_short = λ m. r.is_short (both m met) ∙ or_assoc m.short met.short r.short;
  within = subst (λ (l : List Task). Each (λ (t : Task). t.slot < slots) l) (slots_append served.fetched.fetched.fetches r.fetches)
      (each_append (λ (t : Task). t.slot < slots) (slots_of served.fetched.fetched.fetches) (slots_of r.fetches)
      (fetched_first (λ ts. Each (λ (t : Task). t.slot < slots) ts) new.view.seen n workers all met.short new.view.mine before after served.fetched.fetched (each_one (λ (t : Task). t.slot < slots))
      (each_filter (λ (t : Task). t.slot < slots) (λ (t : Task). t.slot % workers == n) all below)) r.within);
  least = λ m fs calm_all h.
      subst (λ (l : List Fetch). IsLeastFault l (met_with (both m met) mets).fault) (append_assoc fs served.fetched.fetched.fetches r.fetches)
      (r.least (both m met) (fs ++ served.fetched.fetched.fetches) (or_assoc m.short met.short r.short ∙ calm_all)
      (least_append fs served.fetched.fetched.fetches m.fault met.fault h
      (first_least served.fetched.fetched.fetches met.fault ascend (served.fetched.fault (or_left met.short r.short (or_right m.short (met.short || r.short) calm_all))))));
}
  where
    ascend : AreAscending (slots_of served.fetched.fetched.fetches)
    ascend = fetched_first (λ ts. AreAscending ts) new.view.seen n workers all met.short new.view.mine before after served.fetched.fetched ascend_first (ascend_some (λ (t : Task). t.slot % workers == n) all asc)

    done : HasFetched entries n (own_tasks workers n all) met.short (own (λ e. e.worker) n entries) before after
    done = record {
      fetches = served.fetched.fetched.fetches;
      asked = served.fetched.fetched.asked;
      whole = served.fetched.fetched.whole;
      sent = served.fetched.fetched.sent;
      log = served.fetched.fetched.log;
      caused = served.fetched.fetched.caused;
      left = subst (λ (l : List LogEntry). AllLeave entries n (not met.short) served.fetched.fetched.fetches l)
          (sym (ap (λ (k : ℕ). own (λ e. e.worker) k entries) (sym (served.fetched.number ∙ served.number)) ∙ mine))
          (all_later new.view.seen entries n (not met.short) served.fetched.fetched.fetches new.view.mine seen served.fetched.fetched.left);
    }

-- the least fault is of a slot that was asked for
least_within : (slots : ℕ) (fetches : List Fetch) (f : Fetch) → Each (λ (t : Task). t.slot < slots) (slots_of fetches) → Has f fetches → f.task.slot < slots
least_within slots [] f h has = absurd has
least_within slots (g ∷ fs) f (one, more) (inl same) = subst (λ (x : Fetch). x.task.slot < slots) same one
least_within slots (g ∷ fs) f (one, more) (inr has) = least_within slots fs f more has

pub fault_within : (slots : ℕ) (fetches : List Fetch) (fault : Option Fault) → Each (λ (t : Task). t.slot < slots) (slots_of fetches) → IsLeastFault fetches fault → IfSome fault (λ x. x.slot < slots)
fault_within slots fetches None h least = tt
fault_within slots fetches (Some x) h least = subst (λ (n : ℕ). n < slots) (sym least.2) (least_within slots fetches least.0 h least.1)

met_by_is : (mets : List Met) → met_with calm mets ≡ met_by mets
met_by_is [] = refl
met_by_is (met ∷ mets) = refl

-- no worker has fetched anything, since memory was wanted
abbrev any : List Account → Bool
any [] = false
any (a ∷ accounts) = true

none_fetched : (workers n : ℕ) (all : List Task) (accounts : List Account) → HaveFetched workers all [] n accounts accounts [] (any accounts)
none_fetched workers n all [] = (refl, refl)
none_fetched workers n all (a ∷ accounts) = (
  true,
  any accounts,
  [],
  record {
    fetches = [];
    asked = (own_tasks workers n all, refl);
    whole = λ h. absurd cc;
    sent = λ h. refl;
    log = log_still a.log;
    caused = refl;
    left = refl;
  },
  none_fetched workers (n + 1) all accounts,
  refl,
  refl,
)

pub nobody : (declared : Declared) (rows : List Listed) (accounts : List Account) → 0 < length accounts → length accounts ≤ most_workers → length declared.slots ≤ most_log_slots
    → HasLogged declared rows accounts accounts (Some LogsRefusal.Memory) []
nobody declared rows accounts some few slots = record {
  fetches = [];
  short = any accounts;
  fetched = none_fetched (length accounts) 0 (tasks declared rows) accounts;
  memory = λ h. refl;
  refused = tt;
  book = record { numbered = omega (arith, slots); some = some; few = few; each = tt; parts = λ c. omega arith; within = omega arith };
}

-- the same of what equals it
pub logged_so : (declared : Declared) (rows : List Listed) (olds news others : List Account) (refusal said : Option LogsRefusal) (entries left : List LogEntry) → others ≡ news → said ≡ refusal → left ≡ entries
    → HasLogged declared rows olds news refusal entries → HasLogged declared rows olds others said left
logged_so declared rows olds news others refusal said entries left hands says has h =
    subst (λ (l : List Account). HasLogged declared rows olds l said left) (sym hands)
    (subst (λ (r : Option LogsRefusal). HasLogged declared rows olds news r left) (sym says)
    (subst (λ (es : List LogEntry). HasLogged declared rows olds news refusal es) (sym has) h))

-- what is written back into a list that is as long
pub refilled : {X : Type 0} (n : ℕ) (ws xs : List X) → n ≡ length xs → length ws ≡ length xs → take n (ws ++ drop (length ws) xs) ≡ ws
refilled n ws xs long same =
    ap (λ l. take n (ws ++ l)) (drop_all (length ws) xs (omega (arith, same))) ∙ ap (λ l. take n l) (append-nil ws) ∙ take_all n ws (omega (arith, long, same))

-- a crew, by the seat and the hand of each member, what it met, and what its hand tells
module _ {M H : Type 0} (seat : M → Seat) (hand : M → H) (met : M → Met) (tell : H → Account) where
  -- what was done at each place
  abbrev pub HaveAll : Opened Book → List Task → ℕ → ℕ → List M → List M → Type 0
  HaveAll turns all workers n xs ys = (k : ℕ) (d : M) → k < length xs
      → HasFetchedAs turns all workers (n + k) (seat (get_or xs k d)) (seat (get_or ys k d)) (met (get_or ys k d)) (tell (hand (get_or xs k d))) (tell (hand (get_or ys k d)))

  pub may_all : (turns : Opened Book) (all : List Task) (workers n : ℕ) (xs : List M) → turns.object.entries ≡ [] → turns.object.workers ≡ workers → 0 < workers
      → Each (λ (t : Task). t.slot < turns.object.slots) all → AreAscending all → AreLined turns n (map seat xs) → AreFresh (map seat xs) → AreCalm (map met xs)
      → (k : ℕ) (d : M) → k < length xs → MayFetch turns (seat (get_or xs k d)) (met (get_or xs k d)) all workers (n + k)
  may_all turns all workers n [] empty same some below asc lined fresh still k d l = absurd (omega (arith, l))
  may_all turns all workers n (x ∷ xs) empty same some below asc lined fresh still zero d l = record {
    fetcher = record { of = lined.0.of; empty = empty };
    number = lined.1 ∙ (let here : n ≡ n + 0 = omega arith in here);
    none = fresh.0;
    calm = still.0;
    workers_are = sym same;
    some = some;
    below = below;
    ascend = asc;
  }
  may_all turns all workers n (x ∷ xs) empty same some below asc lined fresh still (suc k) d l =
      subst (λ (j : ℕ). MayFetch turns (seat (get_or xs k d)) (met (get_or xs k d)) all workers j) (let there : n + 1 + k ≡ n + suc k = omega arith in there)
      (may_all turns all workers (n + 1) xs empty same some below asc lined.2 fresh.1 still.1 k d (omega (arith, l)))

  later : (turns : Opened Book) (all : List Task) (workers n : ℕ) (x y : M) (xs ys : List M) → HaveAll turns all workers n (x ∷ xs) (y ∷ ys) → HaveAll turns all workers (n + 1) xs ys
  later turns all workers n x y xs ys have k d l =
      subst (λ (j : ℕ). HasFetchedAs turns all workers j (seat (get_or xs k d)) (seat (get_or ys k d)) (met (get_or ys k d)) (tell (hand (get_or xs k d))) (tell (hand (get_or ys k d))))
      (let there : n + suc k ≡ n + 1 + k = omega arith in there) (have (suc k) d (omega (arith, l)))

  here_first : (turns : Opened Book) (all : List Task) (workers n : ℕ) (x y : M) (xs ys : List M) → HaveAll turns all workers n (x ∷ xs) (y ∷ ys)
      → HasFetchedAs turns all workers n (seat x) (seat y) (met y) (tell (hand x)) (tell (hand y))
  here_first turns all workers n x y xs ys have =
      subst (λ (j : ℕ). HasFetchedAs turns all workers j (seat x) (seat y) (met y) (tell (hand x)) (tell (hand y))) (let here : n + 0 ≡ n = omega arith in here) (have 0 x (omega arith))

  pub gathered : (turns : Opened Book) (all : List Task) (workers slots n : ℕ) (entries : List LogEntry) (xs ys : List M) → length ys ≡ length xs → AreAscending all → Each (λ (t : Task). t.slot < slots) all
      → AreLined turns n (map seat xs) → HaveAll turns all workers n xs ys → Each (λ (s : Seat). IsPrefix s.view.seen entries) (map seat ys)
      → Each (λ (s : Seat). own (λ e. e.worker) s.view.number entries ≡ s.view.mine) (map seat ys)
      → HaveGathered all workers slots n entries (map tell (map hand xs)) (map tell (map hand ys)) (map met ys)
  gathered turns all workers slots n entries [] [] same asc below lined have seen mine = none_gathered all workers slots n entries
  gathered turns all workers slots n entries [] (y ∷ ys) same asc below lined have seen mine = absurd (omega (arith, same))
  gathered turns all workers slots n entries (x ∷ xs) [] same asc below lined have seen mine = absurd (omega (arith, same))
  gathered turns all workers slots n entries (x ∷ xs) (y ∷ ys) same asc below lined have seen mine =
      more_gathered turns all workers slots n entries (seat x) (seat y) (met y) (tell (hand x)) (tell (hand y)) (map tell (map hand xs)) (map tell (map hand ys)) (map met ys) asc below
      (record { plain = lined.0; number = lined.1; fetched = here_first turns all workers n x y xs ys have }) seen.0 mine.0
      (gathered turns all workers slots (n + 1) entries xs ys (omega (arith, same)) asc below lined.2 (later turns all workers n x y xs ys have) seen.1 mine.1)

  -- the seats are lined up as before
  pub lined_still : (turns : Opened Book) (all : List Task) (workers n : ℕ) (xs ys : List M) → length ys ≡ length xs → AreLined turns n (map seat xs) → HaveAll turns all workers n xs ys → AreLined turns n (map seat ys)
  lined_still turns all workers n [] [] same lined have = tt
  lined_still turns all workers n [] (y ∷ ys) same lined have = absurd (omega (arith, same))
  lined_still turns all workers n (x ∷ xs) [] same lined have = absurd (omega (arith, same))
  lined_still turns all workers n (x ∷ xs) (y ∷ ys) same lined have =
      let one = here_first turns all workers n x y xs ys have in (
        record { of = one.fetcher.of; joined = one.joined ∙ lined.0.joined; left = one.left ∙ lined.0.left },
        one.number ∙ lined.1,
        lined_still turns all workers (n + 1) xs ys (omega (arith, same)) lined.2 (later turns all workers n x y xs ys have),
      )

  -- what was done at each place, from the first on
  abbrev pub HaveDone : Opened Book → List Task → ℕ → List M → List M → Type 0
  HaveDone turns all workers xs ys = (k : ℕ) (d : M) → k < length xs
      → HasFetchedAs turns all workers k (seat (get_or xs k d)) (seat (get_or ys k d)) (met (get_or ys k d)) (tell (hand (get_or xs k d))) (tell (hand (get_or ys k d)))

  from_first : (turns : Opened Book) (all : List Task) (workers : ℕ) (xs ys : List M) → HaveDone turns all workers xs ys → HaveAll turns all workers 0 xs ys
  from_first turns all workers xs ys have k d l =
      subst (λ (j : ℕ). HasFetchedAs turns all workers j (seat (get_or xs k d)) (seat (get_or ys k d)) (met (get_or ys k d)) (tell (hand (get_or xs k d))) (tell (hand (get_or ys k d))))
      (let here : k ≡ 0 + k = omega arith in here) (have k d l)

  -- a crew that was seated may begin
  pub may_crew : (turns : Opened Book) (declared : Declared) (rows : List Listed) (all : List Task) (xs : List M) (olds : List H) → turns.object ≡ record { slots = length declared.slots; workers = length olds; entries = [] }
      → 0 < length olds → all ≡ tasks declared rows → map hand xs ≡ olds → AreLined turns 0 (map seat xs) → AreFresh (map seat xs) → AreCalm (map met xs)
      → (k : ℕ) (d : M) → k < length xs → MayFetch turns (seat (get_or xs k d)) (met (get_or xs k d)) all (length xs) k
  may_crew turns declared rows all xs olds object some is were lined fresh still k d l =
      subst (λ (j : ℕ). MayFetch turns (seat (get_or xs k d)) (met (get_or xs k d)) all (length xs) j) (let here : 0 + k ≡ k = omega arith in here)
      (may_all turns all (length xs) 0 xs (ap (λ (b : Book). b.entries) object) (ap (λ (b : Book). b.workers) object ∙ long) (omega (arith, some, long))
      (subst (λ (l : List Task). Each (λ (t : Task). t.slot < turns.object.slots) l) (sym is) (subst (λ (n : ℕ). Each (λ (t : Task). t.slot < n) (tasks declared rows)) (sym (ap (λ (b : Book). b.slots) object)) (below_slots declared rows)))
      (subst (λ (l : List Task). AreAscending l) (sym is) (tasks_ascend declared rows)) lined fresh still k d l)
    where
      long : length olds ≡ length xs
      long = ap (λ (l : List H). length l) (sym were) ∙ length-map xs hand

  pub seats_kept : (turns : Opened Book) (all : List Task) (xs slice ws ys : List M) → slice ≡ xs → length ws ≡ length slice → ys ≡ ws → AreLined turns 0 (map seat xs) → HaveDone turns all (length slice) slice ws
      → AreLined turns 0 (map seat ys)
  seats_kept turns all xs slice ws ys same long filled lined have =
      subst (λ (l : List M). AreLined turns 0 (map seat l)) (sym filled)
      (lined_still turns all (length slice) 0 slice ws long (subst (λ (l : List M). AreLined turns 0 (map seat l)) (sym same) lined) (from_first turns all (length slice) slice ws have))

  gathered_here : (turns : Opened Book) (declared : Declared) (rows : List Listed) (xs slice ws ys : List M) (book : Book) (olds : List H)
      → slice ≡ xs → length ws ≡ length slice → ys ≡ ws → turns.object ≡ record { slots = length declared.slots; workers = length olds; entries = [] }
      → AreLined turns 0 (map seat xs) → HaveDone turns (tasks declared rows) (length slice) slice ws → HaveEnded turns.object (map seat ys) book
      → HaveGathered (tasks declared rows) (length slice) (length declared.slots) 0 book.entries (map tell (map hand xs)) (map tell (map hand ws)) (map met ws)
  gathered_here turns declared rows xs slice ws ys book olds same long filled object lined have ended =
      gathered turns (tasks declared rows) (length slice) (length declared.slots) 0 book.entries xs ws (long ∙ ap (λ (l : List M). length l) same) (tasks_ascend declared rows) (below_slots declared rows) lined
      (subst (λ (l : List M). HaveAll turns (tasks declared rows) (length slice) 0 l ws) same (from_first turns (tasks declared rows) (length slice) slice ws have)) seen mine
    where
      entries_are : book.entries ≡ ended.history
      entries_are = ended.entries ∙ ap (λ (b : Book). b.entries ++ ended.history) object

      seen : Each (λ (s : Seat). IsPrefix s.view.seen book.entries) (map seat ws)
      seen = subst (λ (es : List LogEntry). Each (λ (s : Seat). IsPrefix s.view.seen es) (map seat ws)) (sym entries_are)
          (subst (λ (l : List M). Each (λ (s : Seat). IsPrefix s.view.seen ended.history) (map seat l)) filled ended.begins)

      mine : Each (λ (s : Seat). own (λ e. e.worker) s.view.number book.entries ≡ s.view.mine) (map seat ws)
      mine = subst (λ (es : List LogEntry). Each (λ (s : Seat). own (λ e. e.worker) s.view.number es ≡ s.view.mine) (map seat ws)) (sym entries_are)
          (subst (λ (l : List M). Each (λ (s : Seat). own (λ e. e.worker) s.view.number ended.history ≡ s.view.mine) (map seat l)) filled ended.mine)

  -- what the call leaves whose workers have done this
  pub has_logged : (turns : Opened Book) (declared : Declared) (rows : List Listed) (all : List Task) (xs slice ws ys : List M) (book : Book) (olds news : List H) (all_met : Met) (refusal : Option LogsRefusal)
      → all ≡ tasks declared rows → slice ≡ xs → length ws ≡ length slice → ys ≡ ws → map hand xs ≡ olds → news ≡ map hand ys
      → turns.object ≡ record { slots = length declared.slots; workers = length olds; entries = [] }
      → AreLined turns 0 (map seat xs) → HaveDone turns all (length slice) slice ws → HaveEnded turns.object (map seat ys) book → all_met ≡ met_by (map met ys)
      → RefusedBy declared rows all_met book.entries refusal → IsBook book → HasLogged declared rows (map tell olds) (map tell news) refusal book.entries
  has_logged turns declared rows all xs slice ws ys book olds news all_met refusal is same long filled were now object lined have ended mets refused is_book = record {
    fetches = g.fetches;
    short = g.short;
    fetched = fetched;
    memory = λ h. refused.short (ap (λ (m : Met). m.short) mets_are ∙ g.is_short calm ∙ h);
    refused = refused.refused g.fetches (λ h. subst (λ (m : Met). IsLeastFault g.fetches m.fault) (sym mets_are) (g.least calm [] (sym (g.is_short calm) ∙ sym (ap (λ (m : Met). m.short) mets_are) ∙ h) (λ f has. absurd has)));
    book = subst (λ (n : ℕ). IsBook (record { slots = length declared.slots; workers = n; entries = book.entries })) (sym (length-map olds tell))
        (subst (λ (b : Book). IsBook (record { slots = b.slots; workers = b.workers; entries = book.entries })) (ended.origin ∙ ap (λ (b : Book). opening b) object) is_book);
  }
    where
      mets_are : all_met ≡ met_with calm (map met ws)
      mets_are = mets ∙ ap (λ (l : List M). met_by (map met l)) filled ∙ sym (met_by_is (map met ws))

      g : HaveGathered (tasks declared rows) (length slice) (length declared.slots) 0 book.entries (map tell (map hand xs)) (map tell (map hand ws)) (map met ws)
      g = gathered_here turns declared rows xs slice ws ys book olds same long filled object lined (subst (λ (ts : List Task). HaveDone turns ts (length slice) slice ws) is have) ended

      workers_are : length slice ≡ length (map tell olds)
      workers_are = ap (λ (l : List M). length l) same ∙ sym (length-map xs hand) ∙ ap (λ (l : List H). length l) were ∙ sym (length-map olds tell)

      news_are : map hand ws ≡ news
      news_are = sym (now ∙ ap (λ (l : List M). map hand l) filled)

      fetched : HaveFetched (length (map tell olds)) (tasks declared rows) book.entries 0 (map tell olds) (map tell news) g.fetches g.short
      fetched = subst (λ (n : ℕ). HaveFetched n (tasks declared rows) book.entries 0 (map tell olds) (map tell news) g.fetches g.short) workers_are
          (subst (λ (l : List H). HaveFetched (length slice) (tasks declared rows) book.entries 0 (map tell l) (map tell news) g.fetches g.short) were
          (subst (λ (l : List H). HaveFetched (length slice) (tasks declared rows) book.entries 0 (map tell (map hand xs)) (map tell l) g.fetches g.short) news_are g.fetched))

  -- the fault that workers met together is of a declared slot
  pub met_within : (turns : Opened Book) (declared : Declared) (rows : List Listed) (all : List Task) (xs slice ws ys : List M) (book : Book) (olds : List H) (all_met : Met)
      → all ≡ tasks declared rows → slice ≡ xs → length ws ≡ length slice → ys ≡ ws → map hand xs ≡ olds → turns.object ≡ record { slots = length declared.slots; workers = length olds; entries = [] }
      → AreLined turns 0 (map seat xs) → HaveDone turns all (length slice) slice ws → HaveEnded turns.object (map seat ys) book → all_met ≡ met_by (map met ys)
      → all_met.short ≡ false → IfSome all_met.fault (λ x. x.slot < length declared.slots)
  met_within turns declared rows all xs slice ws ys book olds all_met is same long filled were object lined have ended mets whole =
      fault_within (length declared.slots) g.fetches all_met.fault g.within (subst (λ (m : Met). IsLeastFault g.fetches m.fault) (sym mets_are)
      (g.least calm [] (sym (g.is_short calm) ∙ sym (ap (λ (m : Met). m.short) mets_are) ∙ whole) (λ f has. absurd has)))
    where
      mets_are : all_met ≡ met_with calm (map met ws)
      mets_are = mets ∙ ap (λ (l : List M). met_by (map met l)) filled ∙ sym (met_by_is (map met ws))

      g : HaveGathered (tasks declared rows) (length slice) (length declared.slots) 0 book.entries (map tell (map hand xs)) (map tell (map hand ws)) (map met ws)
      g = gathered_here turns declared rows xs slice ws ys book olds same long filled object lined (subst (λ (ts : List Task). HaveDone turns ts (length slice) slice ws) is have) ended

  -- each hand's clock is as it was
  pub clocks_same : {C : Type 0} (clock : H → C) (xs ws : List M) → length ws ≡ length xs → ((k : ℕ) (d : M) → k < length xs → clock (hand (get_or ws k d)) ≡ clock (hand (get_or xs k d)))
      → map clock (map hand ws) ≡ map clock (map hand xs)
  clocks_same clock [] [] same h = refl
  clocks_same clock [] (w ∷ ws) same h = absurd (omega (arith, same))
  clocks_same clock (x ∷ xs) [] same h = absurd (omega (arith, same))
  clocks_same {C} clock (x ∷ xs) (w ∷ ws) same h =
      ap (λ (c : C). c ∷ map clock (map hand ws)) (h 0 x (omega arith))
      ∙ ap (λ (l : List C). clock (hand x) ∷ l) (clocks_same clock xs ws (omega (arith, same)) (λ k d l. h (suc k) d (omega (arith, l))))

  pub clocks_all : {C : Type 0} (clock : H → C) (xs slice ws ys : List M) (olds news : List H) → slice ≡ xs → length ws ≡ length slice → ys ≡ ws → map hand xs ≡ olds → news ≡ map hand ys
      → ((k : ℕ) (d : M) → k < length slice → clock (hand (get_or ws k d)) ≡ clock (hand (get_or slice k d))) → map clock news ≡ map clock olds
  clocks_all clock xs slice ws ys olds news same long filled were now h =
      ap (λ (l : List H). map clock l) now ∙ ap (λ (l : List M). map clock (map hand l)) filled ∙ clocks_same clock slice ws long h
      ∙ ap (λ (l : List M). map clock (map hand l)) same ∙ ap (λ (l : List H). map clock l) were

-- hands, by what each tells and its clock, the first of which listed the containers
module _ {H C : Type 0} (tell : H → Account) (clock : H → C) where
  pub listed_well : (declared : Declared) (rows : List Listed) (hands after : List H) (news : List Account) (refusal : Option LogsRefusal) (entries : List LogEntry) → length declared.slots ≤ most_log_slots
      → ListsWith tell clock declared (Ok rows) hands after → HasLogged declared rows (map tell after) news refusal entries → IsLogged declared (map tell hands) news refusal entries
  listed_well declared rows hands after news refusal entries few l logged =
      subst (λ (hs : List H). IsLogged declared (map tell hs) news refusal entries) (sym l.were)
      (inr (record { few = few; outcome = l.lists.outcome; listed = tell l.asked; caused = l.lists.caused; left = left }))
    where
      left : IsLoggedBy declared (rows_told l.lists.outcome) l.lists.outcome (tell l.asked ∷ map tell l.others) news refusal entries
      left = subst (λ (o : Option (List Listed)). IsLoggedBy declared o l.lists.outcome (tell l.asked ∷ map tell l.others) news refusal entries) (sym l.lists.rows)
          (subst (λ (hs : List H). HasLogged declared rows (map tell hs) news refusal entries) l.are logged)

  pub listed_badly : (declared : Declared) (reason : LogsRefusal) (hands after : List H) (news : List Account) (refusal : Option LogsRefusal) (entries : List LogEntry) → length declared.slots ≤ most_log_slots
      → ListsWith tell clock declared (Err reason) hands after → news ≡ map tell after → refusal ≡ Some reason → entries ≡ [] → IsLogged declared (map tell hands) news refusal entries
  listed_badly declared reason hands after news refusal entries few l are says none =
      subst (λ (hs : List H). IsLogged declared (map tell hs) news refusal entries) (sym l.were)
      (inr (record { few = few; outcome = l.lists.outcome; listed = tell l.asked; caused = l.lists.caused; left = left }))
    where
      left : IsLoggedBy declared (rows_told l.lists.outcome) l.lists.outcome (tell l.asked ∷ map tell l.others) news refusal entries
      left = subst (λ (o : Option (List Listed)). IsLoggedBy declared o l.lists.outcome (tell l.asked ∷ map tell l.others) news refusal entries) (sym l.lists.refused.0)
          (are ∙ ap (λ (hs : List H). map tell hs) l.are, none, reason, says, l.lists.refused.1)

  pub clocks_listed : (declared : Declared) (result : Result (List Listed) LogsRefusal) (hands after : List H) → ListsWith tell clock declared result hands after → map clock after ≡ map clock hands
  clocks_listed declared result hands after l =
      ap (λ (hs : List H). map clock hs) l.are ∙ ap (λ (c : C). c ∷ map clock l.others) l.time ∙ sym (ap (λ (hs : List H). map clock hs) l.were)
