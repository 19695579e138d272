-- What a worker has done by some place of the tasks.
use Rattle.std.proofs.Common.{◌≡◌, ◌∙◌, ℕ, zero, suc, ◌+◌, ◌%◌, ◌<◌, ◌≤◌, Bool, true, false, cond, not, List, [], ◌∷◌, ◌++◌, Option, Some, None, drop, length, map, slice_get, take, refl, sym, ap, subst, inl, inr, append_assoc, arith}
use Rattle.std.specs.List.{list_all}
use Rattle.std.specs.Prelude.{◌==◌}
use Rattle.std.proofs.lemmas.Bool.{eqb-true, ne_eqb}
use Rattle.std.proofs.lemmas.List.{append-nil, map-append, take-append-drop, take_all}
use Rattle.std.proofs.lemmas.List.Elements.{filter-append}
use Rattle.std.proofs.lemmas.List.Folds.{list_all-append}
use mathlib.Core.List.{IsPrefix}
use Rattle.engine_types.specs.declared.Exchange.{Exchange}
use Rattle.outside_api.specs.Accounts.{Account, AreCaused}
use Rattle.outside_api.proofs.Accounts.{caused-append, caused-one}
use Rattle.run_model.specs.Logs.{GrowsBy, is_memory}
use Rattle.turn_ledger.specs.Own.{Each}
use Rattle.turn_ledger.specs.Seats.{Opened}
use Rattle.turn_ledger.proofs.Lists.{prefix_self}
use Rattle.log_book.specs.Books.{Book, of_container}
use Rattle.log_book.specs.declared.entries.LogEntry.{LogEntry}
use Rattle.logs_run.specs.declared.fetching.Fault.{Fault}
use Rattle.logs_run.specs.declared.fetching.Met.{Met}
use Rattle.logs_run.specs.declared.tasks.Task.{Task}
use Rattle.logs_run.specs.Adding.{HasNone, IsFetcher, MayAddTo}
use Rattle.logs_run.specs.Crew.{Seat}
use Rattle.logs_run.specs.Fetching.{AllLeave, Fetch, Leaves, exchange_of, is_whole}
use Rattle.logs_run.specs.Met.{HasFetchedAs, IsFirstFault, MayFetch, Meets, Notes}
use Rattle.logs_run.specs.Slots.{AreAscending, own_tasks}
use Rattle.logs_run.proofs.Exchanging.{grows_append, grows_one, log_still}
use Rattle.logs_run.proofs.PartEntries.{parts_more}
use Rattle.logs_run.proofs.TaskLists.{each_filter, each_map, left_from, less_before, own_less, own_more, taken_next}

-- tasks were fetched up to a place, all whole
pub record HasFetchedTo (turns : Opened Book) (all : List Task) (workers w i : ℕ) (old new : Seat) (met : Met) (before after : Account) : Type 0 where
  pub fetcher : IsFetcher turns new
  pub own : old.view.number ≡ w
  pub number : new.view.number ≡ old.view.number
  pub left : new.view.left ≡ old.view.left
  pub joined : new.view.joined ≡ old.view.joined
  pub fetches : List Fetch
  pub asked : map (λ (f : Fetch). f.task) fetches ≡ own_tasks workers w (take i all)
  pub sent : list_all (λ (f : Fetch). not (is_memory f.outcome)) fetches ≡ true
  pub log : GrowsBy (map exchange_of fetches) before.log after.log
  pub caused : AreCaused (map exchange_of fetches) before after
  pub leaves : AllLeave new.view.seen w true fetches new.view.mine
  pub going : met.short ≡ false
  pub fault : IsFirstFault fetches met.fault

pub sets_off : (turns : Opened Book) (all : List Task) (workers w : ℕ) (seat : Seat) (met : Met) (a : Account) → MayFetch turns seat met all workers w → HasFetchedTo turns all workers w 0 seat seat met a a
sets_off turns all workers w seat met a may = record {
  fetcher = may.fetcher;
  own = may.number;
  number = refl;
  left = refl;
  joined = refl;
  fetches = [];
  asked = refl;
  sent = refl;
  log = log_still a.log;
  caused = refl;
  leaves = may.none;
  going = ap (λ (m : Met). m.short) may.calm;
  fault = subst (λ (m : Met). IsFirstFault [] m.fault) (sym may.calm) tt;
}

-- entries of lesser slots are none of a slot
none_in : (e : LogEntry) (slot : ℕ) (xs : List LogEntry) → (e.container ≡ slot → ⊥) → xs ≡ [] → cond (e.container == slot) (e ∷ xs) xs ≡ []
none_in e slot xs other none = rw (ne_eqb e.container slot other) none

pub none_of : (w n slot : ℕ) (es : List LogEntry) → (n ≡ slot → ⊥) → Each (λ (e : LogEntry). (e.worker ≡ w) × (e.container ≡ n)) es → of_container slot es ≡ []
none_of w n slot [] other h = refl
none_of w n slot (e ∷ es) other (one, more) = none_in e slot (of_container slot es) (λ same. other (sym one.1 ∙ same)) (none_of w n slot es other more)

pub none_left : (history : List LogEntry) (w slot : ℕ) (last : Bool) (fetches : List Fetch) (es : List LogEntry) → Each (λ (f : Fetch). f.task.slot ≡ slot → ⊥) fetches → AllLeave history w last fetches es → of_container slot es ≡ []
none_left history w slot last [] es others h = ap (λ (l : List LogEntry). of_container slot l) h
none_left history w slot last (f ∷ fs) es (one, more) (first, rest, is, leaves, behind) =
    ap (λ (l : List LogEntry). of_container slot l) is
    ∙ filter-append (λ (e : LogEntry). e.container == slot) first rest
    ∙ ap (λ (l : List LogEntry). l ++ of_container slot rest) (none_of w f.task.slot slot first one leaves.own)
    ∙ none_left history w slot last fs rest more behind

-- what is left stays so in a history that goes on
leaves_later : (history more : List LogEntry) (w : ℕ) (whole : Bool) (f : Fetch) (es : List LogEntry) → IsPrefix history more → Leaves history w whole f es → Leaves more w whole f es
leaves_later history more w whole f es goes l = record {
  own = l.own;
  framed = λ bytes frames is. let found = l.framed bytes frames is in (found.0, parts_more history more w f.task.slot found.0 es goes found.1, found.2, found.3);
  unframed = l.unframed;
}

pub all_later : (history more : List LogEntry) (w : ℕ) (last : Bool) (fs : List Fetch) (es : List LogEntry) → IsPrefix history more → AllLeave history w last fs es → AllLeave more w last fs es
all_later history more w last [] es goes h = h
all_later history more w last (f ∷ fs) es goes (first, rest, is, leaves, behind) =
    (first, rest, is, leaves_later history more w (is_whole last fs) f first goes leaves, all_later history more w last fs rest goes behind)

whole_true : (fs : List Fetch) → is_whole true fs ≡ true
whole_true [] = refl
whole_true (f ∷ fs) = refl

whole_behind : (last : Bool) (fs : List Fetch) (f : Fetch) → is_whole last (fs ++ f ∷ []) ≡ true
whole_behind last [] f = refl
whole_behind last (g ∷ fs) f = refl

leave_more : (history : List LogEntry) (w : ℕ) (last : Bool) (fs : List Fetch) (f : Fetch) (es added : List LogEntry) → AllLeave history w true fs es → Leaves history w last f added → AllLeave history w last (fs ++ f ∷ []) (es ++ added)
leave_more history w last [] f es added none leaves = (added, [], ap (λ (l : List LogEntry). l ++ added) none ∙ sym (append-nil added), leaves, refl)
leave_more history w last (g ∷ fs) f es added (first, rest, is, one, more) leaves = (
  first,
  rest ++ added,
  ap (λ (l : List LogEntry). l ++ added) is ∙ append_assoc first rest added,
  subst (λ (t : Bool). Leaves history w t g first) (whole_true fs ∙ sym (whole_behind last fs f)) one,
  leave_more history w last fs f rest added more leaves,
)

first_stays : (fs : List Fetch) (f : Fetch) (x : Fault) → IsFirstFault fs (Some x) → IsFirstFault (fs ++ f ∷ []) (Some x)
first_stays [] f x h = absurd h
first_stays (g ∷ fs) f x (inl (good, h)) = inl (good, first_stays fs f x h)
first_stays (g ∷ fs) f x (inr is) = inr is

first_more : (fs : List Fetch) (f : Fetch) (a b : Option Fault) → IsFirstFault fs a → Notes f a b → IsFirstFault (fs ++ f ∷ []) b
first_more [] f None None h n = (n, tt)
first_more [] f None (Some x) h n = inr n
first_more [] f (Some x) b h n = absurd h
first_more (g ∷ fs) f None None (good, h) n = (good, first_more fs f None None h n)
first_more (g ∷ fs) f None (Some x) (good, h) n = inl (good, first_more fs f None (Some x) h n)
first_more (g ∷ fs) f (Some x) b h n = subst (λ (o : Option Fault). IsFirstFault (g ∷ (fs ++ f ∷ [])) o) (sym n) (first_stays (g ∷ fs) f x h)

pub each_at : {X : Type 0} (P : X → Type 0) (xs : List X) (i : ℕ) (x : X) → slice_get xs i ≡ Some x → Each P xs → P x
each_at P [] i x e h = absurd cc
each_at {X} P (y ∷ xs) zero x e h = let same : y ≡ x = cc in subst P same h.0
each_at P (y ∷ xs) (suc i) x e h = each_at P xs i x e h.1

pub still_whole : (short : Bool) → short ≡ false → true ≡ not short
still_whole short e = rw e refl

module _ (turns : Opened Book) (all : List Task) (workers w i : ℕ) (task : Task) (at : slice_get all i ≡ Some task) where
  whole_is : all ≡ take i all ++ task ∷ drop (i + 1) all
  whole_is = sym (take-append-drop i all) ∙ ap (λ (l : List Task). take i all ++ l) (left_from all i task at)

  module _ (old seat : Seat) (met : Met) (a b : Account) (was : HasFetchedTo turns all workers w i old seat met a b) where
    -- the task is another worker's
    pub skips : (task.slot % workers == w) ≡ false → HasFetchedTo turns all workers w (i + 1) old seat met a b
    skips other = record {
      fetcher = was.fetcher;
      own = was.own;
      number = was.number;
      left = was.left;
      joined = was.joined;
      fetches = was.fetches;
      asked = was.asked ∙ sym (ap (own_tasks workers w) (taken_next all i task at) ∙ own_less workers w (take i all) task other);
      sent = was.sent;
      log = was.log;
      caused = was.caused;
      leaves = was.leaves;
      going = was.going;
      fault = was.fault;
    }

    -- the worker may add lines of the task's slot
    pub may_add : workers ≡ turns.object.workers → Each (λ (t : Task). t.slot < turns.object.slots) all → (task.slot % workers == w) ≡ true → MayAddTo turns seat.view task.slot
    may_add same below mine = record {
      below = each_at (λ (t : Task). t.slot < turns.object.slots) all i task at below;
      own = was.number ∙ was.own ∙ sym (eqb-true (task.slot % workers) w mine) ∙ ap (λ (n : ℕ). task.slot % n) same;
    }

    -- and has added none
    pub adds_none : AreAscending all → HasNone seat.view task.slot
    adds_none ascend =
        let less = less_before (take i all) (drop (i + 1) all) task (subst (λ (l : List Task). AreAscending l) whole_is ascend) in
        let some = each_filter (λ (t : Task). t.slot < task.slot) (λ (t : Task). t.slot % workers == w) (take i all) less in
        let tasks_less = subst (λ (l : List Task). Each (λ (t : Task). t.slot < task.slot) l) (sym was.asked) some in
        none_left seat.view.seen w task.slot true was.fetches seat.view.mine
        (others was.fetches (each_map (λ (t : Task). t.slot < task.slot) (λ (f : Fetch). f.task) was.fetches tasks_less)) was.leaves
      where
        others : (fs : List Fetch) → Each (λ (f : Fetch). f.task.slot < task.slot) fs → Each (λ (f : Fetch). f.task.slot ≡ task.slot → ⊥) fs
        others [] h = tt
        others (f ∷ fs) (one, more) = ((λ same. absurd (omega (arith, one, same))), others fs more)

    module _ (new : Seat) (met_new : Met) (c : Account) (fetcher : IsFetcher turns new) (meets : Meets task met met_new seat.view new.view b c) (mine : (task.slot % workers == w) ≡ true) where
      number_is : new.view.number ≡ old.view.number
      number_is = meets.grows.number ∙ was.number

      asked_is : map (λ (f : Fetch). f.task) (was.fetches ++ meets.fetch ∷ []) ≡ own_tasks workers w (take i all ++ task ∷ [])
      asked_is = map-append (λ (f : Fetch). f.task) was.fetches (meets.fetch ∷ [])
          ∙ ap (λ (l : List Task). l ++ meets.fetch.task ∷ []) was.asked
          ∙ ap (λ (t : Task). own_tasks workers w (take i all) ++ t ∷ []) meets.is
          ∙ sym (own_more workers w (take i all) task mine)

      exchanges_are : map exchange_of (was.fetches ++ meets.fetch ∷ []) ≡ map exchange_of was.fetches ++ exchange_of meets.fetch ∷ []
      exchanges_are = map-append exchange_of was.fetches (meets.fetch ∷ [])

      log_is : GrowsBy (map exchange_of (was.fetches ++ meets.fetch ∷ [])) a.log c.log
      log_is = subst (λ (l : List Exchange). GrowsBy l a.log c.log) (sym exchanges_are)
          (grows_append (map exchange_of was.fetches) (exchange_of meets.fetch ∷ []) a.log b.log c.log was.log
          (grows_one b.log (exchange_of meets.fetch).request (exchange_of meets.fetch).outcome c.log meets.caused.logged))

      caused_is : AreCaused (map exchange_of (was.fetches ++ meets.fetch ∷ [])) a c
      caused_is = subst (λ (l : List Exchange). AreCaused l a c) (sym exchanges_are)
          (caused-append (map exchange_of was.fetches) (exchange_of meets.fetch ∷ []) a b c was.caused (caused-one (exchange_of meets.fetch) b c meets.caused))

      leaves_are : (last : Bool) → Leaves new.view.seen seat.view.number last meets.fetch meets.added → AllLeave new.view.seen w last (was.fetches ++ meets.fetch ∷ []) new.view.mine
      leaves_are last leaves = subst (λ (l : List LogEntry). AllLeave new.view.seen w last (was.fetches ++ meets.fetch ∷ []) l) (sym meets.grows.mine)
          (leave_more new.view.seen w last was.fetches meets.fetch seat.view.mine meets.added
          (all_later seat.view.seen new.view.seen w true was.fetches seat.view.mine meets.grows.seen was.leaves)
          (subst (λ (n : ℕ). Leaves new.view.seen n last meets.fetch meets.added) (was.number ∙ was.own) leaves))

      -- the task was fetched whole
      pub goes_past : met_new.short ≡ false → HasFetchedTo turns all workers w (i + 1) old new met_new a c
      goes_past going = record {
        fetcher = fetcher;
        own = was.own;
        number = number_is;
        left = meets.grows.left ∙ was.left;
        joined = meets.grows.joined ∙ was.joined;
        fetches = was.fetches ++ meets.fetch ∷ [];
        asked = asked_is ∙ ap (own_tasks workers w) (sym (taken_next all i task at));
        sent = list_all-append (λ (f : Fetch). not (is_memory f.outcome)) was.fetches (meets.fetch ∷ []) ∙ rw (was.sent, meets.sent going) refl;
        log = log_is;
        caused = caused_is;
        leaves = leaves_are true (subst (λ (t : Bool). Leaves new.view.seen seat.view.number t meets.fetch meets.added) (sym (still_whole met_new.short going)) meets.leaves);
        going = going;
        fault = first_more was.fetches meets.fetch met.fault met_new.fault was.fault (meets.noted going);
      }

      -- memory was wanted
      pub ends_short : met_new.short ≡ true → HasFetchedAs turns all workers w old new met_new a c
      ends_short short = record {
        fetcher = fetcher;
        number = number_is;
        left = meets.grows.left ∙ was.left;
        joined = meets.grows.joined ∙ was.joined;
        fetched = record {
          fetches = was.fetches ++ meets.fetch ∷ [];
          asked = subst (λ (l : List Task). IsPrefix l (own_tasks workers w all)) (sym asked_is) first;
          whole = λ h. absurd (not_both h);
          sent = λ h. absurd (not_both h);
          log = log_is;
          caused = caused_is;
          left = leaves_are (not met_new.short) meets.leaves;
        };
        fault = λ h. absurd (not_both h);
      }
        where
          not_both : met_new.short ≡ false → ⊥
          not_both h = let same : true ≡ false = sym short ∙ h in absurd cc

          first : IsPrefix (own_tasks workers w (take i all ++ task ∷ [])) (own_tasks workers w all)
          first = (
            own_tasks workers w (drop (i + 1) all),
            sym (filter-append (λ (t : Task). t.slot % workers == w) (take i all ++ task ∷ []) (drop (i + 1) all))
                ∙ ap (own_tasks workers w) (append_assoc (take i all) (task ∷ []) (drop (i + 1) all) ∙ sym whole_is),
          )

-- all tasks were looked at
pub ends_whole : (turns : Opened Book) (all : List Task) (workers w i : ℕ) (old new : Seat) (met : Met) (a b : Account) → length all ≤ i → HasFetchedTo turns all workers w i old new met a b
    → HasFetchedAs turns all workers w old new met a b
ends_whole turns all workers w i old new met a b past was = record {
  fetcher = was.fetcher;
  number = was.number;
  left = was.left;
  joined = was.joined;
  fetched = record {
    fetches = was.fetches;
    asked = subst (λ (l : List Task). IsPrefix (map (λ (f : Fetch). f.task) was.fetches) l) all_asked (prefix_self (map (λ (f : Fetch). f.task) was.fetches));
    whole = λ h. all_asked;
    sent = λ h. was.sent;
    log = was.log;
    caused = was.caused;
    left = subst (λ (t : Bool). AllLeave new.view.seen w t was.fetches new.view.mine) (still_whole met.short was.going) was.leaves;
  };
  fault = λ h. was.fault;
}
  where
    all_asked : map (λ (f : Fetch). f.task) was.fetches ≡ own_tasks workers w all
    all_asked = was.asked ∙ ap (own_tasks workers w) (take_all i all past)
