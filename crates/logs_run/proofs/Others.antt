-- Whose lines are in a book.
use Rattle.std.proofs.Common.{◌≡◌, ◌∙◌, ℕ, ◌+◌, ◌%◌, ◌<◌, ◌≤◌, ◌⊎◌, Bool, true, false, cond, not, List, [], ◌∷◌, ◌++◌, length, refl, sym, ap, subst, inl, inr, arith}
use Rattle.std.proofs.lemmas.Bool.{cases_eq, eqb-true}
use Rattle.std.proofs.lemmas.List.{append-nil}
use Rattle.std.proofs.lemmas.Nat.{mod_below}
use Rattle.std.proofs.lemmas.List.Elements.{filter-append}
use Rattle.std.specs.Prelude.{◌==◌}
use Rattle.outside_api.specs.Accounts.{Account}
use Rattle.turn_ledger.specs.Own.{Each, own}
use Rattle.log_book.specs.Books.{of_container}
use Rattle.log_book.specs.declared.entries.LogEntry.{LogEntry}
use Rattle.log_book.proofs.Counting.{own_are_all}
use Rattle.logs_run.specs.declared.tasks.Task.{Task}
use Rattle.logs_run.specs.Ending.{Has}
use Rattle.logs_run.specs.Fetching.{AllLeave, Fetch, HasFetched, Leaves, is_whole}
use Rattle.logs_run.specs.Laws.{NoOtherLines}
use Rattle.logs_run.specs.Logged.{HaveFetched}
use Rattle.logs_run.specs.Slots.{AreAscending, own_tasks}
use Rattle.logs_run.proofs.Faults.{has_above, has_in, has_left, has_right, slots_of}
use Rattle.logs_run.proofs.Gathering.{ascend_first, fetched_first, or_left, or_right}
use Rattle.logs_run.proofs.Going.{none_left, none_of, still_whole}
use Rattle.logs_run.proofs.PartEntries.{all_of}
use Rattle.logs_run.proofs.TaskLists.{ascend_some, each_map, each_one, each_so}

-- the entries of a slot are what a fetch leaves
abbrev IsLeft : List LogEntry → ℕ → ℕ → Bool → Fetch → List LogEntry → Type 0
IsLeft history w slot last f es = (whole : Bool) × (last ≡ true → whole ≡ true) × Leaves history w whole f (of_container slot es)

whole_last : (last : Bool) (fs : List Fetch) → last ≡ true → is_whole last fs ≡ true
whole_last last [] h = h
whole_last last (f ∷ fs) h = refl

apart : (f : Fetch) (slot : ℕ) (fs : List Fetch) → f.task.slot ≡ slot → Each (λ (t : Task). f.task.slot < t.slot) (slots_of fs) → Each (λ (g : Fetch). g.task.slot ≡ slot → ⊥) fs
apart f slot fs same above =
    each_map (λ (t : Task). t.slot ≡ slot → ⊥) (λ (g : Fetch). g.task) fs
    (each_so (λ (t : Task). f.task.slot < t.slot) (λ (t : Task). t.slot ≡ slot → ⊥) (slots_of fs) (λ t far at. absurd (omega (arith, far, at, same))) above)

module _ (history : List LogEntry) (w : ℕ) (last : Bool) (f : Fetch) (fs : List Fetch) (es first rest : List LogEntry) (is : es ≡ first ++ rest) where
  split : (slot : ℕ) → of_container slot es ≡ of_container slot first ++ of_container slot rest
  split slot = ap (λ (l : List LogEntry). of_container slot l) is ∙ filter-append (λ (e : LogEntry). e.container == slot) first rest

  -- the first fetch's entries are all of its slot
  left_first : Each (λ (t : Task). f.task.slot < t.slot) (slots_of fs) → Leaves history w (is_whole last fs) f first → AllLeave history w last fs rest → IsLeft history w f.task.slot last f es
  left_first above leaves more = (
    is_whole last fs,
    whole_last last fs,
    subst (λ (l : List LogEntry). Leaves history w (is_whole last fs) f l)
        (sym (split f.task.slot ∙ ap (λ (l : List LogEntry). l ++ of_container f.task.slot rest) (all_of w f.task.slot first leaves.own)
        ∙ ap (λ (l : List LogEntry). first ++ l) (none_left history w f.task.slot last fs rest (apart f f.task.slot fs refl above) more) ∙ append-nil first)) leaves,
  )

  -- and none of another's
  left_other : (g : Fetch) → (f.task.slot ≡ g.task.slot → ⊥) → Leaves history w (is_whole last fs) f first → IsLeft history w g.task.slot last g rest → IsLeft history w g.task.slot last g es
  left_other g other leaves (whole, so, left) = (
    whole,
    so,
    subst (λ (l : List LogEntry). Leaves history w whole g l)
        (sym (split g.task.slot ∙ ap (λ (l : List LogEntry). l ++ of_container g.task.slot rest) (none_of w f.task.slot g.task.slot first other leaves.own))) left,
  )

-- each of one worker's fetches leaves the entries of its slot
each_left : (history : List LogEntry) (w : ℕ) (last : Bool) (fs : List Fetch) (es : List LogEntry) → AreAscending (slots_of fs) → AllLeave history w last fs es → (g : Fetch) → Has g fs → IsLeft history w g.task.slot last g es
each_left history w last [] es asc h g has = absurd has
each_left history w last (f ∷ fs) es (above, asc) (first, rest, is, leaves, more) g (inl same) =
    subst (λ (x : Fetch). IsLeft history w x.task.slot last x es) same (left_first history w last f fs es first rest is above leaves more)
each_left history w last (f ∷ fs) es (above, asc) (first, rest, is, leaves, more) g (inr has) =
    let far = has_above f.task.slot fs g above has in
    left_other history w last f fs es first rest is g (λ same. omega (arith, far, same)) leaves (each_left history w last fs rest asc more g has)

-- slots of a worker are its own
kept_own : (P : Task → Type 0) (t : Bool) (task : Task) (tasks : List Task) → (t ≡ true → P task) → Each P tasks → Each P (cond t (task ∷ tasks) tasks)
kept_own P true task tasks one more = (one refl, more)
kept_own P false task tasks one more = more

abbrev IsOwn : ℕ → ℕ → Task → Type 0
IsOwn workers w task = task.slot % workers ≡ w

each_own : (workers w : ℕ) (all : List Task) → Each (IsOwn workers w) (own_tasks workers w all)
each_own workers w [] = tt
each_own workers w (task ∷ all) =
    kept_own (IsOwn workers w) (task.slot % workers == w) task (own_tasks workers w all) (λ h. eqb-true (task.slot % workers) w h) (each_own workers w all)

has_each : (P : Task → Type 0) (fs : List Fetch) (f : Fetch) → Each P (slots_of fs) → Has f fs → P f.task
has_each P [] f h has = absurd has
has_each P (g ∷ fs) f (one, more) (inl same) = subst (λ (x : Fetch). P x.task) same one
has_each P (g ∷ fs) f (one, more) (inr has) = has_each P fs f more has

module _ (workers : ℕ) (all : List Task) (history : List LogEntry) (w : ℕ) (short : Bool) (mine : List LogEntry) (b a : Account) (done : HasFetched history w (own_tasks workers w all) short mine b a) where
  own_fetch : (f : Fetch) → Has f done.fetches → f.task.slot % workers ≡ w
  own_fetch f has = has_each (IsOwn workers w) done.fetches f (fetched_first (λ ts. Each (IsOwn workers w) ts) history w workers all short mine b a done (each_one (IsOwn workers w)) (each_own workers w all)) has

  fetched_ascend : AreAscending all → AreAscending (slots_of done.fetches)
  fetched_ascend asc = fetched_first (λ ts. AreAscending ts) history w workers all short mine b a done ascend_first (ascend_some (λ (t : Task). t.slot % workers == w) all asc)

-- the slots of workers from a number on are of these
from_on : (workers n : ℕ) (all : List Task) (entries : List LogEntry) (olds news : List Account) (fetches : List Fetch) (short : Bool) → HaveFetched workers all entries n olds news fetches short
    → (f : Fetch) → Has f fetches → n ≤ f.task.slot % workers
from_on workers n all entries [] [] fetches short have f has = absurd (subst (λ (l : List Fetch). Has f l) have.0 has)
from_on workers n all entries [] (a ∷ news) fetches short have f has = absurd have
from_on workers n all entries (b ∷ olds) [] fetches short have f has = absurd have
from_on workers n all entries (b ∷ olds) (a ∷ news) fetches short (one, more, rest, done, have, is, shorts) f has =
    elim (has_in done.fetches rest f (subst (λ (l : List Fetch). Has f l) is has)) [
      | inl here ↦ (let at = own_fetch workers all entries n one (own (λ e. e.worker) n entries) b a done f here in omega (arith, at))
      | inr there ↦ (let far = from_on workers (n + 1) all entries olds news rest more have f there in omega (arith, far))
    ]

-- one worker's share of what all did
record IsShare (workers : ℕ) (all : List Task) (entries : List LogEntry) (w : ℕ) (fetches : List Fetch) (short : Bool) : Type 0 where
  pub last : Bool
  pub own_fetches : List Fetch
  pub is_last : short ≡ false → last ≡ true
  pub ascend : AreAscending (slots_of own_fetches)
  pub left : AllLeave entries w last own_fetches (own (λ e. e.worker) w entries)
  pub among : (f : Fetch) → Has f own_fetches → Has f fetches
  pub back : (f : Fetch) → Has f fetches → f.task.slot % workers ≡ w → Has f own_fetches

share_of : (workers w n : ℕ) (all : List Task) (entries : List LogEntry) (olds news : List Account) (fetches : List Fetch) (short : Bool) → AreAscending all → n ≤ w → w < n + length olds
    → HaveFetched workers all entries n olds news fetches short → IsShare workers all entries w fetches short
share_of workers w n all entries [] [] fetches short asc low high have = absurd (omega (arith, low, high))
share_of workers w n all entries [] (a ∷ news) fetches short asc low high have = absurd have
share_of workers w n all entries (b ∷ olds) [] fetches short asc low high have = absurd have
share_of workers w n all entries (b ∷ olds) (a ∷ news) fetches short asc low high (one, more, rest, done, have, is, shorts) =
    on (cases_eq n w) (λ lo hi. share_of workers w (n + 1) all entries olds news rest more asc lo hi have)
  where
    parts : (f : Fetch) → Has f fetches → Has f done.fetches ⊎ Has f rest
    parts f has = has_in done.fetches rest f (subst (λ (l : List Fetch). Has f l) is has)

    joined : (f : Fetch) → Has f (done.fetches ++ rest) → Has f fetches
    joined f has = subst (λ (l : List Fetch). Has f l) (sym is) has

    mine : IsShare workers all entries n fetches short
    mine = record {
      last = not one;
      own_fetches = done.fetches;
      is_last = λ h. sym (still_whole one (or_left one more (sym shorts ∙ h)));
      ascend = fetched_ascend workers all entries n one (own (λ e. e.worker) n entries) b a done asc;
      left = done.left;
      among = λ f has. joined f (has_left done.fetches rest f has);
      back = λ f has at. elim (parts f has) [
        | inl here ↦ here
        | inr there ↦ absurd (let far = from_on workers (n + 1) all entries olds news rest more have f there in omega (arith, far, at))
      ];
    }

    others : (n ≡ w → ⊥) → IsShare workers all entries w rest more → IsShare workers all entries w fetches short
    others other s = record {
      last = s.last;
      own_fetches = s.own_fetches;
      is_last = λ h. s.is_last (or_right one more (sym shorts ∙ h));
      ascend = s.ascend;
      left = s.left;
      among = λ f has. joined f (has_right done.fetches rest f (s.among f has));
      back = λ f has at. elim (parts f has) [
        | inl here ↦ absurd (other (sym (own_fetch workers all entries n one (own (λ e. e.worker) n entries) b a done f here) ∙ at))
        | inr there ↦ s.back f there at
      ];
    }

    on : (n ≡ w) ⊎ (n ≡ w → ⊥) → (n + 1 ≤ w → w < n + 1 + length olds → IsShare workers all entries w rest more) → IsShare workers all entries w fetches short
    on (inl same) rec = subst (λ (k : ℕ). IsShare workers all entries k fetches short) same mine
    on (inr other) rec = others other (rec (omega (arith, low, other)) (omega (arith, high)))

pub no_others : NoOtherLines
no_others book all olds news fetches short is_book same asc have = (by_fetch, by_none)
  where
    below : (slot : ℕ) → slot % book.workers < 0 + length olds
    below slot = let some = is_book.some in let less = mod_below slot book.workers some in omega (arith, less, same)

    share : (slot : ℕ) → IsShare book.workers all book.entries (slot % book.workers) fetches short
    share slot = share_of book.workers (slot % book.workers) 0 all book.entries olds news fetches short asc (omega arith) (below slot) have

    whole_own : (slot : ℕ) → of_container slot (own (λ e. e.worker) (slot % book.workers) book.entries) ≡ of_container slot book.entries
    whole_own slot = own_are_all book.slots book.workers slot (slot % book.workers) book.entries is_book.each refl

    by_fetch : (f : Fetch) → Has f fetches → (whole : Bool) × (short ≡ false → whole ≡ true) × Leaves book.entries (f.task.slot % book.workers) whole f (of_container f.task.slot book.entries)
    by_fetch f has =
        let s = share f.task.slot in
        let left = each_left book.entries (f.task.slot % book.workers) s.last s.own_fetches (own (λ e. e.worker) (f.task.slot % book.workers) book.entries) s.ascend s.left f (s.back f has refl) in (
          left.0,
          λ h. left.1 (s.is_last h),
          subst (λ (l : List LogEntry). Leaves book.entries (f.task.slot % book.workers) left.0 f l) (whole_own f.task.slot) left.2,
        )

    each_not : (slot : ℕ) (fs : List Fetch) → ((f : Fetch) → Has f fs → f.task.slot ≡ slot → ⊥) → Each (λ (f : Fetch). f.task.slot ≡ slot → ⊥) fs
    each_not slot [] h = tt
    each_not slot (f ∷ fs) h = (h f (inl refl), each_not slot fs (λ g has. h g (inr has)))

    by_none : (slot : ℕ) → ((f : Fetch) → Has f fetches → f.task.slot ≡ slot → ⊥) → of_container slot book.entries ≡ []
    by_none slot none =
        let s = share slot in
        sym (whole_own slot)
        ∙ none_left book.entries (slot % book.workers) slot s.last s.own_fetches (own (λ e. e.worker) (slot % book.workers) book.entries) (each_not slot s.own_fetches (λ f has. none f (s.among f has))) s.left
