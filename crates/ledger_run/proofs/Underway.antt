-- The worker is on its way: what holds between two of its turns, and once it has left.
use Rattle.std.proofs.Common.{◌≡◌, ℕ, ◌+◌, ◌*◌, ◌<◌, ◌≤◌, Bool, true, false, List, [], ◌∷◌, length, reverse, Option, Some, None, if◌then◌else◌, refl, sym, ap, ◌∙◌, subst, arith}
use Rattle.std.proofs.lemmas.List.{length-append, length-reverse}
use Rattle.std.specs.Prelude.{◌==◌, is_some}
use Rattle.engine_types.specs.declared.Entry.{Entry}
use Rattle.engine_types.specs.declared.Observed.{Observed}
use Rattle.outside_api.specs.Clock.{Clock}
use Rattle.run_model.specs.Journals.{has_left, holding, is_ending, seen_in}
use Rattle.run_model.specs.Logs.{asks, asks_unstopped, is_ask_of, pauses, was_stopped}
use Rattle.journal_laws.specs.Courses.{Course, MayStop, entries}
use Rattle.ledger_run.specs.Tellings.{Telling}
use Rattle.ledger_run.specs.Timing.{HasRoom, IsTimed, readings_for}
use Rattle.ledger_run.specs.Turns.{MayUse, Turns}
use Rattle.ledger_run.specs.Works.{EndsByLeaving, HasOnlySeen}
use Rattle.ledger_run.proofs.Calm.{calm}
use Rattle.ledger_run.proofs.Coming.{Came, came_on, came_still}
use Rattle.ledger_run.proofs.Doing.{HasLeft, WentOn, gone, goes}
use Rattle.ledger_run.proofs.Heeding.{Heeded, has_heeded}

-- between two turns
pub record Underway (deadline : Option ℕ) (old now : Course) (before after : Telling) : Type 0 where
  pub came : Came old now before after
  pub timed : IsTimed deadline (entries now) before.clock after.clock
  pub on : is_ending (entries now) ≡ false
  pub here : has_left (entries now) 0 ≡ false
  pub short : length (entries now) ≤ 1000001

-- the worker has left
pub record HasCome (deadline : Option ℕ) (old new : Course) (before after : Telling) : Type 0 where
  pub came : Came old new before after
  pub timed : IsTimed deadline (entries new) before.clock after.clock
  pub left : has_left (entries new) 0 ≡ true
  pub ends : EndsByLeaving new.journal

-- what it began with
pub record HasBegun (deadline : Option ℕ) (old : Course) (before : Telling) : Type 0 where
  pub seen : HasOnlySeen old.journal
  pub workers : 0 < old.limits.workers
  pub limits : old.limits.deadline ≡ deadline
  pub room : HasRoom before.clock

asks_most : (past : List Entry) → asks past 0 ≤ length past
asks_most [] = omega arith
asks_most (entry ∷ past) = by (is_ask_of 0 entry) (asks_most past)
  where
    by : (t : Bool) → asks past 0 ≤ length past → (if t then asks past 0 + 1 else asks past 0) ≤ length (entry ∷ past)
    by true l = omega (arith, l)
    by false l = omega (arith, l)

unstopped_most : (past : List Entry) → asks_unstopped past 0 ≤ length past
unstopped_most [] = omega arith
unstopped_most (entry ∷ past) = by (was_stopped past 0) (is_ask_of 0 entry) (unstopped_most past)
  where
    by : (b t : Bool) → asks_unstopped past 0 ≤ length past → (if b then asks_unstopped past 0 else (if t then asks_unstopped past 0 + 1 else asks_unstopped past 0)) ≤ length (entry ∷ past)
    by true t l = omega (arith, l)
    by false true l = omega (arith, l)
    by false false l = omega (arith, l)

pauses_most : (past : List Entry) → pauses past 0 ≤ 500 * length past
pauses_most [] = omega arith
pauses_most (Entry.Idle v ∷ past) = by (v == 0) (pauses_most past)
  where
    by : (t : Bool) → pauses past 0 ≤ 500 * length past → (if t then pauses past 0 + 250 else pauses past 0) ≤ 500 * length (Entry.Idle v ∷ past)
    by true l = omega (arith, l)
    by false l = omega (arith, l)
pauses_most (Entry.Poll v s ∷ past) = by (v == 0) (pauses_most past)
  where
    by : (t : Bool) → pauses past 0 ≤ 500 * length past → (if t then pauses past 0 + 500 else pauses past 0) ≤ 500 * length (Entry.Poll v s ∷ past)
    by true l = omega (arith, l)
    by false l = omega (arith, l)
pauses_most (entry ∷ past) = let l : pauses past 0 ≤ 500 * length past = pauses_most past in omega (arith, l)

readings_most : (deadline : Option ℕ) (n : ℕ) → readings_for deadline n ≤ n
readings_most None n = omega arith
readings_most (Some deadline) n = omega arith

only_seen : (deadline : Option ℕ) (observation : Observed) (clock : Clock) → IsTimed deadline (Entry.Seen observation ∷ []) clock clock
only_seen None observation clock = record { looks = omega arith; stops = omega arith; paused = omega arith; readings = omega arith; first = λ some. refl; place = λ made e. e; late = refl }
only_seen (Some deadline) observation clock = record { looks = omega arith; stops = omega arith; paused = omega arith; readings = omega arith; first = λ some. refl; place = λ made e. e; late = refl }

module _ (deadline : Option ℕ) (old : Course) (before : Telling) (b : HasBegun deadline old before) where
  at : entries old ≡ Entry.Seen b.seen.observation ∷ []
  at = ap (λ (j : List Entry). reverse j) b.seen.only

  begun : is_some (seen_in (entries old)) ≡ true
  begun = ap (λ (past : List Entry). is_some (seen_in past)) at ∙ saw
    where
      saw : is_some (seen_in (Entry.Seen b.seen.observation ∷ [])) ≡ true
      saw = rw b.seen.good refl

  -- where the observation alone is entered
  pub starts : Underway deadline old old before before
  starts = record {
    came = came_still old before before begun (λ w. ap (λ (past : List Entry). holding past w) at) refl refl;
    timed = subst (λ (past : List Entry). IsTimed deadline past before.clock before.clock) (sym at) (only_seen deadline b.seen.observation before.clock);
    on = ap is_ending at;
    here = ap (λ (past : List Entry). has_left past 0) at;
    short = let n = ap (λ (past : List Entry). length past) at in omega (arith, n);
  }

  module _ (now : Course) (after : Telling) (way : Underway deadline old now before after) where
    pub same_limits : now.limits.deadline ≡ deadline
    same_limits = ap (λ (run : Course). run.limits.deadline) way.came.grown_by ∙ b.limits

    -- the worker may be stopped, and ask
    pub may_stop : MayStop now 0
    may_stop = record {
      ready = record {
        begun = way.came.begun;
        below = let e = ap (λ (run : Course). run.limits.workers) way.came.grown_by in let w = b.workers in omega (arith, e, w);
        idle = way.came.idle 0;
        here = way.here;
      };
      first_time = (calm (entries now) 0 way.on).first_time;
    }

    -- its clock may be used once more
    pub may_use : MayUse after.clock
    may_use = record {
      looks = let t = way.timed.looks in let m = asks_most (entries now) in let l = b.room.looks in let s = way.short in omega (arith, t, m, l, s);
      readings =
          let t = way.timed.readings in let m = unstopped_most (entries now) in let r = readings_most deadline (asks_unstopped (entries now) 0) in let l = b.room.readings in let s = way.short in
          omega (arith, t, m, r, l, s);
      paused = let t = way.timed.paused in let m = pauses_most (entries now) in let l = b.room.paused in let s = way.short in omega (arith, t, m, l, s);
    }

    module _ (new : Course) (then_told : Telling) (goes_so : Bool) (turn : Turns deadline now after new then_told goes_so) where
      ready_now : Heeded deadline now turn.mid after turn.between before.clock
      ready_now = has_heeded deadline now turn.mid after turn.between before.clock may_stop way.came.idle way.on same_limits way.timed turn.heeds

      -- one turn more, after which it goes on
      pub on_turn : goes_so ≡ true → Underway deadline old new before then_told × (length (entries now) < length (entries new))
      on_turn g = (
        record {
          came = came_on old now new before after then_told way.came (came_on now turn.mid new after turn.between then_told ready_now.came went.came);
          timed = went.timed;
          on = went.on ∙ went.going.on;
          here = went.here ∙ ready_now.ready.here;
          short = let n = went.short in let l = went.going.short in omega (arith, n, l);
        },
        let n = went.longer in let m = not_shorter in omega (arith, n, m),
      )
        where
          went : WentOn deadline turn.mid new turn.between then_told before.clock
          went = goes deadline turn.mid turn.between then_told before.clock ready_now.ready ready_now.came.idle ready_now.readied turn.acts.deed new turn.acts.does (sym turn.acts.going ∙ g)

          not_shorter : length (entries now) ≤ length (entries turn.mid)
          not_shorter =
              let e = ap (λ (run : Course). length run.journal) ready_now.came.grown_by in
              let a = length-append now.journal ready_now.came.added in
              let l = length-reverse now.journal in
              let m = length-reverse turn.mid.journal in
              omega (arith, e, a, l, m)

      -- the last turn
      pub last_turn : goes_so ≡ false → HasCome deadline old new before then_told
      last_turn g = record {
        came = came_on old now new before after then_told way.came (came_on now turn.mid new after turn.between then_told ready_now.came went.came);
        timed = went.timed;
        left = went.left;
        ends = went.ends;
      }
        where
          went : HasLeft deadline turn.mid new turn.between then_told before.clock
          went = gone deadline turn.mid turn.between then_told before.clock ready_now.ready ready_now.came.idle ready_now.readied turn.acts.deed new turn.acts.does (sym turn.acts.going ∙ g)
