-- A run from how it opened on, with all its hands.
use Rattle.std.proofs.Common.{◌≡◌, ◌⊎◌, ℕ, zero, suc, ◌+◌, ◌<◌, ◌≤◌, Bool, true, false, List, [], ◌∷◌, length, get_or, Option, None, Some, reverse, refl, sym, ap, ◌∙◌, subst, inl, inr, arith}
use Rattle.std.specs.Prelude.{All, ◌&&◌}
use Rattle.engine_types.specs.declared.Aim.{Aim}
use Rattle.engine_types.specs.declared.Declared.{Declared}
use Rattle.engine_types.specs.declared.Entry.{Entry}
use Rattle.engine_types.specs.declared.Observed.{Observed}
use Rattle.engine_types.specs.declared.Plan.{Plan}
use Rattle.engine_types.specs.declared.RunLimits.{RunLimits}
use Rattle.journal_laws.specs.Courses.{setup_of}
use Rattle.ledger_core.specs.Beginning.{MayBegin, begun, run_of}
use Rattle.ledger_run.specs.Tellings.{Telling}
use Rattle.ledger_run.specs.Timing.{HasRoom}
use Rattle.outside_api.specs.Clock.{Clock, new_clock}
use Rattle.parallel_run.specs.Together.{AreCarriedOut, HasRun, IsUnbegun, IsWorkedOn, LeavesTogether, OpensWith, first_reading}
use Rattle.parallel_run.proofs.Bad.{bad_first, bad_left, bad_others, bad_run}
use Rattle.parallel_run.proofs.Joined as well
use Rattle.plan_core.specs.Order.{HasNoCycle}
use Rattle.project_run.proofs.Beginning.{may_begin}
use Rattle.project_run.proofs.Leaving.{opens_short}
use Rattle.project_run.proofs.Timed as clocks
use Rattle.project_run.specs.Carrying.{cut_short}
use Rattle.project_run.specs.Opening.{HasEndedBadly, Opens}
use Rattle.project_run.specs.Options.{bounded, clock_begun, limits_in}
use Rattle.project_run.specs.Whole.{task_of}
use Rattle.project_run.specs.declared.opening.Opening.{Opening}
use Rattle.engine_types.specs.declared.RunOptions.{RunOptions}
use Rattle.run_laws.specs.Orders.{NeedsDependencies}
use Rattle.run_model.specs.Journals.{Setup}
use Rattle.run_model.specs.Plans.{HasSmallNumbers, IsWhole}
use Rattle.run_model.specs.Runs.{Task, run_setup}
use Rattle.tree_base.specs.Limits.{most_workers}
use Rattle.worker_pool.specs.Crew.{EachPair, HasDone}

-- the same limits for one worker
abbrev alone : RunLimits → RunLimits
alone limits = record limits { workers = 1 }

-- a run may begin that opened so, with 1 to 16 workers
pub may_begin_with : (declared : Declared) (aim : Aim) (observed : Observed) (plan : Plan) (bounds limits : RunLimits) (before now : Telling)
    → IsWhole declared → HasSmallNumbers declared → HasNoCycle declared → NeedsDependencies declared → Opens declared aim (Opening.Planned observed plan) before now
    → 0 < bounds.workers → bounds.workers ≤ most_workers → limits ≡ bounded aim bounds → MayBegin declared observed plan limits
may_begin_with declared aim observed plan bounds limits before now whole small acyclic needs opens some few bound =
    let one = may_begin declared aim observed plan (alone bounds) (alone limits) before now whole small acyclic needs opens refl (ap alone bound) in record {
      aim = one.aim;
      seen = one.seen;
      good = one.good;
      was_observed = one.was_observed;
      whole = one.whole;
      has_plan = one.has_plan;
      orderly = one.orderly;
      kept = one.kept;
      waits_up = one.waits_up;
      some_worker = let n : limits.workers ≡ bounds.workers = ap (λ (l : RunLimits). l.workers) bound in omega (arith, n, some);
      few_workers = let n : limits.workers ≡ bounds.workers = ap (λ (l : RunLimits). l.workers) bound in omega (arith, n, few);
    }

module _ {H : Type 0} (tell : H → Telling) (declared : Declared) (aim : Aim) (bounds : RunLimits) (hands opened : List H) (some : 0 < length hands)
    (unused : All (λ h. (tell h).clock ≡ new_clock) hands) where
  abbrev task : Task
  task = task_of declared aim bounds

  -- there is still a hand
  pub some_left : (opening : Opening) → OpensWith tell declared aim bounds opening hands opened → 0 < length opened
  some_left opening o = let long : length opened ≡ length (o.opened ∷ o.others) = ap (λ (l : List H). length l) o.are in omega (arith, long)

  -- a run that ended with its observation
  pub ended_badly : (observed : Observed) → OpensWith tell declared aim bounds (Opening.Ended observed) hands opened → HasEndedBadly observed
  ended_badly observed o = o.opens.follows

  pub ends_badly : (observed : Observed) → OpensWith tell declared aim bounds (Opening.Ended observed) hands opened → LeavesTogether tell task (Entry.Seen observed ∷ []) hands opened
  ends_badly observed o = subst (λ (after : List H). LeavesTogether tell task (Entry.Seen observed ∷ []) hands after) (sym o.are) (record {
    run = bad_run declared aim bounds observed o.clock (tell o.first) (tell o.opened) fresh o.read o.opens;
    left = bad_left declared aim bounds observed o.clock (tell o.first) (tell o.opened) fresh o.read o.opens;
    begun = (Entry.Seen observed, [], refl);
    hands = subst (λ (before : List H). EachPair (λ n x y. HasRun task (Entry.Seen observed ∷ []) n (tell x) (tell y)) 0 before (o.opened ∷ o.others)) (sym o.were)
        (bad_first declared aim bounds observed o.clock (tell o.first) (tell o.opened) fresh o.read o.opens, bad_others declared aim bounds observed o.clock (tell o.first) (tell o.opened) fresh o.read o.opens tell 1 o.others (omega arith));
  })
    where
      fresh : (tell o.first).clock ≡ new_clock
      fresh = subst (λ (hs : List H). All (λ h. (tell h).clock ≡ new_clock) hs) o.were unused 0 o.first (omega arith)

  -- a run that opened with a plan
  module _ (limits : RunLimits) (bound : limits ≡ bounded aim bounds) (many : bounds.workers ≡ length hands) (observed : Observed) (plan : Plan) (whole : IsWhole declared) (small : HasSmallNumbers declared) (acyclic : HasNoCycle declared) (needs : NeedsDependencies declared) (few : length hands ≤ most_workers)
      (o : OpensWith tell declared aim bounds (Opening.Planned observed plan) hands opened) where
    fresh : (tell o.first).clock ≡ new_clock
    fresh = subst (λ (hs : List H). All (λ h. (tell h).clock ≡ new_clock) hs) o.were unused 0 o.first (omega arith)

    pub may_begin_so : MayBegin declared observed plan limits
    may_begin_so = may_begin_with declared aim observed plan bounds limits (record (tell o.first) { clock = o.clock }) (tell o.opened) whole small acyclic needs o.opens (omega (arith, some, many)) (omega (arith, few, many)) bound

    pub as_many : limits.workers ≡ length opened
    as_many = ap (λ (l : RunLimits). l.workers) bound ∙ (many ∙ (ap (λ (l : List H). length l) o.were ∙ sym (ap (λ (l : List H). length l) o.are)))

    pub have_room : All (λ h. HasRoom (tell h).clock) opened
    have_room = subst (λ (l : List H). All (λ h. HasRoom (tell h).clock) l) (sym o.are) rooms
      where
        fresh_all : All (λ h. (tell h).clock ≡ new_clock) (o.first ∷ o.others)
        fresh_all = subst (λ (hs : List H). All (λ h. (tell h).clock ≡ new_clock) hs) o.were unused

        rooms : All (λ h. HasRoom (tell h).clock) (o.opened ∷ o.others)
        rooms zero d l = clocks.has_room bounds.deadline (length (tell o.first).log) o.clock.first (tell o.opened).clock (o.opens.timed ∙ o.read)
        rooms (suc k) d l = clocks.has_room None 0 0 (tell (get_or o.others k d)).clock (fresh_all (suc k) d (omega (arith, l)))

    -- there was no memory to begin it: it has ended with its observation
    short : OpensWith tell declared aim bounds (Opening.Ended (cut_short observed.exchanges)) hands opened
    short = record {
      first = o.first;
      opened = o.opened;
      others = o.others;
      were = o.were;
      are = o.are;
      clock = o.clock;
      read = o.read;
      opens = opens_short declared aim observed plan (record (tell o.first) { clock = o.clock }) (tell o.opened) o.opens;
    }

    module _ (journal : List Entry) (after : List H) where
      -- it was worked on until each worker left
      worked_well : IsWorkedOn tell (begun declared observed plan limits) journal opened after → LeavesTogether tell task journal hands after
      worked_well w = by after (subst (λ (l : List H). EachPair (λ n x y. HasDone n limits.deadline (begun declared observed plan limits) (run_of declared plan limits journal) (tell x) (tell y)) 0 l after) o.are w.hands)
        where
          by : (l : List H) → EachPair (λ n x y. HasDone n limits.deadline (begun declared observed plan limits) (run_of declared plan limits journal) (tell x) (tell y)) 0 (o.opened ∷ o.others) l
              → LeavesTogether tell task journal hands l
          by [] each = absurd each
          by (y ∷ ys) each = record {
            run = well.run declared aim bounds limits observed plan journal o.clock (tell o.first) (tell o.opened) (tell y) fresh o.read bound may_begin_so o.opens o.opens.follows.0 o.opens.follows.1 o.opens.follows.2 w.more w.legal w.left each.0;
            left = well.left declared aim bounds limits observed plan journal o.clock (tell o.first) (tell o.opened) (tell y) fresh o.read bound may_begin_so o.opens o.opens.follows.0 o.opens.follows.1 o.opens.follows.2 w.more w.legal w.left each.0;
            begun = well.begins declared aim bounds limits observed plan journal o.clock (tell o.first) (tell o.opened) (tell y) fresh o.read bound may_begin_so o.opens o.opens.follows.0 o.opens.follows.1 o.opens.follows.2 w.more w.legal w.left each.0;
            hands = subst (λ (before : List H). EachPair (λ n a b. HasRun task journal n (tell a) (tell b)) 0 before (y ∷ ys)) (sym o.were) (
              well.first_ran declared aim bounds limits observed plan journal o.clock (tell o.first) (tell o.opened) (tell y) fresh o.read bound may_begin_so o.opens o.opens.follows.0 o.opens.follows.1 o.opens.follows.2 w.more w.legal w.left each.0,
              well.others_ran declared aim bounds limits observed plan journal o.clock (tell o.first) (tell o.opened) (tell y) fresh o.read bound may_begin_so o.opens o.opens.follows.0 o.opens.follows.1 o.opens.follows.2 w.more w.legal w.left each.0 tell 1 o.others ys (omega arith) each.1,
            );
          }

      worked_short : IsUnbegun observed journal opened after → LeavesTogether tell task journal hands after
      worked_short u = subst (λ (js : List Entry). LeavesTogether tell task js hands after) (sym u.only)
          (subst (λ (l : List H). LeavesTogether tell task (Entry.Seen (cut_short observed.exchanges) ∷ []) hands l) (sym u.alone) (ends_badly (cut_short observed.exchanges) short))

      pub leaves_together : AreCarriedOut tell declared observed plan limits journal opened after → LeavesTogether tell task journal hands after
      leaves_together (inl worked) = worked_well worked
      leaves_together (inr unbegun) = worked_short unbegun

      -- what is told of it is said of the task
      pub of_task : {X : Type 0} (say : Setup → List Entry → X) → ((setup other : Setup) → say setup (Entry.Seen (cut_short observed.exchanges) ∷ []) ≡ say other (Entry.Seen (cut_short observed.exchanges) ∷ []))
          → AreCarriedOut tell declared observed plan limits journal opened after
          → say (setup_of (run_of declared plan limits journal)) (reverse journal) ≡ say (run_setup task journal) (reverse journal)
      of_task say any (inl w) = by after (subst (λ (l : List H). EachPair (λ n x y. HasDone n limits.deadline (begun declared observed plan limits) (run_of declared plan limits journal) (tell x) (tell y)) 0 l after) o.are w.hands)
        where
          by : (l : List H) → EachPair (λ n x y. HasDone n limits.deadline (begun declared observed plan limits) (run_of declared plan limits journal) (tell x) (tell y)) 0 (o.opened ∷ o.others) l
              → say (setup_of (run_of declared plan limits journal)) (reverse journal) ≡ say (run_setup task journal) (reverse journal)
          by [] each = absurd each
          by (y ∷ ys) each = ap (λ (setup : Setup). say setup (reverse journal))
              (well.same_setup declared aim bounds limits observed plan journal o.clock (tell o.first) (tell o.opened) (tell y) fresh o.read bound may_begin_so o.opens o.opens.follows.0 o.opens.follows.1 o.opens.follows.2 w.more w.legal w.left each.0)
      of_task say any (inr u) = rw u.only (any (setup_of (run_of declared plan limits (Entry.Seen (cut_short observed.exchanges) ∷ [])))
          (run_setup task (Entry.Seen (cut_short observed.exchanges) ∷ [])))

      -- the limits are set by the first reading that hand 0 tells in the end, where they aren't given
      pub limits_last : (options : RunOptions) (given : Option RunLimits) → bounds ≡ limits_in (length hands) options given (first_reading (λ h. (tell h).clock) opened) → AreCarriedOut tell declared observed plan limits journal opened after
          → bounds ≡ limits_in (length hands) options given (first_reading (λ h. (tell h).clock) after)
      limits_last options given set (inr u) = subst (λ (l : List H). bounds ≡ limits_in (length hands) options given (first_reading (λ h. (tell h).clock) l)) (sym u.alone) set
      limits_last options given set (inl w) = by after (subst (λ (l : List H). EachPair (λ n x y. HasDone n limits.deadline (begun declared observed plan limits) (run_of declared plan limits journal) (tell x) (tell y)) 0 l after) o.are w.hands)
        where
          at_first : bounds ≡ limits_in (length hands) options given (tell o.opened).clock.first
          at_first = subst (λ (l : List H). bounds ≡ limits_in (length hands) options given (first_reading (λ h. (tell h).clock) l)) o.are set

          has_begun : (tell o.opened).clock ≡ clock_begun bounds.deadline (length (tell o.first).log) (tell o.opened).clock.first
          has_begun = subst (λ (c : Clock). c ≡ clock_begun bounds.deadline (length (tell o.first).log) c.first) (sym o.opens.timed) o.read

          by : (l : List H) → EachPair (λ n x y. HasDone n limits.deadline (begun declared observed plan limits) (run_of declared plan limits journal) (tell x) (tell y)) 0 (o.opened ∷ o.others) l
              → bounds ≡ limits_in (length hands) options given (first_reading (λ h. (tell h).clock) l)
          by [] each = absurd each
          by (y ∷ ys) each = clocks.limits_stay options (length hands) given (length (tell o.first).log) (tell o.opened).clock (tell y).clock bounds at_first has_begun each.0.timed.first
