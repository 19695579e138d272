-- The runs of a call, step by step.
use Rattle.std.proofs.Common.{◌≡◌, ◌⊎◌, ◌<◌, ◌+◌, ◌^◌, ℕ, true, false, List, [], ◌∷◌, ◌++◌, Option, None, Some, length, refl, sym, ap, ◌∙◌, subst, inl, inr, arith}
use Rattle.std.proofs.lemmas.List.{length_push}
use Rattle.std.specs.Option.{ForSome}
use Rattle.std.specs.Prelude.{IfSome}
use Rattle.compose_cli.specs.Ends.{CountsHands}
use Rattle.compose_cli.specs.Runs.{first_reading}
use Rattle.compose_cli.specs.declared.Ended.{Ended}
use Rattle.engine_types.specs.declared.Aim.{Aim}
use Rattle.engine_types.specs.declared.Declared.{Declared}
use Rattle.engine_types.specs.declared.Request.{Request}
use Rattle.engine_types.specs.declared.RunLimits.{RunLimits}
use Rattle.engine_types.specs.declared.RunOptions.{RunOptions}
use Rattle.ledger_run.specs.Tellings.{Telling}
use Rattle.name_conflicts.specs.Looks.{HasLooked}
use Rattle.name_conflicts.specs.declared.LookEnd.{LookEnd}
use Rattle.outside_api.specs.Clock.{new_clock}
use Rattle.outside_api.specs.declared.dial.Dial.{Dial}
use Rattle.outside_files.specs.Counts.{Rose}
use Rattle.outside_files.specs.Sinks.{GrewBy}
use Rattle.plan_core.specs.Order.{HasNoCycle}
use Rattle.project_run.specs.Whole.{task_of}
use Rattle.refusals.specs.declared.Refusal.{Refusal}
use Rattle.repeated_runs.proofs.Chains.{apart_more, first_by, made_more, same_first}
use Rattle.repeated_runs.proofs.Short.{one_short}
use Rattle.repeated_runs.specs.Attempts.{AreAttempts, AreMadeAgain, AsksOnce, IsMadeAgain, IsOneLook, IsOneRun, Stands, StandsUnasked, StandsUndialled, StandsUnlooked, first_hands, most_runs}
use Rattle.repeated_runs.specs.Conflicts.{AreApart, conflict_of, was_repeated_for}
use Rattle.repeated_runs.specs.Followings.{Follows, LooksSo, Underway, shortened, task_by}
use Rattle.repeated_runs.specs.Moments.{Moment}
use Rattle.repeated_runs.specs.Onces.{IsLeft, WritesWhole}
use Rattle.repeated_runs.specs.Steps.{IsFit}
use Rattle.repeated_runs.specs.declared.attempt.Attempt.{Attempt}
use Rattle.repeated_runs.specs.declared.following.Behind.{Behind}
use Rattle.repeated_runs.specs.declared.once.Left.{Left}
use Rattle.repeated_runs.specs.declared.once.Once.{Once}
use Rattle.run_laws.specs.Orders.{NeedsDependencies}
use Rattle.run_model.specs.Plans.{IsWhole}
use Rattle.run_model.specs.Runs.{Task, limits_of, run_report}
use Rattle.world_laws.specs.OwnSpecs.{HasOwnSpecs}

-- one hand more can be counted
pub one_more_far : (first now : Option ℕ) → ForSome first (λ m. m < 2 ^ 61 + 2 ^ 59) → CountsHands first now 1 → ForSome now (λ m. m < 2 ^ 61 + 2 ^ 60)
one_more_far None now told counts m e = let bad : None ≡ Some m = sym counts ∙ e in absurd (cc bad)
one_more_far (Some k) now told counts m e =
    let both : Some (k + 1) ≡ Some m = sym counts ∙ e in let same : k + 1 ≡ m = cc both in let low : k < 2 ^ 61 + 2 ^ 59 = told k refl in omega (arith, same, low)

-- the report of a run that was refused such a create
reported_so : {H : Type 0} (task : Task) (ended : Ended H) (request : Request) (old new : Option (List ℕ)) → conflict_of ended.refusal ≡ Some request → WritesWhole task ended old new → GrewBy old (run_report task ended.journal) new
reported_so task ended request old new conflict (inl none) = let bad : Some request ≡ None = sym conflict ∙ none in absurd (cc bad)
reported_so task ended request old new conflict (inr grew) = grew

-- what is left of a run, where something is
the_left : (declared : Declared) (limits : RunLimits) (found : Option Left) (left : Left) → found ≡ Some left → IfSome found (IsLeft declared limits) → IsLeft declared limits left
the_left declared limits found left is fact = subst (λ (f : Option Left). IfSome f (IsLeft declared limits)) is fact

module _ {H : Type 0} (tell : H → Telling) (Place : ℕ → Dial → Type 0) (workers : ℕ) (declared : Declared) (aim : Aim) (task : Task) (earlier : List (Attempt H)) (once : Once H) (first now : Moment)
    (u : Underway tell Place workers declared aim task earlier once first now) where
  -- a look by what is left is one by the task
  look_by : (left : Left) (is : IsLeft declared task.limits left) (request : Request) (end : LookEnd) (hand : H) (new : Moment)
      → LooksSo tell Place left.declared.project request left.limits.deadline end hand now.dials new.dials now.dialled new.dialled → new.written ≡ now.written → new.out_faults ≡ now.out_faults
      → IsOneLook tell Place task request end hand now new
  look_by left is request end hand new looks written out_faults = record {
    dial = looks.0;
    dialled = looks.1;
    looked = subst (λ (l : RunLimits). HasLooked task.declared.project request l.deadline end [] (tell hand).log new_clock (tell hand).clock) is.limited
        (subst (λ (d : Declared). HasLooked d.project request left.limits.deadline end [] (tell hand).log new_clock (tell hand).clock)
        (is.declares ∙ sym (ap (λ (t : Task). t.declared) u.of_these)) looks.2);
    written = written;
    out_faults = out_faults;
  }

  -- the task of a run of what is left is the same
  same_task : (left : Left) → IsLeft declared task.limits left → task_of left.declared aim left.limits ≡ task
  same_task left is = ap (λ (d : Declared). task_of d aim left.limits) is.declares ∙ (ap (task_of declared aim) is.limited ∙ sym u.of_these)

  module _ (after : List (Attempt H)) (new : Moment) (written : new.written ≡ now.written) (out_faults : new.out_faults ≡ now.out_faults) where
    -- the run is made again
    module _ (left : Left) (next : Once H) (last : Moment)
        (follows : Follows tell Place once earlier after (Behind.Again left) now.dials new.dials now.dialled new.dialled now.plug_faults new.plug_faults)
        (run : IsOneRun tell Place workers (task_of left.declared aim left.limits) next.ended new last)
        (reported : next.whole ≡ true → WritesWhole (task_of left.declared aim left.limits) next.ended new.written last.written)
        (broken : next.whole ≡ false → Rose new.out_faults last.out_faults)
        (remains : IfSome next.left (IsLeft left.declared left.limits)) (lost : next.left ≡ None → conflict_of next.ended.refusal ≡ None) where
      is_left : IsLeft declared task.limits left
      is_left = the_left declared task.limits once.left left follows.1 u.left

      abbrev attempt : Attempt H
      attempt = record { ended = once.ended; looker = follows.5 }

      again : IsMadeAgain tell Place workers task attempt u.before new
      again = record {
        between = now;
        run = u.run;
        reported = reported_so task once.ended follows.2 u.before.written now.written follows.3 (u.reported follows.0);
        request = follows.2;
        conflict = follows.3;
        look = look_by left is_left follows.2 LookEnd.Came follows.5 new follows.7 written out_faults;
      }

      underway_with : Underway tell Place workers declared aim task (earlier ++ attempt ∷ []) next first last
      underway_with = record {
        of_these = u.of_these;
        before = new;
        made = made_more tell Place workers task earlier attempt first u.before new u.made again;
        apart = apart_more attempt follows.2 follows.3 earlier u.apart follows.4;
        run = subst (λ (t : Task). IsOneRun tell Place workers t next.ended new last) (same_task left is_left) run;
        reported = λ whole. subst (λ (t : Task). WritesWhole t next.ended new.written last.written) (same_task left is_left) (reported whole);
        broken = broken;
        left = subst (λ (l : RunLimits). IfSome next.left (IsLeft declared l)) is_left.limited (subst (λ (d : Declared). IfSome next.left (IsLeft d left.limits)) is_left.declares remains);
        lost = lost;
      }

      pub goes_on : Underway tell Place workers declared aim task after next first last × (length after ≡ length earlier + 1) × (first_hands after next.ended ≡ first_hands earlier once.ended)
      goes_on = (
        subst (λ (l : List (Attempt H)). Underway tell Place workers declared aim task l next first last) (sym follows.6) underway_with,
        ap (length {A = Attempt H}) follows.6 ∙ length_push earlier attempt,
        ap (λ (l : List (Attempt H)). first_hands l next.ended) follows.6 ∙ same_first earlier attempt next.ended,
      )

    -- or not
    kept_run : (last : Ended H) → (last ≡ once.ended) ⊎ (last ≡ shortened once.ended) → IsOneRun tell Place workers task last u.before now
    kept_run last (inl same) = subst (λ (l : Ended H). IsOneRun tell Place workers task l u.before now) (sym same) u.run
    kept_run last (inr short) = subst (λ (l : Ended H). IsOneRun tell Place workers task l u.before now) (sym short) (one_short tell task once.ended Place workers u.before now u.run)

    kept_hands : (last : Ended H) → (last ≡ once.ended) ⊎ (last ≡ shortened once.ended) → last.hands ≡ once.ended.hands
    kept_hands last (inl same) = ap (λ (l : Ended H). l.hands) same
    kept_hands last (inr short) = ap (λ (l : Ended H). l.hands) short

    over_by : (last : Ended H) (looker : Option H) → after ≡ earlier → (last ≡ once.ended) ⊎ (last ≡ shortened once.ended) → Stands tell Place task earlier last.refusal looker u.before now new
        → AreAttempts tell Place workers task (record { earlier = after; last = last; looker = looker }) first new × (first_hands after last ≡ first_hands earlier once.ended)
    over_by last looker same kept stands = (
      record {
        before = u.before;
        after = now;
        earlier = subst (λ (l : List (Attempt H)). AreMadeAgain tell Place workers task l first u.before) (sym same) u.made;
        apart = subst (λ (l : List (Attempt H)). AreApart l) (sym same) u.apart;
        last = kept_run last kept;
        stands = subst (λ (l : List (Attempt H)). Stands tell Place task l last.refusal looker u.before now new) (sym same) stands;
      },
      ap (λ (l : List (Attempt H)). first_hands l last) same ∙ first_by earlier last once.ended (kept_hands last kept),
    )

    abbrev Unasked : Option Refusal → Type 0
    Unasked refusal =
        (conflict_of refusal ≡ None) ⊎ (once.whole ≡ false)
        ⊎ ((request : Request) × (conflict_of refusal ≡ Some request) × (was_repeated_for earlier request ≡ true))

    unasked : (refusal : Option Refusal) → Unasked refusal → StandsUnasked earlier refusal u.before now
    unasked refusal (inl none) = inl none
    unasked refusal (inr (inl broken)) = inr (inl (u.broken broken))
    unasked refusal (inr (inr before)) = inr (inr (inl before))

    why : (refusal : Option Refusal) → ((new.dials ≡ now.dials) × Unasked refusal) ⊎ (AsksOnce Place now.dials new.dials × StandsUndialled refusal now.plug_faults new.plug_faults)
        → StandsUnlooked Place earlier refusal u.before now new
    why refusal (inl none) = inl (none.0, unasked refusal none.1)
    why refusal (inr asked) = inr asked

    kept_by : (last : Ended H) (end : LookEnd) → (last ≡ shortened once.ended) ⊎ ((end ≡ LookEnd.Memory → ⊥) × (last ≡ once.ended)) → (last ≡ once.ended) ⊎ (last ≡ shortened once.ended)
    kept_by last end (inl short) = inr short
    kept_by last end (inr same) = inl same.1

    refused_by : (last : Ended H) (end : LookEnd) (request : Request) → conflict_of once.ended.refusal ≡ Some request → (last ≡ shortened once.ended) ⊎ ((end ≡ LookEnd.Memory → ⊥) × (last ≡ once.ended))
        → (last.refusal ≡ Some Refusal.Memory) ⊎ ((end ≡ LookEnd.Memory → ⊥) × (conflict_of last.refusal ≡ Some request))
    refused_by last end request conflict (inl short) = inl (ap (λ (l : Ended H). l.refusal) short)
    refused_by last end request conflict (inr same) = inr (same.0, ap (λ (l : Ended H). conflict_of l.refusal) same.1 ∙ conflict)

    pub is_over : (last : Ended H) (looker : Option H) → Follows tell Place once earlier after (Behind.Stands last looker) now.dials new.dials now.dialled new.dialled now.plug_faults new.plug_faults
        → AreAttempts tell Place workers task (record { earlier = after; last = last; looker = looker }) first new × (first_hands after last ≡ first_hands earlier once.ended)
    is_over last None f = over_by last None f.0 f.1 (record { dialled = f.2; written = written; out_faults = out_faults }, why last.refusal f.3)
    is_over last (Some looker) f = over_by last (Some looker) f.0 (kept_by last f.5 f.8) (
      f.3,
      f.5,
      look_by f.1 (the_left declared task.limits once.left f.1 f.2 u.left) f.3 f.5 looker new f.6 written out_faults,
      f.7,
      refused_by last f.5 f.3 f.4 f.8,
    )

  -- there were as many runs as there may be
  pub full_over : length earlier ≡ most_runs → AreAttempts tell Place workers task (record { earlier = earlier; last = once.ended; looker = None }) first now
  full_over full = record {
    before = u.before;
    after = now;
    earlier = u.made;
    apart = u.apart;
    last = u.run;
    stands = (record { dialled = refl; written = refl; out_faults = refl }, inl (refl, inr (inr (inr full))));
  }

-- the first run of a call
pub underway_first : {H : Type 0} (tell : H → Telling) (Place : ℕ → Dial → Type 0) (workers : ℕ) (declared : Declared) (aim : Aim) (options : RunOptions) (earlier : List (Attempt H)) (once : Once H) (first now : Moment)
    → earlier ≡ [] → IsOneRun tell Place workers (task_by tell declared aim options workers [] once.ended) once.ended first now
    → (once.whole ≡ true → WritesWhole (task_by tell declared aim options workers [] once.ended) once.ended first.written now.written) → (once.whole ≡ false → Rose first.out_faults now.out_faults)
    → IfSome once.left (IsLeft declared (task_by tell declared aim options workers [] once.ended).limits) → (once.left ≡ None → conflict_of once.ended.refusal ≡ None)
    → Underway tell Place workers declared aim (task_by tell declared aim options workers earlier once.ended) earlier once first now
underway_first {H} tell Place workers declared aim options earlier once first now none run reported broken left lost =
    subst (λ (l : List (Attempt H)). Underway tell Place workers declared aim (task_by tell declared aim options workers l once.ended) l once first now) (sym none) (record {
      of_these = refl;
      before = first;
      made = refl;
      apart = tt;
      run = run;
      reported = reported;
      broken = broken;
      left = left;
      lost = lost;
    })

-- runs of the same first hands are of the same task
pub task_same : {H : Type 0} (tell : H → Telling) (declared : Declared) (aim : Aim) (options : RunOptions) (workers : ℕ) (earlier later : List (Attempt H)) (last next : Ended H) → first_hands later next ≡ first_hands earlier last
    → task_by tell declared aim options workers earlier last ≡ task_by tell declared aim options workers later next
task_same {H} tell declared aim options workers earlier later last next same = sym (ap (λ (hands : List H). task_of declared aim (limits_of workers options (first_reading (λ hand. (tell hand).clock) hands))) same)

-- a run can be made of what is left
pub fits : (workers : ℕ) (declared : Declared) (limits : RunLimits) (left : Option Left) → limits.workers ≡ workers → IsWhole declared → HasNoCycle declared → NeedsDependencies declared → HasOwnSpecs declared
    → IfSome left (IsLeft declared limits) → IfSome left (IsFit workers)
fits workers declared limits None many whole acyclic needs own fact = tt
fits workers declared limits (Some left) many whole acyclic needs own fact = record {
  as_many = ap (λ (l : RunLimits). l.workers) fact.limited ∙ many;
  whole = subst IsWhole (sym fact.declares) whole;
  acyclic = subst HasNoCycle (sym fact.declares) acyclic;
  needs = subst NeedsDependencies (sym fact.declares) needs;
  own = subst HasOwnSpecs (sym fact.declares) own;
}

-- the same by an equation
pub the_fit : (workers : ℕ) (found : Option Left) (left : Left) → found ≡ Some left → IfSome found (IsFit workers) → IsFit workers left
the_fit workers found left is fact = subst (λ (f : Option Left). IfSome f (IsFit workers)) is fact
