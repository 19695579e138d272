-- What holds of a call's runs by other words for their dials, and with another end.
use Rattle.std.proofs.Common.{◌≡◌, ◌⊎◌, ℕ, List, [], ◌∷◌, Option, None, Some, length, refl, sym, ap, ◌∙◌, subst, inl, inr}
use Rattle.compose_cli.proofs.Dialled.{dials_by}
use Rattle.compose_cli.specs.declared.Ended.{Ended}
use Rattle.engine_types.specs.declared.Request.{Request}
use Rattle.ledger_run.specs.Tellings.{Telling}
use Rattle.name_conflicts.specs.declared.LookEnd.{LookEnd}
use Rattle.outside_api.specs.declared.dial.Dial.{Dial}
use Rattle.refusals.proofs.Said.{said, said_if_any}
use Rattle.refusals.specs.Saying.{IsSaid, IsSaidIfAny}
use Rattle.refusals.specs.Statuses.{status_of}
use Rattle.refusals.specs.declared.Refusal.{Refusal}
use Rattle.repeated_runs.proofs.Chains.{first_by}
use Rattle.repeated_runs.proofs.Onces.{run_unplaced}
use Rattle.repeated_runs.proofs.Short.{one_short}
use Rattle.repeated_runs.specs.Attempts.{AreAttempts, AreMadeAgain, IsMadeAgain, IsOneLook, IsOneRun, Stands, StandsUnlooked, first_hands}
use Rattle.repeated_runs.specs.Conflicts.{AreApart, conflict_of}
use Rattle.repeated_runs.specs.Followings.{shortened}
use Rattle.repeated_runs.specs.Moments.{Moment}
use Rattle.repeated_runs.specs.declared.attempt.Attempt.{Attempt}
use Rattle.repeated_runs.specs.declared.attempt.Attempts.{Attempts}
use Rattle.run_model.specs.Runs.{Task}

module _ {H : Type 0} (tell : H → Telling) (F G : ℕ → Dial → Type 0) (to : (n : ℕ) (dial : Dial) → F n dial → G n dial) (workers : ℕ) (task : Task) where
  run_at : (ended : Ended H) (old new : Moment) → IsOneRun tell F workers task ended old new → IsOneRun tell G workers task ended old new
  run_at ended old new r = record {
    dials = dials_by F G workers old.dials new.dials (length ended.hands) ended.refusal to r.dials;
    dialled = r.dialled;
    counted = r.counted;
    origin = r.origin;
    unmade = r.unmade;
    unbegun = r.unbegun;
    quiet = r.quiet;
    unsent = r.unsent;
    ran = r.ran;
    status = r.status;
  }

  look_at : (request : Request) (end : LookEnd) (hand : H) (old new : Moment) → IsOneLook tell F task request end hand old new → IsOneLook tell G task request end hand old new
  look_at request end hand old new l = record {
    dial = (l.dial.0, to 0 l.dial.0 l.dial.1, l.dial.2);
    dialled = l.dialled;
    looked = l.looked;
    written = l.written;
    out_faults = l.out_faults;
  }

  again_at : (attempt : Attempt H) (old new : Moment) → IsMadeAgain tell F workers task attempt old new → IsMadeAgain tell G workers task attempt old new
  again_at attempt old new a = record {
    between = a.between;
    run = run_at attempt.ended old a.between a.run;
    reported = a.reported;
    request = a.request;
    conflict = a.conflict;
    look = look_at a.request LookEnd.Came attempt.looker a.between new a.look;
  }

  all_at : (earlier : List (Attempt H)) (old new : Moment) → AreMadeAgain tell F workers task earlier old new → AreMadeAgain tell G workers task earlier old new
  all_at [] old new made = made
  all_at (attempt ∷ rest) old new made = (made.0, again_at attempt old made.0 made.1, all_at rest made.0 new made.2)

  unlooked_at : (earlier : List (Attempt H)) (refusal : Option Refusal) (before after new : Moment) → StandsUnlooked F earlier refusal before after new → StandsUnlooked G earlier refusal before after new
  unlooked_at earlier refusal before after new (inl none) = inl none
  unlooked_at earlier refusal before after new (inr asked) = let one = asked.0 in inr ((one.0, to 0 one.0 one.1, one.2), asked.1)

  stands_at : (earlier : List (Attempt H)) (refusal : Option Refusal) (looker : Option H) (before after new : Moment) → Stands tell F task earlier refusal looker before after new
      → Stands tell G task earlier refusal looker before after new
  stands_at earlier refusal None before after new s = (s.0, unlooked_at earlier refusal before after new s.1)
  stands_at earlier refusal (Some looker) before after new s = (s.0, s.1, look_at s.0 s.1 looker after new s.2, s.3, s.4)

  -- the same runs by dials of which another fact holds that follows
  pub attempts_at : (attempts : Attempts H) (old new : Moment) → AreAttempts tell F workers task attempts old new → AreAttempts tell G workers task attempts old new
  attempts_at attempts old new a = record {
    before = a.before;
    after = a.after;
    earlier = all_at attempts.earlier old a.before a.earlier;
    apart = a.apart;
    last = run_at attempts.last a.before a.after a.last;
    stands = stands_at attempts.earlier attempts.last.refusal attempts.looker a.before a.after new a.stands;
  }

module _ {H : Type 0} where
  -- an end whose refusal was said
  pub said_end : (ended : Ended H) (found : Option Refusal) → ended.status ≡ status_of ended.refusal → IsSaidIfAny ended.refusal found
      → (record { status = status_of found; journal = ended.journal; hands = ended.hands; refusal = found } ≡ ended) ⊎ (record { status = status_of found; journal = ended.journal; hands = ended.hands; refusal = found } ≡ shortened ended)
  said_end ended found status is = said_if_any ended.refusal found is
      (λ f. (record { status = status_of f; journal = ended.journal; hands = ended.hands; refusal = f } ≡ ended) ⊎ (record { status = status_of f; journal = ended.journal; hands = ended.hands; refusal = f } ≡ shortened ended))
      (inr refl) (inl (ap (λ (s : ℕ). record ended { status = s }) (sym status)))

  same_hands : (last other : Ended H) → (last ≡ other) ⊎ (last ≡ shortened other) → last.hands ≡ other.hands
  same_hands last other (inl e) = ap (λ (x : Ended H). x.hands) e
  same_hands last other (inr e) = ap (λ (x : Ended H). x.hands) e

  -- the first hands stay where the refusal was said
  pub said_first : (attempts other : Attempts H) → other.earlier ≡ attempts.earlier → (other.last ≡ attempts.last) ⊎ (other.last ≡ shortened attempts.last)
      → first_hands other.earlier other.last ≡ first_hands attempts.earlier attempts.last
  said_first attempts other same last =
      ap (λ (l : List (Attempt H)). first_hands l other.last) same ∙ first_by attempts.earlier other.last attempts.last (same_hands other.last attempts.last last)

module _ {H : Type 0} (tell : H → Telling) (Place : ℕ → Dial → Type 0) (workers : ℕ) (task : Task) where
  run_said : (ended other : Ended H) (old new : Moment) → (other ≡ ended) ⊎ (other ≡ shortened ended) → IsOneRun tell Place workers task ended old new → IsOneRun tell Place workers task other old new
  run_said ended other old new (inl e) run = subst (λ (x : Ended H). IsOneRun tell Place workers task x old new) (sym e) run
  run_said ended other old new (inr e) run = subst (λ (x : Ended H). IsOneRun tell Place workers task x old new) (sym e) (one_short tell task ended Place workers old new run)

  unlooked_short : (earlier : List (Attempt H)) (refusal : Option Refusal) (before after new : Moment) → StandsUnlooked Place earlier refusal before after new → StandsUnlooked Place earlier (Some Refusal.Memory) before after new
  unlooked_short earlier refusal before after new (inl none) = inl (none.0, inl refl)
  unlooked_short earlier refusal before after new (inr asked) = inr (asked.0, inl refl)

  stands_short : (earlier : List (Attempt H)) (refusal : Option Refusal) (looker : Option H) (before after new : Moment) → Stands tell Place task earlier refusal looker before after new
      → Stands tell Place task earlier (Some Refusal.Memory) looker before after new
  stands_short earlier refusal None before after new s = (s.0, unlooked_short earlier refusal before after new s.1)
  stands_short earlier refusal (Some looker) before after new s = (s.0, s.1, s.2, s.3, inl refl)

  stands_said : (earlier : List (Attempt H)) (ended other : Ended H) (looker : Option H) (before after new : Moment) → (other ≡ ended) ⊎ (other ≡ shortened ended) → Stands tell Place task earlier ended.refusal looker before after new
      → Stands tell Place task earlier other.refusal looker before after new
  stands_said earlier ended other looker before after new (inl e) s = subst (λ (x : Ended H). Stands tell Place task earlier x.refusal looker before after new) (sym e) s
  stands_said earlier ended other looker before after new (inr e) s = subst (λ (x : Ended H). Stands tell Place task earlier x.refusal looker before after new) (sym e) (stands_short earlier ended.refusal looker before after new s)

  -- the same runs, once the refusal of the last one was said
  pub attempts_said : (attempts other : Attempts H) (old new : Moment) → other.earlier ≡ attempts.earlier → (other.last ≡ attempts.last) ⊎ (other.last ≡ shortened attempts.last) → other.looker ≡ attempts.looker
      → AreAttempts tell Place workers task attempts old new → AreAttempts tell Place workers task other old new
  attempts_said attempts other old new earlier last looker a = record {
    before = a.before;
    after = a.after;
    earlier = subst (λ (l : List (Attempt H)). AreMadeAgain tell Place workers task l old a.before) (sym earlier) a.earlier;
    apart = subst (λ (l : List (Attempt H)). AreApart l) (sym earlier) a.apart;
    last = run_said attempts.last other.last a.before a.after last a.last;
    stands = subst (λ (l : List (Attempt H)). Stands tell Place task l other.last.refusal other.looker a.before a.after new) (sym earlier)
        (subst (λ (o : Option H). Stands tell Place task attempts.earlier other.last.refusal o a.before a.after new) (sym looker)
        (stands_said attempts.earlier attempts.last other.last attempts.looker a.before a.after new last a.stands));
  }

  -- a call that found no memory for its place made no run
  pub attempts_unplaced : (attempts : Attempts H) (now : Moment) → attempts.earlier ≡ [] → attempts.looker ≡ None → attempts.last.journal ≡ [] → attempts.last.hands ≡ [] → IsSaid Refusal.Memory attempts.last.refusal
      → attempts.last.status ≡ status_of attempts.last.refusal → AreAttempts tell Place workers task attempts now now
  attempts_unplaced attempts now none unlooked empty handless is_said status =
      let wanted = said Refusal.Memory attempts.last.refusal is_said (λ found. found ≡ Some Refusal.Memory) refl refl in record {
        before = now;
        after = now;
        earlier = subst (λ (l : List (Attempt H)). AreMadeAgain tell Place workers task l now now) (sym none) refl;
        apart = subst (λ (l : List (Attempt H)). AreApart l) (sym none) tt;
        last = run_unplaced tell Place workers task attempts.last now empty handless wanted status;
        stands = subst (λ (o : Option H). Stands tell Place task attempts.earlier attempts.last.refusal o now now now) (sym unlooked)
            (record { dialled = refl; written = refl; out_faults = refl }, inl (refl, inl (ap conflict_of wanted)));
      }
