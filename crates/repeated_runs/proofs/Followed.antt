-- What follows one run of a call.
use Rattle.std.proofs.Common.{◌≡◌, ◌⊎◌, ℕ, Bool, true, false, List, Option, None, Some, refl, sym, subst, inl, inr}
use Rattle.std.specs.Prelude.{not}
use Rattle.std.specs.Option.{option_map_or}
use Rattle.compose_cli.specs.declared.Ended.{Ended}
use Rattle.engine_types.specs.declared.Request.{Request}
use Rattle.ledger_run.specs.Tellings.{Telling}
use Rattle.name_conflicts.specs.declared.LookEnd.{LookEnd}
use Rattle.outside_api.specs.declared.dial.Dial.{Dial}
use Rattle.refusals.specs.declared.Refusal.{Refusal}
use Rattle.repeated_runs.specs.Attempts.{AsksOnce, StandsUndialled}
use Rattle.repeated_runs.specs.Conflicts.{conflict_of, was_repeated_for}
use Rattle.repeated_runs.specs.Followings.{EndsLook, Follows, LooksSo, is_sought, shortened}
use Rattle.repeated_runs.specs.Lookings.{Looks}
use Rattle.repeated_runs.specs.declared.attempt.Attempt.{Attempt}
use Rattle.repeated_runs.specs.declared.following.Behind.{Behind}
use Rattle.repeated_runs.specs.declared.looking.Looked.{Looked}
use Rattle.repeated_runs.specs.declared.once.Left.{Left}
use Rattle.repeated_runs.specs.declared.once.Once.{Once}

-- what a run was made again for, or wasn't, by the test whether something is to be looked for
not_true : (b : Bool) → not b ≡ true → b ≡ false
not_true false e = refl
not_true true e = absurd (cc e)

not_false : (b : Bool) → not b ≡ false → b ≡ true
not_false true e = refl
not_false false e = absurd (cc e)

module _ {H : Type 0} (refusal : Option Refusal) (earlier : List (Attempt H)) where
  pub unrepeated : (request : Request) → conflict_of refusal ≡ Some request → is_sought refusal earlier ≡ true → was_repeated_for earlier request ≡ false
  unrepeated request is sought = not_true (was_repeated_for earlier request)
      (subst (λ (found : Option Request). option_map_or (λ r. not (was_repeated_for earlier r)) found false ≡ true) is sought)

  abbrev Unsought : Option Request → Type 0
  Unsought found = (found ≡ None) ⊎ ((request : Request) × (found ≡ Some request) × (was_repeated_for earlier request ≡ true))

  unsought : (found : Option Request) → option_map_or (λ r. not (was_repeated_for earlier r)) found false ≡ false → Unsought found
  unsought None e = inl refl
  unsought (Some request) e = inr (request, refl, not_false (was_repeated_for earlier request) e)

  -- nothing is to be looked for: there is no such create, or a run was made again for what it makes
  pub not_sought : is_sought refusal earlier ≡ false → Unsought (conflict_of refusal)
  not_sought e = unsought (conflict_of refusal) e

module _ {H : Type 0} (tell : H → Telling) (Place : ℕ → Dial → Type 0) (ended : Ended H) (earlier : List (Attempt H)) (old : List Dial) (dialled : Option ℕ) (faults : ℕ) where
  -- no hand was asked for, since the run wasn't refused a create whose name is used, or this was made again before
  pub stands_unsought : (left : Left) → is_sought ended.refusal earlier ≡ false
      → Follows tell Place (record { ended = ended; whole = true; left = Some left }) earlier earlier (Behind.Stands ended None) old old dialled dialled faults faults
  stands_unsought left e = (refl, inl refl, refl, inl (refl, why (not_sought ended.refusal earlier e)))
    where
      why : (conflict_of ended.refusal ≡ None) ⊎ ((request : Request) × (conflict_of ended.refusal ≡ Some request) × (was_repeated_for earlier request ≡ true))
          → (conflict_of ended.refusal ≡ None) ⊎ (true ≡ false) ⊎ ((request : Request) × (conflict_of ended.refusal ≡ Some request) × (was_repeated_for earlier request ≡ true))
      why (inl none) = inl none
      why (inr again) = inr (inr again)

  -- its report wasn't written whole
  pub stands_broken : (left : Left) → Follows tell Place (record { ended = ended; whole = false; left = Some left }) earlier earlier (Behind.Stands ended None) old old dialled dialled faults faults
  stands_broken left = (refl, inl refl, refl, inl (refl, inr (inl refl)))

  -- it wasn't refused such a create
  pub stands_else : (whole : Bool) (left : Option Left) → conflict_of ended.refusal ≡ None
      → Follows tell Place (record { ended = ended; whole = whole; left = left }) earlier earlier (Behind.Stands ended None) old old dialled dialled faults faults
  stands_else whole left none = (refl, inl refl, refl, inl (refl, inl none))

  -- there was no memory for one more
  pub stands_short : (left : Left) → Follows tell Place (record { ended = ended; whole = true; left = Some left }) earlier earlier (Behind.Stands (shortened ended) None) old old dialled dialled faults faults
  stands_short left = (refl, inr refl, refl, inl (refl, inl refl))

module _ {H : Type 0} (tell : H → Telling) (Place : ℕ → Dial → Type 0) (ended : Ended H) (left : Left) (earlier : List (Attempt H)) (request : Request)
    (old new : List Dial) (dialled_old dialled_new : Option ℕ) (faults_old faults_new : ℕ) where
  abbrev once : Once H
  once = record { ended = ended; whole = true; left = Some left }

  -- the plug failed
  pub stands_undialled : conflict_of ended.refusal ≡ Some request → Looks tell Place left.declared.project request left.limits.deadline Looked.Undialled old new dialled_old dialled_new faults_old faults_new
      → Follows tell Place once earlier earlier (Behind.Stands ended None) old new dialled_old dialled_new faults_old faults_new
  stands_undialled conflict looks = (refl, inl refl, looks.1, inr (looks.0, inr ((request, conflict), looks.2)))

  -- memory was wanted for the hand
  pub stands_handless : Looks tell Place left.declared.project request left.limits.deadline Looked.Short old new dialled_old dialled_new faults_old faults_new
      → Follows tell Place once earlier earlier (Behind.Stands (shortened ended) None) old new dialled_old dialled_new faults_old faults_new
  stands_handless looks = (refl, inr refl, looks.1, by looks.0)
    where
      by : (new ≡ old) ⊎ AsksOnce Place old new
          → ((new ≡ old) × ((conflict_of (shortened ended).refusal ≡ None) ⊎ (true ≡ false) ⊎ ((asked : Request) × (conflict_of (shortened ended).refusal ≡ Some asked) × (was_repeated_for earlier asked ≡ true))))
          ⊎ (AsksOnce Place old new × StandsUndialled (shortened ended).refusal faults_old faults_new)
      by (inl same) = inl (same, inl refl)
      by (inr asked) = inr (asked, inl refl)

  -- a hand looked
  module _ (conflict : conflict_of ended.refusal ≡ Some request) (fresh : was_repeated_for earlier request ≡ false) (hand : H) (after : List (Attempt H)) where
    stands_by : (end : LookEnd) (last : Ended H) → (end ≡ LookEnd.Came → ⊥) → ((last ≡ shortened ended) ⊎ ((end ≡ LookEnd.Memory → ⊥) × (last ≡ ended))) → after ≡ earlier
        → LooksSo tell Place left.declared.project request left.limits.deadline end hand old new dialled_old dialled_new
        → Follows tell Place once earlier after (Behind.Stands last (Some hand)) old new dialled_old dialled_new faults_old faults_new
    stands_by end last apart kept same looks = (same, left, refl, request, conflict, end, looks, apart, kept)

    pub follows_look : (end : LookEnd) (behind : Behind H) → EndsLook ended left hand end earlier after behind
        → Looks tell Place left.declared.project request left.limits.deadline (Looked.By hand end) old new dialled_old dialled_new faults_old faults_new
        → Follows tell Place once earlier after behind old new dialled_old dialled_new faults_old faults_new
    follows_look LookEnd.Came behind h looks = subst (λ (b : Behind H). Follows tell Place once earlier after b old new dialled_old dialled_new faults_old faults_new) (sym h.1)
        (refl, refl, request, conflict, fresh, hand, h.0, looks)
    follows_look LookEnd.Memory behind h looks = subst (λ (b : Behind H). Follows tell Place once earlier after b old new dialled_old dialled_new faults_old faults_new) (sym h.1)
        (stands_by LookEnd.Memory (shortened ended) (λ e. cc e) (inl refl) h.0 looks)
    follows_look LookEnd.Missed behind h looks = subst (λ (b : Behind H). Follows tell Place once earlier after b old new dialled_old dialled_new faults_old faults_new) (sym h.1)
        (stands_by LookEnd.Missed ended (λ e. cc e) (inr (λ e. cc e, refl)) h.0 looks)
    follows_look LookEnd.Stopped behind h looks = subst (λ (b : Behind H). Follows tell Place once earlier after b old new dialled_old dialled_new faults_old faults_new) (sym h.1)
        (stands_by LookEnd.Stopped ended (λ e. cc e) (inr (λ e. cc e, refl)) h.0 looks)
    follows_look LookEnd.Late behind h looks = subst (λ (b : Behind H). Follows tell Place once earlier after b old new dialled_old dialled_new faults_old faults_new) (sym h.1)
        (stands_by LookEnd.Late ended (λ e. cc e) (inr (λ e. cc e, refl)) h.0 looks)
    follows_look LookEnd.Unlisted behind h looks = subst (λ (b : Behind H). Follows tell Place once earlier after b old new dialled_old dialled_new faults_old faults_new) (sym h.1)
        (stands_by LookEnd.Unlisted ended (λ e. cc e) (inr (λ e. cc e, refl)) h.0 looks)
