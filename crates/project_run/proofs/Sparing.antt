-- Every run of `up` leaves kept containers alone.
use Rattle.std.proofs.Common.{◌≡◌, ℕ, Bool, true, false, map, Option, Some, None, slice_get, refl, sym, ◌∙◌, reverse}
use Rattle.std.specs.List.{IsDistinct}
use Rattle.std.specs.Prelude.{IfSome}
use Rattle.std.specs.Str.{bytes_eq}
use Rattle.engine_types.specs.declared.ActionKind.{ActionKind}
use Rattle.engine_types.specs.declared.ActionKind.TheVariants.{ConnectSlot, CreateSlot, MakeNetwork, MakeVolume, RemoveContainer, RemoveNetwork, RemoveVolume, StartSlot, StopContainer, StopKept}
use Rattle.engine_types.specs.declared.Listed.{Listed}
use Rattle.engine_types.specs.declared.Seen.{Seen}
use Rattle.run_model.specs.Journals.{seen_in}
use Rattle.run_model.specs.Observation.{is_up}
use Rattle.run_model.specs.Plans.{Basis, LeavesKept, is_kept, is_restarted, is_wanted, kept, kind_of, slot_at}
use Rattle.run_model.specs.Rolling.{run_actions}
use Rattle.run_model.specs.Runs.{run_seen, run_setup}
use Rattle.run_model.proofs.KeptLaws.{leaves_kept}
use Rattle.run_model.proofs.PlanLaws.{both, some_from}
use Rattle.run_model.proofs.RollLaws.{carries, has_plan}
use Rattle.world_laws.proofs.Observing.{ids_differ, seen_by}
use Rattle.project_run.specs.Laws.{RunsSpareKept}
use Rattle.project_run.specs.Whole.{IsSparing}

-- a plan's action is sparing
module _ (basis : Basis) (leaves : LeavesKept basis) where
  wanted_sparing : (kind : ActionKind) → is_wanted basis kind ≡ true → IsSparing basis.declared basis.seen (Some kind)
  wanted_sparing (StopContainer c) w = at (slice_get basis.seen.containers c) refl
    where
      on : (row : Listed) → slice_get basis.seen.containers c ≡ Some row → (t : Bool) → is_kept basis.declared basis.seen row ≡ t → is_kept basis.declared basis.seen row ≡ false
      on row e false h = h
      on row e true h = let bad : true ≡ false = sym w ∙ leaves.stops c row e h in absurd (cc bad)

      at : (o : Option Listed) → slice_get basis.seen.containers c ≡ o → IfSome o (λ row. is_kept basis.declared basis.seen row ≡ false)
      at None e = tt
      at (Some row) e = on row e (is_kept basis.declared basis.seen row) refl
  wanted_sparing (RemoveContainer c) w = at (slice_get basis.seen.containers c) refl
    where
      on : (row : Listed) → slice_get basis.seen.containers c ≡ Some row → (t : Bool) → is_kept basis.declared basis.seen row ≡ t → is_kept basis.declared basis.seen row ≡ false
      on row e false h = h
      on row e true h = let bad : true ≡ false = sym w ∙ leaves.removes c row e h in absurd (cc bad)

      at : (o : Option Listed) → slice_get basis.seen.containers c ≡ o → IfSome o (λ row. is_kept basis.declared basis.seen row ≡ false)
      at None e = tt
      at (Some row) e = on row e (is_kept basis.declared basis.seen row) refl
  wanted_sparing (CreateSlot s) w = at (kept basis.declared basis.seen s) refl
    where
      at : (o : Option Listed) → kept basis.declared basis.seen s ≡ o → kept basis.declared basis.seen s ≡ None
      at None e = e
      at (Some row) e = let bad : true ≡ false = sym w ∙ leaves.creates s row e in absurd (cc bad)
  wanted_sparing (MakeVolume v) w = tt
  wanted_sparing (MakeNetwork n) w = tt
  wanted_sparing (ConnectSlot s k) w = tt
  wanted_sparing (StopKept s) w =
      let r = some_from (is_restarted basis.declared basis.seen) (slot_at basis.declared s) (both (is_up basis.aim.purpose) _ w).1 in
      rw r.1 r.2
  wanted_sparing (StartSlot s) w = tt
  wanted_sparing (RemoveNetwork n) w = tt
  wanted_sparing (RemoveVolume v) w = tt

  planned_sparing : (a : ℕ) (kind : Option ActionKind) → kind_of (run_actions basis) a ≡ kind → IsSparing basis.declared basis.seen kind
  planned_sparing a None e = tt
  planned_sparing a (Some kind) e = wanted_sparing kind ((carries basis (run_actions basis) (has_plan basis)).wanted a kind e)

pub runs_spare_kept : RunsSpareKept
unfolding IsDistinct
runs_spare_kept task journal up owned run w a m =
    planned_sparing basis (leaves_kept basis up owned (distinct (seen_in (reverse journal)) refl)) a (kind_of (run_actions basis) a) refl
  where
    basis : Basis
    basis = record { declared = task.declared; seen = run_seen journal; aim = task.aim }

    distinct : (o : Option Seen) → seen_in (reverse journal) ≡ o → IsDistinct bytes_eq (map (λ (row : Listed). row.id) (run_seen journal).containers)
    distinct None e = rw e tt
    distinct (Some seen) e = rw e (ids_differ task.declared task.aim seen (seen_by task.aim (run_setup task journal) (reverse journal) seen run.legal e))
