-- A run without a fault came to its end, and every action ended well, in each of its worlds.
use Rattle.std.proofs.Common.{◌≡◌, ℕ, ◌<◌, length, true, false, List, [], ◌∷◌, Option, Some, None, refl, sym, ap, ◌∙◌, subst, inl, inr, reverse, ◌⊎◌}
use Rattle.std.specs.List.{list_any}
use Rattle.std.specs.Prelude.{is_some, unwrap_or}
use Rattle.engine_types.specs.declared.Aim.{Aim}
use Rattle.engine_types.specs.declared.Engine.{Engine}
use Rattle.engine_types.specs.declared.Entry.{Entry}
use Rattle.engine_types.specs.declared.LateWhy.{LateWhy}
use Rattle.engine_types.specs.declared.Seen.{Seen}
use Rattle.engine_types.specs.declared.SeenEnd.{SeenEnd}
use Rattle.run_model.specs.Ending.{IsRunOver, is_seen_bad}
use Rattle.run_model.specs.Journals.{Setup, has_left, holding, is_open, is_well, seen_in, standing}
use Rattle.run_model.specs.Legal.{IsLegal, workers}
use Rattle.run_model.specs.Runs.{IsRun, IsWorldOfRun, Task, run_fault, run_setup, unseen}
use Rattle.run_model.specs.Worlds.{Move}
use Rattle.run_model.proofs.KeptLaws.{any_from_list}
use Rattle.run_model.proofs.RollLaws.{has_plan}
use Rattle.world_laws.proofs.Ended.{all_well, not_bad}
use Rattle.world_laws.proofs.Finished.{IsEnded, basis_of}

-- a legal journal that has begun and whose observation didn't end badly has one that ended well
sees : (aim : Aim) (setup : Setup) (past : List Entry) → IsLegal aim setup past → is_seen_bad past ≡ false → (past ≡ [] → ⊥) → is_some (seen_in past) ≡ true
sees aim setup [] legal bad some = absurd (some refl)
sees aim setup (Entry.Seen observation ∷ past) legal bad some = at observation.end refl
  where
    at : (end : SeenEnd) → observation.end ≡ end → is_some (seen_in (Entry.Seen observation ∷ past)) ≡ true
    at (SeenEnd.Good seen) e = rw e refl
    at (SeenEnd.Bad fault) e = let wrong : true ≡ false = rw e at bad in absurd (cc wrong)
sees aim setup (Entry.Ended w outcome ∷ past) legal bad some =
    sees aim setup past legal.0 bad (λ empty. let wrong : false ≡ true = sym (ap (λ (l : List Entry). is_open (holding l w)) empty) ∙ legal.1 in cc wrong)
sees aim setup (Entry.Claim w a ∷ past) legal bad some = legal.1.0.begun
sees aim setup (Entry.Poll w s ∷ past) legal bad some = legal.1.0.begun
sees aim setup (Entry.Idle w ∷ past) legal bad some = legal.1.0.begun
sees aim setup (Entry.Leave w ∷ past) legal bad some = legal.1.0.begun
sees aim setup (Entry.Stop w ∷ past) legal bad some = legal.1.0.begun
sees aim setup (Entry.Late w (LateWhy.Deadline reading) ∷ past) legal bad some = legal.1.0.begun
sees aim setup (Entry.Late w LateWhy.Entries ∷ past) legal bad some = legal.1.0.begun
sees aim setup (Entry.Short w ∷ past) legal bad some = legal.1.0.begun

-- a journal that came to its end isn't empty
begun : (setup : Setup) (past : List Entry) → IsRunOver setup past → past ≡ [] → ⊥
begun setup past over empty =
    let none : list_any (has_left []) (workers setup) ≡ true = subst (λ (l : List Entry). list_any (has_left l) (workers setup) ≡ true) empty over.left in
    let x = any_from_list (has_left []) (workers setup) none in let wrong : false ≡ true = x.2 in cc wrong

saw_it : (o : Option Seen) → is_some o ≡ true → o ≡ Some (unwrap_or o unseen)
saw_it None e = absurd (cc e)
saw_it (Some seen) e = refl

pub is_ended : (task : Task) (journal : List Entry) (first last : Engine) (moves : List Move) → IsRun task journal → run_fault task journal ≡ None
    → IsWorldOfRun task journal first moves last → IsEnded task.aim (run_setup task journal) first moves last
is_ended task journal first last moves run sound world = record {
  way = record {
    plan = has_plan (basis_of task.aim setup);
    legal = subst (λ (l : List Entry). IsLegal task.aim setup l) (sym world.journal) run.legal;
    saw = ap seen_in world.journal ∙ saw;
    world = world.world;
  };
  well = subst (λ (l : List Entry). (a : ℕ) → a < length setup.actions → is_well (standing setup l a) ≡ true) (sym world.journal) (all_well setup past run.over sound);
}
  where
    setup : Setup
    setup = run_setup task journal

    past : List Entry
    past = reverse journal

    good : is_seen_bad past ≡ false
    good = not_bad setup past sound

    over : IsRunOver setup past
    over = at run.over
      where
        at : (is_seen_bad past ≡ true) ⊎ IsRunOver setup past → IsRunOver setup past
        at (inl bad) = let wrong : false ≡ true = sym good ∙ bad in absurd (cc wrong)
        at (inr o) = o

    saw : seen_in past ≡ Some setup.seen
    saw = saw_it (seen_in past) (sees task.aim setup past run.legal good (begun setup past over))
