-- What the sources of requests tell is what the journal tells.
use Rattle.std.proofs.Common.{◌≡◌, ℕ, zero, suc, List, [], ◌∷◌, map, get_or, slice_get, Option, Some, None, refl, sym, ap, ◌∙◌}
use Rattle.std.specs.Prelude.{option_and_then}
use Rattle.engine_types.specs.declared.Entry.{Entry}
use Rattle.run_model.specs.Journals.{Standing, standing}
use Rattle.run_model.specs.Plans.{kept, kept_of}
use Rattle.run_model.specs.Requests.{made_id}
use Rattle.run_requests.specs.Asking.{AreIdsOf}
use Rattle.ledger_rows.specs.ActionRows.{state_at}
use Rattle.ledger_rows.specs.Rows.{StandsAs}
use Rattle.ledger_rows.specs.declared.action_rows.State.{State}
use Rattle.ledger_requests.specs.Sources.{AreSources, id_in, ids_in, past_in, setup_in, told_by}
use Rattle.ledger_requests.specs.declared.sources.Sources.{Sources}

-- two lists that are mapped to one have the same at each place
module _ {X Y : Type 0} (f : ℕ → Option Y) (g : X → Option Y) where
  same_at : (xs : List (Option ℕ)) (ys : List X) → map (option_and_then f) xs ≡ map g ys → (i : ℕ) → option_and_then f (get_or xs i None) ≡ option_and_then g (slice_get ys i)
  same_at [] [] e i = refl
  same_at [] (y ∷ ys) e i = absurd (cc e)
  same_at (x ∷ xs) [] e i = absurd (cc e)
  same_at (x ∷ xs) (y ∷ ys) e zero = cc e
  same_at (x ∷ xs) (y ∷ ys) e (suc i) = let rest : map (option_and_then f) xs ≡ map g ys = cc e in same_at xs ys rest i

told : (journal : List Entry) (st : Standing) (x : State) → StandsAs journal st x → told_by journal x ≡ made_id st
told journal st State.Free e = sym (ap made_id e)
told journal st State.Blocked e = sym (ap made_id e)
told journal st State.Out e = sym (ap made_id e)
told journal st State.Badly e = sym (ap made_id e)
told journal st (State.Well at) (reply, e, (w, t)) = ap id_in t ∙ sym (ap made_id e)

module _ (sources : Sources) (are : AreSources sources) where
  -- an action was told what its row says
  told_is : (a : ℕ) → told_by sources.journal.now (state_at sources.rows.now a) ≡ made_id (standing (setup_in sources) (past_in sources) a)
  told_is a = told sources.journal.now (standing (setup_in sources) (past_in sources) a) (state_at sources.rows.now a) (are.said.each a)

  -- the plan's places are those of the kept containers
  kept_is : (s : ℕ) → option_and_then (slice_get sources.run.seen.now.containers) (get_or sources.run.plan.now.kept s None) ≡ kept sources.run.declared.now sources.run.seen.now s
  kept_is s = same_at (slice_get sources.run.seen.now.containers) (kept_of sources.run.declared.now sources.run.seen.now) sources.run.plan.now.kept sources.run.declared.now.slots are.kept s

  pub are_ids : AreIdsOf (setup_in sources) (past_in sources) (ids_in sources)
  are_ids = record {
    kept_by = kept_is;
    waits = are.seconds;
    creator = are.creates;
    maker = are.makes;
    told = told_is;
  }
