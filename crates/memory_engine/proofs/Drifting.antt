-- A tick of the script, and a change of one container, is an own change of the Engine, or none.
use Rattle.std.proofs.Common.{◌≡◌, ℕ, Bool, true, false, List, [], ◌∷◌, Option, Some, None, map, refl, sym, ap, subst, ◌∙◌, inl, inr}
use Rattle.std.specs.Prelude.{find, is_some}
use Rattle.std.specs.List.{list_all, IsDistinct}
use Rattle.std.specs.Str.{bytes_eq}
use Rattle.std.proofs.lemmas.Map.Keys.{IsDistinct-tail}
use Rattle.engine_types.specs.declared.ContainerRow.{ContainerRow}
use Rattle.engine_types.specs.declared.ContainerState.{ContainerState}
use Rattle.engine_types.specs.declared.Engine.{Engine}
use Rattle.engine_types.specs.declared.Report.{Report}
use Rattle.run_model.specs.EngineRules.{ChangesContainer, Drifts, TurnsInto, network_at}
use Rattle.memory_engine.specs.declared.script.Change.{Change}
use Rattle.memory_engine.specs.declared.script.Tick.{Tick}
use Rattle.memory_engine.specs.Keeping.{IsKept}
use Rattle.memory_engine.specs.Serving.{with_container, with_first}
use Rattle.memory_engine.specs.Ticking.{changed_report, changed_row, is_running, ticked}
use Rattle.memory_engine.proofs.Texts.{by_cases, bytes_eq_itself}
use Rattle.memory_engine.proofs.AnyAll.{all-with_first, among-find}
use Rattle.memory_engine.proofs.Distinct.{find-among}
use Rattle.memory_engine.proofs.Places.{with_first-missed, with_first-same}
use Rattle.memory_engine.proofs.Keeps.{keeps_changed}
use Rattle.memory_engine.proofs.Answering.{changes_container}

abbrev id_of : ContainerRow → List ℕ
id_of row = row.id

-- a change leaves the id, the name and the networks
same_by : {X : Type 0} (get : ContainerRow → X) (change : Change) → ((row : ContainerRow) (report : Report) → get (record row { report = report }) ≡ get row)
    → (row : ContainerRow) → get (changed_row change row) ≡ get row
same_by get change report_apart row = by_cases (is_running row.report.state)
    (λ e. rw e (report_apart row (changed_report change row.report)))
    (λ e. rw e refl)

-- the first row with a name is the one with its id
by_id : (p : ContainerRow → Bool) (f : ContainerRow → ContainerRow) (rows : List ContainerRow) (row : ContainerRow)
    → IsDistinct bytes_eq (map id_of rows) → find p rows ≡ Some row
    → with_first p f rows ≡ with_first (λ r. bytes_eq r.id row.id) f rows
by_id p f [] row distinct found = refl
by_id p f (first ∷ rows) row distinct found = by_cases (p first)
    (λ e. let one : Some first ≡ Some row = rw e at found in let same : row ≡ first = cc in
    let itself : bytes_eq first.id row.id ≡ true = rw same (bytes_eq_itself first.id) in
    rw (e, itself) refl)
    (λ e. let later : find p rows ≡ Some row = rw e at found in
    let among = (among-find p rows row later).0 in
    let rest = IsDistinct-tail bytes_eq first.id (map id_of rows) distinct in
    let there = find-among id_of rows row rest among in
    by_cases (bytes_eq first.id row.id)
    (λ same. let here : Some first ≡ Some row = sym (rw same refl) ∙ find-among id_of (first ∷ rows) row distinct (inr among) in
    let is : first ≡ row = cc in
    let clash : false ≡ true = sym e ∙ ap p is ∙ (among-find p rows row later).1 in
    cc)
    (λ apart. rw (e, apart) (ap (λ rs. first ∷ rs) (by_id p f rows row rest later))))

running : (state : ContainerState) → is_running state ≡ true → state ≡ ContainerState.Running
running ContainerState.Running runs = refl
running ContainerState.Created runs = let clash : false ≡ true = runs in cc
running ContainerState.Paused runs = let clash : false ≡ true = runs in cc
running ContainerState.Restarting runs = let clash : false ≡ true = runs in cc
running ContainerState.Removing runs = let clash : false ≡ true = runs in cc
running ContainerState.Exited runs = let clash : false ≡ true = runs in cc
running ContainerState.Dead runs = let clash : false ≡ true = runs in cc

-- a running container's report turns into the changed one
turns_into : (change : Change) (report : Report) → is_running report.state ≡ true → TurnsInto report (changed_report change report)
turns_into (Change.Exit code) report runs =
    let state = running report.state runs in
    inl (rw state refl, refl, λ same. let clash : ContainerState.Running ≡ ContainerState.Exited = sym state ∙ same in cc)
turns_into (Change.Health now) report runs = inr (running report.state runs, refl)

-- the first container that passes a test changes
drifts_at : (engine : Engine) (p : ContainerRow → Bool) (change : Change) → IsKept engine → (found : Option ContainerRow)
    → find p engine.containers ≡ found → Drifts engine (record engine { containers = with_first p (changed_row change) engine.containers })
drifts_at engine p change kept None missed = (
  0,
  ap (λ (rows : List ContainerRow). record engine { containers = rows }) (with_first-missed p (changed_row change) engine.containers missed),
)
drifts_at engine p change kept (Some row) found =
    let report = changed_report change row.report in
    let with_rows = λ (rows : List ContainerRow). record engine { containers = rows } in
    let same_id = same_by (λ r. r.id) change (λ _ _. refl) in
    by_cases (is_running row.report.state)
    (λ runs.
    let among = (among-find p engine.containers row found).0 in
    let was = find-among id_of engine.containers row kept.sound.container_ids among in
    let changed : changed_row change row ≡ record row { report = report } = rw runs in
    let one = ap with_rows (sym (by_id p (changed_row change) engine.containers row kept.sound.container_ids found)) in (
      1,
      (
        engine,
        refl,
        record {
          id = row.id;
          row = row;
          report = report;
          was = was;
          turns = turns_into change row.report runs;
          changes = subst (λ (new : Engine). ChangesContainer engine new row.id (Some (record row { report = report }))) one
              (subst (λ (now : ContainerRow). ChangesContainer engine (with_container engine row.id (changed_row change)) row.id (Some now)) changed
              (changes_container engine row.id (changed_row change) same_id row was));
        },
      ),
    ))
    (λ rests.
    let same : changed_row change row ≡ row = rw rests in
    (0, ap with_rows (with_first-same p (changed_row change) row engine.containers found same)))

pub ticked_drifts : (engine : Engine) (script : List Tick) → IsKept engine → Drifts engine (ticked engine script)
ticked_drifts engine [] kept = (0, refl)
ticked_drifts engine (tick ∷ script) kept = drifts_at engine (λ row. bytes_eq tick.container row.name) tick.change kept (find (λ row. bytes_eq tick.container row.name) engine.containers) refl

-- a change leaves the Engine sound, and the names that containers were given
changed_keeps : (engine : Engine) (p : ContainerRow → Bool) (change : Change) → IsKept engine
    → IsKept (record engine { containers = with_first p (changed_row change) engine.containers })
changed_keeps engine p change kept =
    keeps_changed engine p (changed_row change)
    (same_by (λ row. row.id) change (λ _ _. refl))
    (same_by (λ row. row.name) change (λ _ _. refl))
    (λ row there. ap (λ networks. list_all (λ i. is_some (network_at engine i)) networks) (same_by (λ r. r.networks) change (λ _ _. refl) row) ∙ there)
    kept

changed_given : (given : List ℕ → Bool) (p : ContainerRow → Bool) (change : Change) (rows : List ContainerRow) → list_all (λ row. given row.name) rows ≡ true
    → list_all (λ row. given row.name) (with_first p (changed_row change) rows) ≡ true
changed_given given p change rows all =
    all-with_first (λ row. given row.name) p (changed_row change) (λ row was. ap given (same_by (λ r. r.name) change (λ _ _. refl) row) ∙ was) rows all

pub ticked_keeps : (engine : Engine) (script : List Tick) → IsKept engine → IsKept (ticked engine script)
ticked_keeps engine [] kept = kept
ticked_keeps engine (tick ∷ script) kept = changed_keeps engine (λ row. bytes_eq tick.container row.name) tick.change kept

-- a container that changes keeps its name
pub ticked_given : (given : List ℕ → Bool) (engine : Engine) (script : List Tick) → list_all (λ row. given row.name) engine.containers ≡ true
    → list_all (λ row. given row.name) (ticked engine script).containers ≡ true
ticked_given given engine [] all = all
ticked_given given engine (tick ∷ script) all = changed_given given (λ row. bytes_eq tick.container row.name) tick.change engine.containers all

-- the container with an id changes by itself
pub own_drifts : (engine : Engine) (id : List ℕ) (change : Change) → IsKept engine → Drifts engine (with_container engine id (changed_row change))
own_drifts engine id change kept = drifts_at engine (λ row. bytes_eq row.id id) change kept (find (λ row. bytes_eq row.id id) engine.containers) refl

pub own_keeps : (engine : Engine) (id : List ℕ) (change : Change) → IsKept engine → IsKept (with_container engine id (changed_row change))
own_keeps engine id change kept = changed_keeps engine (λ row. bytes_eq row.id id) change kept

pub own_given : (given : List ℕ → Bool) (engine : Engine) (id : List ℕ) (change : Change) → list_all (λ row. given row.name) engine.containers ≡ true
    → list_all (λ row. given row.name) (with_container engine id (changed_row change)).containers ≡ true
own_given given engine id change all = changed_given given (λ row. bytes_eq row.id id) change engine.containers all
