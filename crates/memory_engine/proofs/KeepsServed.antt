-- What an Engine in memory keeps, it keeps through every request, and each of its containers has a name that it was given.
use Rattle.std.proofs.Common.{◌≡◌, ℕ, ◌^◌, ◌<◌, Bool, true, not, if◌then◌else◌, ◌||◌, List, [], Result, Ok, Err, refl, sym, ap, subst, ◌∙◌}
use Rattle.std.specs.Prelude.{is_some, is_none, unwrap_or, IfOk, IfSome, OnErr}
use Rattle.std.specs.List.{list_all}
use Rattle.std.specs.Option.{option_map_or}
use Rattle.std.specs.Str.{bytes_eq}
use Rattle.std.proofs.lemmas.Bool.{cond_both, not-false}
use Rattle.engine_types.specs.declared.ContainerRow.{ContainerRow}
use Rattle.engine_types.specs.declared.ContainerSpec.{ContainerSpec}
use Rattle.engine_types.specs.declared.Engine.{Engine}
use Rattle.engine_types.specs.declared.Reply.{Reply}
use Rattle.engine_types.specs.declared.Request.{Request}
use Rattle.run_model.specs.EngineRules.{can_start, container_at, created_row, has_container_named, has_volume, image_at, is_live, is_on, is_started, network_at, started_row, stopped_row}
use Rattle.memory_engine.specs.declared.catalogue.Catalogue.{Catalogue}
use Rattle.memory_engine.specs.Ids.{id_text, image_id_text}
use Rattle.memory_engine.specs.Keeping.{IsKept}
use Rattle.memory_engine.specs.Naming.{name_given}
use Rattle.memory_engine.specs.Serving.{can_be_pulled, conflict, connected, created, forbidden, image_for, image_told, inspected, joined_row, lacks_network, logs_told, network_in_use, network_removed, networks_for, not_found, pulled, removed, served, started, stopped, volume_in_use, volume_removed, with_container, with_created, with_image, without_container, without_network, without_volume}
use Rattle.memory_engine.proofs.AnyAll.{all-filter, all-push, all-with_first}
use Rattle.memory_engine.proofs.Keeps.{is_attached, keeps_changed, keeps_created, keeps_made, keeps_network_removed, keeps_pulled, keeps_removed, keeps_volume_made, keeps_volume_removed}
use Rattle.memory_engine.proofs.Outcomes.{on_container_both, option_both}

-- by a test for the names that were given
module _ (given : List ℕ → Bool) where
  -- whether a container has a name that was given
  abbrev pub is_given : ContainerRow → Bool
  is_given row = given row.name

  -- an Engine that keeps the rules, and whose containers have names that were given
  abbrev pub Holds : Engine → Type 0
  Holds engine = IsKept engine × (list_all is_given engine.containers ≡ true)

  -- an outcome that keeps both
  abbrev Keeps : Reply × Engine → Type 0
  Keeps out = Holds out.1

  -- a container changes, and keeps its id, its name and networks that are there
  keeps_row : (engine : Engine) (id : List ℕ) (f : ContainerRow → ContainerRow)
      → ((row : ContainerRow) → (f row).id ≡ row.id) → ((row : ContainerRow) → (f row).name ≡ row.name)
      → ((row : ContainerRow) → is_attached engine row ≡ true → is_attached engine (f row) ≡ true)
      → Holds engine → Holds (with_container engine id f)
  keeps_row engine id f same_id same_name there holds = (
    keeps_changed engine (λ row. bytes_eq row.id id) f same_id same_name there holds.0,
    all-with_first is_given (λ row. bytes_eq row.id id) f (λ row was. ap given (same_name row) ∙ was) engine.containers holds.1,
  )

  -- a container changes but for its id, its name and its networks
  keeps_with : (engine : Engine) (id : List ℕ) (f : ContainerRow → ContainerRow)
      → ((row : ContainerRow) → (f row).id ≡ row.id) → ((row : ContainerRow) → (f row).name ≡ row.name) → ((row : ContainerRow) → (f row).networks ≡ row.networks)
      → Holds engine → Holds (with_container engine id f)
  keeps_with engine id f same_id same_name same_networks holds =
      keeps_row engine id f same_id same_name
      (λ row there. ap (λ networks. list_all (λ i. is_some (network_at engine i)) networks) (same_networks row) ∙ there) holds

  keeps_inspected : (engine : Engine) (id : List ℕ) → Holds engine → Keeps (inspected engine id)
  keeps_inspected engine id kept = on_container_both Keeps engine id (λ row. (Reply.State row.report, engine)) kept (λ _ _. kept)

  keeps_logs_told : (engine : Engine) (id : List ℕ) → Holds engine → Keeps (logs_told engine id)
  keeps_logs_told engine id kept = on_container_both Keeps engine id (λ row. (Reply.Bytes row.logs, engine)) kept (λ _ _. kept)

  keeps_started : (engine : Engine) (id : List ℕ) → Holds engine → Keeps (started engine id)
  keeps_started engine id kept = on_container_both Keeps engine id (λ row.
      if is_started row.report.state then (Reply.Already, engine)
      else (if can_start row.report.state then (Reply.Done, with_container engine id started_row) else (conflict, engine)))
      kept
      (λ row _. cond_both (is_started row.report.state) (Reply.Already, engine)
      (if can_start row.report.state then (Reply.Done, with_container engine id started_row) else (conflict, engine)) Keeps
      (λ _. kept)
      (λ _. cond_both (can_start row.report.state) (Reply.Done, with_container engine id started_row) (conflict, engine) Keeps
      (λ _. keeps_with engine id started_row (λ _. refl) (λ _. refl) (λ _. refl) kept)
      (λ _. kept)))

  keeps_stopped : (engine : Engine) (id : List ℕ) → Holds engine → Keeps (stopped engine id)
  keeps_stopped engine id kept = on_container_both Keeps engine id (λ row.
      if is_live row.report.state then (Reply.Done, with_container engine id stopped_row) else (Reply.Already, engine))
      kept
      (λ row _. cond_both (is_live row.report.state) (Reply.Done, with_container engine id stopped_row) (Reply.Already, engine) Keeps
      (λ _. keeps_with engine id stopped_row (λ _. refl) (λ _. refl) (λ _. refl) kept)
      (λ _. kept))

  keeps_taken : (engine : Engine) (id : List ℕ) → Holds engine → Keeps (removed engine id)
  keeps_taken engine id kept = on_container_both Keeps engine id (λ row.
      if is_live row.report.state then (conflict, engine) else (Reply.Done, without_container engine id))
      kept
      (λ row _. cond_both (is_live row.report.state) (conflict, engine) (Reply.Done, without_container engine id) Keeps
      (λ _. kept)
      (λ _. (keeps_removed engine id kept.0, all-filter is_given (λ row. not (bytes_eq row.id id)) engine.containers kept.1)))

  keeps_create : (engine : Engine) (name : List ℕ) (spec : ContainerSpec) → engine.next < 2 ^ 64 → given name ≡ true → Holds engine → Keeps (created engine name spec)
  keeps_create engine name spec fits named kept =
      let image = unwrap_or (image_for engine spec) [] in
      let made : Reply × Engine = (Reply.Made (id_text engine.next), with_created engine name spec image) in
      let lacks = is_none (image_for engine spec) || lacks_network engine spec in
      cond_both (has_container_named engine name) (conflict, engine) (if lacks then (not_found, engine) else made) Keeps
      (λ _. kept)
      (λ name_free. cond_both lacks (not_found, engine) made Keeps
      (λ _. kept)
      (λ _. (
        keeps_created engine name spec image fits name_free kept.0,
        all-push is_given (created_row (id_text engine.next) name spec image (networks_for engine spec)) named engine.containers kept.1,
      )))

  keeps_connected : (engine : Engine) (network container : List ℕ) → Holds engine → Keeps (connected engine network container)
  keeps_connected engine network container kept =
      let act : ContainerRow → Reply × Engine = λ row.
      if is_on network row then (forbidden, engine) else (Reply.Done, with_container engine container (joined_row network)) in
      cond_both (is_none (network_at engine network)) (not_found, engine) (option_map_or act (container_at engine container) (not_found, engine)) Keeps
      (λ _. kept)
      (λ there. option_both Keeps act (not_found, engine) (container_at engine container)
      (λ _. kept)
      (λ row _. cond_both (is_on network row) (forbidden, engine) (Reply.Done, with_container engine container (joined_row network)) Keeps
      (λ _. kept)
      (λ _. keeps_row engine container (joined_row network) (λ _. refl) (λ _. refl)
      (λ r attached. all-push (λ i. is_some (network_at engine i)) network (not-false (is_some (network_at engine network)) there) r.networks attached)
      kept)))

  keeps_network_taken : (engine : Engine) (id : List ℕ) → Holds engine → Keeps (network_removed engine id)
  keeps_network_taken engine id kept =
      cond_both (is_none (network_at engine id)) (not_found, engine) (if network_in_use engine id then (forbidden, engine) else (Reply.Done, without_network engine id)) Keeps
      (λ _. kept)
      (λ _. cond_both (network_in_use engine id) (forbidden, engine) (Reply.Done, without_network engine id) Keeps
      (λ _. kept)
      (λ unused. (keeps_network_removed engine id unused kept.0, kept.1)))

  keeps_volume_taken : (engine : Engine) (name : List ℕ) → Holds engine → Keeps (volume_removed engine name)
  keeps_volume_taken engine name kept =
      cond_both (not (has_volume engine name)) (not_found, engine) (if volume_in_use engine name then (conflict, engine) else (Reply.Done, without_volume engine name)) Keeps
      (λ _. kept)
      (λ _. cond_both (volume_in_use engine name) (conflict, engine) (Reply.Done, without_volume engine name) Keeps
      (λ _. kept)
      (λ _. (keeps_volume_removed engine name kept.0, kept.1)))

  keeps_told : (engine : Engine) (name : List ℕ) → Holds engine → Keeps (image_told engine name)
  keeps_told engine name kept = option_both Keeps (λ id. (Reply.ImageId id, engine)) (not_found, engine) (image_at engine name) (λ _. kept) (λ _ _. kept)

  keeps_pull : (catalogue : Catalogue) (engine : Engine) (name : List ℕ) → Holds engine → Keeps (pulled catalogue engine name)
  keeps_pull catalogue engine name kept =
      cond_both (can_be_pulled catalogue name) (Reply.Pulled, record engine { images = with_image engine.images name (image_id_text name) }) (not_found, engine) Keeps
      (λ _. (keeps_pulled engine name (image_id_text name) kept.0, kept.1))
      (λ _. kept)

  pub served_keeps : (catalogue : Catalogue) (engine : Engine) (request : Request) → engine.next < 2 ^ 64 → IfSome (name_given request) (λ name. given name ≡ true)
      → Holds engine → Holds (served catalogue engine request).1
  served_keeps catalogue engine (Request.ListContainers project) fits named kept = kept
  served_keeps catalogue engine (Request.Inspect id) fits named kept = keeps_inspected engine id kept
  served_keeps catalogue engine (Request.Logs id) fits named kept = keeps_logs_told engine id kept
  served_keeps catalogue engine (Request.Create name spec) fits named kept = keeps_create engine name spec fits named kept
  served_keeps catalogue engine (Request.Start id) fits named kept = keeps_started engine id kept
  served_keeps catalogue engine (Request.Stop id seconds) fits named kept = keeps_stopped engine id kept
  served_keeps catalogue engine (Request.Remove id) fits named kept = keeps_taken engine id kept
  served_keeps catalogue engine Request.ListNetworks fits named kept = kept
  served_keeps catalogue engine (Request.MakeNetwork spec) fits named kept = (keeps_made engine spec fits kept.0, kept.1)
  served_keeps catalogue engine (Request.Connect network container aliases) fits named kept = keeps_connected engine network container kept
  served_keeps catalogue engine (Request.RemoveNetwork id) fits named kept = keeps_network_taken engine id kept
  served_keeps catalogue engine Request.ListVolumes fits named kept = kept
  served_keeps catalogue engine (Request.MakeVolume spec) fits named kept = (keeps_volume_made engine spec.name kept.0, kept.1)
  served_keeps catalogue engine (Request.RemoveVolume name) fits named kept = keeps_volume_taken engine name kept
  served_keeps catalogue engine (Request.Image name) fits named kept = keeps_told engine name kept
  served_keeps catalogue engine (Request.Pull name) fits named kept = keeps_pull catalogue engine name kept

  -- after an answer, or none
  pub keeps_answered : {E : Type 0} (catalogue : Catalogue) (engine : Engine) (request : Request) (new : Engine) (result : Result Reply E) → engine.next < 2 ^ 64
      → IfSome (name_given request) (λ name. given name ≡ true) → Holds engine
      → IfOk result (λ reply. served catalogue engine request ≡ (reply, new)) → OnErr result (new ≡ engine) → Holds new
  keeps_answered catalogue engine request new (Ok reply) fits named kept ok err =
      subst (λ (now : Engine). Holds now) (ap (λ (out : Reply × Engine). out.1) ok) (served_keeps catalogue engine request fits named kept)
  keeps_answered catalogue engine request new (Err e) fits named kept ok err =
      subst (λ (now : Engine). Holds now) (sym err) kept
