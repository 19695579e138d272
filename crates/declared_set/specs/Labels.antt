-- The labels of a container: those of its service, what its project was loaded from, what its service depends on, and those by which it is
-- known (Docker Compose's labels, and one of this program's own).
use Rattle.std.specs.Prelude.{ℕ, Bool, true, false, List, [], ◌++◌, codes, decimal, map, unwrap_or}
use Rattle.std.specs.List.{join_by}
use Rattle.attribute_types.specs.Lookups.{pairs_at}
use Rattle.attribute_types.specs.declared.rows.Dependency.{Dependency}
use Rattle.declared_resources.specs.Resources.{label_entry, variable_of}
use Rattle.engine_types.specs.Labels as the
use Rattle.project_pages.specs.AttributePages.{condition_word}
use Rattle.service_graph.specs.Cycles.{dependencies_of}
use Rattle.tree_base.specs.ByteOrder.{by_key}
use Rattle.tree_base.specs.Entries.{with_entry}
use Rattle.tree_base.specs.declared.Var.{Var}
use Rattle.typed_project.specs.declared.service.Service.{Service}
use Rattle.declared_set.specs.declared.loaded_project.LoadedProject.{LoadedProject}

-- the labels that a service gives its containers
abbrev pub own_labels : Service → List (List ℕ × List ℕ)
own_labels service = map label_entry (unwrap_or (pairs_at service.attributes (codes "labels")) [])

-- the name of the label that says from which Compose files a container's project was loaded
abbrev pub config_files_label : List ℕ
config_files_label = codes "com.docker.compose.project.config_files"

-- the name of the label that says which directory is the project's
abbrev pub working_dir_label : List ℕ
working_dir_label = codes "com.docker.compose.project.working_dir"

-- paths of Compose files in that label: in their order, with commas
abbrev pub config_files_text : List (List ℕ) → List ℕ
config_files_text files = join_by (λ path. path) (codes ",") files

-- labels with the files and the directory that a project was loaded from, each in place of one of its name
abbrev pub with_origin : LoadedProject → List (List ℕ × List ℕ) → List (List ℕ × List ℕ)
with_origin loaded labels =
    with_entry (with_entry labels config_files_label (config_files_text loaded.files))
    working_dir_label loaded.directory

-- the name of the label that says what a container's service depends on
abbrev pub depends_on_label : List ℕ
depends_on_label = codes "com.docker.compose.depends_on"

-- whether a service is to be restarted with the one that it depends on
abbrev pub restart_word : Bool → List ℕ
restart_word true = codes "true"
restart_word false = codes "false"

-- a dependency in that label: the key of the service, what is waited for, and whether it restarts with it
abbrev pub dependency_text : Dependency → List ℕ
dependency_text dependency =
    dependency.key ++ codes ":" ++ condition_word dependency.condition ++ codes ":" ++ restart_word dependency.restart

-- all that a service depends on, in byte order of the keys, with commas; nothing is the empty text
abbrev pub depends_on_text : Service → List ℕ
depends_on_text service = join_by dependency_text (codes ",") (dependencies_of service)

-- labels with what the service depends on, in place of one of that name
abbrev pub with_dependencies : Service → List (List ℕ × List ℕ) → List (List ℕ × List ℕ)
with_dependencies service labels = with_entry labels depends_on_label (depends_on_text service)

-- with what the container is: of which project and service, which of its numbers, and made by which hash; each in place of an own label of its name
abbrev pub with_known : List ℕ → List ℕ → List ℕ → ℕ → List (List ℕ × List ℕ) → List (List ℕ × List ℕ)
with_known project service hash number own =
    with_entry (with_entry (with_entry (with_entry (with_entry (with_entry own
    the.project_label project) the.service_label service)
    the.number_label (decimal number)) the.hash_label hash)
    the.version_label the.hash_version) the.oneoff_label the.not_oneoff

-- the labels of a service's container with a number, in byte order of their names
abbrev pub container_labels : LoadedProject → Service → List ℕ → ℕ → List Var
container_labels loaded service hash number =
    by_key (λ variable. variable.name)
    (map variable_of (with_known loaded.project.name service.key hash number
    (with_dependencies service (with_origin loaded (own_labels service)))))
