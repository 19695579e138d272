-- What an included file declares, added entry by entry and kind by kind.
use Rattle.std.proofs.Common.{◌≡◌, ◌∙◌, ℕ, List, [], ◌∷◌, ◌+◌, Bool, true, false, cond, drop, slice_get, is_some, Some, Result, Ok, Err, refl, sym, ap}
use Rattle.std.specs.Prelude.{codes}
use Rattle.file_paths.specs.Resolving.{Entries}
use Rattle.file_paths.specs.Shapes.{entries_at, entries_in}
use Rattle.include_extends.specs.Sections.{added, added_to, section_added, sections, sections_added}
use Rattle.include_extends.specs.Services.{bounded}
use Rattle.loaded_files.specs.Reads.{IsGiven}
use Rattle.loaded_files.proofs.Givens.{same_given, then_given, then_refused}
use Rattle.tree_base.specs.Answers.{◌>>=◌}
use Rattle.loaded_files.specs.declared.refusal.Kind.{Kind}
use Rattle.loaded_files.specs.declared.refusal.Kind.TheVariants as kinds
use Rattle.loaded_files.specs.declared.refusal.LoadRefusal.{LoadRefusal}
use Rattle.loaded_files.specs.declared.refusal.LoadRefusal.TheVariants.{Conflict, Memory}
use Rattle.loaded_files.proofs.Laid.{next_item}
use Rattle.tree_base.specs.Entries.{value_at, with_entry}
use Rattle.tree_base.specs.declared.Tree.{Tree, Map, out-Tree}

-- what is declared of a kind, where it is something
pub section_on : (file : List ℕ) (section : List ℕ × Kind) (theirs top : Entries) → (theirs ≡ [] → ⊥)
    → section_added file section theirs top ≡ (added section.1 file theirs (entries_at section.0 top) >>= λ mine. Ok (with_entry top section.0 (Map mine)))
section_on file section [] top n = absurd (n refl)
section_on file section (entry ∷ more) top n = refl

pub section_off : (file : List ℕ) (section : List ℕ × Kind) (theirs top : Entries) → theirs ≡ [] → section_added file section theirs top ≡ Ok top
section_off file section theirs top e = ap (λ (es : Entries). section_added file section es top) e

-- what is declared of a kind is refused, or put in its section
module _ (file : List ℕ) (section : List ℕ × Kind) (theirs top : Entries) (n : theirs ≡ [] → ⊥) where
  abbrev pub joined : Result Entries LoadRefusal
  joined = added section.1 file theirs (entries_at section.0 top)

  abbrev as_section : Entries → Result Entries LoadRefusal
  as_section mine = Ok (with_entry top section.0 (Map mine))

  pub section_refused : (e : LoadRefusal) → IsGiven {X = Entries} (Err e) joined → IsGiven {X = Entries} (Err e) (section_added file section theirs top)
  section_refused e h = same_given (Err e) (joined >>= as_section) (section_added file section theirs top) (sym (section_on file section theirs top n)) (then_refused joined as_section e h)

  pub section_put : (all whole : Entries) → IsGiven (Ok all) joined → whole ≡ with_entry top section.0 (Map all) → IsGiven (Ok whole) (section_added file section theirs top)
  section_put all whole h s =
      same_given (Ok whole) (joined >>= as_section) (section_added file section theirs top) (sym (section_on file section theirs top n))
      (then_given joined as_section all (Ok whole) h (λ q. ap (λ (es : Entries). Ok es) s))

-- one kind after another
module _ (file : List ℕ) (section : List ℕ × Kind) (more : List (List ℕ × Kind)) (theirs top : Entries) where
  abbrev one : Result Entries LoadRefusal
  one = section_added file section (entries_at section.0 theirs) top

  pub kind_out : (e : LoadRefusal) → IsGiven {X = Entries} (Err e) one → IsGiven {X = Entries} (Err e) (sections_added file (section ∷ more) theirs top)
  kind_out e h = then_refused one (sections_added file more theirs) e h

  pub kind_on : (next : Entries) (r : Result Entries LoadRefusal) → IsGiven (Ok next) one → IsGiven r (sections_added file more theirs next) → IsGiven r (sections_added file (section ∷ more) theirs top)
  kind_on next r h k = then_given one (sections_added file more theirs) next r h k

-- the last kind
pub last_kind : (file : List ℕ) (section : List ℕ × Kind) (theirs top : Entries) (r : Result Entries LoadRefusal) → IsGiven r (section_added file section (entries_at section.0 theirs) top)
    → IsGiven r (sections_added file (section ∷ []) theirs top)
last_kind file section theirs top r h = λ n. at (section_added file section (entries_at section.0 theirs) top) (h n)
  where
    at : (one : Result Entries LoadRefusal) → r ≡ one → r ≡ (one >>= sections_added file [] theirs)
    at (Ok x) e = e
    at (Err x) e = e

-- the kinds of `sections`, one after another
abbrev services : List ℕ × Kind
services = (codes "services", kinds.Service)

abbrev networks : List ℕ × Kind
networks = (codes "networks", kinds.Network)

abbrev volumes : List ℕ × Kind
volumes = (codes "volumes", kinds.Volume)

abbrev secrets : List ℕ × Kind
secrets = (codes "secrets", kinds.Secret)

abbrev configs : List ℕ × Kind
configs = (codes "configs", kinds.Config)

module _ (file : List ℕ) (theirs top : Entries) where
  abbrev with_kind : List ℕ × Kind → Entries → Result Entries LoadRefusal
  with_kind section all = section_added file section (entries_at section.0 theirs) all

  pub services_out : (e : LoadRefusal) → IsGiven {X = Entries} (Err e) (with_kind services top) → IsGiven {X = Entries} (Err e) (sections_added file sections theirs top)
  services_out e h = kind_out file services (networks ∷ volumes ∷ secrets ∷ configs ∷ []) theirs top e h

  module _ (first : Entries) (h : IsGiven (Ok first) (with_kind services top)) where
    on_first : (r : Result Entries LoadRefusal) → IsGiven r (sections_added file (networks ∷ volumes ∷ secrets ∷ configs ∷ []) theirs first) → IsGiven r (sections_added file sections theirs top)
    on_first r k = kind_on file services (networks ∷ volumes ∷ secrets ∷ configs ∷ []) theirs top first r h k

    pub networks_out : (e : LoadRefusal) → IsGiven {X = Entries} (Err e) (with_kind networks first) → IsGiven {X = Entries} (Err e) (sections_added file sections theirs top)
    networks_out e k = on_first (Err e) (kind_out file networks (volumes ∷ secrets ∷ configs ∷ []) theirs first e k)

    module _ (second : Entries) (k : IsGiven (Ok second) (with_kind networks first)) where
      on_second : (r : Result Entries LoadRefusal) → IsGiven r (sections_added file (volumes ∷ secrets ∷ configs ∷ []) theirs second) → IsGiven r (sections_added file sections theirs top)
      on_second r l = on_first r (kind_on file networks (volumes ∷ secrets ∷ configs ∷ []) theirs first second r k l)

      pub volumes_out : (e : LoadRefusal) → IsGiven {X = Entries} (Err e) (with_kind volumes second) → IsGiven {X = Entries} (Err e) (sections_added file sections theirs top)
      volumes_out e l = on_second (Err e) (kind_out file volumes (secrets ∷ configs ∷ []) theirs second e l)

      module _ (third : Entries) (l : IsGiven (Ok third) (with_kind volumes second)) where
        on_third : (r : Result Entries LoadRefusal) → IsGiven r (sections_added file (secrets ∷ configs ∷ []) theirs third) → IsGiven r (sections_added file sections theirs top)
        on_third r m = on_second r (kind_on file volumes (secrets ∷ configs ∷ []) theirs second third r l m)

        pub secrets_out : (e : LoadRefusal) → IsGiven {X = Entries} (Err e) (with_kind secrets third) → IsGiven {X = Entries} (Err e) (sections_added file sections theirs top)
        secrets_out e m = on_third (Err e) (kind_out file secrets (configs ∷ []) theirs third e m)

        pub configs_added : (fourth : Entries) (r : Result Entries LoadRefusal) → IsGiven (Ok fourth) (with_kind secrets third) → IsGiven r (with_kind configs fourth) → IsGiven r (sections_added file sections theirs top)
        configs_added fourth r m n = on_third r (kind_on file secrets (configs ∷ []) theirs third fourth r m (last_kind file configs theirs fourth r n))

-- the kinds, and then the limits
module _ (file : List ℕ) (theirs tree : Tree) where
  abbrev pub all_sections : Result Entries LoadRefusal
  all_sections = sections_added file sections (entries_in (out-Tree theirs)) (entries_in (out-Tree tree))

  abbrev then_bounded : Entries → Result Tree LoadRefusal
  then_bounded all = bounded file (Map all)

  pub sections_refused : (e : LoadRefusal) → IsGiven {X = Entries} (Err e) all_sections → IsGiven {X = Tree} (Err e) (added_to file theirs tree)
  sections_refused e h = then_refused all_sections then_bounded e h

  pub sections_there : (all : Entries) (r : Result Tree LoadRefusal) → IsGiven (Ok all) all_sections → IsGiven r (bounded file (Map all)) → IsGiven r (added_to file theirs tree)
  sections_there all r h k = then_given all_sections then_bounded all r h k

module _ (kind : Kind) (file : List ℕ) (theirs mine : Entries) (i : ℕ) (name : List ℕ) (value : Tree) (at : slice_get theirs i ≡ Some (name, value)) where
  opened : added kind file (drop i theirs) mine ≡ added kind file ((name, value) ∷ drop (i + 1) theirs) mine
  opened = ap (λ (es : Entries). added kind file es mine) (next_item theirs i (name, value) at)

  abbrev by : Bool → Result Entries LoadRefusal
  by is = cond is (Err (Conflict kind name file)) (added kind file (drop (i + 1) theirs) (with_entry mine name value))

  -- a name that isn't there is put, and one that is there is in conflict
  pub is_new : (put : Entries) → is_some (value_at mine name) ≡ false → put ≡ with_entry mine name value → added kind file (drop (i + 1) theirs) put ≡ added kind file (drop i theirs) mine
  is_new put e s = ap (added kind file (drop (i + 1) theirs)) s ∙ sym (opened ∙ ap by e)

  pub is_there : is_some (value_at mine name) ≡ true → added kind file (drop i theirs) mine ≡ Err (Conflict kind name file)
  is_there e = opened ∙ ap by e

  -- what is refused of an entry is refused of the whole
  pub is_met : (whole : Result Entries LoadRefusal) (e : LoadRefusal) → ((e ≡ Memory → ⊥) → (e ≡ Conflict kind name file) × (is_some (value_at mine name) ≡ true))
      → added kind file (drop i theirs) mine ≡ whole → IsGiven (Err e) whole
  is_met whole e met s = λ n.
      let m = met (λ q. n (ap (λ (x : LoadRefusal). Err x) q)) in
      ap (λ (x : LoadRefusal). Err x) m.0 ∙ sym (is_there m.1) ∙ s
