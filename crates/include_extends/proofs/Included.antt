-- What the steps of included models give, by what their reads gave.
use Rattle.std.proofs.Common.{◌≡◌, ℕ, zero, suc, ◌-◌, List, ◌∷◌, ◌++◌, None, Option, Result, Ok, Err, refl, subst, sub-one}
use Rattle.file_paths.specs.Paths.{Variables}
use Rattle.include_extends.specs.Includes.{Models, first_or, include_items, item_places, items_included, model, not_begun, own_model, places_included, with_includes, without_include}
use Rattle.include_extends.specs.Merged.{merged_model}
use Rattle.include_extends.specs.Sections.{added_to}
use Rattle.include_extends.specs.Services.{with_services}
use Rattle.include_extends.specs.declared.model.Model.{Model}
use Rattle.include_extends.specs.declared.request.Places.{Places}
use Rattle.loaded_files.specs.Reads.{◌>>=◌, Gives, IsGiven, Load, Ran, after, give}
use Rattle.loaded_files.specs.declared.reads.Seen.{Seen}
use Rattle.loaded_files.specs.declared.refusal.LoadRefusal.{LoadRefusal}
use Rattle.loaded_files.specs.declared.refusal.LoadRefusal.TheVariants.{TooManyFiles}
use Rattle.loaded_files.proofs.Runs.{given_on, given_out, gives_on, gives_out, ran_on, ran_out}
use Rattle.outside_files.specs.Files.{Contents}
use Rattle.tree_base.specs.declared.Tree.{Tree, out-Tree}

module _ (told : Option Contents) where
  -- an included model, and what it declares
  module _ (models : Models) (env : Variables) (begun : List (List ℕ)) (places : Places) (tree : Tree) (left : ℕ) where
    abbrev pub theirs : Load Model
    theirs = models places env (begun ++ places.files) None left

    abbrev pub added : Model → Result Tree LoadRefusal
    added own = added_to (first_or places.directory places.files) own.tree tree

    abbrev as_tree : ℕ → Tree → Load (Tree × ℕ)
    as_tree rest all = give (all, rest)

    abbrev then_added : Model → Load (Tree × ℕ)
    then_added own = after (added own) (as_tree own.left)

    abbrev then_theirs : Unit {0} → Load (Tree × ℕ)
    then_theirs ok = theirs >>= then_added

    pub is_begun : (e : LoadRefusal) → IsGiven {X = Unit {0}} (Err e) (not_begun begun places.files) → Gives {X = Tree × ℕ} told (Err e) (places_included models env begun places tree left)
    is_begun e h = given_out told (not_begun begun places.files) then_theirs e h

    module _ (h : IsGiven (Ok tt) (not_begun begun places.files)) where
      pub model_refused : (e : LoadRefusal) → Gives {X = Model} told (Err e) theirs → Gives {X = Tree × ℕ} told (Err e) (places_included models env begun places tree left)
      model_refused e k = given_on told (not_begun begun places.files) then_theirs tt (Err e) h (gives_out told theirs then_added e k)

      module _ (own : Model) (k : Gives told (Ok own) theirs) where
        pub add_refused : (e : LoadRefusal) → IsGiven {X = Tree} (Err e) (added own) → Gives {X = Tree × ℕ} told (Err e) (places_included models env begun places tree left)
        add_refused e l = given_on told (not_begun begun places.files) then_theirs tt (Err e) h (gives_on told theirs then_added own (Err e) k (given_out told (added own) (as_tree own.left) e l))

        pub add_there : (all : Tree) → IsGiven (Ok all) (added own) → Gives told (Ok (all, own.left)) (places_included models env begun places tree left)
        add_there all l =
            given_on told (not_begun begun places.files) then_theirs tt (Ok (all, own.left)) h
            (gives_on told theirs then_added own (Ok (all, own.left)) k (given_on told (added own) (as_tree own.left) all (Ok (all, own.left)) l (λ n. refl)))

  -- the items of `include`, one after another
  module _ (models : Models) (directory : List ℕ) (env : Variables) (begun : List (List ℕ)) (item : Tree) (items : List Tree) (tree : Tree) (left : ℕ) where
    abbrev pub this : Load (Tree × ℕ)
    this = places_included models env begun (item_places directory (out-Tree item)) tree left

    abbrev then_items : Tree × ℕ → Load (Tree × ℕ)
    then_items got = items_included models directory env begun items got.0 got.1

    pub item_on : (all : Tree) (rest : ℕ) (r : Result (Tree × ℕ) LoadRefusal) → Gives told (Ok (all, rest)) this → Ran told (items_included models directory env begun items all rest) r
        → Ran told (items_included models directory env begun (item ∷ items) tree left) r
    item_on all rest r h k = ran_on told this then_items (all, rest) r (h (λ q. cc)) k

    pub item_out : (e : LoadRefusal) → Ran {X = Tree × ℕ} told this (Err e) → Ran {X = Tree × ℕ} told (items_included models directory env begun (item ∷ items) tree left) (Err e)
    item_out e h = ran_out told this then_items e h

  -- a model with what it includes
  module _ (models : Models) (directory : List ℕ) (begun : List (List ℕ)) (own : Model) where
    abbrev pub all_items : Load (Tree × ℕ)
    all_items = items_included models directory own.env begun (include_items (out-Tree own.tree)) (without_include own.tree (out-Tree own.tree)) own.left

    abbrev as_model : Tree × ℕ → Load Model
    as_model got = give (record { tree = got.0; env = own.env; left = got.1 })

    pub items_refused : (e : LoadRefusal) → Gives {X = Tree × ℕ} told (Err e) all_items → Gives {X = Model} told (Err e) (with_includes models directory begun own)
    items_refused e h = gives_out told all_items as_model e h

    pub items_there : (tree : Tree) (rest : ℕ) → Gives told (Ok (tree, rest)) all_items → Gives told (Ok (record { tree = tree; env = own.env; left = rest })) (with_includes models directory begun own)
    items_there tree rest h = gives_on told all_items as_model (tree, rest) (Ok (record { tree = tree; env = own.env; left = rest })) h (λ n. refl)

  -- a model without what it includes, and with it
  module _ (places : Places) (caller : Variables) (found : Option Seen) (left : ℕ) where
    abbrev pub merged : Load Model
    merged = merged_model places.files places.directory places.env_files caller found left

    pub not_merged : (e : LoadRefusal) → Gives {X = Model} told (Err e) merged → Gives {X = Model} told (Err e) (own_model places caller found left)
    not_merged e h = gives_out told merged (with_services (first_or places.directory places.files)) e h

    pub is_merged : (own : Model) (r : Result Model LoadRefusal) → Gives told (Ok own) merged → Gives told r (with_services (first_or places.directory places.files) own) → Gives told r (own_model places caller found left)
    is_merged own r h k = gives_on told merged (with_services (first_or places.directory places.files)) own r h k

    -- where no level is left, and where one is
    module _ (begun : List (List ℕ)) where
      pub no_level : (levels : ℕ) → levels ≡ 0 → Gives {X = Model} told (Err (TooManyFiles (first_or places.directory places.files))) (model levels places caller begun found left)
      no_level zero e = λ n. refl
      no_level (suc levels) e = absurd cc

      pub some_level : (levels : ℕ) (r : Result Model LoadRefusal) → (levels ≡ 0 → ⊥) → Gives told r (model (suc (levels - 1)) places caller begun found left) → Gives told r (model levels places caller begun found left)
      some_level zero r n h = absurd (n refl)
      some_level (suc levels) r n h = subst (λ (l : ℕ). Gives told r (model (suc l) places caller begun found left)) (sub-one (suc levels)) h

    module _ (levels : ℕ) (begun : List (List ℕ)) where
      pub own_refused : (e : LoadRefusal) → Gives {X = Model} told (Err e) (own_model places caller found left) → Gives {X = Model} told (Err e) (model (suc levels) places caller begun found left)
      own_refused e h = gives_out told (own_model places caller found left) (with_includes (model levels) places.directory begun) e h

      pub own_there : (own : Model) (r : Result Model LoadRefusal) → Gives told (Ok own) (own_model places caller found left) → Gives told r (with_includes (model levels) places.directory begun own)
          → Gives told r (model (suc levels) places caller begun found left)
      own_there own r h k = gives_on told (own_model places caller found left) (with_includes (model levels) places.directory begun) own r h k
