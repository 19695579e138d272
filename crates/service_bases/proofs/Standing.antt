-- Services that extend nothing stay as they are.
use Rattle.std.proofs.Common.{◌≡◌, ◌≤◌, ◌∙◌, ℕ, zero, suc, Bool, true, false, cond, List, [], ◌∷◌, None, Result, Some, length, drop, refl, ap, subst, arith}
use Rattle.std.specs.Map.{values_of}
use Rattle.std.specs.Str.{bytes_eq}
use Rattle.std.specs.Prelude.{codes}
use Rattle.std.specs.List.{AllByRecursion}
use Rattle.file_paths.specs.Paths.{Variables}
use Rattle.file_paths.specs.Resolving.{Entries}
use Rattle.loaded_files.specs.Reads.{◌>>=◌, Load, after, give}
use Rattle.loaded_files.specs.declared.refusal.LoadRefusal.{LoadRefusal}
use Rattle.loaded_files.proofs.Names.{Stands, names_stand, put_same}
use Rattle.service_bases.specs.Bases.{Alone, AllAlone, main_source}
use Rattle.service_bases.specs.Chains.{laid_up}
use Rattle.service_bases.specs.Extending.{all_extended, chain_over, continued, extended, services_extended}
use Rattle.service_bases.specs.declared.chain.Chain.{Chain}
use Rattle.service_bases.specs.declared.chain.Layer.{Layer}
use Rattle.service_bases.proofs.Alone.{chain_alone, laid_alone}
use Rattle.loaded_files.specs.Fields.{names_of}
use Rattle.std.specs.Prelude.{reverse}
use Rattle.tree_base.specs.Entries.{value_at, with_entry}
use Rattle.tree_base.specs.declared.Tree.{Map}

module _ (env : Variables) (file : List ℕ) (services : Entries) (left : ℕ) where
  abbrev then_laid : List Layer × ℕ → Load (Entries × ℕ)
  then_laid got = after (laid_up (reverse got.0)) (λ service. give (service, got.1))

  alone : (name : List ℕ) (entries : Entries) → value_at services name ≡ Some (Map entries) → value_at entries (codes "extends") ≡ None → extended env (main_source file services) name left ≡ give (entries, left)
  alone name entries at none =
      ap (λ (r : Result Chain LoadRefusal). after r (λ chain. continued env (chain_over left env) chain.layers left chain.next) >>= then_laid) (chain_alone env file services name entries at none)
      ∙ ap (λ (r : Result Entries LoadRefusal). after r (λ service. give (service, left))) (laid_alone env file services name entries at none)

  module _ (are : AllAlone services) where
    all_alone : (names : List (List ℕ)) → AllByRecursion (Stands services) names → all_extended env (main_source file services) names services left ≡ give (services, left)
    all_alone [] a = refl
    all_alone (name ∷ names) a =
        let is = are name a.0.0 a.0.1 in
        let at : value_at services name ≡ Some (Map is.0) = a.0.1 ∙ ap Some is.1 in
        ap (λ (l : Load (Entries × ℕ)). l >>= λ got. all_extended env (main_source file services) names (with_entry services name (Map got.0)) got.1) (alone name is.0 at is.2)
        ∙ ap (λ (all : Entries). all_extended env (main_source file services) names all left) (put_same services name (Map is.0) at)
        ∙ all_alone names a.1

    pub services_stand : services_extended env file services left ≡ give (services, left)
    services_stand = all_alone (names_of services) (names_stand services)

-- none of some services extends anything where none of their values does
pub by_values : (services : Entries) → AllByRecursion Alone (values_of services) → AllAlone services
by_values [] all name service at = absurd (let wrong : ⊥ = cc in wrong)
by_values (e ∷ es) all name service at = by (bytes_eq name e.0) (by_values es all.1 name service) at
  where
    by : (b : Bool) → (value_at es name ≡ Some service → Alone service) → cond b (Some e.1) (value_at es name) ≡ Some service → Alone service
    by true rest h = let same : e.1 ≡ service = cc in subst Alone same all.0
    by false rest h = rest h

-- nothing is left past the last
pub none_more : {X : Type 0} (xs : List X) (i : ℕ) → length xs ≤ i → drop i xs ≡ []
none_more [] zero h = refl
none_more [] (suc i) h = refl
none_more (x ∷ xs) zero h = absurd (omega arith)
none_more (x ∷ xs) (suc i) h = none_more xs i (omega arith)
