-- A tree that means a project and is settled throughout is settled, and all is there.
use Rattle.std.proofs.Common.{◌≡◌, ◌∙◌, ℕ, true, List, [], ◌∷◌, Some, None, Option, codes, refl, sym, ap, subst, inl, inr}
use Rattle.std.specs.Prelude.{All}
use Rattle.std.specs.Option.{option_map_or}
use Rattle.std.proofs.lemmas.List.Elements.{All-cons, All-head, All-nil, All-tail}
use Rattle.laws_attributes.proofs.Declaring.{Declares, HasForm, found_holds, section_looks}
use Rattle.laws_attributes.proofs.LongServices.{map_out, null_out}
use Rattle.laws_attributes.specs.Accepted.{AllIsThere, IsWhole, services_in}
use Rattle.attribute_paths.proofs.Trees.{OfAll}
use Rattle.file_paths.specs.Resolving.{Entries}
use Rattle.file_paths.specs.Shapes.{entries_at, entries_in, is_mapping, or_null}
use Rattle.laws_loading.specs.Loads.{IsSettledThroughout}
use Rattle.laws_loading.specs.Settled.{AreSettled, IsSettled, IsSettledService}
use Rattle.tree_base.specs.Entries.{value_at}
use Rattle.tree_base.specs.declared.tree.Tree.{Tree, out-Tree}
use Rattle.tree_base.specs.declared.tree.Tree.TheOpen.{Tree-F}
use Rattle.tree_base.specs.declared.tree.Tree.TheVariants.{outs-Map}

-- a settled service extends none, and has no env files
service_whole : (service : Tree) → IsSettledService service → IsWhole service
service_whole service is =
    let seen : entries_in (out-Tree service) ≡ is.0 = ap (λ (t : Tree). entries_in (out-Tree t)) is.1 ∙ ap entries_in (outs-Map is.0) in
    (ap (λ (es : Entries). value_at es (codes "extends")) seen ∙ is.2, ap (λ (es : Entries). value_at es (codes "env_file")) seen ∙ is.3)

abbrev IsDone : List ℕ × Tree → Type 0
IsDone service = IsSettledService service.1

all_whole : (services : Entries) → All IsDone services → All (λ service. IsWhole service.1) services
all_whole [] h = All-nil (λ service. IsWhole service.1)
all_whole (s ∷ services) h =
    All-cons (λ service. IsWhole service.1) s services (service_whole s.1 (All-head IsDone s services h)) (all_whole services (All-tail IsDone s services h))

pub all_there : (tree : Tree) → IsSettledThroughout tree → AllIsThere tree
all_there tree is = (is.0, all_whole (services_in tree) is.1)

of_all : (services : Entries) → All IsDone services → OfAll IsDone services
of_all [] h = tt
of_all (s ∷ services) h = (All-head IsDone s services h, of_all services (All-tail IsDone s services h))

-- what stands at `services`
services_settled : (found : Option Tree) → ((tree : Tree) → found ≡ Some tree → or_null is_mapping (out-Tree tree) ≡ true)
    → OfAll IsDone (option_map_or (λ tree. entries_in (out-Tree tree)) found []) → AreSettled found
services_settled None looks h = inl refl
services_settled (Some tree) looks h = at (out-Tree tree) refl (looks tree refl)
  where
    at : (s : Tree-F Tree) → out-Tree tree ≡ s → or_null is_mapping s ≡ true → AreSettled (Some tree)
    at Tree-F.Null is e = inr (inl (ap Some (null_out tree is)))
    at (Tree-F.Scalar text) is e = absurd (cc e)
    at (Tree-F.Map services) is e =
        inr (inr (services, ap Some (map_out tree services is), λ name service found. found_holds IsDone services name service (subst (λ (t : Tree-F Tree). OfAll IsDone (entries_in t)) is h) found))
    at (Tree-F.Seq items) is e = absurd (cc e)
    at Tree-F.Reset is e = absurd (cc e)
    at (Tree-F.Override inner) is e = absurd (cc e)

pub tree_settled : (name : List ℕ) (tree : Tree) → Declares name tree → IsSettledThroughout tree → IsSettled tree
tree_settled name tree declared settled = at (out-Tree tree) refl declared.rooted
  where
    at : (s : Tree-F Tree) → out-Tree tree ≡ s → or_null is_mapping s ≡ true → IsSettled tree
    at Tree-F.Null is e = inl (null_out tree is)
    at (Tree-F.Scalar text) is e = absurd (cc e)
    at (Tree-F.Map top) is e =
        let forms : OfAll HasForm top = subst (λ (s : Tree-F Tree). OfAll HasForm (entries_in s)) is declared.formed in
        let all : OfAll IsDone (entries_at (codes "services") top) = subst (λ (s : Tree-F Tree). OfAll IsDone (entries_at (codes "services") (entries_in s))) is (of_all (services_in tree) settled.1) in
        inr (
          top,
          map_out tree top is,
          ap (λ (s : Tree-F Tree). value_at (entries_in s) (codes "include")) (sym is) ∙ settled.0,
          services_settled (value_at top (codes "services"))
              (λ found there. (let f = found_holds HasForm top (codes "services") found forms there in section_looks (out-Tree found) f.0 f.1))
              all,
        )
    at (Tree-F.Seq items) is e = absurd (cc e)
    at Tree-F.Reset is e = absurd (cc e)
    at (Tree-F.Override inner) is e = absurd (cc e)
