use Rattle.std.proofs.Common.{◌≡◌, ◌∙◌, ℕ, List, ap, not}
use Rattle.std.specs.List.{insert, position_or_len}
use Rattle.typed_project.specs.declared.network.Network.{Network}
use Rattle.tree_base.specs.ByteOrder.{is_before}
use Rattle.project_meaning.proofs.Inserting.{inserted, place}
use Rattle.project_meaning.proofs.places.with_network.Goals as goal

pub returns : goal.returns
returns c =
    let one = c.args.network in
    let all = c.args.networks in
    let at : c.place_of_key-at.result ≡ place (λ (x : Network). x.key) one all =
    c.place_of_key-at.ensures.value ∙ ap (λ (l : List Network). position_or_len (λ (other : Network). not (is_before other.key one.key)) l) c.as_slice.ensures in
    c.from_vec.ensures
    ∙ c.in_ok-insert.ensures.items
    ∙ ap (λ (l : List Network). insert l c.place_of_key-at.result one) c.into_vec-items.ensures
    ∙ ap (λ (n : ℕ). insert all n one) at
    ∙ inserted (λ (x : Network). x.key) one all
