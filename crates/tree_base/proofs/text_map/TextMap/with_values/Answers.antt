use Rattle.std.proofs.Common.{◌≡◌, ◌∙◌, sym, ap, length}
use Rattle.std.proofs.lemmas.List.{length-map}
use Rattle.std.proofs.lemmas.Map.Made.{keys_of-zip}
use Rattle.std.specs.List.{zip}
use Rattle.std.specs.Map.{keys_of}
use Rattle.tree_base.proofs.text_map.TextMap.with_values.Goals as goal

pub invariant_of-result : goal.invariant_of-result
invariant_of-result g c =
    let keys : c.in_ok-keys.keys.keys ≡ keys_of c.args.self.now = c.in_ok-keys.ensures ∙ c.as_slice.ensures.keys ∙ sym (keys_of-zip _ _ c.self.invariant) ∙ ap keys_of c.self.view_is in
    c.requires ∙ sym (length-map c.args.self.now _) ∙ ap length (sym keys)

pub returns : goal.returns
returns g c =
    let keys : c.in_ok-keys.keys.keys ≡ keys_of c.args.self.now = c.in_ok-keys.ensures ∙ c.as_slice.ensures.keys ∙ sym (keys_of-zip _ _ c.self.invariant) ∙ ap keys_of c.self.view_is in
    ap (λ ks. zip ks c.args.values) keys
