-- Services that are known: what each is over its chain.
use Rattle.std.proofs.Common.{◌≡◌, ◌∙◌, ℕ, ◌+◌, ◌<◌, ◌≤◌, Bool, true, false, List, [], ◌∷◌, ◌++◌, length, reverse, Option, Some, None, Result, Ok, refl, sym, ap, subst, inl, inr, arith}
use Rattle.std.specs.Str.{bytes_eq}
use Rattle.std.proofs.lemmas.List.{reverse-append}
use Rattle.std.proofs.lemmas.Slice.Eq.{bytes_eq-Decides}
use Rattle.file_paths.specs.Paths.{Variables}
use Rattle.file_paths.specs.Resolving.{Entries}
use Rattle.loaded_files.specs.Reads.{◌>>=◌, Gives, Load, Ran, after, give}
use Rattle.loaded_files.specs.declared.refusal.LoadRefusal.{LoadRefusal}
use Rattle.outside_files.specs.Files.{Contents}
use Rattle.merge_rules.proofs.EntryPlaces.{other_value, own_value}
use Rattle.service_bases.specs.Bases.{base_named, extends_of, service_in}
use Rattle.service_bases.specs.Chains.{laid_up, layer_for, layer_over}
use Rattle.service_bases.specs.Extending.{chain_over, continued, extended}
use Rattle.service_bases.specs.Known.{AreWhole, Chains, IsExtended, IsOver, IsWhole, Leads}
use Rattle.service_bases.specs.declared.chain.Chain.{Chain}
use Rattle.service_bases.specs.declared.chain.Layer.{Layer}
use Rattle.service_bases.specs.declared.known.Whole.{Whole}
use Rattle.service_bases.specs.declared.source.Source.{Source}
use Rattle.service_bases.proofs.InParts.{laid_last}
use Rattle.service_bases.proofs.Walked.{walks}
use Rattle.tree_base.specs.Entries.{value_at, with_entry}

-- one layer more, turned
turned : (layers more : List Layer) (layer : Layer) → more ≡ layers ++ layer ∷ [] → reverse more ≡ layer ∷ reverse layers
turned layers more layer e = ap reverse e ∙ reverse-append layers (layer ∷ [])

not_empty : (layers : List Layer) (layer : Layer) → layers ++ layer ∷ [] ≡ [] → ⊥
not_empty [] layer e = let wrong : ⊥ = cc in wrong
not_empty (l ∷ layers) layer e = let wrong : ⊥ = cc in wrong

module _ (env : Variables) (source : Source) where
  has_layers : (name : List ℕ) (chain : List Layer) → Chains env source name chain → reverse chain ≡ [] → ⊥
  has_layers name [] chains e = absurd chains
  has_layers name (layer ∷ chain) chains e = not_empty (reverse chain) layer (sym (reverse-append (layer ∷ []) chain) ∙ e)

  -- a service that extends nothing
  pub alone_whole : (name : List ℕ) (service : Entries) (layer : Layer) → layer ≡ layer_for source.file name service → service_in env source name ≡ Ok service → extends_of service ≡ None
      → 0 < length source.services → IsWhole env source name (record { service = layer.service; length = 1 })
  alone_whole name service layer is found none some = record {
    chain = layer ∷ [];
    chains = (service, is, found, inl (none, refl));
    laid = refl;
    length_is = refl;
    within = omega (arith, some);
  }

  -- and one over a base that is known
  pub over_whole : (own base : List ℕ) (service : Entries) (layer : Layer) (below whole : Whole) → layer ≡ layer_for source.file own service → service_in env source own ≡ Ok service
      → extends_of service ≡ Some (base_named None base) → IsWhole env source base below → IsOver source below layer whole → IsWhole env source own whole
  over_whole own base service layer below whole is found extends w o = record {
    chain = layer ∷ w.chain;
    chains = (service, is, found, inr (base, extends, w.chains));
    laid =
        ap laid_up (reverse-append (layer ∷ []) w.chain)
        ∙ laid_last (reverse w.chain) layer below.service whole.service w.laid (has_layers base w.chain w.chains) o.laid;
    length_is = let l = w.length_is in let m = o.length_is in omega (arith, l, m);
    within = o.within;
  }

  -- what is known is what it is extended to
  pub is_extended : (name : List ℕ) (whole : Whole) → IsWhole env source name whole → IsExtended env source name whole.service
  is_extended name whole w left =
      let l = w.length_is in
      let b = w.within in
      let steps : length w.chain ≤ length source.services = omega (arith, l, b) in
      ap (λ (r : Result Chain LoadRefusal). after r (λ chain. continued env (chain_over left env) chain.layers left chain.next) >>= λ got. after (laid_up (reverse got.0)) (λ service. give (service, got.1)))
      (walks env source (length source.services) name [] w.chain tt w.chains steps)
      ∙ ap (λ (r : Result Entries LoadRefusal). after r (λ service. give (service, left))) w.laid

  -- a service more that is known
  pub one_more_whole : (known new : List (List ℕ × Whole)) (name : List ℕ) (whole : Whole) → new ≡ with_entry known name whole → AreWhole env source known → IsWhole env source name whole
      → AreWhole env source new
  one_more_whole known new name whole put are is other found at = by (bytes_eq other name) refl
    where
      there : value_at (with_entry known name whole) other ≡ Some found
      there = ap (λ (es : List (List ℕ × Whole)). value_at es other) (sym put) ∙ at

      by : (b : Bool) → bytes_eq other name ≡ b → IsWhole env source other found
      by true e =
          let same : other ≡ name = (bytes_eq-Decides other name).0 e in
          let own : value_at (with_entry known name whole) other ≡ Some whole =
          ap (value_at (with_entry known name whole)) same ∙ own_value known name whole in
          let one : whole ≡ found = (let both : Some whole ≡ Some found = sym own ∙ there in cc) in
          subst (λ (n : List ℕ). IsWhole env source n found) (sym same) (subst (IsWhole env source name) one is)
      by false e = are other found (sym (other_value known name other whole e) ∙ there)

  -- a chain goes on behind one layer more
  pub leads_on : (name next base : List ℕ) (layers more : List Layer) (service : Entries) → more ≡ layers ++ layer_for source.file next service ∷ [] → service_in env source next ≡ Ok service
      → extends_of service ≡ Some (base_named None base) → Leads env source name (reverse layers) next → Leads env source name (reverse more) base
  leads_on name next base layers more service e found extends leads =
      subst (λ (ls : List Layer). Leads env source name ls base) (sym (turned layers more (layer_for source.file next service) e))
      (next, service, leads, refl, found, extends)

  -- and what leads up to a base leads up to the last layer
  pub leads_back : (name base : List ℕ) (layers rest : List Layer) (layer : Layer) → layers ≡ rest ++ layer ∷ [] → Leads env source name (reverse layers) base
      → Leads env source name (layer ∷ reverse rest) base
  leads_back name base layers rest layer e leads = subst (λ (ls : List Layer). Leads env source name ls base) (turned rest layers layer e) leads

  pub leads_to : (name base : List ℕ) (layers : List Layer) → layers ≡ [] → Leads env source name (reverse layers) base → name ≡ base
  leads_to name base layers e leads = subst (λ (ls : List Layer). Leads env source name (reverse ls) base) e leads

-- what is extended without a read
pub gives_extended : (told : Option Contents) (env : Variables) (source : Source) (name : List ℕ) (service : Entries) (left : ℕ) → IsExtended env source name service
    → Gives told (Ok (service, left)) (extended env source name left)
gives_extended told env source name service left is =
    λ n. subst (λ (load : Load (Entries × ℕ)). Ran told load (Ok (service, left))) (sym (is left)) refl
