-- A chain that stays in one file is followed to its end: no service comes twice.
use Rattle.std.proofs.Common.{◌≡◌, ◌∙◌, ℕ, zero, suc, ◌≤◌, Bool, true, false, ◌&&◌, List, [], ◌∷◌, ◌++◌, length, position, slice_get, Option, Some, None, Result, Ok, Err, refl, sym, ap, subst, inl, inr, ⊎_elim, append_assoc, arith}
use Rattle.std.specs.Option.{option_map_or}
use Rattle.std.specs.Str.{bytes_eq}
use Rattle.std.proofs.lemmas.Bool.{and_parts, false_from_ne_true}
use Rattle.std.proofs.lemmas.List.{length-append}
use Rattle.std.proofs.lemmas.Slice.Eq.{bytes_eq-Decides}
use Rattle.file_paths.specs.Paths.{Variables}
use Rattle.file_paths.specs.Resolving.{Entries}
use Rattle.loaded_files.specs.declared.refusal.LoadRefusal.{LoadRefusal}
use Rattle.loaded_files.specs.declared.refusal.ServiceAt.{ServiceAt}
use Rattle.merge_rules.proofs.EntryPlaces.{position_none}
use Rattle.service_bases.specs.Bases.{at_service, base_named, extends_of, is_at, service_in}
use Rattle.service_bases.specs.Chains.{chain_in, followed, layer_for, step_in, stepped}
use Rattle.service_bases.specs.Known.{Chains}
use Rattle.service_bases.specs.declared.base.Base.{Base}
use Rattle.service_bases.specs.declared.chain.Chain.{Chain}
use Rattle.service_bases.specs.declared.chain.Layer.{Layer}
use Rattle.service_bases.specs.declared.chain.NextLink.{NextLink}
use Rattle.service_bases.specs.declared.chain.NextLink.TheVariants.{Further}
use Rattle.service_bases.specs.declared.source.Source.{Source}
use Rattle.service_bases.proofs.Links.{new_base, then_followed}
use Rattle.tree_base.specs.Answers.{◌>>=◌}

ok_same : (r : Result Entries LoadRefusal) (x y : Entries) → r ≡ Ok x → r ≡ Ok y → x ≡ y
ok_same r x y p q = let same : x ≡ y = cc in same

-- the name of a base
base_name : Option Base → List ℕ
base_name base = option_map_or (λ (b : Base). b.service) base []

none_some : (r : Option Base) (base : Base) → r ≡ None → r ≡ Some base → ⊥
none_some r base p q = let wrong : ⊥ = cc in wrong

too_long : (layer : Layer) (pre rest : List Layer) → layer ∷ (pre ++ rest) ≡ rest → ⊥
too_long layer pre rest e = let a = ap length e in let b = length-append pre rest in omega (arith, a, b)

module _ (env : Variables) (source : Source) where
  -- from a name there is one chain
  one_chain : (name : List ℕ) (one other : List Layer) → Chains env source name one → Chains env source name other → one ≡ other
  unfolding base_name
  one_chain name [] other a b = absurd a
  one_chain name (l ∷ one) [] a b = absurd b
  one_chain name (l ∷ one) (m ∷ other) a b =
      let same : a.0 ≡ b.0 = ok_same (service_in env source name) a.0 b.0 a.2 b.2 in
      let head : l ≡ m = a.1 ∙ ap (layer_for source.file name) same ∙ sym b.1 in
      let tail : one ≡ other =
      ⊎_elim
      (λ p. ⊎_elim (λ q. p.1 ∙ sym q.1) (λ q. absurd (none_some (extends_of b.0) (base_named None q.0) (ap extends_of (sym same) ∙ p.0) q.1)) b.3)
      (λ p. ⊎_elim (λ q. absurd (none_some (extends_of b.0) (base_named None p.0) q.0 (ap extends_of (sym same) ∙ p.1)))
      (λ q. one_chain q.0 one other (subst (λ (n : List ℕ). Chains env source n one) (ap base_name (sym p.1 ∙ ap extends_of same ∙ q.1)) p.2) q.2) b.3)
      a.3 in
      (λ i. head i ∷ tail i)

  -- a layer of a chain, from which it goes on so
  abbrev From : Layer → List Layer → Type 0
  From layer chain = (own : List ℕ) × (layer.at ≡ at_service source.file own) × Chains env source own chain

  -- the first layers of a chain, and those behind them
  abbrev Through : List Layer → List Layer → Type 0
  Through [] rest = Unit {0}
  Through (layer ∷ pre) rest = From layer (layer ∷ (pre ++ rest)) × Through pre rest

  through_more : (pre : List Layer) (layer : Layer) (more : List Layer) → Through pre (layer ∷ more) → From layer (layer ∷ more) → Through (pre ++ layer ∷ []) more
  through_more [] layer more t h = (h, tt)
  through_more (p ∷ pre) layer more t h = (
    (
      t.0.0,
      t.0.1,
      subst (λ (ls : List Layer). Chains env source t.0.0 (p ∷ ls)) (sym (append_assoc pre (layer ∷ []) more)) t.0.2,
    ),
    through_more pre layer more t.1 h,
  )

  module _ (base : List ℕ) (rest : List Layer) (chains : Chains env source base rest) where
    differs : (layer : Layer) (pre : List Layer) → From layer (layer ∷ (pre ++ rest)) → is_at (at_service source.file base) layer.at ≡ false
    differs layer pre from =
        ap (is_at (at_service source.file base)) from.1
        ∙ false_from_ne_true (bytes_eq source.file source.file && bytes_eq base from.0)
        (λ yes.
        let same : base ≡ from.0 = (bytes_eq-Decides base from.0).0 (and_parts (bytes_eq source.file source.file) (bytes_eq base from.0) yes).1 in
        too_long layer pre rest
        (one_chain base (layer ∷ (pre ++ rest)) rest (subst (λ (n : List ℕ). Chains env source n (layer ∷ (pre ++ rest))) (sym same) from.2) chains))

    apart : (pre : List Layer) (k : ℕ) (layer : Layer) → Through pre rest → slice_get pre k ≡ Some layer → is_at (at_service source.file base) layer.at ≡ false
    apart [] k layer t e = absurd cc
    apart (p ∷ pre) zero layer t e =
        let same : p ≡ layer = cc in
        subst (λ (l : Layer). is_at (at_service source.file base) l.at ≡ false) same (differs p pre t.0)
    apart (p ∷ pre) (suc k) layer t e = apart pre k layer t.1 e

    -- so a base isn't in its chain yet
    fresh : (pre : List Layer) → Through pre rest → position (λ (layer : Layer). is_at (at_service source.file base) layer.at) pre ≡ None
    fresh pre t = position_none (λ (layer : Layer). is_at (at_service source.file base) layer.at) pre (λ k layer e. apart pre k layer t e)

  -- it is followed to its end
  pub walks : (steps : ℕ) (name : List ℕ) (pre rest : List Layer) → Through pre rest → Chains env source name rest → length rest ≤ steps
      → chain_in steps env source name pre ≡ Ok (record { layers = pre ++ rest; next = None })
  walks steps name pre [] t c h = absurd c
  walks zero name pre (l ∷ more) t c h = absurd (omega arith)
  walks (suc steps) name pre (l ∷ more) t c h =
      let here : step_in env source name pre ≡ followed source.file (pre ++ l ∷ []) (extends_of c.0) =
      ap (λ (r : Result Entries LoadRefusal). r >>= then_followed env source name pre) c.2
      ∙ ap (λ (x : Layer). followed source.file (pre ++ x ∷ []) (extends_of c.0)) (sym c.1) in
      ⊎_elim
      (λ p.
      ap (λ (r : Result NextLink LoadRefusal). r >>= stepped (chain_in steps env source)) (here ∙ ap (followed source.file (pre ++ l ∷ [])) p.0)
      ∙ ap (λ (m : List Layer). let chain : Chain = record { layers = pre ++ l ∷ m; next = None } in Ok chain) (sym p.1))
      (λ q.
      let on : Through (pre ++ l ∷ []) more = through_more pre l more t (name, ap (λ (x : Layer). x.at) c.1, c) in
      let new = new_base (at_service source.file q.0) (pre ++ l ∷ []) (fresh q.0 more q.2 (pre ++ l ∷ []) on) in
      ap (λ (r : Result NextLink LoadRefusal). r >>= stepped (chain_in steps env source))
      (here ∙ ap (followed source.file (pre ++ l ∷ [])) q.1
      ∙ ap (λ (r : Result (Unit {0}) LoadRefusal). r >>= λ ok. Ok (Further q.0 (pre ++ l ∷ []))) new)
      ∙ walks steps q.0 (pre ++ l ∷ []) more on q.2 (omega (arith, h))
      ∙ ap (λ (ls : List Layer). let chain : Chain = record { layers = ls; next = None } in Ok chain) (append_assoc pre (l ∷ []) more))
      c.3
