-- Entries of others add nothing to a worker's exchanges.
use Rattle.std.proofs.Common.{◌≡◌, ℕ, Bool, true, false, cond, List, [], ◌∷◌, ◌++◌, reverse, refl, sym, ap, ◌∙◌}
use Rattle.std.proofs.lemmas.Bool.{eq-eqb, ne_eqb}
use Rattle.std.proofs.lemmas.List.{reverse-append}
use Rattle.std.proofs.lemmas.List.Elements.{filter-append}
use Rattle.std.specs.Prelude.{◌==◌}
use Rattle.engine_types.specs.declared.Entry.{Entry}
use Rattle.run_model.specs.Journals.{Setup}
use Rattle.run_model.specs.Logs.{exchanges_of}
use Rattle.worker_laws.specs.Own.{own_of, worker_of}

-- 0 differs from a number as that differs from 0
zero_first : (w : ℕ) → (0 == w) ≡ false → (w == 0) ≡ false
zero_first w h = ne_eqb w 0 (λ e. let bad : true ≡ false = sym (eq-eqb 0 w (sym e)) ∙ h in absurd (cc bad))

strange : (setup : Setup) (e : Entry) (past : List Entry) (w : ℕ) → (worker_of e == w) ≡ false → exchanges_of setup (e ∷ past) w ≡ exchanges_of setup past w
strange setup (Entry.Claim v a) past w h = refl
strange setup (Entry.Poll v s) past w h = refl
strange setup (Entry.Ended v outcome) past w h = rw h refl
strange setup (Entry.Seen observation) past w h = rw (zero_first w h) refl
strange setup (Entry.Idle v) past w h = refl
strange setup (Entry.Leave v) past w h = refl
strange setup (Entry.Stop v) past w h = refl
strange setup (Entry.Late v why) past w h = refl
strange setup (Entry.Short v) past w h = refl

-- no entry of a worker among these: not the first, and not in the rest
pub none_own : (w : ℕ) (e : Entry) (more : List Entry) → own_of w (e ∷ more) ≡ [] → ((worker_of e == w) ≡ false) × (own_of w more ≡ [])
none_own w e more h = on (worker_of e == w) refl h
  where
    on : (t : Bool) → (worker_of e == w) ≡ t → cond t (e ∷ own_of w more) (own_of w more) ≡ [] → ((worker_of e == w) ≡ false) × (own_of w more ≡ [])
    on true k z = absurd (cc z)
    on false k z = (k, z)

pub added : (setup : Setup) (more past : List Entry) (w : ℕ) → own_of w more ≡ [] → exchanges_of setup (more ++ past) w ≡ exchanges_of setup past w
added setup [] past w h = refl
added setup (e ∷ more) past w h = let n = none_own w e more h in strange setup e (more ++ past) w n.0 ∙ added setup more past w n.1

-- a list that adds nothing to another is empty
pub nothing_more : {X : Type 0} (xs ys : List X) → xs ++ ys ≡ xs → ys ≡ []
nothing_more [] ys e = e
nothing_more (x ∷ xs) ys e = nothing_more xs ys (cc e)

own_reverse : (w : ℕ) (es : List Entry) → own_of w es ≡ [] → own_of w (reverse es) ≡ []
own_reverse w [] h = refl
own_reverse w (e ∷ es) h =
    let n = none_own w e es h in
    ap (own_of w) (reverse-append (e ∷ []) es) ∙ filter-append (λ e. worker_of e == w) (reverse es) (e ∷ []) ∙ ap (λ (l : List Entry). l ++ own_of w (e ∷ [])) (own_reverse w es n.1) ∙ last n.0
  where
    last : (worker_of e == w) ≡ false → own_of w (e ∷ []) ≡ []
    last k = rw k refl

pub suffices : (setup : Setup) (begun seen more : List Entry) (w : ℕ) → own_of w (seen ++ more) ≡ own_of w seen
    → exchanges_of setup (reverse (begun ++ seen ++ more)) w ≡ exchanges_of setup (reverse (begun ++ seen)) w
suffices setup begun seen more w h =
    ap (λ (l : List Entry). exchanges_of setup l w) (reverse-append (begun ++ seen) more)
    ∙ added setup (reverse more) (reverse (begun ++ seen)) w (own_reverse w more (nothing_more (own_of w seen) (own_of w more) (sym (filter-append (λ e. worker_of e == w) seen more) ∙ h)))
