-- What is known of hands that are dialled one after another.
use Rattle.std.proofs.Common.{◌≡◌, ◌⊎◌, ℕ, ◌+◌, ◌<◌, ◌≤◌, ◌^◌, List, [], ◌∷◌, ◌++◌, Some, None, append-nil, append_assoc, length, inl, inr, refl, sym, ap, ◌∙◌, subst, arith}
use Rattle.std.proofs.lemmas.List.{length_push}
use Rattle.std.specs.Option.{ForSome}
use Rattle.std.specs.Prelude.{Option}
use Rattle.compose_cli.proofs.Dialled.{of_run}
use Rattle.compose_cli.specs.Dialling.{AreDials, Dials, MadeHands}
use Rattle.compose_cli.specs.Ends.{CountsHands, failed_dial}
use Rattle.ledger_run.specs.Tellings.{Telling}
use Rattle.outside_api.specs.Plugs.{dial_of}
use Rattle.outside_api.specs.declared.dial.Dial.{Dial}
use Rattle.outside_api.specs.declared.plug.Target.{Target}
use Rattle.repeated_runs.specs.Dials.{AddsDialOf, refusal_of}
use Rattle.repeated_runs.specs.Hands.{AreNew, IsNew}
use Rattle.repeated_runs.specs.declared.dialling.DialFault.{DialFault}
use Rattle.refusals.proofs.Said.{said}
use Rattle.refusals.specs.Origins.{IsOfRun}
use Rattle.refusals.specs.Saying.{IsSaid}
use Rattle.refusals.specs.declared.Refusal.{Refusal}
use Rattle.run_model.specs.EngineRules.{Among}
use Rattle.tree_base.specs.Limits.{most_workers}

among_more : {X : Type 0} (xs : List X) (x y : X) → Among (xs ++ x ∷ []) y → Among xs y ⊎ (y ≡ x)
among_more [] x y (inl e) = inr e
among_more [] x y (inr h) = absurd h
among_more (z ∷ xs) x y (inl e) = inl (inl e)
among_more (z ∷ xs) x y (inr m) = at (among_more xs x y m)
  where
    at : Among xs y ⊎ (y ≡ x) → Among (z ∷ xs) y ⊎ (y ≡ x)
    at (inl n) = inl (inr n)
    at (inr e) = inr e

-- none are new
pub new_none : {H : Type 0} (tell : H → Telling) (hands : List H) → hands ≡ [] → AreNew tell hands
new_none {H} tell hands none = subst (λ (hs : List H). AreNew tell hs) (sym none) (λ hand m. absurd m)

-- new hands with a new one more are new
pub new_more : {H : Type 0} (tell : H → Telling) (hands more : List H) (hand : H) → more ≡ hands ++ hand ∷ [] → AreNew tell hands → IsNew (tell hand) → AreNew tell more
new_more {H} tell hands more hand grown are is other m = at (among_more hands hand other (subst (λ (hs : List H). Among hs other) grown m))
  where
    at : Among hands other ⊎ (other ≡ hand) → IsNew (tell other)
    at (inl n) = are other n
    at (inr e) = subst (λ (h : H). IsNew (tell h)) (sym e) is

-- a list with an item more is longer by one
pub one_longer : {X : Type 0} (xs more : List X) (x : X) → more ≡ xs ++ x ∷ [] → length more ≡ length xs + 1
one_longer xs more x grown = ap length grown ∙ length_push xs x

-- no hand is counted yet
pub counts_none : (count : Option ℕ) (n : ℕ) → n ≡ 0 → CountsHands count count n
counts_none None n none = refl
counts_none (Some k) n none = let same : k ≡ k + n = omega (arith, none) in ap (λ (c : ℕ). Some c) same

-- a hand more is counted
pub counts_more : (first between last : Option ℕ) (n more : ℕ) → more ≡ n + 1 → CountsHands first between n → CountsHands between last 1 → CountsHands first last more
counts_more None between last n more grown so one = subst (λ (o : Option ℕ). CountsHands o last 1) so one
counts_more (Some k) between last n more grown so one =
    let counted : last ≡ Some ((k + n) + 1) = subst (λ (o : Option ℕ). CountsHands o last 1) so one in
    let same : (k + n) + 1 ≡ k + more = omega (arith, grown) in counted ∙ ap (λ (c : ℕ). Some c) same

-- one more can be counted where so few were
pub few_counted : (first now : Option ℕ) (n : ℕ) → ForSome first (λ m. m < 2 ^ 61 + 2 ^ 60) → CountsHands first now n → n ≤ most_workers → ForSome now (λ m. m < 2 ^ 62)
few_counted None now n told counts few m e = let bad : None ≡ Some m = sym counts ∙ e in absurd (cc bad)
few_counted (Some k) now n told counts few m e =
    let both : Some (k + n) ≡ Some m = sym counts ∙ e in let same : k + n ≡ m = cc both in let low : k < 2 ^ 61 + 2 ^ 60 = told k refl in omega (arith, same, low, few)

-- the dial that was asked for is the one for a stop file, where that was lent
pub added : (old new : List Dial) (target : Target) (lent stop : Option (List ℕ)) (n : ℕ) → lent ≡ stop → new ≡ old ++ dial_of target lent n ∷ [] → new ≡ old ++ dial_of target stop n ∷ []
added old new target lent stop n same grown = subst (λ (file : Option (List ℕ)). new ≡ old ++ dial_of target file n ∷ []) same grown

-- the same where it may not have been noted
pub added_or_not : (old new : List Dial) (target : Target) (lent stop : Option (List ℕ)) (n : ℕ) → lent ≡ stop → (new ≡ old) ⊎ (new ≡ old ++ dial_of target lent n ∷ []) → (new ≡ old) ⊎ (new ≡ old ++ dial_of target stop n ∷ [])
added_or_not old new target lent stop n same adds = subst (λ (file : Option (List ℕ)). (new ≡ old) ⊎ (new ≡ old ++ dial_of target file n ∷ [])) same adds

-- dials that go on from others, with one more
behind_dial : (old between new dials : List Dial) (dial : Dial) → between ≡ old ++ dials → new ≡ between ++ dial ∷ [] → new ≡ old ++ (dials ++ dial ∷ [])
behind_dial old between new dials dial are grown = grown ∙ (ap (λ (l : List Dial). l ++ dial ∷ []) are ∙ append_assoc old dials (dial ∷ []))

-- without a refusal there are as many dials as hands
as_dialled : (dials hands : ℕ) → MadeHands dials hands None → dials ≡ hands
as_dialled dials hands (inl made) = made.0
as_dialled dials hands (inr made) = absurd (unmade made.1)
  where
    unmade : (None ≡ failed_dial) ⊎ (None ≡ Some Refusal.Memory) → ⊥
    unmade (inl e) = cc e
    unmade (inr e) = cc e

module _ (Fact : ℕ → Dial → Type 0) where
  each_more : (from : ℕ) (dials : List Dial) (dial : Dial) → AreDials Fact from dials → Fact (from + length dials) dial → AreDials Fact from (dials ++ dial ∷ [])
  each_more from [] dial are is = let place : from + 0 ≡ from = omega arith in (subst (λ (n : ℕ). Fact n dial) place is, tt)
  each_more from (first ∷ rest) dial are is =
      let place : from + length (first ∷ rest) ≡ (from + 1) + length rest = omega arith in
      (are.0, each_more (from + 1) rest dial are.1 (subst (λ (n : ℕ). Fact n dial) place is))

  -- the dials with the next worker's
  all_more : (dials : List Dial) (dial : Dial) (n : ℕ) → length dials ≡ n → AreDials Fact 0 dials → Fact n dial → AreDials Fact 0 (dials ++ dial ∷ [])
  all_more dials dial n many are is = let place : n ≡ 0 + length dials = omega (arith, many) in each_more 0 dials dial are (subst (λ (k : ℕ). Fact k dial) place is)

module _ (Fact : ℕ → Dial → Type 0) (workers : ℕ) where
  -- no dial made no hand
  pub dials_none : (old : List Dial) (n : ℕ) → n ≡ 0 → Dials Fact workers old old n None
  dials_none old n none = ([], sym (append-nil old), tt, omega arith, inl (sym none, λ e. cc e))

  -- one more made one more
  pub dials_more : (old between new : List Dial) (dial : Dial) (n more : ℕ) → Fact n dial → n < workers → new ≡ between ++ dial ∷ [] → more ≡ n + 1 → Dials Fact workers old between n None → Dials Fact workers old new more None
  dials_more old between new dial n more is within grown longer h =
      let many = as_dialled (length h.0) n h.4 in let one = length_push h.0 dial in let count : length (h.0 ++ dial ∷ []) ≡ more = omega (arith, one, many, longer) in
      (h.0 ++ dial ∷ [], behind_dial old between new h.0 dial h.1 grown, all_more Fact h.0 dial n many h.2 is, omega (arith, count, longer, within), inl (count, λ e. cc e))

  -- the last one made none
  dials_last : (old between new : List Dial) (dial : Dial) (n : ℕ) (refusal : Option Refusal) → Fact n dial → n < workers → new ≡ between ++ dial ∷ [] → (refusal ≡ failed_dial) ⊎ (refusal ≡ Some Refusal.Memory) → Dials Fact workers old between n None → Dials Fact workers old new n refusal
  dials_last old between new dial n refusal is within grown why h =
      let many = as_dialled (length h.0) n h.4 in let one = length_push h.0 dial in let count : length (h.0 ++ dial ∷ []) ≡ n + 1 = omega (arith, one, many) in
      (h.0 ++ dial ∷ [], behind_dial old between new h.0 dial h.1 grown, all_more Fact h.0 dial n many h.2 is, omega (arith, count, within), inr (count, why))

  -- the dials end with one that made no hand, or before it where memory was wanted
  pub dials_end : (old between new : List Dial) (dial : Dial) (n : ℕ) (fault : DialFault) → Fact n dial → n < workers → AddsDialOf between dial new (Some (refusal_of fault)) → Dials Fact workers old between n None → Dials Fact workers old new n (Some (refusal_of fault))
  dials_end old between new dial n DialFault.Plug is within grown h = dials_last old between new dial n failed_dial is within grown (inl refl) h
  dials_end old between new dial n DialFault.Memory is within (inr grown) h = dials_last old between new dial n (Some Refusal.Memory) is within grown (inr refl) h
  dials_end old between new dial n DialFault.Memory is within (inl same) h = (h.0, same ∙ h.1, h.2, h.3, inl (as_dialled (length h.0) n h.4, λ e. cc e))

  module _ (old new : List Dial) (n : ℕ) where
    -- a run that follows is refused for none of its dials
    pub dials_run : (refusal : Option Refusal) → IsOfRun refusal → Dials Fact workers old new n None → Dials Fact workers old new n refusal
    dials_run refusal run h = (h.0, h.1, h.2, h.3, inl (as_dialled (length h.0) n h.4, of_run refusal run))

    wanted : (dials : ℕ) → MadeHands dials n failed_dial → MadeHands dials n (Some Refusal.Memory)
    wanted dials (inl made) = absurd (made.1 refl)
    wanted dials (inr made) = inr (made.0, inr refl)

    short : (fault : DialFault) → Dials Fact workers old new n (Some (refusal_of fault)) → Dials Fact workers old new n (Some Refusal.Memory)
    short DialFault.Plug h = (h.0, h.1, h.2, h.3, wanted (length h.0) h.4)
    short DialFault.Memory h = h

    -- what is said of them, once the refusal was
    pub dials_said : (fault : DialFault) (found : Option Refusal) → IsSaid (refusal_of fault) found → Dials Fact workers old new n (Some (refusal_of fault)) → Dials Fact workers old new n found
    dials_said fault found is_said h = said (refusal_of fault) found is_said (Dials Fact workers old new n) (short fault h) h
