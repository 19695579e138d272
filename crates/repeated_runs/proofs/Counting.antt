-- How many hands a call's runs made.
use Rattle.std.proofs.Common.{◌≡◌, ◌<◌, ◌≤◌, ◌+◌, ◌*◌, ◌^◌, ℕ, List, [], ◌∷◌, None, Some, length, refl, ap, subst, sym, ◌∙◌, inl, inr, arith}
use Rattle.std.specs.Option.{ForSome}
use Rattle.std.specs.Prelude.{Option}
use Rattle.compose_cli.specs.Dialling.{MadeHands}
use Rattle.compose_cli.specs.Ends.{CountsHands}
use Rattle.compose_cli.specs.declared.Ended.{Ended}
use Rattle.ledger_run.specs.Tellings.{Telling}
use Rattle.outside_api.specs.declared.dial.Dial.{Dial}
use Rattle.refusals.specs.declared.Refusal.{Refusal}
use Rattle.repeated_runs.specs.Attempts.{AreMadeAgain, IsOneRun}
use Rattle.repeated_runs.specs.Moments.{Moment}
use Rattle.repeated_runs.specs.declared.attempt.Attempt.{Attempt}
use Rattle.run_model.specs.Runs.{Task}
use Rattle.tree_base.specs.Limits.{most_workers}

-- as many hands and more
pub counts_then : (first between last : Option ℕ) (n m : ℕ) → CountsHands first between n → CountsHands between last m → CountsHands first last (n + m)
counts_then None between last n m a b = subst (λ (o : Option ℕ). CountsHands o last m) a b
counts_then (Some k) between last n m a b =
    let counted : last ≡ Some ((k + n) + m) = subst (λ (o : Option ℕ). CountsHands o last m) a b in
    let same : (k + n) + m ≡ k + (n + m) = omega arith in counted ∙ ap (λ (c : ℕ). Some c) same

counts_zero : (count : Option ℕ) → CountsHands count count 0
counts_zero None = refl
counts_zero (Some k) = let same : k ≡ k + 0 = omega arith in ap (λ (c : ℕ). Some c) same

hands_few : (dials hands workers : ℕ) (refusal : Option Refusal) → dials ≤ workers → MadeHands dials hands refusal → hands ≤ workers
hands_few dials hands workers refusal few (inl made) = let same = made.0 in omega (arith, few, same)
hands_few dials hands workers refusal few (inr made) = let same = made.0 in omega (arith, few, same)

-- a bound that is kept by more hands
far : (first now : Option ℕ) (n : ℕ) → ForSome first (λ m. m < 2 ^ 61) → CountsHands first now n → n < 2 ^ 59 → ForSome now (λ m. m < 2 ^ 61 + 2 ^ 59)
far None now n told counts few m e = let bad : None ≡ Some m = sym counts ∙ e in absurd (cc bad)
far (Some k) now n told counts few m e =
    let both : Some (k + n) ≡ Some m = sym counts ∙ e in let same : k + n ≡ m = cc both in let low : k < 2 ^ 61 = told k refl in omega (arith, same, low, few)

module _ {H : Type 0} (tell : H → Telling) (Place : ℕ → Dial → Type 0) (workers : ℕ) (task : Task) (few : workers ≤ most_workers) where
  one_few : {ended : Ended H} (old new : Moment) → IsOneRun tell Place workers task ended old new → length ended.hands ≤ most_workers
  one_few {ended} old new run = let h = run.dials in
      let most = hands_few (length h.0) (length ended.hands) workers ended.refusal h.3 h.4 in omega (arith, few, most)

  -- the hands of runs that were made again, and of those that looked behind them: 17 a run at most
  again_few : (earlier : List (Attempt H)) (old new : Moment) → AreMadeAgain tell Place workers task earlier old new → (n : ℕ) × (n ≤ 17 * length earlier) × CountsHands old.dialled new.dialled n
  again_few [] old new made = (0, omega arith, subst (λ (m : Moment). CountsHands old.dialled m.dialled 0) (sym made) (counts_zero old.dialled))
  again_few (attempt ∷ rest) old new made =
      let one = made.1 in let others = again_few rest made.0 new made.2 in
      let hands = one_few old one.between one.run in
      let so = counts_then old.dialled one.between.dialled made.0.dialled (length attempt.ended.hands) 1 one.run.dialled one.look.dialled in
      let least = others.1 in (
        (length attempt.ended.hands + 1) + others.0,
        omega (arith, hands, least),
        counts_then old.dialled made.0.dialled new.dialled (length attempt.ended.hands + 1) others.0 so others.2,
      )

  -- the plug can count more hands behind fewer runs than there may be
  pub can_count : (earlier : List (Attempt H)) {ended : Ended H} (first before now : Moment) → AreMadeAgain tell Place workers task earlier first before → IsOneRun tell Place workers task ended before now
      → length earlier < 2 ^ 32 → ForSome first.dialled (λ m. m < 2 ^ 61) → ForSome now.dialled (λ m. m < 2 ^ 61 + 2 ^ 59)
  can_count earlier {ended} first before now made run below told =
      let many = again_few earlier first before made in let hands = one_few before now run in let least = many.1 in
      far first.dialled now.dialled (many.0 + length ended.hands) told (counts_then first.dialled before.dialled now.dialled many.0 (length ended.hands) many.2 run.dialled) (omega (arith, hands, least, below))
