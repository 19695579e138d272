-- No look asks for a container to be made.
use Rattle.std.proofs.Common.{◌≡◌, ◌∙◌, ◌+◌, ◌-◌, ◌∷◌, [], ℕ, List, take, drop, refl, ap, sym, arith}
use Rattle.std.proofs.lemmas.List.Sums.{sum_by-append, sum_by-cons, sum_by-take-drop}
use Rattle.std.specs.Prelude.{cond}
use Rattle.engine_types.specs.declared.Exchange.{Exchange}
use Rattle.exchange_log.specs.declared.look.Look.{Look}
use Rattle.exchange_log.specs.Kept.{among, exchange_of}
use Rattle.run_counts.specs.Counts.{creates, is_create}

abbrev one : Exchange → ℕ
one exchange = cond (is_create exchange.request) 1 0

zero_first : (n : ℕ) → 0 + n ≡ n
zero_first n = omega arith

no_look : (look : Look) (rest : List Exchange) → creates (exchange_of look ∷ rest) ≡ creates rest
unfolding is_create
no_look look rest = sum_by-cons one (exchange_of look) rest ∙ zero_first (creates rest)

among_creates : (past : ℕ) (looks : List Look) (whole : List Exchange) → creates (among past looks whole) ≡ creates whole
among_creates past [] whole = refl
among_creates past (look ∷ looks) whole =
    let k = look.behind - past in
    let rest = among look.behind looks (drop k whole) in
    sum_by-append one (take k whole) (exchange_of look ∷ rest)
    ∙ ap (λ (n : ℕ). creates (take k whole) + n) (no_look look rest ∙ among_creates look.behind looks (drop k whole))
    ∙ sum_by-take-drop one whole k

pub creates_of_whole : (looks : List Look) (whole log : List Exchange) → among 0 looks whole ≡ log → creates whole ≡ creates log
creates_of_whole looks whole log are = sym (among_creates 0 looks whole) ∙ ap (λ (l : List Exchange). creates l) are
