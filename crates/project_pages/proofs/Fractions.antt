-- The places of a fraction, one by one.
use Rattle.std.proofs.Common.{◌≡◌, ◌≢◌, ◌∙◌, ℕ, zero, suc, ◌-◌, ◌*◌, ◌^◌, ◌/◌, ◌%◌, ◌<◌, ap, subst, arith}
use Rattle.std.proofs.Math.Nat.{div-lt_iff_lt-mul, mod-lt, one-le-pow, pow-suc}

-- what isn't zero has a place
pub some_place : (places parts : ℕ) → parts < 10 ^ places → parts ≢ 0 → 0 < places
some_place zero parts within some = absurd (some (omega (arith, within)))
some_place (suc k) parts within some = omega arith

-- the worth of a place
pub unit_some : (k : ℕ) → 0 < 10 ^ k
unit_some k = omega (arith, one-le-pow k 10 (omega arith))

-- the first place is one digit
pub first_small : (places parts unit : ℕ) → 0 < places → parts < 10 ^ places → unit ≡ 10 ^ (places - 1) → parts / unit < 10
first_small (suc k) parts unit some within is =
    let same : suc k - 1 ≡ k = omega arith in
    let one : unit ≡ 10 ^ k = is ∙ ap (λ n. 10 ^ n) same in
    let all : 10 ^ suc k ≡ 10 ^ k * 10 = pow-suc 10 k in
    (div-lt_iff_lt-mul {k = unit} (omega (arith, one, unit_some k))).1 (omega (arith, all, one, within))
first_small zero parts unit some within is = absurd (omega arith)

-- what is left behind the first place
pub rest_small : (parts unit worth : ℕ) → 0 < unit → unit ≡ worth → parts % unit < worth
rest_small parts unit worth some is = subst (λ n. parts % unit < n) is (mod-lt parts some)
