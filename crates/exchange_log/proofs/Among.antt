-- What is put among exchanges that are kept whole.
use Rattle.std.proofs.Common.{◌≡◌, ◌∙◌, ◌≤◌, ◌+◌, ◌-◌, ◌++◌, ◌∷◌, [], ℕ, List, length, take, drop, refl, sym, subst, ap, append_assoc, arith}
use Rattle.std.proofs.lemmas.List.{drop-append-le, length-append, length-drop, length-take-le, take-append-le}
use Rattle.std.proofs.Math.Seq.{drop-length, take-length}
use Rattle.engine_types.specs.declared.Exchange.{Exchange}
use Rattle.exchange_log.specs.declared.look.Look.{Look}
use Rattle.exchange_log.specs.Kept.{AreInOrder, among, exchange_of}

pub none_past : (past : ℕ) (looks : List Look) (all : ℕ) → AreInOrder past looks all → past ≤ all
none_past past [] all h = h
none_past past (look ∷ looks) all h = omega (arith, h.0, none_past look.behind looks all h.1)

pub order_longer : (past : ℕ) (looks : List Look) (all : ℕ) → AreInOrder past looks all → AreInOrder past looks (all + 1)
order_longer past [] all h = omega (arith, h)
order_longer past (look ∷ looks) all h = (h.0, order_longer look.behind looks all h.1)

pub order_look : (past : ℕ) (looks : List Look) (all : ℕ) (last : Look) → AreInOrder past looks all → last.behind ≡ all → AreInOrder past (looks ++ last ∷ []) all
order_look past [] all last h e = (omega (arith, h, e), omega (arith, e))
order_look past (look ∷ looks) all last h e = (h.0, order_look look.behind looks all last h.1 e)

-- what is left out of the whole ones stands behind those that were passed
rest_order : (past : ℕ) (look : Look) (looks : List Look) (whole : List Exchange) → AreInOrder past (look ∷ looks) (past + length whole)
    → AreInOrder look.behind looks (look.behind + length (drop (look.behind - past) whole))
rest_order past look looks whole h =
    let within = none_past look.behind looks (past + length whole) h.1 in
    let e : past + length whole ≡ look.behind + length (drop (look.behind - past) whole) = omega (arith, within, h.0, length-drop (look.behind - past) whole) in
    rw e at h.1

-- a whole one behind all is the last one
pub whole_last : (past : ℕ) (looks : List Look) (whole : List Exchange) (last : Exchange) → AreInOrder past looks (past + length whole)
    → among past looks (whole ++ last ∷ []) ≡ among past looks whole ++ last ∷ []
whole_last past [] whole last h = refl
whole_last past (look ∷ looks) whole last h =
    let within = none_past look.behind looks (past + length whole) h.1 in
    let few : look.behind - past ≤ length whole = omega (arith, within, h.0) in
    rw (
      take-append-le (look.behind - past) whole (last ∷ []) few,
      drop-append-le (look.behind - past) whole (last ∷ []) few,
      whole_last look.behind looks (drop (look.behind - past) whole) last (rest_order past look looks whole h),
    )
    (sym (append_assoc (take (look.behind - past) whole) (exchange_of look ∷ among look.behind looks (drop (look.behind - past) whole)) (last ∷ [])))

-- and so is a look behind all whole ones
pub look_last : (past : ℕ) (looks : List Look) (whole : List Exchange) (last : Look) → AreInOrder past looks (past + length whole) → last.behind ≡ past + length whole
    → among past (looks ++ last ∷ []) whole ≡ among past looks whole ++ exchange_of last ∷ []
look_last past [] whole last h e =
    let all : last.behind - past ≡ length whole = omega (arith, e) in
    rw (all, take-length whole, drop-length whole) refl
look_last past (look ∷ looks) whole last h e =
    let within = none_past look.behind looks (past + length whole) h.1 in
    let same : last.behind ≡ look.behind + length (drop (look.behind - past) whole) = omega (arith, e, within, h.0, length-drop (look.behind - past) whole) in
    rw (look_last look.behind looks (drop (look.behind - past) whole) last (rest_order past look looks whole h) same)
    (sym (append_assoc (take (look.behind - past) whole) (exchange_of look ∷ among look.behind looks (drop (look.behind - past) whole)) (exchange_of last ∷ [])))

-- none is lost and none comes
length_kept : (past : ℕ) (looks : List Look) (whole : List Exchange) → AreInOrder past looks (past + length whole)
    → length (among past looks whole) ≡ length whole + length looks
length_kept past [] whole h = omega arith
length_kept past (look ∷ looks) whole h =
    let within = none_past look.behind looks (past + length whole) h.1 in
    let few : look.behind - past ≤ length whole = omega (arith, within, h.0) in
    omega (
      arith,
      few,
      length-take-le (look.behind - past) whole few,
      length-drop (look.behind - past) whole,
      length-append (take (look.behind - past) whole) (exchange_of look ∷ among look.behind looks (drop (look.behind - past) whole)),
      length_kept look.behind looks (drop (look.behind - past) whole) (rest_order past look looks whole h),
    )

-- The steps of a log.
from_start : (looks : List Look) (all : ℕ) → AreInOrder 0 looks all → AreInOrder 0 looks (0 + all)
from_start looks all h = let e : all ≡ 0 + all = omega arith in subst (λ (n : ℕ). AreInOrder 0 looks n) e h

pub counted : (looks : List Look) (whole : List Exchange) → AreInOrder 0 looks (length whole) → length (among 0 looks whole) ≡ length whole + length looks
counted looks whole h = length_kept 0 looks whole (from_start looks (length whole) h)

pub put_whole : (looks : List Look) (whole : List Exchange) (last : Exchange) → AreInOrder 0 looks (length whole)
    → among 0 looks (whole ++ last ∷ []) ≡ among 0 looks whole ++ last ∷ []
put_whole looks whole last h = whole_last 0 looks whole last (from_start looks (length whole) h)

pub put_look : (looks : List Look) (whole : List Exchange) (last : Look) (exchange : Exchange) → AreInOrder 0 looks (length whole) → last.behind ≡ length whole
    → exchange_of last ≡ exchange → among 0 (looks ++ last ∷ []) whole ≡ among 0 looks whole ++ exchange ∷ []
put_look looks whole last exchange h at is =
    look_last 0 looks whole last (from_start looks (length whole) h) (omega (arith, at)) ∙ ap (λ e. among 0 looks whole ++ e ∷ []) is

pub order_whole : (looks : List Look) (whole : List Exchange) (last : Exchange) → AreInOrder 0 looks (length whole) → AreInOrder 0 looks (length (whole ++ last ∷ []))
order_whole looks whole last h = rw (length-append whole (last ∷ [])) (order_longer 0 looks (length whole) h)

pub nothing : (looks : List Look) (whole : List Exchange) → looks ≡ [] → whole ≡ [] → among 0 looks whole ≡ []
nothing looks whole no_looks none = rw (no_looks, none) refl

pub nothing_in_order : (looks : List Look) (all : ℕ) → looks ≡ [] → AreInOrder 0 looks all
nothing_in_order looks all none = subst (λ (l : List Look). AreInOrder 0 l all) (sym none) (omega arith)
