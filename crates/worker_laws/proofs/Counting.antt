-- How long a legal journal is at most.
use Rattle.std.proofs.Common.{◌≡◌, ℕ, zero, suc, ◌+◌, ◌*◌, ◌<◌, ◌≤◌, Bool, true, false, cond, List, [], ◌∷◌, length, if◌then◌else◌, refl, sym, ap, ◌∙◌, arith, ne_eqb, inl, inr, ◌⊎◌, subst}
use Rattle.std.proofs.lemmas.Bool.{eq-eqb, eqb-true, cases_eq, leb-true, leb-false}
use Rattle.std.specs.Prelude.{◌==◌, nat_le}
use Rattle.engine_types.specs.declared.Aim.{Aim}
use Rattle.tree_base.specs.Limits.{most_entries}
use Rattle.engine_types.specs.declared.Entry.{Entry}
use Rattle.engine_types.specs.declared.LateWhy.{LateWhy}
use Rattle.engine_types.specs.declared.Outcome.{Outcome}
use Rattle.run_model.specs.Journals.{Nothing, Setup, Watch, Work, has_left, has_stopped, holding, is_ending, is_open}
use Rattle.run_model.specs.Legal.{Decision, Full, Go, IsLegal, Look, Pause, Take, answer_to, decision, is_other_out, next_action, next_poll}

-- how many entries of a worker may still come once the journal is full
abbrev pub part : Bool → Bool → Bool → ℕ
part out stopped left = cond {A = ℕ} out 1 0 + cond {A = ℕ} stopped 0 1 + cond {A = ℕ} left 0 1

abbrev pub room_of : List Entry → ℕ → ℕ
room_of past w = part (is_open (holding past w)) (has_stopped past w) (has_left past w)

part_most : (a b c : Bool) → part a b c ≤ 3
part_most true true true = omega arith
part_most true true false = omega arith
part_most true false true = omega arith
part_most true false false = omega arith
part_most false true true = omega arith
part_most false true false = omega arith
part_most false false true = omega arith
part_most false false false = omega arith

pub total : (ℕ → ℕ) → ℕ → ℕ
total f zero = 0
total f (suc n) = total f n + f n

total_most : (past : List Entry) (n : ℕ) → total (room_of past) n ≤ 3 * n
unfolding total
total_most past zero = omega arith
total_most past (suc n) = let r = total_most past n in let p = part_most (is_open (holding past n)) (has_stopped past n) (has_left past n) in omega (arith, r, p)

total_same : (f g : ℕ → ℕ) (n : ℕ) → ((v : ℕ) → v < n → g v ≤ f v) → total g n ≤ total f n
unfolding total
total_same f g zero h = omega arith
total_same f g (suc n) h = let r = total_same f g n (λ v l. h v (omega (arith, l))) in let p = h n (omega arith) in omega (arith, r, p)

-- one part falls, and the others don't rise
falls : (f g : ℕ → ℕ) (w n : ℕ) → w < n → g w + 1 ≤ f w → ((v : ℕ) → (v ≡ w → ⊥) → g v ≤ f v) → total g n + 1 ≤ total f n
unfolding total
falls f g w zero l d h = absurd (omega (arith, l))
falls f g w (suc n) l d h = on (cases_eq w n) (λ k. falls f g w n k d h)
  where
    on : (w ≡ n) ⊎ (w ≡ n → ⊥) → (w < n → total g n + 1 ≤ total f n) → total g (suc n) + 1 ≤ total f (suc n)
    on (inl e) rec =
        let r = total_same f g n (λ v k. h v (λ same. omega (arith, k, e, same))) in
        let p : g n + 1 ≤ f n = subst (λ (x : ℕ). g x + 1 ≤ f x) e d in omega (arith, r, p)
    on (inr e) rec =
        let r = rec (omega (arith, l, e)) in
        let p = h n (λ same. e (sym same)) in omega (arith, r, p)

-- who holds a permit is one of the workers
open_below : (aim : Aim) (setup : Setup) (past : List Entry) (w : ℕ) → IsLegal aim setup past → is_open (holding past w) ≡ true → w < setup.limits.workers
open_below aim setup [] w legal h = absurd (cc h)
open_below aim setup (Entry.Claim v a ∷ past) w legal h = on (v == w) refl h (open_below aim setup past w legal.0)
  where
    on : (t : Bool) → (v == w) ≡ t → is_open (if t then Work a else holding past w) ≡ true → (is_open (holding past w) ≡ true → w < setup.limits.workers) → w < setup.limits.workers
    on true k g rec = subst (λ (x : ℕ). x < setup.limits.workers) (eqb-true v w k) legal.1.0.below
    on false k g rec = rec g
open_below aim setup (Entry.Poll v s ∷ past) w legal h = on (v == w) refl h (open_below aim setup past w legal.0)
  where
    on : (t : Bool) → (v == w) ≡ t → is_open (if t then Watch s else holding past w) ≡ true → (is_open (holding past w) ≡ true → w < setup.limits.workers) → w < setup.limits.workers
    on true k g rec = subst (λ (x : ℕ). x < setup.limits.workers) (eqb-true v w k) legal.1.0.below
    on false k g rec = rec g
open_below aim setup (Entry.Ended v outcome ∷ past) w legal h = on (v == w) h (open_below aim setup past w legal.0)
  where
    on : (t : Bool) → is_open (if t then Nothing else holding past w) ≡ true → (is_open (holding past w) ≡ true → w < setup.limits.workers) → w < setup.limits.workers
    on true g rec = absurd (cc g)
    on false g rec = rec g
open_below aim setup (Entry.Seen observation ∷ past) w legal h = open_below aim setup past w legal.0 h
open_below aim setup (Entry.Idle v ∷ past) w legal h = open_below aim setup past w legal.0 h
open_below aim setup (Entry.Leave v ∷ past) w legal h = open_below aim setup past w legal.0 h
open_below aim setup (Entry.Stop v ∷ past) w legal h = open_below aim setup past w legal.0 h
open_below aim setup (Entry.Late v why ∷ past) w legal h = open_below aim setup past w legal.0 h
open_below aim setup (Entry.Short v ∷ past) w legal h = open_below aim setup past w legal.0 h

-- parts fall by what an entry turns
ended_part : (b c : Bool) (t : Bool) → t ≡ true → part false b c + 1 ≤ part t b c
ended_part b c true h = omega arith
ended_part b c false h = absurd (cc h)

stopped_part : (a c : Bool) (t : Bool) → t ≡ false → part a true c + 1 ≤ part a t c
stopped_part a c false h = omega arith
stopped_part a c true h = absurd (cc h)

left_part : (a b : Bool) (t : Bool) → t ≡ false → part a b true + 1 ≤ part a b t
left_part a b false h = omega arith
left_part a b true h = absurd (cc h)

same_part : (a b c : Bool) → part a b c ≤ part a b c
same_part a b c = omega arith

ended_falls : (past : List Entry) (w n : ℕ) (outcome : Outcome) → w < n → is_open (holding past w) ≡ true → total (room_of (Entry.Ended w outcome ∷ past)) n + 1 ≤ total (room_of past) n
ended_falls past w n outcome l h = falls (room_of past) (room_of (Entry.Ended w outcome ∷ past)) w n l
    (rw (eq-eqb w w refl) (ended_part (has_stopped past w) (has_left past w) (is_open (holding past w)) h))
    (λ v apart. rw (ne_eqb w v (λ e. apart (sym e))) (same_part (is_open (holding past v)) (has_stopped past v) (has_left past v)))

stop_falls : (past : List Entry) (w n : ℕ) → w < n → has_stopped past w ≡ false → total (room_of (Entry.Stop w ∷ past)) n + 1 ≤ total (room_of past) n
stop_falls past w n l h = falls (room_of past) (room_of (Entry.Stop w ∷ past)) w n l
    (rw (eq-eqb w w refl) (stopped_part (is_open (holding past w)) (has_left past w) (has_stopped past w) h))
    (λ v apart. rw (ne_eqb w v (λ e. apart (sym e))) (same_part (is_open (holding past v)) (has_stopped past v) (has_left past v)))

late_falls : (past : List Entry) (w n reading : ℕ) → w < n → has_stopped past w ≡ false → total (room_of (Entry.Late w (LateWhy.Deadline reading) ∷ past)) n + 1 ≤ total (room_of past) n
late_falls past w n reading l h = falls (room_of past) (room_of (Entry.Late w (LateWhy.Deadline reading) ∷ past)) w n l
    (rw (eq-eqb w w refl) (stopped_part (is_open (holding past w)) (has_left past w) (has_stopped past w) h))
    (λ v apart. rw (ne_eqb w v (λ e. apart (sym e))) (same_part (is_open (holding past v)) (has_stopped past v) (has_left past v)))

full_falls : (past : List Entry) (w n : ℕ) → w < n → has_left past w ≡ false → total (room_of (Entry.Late w LateWhy.Entries ∷ past)) n + 1 ≤ total (room_of past) n
full_falls past w n l h = falls (room_of past) (room_of (Entry.Late w LateWhy.Entries ∷ past)) w n l
    (rw (eq-eqb w w refl) (left_part (is_open (holding past w)) (has_stopped past w) (has_left past w) h))
    (λ v apart. rw (ne_eqb w v (λ e. apart (sym e))) (same_part (is_open (holding past v)) (has_stopped past v) (has_left past v)))

-- once the journal is full an ask is answered so
full_decides : (setup : Setup) (past : List Entry) (w : ℕ) (d : Decision) → nat_le most_entries (length past) ≡ true → decision setup past w ≡ d → d ≡ Full
full_decides setup past w d full e = sym e ∙ ap (λ (t : Bool). answer_to t (is_ending past) (next_action setup past) (next_poll setup past) (is_other_out setup past w)) full

-- the entries so far, with those that may still come
pub bounded : (aim : Aim) (setup : Setup) (past : List Entry) → IsLegal aim setup past → length past + total (room_of past) setup.limits.workers ≤ most_entries + 3 * setup.limits.workers
bounded aim setup [] legal = let t = total_most [] setup.limits.workers in omega (arith, t)
bounded aim setup (e ∷ past) legal = on (nat_le most_entries (length past)) refl (bounded aim setup past legal.0)
  where
    full : nat_le most_entries (length past) ≡ true → (x : Entry) → IsLegal aim setup (x ∷ past) → total (room_of (x ∷ past)) setup.limits.workers + 1 ≤ total (room_of past) setup.limits.workers
    full h (Entry.Seen observation) l = let short : length past ≡ 0 = ap (λ (p : List Entry). length p) l.1.0 in let long = leb-true most_entries (length past) h in absurd (omega (arith, short, long))
    full h (Entry.Claim w a) l = absurd (cc (full_decides setup past w (Take a) h l.1.1))
    full h (Entry.Poll w s) l = absurd (cc (full_decides setup past w (Look s) h l.1.1))
    full h (Entry.Ended w outcome) l = ended_falls past w setup.limits.workers outcome (open_below aim setup past w l.0 l.1) l.1
    full h (Entry.Idle w) l = absurd (cc (full_decides setup past w Pause h l.1.1))
    full h (Entry.Leave w) l = absurd (cc (full_decides setup past w Go h l.1.1))
    full h (Entry.Stop w) l = stop_falls past w setup.limits.workers l.1.0.below l.1.1
    full h (Entry.Late w (LateWhy.Deadline reading)) l = late_falls past w setup.limits.workers reading l.1.0.below l.1.1
    full h (Entry.Late w LateWhy.Entries) l = full_falls past w setup.limits.workers l.1.0.below l.1.0.here
    full h (Entry.Short w) l = let long = leb-true most_entries (length past) h in let few = l.1.1 in absurd (omega (arith, long, few))

    on : (t : Bool) → nat_le most_entries (length past) ≡ t → length past + total (room_of past) setup.limits.workers ≤ most_entries + 3 * setup.limits.workers → length (e ∷ past) + total (room_of (e ∷ past)) setup.limits.workers ≤ most_entries + 3 * setup.limits.workers
    on true h r = let d = full h e legal in omega (arith, d, r)
    on false h r = let l = leb-false most_entries (length past) h in let t = total_most (e ∷ past) setup.limits.workers in omega (arith, l, t)

pub is_short : (aim : Aim) (setup : Setup) (past : List Entry) → IsLegal aim setup past → setup.limits.workers ≤ 16 → length past ≤ most_entries + 48
is_short aim setup past legal few = let b = bounded aim setup past legal in omega (arith, b, few)
