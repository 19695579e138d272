-- What one verdict changes of the facts.
use Rattle.std.proofs.Common.{◌≡◌, ◌⊎◌, ℕ, zero, suc, ◌+◌, ◌<◌, ◌≤◌, Bool, true, false, cond, not, ◌&&◌, ◌||◌, ◌==◌, List, [], ◌∷◌, length, get_or, if◌then◌else◌, refl, sym, ap, ◌∙◌, subst, inl, inr, arith}
use Rattle.std.proofs.lemmas.Bool.{cases_lt, eq-eqb, eqb-true, and_parts, true≢false}
use Rattle.engine_types.specs.declared.Condition.{Condition}
use Rattle.engine_types.specs.declared.Entry.{Entry}
use Rattle.run_model.specs.Conditions.{is_failed_verdict, is_met_verdict, is_reported, is_started}
use Rattle.run_model.specs.Journals.{Setup, Standing, is_free, is_well}
use Rattle.run_model.specs.Plans.{kind_of, needs_of, slot_needs}
use Rattle.run_model.specs.declared.verdict.Verdict.{Verdict}
use Rattle.ledger_rows.specs.ActionRows.{lack_at}
use Rattle.ledger_rows.specs.ActionRows.Values.{Actions}
use Rattle.ledger_rows.specs.Counts.{counted}
use Rattle.ledger_rows.specs.Facts.{AreBlocked, Facts, FailsOne, MeetsOne, asks_of, counts_by, lets_by, open_needs, same_condition}
use Rattle.ledger_rows.specs.Rows.{AreRows, blocked_in}
use Rattle.ledger_rows.specs.Reports.{AreAsking}
use Rattle.ledger_rows.proofs.Changes.{cause_kept}
use Rattle.ledger_rows.proofs.Meeting.{lacks_met, none_asked, same_is}
use Rattle.ledger_polls.specs.Verdicts.{News, facts_by, facts_with, may_follow, with_verdict}

same_reported : (c : Condition) → is_reported c ≡ true → same_condition c c ≡ true
same_reported Condition.Healthy r = refl
same_reported Condition.Completed r = refl
same_reported Condition.Started r = refl
same_reported Condition.Running r = refl

pub later_reported : (c : Condition) → is_reported c ≡ true → is_started c ≡ false
later_reported Condition.Healthy r = refl
later_reported Condition.Completed r = refl
later_reported Condition.Started r = absurd (true≢false (sym r))
later_reported Condition.Running r = refl

-- the verdict that is there changes nothing
pub same_verdict : (v : ℕ → Condition → Verdict) (s : ℕ) (c : Condition) (x : Verdict) → x ≡ v s c → with_verdict v s c x ≡ v
same_verdict v s c x e = λ i t d. each t d i
  where
    each : (t : ℕ) (d : Condition) → with_verdict v s c x t d ≡ v t d
    each t d = by ((t == s) && same_condition d c) refl
      where
        by : (b : Bool) → ((t == s) && same_condition d c) ≡ b → (if b then x else v t d) ≡ v t d
        by false h = refl
        by true h =
            let p = and_parts (t == s) (same_condition d c) h in
            e ∙ sym (ap (λ (k : ℕ). v k d) (eqb-true t s p.0) ∙ ap (v s) (same_is d c p.1))

module _ (news : News) (reported : is_reported news.condition ≡ true) where
  here : ((news.slot == news.slot) && same_condition news.condition news.condition) ≡ true
  here = ap (λ (t : Bool). t && same_condition news.condition news.condition) (eq-eqb news.slot news.slot refl) ∙ same_reported news.condition reported

  -- a test of the verdict there
  at_slot : (p : Verdict → Bool) (x : Verdict) → p (with_verdict news.verdicts news.slot news.condition x news.slot news.condition) ≡ p x
  at_slot p x = ap (λ (t : Bool). p (if t then x else news.verdicts news.slot news.condition)) here

  -- and of those elsewhere
  elsewhere : (p : Verdict → Bool) (x y : Verdict) (t : ℕ) (d : Condition) → ((t == news.slot) && same_condition d news.condition) ≡ false
      → p (with_verdict news.verdicts news.slot news.condition x t d) ≡ p (with_verdict news.verdicts news.slot news.condition y t d)
  elsewhere p x y t d h = ap (λ (b : Bool). p (if b then x else news.verdicts t d)) h ∙ sym (ap (λ (b : Bool). p (if b then y else news.verdicts t d)) h)

  everywhere : (p : Verdict → Bool) (x y : Verdict) → p x ≡ p y
      → ◌≡◌ {A = ℕ → Condition → Bool} (λ t d. p (with_verdict news.verdicts news.slot news.condition x t d)) (λ t d. p (with_verdict news.verdicts news.slot news.condition y t d))
  everywhere p x y e = λ i t d. each t d i
    where
      each : (t : ℕ) (d : Condition) → p (with_verdict news.verdicts news.slot news.condition x t d) ≡ p (with_verdict news.verdicts news.slot news.condition y t d)
      each t d = by ((t == news.slot) && same_condition d news.condition)
        where
          by : (b : Bool) → p (if b then x else news.verdicts t d) ≡ p (if b then y else news.verdicts t d)
          by true = e
          by false = refl

  pub meets_one : MeetsOne (facts_with news Verdict.NotYet) (facts_with news Verdict.Met) news.slot news.condition
  meets_one = record {
    stands = refl;
    failed = everywhere is_failed_verdict Verdict.Met Verdict.NotYet refl;
    others = λ t d h r. elsewhere is_met_verdict Verdict.Met Verdict.NotYet t d h;
    now = at_slot is_met_verdict Verdict.Met;
    before = at_slot is_met_verdict Verdict.NotYet;
    not_failed = at_slot is_failed_verdict Verdict.NotYet;
  }

  pub fails_one : FailsOne (facts_with news Verdict.NotYet) (facts_with news Verdict.Failed) news.slot news.condition
  fails_one = record {
    stands = refl;
    met = everywhere is_met_verdict Verdict.Failed Verdict.NotYet refl;
    others = λ t d h. elsewhere is_failed_verdict Verdict.Failed Verdict.NotYet t d h;
    now = at_slot is_failed_verdict Verdict.Failed;
    before = at_slot is_failed_verdict Verdict.NotYet;
    not_met = at_slot is_met_verdict Verdict.NotYet;
  }

counted_most : {X : Type 0} (p : X → Bool) (xs : List X) → counted p xs ≤ length xs
counted_most p [] = omega arith
counted_most {X} p (x ∷ xs) = by (p x) (counted_most p xs)
  where
    by : (t : Bool) → counted p xs ≤ length xs → cond t (counted p xs + 1) (counted p xs) ≤ suc (length xs)
    by true e = omega (arith, e)
    by false e = omega (arith, e)

lacks_none : (ns : List ℕ) (a : ℕ) → length ns ≤ a → get_or ns a 0 ≡ 0
lacks_none [] a l = refl
lacks_none (n ∷ ns) zero l = absurd (omega (arith, l))
lacks_none (n ∷ ns) (suc a) l = lacks_none ns a (omega (arith, l))

-- needs that keep an action again are no more than it has
pub few_again : (setup : Setup) (f g : Facts) (journal : List Entry) (rows : Actions) (s : ℕ) (c : Condition) (asking : List ℕ) → MeetsOne f g s c → is_started c ≡ false → counts_by setup f s ≡ true
    → AreBlocked setup f (blocked_in rows) → AreRows setup g journal rows → ((a : ℕ) → counted (λ b. b == a) asking ≡ counted (asks_of s c) (slot_needs setup.declared (kind_of setup.actions a)))
    → ((a : ℕ) → length (needs_of setup.actions a) + length (slot_needs setup.declared (kind_of setup.actions a)) < 4294967296)
    → (a : ℕ) → lack_at rows a + counted (λ b. b == a) asking < 4294967296
few_again setup f g journal rows s c asking one later counts blocked are asks few a = on (cases_lt a (length setup.actions))
  where
    on : (a < length setup.actions) ⊎ (length setup.actions ≤ a) → lack_at rows a + counted (λ b. b == a) asking < 4294967296
    on (inl l) =
        let h = are.lacks a l in
        let k = lacks_met setup f g (blocked_in rows) s c one later blocked counts a in
        let m = counted_most (λ b. not (is_well (f.stands b))) (needs_of setup.actions a) in
        let n = counted_most (λ need. not (lets_by setup f (blocked_in rows) need)) (slot_needs setup.declared (kind_of setup.actions a)) in
        let e = asks a in let z = few a in omega (arith, h, k, m, n, e, z)
    on (inr l) =
        let e = asks a in let z = none_asked setup (asks_of s c) a l in
        let k = lacks_none rows.lacks a (let q = are.lacks_size in omega (arith, q, l)) in omega (arith, e, z, k)

-- where none of three turns is, a verdict stays
pub stays : (before after : Verdict) → may_follow before after ≡ true → ((before ≡ Verdict.NotYet) → (after ≡ Verdict.Met) → ⊥) → ((before ≡ Verdict.NotYet) → (after ≡ Verdict.Failed) → ⊥) → ((before ≡ Verdict.Met) → (after ≡ Verdict.Failed) → ⊥) → after ≡ before
stays Verdict.NotYet Verdict.NotYet f x y z = refl
stays Verdict.NotYet Verdict.Met f x y z = absurd (x refl refl)
stays Verdict.NotYet Verdict.Failed f x y z = absurd (y refl refl)
stays Verdict.Met Verdict.NotYet f x y z = absurd (true≢false (sym f))
stays Verdict.Met Verdict.Met f x y z = refl
stays Verdict.Met Verdict.Failed f x y z = absurd (z refl refl)
stays Verdict.Failed Verdict.NotYet f x y z = absurd (true≢false (sym f))
stays Verdict.Failed Verdict.Met f x y z = absurd (true≢false (sym f))
stays Verdict.Failed Verdict.Failed f x y z = refl

-- what was met and is taken back keeps no action by more needs than a count tells
pub small_again : (news : News) (rows : Actions) (asking : List ℕ) → is_reported news.condition ≡ true → counts_by news.setup (facts_by news.stands news.verdicts) news.slot ≡ true
    → AreRows news.setup (facts_with news Verdict.Met) news.journal rows → AreAsking news.setup news.slot news.condition asking
    → ((a : ℕ) → length (needs_of news.setup.actions a) + length (slot_needs news.setup.declared (kind_of news.setup.actions a)) < 4294967296)
    → (a : ℕ) → lack_at rows a + counted (λ b. b == a) asking < 4294967296
small_again news rows asking reported counts are asks few = few_again news.setup (facts_with news Verdict.NotYet) (facts_with news Verdict.Met) news.journal rows news.slot news.condition asking
    (meets_one news reported) (later_reported news.condition reported) counts
    (record {
      each = λ a. are.blocked.each a
          ∙ ap (λ (t : Bool). is_free (news.stands a) && t) (cause_kept news.setup (facts_with news Verdict.NotYet) (facts_with news Verdict.Met) (blocked_in rows) a (λ b. refl) (meets_one news reported).failed);
    }) are asks.each few
