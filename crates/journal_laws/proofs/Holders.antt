-- Who holds an action and who looks at a slot in a legal journal, and what stays.
use Rattle.std.proofs.Common.{◌≡◌, ◌⊎◌, ℕ, zero, suc, ◌+◌, ◌<◌, ◌≤◌, Bool, true, false, not, ◌&&◌, ◌||◌, ◌==◌, List, [], ◌∷◌, length, Option, Some, None, if◌then◌else◌, refl, sym, ap, ◌∙◌, inl, inr, arith}
use Rattle.std.proofs.lemmas.Bool.{and_parts, cases_eq, eq-eqb, eqb-true, true≢false}
use Rattle.std.specs.List.{list_any}
use Rattle.std.specs.Prelude.{nat_le}
use Rattle.engine_types.specs.declared.Aim.{Aim}
use Rattle.tree_base.specs.Limits.{most_entries}
use Rattle.engine_types.specs.declared.Entry.{Entry}
use Rattle.engine_types.specs.declared.Reply.{Reply}
use Rattle.run_model.specs.Conditions.{counts, is_goal_open, is_needed, is_watched}
use Rattle.run_model.specs.Journals.{Holding, Nothing, Out, Setup, Watch, Well, Work, ended_as, holding, is_ending, is_free, is_watch_of, standing}
use Rattle.run_model.specs.Legal.{IsLegal, Look, answer_to, decision, has_fewest_polls, is_looked_at, is_other_out, may_poll, next_action, next_poll}
use Rattle.run_model.specs.Numbers.{numbers_from, places}
use Rattle.run_model.specs.Plans.{kind_of}
use Rattle.run_model.proofs.LegalLaws.{claim_allowed, found_passes}
use Rattle.run_model.proofs.PlanLaws.{both}

-- an action that a worker holds is out, and no other worker holds it
pub record IsHeld (setup : Setup) (past : List Entry) (w a : ℕ) : Type 0 where
  pub out : standing setup past a ≡ Out
  pub alone : (v : ℕ) → holding past v ≡ Work a → v ≡ w

-- what was free isn't out
not_free : (setup : Setup) (past : List Entry) (a b : ℕ) → b ≡ a → is_free (standing setup past b) ≡ true → standing setup past a ≡ Out → ⊥
not_free setup past a b same free out = let bad : false ≡ true = sym (ap is_free (ap (standing setup past) same ∙ out)) ∙ free in cc bad

pub is_held : (aim : Aim) (setup : Setup) (past : List Entry) (w a : ℕ) → IsLegal aim setup past → holding past w ≡ Work a → IsHeld setup past w a
is_held aim setup [] w a legal e = absurd (cc e)
is_held aim setup (Entry.Claim u b ∷ past) w a legal e = at (u == w) refl (b == a) refl e (λ v h. is_held aim setup past v a legal.0 h)
  where
    free : is_free (standing setup past b) ≡ true
    free = (both _ _ (both _ _ (claim_allowed aim setup past u b legal)).0).0

    others : b ≡ a → ((v : ℕ) → holding past v ≡ Work a → IsHeld setup past v a) → (v : ℕ) → holding past v ≡ Work a → ⊥
    others same rest v h = not_free setup past a b same free (rest v h).out

    alone : b ≡ a → u ≡ w → ((v : ℕ) → holding past v ≡ Work a → IsHeld setup past v a) → (v : ℕ) (t : Bool) → (u == v) ≡ t
        → (if t then Work b else holding past v) ≡ Work a → v ≡ w
    alone same here rest v true h f = sym (eqb-true u v h) ∙ here
    alone same here rest v false h f = absurd (others same rest v f)

    at : (t : Bool) → (u == w) ≡ t → (s : Bool) → (b == a) ≡ s → (if t then Work b else holding past w) ≡ Work a
        → ((v : ℕ) → holding past v ≡ Work a → IsHeld setup past v a) → IsHeld setup (Entry.Claim u b ∷ past) w a
    at true h s k f rest =
        let same : b ≡ a = cc f in
        record { out = rw (eq-eqb b a same) refl; alone = λ v g. alone same (eqb-true u w h) rest v (u == v) refl g }
    at false h true k f rest = absurd (others (eqb-true b a k) rest w f)
    at false h false k f rest = record { out = rw k (rest w f).out; alone = λ v g. apart v (u == v) refl g }
      where
        apart : (v : ℕ) (t : Bool) → (u == v) ≡ t → (if t then Work b else holding past v) ≡ Work a → v ≡ w
        apart v true m g = let same : b ≡ a = cc g in let bad : true ≡ false = sym (eq-eqb b a same) ∙ k in absurd (cc bad)
        apart v false m g = (rest w f).alone v g
is_held aim setup (Entry.Ended u outcome ∷ past) w a legal e = at (u == w) refl e (λ v h. is_held aim setup past v a legal.0 h)
  where
    at : (t : Bool) → (u == w) ≡ t → (if t then Nothing else holding past w) ≡ Work a → ((v : ℕ) → holding past v ≡ Work a → IsHeld setup past v a)
        → IsHeld setup (Entry.Ended u outcome ∷ past) w a
    at true h f rest = absurd (cc f)
    at false h f rest = record { out = still (holding past u) refl; alone = λ v g. alone v (u == v) g }
      where
        alone : (v : ℕ) (t : Bool) → (if t then Nothing else holding past v) ≡ Work a → v ≡ w
        alone v true g = absurd (cc g)
        alone v false g = (rest w f).alone v g

        on : (b : ℕ) → holding past u ≡ Work b → (s : Bool) → (b == a) ≡ s → (if s then ended_as (kind_of setup.actions a) outcome else standing setup past a) ≡ Out
        on b g true k =
            let same : u ≡ w = (rest w f).alone u (g ∙ ap Work (eqb-true b a k)) in
            let bad : true ≡ false = sym (eq-eqb u w same) ∙ h in absurd (cc bad)
        on b g false k = (rest w f).out

        still : (held : Holding) → holding past u ≡ held → standing setup (Entry.Ended u outcome ∷ past) a ≡ Out
        still Nothing g = rw g (rest w f).out
        still (Watch s) g = rw g (rest w f).out
        still (Work b) g = rw g (on b g (b == a) refl)
is_held aim setup (Entry.Poll u s ∷ past) w a legal e = at (u == w) e (λ v h. is_held aim setup past v a legal.0 h)
  where
    alone : (v : ℕ) (t : Bool) → (if t then Watch s else holding past v) ≡ Work a → IsHeld setup past w a → v ≡ w
    alone v true g r = absurd (cc g)
    alone v false g r = r.alone v g

    at : (t : Bool) → (if t then Watch s else holding past w) ≡ Work a → ((v : ℕ) → holding past v ≡ Work a → IsHeld setup past v a)
        → IsHeld setup (Entry.Poll u s ∷ past) w a
    at true f rest = absurd (cc f)
    at false f rest = record { out = (rest w f).out; alone = λ v g. alone v (u == v) g (rest w f) }
is_held aim setup (Entry.Seen observation ∷ past) w a legal e = let r = is_held aim setup past w a legal.0 e in record { out = r.out; alone = r.alone }
is_held aim setup (Entry.Idle u ∷ past) w a legal e = let r = is_held aim setup past w a legal.0 e in record { out = r.out; alone = r.alone }
is_held aim setup (Entry.Leave u ∷ past) w a legal e = let r = is_held aim setup past w a legal.0 e in record { out = r.out; alone = r.alone }
is_held aim setup (Entry.Stop u ∷ past) w a legal e = let r = is_held aim setup past w a legal.0 e in record { out = r.out; alone = r.alone }
is_held aim setup (Entry.Late u why ∷ past) w a legal e = let r = is_held aim setup past w a legal.0 e in record { out = r.out; alone = r.alone }
is_held aim setup (Entry.Short u ∷ past) w a legal e = let r = is_held aim setup past w a legal.0 e in record { out = r.out; alone = r.alone }

-- an action that ended well stays so
pub stays_well : (aim : Aim) (setup : Setup) (entry : Entry) (past : List Entry) (a : ℕ) (reply : Reply) → IsLegal aim setup (entry ∷ past)
    → standing setup past a ≡ Well reply → standing setup (entry ∷ past) a ≡ Well reply
stays_well aim setup (Entry.Claim w b) past a reply legal e = at (b == a) refl
  where
    at : (t : Bool) → (b == a) ≡ t → (if t then Out else standing setup past a) ≡ Well reply
    at true h =
        let free : is_free (standing setup past b) ≡ true = (both _ _ (both _ _ (claim_allowed aim setup past w b legal)).0).0 in
        let bad : false ≡ true = sym (ap is_free (ap (standing setup past) (eqb-true b a h) ∙ e)) ∙ free in absurd (cc bad)
    at false h = e
stays_well aim setup (Entry.Ended w outcome) past a reply legal e = at (holding past w) refl
  where
    on : (b : ℕ) → holding past w ≡ Work b → (t : Bool) → (b == a) ≡ t → (if t then ended_as (kind_of setup.actions a) outcome else standing setup past a) ≡ Well reply
    on b h true k =
        let held = is_held aim setup past w a legal.0 (h ∙ ap Work (eqb-true b a k)) in
        let bad : Out ≡ Well reply = sym held.out ∙ e in absurd (cc bad)
    on b h false k = e

    at : (held : Holding) → holding past w ≡ held → standing setup (Entry.Ended w outcome ∷ past) a ≡ Well reply
    at Nothing h = rw h e
    at (Watch s) h = rw h e
    at (Work b) h = rw h (on b h (b == a) refl)
stays_well aim setup (Entry.Seen observation) past a reply legal e = e
stays_well aim setup (Entry.Poll w s) past a reply legal e = e
stays_well aim setup (Entry.Idle w) past a reply legal e = e
stays_well aim setup (Entry.Leave w) past a reply legal e = e
stays_well aim setup (Entry.Stop w) past a reply legal e = e
stays_well aim setup (Entry.Late w why) past a reply legal e = e
stays_well aim setup (Entry.Short w) past a reply legal e = e

-- a number that passes among these
one_of : (p : ℕ → Bool) (i n k : ℕ) → i ≤ k → k < i + n → p k ≡ true → list_any p (numbers_from i n) ≡ true
one_of p i zero k l m e = absurd (omega arith)
one_of p i (suc n) k l m e = on (cases_eq k i) (λ s. one_of p (i + 1) n k (omega (arith, l, s)) (omega (arith, m)) e)
  where
    or_true : (t : Bool) → (t || true) ≡ true
    or_true true = refl
    or_true false = refl

    on : (k ≡ i) ⊎ (k ≡ i → ⊥) → ((k ≡ i → ⊥) → list_any p (numbers_from (i + 1) n) ≡ true) → list_any p (numbers_from i (suc n)) ≡ true
    on (inl s) rec = ap (λ (t : Bool). t || list_any p (numbers_from (i + 1) n)) (ap p (sym s) ∙ e)
    on (inr s) rec = ap (λ (t : Bool). p i || t) (rec s) ∙ or_true (p i)

-- a poll is given of a slot that may be polled
answers_look : (full ending : Bool) (action slot : Option ℕ) (out : Bool) (s : ℕ) → answer_to full ending action slot out ≡ Look s → slot ≡ Some s
answers_look true ending action slot out s e = absurd (cc e)
answers_look false true action slot out s e = absurd (cc e)
answers_look false false (Some b) slot out s e = absurd (cc e)
answers_look false false None (Some t) out s e = cc e
answers_look false false None None true s e = absurd (cc e)
answers_look false false None None false s e = absurd (cc e)

poll_free : (setup : Setup) (past : List Entry) (w s : ℕ) → decision setup past w ≡ Look s → is_looked_at setup past s ≡ false
poll_free setup past w s e = by (is_watched setup past s) (is_looked_at setup past s) (and_parts (may_poll setup past s) (has_fewest_polls setup past s)
    (found_passes (λ t. may_poll setup past t && has_fewest_polls setup past t) (places setup.declared.slots) s
    (answers_look (nat_le most_entries (length past)) (is_ending past) (next_action setup past) (next_poll setup past) (is_other_out setup past w) s e))).0
  where
    by : (t u : Bool) → (t && not u) ≡ true → u ≡ false
    by true false h = refl
    by true true h = absurd (true≢false (sym h))
    by false u h = absurd (true≢false (sym h))

-- in a legal journal one worker at most looks at a slot, and it is one of the run's
pub record IsWatcher (setup : Setup) (past : List Entry) (w s : ℕ) : Type 0 where
  pub below : w < setup.limits.workers
  pub alone : (v : ℕ) → holding past v ≡ Watch s → v ≡ w

pub is_watcher : (aim : Aim) (setup : Setup) (past : List Entry) (w s : ℕ) → IsLegal aim setup past → holding past w ≡ Watch s → IsWatcher setup past w s
is_watcher aim setup [] w s legal h = absurd (cc h)
is_watcher aim setup (Entry.Seen observed ∷ past) w s legal h = let r = is_watcher aim setup past w s legal.0 h in record { below = r.below; alone = r.alone }
is_watcher aim setup (Entry.Idle v ∷ past) w s legal h = let r = is_watcher aim setup past w s legal.0 h in record { below = r.below; alone = r.alone }
is_watcher aim setup (Entry.Leave v ∷ past) w s legal h = let r = is_watcher aim setup past w s legal.0 h in record { below = r.below; alone = r.alone }
is_watcher aim setup (Entry.Stop v ∷ past) w s legal h = let r = is_watcher aim setup past w s legal.0 h in record { below = r.below; alone = r.alone }
is_watcher aim setup (Entry.Late v why ∷ past) w s legal h = let r = is_watcher aim setup past w s legal.0 h in record { below = r.below; alone = r.alone }
is_watcher aim setup (Entry.Short v ∷ past) w s legal h = let r = is_watcher aim setup past w s legal.0 h in record { below = r.below; alone = r.alone }
is_watcher aim setup (Entry.Claim v a ∷ past) w s legal h = on (v == w) refl h (is_watcher aim setup past w s legal.0)
  where
    was : (u : ℕ) (t : Bool) → (if t then Work a else holding past u) ≡ Watch s → holding past u ≡ Watch s
    was u true k = absurd (cc k)
    was u false k = k

    on : (t : Bool) → (v == w) ≡ t → (if t then Work a else holding past w) ≡ Watch s → (holding past w ≡ Watch s → IsWatcher setup past w s) → IsWatcher setup (Entry.Claim v a ∷ past) w s
    on true e k rec = absurd (cc k)
    on false e k rec = let r = rec k in record { below = r.below; alone = λ u m. r.alone u (was u (v == u) m) }
is_watcher aim setup (Entry.Ended v outcome ∷ past) w s legal h = on (v == w) refl h (is_watcher aim setup past w s legal.0)
  where
    was : (u : ℕ) (t : Bool) → (if t then Nothing else holding past u) ≡ Watch s → holding past u ≡ Watch s
    was u true k = absurd (cc k)
    was u false k = k

    on : (t : Bool) → (v == w) ≡ t → (if t then Nothing else holding past w) ≡ Watch s → (holding past w ≡ Watch s → IsWatcher setup past w s) → IsWatcher setup (Entry.Ended v outcome ∷ past) w s
    on true e k rec = absurd (cc k)
    on false e k rec = let r = rec k in record { below = r.below; alone = λ u m. r.alone u (was u (v == u) m) }
is_watcher aim setup (Entry.Poll v t ∷ past) w s legal h = on (v == w) refl h (is_watcher aim setup past w s legal.0) (λ u held. is_watcher aim setup past u t legal.0 held)
  where
    -- nobody looked at the slot before
    nobody : (u : ℕ) → u < setup.limits.workers → holding past u ≡ Watch t → ⊥
    nobody u l k =
        let looked : is_looked_at setup past t ≡ true = one_of (λ x. is_watch_of t (holding past x)) 0 setup.limits.workers u (omega arith) (omega (arith, l)) (ap (is_watch_of t) k ∙ eq-eqb t t refl) in
        true≢false (sym looked ∙ poll_free setup past v t legal.1.1)

    on : (x : Bool) → (v == w) ≡ x → (if x then Watch t else holding past w) ≡ Watch s → (holding past w ≡ Watch s → IsWatcher setup past w s) → ((u : ℕ) → holding past u ≡ Watch t → IsWatcher setup past u t) → IsWatcher setup (Entry.Poll v t ∷ past) w s
    on true e k rec each =
        let same : v ≡ w = eqb-true v w e in
        let slot : t ≡ s = cc k in
        record { below = rw (← same) legal.1.0.below; alone = λ u m. others u (v == u) refl m }
      where
        others : (u : ℕ) (y : Bool) → (v == u) ≡ y → (if y then Watch t else holding past u) ≡ Watch s → u ≡ w
        others u true f m = sym (eqb-true v u f) ∙ eqb-true v w e
        others u false f m =
            let slot : t ≡ s = cc k in
            let held : holding past u ≡ Watch t = m ∙ ap (λ (z : ℕ). Watch z) (sym slot) in
            absurd (nobody u (each u held).below held)
    on false e k rec each =
        let r = rec k in
        record { below = r.below; alone = λ u m. others u (v == u) refl m r }
      where
        others : (u : ℕ) (y : Bool) → (v == u) ≡ y → (if y then Watch t else holding past u) ≡ Watch s → IsWatcher setup past w s → u ≡ w
        others u true f m r =
            let slot : t ≡ s = cc m in
            absurd (nobody w r.below (k ∙ ap (λ (z : ℕ). Watch z) (sym slot)))
        others u false f m r = r.alone u m

-- the reports on a slot that is polled count
pub polled_counts : (setup : Setup) (past : List Entry) (w s : ℕ) → decision setup past w ≡ Look s → counts setup past s ≡ true
polled_counts setup past w s e = (and_parts (counts setup past s) (is_needed setup past s || is_goal_open setup past s) (and_parts (is_watched setup past s) (not (is_looked_at setup past s))
    (and_parts (may_poll setup past s) (has_fewest_polls setup past s)
    (found_passes (λ t. may_poll setup past t && has_fewest_polls setup past t) (places setup.declared.slots) s
    (answers_look (nat_le most_entries (length past)) (is_ending past) (next_action setup past) (next_poll setup past) (is_other_out setup past w) s e))).0).0).0
