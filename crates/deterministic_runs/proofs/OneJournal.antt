-- The law of the one journal, entry by entry.
use Rattle.std.proofs.Common.{◌≡◌, ◌∙◌, inl, inr, ℕ, zero, suc, ◌+◌, ◌<◌, Bool, true, false, List, [], ◌∷◌, Option, None, ap, arith, length, refl, reverse, subst, sym}
use Rattle.std.proofs.lemmas.List.{reverse-reverse}
use Rattle.std.specs.Prelude.{◌||◌, ◌&&◌, ◌-◌, is_some, unwrap_or}
use Rattle.std.specs.List.{list_any}
use Rattle.engine_types.specs.declared.Aim.{Aim}
use Rattle.engine_types.specs.declared.Declared.{Declared}
use Rattle.engine_types.specs.declared.Entry.{Entry}
use Rattle.engine_types.specs.declared.LateWhy.{LateWhy}
use Rattle.engine_types.specs.declared.Observed.{Observed}
use Rattle.engine_types.specs.declared.Seen.{Seen}
use Rattle.engine_types.specs.declared.SeenEnd.{SeenEnd}
use Rattle.run_model.specs.Ending.{IsFinal, is_seen_bad}
use Rattle.run_model.specs.Journals.{Setup, has_left, holding, is_open, seen_in}
use Rattle.run_model.specs.Legal.{IsLegal, IsObserved, IsReady, Saw}
use Rattle.run_model.specs.Logs.{exchanges_of}
use Rattle.run_model.specs.Numbers.{numbers_from}
use Rattle.run_model.specs.Observation.{is_up}
use Rattle.run_model.specs.Rolling.{run_actions}
use Rattle.run_model.specs.Runs.{Task, run_seen, run_setup, unseen}
use Rattle.deterministic_runs.specs.Allowed.{AreServed, IsAllowed, Rules, Stand, is_short_end, wants_memory}
use Rattle.deterministic_runs.specs.Laws.{OneJournal}
use Rattle.deterministic_runs.proofs.Next.{entry_is_next}
use Rattle.deterministic_runs.proofs.Observed.{same_observation}
use Rattle.deterministic_runs.proofs.Served.{IsFine, ample_entry, fine_before, open_ready}

-- a journal begins with an observation
record BeginsWith (aim : Aim) (setup : Setup) (entry : Entry) (observation : Observed) : Type 0 where
  is : entry ≡ Entry.Seen observation
  observed : IsObserved setup.declared aim observation
  saw : Saw observation.end setup.seen

first_seen : (aim : Aim) (setup : Setup) (entry : Entry) → IsLegal aim setup (entry ∷ []) → (observation : Observed) × BeginsWith aim setup entry observation
first_seen aim setup (Entry.Seen observation) legal = (observation, record { is = refl; observed = legal.1.1; saw = legal.1.2 })
first_seen aim setup (Entry.Claim w a) legal = absurd (cc legal.1.0.begun)
first_seen aim setup (Entry.Poll w s) legal = absurd (cc legal.1.0.begun)
first_seen aim setup (Entry.Ended w outcome) legal = absurd (cc legal.1)
first_seen aim setup (Entry.Idle w) legal = absurd (cc legal.1.0.begun)
first_seen aim setup (Entry.Leave w) legal = absurd (cc legal.1.0.begun)
first_seen aim setup (Entry.Stop w) legal = absurd (cc legal.1.0.begun)
first_seen aim setup (Entry.Late w LateWhy.Entries) legal = absurd (cc legal.1.0.begun)
first_seen aim setup (Entry.Late w (LateWhy.Deadline reading)) legal = absurd (cc legal.1.0.begun)
first_seen aim setup (Entry.Short w) legal = absurd (cc legal.1.0.begun)

served_seen : (rules : Rules) (start : Stand) (setup : Setup) (entry : Entry) (observation : Observed) → entry ≡ Entry.Seen observation
    → AreServed rules start (exchanges_of setup (entry ∷ []) 0) → AreServed rules start observation.exchanges
served_seen rules start setup entry observation is served = subst (λ (e : Entry). AreServed rules start (exchanges_of setup (e ∷ []) 0)) is served

ample_seen : (entry : Entry) (observation : Observed) → entry ≡ Entry.Seen observation → wants_memory entry ≡ false → is_short_end observation.end ≡ false
ample_seen entry observation is ample = subst (λ (e : Entry). wants_memory e ≡ false) is ample

-- the first entries of two journals of one task are the same observation
first_same : (rules : Rules) (start : Stand) (aim : Aim) (one other : Setup) (e f : Entry) (x y : Observed) → one.declared ≡ other.declared
    → IsFine rules start aim one (e ∷ []) → IsFine rules start aim other (f ∷ []) → BeginsWith aim one e x → BeginsWith aim other f y → x ≡ y
first_same rules start aim one other e f x y same fine fine_too begins begins_too =
    same_observation rules one.declared aim start x y begins.observed
    (subst (λ (d : Declared). IsObserved d aim y) (sym same) begins_too.observed)
    (ample_seen e x begins.is (ample_entry e [] fine.ample)) (ample_seen f y begins_too.is (ample_entry f [] fine_too.ample))
    (served_seen rules start one e x begins.is fine.served) (served_seen rules start other f y begins_too.is fine_too.served)

-- nothing stands behind the end of a run of one worker
module _ (aim : Aim) (setup : Setup) (one : setup.limits.workers ≡ 1) where
  bad_unseen : (past : List Entry) → is_seen_bad past ≡ true → seen_in past ≡ None
  bad_unseen [] e = absurd (cc e)
  bad_unseen (Entry.Seen observation ∷ past) e = at observation.end refl
    where
      at : (end : SeenEnd) → observation.end ≡ end → seen_in (Entry.Seen observation ∷ past) ≡ None
      at (SeenEnd.Good seen) is = let wrong : is_seen_bad (Entry.Seen observation ∷ past) ≡ false = rw is refl in let no : true ≡ false = sym e ∙ wrong in absurd (cc no)
      at (SeenEnd.Bad fault) is = rw is refl
  bad_unseen (Entry.Claim w a ∷ past) e = bad_unseen past e
  bad_unseen (Entry.Poll w s ∷ past) e = bad_unseen past e
  bad_unseen (Entry.Ended w outcome ∷ past) e = bad_unseen past e
  bad_unseen (Entry.Idle w ∷ past) e = bad_unseen past e
  bad_unseen (Entry.Leave w ∷ past) e = bad_unseen past e
  bad_unseen (Entry.Stop w ∷ past) e = bad_unseen past e
  bad_unseen (Entry.Late w why ∷ past) e = bad_unseen past e
  bad_unseen (Entry.Short w ∷ past) e = bad_unseen past e

  unbegun : (past : List Entry) → is_seen_bad past ≡ true → is_some (seen_in past) ≡ true → ⊥
  unbegun past bad begun = let wrong : false ≡ true = sym (ap is_some (bad_unseen past bad)) ∙ begun in cc wrong

  sure : (b : Bool) → (b || false) ≡ true → b ≡ true
  sure true e = refl
  sure false e = absurd (cc e)

  left_first : (past : List Entry) (n : ℕ) → n ≡ 1 → list_any (has_left past) (numbers_from 0 n) ≡ true → has_left past 0 ≡ true
  left_first past n is left = let here : list_any (has_left past) (0 ∷ []) ≡ true = rw is at left in sure (has_left past 0) here

  gone : (past : List Entry) (w : ℕ) → has_left past 0 ≡ true → w < setup.limits.workers → has_left past w ≡ false → ⊥
  gone past w left below here =
      let first : w ≡ 0 = omega (arith, below, one) in
      let stays : has_left past 0 ≡ false = subst (λ (v : ℕ). has_left past v ≡ false) first here in
      let wrong : true ≡ false = sym left ∙ stays in cc wrong

  not_ready : (past : List Entry) (w : ℕ) → IsFinal setup past → IsReady setup past w → ⊥
  not_ready past w (inl bad) ready = unbegun past bad ready.begun
  not_ready past w (inr over) ready = gone past w (left_first past setup.limits.workers one over.left) ready.below ready.here

  none_open : (past : List Entry) (w : ℕ) → IsLegal aim setup past → IsFinal setup past → is_open (holding past w) ≡ true → ⊥
  none_open past w legal (inl bad) out = unbegun past bad (open_ready aim setup past w legal out).begun
  none_open past w legal (inr over) out =
      let nothing = over.none_out w (open_ready aim setup past w legal out).below in
      let wrong : false ≡ true = sym (ap is_open nothing) ∙ out in cc wrong

  no_end : (past : List Entry) → past ≡ [] → IsFinal setup past → ⊥
  no_end past empty (inl bad) = let wrong : is_seen_bad [] ≡ true = subst (λ (l : List Entry). is_seen_bad l ≡ true) empty bad in cc wrong
  no_end past empty (inr over) =
      let left = left_first past setup.limits.workers one over.left in
      let wrong : has_left [] 0 ≡ true = subst (λ (l : List Entry). has_left l 0 ≡ true) empty left in cc wrong

  nothing_after : (entry : Entry) (past : List Entry) → IsFinal setup past → IsLegal aim setup (entry ∷ past) → ⊥
  nothing_after (Entry.Seen observation) past final legal = no_end past legal.1.0 final
  nothing_after (Entry.Claim w a) past final legal = not_ready past w final legal.1.0
  nothing_after (Entry.Poll w s) past final legal = not_ready past w final legal.1.0
  nothing_after (Entry.Ended w outcome) past final legal = none_open past w legal.0 final legal.1
  nothing_after (Entry.Idle w) past final legal = not_ready past w final legal.1.0
  nothing_after (Entry.Leave w) past final legal = not_ready past w final legal.1.0
  nothing_after (Entry.Stop w) past final legal = not_ready past w final legal.1.0
  nothing_after (Entry.Late w LateWhy.Entries) past final legal = not_ready past w final legal.1.0
  nothing_after (Entry.Late w (LateWhy.Deadline reading)) past final legal = not_ready past w final legal.1.0
  nothing_after (Entry.Short w) past final legal = not_ready past w final legal.1.0

-- two journals within one setup
module _ (rules : Rules) (start : Stand) (aim : Aim) (setup : Setup) (one : setup.limits.workers ≡ 1) (undated : setup.limits.deadline ≡ None) where
  entry_same : (e f : Entry) (past : List Entry) → IsFine rules start aim setup (e ∷ past) → IsFine rules start aim setup (f ∷ past) → e ≡ f
  entry_same e f [] fine fine_too =
      let first = first_seen aim setup e fine.legal in
      let second = first_seen aim setup f fine_too.legal in
      first.1.is
      ∙ ap (λ (o : Observed). Entry.Seen o) (first_same rules start aim setup setup e f first.0 second.0 refl fine fine_too first.1 second.1)
      ∙ sym second.1.is
  entry_same e f (x ∷ past) fine fine_too =
      entry_is_next rules start aim setup one undated e (x ∷ past) (λ h. cc h) fine
      ∙ sym (entry_is_next rules start aim setup one undated f (x ∷ past) (λ h. cc h) fine_too)

  same_long : (p q : List Entry) → length p ≡ length q → IsFine rules start aim setup p → IsFine rules start aim setup q → p ≡ q
  same_long [] [] l fine fine_too = refl
  same_long [] (f ∷ q) l fine fine_too = absurd (omega (arith, l))
  same_long (e ∷ p) [] l fine fine_too = absurd (omega (arith, l))
  same_long (e ∷ p) (f ∷ q) l fine fine_too =
      let rest : p ≡ q = same_long p q (omega (arith, l)) (fine_before rules start aim setup e p fine) (fine_before rules start aim setup f q fine_too) in
      let other : IsFine rules start aim setup (f ∷ p) = subst (λ (past : List Entry). IsFine rules start aim setup (f ∷ past)) (sym rest) fine_too in
      ap (λ (entry : Entry). entry ∷ p) (entry_same e f p fine other) ∙ ap (λ (past : List Entry). f ∷ past) rest

  -- a journal that ended isn't a longer one's beginning
  not_longer : (p q : List Entry) (more : ℕ) → length q ≡ suc more + length p → IsFinal setup p → IsFine rules start aim setup p → IsFine rules start aim setup q → ⊥
  not_longer p [] more l final fine fine_too = omega (arith, l)
  not_longer p (f ∷ q) zero l final fine fine_too =
      let rest : p ≡ q = same_long p q (omega (arith, l)) fine (fine_before rules start aim setup f q fine_too) in
      nothing_after aim setup one f p final (subst (λ (past : List Entry). IsLegal aim setup (f ∷ past)) (sym rest) fine_too.legal)
  not_longer p (f ∷ q) (suc more) l final fine fine_too =
      not_longer p q more (omega (arith, l)) final fine (fine_before rules start aim setup f q fine_too)

  same_journal : (p q : List Entry) → IsFinal setup p → IsFinal setup q → IsFine rules start aim setup p → IsFine rules start aim setup q → p ≡ q
  same_journal p q final final_too fine fine_too = order (length q - length p) (length p - length q) refl refl
    where
      order : (d g : ℕ) → length q - length p ≡ d → length p - length q ≡ g → p ≡ q
      order zero zero i j = same_long p q (omega (arith, i, j)) fine fine_too
      order zero (suc g) i j = absurd (not_longer q p g (omega (arith, i, j)) final_too fine_too fine)
      order (suc d) g i j = absurd (not_longer p q d (omega (arith, i, j)) final fine fine_too)

-- the first entry of a journal, which alone tells what was seen
record Oldest (rules : Rules) (start : Stand) (aim : Aim) (setup : Setup) (past : List Entry) : Type 0 where
  first : Entry
  fine : IsFine rules start aim setup (first ∷ [])
  seen : seen_in past ≡ seen_in (first ∷ [])

passes : (aim : Aim) (setup : Setup) (entry : Entry) (past : List Entry) → (past ≡ [] → ⊥) → IsLegal aim setup (entry ∷ past) → seen_in (entry ∷ past) ≡ seen_in past
passes aim setup (Entry.Seen observation) past some legal = absurd (some legal.1.0)
passes aim setup (Entry.Claim w a) past some legal = refl
passes aim setup (Entry.Poll w s) past some legal = refl
passes aim setup (Entry.Ended w outcome) past some legal = refl
passes aim setup (Entry.Idle w) past some legal = refl
passes aim setup (Entry.Leave w) past some legal = refl
passes aim setup (Entry.Stop w) past some legal = refl
passes aim setup (Entry.Late w why) past some legal = refl
passes aim setup (Entry.Short w) past some legal = refl

oldest : (rules : Rules) (start : Stand) (aim : Aim) (setup : Setup) (entry : Entry) (past : List Entry) → IsFine rules start aim setup (entry ∷ past)
    → Oldest rules start aim setup (entry ∷ past)
oldest rules start aim setup entry [] fine = record { first = entry; fine = fine; seen = refl }
oldest rules start aim setup entry (e ∷ past) fine =
    let rest = oldest rules start aim setup e past (fine_before rules start aim setup entry (e ∷ past) fine) in
    record { first = rest.first; fine = rest.fine; seen = passes aim setup entry (e ∷ past) (λ h. cc h) fine.legal ∙ rest.seen }

beginning : (rules : Rules) (start : Stand) (aim : Aim) (setup : Setup) → setup.limits.workers ≡ 1 → (past : List Entry) → IsFinal setup past → IsFine rules start aim setup past
    → Oldest rules start aim setup past
beginning rules start aim setup one [] final fine = absurd (no_end aim setup one [] refl final)
beginning rules start aim setup one (entry ∷ past) final fine = oldest rules start aim setup entry past fine

-- what a run is of that saw this
abbrev pub setup_by : Task → Seen → Setup
setup_by task seen = record {
  declared = task.declared;
  seen = seen;
  actions = run_actions (record { declared = task.declared; seen = seen; aim = task.aim });
  limits = record task.limits { wait = task.limits.wait && is_up task.aim.purpose };
}

module _ (rules : Rules) (start : Stand) (task : Task) (single : task.limits.workers ≡ 1) (undated : task.limits.deadline ≡ None) where
  fine_of : (journal : List Entry) → IsAllowed rules start task journal → IsFine rules start task.aim (run_setup task journal) (reverse journal)
  fine_of journal allowed = record { legal = allowed.run.legal; served = allowed.served; heeded = allowed.heeded; ample = allowed.ample }

  same_seen : (one other : List Entry) → IsAllowed rules start task one → IsAllowed rules start task other → run_seen one ≡ run_seen other
  same_seen one other a b =
      let p = beginning rules start task.aim (run_setup task one) single (reverse one) a.run.over (fine_of one a) in
      let q = beginning rules start task.aim (run_setup task other) single (reverse other) b.run.over (fine_of other b) in
      let x = first_seen task.aim (run_setup task one) p.first p.fine.legal in
      let y = first_seen task.aim (run_setup task other) q.first q.fine.legal in
      let observations : x.0 ≡ y.0 = first_same rules start task.aim (run_setup task one) (run_setup task other) p.first q.first x.0 y.0 refl p.fine q.fine x.1 y.1 in
      let firsts : p.first ≡ q.first = x.1.is ∙ ap (λ (o : Observed). Entry.Seen o) observations ∙ sym y.1.is in
      ap (λ (o : Option Seen). unwrap_or o unseen) (p.seen ∙ ap (λ (e : Entry). seen_in (e ∷ [])) firsts ∙ sym q.seen)

  same_run : (one other : List Entry) → IsAllowed rules start task one → IsAllowed rules start task other → one ≡ other
  same_run one other a b =
      let setups : run_setup task other ≡ run_setup task one = ap (λ (seen : Seen). setup_by task seen) (sym (same_seen one other a b)) in
      let final : IsFinal (run_setup task one) (reverse other) = subst (λ (s : Setup). IsFinal s (reverse other)) setups b.run.over in
      let fine : IsFine rules start task.aim (run_setup task one) (reverse other) =
      subst (λ (s : Setup). IsFine rules start task.aim s (reverse other)) setups (fine_of other b) in
      let backward : reverse one ≡ reverse other =
      same_journal rules start task.aim (run_setup task one) single undated (reverse one) (reverse other) a.run.over final (fine_of one a) fine in
      sym (reverse-reverse one) ∙ ap reverse backward ∙ reverse-reverse other

pub one_journal : OneJournal
one_journal rules start task one other single undated a b = same_run rules start task single undated one other a b
