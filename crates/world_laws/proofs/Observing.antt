-- What a legal journal says of its observation.
use Rattle.std.proofs.Common.{◌≡◌, Bool, true, false, List, [], ◌∷◌, Some, None, refl, sym, ap, ◌∙◌, inl, inr, map}
use Rattle.std.specs.List.{IsDistinct}
use Rattle.std.specs.Prelude.{if◌then◌else◌}
use Rattle.std.specs.Str.{bytes_eq}
use Rattle.engine_types.specs.declared.Aim.{Aim}
use Rattle.engine_types.specs.declared.Declared.{Declared}
use Rattle.engine_types.specs.declared.Entry.{Entry}
use Rattle.engine_types.specs.declared.Listed.{Listed}
use Rattle.engine_types.specs.declared.Observed.{Observed}
use Rattle.engine_types.specs.declared.Seen.{Seen}
use Rattle.engine_types.specs.declared.SeenEnd.{SeenEnd}
use Rattle.engine_types.specs.declared.SeenFault.{SeenFault}
use Rattle.run_model.specs.Journals.{Setup, seen_in}
use Rattle.run_model.specs.Legal.{IsLegal, IsObserved, seen_end, whole_end}
use Rattle.run_model.specs.Observation.{Asks, Ends, Onward, Strays, observed}
use Rattle.run_model.specs.Plans.{Basis, action_count, is_too_long}
use Rattle.run_model.specs.Told.{IsTold}
use Rattle.run_model.proofs.ToldLaws.{seen_is_told}
use Rattle.world_laws.proofs.FirstRows.{distinct_first}

-- an observation that ended well
pub record IsSeenWell (declared : Declared) (aim : Aim) (seen : Seen) : Type 0 where
  pub observation : Observed
  pub is : IsObserved declared aim observation
  pub good : observation.end ≡ SeenEnd.Good seen

-- an observation that saw something ended well
pub good_end : (observation : Observed) (past : List Entry) (seen : Seen) → seen_in (Entry.Seen observation ∷ past) ≡ Some seen → observation.end ≡ SeenEnd.Good seen
good_end observation past seen e = at observation.end refl e
  where
    at : (end : SeenEnd) → observation.end ≡ end → seen_in (Entry.Seen observation ∷ past) ≡ Some seen → observation.end ≡ SeenEnd.Good seen
    at (SeenEnd.Good s) h f = let same : Some s ≡ Some seen = rw h at f in let one : s ≡ seen = cc same in h ∙ ap (λ (x : Seen). SeenEnd.Good x) one
    at (SeenEnd.Bad fault) h f = let bad : None ≡ Some seen = rw h at f in absurd (cc bad)

-- what is seen in a legal journal is what its observation saw
pub seen_by : (aim : Aim) (setup : Setup) (past : List Entry) (seen : Seen) → IsLegal aim setup past → seen_in past ≡ Some seen → IsSeenWell setup.declared aim seen
seen_by aim setup [] seen legal e = absurd (cc e)
seen_by aim setup (Entry.Seen observation ∷ past) seen legal e = record { observation = observation; is = legal.1.1; good = good_end observation past seen e }
seen_by aim setup (Entry.Claim w a ∷ past) seen legal e = seen_by aim setup past seen legal.0 e
seen_by aim setup (Entry.Poll w s ∷ past) seen legal e = seen_by aim setup past seen legal.0 e
seen_by aim setup (Entry.Ended w outcome ∷ past) seen legal e = seen_by aim setup past seen legal.0 e
seen_by aim setup (Entry.Idle w ∷ past) seen legal e = seen_by aim setup past seen legal.0 e
seen_by aim setup (Entry.Leave w ∷ past) seen legal e = seen_by aim setup past seen legal.0 e
seen_by aim setup (Entry.Stop w ∷ past) seen legal e = seen_by aim setup past seen legal.0 e
seen_by aim setup (Entry.Late w why ∷ past) seen legal e = seen_by aim setup past seen legal.0 e
seen_by aim setup (Entry.Short w ∷ past) seen legal e = seen_by aim setup past seen legal.0 e

-- what an observation saw that ended well is what its exchanges told
pub told_by : (declared : Declared) (aim : Aim) (seen : Seen) (well : IsSeenWell declared aim seen) → IsTold declared aim.purpose well.observation.exchanges seen
told_by declared aim seen well = at well.is
  where
    by_end : (end : SeenEnd) → whole_end declared aim end ≡ SeenEnd.Good seen → end ≡ SeenEnd.Good seen
    by_end (SeenEnd.Bad fault) e = absurd (cc e)
    by_end (SeenEnd.Good s) e = on (is_too_long basis) e
      where
        basis : Basis
        basis = record { declared = declared; seen = s; aim = aim }

        on : (t : Bool) → (if t then SeenEnd.Bad (SeenFault.TooManyActions (action_count basis)) else SeenEnd.Good s) ≡ SeenEnd.Good seen → SeenEnd.Good s ≡ SeenEnd.Good seen
        on true h = absurd (cc h)
        on false h = h

    by : (o : Onward) → observed declared aim.purpose well.observation.exchanges ≡ o → seen_end declared aim well.observation.exchanges ≡ Some well.observation.end
        → IsTold declared aim.purpose well.observation.exchanges seen
    by (Asks request) h e = let bad : None ≡ Some well.observation.end = rw h at e in absurd (cc bad)
    by Strays h e = let bad : None ≡ Some well.observation.end = rw h at e in absurd (cc bad)
    by (Ends end) h e =
        let ends : Some (whole_end declared aim end) ≡ Some well.observation.end = rw h at e in
        let whole : whole_end declared aim end ≡ well.observation.end = cc ends in
        let good : end ≡ SeenEnd.Good seen = by_end end (whole ∙ well.good) in
        seen_is_told declared aim.purpose well.observation.exchanges seen (h ∙ ap (λ (x : SeenEnd). Ends x) good)

    at : IsObserved declared aim well.observation → IsTold declared aim.purpose well.observation.exchanges seen
    at (inl e) = by (observed declared aim.purpose well.observation.exchanges) refl e
    at (inr e) = let bad : SeenEnd.Bad SeenFault.Memory ≡ SeenEnd.Good seen = sym e.0 ∙ well.good in absurd (cc bad)

-- the containers that an observation saw have different ids
pub ids_differ : (declared : Declared) (aim : Aim) (seen : Seen) → IsSeenWell declared aim seen → IsDistinct bytes_eq (map (λ (row : Listed). row.id) seen.containers)
ids_differ declared aim seen well =
    let told = told_by declared aim seen well in
    rw told.containers (distinct_first (λ (row : Listed). row.id) told.rows)
