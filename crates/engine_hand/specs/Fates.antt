-- What becomes of the exchanges of a hand in memory, and when its worker is asked to stop, by the plan of faults of its
-- Engine.
use Rattle.std.specs.Prelude.{◌≡◌, ◌⊎◌, ℕ, ◌==◌, Bool, true, false, Option, Some, None, find, nat_le, if◌then◌else◌}
use Rattle.engine_types.specs.declared.Engine.{Engine}
use Rattle.engine_types.specs.declared.Outcome.{Outcome}
use Rattle.engine_types.specs.declared.Request.{Request}
use Rattle.engine_types.specs.declared.WireEnd.{WireEnd}
use Rattle.memory_engine.specs.declared.catalogue.Catalogue.{Catalogue}
use Rattle.memory_engine.specs.declared.faults.FaultPlan.{FaultPlan}
use Rattle.memory_engine.specs.declared.faults.LostAt.{LostAt}
use Rattle.memory_engine.specs.Serving.{served}
use Rattle.outside_files.specs.Counts.{one_more}
use Rattle.outside_files.specs.Failures.{is_told}
use Rattle.engine_hand.specs.declared.fate.Fate.{Fate}

-- the fate of an exchange, of which a loss may be told, and whether it isn't sent: a loss goes before
abbrev pub fate_by : Option LostAt → Bool → Fate
fate_by (Some loss) unsent = if loss.effect then Fate.LostAfter else Fate.LostBefore
fate_by None true = Fate.NotSent
fate_by None false = Fate.Answered

-- the fate of the exchange with a number, for which the first of several losses counts
abbrev pub fate_of : FaultPlan → ℕ → Fate
fate_of plan number = fate_by (find (λ loss. loss.exchange == number) plan.lost) (is_told plan.unsent number)

-- a count of faults after an exchange of this fate
abbrev pub faults_after : Fate → ℕ → ℕ
faults_after Fate.Answered faults = faults
faults_after _ faults = one_more faults

-- what an answered exchange comes to: the Engine serves its request and the outcome is its reply; where memory was
-- wanted, the Engine served it or stayed
abbrev pub IsServed : Catalogue → Engine → Request → Outcome → Engine → Type 0
IsServed catalogue old request (Outcome.Answered reply) new = served catalogue old request ≡ (reply, new)
IsServed catalogue old request Outcome.Memory new = (new ≡ old) ⊎ (new ≡ (served catalogue old request).1)
IsServed catalogue old request (Outcome.Lost cause) new = ⊥
IsServed catalogue old request Outcome.NotSent new = ⊥

-- whether no id is left for what a request makes: ids are numbers of 64 bits, and the last of them is never given
abbrev pub lacks_id : Engine → Request → Bool
lacks_id engine (Request.Create name spec) = engine.next == 18446744073709551615
lacks_id engine (Request.MakeNetwork spec) = engine.next == 18446744073709551615
lacks_id engine request = false

-- what an exchange whose answer is lost after its effect comes to: the Engine serves its request, but one for which no id is left,
-- and it is lost all the same; where memory was wanted to serve it, the outcome says so, and the Engine stays
abbrev pub IsServedAndLost : Catalogue → Engine → Request → Outcome → Engine → Type 0
IsServedAndLost catalogue old request Outcome.Memory new = (new ≡ old) × (lacks_id old request ≡ false)
IsServedAndLost catalogue old request outcome new =
    (outcome ≡ Outcome.Lost WireEnd.Fault)
    × (new ≡ (if lacks_id old request then old else (served catalogue old request).1))

-- what an exchange of this fate comes to: its outcome, and the Engine after it
abbrev pub ComesTo : Fate → Catalogue → Engine → Request → Outcome → Engine → Type 0
ComesTo Fate.Answered catalogue old request outcome new = IsServed catalogue old request outcome new
ComesTo Fate.LostAfter catalogue old request outcome new = IsServedAndLost catalogue old request outcome new
ComesTo Fate.LostBefore catalogue old request outcome new = (outcome ≡ Outcome.Lost WireEnd.Fault) × (new ≡ old)
ComesTo Fate.NotSent catalogue old request outcome new = (outcome ≡ Outcome.NotSent) × (new ≡ old)

-- whether a worker is asked to stop, after so many exchanges: once they reach the number from which it is to be
abbrev pub is_asked : Option ℕ → ℕ → Bool
is_asked None made = false
is_asked (Some from) made = nat_le from made
