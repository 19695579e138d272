-- How a call answers that may also want memory, whatever its refusals are.
use Rattle.std.specs.Prelude.{◌≡◌, Bool, true, false, Result, Ok, Err}

infixl 10 ◌>>=◌
-- one reading after another: the first refusal is the refusal of both
abbrev pub ◌>>=◌ : {E A B : Type 0} → Result A E → (A → Result B E) → Result B E
(Ok a) >>= next = next a
(Err refusal) >>= next = Err refusal

-- what holds wherever memory isn't wanting
abbrev pub Unless : Bool → Type 0 → Type 0
Unless true given = Unit {0}
Unless false given = given

module _ {E : Type 0} (wants_memory : E → Bool) where
  -- a call refused, for want of memory or as the answer does
  abbrev pub Fails : {X : Type 0} → E → Result X E → Type 0
  Fails refusal answer = Unless (wants_memory refusal) (answer ≡ Err refusal)

  -- what a call gave is the answer, unless it found no memory
  abbrev pub Gives : {X : Type 0} → Result X E → Result X E → Type 0
  Gives (Ok x) answer = answer ≡ Ok x
  Gives (Err refusal) answer = Fails refusal answer
