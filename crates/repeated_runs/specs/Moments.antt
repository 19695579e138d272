-- What plug and output tell by some moment of a call.
use Rattle.std.specs.Prelude.{ℕ, List, Option}
use Rattle.outside_api.specs.declared.dial.Dial.{Dial}

-- the dials that the plug was asked for, its count of hands and its count of faults; what the output has, and its count of faults
pub record Moment : Type 0 where
  pub dials : List Dial
  pub dialled : Option ℕ
  pub plug_faults : ℕ
  pub written : Option (List ℕ)
  pub out_faults : ℕ

-- the same, by its parts
abbrev pub moment : List Dial → Option ℕ → ℕ → Option (List ℕ) → ℕ → Moment
moment dials dialled plug_faults written out_faults = record {
  dials = dials;
  dialled = dialled;
  plug_faults = plug_faults;
  written = written;
  out_faults = out_faults;
}
