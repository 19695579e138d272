-- A call's whole answer, its refusal included.
use Rattle.std.specs.Prelude.{◌≡◌, Result, Ok, Err}
use Rattle.yaml_lines.specs.declared.refusal.YamlRefusal.{YamlRefusal}
use Rattle.yaml_lines.specs.declared.refusal.YamlRefusal.TheVariants.{Bad, TooDeep, TooManyNodes, TooMuchText, Memory}

-- a call refused, for want of memory or as the answer does
abbrev pub Fails : {X : Type 0} → YamlRefusal → Result X YamlRefusal → Type 0
Fails Memory answer = Unit {0}
Fails (Bad which place) answer = answer ≡ Err (Bad which place)
Fails (TooDeep place) answer = answer ≡ Err (TooDeep place)
Fails (TooManyNodes place) answer = answer ≡ Err (TooManyNodes place)
Fails (TooMuchText place) answer = answer ≡ Err (TooMuchText place)

-- what a call gave is the answer, unless it found no memory
abbrev pub Gives : {X : Type 0} → Result X YamlRefusal → Result X YamlRefusal → Type 0
Gives (Ok x) answer = answer ≡ Ok x
Gives (Err refusal) answer = Fails refusal answer
