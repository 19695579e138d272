-- How refusals are printed.
use Rattle.std.specs.Prelude.{ℕ, List, ◌++◌, Option, Some, None, codes}
use Rattle.std.specs.Fmt.{decimal}
use Rattle.tree_base.specs.declared.place.Place.{Place}
use Rattle.yaml_lines.specs.declared.refusal.YamlFault.{YamlFault}
use Rattle.yaml_lines.specs.declared.refusal.YamlFault.TheVariants.{BadUtf8, TabIndent, BadScalar, BadIndent, BadFlow, RepeatedKey, UnknownAlias, BadMerge, BadTag, Unsupported}
use Rattle.yaml_lines.specs.declared.refusal.YamlRefusal.{YamlRefusal}
use Rattle.yaml_lines.specs.declared.refusal.YamlRefusal.TheVariants.{Bad, TooDeep, TooManyNodes, TooMuchText, Memory}

-- the name of a fault
abbrev pub fault_name : YamlFault → List ℕ
fault_name BadUtf8 = codes "BadUtf8"
fault_name TabIndent = codes "TabIndent"
fault_name BadScalar = codes "BadScalar"
fault_name BadIndent = codes "BadIndent"
fault_name BadFlow = codes "BadFlow"
fault_name RepeatedKey = codes "RepeatedKey"
fault_name UnknownAlias = codes "UnknownAlias"
fault_name BadMerge = codes "BadMerge"
fault_name BadTag = codes "BadTag"
fault_name Unsupported = codes "Unsupported"

-- the place of a fault or a limit
abbrev pub place_of_refusal : YamlRefusal → Option Place
place_of_refusal (Bad which place) = Some place
place_of_refusal (TooDeep place) = Some place
place_of_refusal (TooManyNodes place) = Some place
place_of_refusal (TooMuchText place) = Some place
place_of_refusal Memory = None

-- the name of a fault or a limit
abbrev pub refusal_name : YamlRefusal → List ℕ
refusal_name (Bad which place) = fault_name which
refusal_name (TooDeep place) = codes "TooDeep"
refusal_name (TooManyNodes place) = codes "TooManyNodes"
refusal_name (TooMuchText place) = codes "TooMuchText"
refusal_name Memory = codes "memory"

-- a name behind its place, where it has one: the line, a colon, the column, a colon, a space and the name
abbrev pub placed : Option Place → List ℕ → List ℕ
placed None name = name
placed (Some place) name =
    decimal place.line ++ codes ":" ++ decimal place.column ++ codes ": " ++ name

-- a refusal as it is printed
abbrev pub refusal_text : YamlRefusal → List ℕ
refusal_text refusal = placed (place_of_refusal refusal) (refusal_name refusal)
