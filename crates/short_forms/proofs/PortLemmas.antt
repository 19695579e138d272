-- The ports of a text that is cut at its colons one by one.
use Rattle.std.proofs.Common.{◌≡◌, ℕ, ◌<◌, List, [], ◌∷◌, length, Some, None, refl, ap, ◌∙◌, arith}
use Rattle.short_forms.specs.Cuts.{cut_once, parts_at}
use Rattle.short_forms.specs.Ports.{ports_in}
use Rattle.short_forms.proofs.CutLemmas.{some_parts, split_cut}

-- more than three parts are no port
four_parts : (protocol address text target : List ℕ) (parts : List (List ℕ)) → 0 < length parts → ports_in protocol (address ∷ text ∷ target ∷ parts) ≡ None
four_parts protocol address text target [] some = absurd (omega arith)
four_parts protocol address text target (part ∷ parts) some = refl

pub third_colon : (protocol address text target first more : List ℕ) → cut_once 58 target ≡ Some (first, more) → ports_in protocol (address ∷ text ∷ parts_at 58 target) ≡ None
third_colon protocol address text target first more e =
    ap (λ parts. ports_in protocol (address ∷ text ∷ parts)) (split_cut 58 target first more e) ∙ four_parts protocol address text first (parts_at 58 more) (some_parts 58 more)
