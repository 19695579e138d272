use Rattle.std.proofs.Common.{◌≡◌, ◌∙◌, Bool, List, ap, false, refl, sym, true, ℕ}
use Rattle.std.specs.Cmp.{booleans_Decides}
use Rattle.std.specs.Str.{bytes_eq}
use Rattle.merge_rules.specs.Uniqueness.{placed}
use Rattle.merge_rules.proofs.KeyTexts.{in_one_folder}
use Rattle.merge_rules.proofs.keys.same_place.Goals as goal

-- two names in one folder, or both as they are
both : (folder : List ℕ) (below : Bool) (name other : List ℕ) → bytes_eq (placed folder below name) (placed folder below other) ≡ bytes_eq name other
both folder true name other = in_one_folder folder name other
both folder false name other = refl

pub returns-then-below-other_below : goal.returns-then-below-other_below
returns-then-below-other_below c =
    let folder = c.args.folder.now in
    let other = c.args.other.now in
    c.eq.ensures ∙ sym (both folder c.args.below c.args.name.now other)
    ∙ ap (λ (below : Bool). bytes_eq (placed folder c.args.below c.args.name.now) (placed folder below other)) ((booleans_Decides c.args.below c.args.other_below).0 c.if-below-other_below.true)
