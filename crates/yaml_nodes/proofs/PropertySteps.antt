-- Steps of the loop over the properties of a line.
use Rattle.std.proofs.Common.{◌≡◌, ◌∙◌, ℕ, zero, suc, ◌+◌, ◌≤◌, List, [], ◌∷◌, Bool, true, false, Ok, get_or, drop, length, refl, sym, ap, arith}
use Rattle.yaml_lines.specs.declared.row.Row.{Row}
use Rattle.yaml_lines.specs.Blanks.{is_white}
use Rattle.yaml_nodes.specs.declared.progress.Progress.{Progress}
use Rattle.yaml_nodes.specs.declared.properties.Properties.{Properties}
use Rattle.yaml_nodes.specs.Marks.{name_len, is_property}
use Rattle.yaml_nodes.specs.Properties.{properties_from, with_property}
use Rattle.yaml_nodes.proofs.Chains.{goes_on}

module _ (marks : Bool) (p : Progress) (row : Row) where
  -- a name is passed over
  passes : (at : ℕ) (found : Properties) (n : ℕ) (cs : List ℕ) → n ≤ length cs → properties_from marks p row at found n cs ≡ properties_from marks p row (at + n) found 0 (drop n cs)
  passes at found zero cs h = let e : at + 0 ≡ at = omega arith in rw e refl
  passes at found (suc n) [] h = absurd (omega arith)
  passes at found (suc n) (c ∷ cs) h =
      let e : at + 1 + n ≡ at + suc n = omega arith in
      passes (at + 1) found n cs (omega arith) ∙ ap (λ i. properties_from marks p row i found 0 (drop n cs)) e

  -- a property in front, and those behind it
  pub front : (at : ℕ) (found more : Properties) (cs rest : List ℕ) (c n : ℕ) → 1 ≤ length cs → c ≡ get_or cs 0 c → rest ≡ drop 1 cs → is_white c ≡ false → is_property cs ≡ true
      → n ≡ name_len rest → n ≤ length rest → with_property marks p row at found cs ≡ Ok more
      → properties_from marks p row at found 0 cs ≡ properties_from marks p row (at + (1 + n)) more 0 (drop (1 + n) cs)
  front at found more [] rest c n l e d black property k w one = absurd (omega arith)
  front at found more (b ∷ cs) rest c n l e d black property k w one =
      let white : is_white b ≡ false = rw e at black in
      let f : at + 1 + n ≡ at + (1 + n) = omega arith in
      let g : suc n ≡ 1 + n = omega arith in
      let same : name_len cs ≡ n = sym (k ∙ ap name_len d) in
      let here : properties_from marks p row at found 0 (b ∷ cs) ≡ properties_from marks p row (at + 1) more (name_len cs) cs =
      rw (white, property) (goes_on (with_property marks p row at found (b ∷ cs)) more (λ m. properties_from marks p row (at + 1) m (name_len cs) cs) one) in
      here ∙ ap (λ i. properties_from marks p row (at + 1) more i cs) same
      ∙ passes (at + 1) more n cs (rw d at w) ∙ (λ i. properties_from marks p row (f i) more 0 (drop (g i) (b ∷ cs)))
