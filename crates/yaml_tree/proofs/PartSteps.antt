-- Parts of a block, as a loop meets them.
use Rattle.std.proofs.Common.{◌≡◌, ◌∙◌, ◌<◌, ℕ, zero, suc, ◌+◌, ◌==◌, ◌&&◌, length, List, [], ◌∷◌, Bool, true, false, not, cond, if◌then◌else◌, take, drop, Result, Ok, Err, refl, sym, ap, arith}
use Rattle.std.specs.List.{position_or_len}
use Rattle.yaml_groups.specs.declared.line.LogicalLine.{LogicalLine}
use Rattle.yaml_lines.specs.Answers.{Fails}
use Rattle.yaml_lines.specs.declared.refusal.YamlFault.TheVariants.{BadIndent}
use Rattle.yaml_lines.specs.declared.refusal.YamlRefusal.{YamlRefusal}
use Rattle.yaml_nodes.proofs.Chains.{goes_on, fails_on, fails_as}
use Rattle.yaml_nodes.specs.declared.progress.Progress.{Progress}
use Rattle.yaml_nodes.specs.Marks.{is_item}
use Rattle.yaml_nodes.specs.Progress.{◌>>=◌, bad}
use Rattle.yaml_tree.specs.Parts.{PartReader, parted, later_parts, block, begun, is_item_at}
use Rattle.yaml_tree.specs.Steps.{later_begun}

-- the parts of lines of which the first begins one
abbrev pub parts : (LogicalLine → Bool) → List LogicalLine → List (LogicalLine × List LogicalLine)
parts begins [] = []
parts begins (line ∷ lines) = let rest = parted begins lines in (line, rest.0) ∷ rest.1

front_step : (t : Bool) (line : LogicalLine) (lines front : List LogicalLine) (later : List (LogicalLine × List LogicalLine)) (n : ℕ) → front ≡ take n lines
    → let p : List LogicalLine × List (LogicalLine × List LogicalLine) = cond t ([], (line, front) ∷ later) (line ∷ front, later) in p.0 ≡ take (cond (not t) (1 + n) 0) (line ∷ lines)
front_step true line lines front later n h = refl
front_step false line lines front later n h = let e : 1 + n ≡ suc n = omega arith in rw e (ap (λ l. line ∷ l) h)

-- the lines before the first that begins a part
pub front_is : (b : LogicalLine → Bool) (lines : List LogicalLine) → (parted b lines).0 ≡ take (position_or_len b lines) lines
front_is b [] = refl
front_is b (line ∷ lines) = front_step (b line) line lines (parted b lines).0 (parted b lines).1 (position_or_len b lines) (front_is b lines)

later_step : (b : LogicalLine → Bool) (t : Bool) (line : LogicalLine) (lines : List LogicalLine) → (parted b lines).1 ≡ parts b (drop (position_or_len b lines) lines)
    → let p : List LogicalLine × List (LogicalLine × List LogicalLine) = cond t ([], (line, (parted b lines).0) ∷ (parted b lines).1) (line ∷ (parted b lines).0, (parted b lines).1) in p.1 ≡ parts b (drop (cond (not t) (1 + position_or_len b lines) 0) (line ∷ lines))
later_step b true line lines h = refl
later_step b false line lines h = let e : 1 + position_or_len b lines ≡ suc (position_or_len b lines) = omega arith in rw e h

-- the parts behind them
pub later_are : (b : LogicalLine → Bool) (lines : List LogicalLine) → (parted b lines).1 ≡ parts b (drop (position_or_len b lines) lines)
later_are b [] = refl
later_are b (line ∷ lines) = later_step b (b line) line lines (later_are b lines)

begun_step : {B : Type 0} (t : Bool) (line : LogicalLine) (r : Result Progress YamlRefusal) (x : Result B YamlRefusal)
    → (r >>= λ p. if t then x else bad BadIndent p line.row line.row.indent) ≡ ((r >>= λ p. if t then Ok p else bad BadIndent p line.row line.row.indent) >>= λ p. x)
begun_step true line (Ok p) x = refl
begun_step false line (Ok p) x = refl
begun_step t line (Err e) x = refl

belongs_step : (t : Bool) (line : LogicalLine) (r : Result Progress YamlRefusal) (q : Progress) → (r >>= λ p. if t then Ok p else bad BadIndent p line.row line.row.indent) ≡ Ok q → t ≡ true
belongs_step true line r q h = refl
belongs_step false line (Ok p) q h = cc
belongs_step false line (Err e) q h = cc

-- a part whose line could begin it belongs to the block
pub belongs_there : (t : Bool) (line : LogicalLine) (p q : Progress) → later_begun t p line ≡ Ok q → t ≡ true
belongs_there t line p q h = belongs_step t line (begun p line) q h

and_step : (a b : Bool) → (a && b) ≡ true → b ≡ true
and_step true b h = h
and_step false b h = cc

dash_within : (column : ℕ) (cs : List ℕ) → is_item (drop column cs) ≡ true → column < length cs
dash_within zero [] h = cc
dash_within zero (c ∷ cs) h = omega arith
dash_within (suc n) [] h = cc
dash_within (suc n) (c ∷ cs) h = omega (arith, dash_within n cs h)

-- the dash of an item is a character of its line
pub item_within : (column : ℕ) (line : LogicalLine) → is_item_at column line ≡ true → column < length line.row.chars
item_within column line h = dash_within column line.row.chars (and_step (line.row.indent == column) _ h)

module _ {A : Type 0} (begins belongs : LogicalLine → Bool) (read : PartReader A) where
  starts : (none : A × Progress) (line : LogicalLine) (more : List LogicalLine) (n : ℕ) (own rest : List LogicalLine) → n ≡ position_or_len begins more → own ≡ take n more → rest ≡ drop n more
      → block begins belongs read none line more ≡ (read none line own >>= λ done. later_parts belongs read done (parts begins rest))
  starts none line more n own rest k f l =
      let front : (parted begins more).0 ≡ own = front_is begins more ∙ ap (λ i. take i more) (sym k) ∙ sym f in
      let later : (parted begins more).1 ≡ parts begins rest = later_are begins more ∙ ap (λ i. parts begins (drop i more)) (sym k) ∙ ap (parts begins) (sym l) in
      λ i. read none line (front i) >>= λ done. later_parts belongs read done (later i)

  goes : (done : A × Progress) (next : LogicalLine) (more : List LogicalLine) (n : ℕ) (own rest : List LogicalLine) → n ≡ position_or_len begins more → own ≡ take n more → rest ≡ drop n more
      → later_parts belongs read done (parts begins (next ∷ more)) ≡ (later_begun (belongs next) done.1 next >>= λ p. read done next own >>= λ more. later_parts belongs read more (parts begins rest))
  goes done next more n own rest k f l =
      let front : (parted begins more).0 ≡ own = front_is begins more ∙ ap (λ i. take i more) (sym k) ∙ sym f in
      let later : (parted begins more).1 ≡ parts begins rest = later_are begins more ∙ ap (λ i. parts begins (drop i more)) (sym k) ∙ ap (parts begins) (sym l) in
      begun_step (belongs next) next (begun done.1 next) (read done next (parted begins more).0 >>= λ done. later_parts belongs read done (parted begins more).1)
      ∙ (λ i. later_begun (belongs next) done.1 next >>= λ p. read done next (front i) >>= λ more. later_parts belongs read more (later i))

  pub start_fails : (e : YamlRefusal) (none was : A × Progress) (line : LogicalLine) (more : List LogicalLine) (n : ℕ) (own rest : List LogicalLine) → was ≡ none → n ≡ position_or_len begins more → own ≡ take n more → rest ≡ drop n more
      → Fails e (read was line own) → Fails e (block begins belongs read none line more)
  start_fails e none was line more n own rest z k f l h =
      fails_as e _ _ (sym (starts none line more n own rest k f l)) (fails_on e (read none line own) (λ done. later_parts belongs read done (parts begins rest)) (fails_as e _ _ (ap (λ w. read w line own) z) h))

  pub start_ok : (none was done : A × Progress) (line : LogicalLine) (more : List LogicalLine) (n : ℕ) (own rest : List LogicalLine) → was ≡ none → n ≡ position_or_len begins more → own ≡ take n more → rest ≡ drop n more
      → read was line own ≡ Ok done → later_parts belongs read done (parts begins rest) ≡ block begins belongs read none line more
  start_ok none was done line more n own rest z k f l h =
      sym (starts none line more n own rest k f l ∙ goes_on (read none line own) done (λ done. later_parts belongs read done (parts begins rest)) (ap (λ w. read w line own) (sym z) ∙ h))

  pub begun_fails : (e : YamlRefusal) (total : Result (A × Progress) YamlRefusal) (done : A × Progress) (lines : List LogicalLine) (next : LogicalLine) (more : List LogicalLine) (t : Bool) → later_parts belongs read done (parts begins lines) ≡ total
      → lines ≡ next ∷ more → t ≡ belongs next → Fails e (later_begun t done.1 next) → Fails e total
  begun_fails e total done lines next more t so_far r is h =
      let rest = drop (position_or_len begins more) more in
      let here = ap (λ w. later_parts belongs read done (parts begins w)) r ∙ goes done next more _ _ rest refl refl refl in
      fails_as e _ _ (sym here ∙ so_far) (fails_on e (later_begun (belongs next) done.1 next) (λ p. read done next (take (position_or_len begins more) more) >>= λ more. later_parts belongs read more (parts begins rest))
      (fails_as e _ _ (ap (λ t. later_begun t done.1 next) is) h))

  later : (total : Result (A × Progress) YamlRefusal) (done : A × Progress) (p : Progress) (lines : List LogicalLine) (next : LogicalLine) (more : List LogicalLine) (n : ℕ) (own rest : List LogicalLine) (t : Bool) → later_parts belongs read done (parts begins lines) ≡ total
      → lines ≡ next ∷ more → t ≡ belongs next → later_begun t done.1 next ≡ Ok p → n ≡ position_or_len begins more → own ≡ take n more → rest ≡ drop n more
      → (read done next own >>= λ more. later_parts belongs read more (parts begins rest)) ≡ total
  later total done p lines next more n own rest t so_far r b is k f l =
      sym (ap (λ w. later_parts belongs read done (parts begins w)) r ∙ goes done next more n own rest k f l
      ∙ goes_on (later_begun (belongs next) done.1 next) p (λ p. read done next own >>= λ more. later_parts belongs read more (parts begins rest)) (ap (λ t. later_begun t done.1 next) (sym b) ∙ is)) ∙ so_far

  pub later_fails : (e : YamlRefusal) (total : Result (A × Progress) YamlRefusal) (done : A × Progress) (p : Progress) (lines : List LogicalLine) (next : LogicalLine) (more : List LogicalLine) (n : ℕ) (own rest : List LogicalLine) (t : Bool) → later_parts belongs read done (parts begins lines) ≡ total
      → lines ≡ next ∷ more → t ≡ belongs next → later_begun t done.1 next ≡ Ok p → n ≡ position_or_len begins more → own ≡ take n more → rest ≡ drop n more → Fails e (read done next own) → Fails e total
  later_fails e total done p lines next more n own rest t so_far r b is k f l h =
      fails_as e _ _ (later total done p lines next more n own rest t so_far r b is k f l) (fails_on e (read done next own) (λ more. later_parts belongs read more (parts begins rest)) h)

  pub later_ok : (total : Result (A × Progress) YamlRefusal) (done new : A × Progress) (p : Progress) (lines : List LogicalLine) (next : LogicalLine) (more : List LogicalLine) (n : ℕ) (own rest : List LogicalLine) (t : Bool) → later_parts belongs read done (parts begins lines) ≡ total
      → lines ≡ next ∷ more → t ≡ belongs next → later_begun t done.1 next ≡ Ok p → n ≡ position_or_len begins more → own ≡ take n more → rest ≡ drop n more → read done next own ≡ Ok new → later_parts belongs read new (parts begins rest) ≡ total
  later_ok total done new p lines next more n own rest t so_far r b is k f l h =
      sym (goes_on (read done next own) new (λ more. later_parts belongs read more (parts begins rest)) h) ∙ later total done p lines next more n own rest t so_far r b is k f l
