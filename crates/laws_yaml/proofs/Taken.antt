-- What is read, and what it counts.
use Rattle.std.proofs.Common.{◌≡◌, ℕ, ◌+◌, Result, Ok, ap, ◌∙◌, arith}
use Rattle.yaml_lines.specs.declared.refusal.YamlRefusal.{YamlRefusal}
use Rattle.yaml_nodes.specs.declared.progress.Progress.{Progress}
use Rattle.yaml_nodes.specs.Progress.{◌>>=◌}

-- something is read, and so many nodes and bytes are counted
pub record Took {A : Type 0} (r : Result (A × Progress) YamlRefusal) (value : A) (p : Progress) (nodes text : ℕ) : Type 0 where
  pub after : Progress
  pub is : r ≡ Ok (value, after)
  pub nodes_are : after.nodes ≡ p.nodes + nodes
  pub text_is : after.text ≡ p.text + text

-- what goes on behind something that is read
pub took_then : {A B : Type 0} (p : Progress) (first : Result (A × Progress) YamlRefusal) (more : A × Progress → Result (B × Progress) YamlRefusal) (a : A) (b : B) (nodes text later_nodes later_text : ℕ)
    → (one : Took first a p nodes text) → Took (more (a, one.after)) b one.after later_nodes later_text
    → Took (first >>= more) b p (nodes + later_nodes) (text + later_text)
took_then p first more a b nodes text later_nodes later_text one rest =
    record {
      after = rest.after;
      is = ap (λ r. r >>= more) one.is ∙ rest.is;
      nodes_are = omega (arith, one.nodes_are, rest.nodes_are);
      text_is = omega (arith, one.text_is, rest.text_is);
    }
