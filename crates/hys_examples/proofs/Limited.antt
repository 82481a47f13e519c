-- Which trees are within the limits.
use Rattle.std.proofs.Common.{◌≡◌, ℕ, zero, suc, ◌≤◌, codes, refl, arith, replicate, length}
use Rattle.hys_ast.specs.Tree.{Decl}
use Rattle.hys_ast.specs.declared.source.Section.TheVariants as section
use Rattle.hys_ast.specs.Nodes.{nodes}
use Rattle.hys_meaning.specs.Accepted.{WithinLimits}
use Rattle.hys_examples.specs.Trees.{bool}
use Rattle.hys_examples.specs.Long.{signs, signed, named}

nodes-signs : (n : ℕ) → nodes (signs n) ≡ suc n
unfolding signs
nodes-signs zero = refl
nodes-signs (suc n) = omega (arith, nodes-signs n)

length-names : (n : ℕ) (d : Decl) → length (replicate n d) ≡ n
length-names zero d = refl
length-names (suc n) d = omega (arith, length-names n d)

pub names_in : WithinLimits (named 200)
names_in = record {
  names = rw (length-names 200 (bool section.Input (codes "a"))) (omega arith);
  expression = tt;
  nodes = omega arith;
}

pub names_out : ¬ (WithinLimits (named 201))
names_out w = let h : length (replicate 201 (bool section.Input (codes "a"))) ≤ 200 = w.names in omega (arith, h, length-names 201 (bool section.Input (codes "a")))

pub expression_in : WithinLimits (signed 1 999)
expression_in = record { names = omega arith; expression = (rw (nodes-signs 999) (omega arith), tt); nodes = rw (nodes-signs 999) (omega arith) }

pub expression_out : ¬ (WithinLimits (signed 1 1000))
expression_out w = let h : nodes (signs 1000) ≤ 1000 = w.expression.0 in omega (arith, h, nodes-signs 1000)

pub nodes_in : WithinLimits (signed 4 999)
nodes_in =
    let h : nodes (signs 999) ≤ 1000 = omega (arith, nodes-signs 999) in
    record { names = omega arith; expression = (h, (h, (h, (h, tt)))); nodes = rw (nodes-signs 999) (omega arith) }

pub nodes_out : ¬ (WithinLimits (signed 5 800))
nodes_out w = let h = w.nodes in let g = rw (nodes-signs 800) at h in omega (arith, g)
