use Rattle.std.proofs.Common.{◌↔◌, List}
use Rattle.hys_number.specs.Number.{Number}
use Rattle.hys_sys.specs.declared.system.System.{System}
use Rattle.hys_sys.specs.Exact.{Automaton, Named, Steps, ExactAt, Exact}

-- a system that is exact for a relation is exact for each relation with the same steps
pub exact_for : (P Q : Steps) → ((x u : List Number) (w : Named) (x' y : List Number) → P x u w x' y ↔ Q x u w x' y) →
    (A : Automaton) (S : System) → Exact A P S → Exact A Q S
exact_for P Q e A S h = record { arranged = h.arranged; at_each = λ x u p q. go x u (h.at_each x u p q) }
  where
    go : (x u : List Number) → ExactAt A P S x u → ExactAt A Q S x u
    go x u a = record {
      solvable = λ w x' y g. a.solvable w x' y ((e x u w x' y).1 g);
      steps = λ v f. (let k : (w : Named) × (x' : List Number) × (y : List Number) × P x u w x' y = a.steps v f in (k.0, k.1, k.2, (e x u k.0 k.1 k.2).0 k.3));
      one = a.one;
      one_step = λ w w' x' x'' y y' g g'. a.one_step w w' x' x'' y y' ((e x u w x' y).1 g) ((e x u w' x'' y').1 g');
      same = λ v w x' y f g. a.same v w x' y f ((e x u w x' y).1 g);
      boxes = a.boxes;
      next = λ v w x' y f g. a.next v w x' y f ((e x u w x' y).1 g);
      outputs = λ v w x' y f g. a.outputs v w x' y f ((e x u w x' y).1 g);
    }
