-- What was taken in the end, and what is answered then.
use Rattle.std.proofs.Common.{◌≡◌, ℕ, ◌<◌, List, [], ◌∷◌, Bool, true, length, get_or, ◌∙◌, ap, subst, arith}
use Rattle.hys_prog.specs.declared.program.Program.{Program}
use Rattle.hys_prog.specs.declared.program.Name.{Name}
use Rattle.hys_prog.specs.declared.program.Order.{Order}
use Rattle.hys_prog.specs.Steps.{places, places_from, is_auxiliary}
use Rattle.hys_prog.specs.Orders.{Circular, IsOrder}
use Rattle.hys_order.specs.Lists.{others}
use Rattle.hys_order.specs.Links.{Untaken, Below, Ready, Taking, IsStuck, AreLinksOf, IsRound, IsTurned}
use Rattle.hys_order.specs.Answers.{BeginsWithLeast}
use Rattle.hys_order.proofs.Definable.{ordered, acyclic, circular, none_ready, auxiliaries_below}
use Rattle.hys_order.proofs.Rounds.{turned_round}

pub record Walked (p : Program) (links : List (List ℕ)) (taken : List Bool) (order : List ℕ) (end : List Bool) : Type 0 where
  pub linked : AreLinksOf p links
  pub started : taken ≡ others p.names
  pub taking : Taking links (places is_auxiliary p) taken order end
  pub stuck : IsStuck links (places is_auxiliary p) end

pub walked_of : (p : Program) (names : List Name) (links ls : List (List ℕ)) (auxs ds : List ℕ) (taken : List Bool) (order : List ℕ) (end : List Bool) →
    AreLinksOf p links → names ≡ p.names → auxs ≡ places_from 0 is_auxiliary names → taken ≡ others names → ls ≡ links → ds ≡ auxs →
    Taking ls ds taken order end → IsStuck ls ds end → Walked p links taken order end
walked_of p names links ls auxs ds taken order end l n a t e d h s =
    let q : ds ≡ places is_auxiliary p = d ∙ a ∙ ap (λ (xs : List Name). places_from 0 is_auxiliary xs) n in
    record {
      linked = l;
      started = t ∙ ap (λ (xs : List Name). others xs) n;
      taking = subst (λ (xs : List ℕ). Taking links xs taken order end) q (subst (λ (xs : List (List ℕ)). Taking xs ds taken order end) e h);
      stuck = subst (λ (xs : List ℕ). IsStuck links xs end) q (subst (λ (xs : List (List ℕ)). IsStuck xs ds end) e s);
    }

pub auxiliaries_are : (p : Program) (names : List Name) (auxs ds : List ℕ) → names ≡ p.names → auxs ≡ places_from 0 is_auxiliary names → ds ≡ auxs → ds ≡ places is_auxiliary p
auxiliaries_are p names auxs ds n a d = d ∙ a ∙ ap (λ (xs : List Name). places_from 0 is_auxiliary xs) n

pub names_below : (p : Program) (ds : List ℕ) (n : ℕ) → ds ≡ places is_auxiliary p → n ≡ length p.names → Below n ds
names_below p ds n e f k b = go (rw e at b)
  where
    go : k < length (places is_auxiliary p) → get_or ds k 0 < n
    go b = let l = auxiliaries_below p k b in let q : get_or ds k 0 ≡ get_or (places is_auxiliary p) k 0 = ap (λ (xs : List ℕ). get_or xs k 0) e in omega arith

pub order_walked : (p : Program) (links : List (List ℕ)) (taken : List Bool) (order : List ℕ) (end es : List Bool) (ds : List ℕ) (o : Order) → Walked p links taken order end →
    ds ≡ places is_auxiliary p → es ≡ end → ((k : ℕ) → k < length ds → get_or es (get_or ds k 0) true ≡ true) → o.names ≡ order → IsOrder p o × ((ns : List ℕ) → ¬ (Circular p ns))
order_walked p links taken order end es ds o h d e a q =
    let f : (k : ℕ) → k < length (places is_auxiliary p) → get_or end (get_or (places is_auxiliary p) k 0) true ≡ true =
    subst (λ (bs : List Bool). (k : ℕ) → k < length (places is_auxiliary p) → get_or bs (get_or (places is_auxiliary p) k 0) true ≡ true) e (subst (λ (xs : List ℕ). (k : ℕ) → k < length xs → get_or es (get_or xs k 0) true ≡ true) d a) in
    let r = ordered p links taken order end o h.linked h.started h.taking f q in
    (r, λ ns c. acyclic p o ns r c)

pub stuck_walked : (p : Program) (links ls : List (List ℕ)) (taken : List Bool) (order : List ℕ) (end es : List Bool) → Walked p links taken order end → es ≡ end → ls ≡ links → (n : ℕ) → Untaken es n → ¬ (Ready es ls n)
stuck_walked p links ls taken order end es h e l = rw (e, l) (none_ready p links taken order end h.started h.taking h.stuck)

pub round_walked : (p : Program) (links ls : List (List ℕ)) (taken : List Bool) (order : List ℕ) (end es : List Bool) (ns ms cs ds : List ℕ) → Walked p links taken order end → es ≡ end → ls ≡ links → IsRound es ls ns → ms ≡ ns → IsTurned ms ds → cs ≡ ds → Circular p cs × BeginsWithLeast cs
round_walked p links ls taken order end es ns ms cs ds h e l r m t c =
    let q : IsRound end links ns = subst (λ (xs : List (List ℕ)). IsRound end xs ns) l (subst (λ (bs : List Bool). IsRound bs ls ns) e r) in
    let u = turned_round end links ns ds q (subst (λ (xs : List ℕ). IsTurned xs ds) m t) in
    rw c (circular p links taken order end ds h.linked h.started h.taking u.0, u.1)

pub round_longer : (taken : List Bool) (links : List (List ℕ)) (ns ms : List ℕ) → IsRound taken links ns → ms ≡ ns → 0 < length ms
round_longer taken links [] ms h e = absurd h
round_longer taken links (n ∷ ns) ms h e = rw e (omega arith)
