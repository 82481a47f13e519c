use Rattle.std.proofs.Common.{◌≡◌, ◌∙◌, List, ℕ, [], Bor, length, replicate, ap, sym, arith}
use Rattle.std.specs.Fmt.{decimal}
use Rattle.hys_prog.specs.declared.program.Name.{Name}
use Rattle.hys_prog.specs.Steps.{is_input, is_auxiliary, is_output}
use Rattle.hys_sim.specs.Written.{empty_of, numbers_text}
use Rattle.hys_sim.proofs.Placing.{length_map}
use Rattle.hys_sim.proofs.Texting.{six_parts}
use Rattle.hys_sim.proofs.writing.write_last.Goals as goal

pub returns : goal.returns
returns c =
    let p = c.args.program.now in
    let l1 : c.len.result ≡ length c.in_ok-names_of.field-0.items = omega arith in
    let t1 : replicate c.len.result [] ≡ empty_of is_input p = ap (λ (n : ℕ). replicate {A = List ℕ} n []) (l1 ∙ sym (length_map (λ (k : Bor Name). k.now) c.in_ok-names_of.field-0.items) ∙ ap length c.in_ok-names_of.ensures) in
    let l2 : c.len-2.result ≡ length c.in_ok-names_of-2.field-0.items = omega arith in
    let t2 : replicate c.len-2.result [] ≡ empty_of is_auxiliary p = ap (λ (n : ℕ). replicate {A = List ℕ} n []) (l2 ∙ sym (length_map (λ (k : Bor Name). k.now) c.in_ok-names_of-2.field-0.items) ∙ ap length c.in_ok-names_of-2.ensures) in
    let l3 : c.len-3.result ≡ length c.in_ok-names_of-3.field-0.items = omega arith in
    let t3 : replicate c.len-3.result [] ≡ empty_of is_output p = ap (λ (n : ℕ). replicate {A = List ℕ} n []) (l3 ∙ sym (length_map (λ (k : Bor Name). k.now) c.in_ok-names_of-3.field-0.items) ∙ ap length c.in_ok-names_of-3.ensures) in
    six_parts c.args.out.now.items _ _ _ _ _ _ (decimal c.args.number) (numbers_text c.args.state.now) (empty_of is_input p) (empty_of is_auxiliary p) (empty_of is_output p)
    c.in_ok-write_number.ensures c.in_ok-write_values.ensures (rw t1 at c.in_ok-write_empty.ensures) (rw t2 at c.in_ok-write_empty-2.ensures) (rw t3 at c.in_ok-write_empty-3.ensures) c.in_ok-push.ensures.items
