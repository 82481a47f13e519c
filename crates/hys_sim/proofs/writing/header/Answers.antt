use Rattle.std.proofs.Common.{◌≡◌, ◌∙◌, Bor, codes, map, ap}
use Rattle.hys_prog.specs.declared.program.Name.{Name}
use Rattle.hys_prog.specs.Programs.{text_of}
use Rattle.hys_prog.specs.Steps.{is_state, is_input, is_auxiliary, is_output}
use Rattle.hys_sim.specs.Written.{texts_of}
use Rattle.hys_sim.proofs.Texting.{five_parts}
use Rattle.hys_sim.proofs.writing.header.Goals as goal

pub returns : goal.returns
returns c =
    let p = c.args.program.now in
    let t1 : map text_of (map (λ (k : Bor Name). k.now) c.deref.result.now) ≡ texts_of is_state p = ap (map text_of) (ap (map (λ (k : Bor Name). k.now)) c.deref.ensures.value ∙ c.in_ok-names_of.ensures) in
    let t2 : map text_of (map (λ (k : Bor Name). k.now) c.deref-2.result.now) ≡ texts_of is_input p = ap (map text_of) (ap (map (λ (k : Bor Name). k.now)) c.deref-2.ensures.value ∙ c.in_ok-names_of-2.ensures) in
    let t3 : map text_of (map (λ (k : Bor Name). k.now) c.deref-3.result.now) ≡ texts_of is_auxiliary p = ap (map text_of) (ap (map (λ (k : Bor Name). k.now)) c.deref-3.ensures.value ∙ c.in_ok-names_of-3.ensures) in
    let t4 : map text_of (map (λ (k : Bor Name). k.now) c.deref-4.result.now) ≡ texts_of is_output p = ap (map text_of) (ap (map (λ (k : Bor Name). k.now)) c.deref-4.ensures.value ∙ c.in_ok-names_of-4.ensures) in
    five_parts _ _ _ _ _ _ (codes "step") (texts_of is_state p) (texts_of is_input p) (texts_of is_auxiliary p) (texts_of is_output p)
    (rw c.new-out.ensures.items at c.in_ok-extend_from_slice.ensures.items) (rw t1 at c.in_ok-write_names.ensures) (rw t2 at c.in_ok-write_names-2.ensures) (rw t3 at c.in_ok-write_names-3.ensures) (rw t4 at c.in_ok-write_names-4.ensures) c.in_ok-push.ensures.items
