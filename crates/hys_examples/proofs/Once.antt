-- What is declared and defined once, and stands in its place.
use Rattle.std.proofs.Common.{◌≡◌, [], ◌∷◌, codes, refl, arith, true, inr}
use Rattle.hys_ast.specs.declared.tree.BinaryOp.TheVariants as binary
use Rattle.hys_ast.specs.declared.source.Section.TheVariants as section
use Rattle.hys_meaning.specs.Typed.{Typed, Bounded, DeclaredOnce, DefinedOnce, HaveValues}
use Rattle.hys_examples.specs.Trees.{name, number, truth, both, negated, item, must}
use Rattle.hys_examples.specs.Sources.{declared_twice, without_value, without_box, with_items, shown, settled}
use Rattle.hys_examples.proofs.Numbers.{never}

pub right : DefinedOnce (with_items (settled ∷ shown ∷ [])) × Typed (with_items (settled ∷ shown ∷ []))
right = ((λ t. refl, (λ t. refl, tt)), record { values = (tt, (tt, tt)); boxes = ((tt, tt), ((tt, tt), tt)); items = ((refl, tt), ((refl, tt), tt)) })

pub twice : ¬ (DeclaredOnce declared_twice)
twice d = never d

pub value : ¬ (HaveValues without_value)
value v = never (v.0 refl)

pub boxed : ¬ (Bounded without_box)
boxed b = b.0 refl

pub missing : ¬ (DefinedOnce (with_items (shown ∷ [])))
missing d = let e : 0 ≡ 1 = d.0 refl in omega (arith, e)

pub again : ¬ (DefinedOnce (with_items (settled ∷ shown ∷ settled ∷ [])))
again d = let e : 2 ≡ 1 = d.0 refl in omega (arith, e)

pub wrong_section : ¬ (Typed (with_items (item section.Linear (codes "d") (number (codes "1")) ∷ shown ∷ [])))
wrong_section t = never t.items.0.0

pub unknown : ¬ (Typed (with_items (item section.Logic (codes "e") (truth true) ∷ settled ∷ shown ∷ [])))
unknown t = never t.items.0.0

pub output : ¬ (Typed (with_items (settled ∷ item section.OutputItem (codes "y") (name (codes "y")) ∷ [])))
output t = never t.items.1.0.1

pub equation : ¬ (Typed (with_items (item section.Ad (codes "d") (both binary.Equal (number (codes "1")) (number (codes "1"))) ∷ shown ∷ [])))
equation t = never t.items.0.1.0.0

pub within : ¬ (Typed (with_items (item section.Logic (codes "d") (negated (both binary.Most (number (codes "1")) (number (codes "1")))) ∷ shown ∷ [])))
within t = never t.items.0.1.1.0

pub top : Typed (with_items (settled ∷ shown ∷ must (both binary.Equal (number (codes "1")) (number (codes "1"))) ∷ []))
top = record { values = (tt, (tt, tt)); boxes = ((tt, tt), ((tt, tt), tt)); items = ((refl, tt), ((refl, tt), ((refl, inr (refl, tt, tt)), tt))) }

pub wrong_kind : ¬ (Typed (with_items (settled ∷ item section.OutputItem (codes "y") (truth true) ∷ [])))
wrong_kind t = t.items.1.0.1
