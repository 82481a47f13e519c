-- The trees of a source, without pointers.
use Rattle.std.specs.Prelude.{ℕ, Bool, List, Option}
use Rattle.hys_ast.specs.declared.place.Place.{Place}
use Rattle.hys_ast.specs.declared.tree.UnaryOp.{UnaryOp}
use Rattle.hys_ast.specs.declared.tree.BinaryOp.{BinaryOp}
use Rattle.hys_ast.specs.declared.source.Section.{Section}
use Rattle.hys_ast.specs.declared.source.Kind.{Kind}

pub data Tree : Type 0 where
  Number : List ℕ → Place → Tree
  Name : List ℕ → Place → Tree
  Truth : Bool → Place → Tree
  Cast : List ℕ → Place → Tree
  Unary : UnaryOp → Tree → Place → Tree
  Binary : BinaryOp → Tree → Tree → Place → Tree

pub record Decl : Type 0 where
  pub section : Section
  pub kind : Kind
  pub name : List ℕ
  pub place : Place
  pub low : Option Tree
  pub high : Option Tree
  pub value : Option Tree

pub data Shape : Type 0 where
  Plain : Tree → Shape
  Wide : Tree → Tree → Shape
  Choice : Tree → Tree → Option Tree → Shape

pub record Item : Type 0 where
  pub section : Section
  pub name : Option (List ℕ)
  pub place : Place
  pub shape : Shape

pub record Source : Type 0 where
  pub system : List ℕ
  pub decls : List Decl
  pub items : List Item
