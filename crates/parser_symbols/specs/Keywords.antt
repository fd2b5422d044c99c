-- The first of some words that is spelled so.
use Rattle.std.specs.Prelude.{ℕ, List, [], ◌∷◌, Option, None, Some, cond, bytes_eq}
use Rattle.c_tree.specs.declared.symbol.Keyword.{Keyword}

pub record Spelled : Type 0 where
  pub name : List ℕ
  pub key : Keyword

abbrev pub spelled : List ℕ → Keyword → Spelled
spelled n k = record { name = n; key = k }

abbrev pub among : List ℕ → List Spelled → Option Keyword
among text [] = None
among text (p ∷ ps) = cond (bytes_eq p.name text) (Some p.key) (among text ps)
