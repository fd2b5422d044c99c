-- The limit on cells, as far as the objects of a source take them.
use Rattle.std.specs.Prelude.{ℕ, ◌+◌, nat_lt, ◌||◌, if◌then◌else◌, Bool, List, [], ◌∷◌, Option, None, Some}
use Rattle.c_meaning.specs.Bindings.{Object, size_of_object}
use Rattle.source_refusals.specs.declared.cells.Passed.{Passed}

-- An array of more than 1,024 elements passes the limit by itself, and so do more than 65,536 cells together.
abbrev pub is_over : ℕ → ℕ → Bool
is_over cells elements = nat_lt 1024 elements || nat_lt 65536 (cells + elements)

-- the count that passed: the array's length, or the cells so far
abbrev pub count_after : ℕ → ℕ → ℕ
count_after cells elements = if nat_lt 1024 elements then elements else cells + elements

-- The first object with which the cells pass the limit, behind so many cells, and the offset of its name. Each object counts
-- once, a scalar as one cell, whether it lives as long as the program, or is a function's own or its parameter.
abbrev pub passed : ℕ → List Object → Option Passed
passed cells [] = None
passed cells (o ∷ os) =
    if is_over cells (size_of_object (Some o)) then Some (record { at = o.at; count = count_after cells (size_of_object (Some o)) })
    else passed (cells + size_of_object (Some o)) os
