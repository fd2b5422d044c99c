-- The calls of the values of a statement.
use Rattle.std.proofs.Common.{List, [], ◌∷◌, ◌++◌}
use Rattle.c_typed.specs.Tree.{Val, Vals, no_values, values_and}
use Rattle.c_typed.specs.Rules.{Call, calls, calls_in, calls_of, all_parts}
use Rattle.slot_code.specs.Values.{Link}
use Rattle.slot_laws.proofs.Calling.{Linked, linked_first, linked_last}

-- the functions that values call stand there
abbrev pub ValuesLinked : List Link → List Val → Type 0
ValuesLinked links [] = Unit {0}
ValuesLinked links (e ∷ es) = Linked links (calls e) × ValuesLinked links es

pub values_first : (links : List Link) (xs ys : List Val) → ValuesLinked links (xs ++ ys) → ValuesLinked links xs
values_first links [] ys h = tt
values_first links (x ∷ xs) ys h = (h.0, values_first links xs ys h.1)

pub values_last : (links : List Link) (xs ys : List Val) → ValuesLinked links (xs ++ ys) → ValuesLinked links ys
values_last links [] ys h = h
values_last links (x ∷ xs) ys h = values_last links xs ys h.1

linked_both : (links : List Link) (xs ys : List Call) → Linked links xs → Linked links ys → Linked links (xs ++ ys)
linked_both links [] ys h k = k
linked_both links (x ∷ xs) ys h k = (h.0, linked_both links xs ys h.1 k)

pub parts_linked : (links : List Link) (es : Vals) → ValuesLinked links (all_parts es) → Linked links (calls_in es)
parts_linked links no_values h = tt
parts_linked links (values_and es e) h = linked_both links (calls_in es) (calls e) (parts_linked links es (values_first links (all_parts es) (e ∷ []) h)) (values_last links (all_parts es) (e ∷ []) h).0

pub values_linked : (links : List Link) (es : List Val) → Linked links (calls_of es) → ValuesLinked links es
values_linked links [] h = tt
values_linked links (e ∷ es) h = (linked_first links (calls e) (calls_of es) h, values_linked links es (linked_last links (calls e) (calls_of es) h))
