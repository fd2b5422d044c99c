-- The innermost frame is the last of the list.
use Rattle.std.proofs.Common.{◌≡◌, ℕ, suc, ◌+◌, ◌<◌, List, [], ◌∷◌, ◌++◌, length, refl, arith, true, false, nat_eq, sym, ◌∙◌}
use Rattle.parse_machine.specs.Contexts as m
use Rattle.parse_stack.specs.declared.frames.Frame.{Frame}
use Rattle.parse_stack.specs.declared.places.OuterFrame.{OuterFrame}
use Rattle.parse_stack.specs.declared.places.OuterFrame.TheVariants as of
use Rattle.parse_machine.specs.Heights.{depth}
use Rattle.parse_machine.specs.Declarations.{are_no_attributes}
use Rattle.c_tree.specs.Tree as t
use Rattle.c_tree.specs.declared.tree.Declarator.{Declarator}
use Rattle.c_tree.specs.declared.tree.Attribute.{Attribute as TreeAttribute}
use Rattle.c_tree.specs.Height.{height_attributes}
use Rattle.c_tree.specs.View.{declarators_of, declarators_behind, declarator_behind, attributes_of, attributes_behind, attribute_of}
use Rattle.c_tree.specs.Shape.{are_no_declarators}
use Rattle.parse_stack.specs.View.{inner_behind, inner_on, outer_behind, outer_on}

pub inner_push : (k : m.Inner) (fs : List Frame) (f : Frame) → inner_behind k (fs ++ f ∷ []) ≡ inner_on (inner_behind k fs) f
inner_push k [] f = refl
inner_push k (g ∷ fs) f = inner_push (inner_on k g) fs f

pub outer_push : (o : m.Outer) (fs : List OuterFrame) (f : OuterFrame) → outer_behind o (fs ++ f ∷ []) ≡ outer_on (outer_behind o fs) f
outer_push o [] f = refl
outer_push o (g ∷ fs) f = outer_push (outer_on o g) fs f

pub depth_behind : (o : m.Outer) (fs : List OuterFrame) → depth (outer_behind o fs) ≡ depth o + length fs
depth_behind o [] = omega arith
depth_behind o (f ∷ fs) = let i = depth_behind (outer_on o f) fs in let e = depth_on o f in omega arith
  where
    depth_on : (o : m.Outer) (f : OuterFrame) → depth (outer_on o f) ≡ suc (depth o)
    depth_on o (of.Block k a ss) = refl
    depth_on o (of.Do at) = refl
    depth_on o (of.Wrap w) = refl

not_zero : (n : ℕ) → nat_eq (suc n) 0 ≡ false
not_zero n = grind arith

some_more : (d : t.Decs) (xs : List Declarator) → are_no_declarators d ≡ false → are_no_declarators (declarators_behind d xs) ≡ false
some_more d [] h = h
some_more d (x ∷ xs) h = some_more (declarator_behind d x) xs refl

pub none_of_empty : (xs : List Declarator) → are_no_declarators (declarators_of xs) ≡ nat_eq (length xs) 0
none_of_empty [] = refl
none_of_empty (x ∷ xs) = some_more (declarator_behind t.no_declarators x) xs refl ∙ sym (not_zero (length xs))

some_attribute : (d : t.Ats) (xs : List TreeAttribute) → height_attributes d ≡ 1 → height_attributes (attributes_behind d xs) ≡ 1
some_attribute d [] h = h
some_attribute d (x ∷ xs) h = some_attribute (t.attributes_and d (attribute_of x)) xs refl

pub height_of_none : (xs : List TreeAttribute) → length xs ≡ 0 → height_attributes (attributes_of xs) ≡ 0
height_of_none [] h = refl
height_of_none (x ∷ xs) h = absurd (impossible h)
  where
    impossible : suc (length xs) ≡ 0 → ⊥
    impossible e = omega (arith, e)

pub height_of_some : (xs : List TreeAttribute) → 0 < length xs → height_attributes (attributes_of xs) ≡ 1
height_of_some [] h = absurd (impossible h)
  where
    impossible : 0 < 0 → ⊥
    impossible e = omega (arith, e)
height_of_some (x ∷ xs) h = some_attribute (t.attributes_and t.no_attributes (attribute_of x)) xs refl

attributes_more : (d : t.Ats) (xs : List TreeAttribute) → are_no_attributes d ≡ false → are_no_attributes (attributes_behind d xs) ≡ false
attributes_more d [] h = h
attributes_more d (x ∷ xs) h = attributes_more (t.attributes_and d (attribute_of x)) xs refl

pub no_attributes_of_empty : (xs : List TreeAttribute) → are_no_attributes (attributes_of xs) ≡ nat_eq (length xs) 0
no_attributes_of_empty [] = refl
no_attributes_of_empty (x ∷ xs) = attributes_more (t.attributes_and t.no_attributes (attribute_of x)) xs refl ∙ sym (not_zero (length xs))
