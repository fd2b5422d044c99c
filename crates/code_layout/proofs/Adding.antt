-- One object more among the cells.
use Rattle.std.proofs.Common.{◌≡◌, ℕ, zero, suc, ◌+◌, ◌<◌, List, [], ◌∷◌, ◌++◌, length, get_or, drop, refl, sym, ap, ◌∙◌, arith, length-append, drop-cons, append_assoc}
use Rattle.lv_base.specs.declared.kind.Model.{Model}
use Rattle.lv_base.specs.Integers.{width_of}
use Rattle.c_typed.specs.declared.tree.Object.{Object}
use Rattle.c_graph.specs.declared.graph.Cell.{Cell}
use Rattle.c_graph.specs.declared.graph.Origin.TheVariants.{Element}
use Rattle.code_layout.specs.Layout.{elements_of, cell_of, element_cells, object_cells, firsts_from}

pub length-element_cells : (w number n : ℕ) → length (element_cells w number n) ≡ n
length-element_cells w number zero = refl
length-element_cells w number (suc n) = omega (arith, length-append (element_cells w number n) (cell_of w (Element number n) ∷ []), length-element_cells w number n)

left : (os : List Object) (o : Object) (i : ℕ) → i < length os → o ≡ get_or os i o → drop i os ≡ o ∷ drop (i + 1) os
left os o i lt is =
    let n : suc i ≡ i + 1 = omega arith in
    drop-cons os i o lt ∙ ap (λ (x : Object). x ∷ drop (suc i) os) (sym is) ∙ ap (λ (k : ℕ). o ∷ drop k os) n

pub firsts-more : (os : List Object) (o : Object) (i w number first : ℕ) (fs gs total : List ℕ) (cs ds : List Cell) → i < length os → o ≡ get_or os i o
    → first ≡ length cs → gs ≡ fs ++ (first ∷ []) → ds ≡ cs ++ element_cells w number (elements_of o)
    → fs ++ firsts_from (length cs) (drop i os) ≡ total → gs ++ firsts_from (length ds) (drop (i + 1) os) ≡ total
firsts-more os o i w number first fs gs total cs ds lt is f g e inv =
    let n : length ds ≡ length cs + elements_of o = omega (arith, ap length e, length-append cs (element_cells w number (elements_of o)), length-element_cells w number (elements_of o)) in
    let rest : List Object = drop (i + 1) os in
    ap (λ (k : ℕ). gs ++ firsts_from k rest) n
    ∙ ap (λ (xs : List ℕ). xs ++ firsts_from (length cs + elements_of o) rest) (g ∙ ap (λ (k : ℕ). fs ++ (k ∷ [])) f)
    ∙ append_assoc fs (length cs ∷ []) (firsts_from (length cs + elements_of o) rest)
    ∙ ap (λ (xs : List Object). fs ++ firsts_from (length cs) xs) (sym (left os o i lt is))
    ∙ inv

pub cells-more : (model : Model) (os : List Object) (o : Object) (i w number next : ℕ) (cs ds total : List Cell) → i < length os → o ≡ get_or os i o
    → w ≡ width_of o.kind model → next ≡ suc number → ds ≡ cs ++ element_cells w number (elements_of o)
    → cs ++ object_cells model number (drop i os) ≡ total → ds ++ object_cells model next (drop (i + 1) os) ≡ total
cells-more model os o i w number next cs ds total lt is v n e inv =
    let rest : List Object = drop (i + 1) os in
    ap (λ (k : ℕ). ds ++ object_cells model k rest) n
    ∙ ap (λ (xs : List Cell). xs ++ object_cells model (suc number) rest) (e ∙ ap (λ (k : ℕ). cs ++ element_cells k number (elements_of o)) v)
    ∙ append_assoc cs (element_cells (width_of o.kind model) number (elements_of o)) (object_cells model (suc number) rest)
    ∙ ap (λ (xs : List Object). cs ++ object_cells model number xs) (sym (left os o i lt is))
    ∙ inv
