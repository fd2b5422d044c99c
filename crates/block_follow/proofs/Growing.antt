-- Lists and graphs that begin with others.
use Rattle.std.proofs.Common.{Bool, IsTrue, Result, Ok, Err, IfOk, Option, Some, None, IfSome, ◌≡◌, ◌≤◌, ◌<◌, ℕ, List, [], ◌∷◌, ◌++◌, length, slice_get, refl, sym, ap, ◌∙◌, suc, arith}
use Rattle.bv_term.specs.declared.term.Term.{Term}
use Rattle.c_graph.specs.declared.graph.Cell.{Cell}
use Rattle.c_graph.specs.declared.graph.Node.{Node}
use Rattle.c_graph.specs.declared.graph.NodeId.{NodeId}
use Rattle.c_graph.specs.Shape.{Flow, IsFlow, widths_of}
use Rattle.block_follow.specs.Following.{Grows}

-- a list that has each element of another one at its number begins with it
pub prefix : {A : Type 0} → (xs ys : List A) → length xs ≤ length ys → ((k : ℕ) → k < length xs → slice_get ys k ≡ slice_get xs k)
    → (more : List A) × (ys ≡ xs ++ more)
prefix [] ys le same = (ys, refl)
prefix (x ∷ xs) [] le same = absurd (omega (arith, le))
prefix (x ∷ xs) (y ∷ ys) le same =
    let e : Some y ≡ Some x = same 0 (omega arith) in
    let h : y ≡ x = cc in
    let (more, t) = prefix xs ys (omega (arith, le)) (λ k lt. same (suc k) (omega (arith, lt))) in
    (more, ap (λ z. z ∷ ys) h ∙ ap (λ zs. x ∷ zs) t)

-- a list of the same length that has each element of another one at its number is that one
pub same-list : {A : Type 0} → (xs ys : List A) → length xs ≡ length ys → ((k : ℕ) → k < length xs → slice_get ys k ≡ slice_get xs k) → ys ≡ xs
same-list [] [] le same = refl
same-list [] (y ∷ ys) le same = absurd (omega (arith, le))
same-list (x ∷ xs) [] le same = absurd (omega (arith, le))
same-list (x ∷ xs) (y ∷ ys) le same =
    let e : Some y ≡ Some x = same 0 (omega arith) in
    let h : y ≡ x = cc in
    let t : ys ≡ xs = same-list xs ys (omega (arith, le)) (λ k lt. same (suc k) (omega (arith, lt))) in
    ap (λ z. z ∷ ys) h ∙ ap (λ zs. x ∷ zs) t

pub carried : {A : Type 0} → (xs ys us vs : List A) → xs ≡ us → ys ≡ vs → ((more : List A) × (ys ≡ xs ++ more)) → (more : List A) × (vs ≡ us ++ more)
carried xs ys us vs p q (more, e) = (more, sym q ∙ e ∙ ap (λ z. z ++ more) p)

widths-more : (xs ys : List Cell) → widths_of (xs ++ ys) ≡ widths_of xs ++ widths_of ys
widths-more [] ys = refl
widths-more (x ∷ xs) ys = ap (λ ws. x.width ∷ ws) (widths-more xs ys)

-- the widths of a table's cells are those of its graph's
pub grown : (g h : Flow) → IsFlow g → IsFlow h → g.entry.0 ≡ h.entry.0 → h.loops ≡ g.loops → ((more : List Node) × (h.nodes ≡ g.nodes ++ more))
    → ((more : List Cell) × (h.cells ≡ g.cells ++ more)) → ((more : List Term) × (h.terms.terms ≡ g.terms.terms ++ more)) → Grows g h
grown g h gf hf entry loops nodes cells terms =
    let F : ℕ → NodeId = λ v. record { 0 = v } in
    let (more, e) = cells in
    let widths : h.terms.cells ≡ g.terms.cells ++ widths_of more =
    hf.cells ∙ ap widths_of e ∙ widths-more g.cells more ∙ ap (λ ws. ws ++ widths_of more) (sym gf.cells) in
    record {
      nodes = nodes;
      cells = cells;
      entry = ap F (sym entry);
      loops = loops;
      terms = ((widths_of more, widths), terms);
    }

pub weaken : {A : Type 0} → {E : Type 0} → (r : Result A E) (P Q : A → Type 0) → ((x : A) → P x → Q x) → IfOk r P → IfOk r Q
weaken (Ok x) P Q f h = f x h
weaken (Err e) P Q f h = tt

pub both : {A : Type 0} → {E : Type 0} → (r : Result A E) (P Q : A → Type 0) → IfOk r P → IfOk r Q → IfOk r (λ x. P x × Q x)
both (Ok x) P Q p q = (p, q)
both (Err e) P Q p q = tt

pub weaken_some : {A : Type 0} → (o : Option A) (P Q : A → Type 0) → ((x : A) → P x → Q x) → IfSome o P → IfSome o Q
weaken_some None P Q f h = tt
weaken_some (Some x) P Q f h = f x h

pub always : {E : Type 0} → (r : Result Bool E) (P : Type 0) → P → IfOk r (λ b. IsTrue b → P)
always (Ok b) P p = λ t. p
always (Err e) P p = tt
