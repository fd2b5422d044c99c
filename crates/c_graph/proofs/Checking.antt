-- What a loop over parts of a graph has seen.
use Rattle.std.proofs.Common.{◌≡◌, ℕ, zero, ◌+◌, ◌<◌, ◌≤◌, length, List, [], ◌∷◌, ◌++◌, arith, ap, sym, ◌∙◌, refl, suc, subst, slice_index_or, All, take}
use Rattle.std.proofs.Math.Seq.{take-suc}
use Rattle.std.proofs.lemmas.List.{take_all}
use Rattle.c_graph.specs.declared.graph.NodeId.{NodeId}
use Rattle.c_graph.specs.declared.graph.Node.{Node}
use Rattle.c_graph.specs.declared.graph.Node.TheVariants.{Plain, Error, End, Call}
use Rattle.c_graph.specs.declared.graph.Cell.{Cell}
use Rattle.c_graph.specs.Shape.{IsNoCall, widths_of}

pub no-call : (x : Node) → ((f : ℕ) (n : NodeId) → x ≡ Call f n → ⊥) → IsNoCall x
no-call Plain h = tt
no-call (Error kind at) h = tt
no-call End h = tt
no-call (Call f n) h = h f n refl

-- at the end the loop has seen all
pub All-seen : {X : Type 0} (P : X → Type 0) (xs : List X) (i : ℕ) → length xs ≤ i → All P (take i xs) → All P xs
All-seen {X} P xs i le h = let Q : List X → Type 0 = All P in subst Q (take_all i xs le) h

widths_of-snoc : (cs : List Cell) (c : Cell) → widths_of (cs ++ c ∷ []) ≡ widths_of cs ++ c.width ∷ []
widths_of-snoc [] c = refl
widths_of-snoc (x ∷ cs) c = ap (λ z. x.width ∷ z) (widths_of-snoc cs c)

length-widths : (cs : List Cell) → length (widths_of cs) ≡ length cs
length-widths [] = refl
length-widths (c ∷ cs) = ap suc (length-widths cs)

width-at : (cs : List Cell) (i : ℕ) (d : Cell) → i < length cs → slice_index_or (widths_of cs) i 0 ≡ (slice_index_or cs i d).width
width-at [] i d lt = absurd (omega (arith, lt))
width-at (c ∷ cs) zero d lt = refl
width-at (c ∷ cs) (suc i) d lt = width-at cs i d (omega (arith, lt))

-- widths that are others than those of the cells
pub widths-differ-count : (cells : List Cell) (ws : List ℕ) → (length cells ≡ length ws → ⊥) → ws ≡ widths_of cells → ⊥
widths-differ-count cells ws ne e = ne (sym (ap length e ∙ length-widths cells))

pub widths-differ : (cells : List Cell) (ws : List ℕ) (i : ℕ) (d : Cell) → i < length cells → (slice_index_or ws i 0 ≡ (slice_index_or cells i d).width → ⊥) → ws ≡ widths_of cells → ⊥
widths-differ cells ws i d lt ne e = ne (ap (λ (vs : List ℕ). slice_index_or vs i 0) e ∙ width-at cells i d lt)

pub widths-step : (cells : List Cell) (ws : List ℕ) (i : ℕ) (d : Cell) → i < length cells → length cells ≡ length ws
    → take i ws ≡ widths_of (take i cells) → slice_index_or ws i 0 ≡ (slice_index_or cells i d).width
    → take (i + 1) ws ≡ widths_of (take (i + 1) cells)
widths-step cells ws i d lt same h e =
    let s : suc i ≡ i + 1 = omega arith in
    let P : ℕ → Type 0 = λ n. take n ws ≡ widths_of (take n cells) in
    let less : i < length ws = omega arith in
    subst P s
    (take-suc ws i 0 less ∙ ap (λ (z : ℕ). take i ws ++ z ∷ []) e ∙ ap (λ (z : List ℕ). z ++ (slice_index_or cells i d).width ∷ []) h
    ∙ sym (widths_of-snoc (take i cells) (slice_index_or cells i d)) ∙ ap widths_of (sym (take-suc cells i d lt)))
