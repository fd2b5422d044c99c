-- Going back over operations, one more each turn.
use Rattle.std.proofs.Common.{◌≡◌, ℕ, ◌+◌, ◌≤◌, ◌<◌, length, List, [], ◌∷◌, drop, get_or, set, arith, ap, sym, ◌∙◌, refl, suc, zero, Bool}
use Rattle.std.proofs.lemmas.List.{drop_more, drop-set, drop_all}
use Rattle.bv_term.specs.WellFormed.{Table}
use Rattle.c_graph.specs.declared.graph.Operation.{Operation}
use Rattle.c_graph.specs.declared.graph.Edge.{Edge}
use Rattle.path_formula.specs.Needs.{gives, kept_of, needed_by, needed_by_all, operations_at}

pub back_start : (table : Table) (later : List ℕ) (ops : List Operation) (kept : List Bool) (n : ℕ) → n ≡ length ops → length kept ≡ length ops
    → (drop n kept ≡ kept_of table later (drop n ops)) × (later ≡ needed_by_all table later (drop n ops))
back_start table later ops kept n e l =
    let k : drop n kept ≡ [] = drop_all n kept (omega (arith, e, l)) in
    let o : drop n ops ≡ [] = drop_all n ops (omega (arith, e)) in (
      k ∙ ap (λ (t : List Operation). kept_of table later t) (sym o),
      ap (λ (t : List Operation). needed_by_all table later t) (sym o),
    )

pub back_turn : (table : Table) (later : List ℕ) (ops : List Operation) (i left : ℕ) (o : Operation) (kept : List Bool) (needed new : List ℕ) (b : Bool)
    → i + 1 ≡ left → left ≤ length ops → length kept ≡ length ops → o ≡ get_or ops i o
    → drop left kept ≡ kept_of table later (drop left ops) → needed ≡ needed_by_all table later (drop left ops)
    → b ≡ gives needed o → new ≡ needed_by table needed o
    → (drop i (set kept i b) ≡ kept_of table later (drop i ops)) × (new ≡ needed_by_all table later (drop i ops))
back_turn table later ops i left o kept needed new b e le l eo ek en eb ew =
    let d : drop i ops ≡ o ∷ drop left ops
    = drop_more ops i o (omega (arith, e, le)) ∙ (ap (λ (t : Operation). t ∷ drop (i + 1) ops) (sym eo) ∙ ap (λ (t : ℕ). o ∷ drop t ops) e) in
    let N = needed_by_all table later (drop left ops) in
    let k : drop i (set kept i b) ≡ gives N o ∷ kept_of table later (drop left ops)
    = drop-set kept i b (omega (arith, e, le, l)) ∙ (ap (λ (t : ℕ). b ∷ drop t kept) e
    ∙ (ap (λ (t : List Bool). b ∷ t) ek ∙ ap (λ (t : Bool). t ∷ kept_of table later (drop left ops)) (eb ∙ ap (λ (t : List ℕ). gives t o) en))) in (
      k ∙ ap (λ (t : List Operation). kept_of table later t) (sym d),
      ew ∙ (ap (λ (t : List ℕ). needed_by table t o) en ∙ ap (λ (t : List Operation). needed_by_all table later t) (sym d)),
    )

pub ops_at : (edges : List Edge) (k : ℕ) (e : Edge) → k < length edges → e ≡ get_or edges k e → e.ops ≡ operations_at edges k
ops_at [] k e lt h = absurd (omega (arith, lt))
ops_at (x ∷ xs) zero e lt h = ap (λ (t : Edge). t.ops) h
ops_at (x ∷ xs) (suc k) e lt h = ops_at xs k e (omega (arith, lt)) h

pub ops_past : (edges : List Edge) (k : ℕ) → length edges ≤ k → [] ≡ operations_at edges k
ops_past [] k le = refl
ops_past (x ∷ xs) zero le = absurd (omega (arith, le))
ops_past (x ∷ xs) (suc k) le = ops_past xs k (omega (arith, le))
