-- Marks for the nodes from which edges lead, and what they tell of nodes and calls.
use Rattle.std.proofs.Common.{◌≡◌, ℕ, zero, ◌+◌, ◌<◌, ◌≤◌, ◌⊎◌, ap, Some, slice_get, ◌||◌, Bool, true, false, length, List, [], ◌∷◌, ◌++◌, arith, sym, ◌∙◌, refl, suc, subst, slice_index_or, All, take, set, inl, inr, eq-eqb, nat_eq, rules}
use Rattle.std.proofs.Math.Seq.{take-suc}
use Rattle.std.proofs.lemmas.List.{get_or-set_other, get_or-set_same}
use Rattle.std.proofs.lemmas.Bool.{cases_eq, eqb-true, or_cases}
use Rattle.c_graph.specs.declared.graph.NodeId.{NodeId}
use Rattle.c_graph.specs.declared.graph.Node.{Node}
use Rattle.c_graph.specs.declared.graph.Node.TheVariants.{Plain, Error, End, Call}
use Rattle.c_graph.specs.declared.graph.Edge.{Edge}
use Rattle.c_graph.specs.Shape.{has_out, GoesOn}
use Rattle.c_graph.specs.Functions.{FnFlow, CallFits}
use Rattle.c_graph.specs.Parts.{AllMarked, AreMarks, CallFitsBy, GoesOnBy}

has_out-front : (es fs : List Edge) (v : NodeId) → has_out es v ≡ true → has_out (es ++ fs) v ≡ true
has_out-front [] fs v h = absurd (cc)
has_out-front (e ∷ es) fs v h =
    elim (nat_eq e.from.0 v.0) as (λ b. (b || has_out es v) ≡ true → (b || has_out (es ++ fs) v) ≡ true) [
      | true ↦ (λ _. refl)
      | false ↦ (λ t. has_out-front es fs v t)
    ] h

has_out-last : (es : List Edge) (e : Edge) (v : NodeId) → e.from.0 ≡ v.0 → has_out (es ++ e ∷ []) v ≡ true
has_out-last [] e v is = rw (eq-eqb e.from.0 v.0 is) refl
has_out-last (x ∷ es) e v is =
    elim (nat_eq x.from.0 v.0) as (λ b. (b || has_out (es ++ e ∷ []) v) ≡ true) [
      | true ↦ refl
      | false ↦ has_out-last es e v is
    ]

-- one more edge keeps the marks
pub marks-more : (edges : List Edge) (marks : List Bool) (i : ℕ) (d : Edge) → i < length edges → AreMarks (take i edges) marks → AreMarks (take (i + 1) edges) marks
marks-more edges marks i d lt h v is =
    let s : suc i ≡ i + 1 = omega arith in
    let P : ℕ → Type 0 = λ n. has_out (take n edges) (record { 0 = v }) ≡ true in
    let Q : List Edge → Type 0 = λ es. has_out es (record { 0 = v }) ≡ true in
    subst P s (subst Q (sym (take-suc edges i d lt)) (has_out-front (take i edges) (slice_index_or edges i d ∷ []) (record { 0 = v }) (h v is)))

-- one more edge, whose node is marked
pub marks-set : (edges : List Edge) (marks : List Bool) (i : ℕ) (d : Edge) → i < length edges → AreMarks (take i edges) marks → AreMarks (take (i + 1) edges) (set marks (slice_index_or edges i d).from.0 true)
marks-set edges marks i d lt h v is =
    let e : Edge = slice_index_or edges i d in
    let s : suc i ≡ i + 1 = omega arith in
    let P : ℕ → Type 0 = λ n. has_out (take n edges) (record { 0 = v }) ≡ true in
    let Q : List Edge → Type 0 = λ es. has_out es (record { 0 = v }) ≡ true in
    elim (cases_eq e.from.0 v) [
      | inl same ↦ subst P s (subst Q (sym (take-suc edges i d lt)) (has_out-last (take i edges) e (record { 0 = v }) same))
      | inr ne ↦ marks-more edges marks i d lt h v (sym (get_or-set_other marks e.from.0 v true false (λ x. ne (sym x))) ∙ is)
    ]

pub goes_on : (nodes : List Node) (edges : List Edge) (marks : List Bool) (v : NodeId) → AreMarks edges marks → GoesOnBy nodes marks v → GoesOn nodes edges v
goes_on nodes edges marks v h by is = let m : has_out edges v ≡ true = h v.0 (by is) in search rules

pub targets_go_on : (nodes : List Node) (edges es : List Edge) (marks : List Bool) → AreMarks edges marks → All (λ e. GoesOnBy nodes marks e.to) es → All (λ e. GoesOn nodes edges e.to) es
targets_go_on nodes edges es marks h all k d lt = goes_on nodes edges marks (slice_index_or es k d).to h (all k d lt)

call_fits : (functions : ℕ) (g : FnFlow) (marks : List Bool) (x : Node) → AreMarks g.edges marks → CallFitsBy functions g.nodes marks x → CallFits functions g x
call_fits functions g marks Plain h f = tt
call_fits functions g marks (Error kind at) h f = tt
call_fits functions g marks End h f = tt
call_fits functions g marks (Call function next) h f = (f.0, f.1, goes_on g.nodes g.edges marks next h f.2)

pub calls_fit : (functions : ℕ) (g : FnFlow) (marks : List Bool) → AreMarks g.edges marks → All (CallFitsBy functions g.nodes marks) g.nodes → All (CallFits functions g) g.nodes
calls_fit functions g marks h all k d lt = call_fits functions g marks (slice_index_or g.nodes k d) h (all k d lt)

pub no-call-fits : (functions : ℕ) (nodes : List Node) (marks : List Bool) (x : Node) → ((f : ℕ) (n : NodeId) → x ≡ Call f n → ⊥) → CallFitsBy functions nodes marks x
no-call-fits functions nodes marks Plain h = tt
no-call-fits functions nodes marks (Error kind at) h = tt
no-call-fits functions nodes marks End h = tt
no-call-fits functions nodes marks (Call f n) h = absurd (h f n refl)

get-below : {X : Type 0} (xs : List X) (k : ℕ) (x : X) → slice_get xs k ≡ Some x → k < length xs
get-below [] k x h = absurd (cc)
get-below (y ∷ xs) zero x h = omega arith
get-below (y ∷ xs) (suc k) x h = let q = get-below xs k x h in omega (arith, q)

or-true : (b : Bool) → (b || true) ≡ true
or-true true = refl
or-true false = refl

-- an edge leads from a node among these edges, or it is the last one
has_out-split : (es : List Edge) (e : Edge) (v : NodeId) → has_out (es ++ e ∷ []) v ≡ true → (has_out es v ≡ true) ⊎ (e.from.0 ≡ v.0)
has_out-split [] e v h = elim (or_cases (nat_eq e.from.0 v.0) false h) [ inl p ↦ inr (eqb-true e.from.0 v.0 p) | inr q ↦ absurd (cc) ]
has_out-split (x ∷ es) e v h =
    elim (or_cases (nat_eq x.from.0 v.0) (has_out (es ++ e ∷ []) v) h) [
      | inl p ↦ inl (ap (λ (b : Bool). b || has_out es v) p)
      | inr q ↦ elim (has_out-split es e v q) [
        | inl r ↦ inl (ap (λ (b : Bool). nat_eq x.from.0 v.0 || b) r ∙ or-true (nat_eq x.from.0 v.0))
        | inr s ↦ inr s
      ]
    ]

pub none-marked : (count : ℕ) (marks : List Bool) → AllMarked count [] marks
none-marked count marks v lt is = absurd (cc)

-- one more edge, whose node has no mark to get
pub all-more : (count : ℕ) (edges : List Edge) (marks : List Bool) (i : ℕ) (d : Edge) → i < length edges → AllMarked count (take i edges) marks
    → count ≤ (slice_index_or edges i d).from.0 → AllMarked count (take (i + 1) edges) marks
all-more count edges marks i d lt h le v less is =
    let s : i + 1 ≡ suc i = omega arith in
    let there : has_out (take i edges ++ slice_index_or edges i d ∷ []) (record { 0 = v }) ≡ true =
    subst (λ (es : List Edge). has_out es (record { 0 = v }) ≡ true) (take-suc edges i d lt) (subst (λ (n : ℕ). has_out (take n edges) (record { 0 = v }) ≡ true) s is) in
    elim (has_out-split (take i edges) (slice_index_or edges i d) (record { 0 = v }) there) [
      | inl old ↦ h v less old
      | inr same ↦ absurd (omega (arith, le, less, same))
    ]

-- one more edge, whose node is marked
pub all-set : (count : ℕ) (edges : List Edge) (marks : List Bool) (i : ℕ) (d : Edge) → i < length edges → AllMarked count (take i edges) marks
    → (slice_index_or edges i d).from.0 < length marks → AllMarked count (take (i + 1) edges) (set marks (slice_index_or edges i d).from.0 true)
all-set count edges marks i d lt h in-marks v less is =
    let e : Edge = slice_index_or edges i d in
    let s : i + 1 ≡ suc i = omega arith in
    let there : has_out (take i edges ++ e ∷ []) (record { 0 = v }) ≡ true =
    subst (λ (es : List Edge). has_out es (record { 0 = v }) ≡ true) (take-suc edges i d lt) (subst (λ (n : ℕ). has_out (take n edges) (record { 0 = v }) ≡ true) s is) in
    elim (cases_eq e.from.0 v) [
      | inl same ↦ subst (λ (n : ℕ). slice_index_or (set marks e.from.0 true) n false ≡ true) same (get_or-set_same marks e.from.0 true false in-marks)
      | inr ne ↦ elim (has_out-split (take i edges) e (record { 0 = v }) there) [
        | inl old ↦ get_or-set_other marks e.from.0 v true false (λ x. ne (sym x)) ∙ h v less old
        | inr same ↦ absurd (ne same)
      ]
    ]

-- what goes on, goes on by marks of all nodes
pub goes_on-by : (nodes : List Node) (edges : List Edge) (marks : List Bool) (v : NodeId) → AllMarked (length nodes) edges marks → GoesOn nodes edges v → GoesOnBy nodes marks v
goes_on-by nodes edges marks v h on is = h v.0 (get-below nodes v.0 Plain is) (on is)

pub targets_go_on-by : (nodes : List Node) (edges es : List Edge) (marks : List Bool) → AllMarked (length nodes) edges marks → All (λ e. GoesOn nodes edges e.to) es
    → All (λ e. GoesOnBy nodes marks e.to) es
targets_go_on-by nodes edges es marks h all k d lt = goes_on-by nodes edges marks (slice_index_or es k d).to h (all k d lt)

call_fits-by : (functions : ℕ) (g : FnFlow) (marks : List Bool) (x : Node) → AllMarked (length g.nodes) g.edges marks → CallFits functions g x → CallFitsBy functions g.nodes marks x
call_fits-by functions g marks Plain h f = tt
call_fits-by functions g marks (Error kind at) h f = tt
call_fits-by functions g marks End h f = tt
call_fits-by functions g marks (Call function next) h f = (f.0, f.1, goes_on-by g.nodes g.edges marks next h f.2)

pub calls_fit-by : (functions : ℕ) (g : FnFlow) (marks : List Bool) → AllMarked (length g.nodes) g.edges marks → All (CallFits functions g) g.nodes
    → All (CallFitsBy functions g.nodes marks) g.nodes
calls_fit-by functions g marks h all k d lt = call_fits-by functions g marks (slice_index_or g.nodes k d) h (all k d lt)
