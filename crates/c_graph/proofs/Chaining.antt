-- Chains of edges as they are linked from the last edge to the first, and as they are followed.
use Rattle.std.proofs.Common.{◌≡◌, ◌≢◌, ℕ, ◌+◌, ◌-◌, ◌<◌, ◌≤◌, Bool, true, false, List, [], ◌∷◌, ◌++◌, length, drop, get_or, set, replicate, inl, inr, ◌⊎◌, refl, sym, ap, ◌∙◌, subst, arith, zero, suc, nat_eq, eq-eqb, zero-add, nat_lt, append_assoc, if◌then◌else◌}
use Rattle.std.specs.List.{All}
use Rattle.std.proofs.lemmas.List.{length-set, get_or-set_same, get_or-set_other, drop_all, length-replicate, get_or-replicate}
use Rattle.std.proofs.lemmas.Bool.{ltb-true, lt-ltb, cases_lt, cases_eq, ne_eqb}
use Rattle.std.proofs.lemmas.Grind.{get_or_default_zero}
use Rattle.c_graph.specs.declared.graph.EdgeId.{EdgeId}
use Rattle.c_graph.specs.declared.graph.Node.{Node}
use Rattle.c_graph.specs.declared.graph.Edge.{Edge}
use Rattle.c_graph.specs.declared.graph.Node.TheVariants.{Plain}
use Rattle.bv_term.specs.WellFormed.{Table}
use Rattle.c_graph.specs.Shape.{outs_from, EdgeFits}
use Rattle.std.proofs.lemmas.Option.{slice_get_within}
use Rattle.c_graph.specs.Chains.{AreChains, Linked, Rises, chain, source_of}

-- a chain ends past the end
pub chain_past : (next : List ℕ) (n e : ℕ) → length next ≤ e → chain next n e ≡ []
chain_past next zero e le = refl
chain_past next (suc n) e le = step (nat_lt e (length next)) refl
  where
    step : (b : Bool) → nat_lt e (length next) ≡ b → (if b then record { 0 = e } ∷ chain next n (get_or next e 0) else []) ≡ []
    step true is = absurd (omega (arith, le, ltb-true e (length next) is))
    step false is = refl

pub chain_more : (next : List ℕ) (n e : ℕ) → e < length next → chain next (suc n) e ≡ record { 0 = e } ∷ chain next n (get_or next e 0)
chain_more next n e lt = rw (lt-ltb e (length next) lt) refl

-- two numbers of steps that are both enough
pub chain_enough : (next : List ℕ) (n m e : ℕ) → Rises next e → length next ≤ e + n → length next ≤ e + m → chain next n e ≡ chain next m e
chain_enough next zero m e up ln lm = sym (chain_past next m e (omega (arith, ln)))
chain_enough next (suc n) zero e up ln lm = chain_past next (suc n) e (omega (arith, lm))
chain_enough next (suc n) (suc m) e up ln lm = elim (cases_lt e (length next)) [
  | inl lt ↦
      let on : e < get_or next e 0 = up e (omega arith) lt in
      let ih : chain next n (get_or next e 0) ≡ chain next m (get_or next e 0) = chain_enough next n m (get_or next e 0) (λ j le below. up j (omega (arith, le, on)) below) (omega (arith, ln, on)) (omega (arith, lm, on)) in
      chain_more next n e lt ∙ ap (λ (xs : List EdgeId). record { 0 = e } ∷ xs) ih ∙ sym (chain_more next m e lt)
  | inr le ↦ chain_past next (suc n) e le ∙ sym (chain_past next (suc m) e le)
]

-- a chain does not see what stands before it
pub chain_set : (next : List ℕ) (n e j x : ℕ) → j < e → Rises next e → chain (set next j x) n e ≡ chain next n e
chain_set next zero e j x lt up = refl
chain_set next (suc n) e j x lt up = elim (cases_lt e (length next)) [
  | inl below ↦
      let on : e < get_or next e 0 = up e (omega arith) below in
      let same : get_or (set next j x) e 0 ≡ get_or next e 0 = get_or-set_other next j e x 0 (λ eq. omega (arith, lt, eq)) in
      let ih : chain (set next j x) n (get_or next e 0) ≡ chain next n (get_or next e 0) = chain_set next n (get_or next e 0) j x (omega (arith, lt, on)) (λ i le b. up i (omega (arith, le, on)) b) in
      chain_more (set next j x) n e (omega (arith, below, length-set next j x))
      ∙ ap (λ (k : ℕ). record { 0 = e } ∷ chain (set next j x) n k) same
      ∙ ap (λ (xs : List EdgeId). record { 0 = e } ∷ xs) ih
      ∙ sym (chain_more next n e below)
  | inr le ↦ chain_past (set next j x) (suc n) e (omega (arith, le, length-set next j x)) ∙ sym (chain_past next (suc n) e le)
]

-- the edges from a node among those from a number on: the first of them is one or is not
outs_step : (n k v : ℕ) (edges : List Edge) → k < length edges
    → outs_from (n + k) (drop k edges) (record { 0 = v }) ≡ (if nat_eq (source_of edges k) v then record { 0 = n + k } ∷ outs_from (n + (k + 1)) (drop (k + 1) edges) (record { 0 = v }) else outs_from (n + (k + 1)) (drop (k + 1) edges) (record { 0 = v }))
outs_step n k v [] lt = absurd (omega (arith, lt))
outs_step n zero v (e ∷ edges) lt =
    let z : n + 0 ≡ n = omega arith in
    let o : n + (0 + 1) ≡ n + 1 = omega arith in
    rw (z, o) refl
outs_step n (suc k) v (e ∷ edges) lt =
    let z : n + suc k ≡ (n + 1) + k = omega arith in
    let o : n + (suc k + 1) ≡ (n + 1) + (k + 1) = omega arith in
    let d : suc k + 1 ≡ suc (k + 1) = omega arith in
    rw (o, d, z) (outs_step (n + 1) k v edges (omega (arith, lt)))

outs_here : (k v : ℕ) (edges : List Edge) → k < length edges → nat_eq (source_of edges k) v ≡ true
    → outs_from k (drop k edges) (record { 0 = v }) ≡ record { 0 = k } ∷ outs_from (k + 1) (drop (k + 1) edges) (record { 0 = v })
outs_here k v edges lt is = simp zero-add at (outs_step 0 k v edges lt) ∙ rw is refl

outs_away : (k v : ℕ) (edges : List Edge) → k < length edges → nat_eq (source_of edges k) v ≡ false
    → outs_from k (drop k edges) (record { 0 = v }) ≡ outs_from (k + 1) (drop (k + 1) edges) (record { 0 = v })
outs_away k v edges lt is = simp zero-add at (outs_step 0 k v edges lt) ∙ rw is refl

-- no edge leads from a node that is not there
pub outs_beyond : (nodes n v : ℕ) (edges : List Edge) → ((k : ℕ) → k < length edges → source_of edges k < nodes) → nodes ≤ v → outs_from n edges (record { 0 = v }) ≡ []
outs_beyond nodes n v [] h le = refl
outs_beyond nodes n v (e ∷ edges) h le =
    let lt : e.from.0 < nodes = h 0 (omega arith) in
    let not : nat_eq e.from.0 v ≡ false = ne_eqb e.from.0 v (λ is. omega (arith, lt, le, is)) in
    rw not (outs_beyond nodes (n + 1) v edges (λ k below. h (suc k) (omega (arith, below))) le)

found : (nodes : ℕ) (edges : List Edge) (k : ℕ) (first next : List ℕ) → k < length edges → source_of edges k < nodes
    → Linked nodes edges (k + 1) first next → (v : ℕ) → v < nodes → (v ≡ source_of edges k) ⊎ (v ≢ source_of edges k)
    → chain (set next k (get_or first (source_of edges k) 0)) (length edges) (get_or (set first (source_of edges k) k) v 0) ≡ outs_from k (drop k edges) (record { 0 = v })
found nodes edges k first next lt from h v lv (inl is) =
    let s : ℕ = source_of edges k in
    let f : ℕ = get_or first s 0 in
    let after : k + 1 ≤ f = h.behind s from in
    let up : Rises next f = λ j le b. h.rises j (omega (arith, le, after)) b in
    let at : get_or (set first s k) v 0 ≡ k = (let P : ℕ → Type 0 = λ j. get_or (set first s k) j 0 ≡ k in subst P (sym is) (get_or-set_same first s k 0 (omega (arith, from, h.firsts)))) in
    let there : get_or (set next k f) k 0 ≡ f = get_or-set_same next k f 0 (omega (arith, lt, h.nexts)) in
    let less : length edges ≡ suc (length edges - 1) = omega (arith, lt) in
    let tail : chain (set next k f) (length edges - 1) f ≡ outs_from (k + 1) (drop (k + 1) edges) (record { 0 = s }) =
    chain_set next (length edges - 1) f k f (omega (arith, after)) up
    ∙ chain_enough next (length edges - 1) (length edges) f up (omega (arith, after, h.nexts, lt)) (omega (arith, h.nexts))
    ∙ h.finds s from in
    ap (λ (e : ℕ). chain (set next k f) (length edges) e) at
    ∙ ap (λ (n : ℕ). chain (set next k f) n k) less
    ∙ chain_more (set next k f) (length edges - 1) k (omega (arith, lt, h.nexts, length-set next k f))
    ∙ ap (λ (e : ℕ). record { 0 = k } ∷ chain (set next k f) (length edges - 1) e) there
    ∙ ap (λ (xs : List EdgeId). record { 0 = k } ∷ xs) tail
    ∙ ap (λ (j : ℕ). record { 0 = k } ∷ outs_from (k + 1) (drop (k + 1) edges) (record { 0 = j })) (sym is)
    ∙ sym (outs_here k v edges lt (eq-eqb s v (sym is)))
found nodes edges k first next lt from h v lv (inr ne) =
    let s : ℕ = source_of edges k in
    let f : ℕ = get_or first s 0 in
    let at : get_or (set first s k) v 0 ≡ get_or first v 0 = get_or-set_other first s v k 0 ne in
    let after : k + 1 ≤ get_or first v 0 = h.behind v lv in
    ap (λ (e : ℕ). chain (set next k f) (length edges) e) at
    ∙ chain_set next (length edges) (get_or first v 0) k f (omega (arith, after)) (λ j le b. h.rises j (omega (arith, le, after)) b)
    ∙ h.finds v lv
    ∙ sym (outs_away k v edges lt (ne_eqb s v (λ e. ne (sym e))))

-- one more edge is linked
pub linked_more : (nodes : ℕ) (edges : List Edge) (k : ℕ) (first next : List ℕ) → k < length edges → source_of edges k < nodes
    → Linked nodes edges (k + 1) first next
    → Linked nodes edges k (set first (source_of edges k) k) (set next k (get_or first (source_of edges k) 0))
linked_more nodes edges k first next lt from h =
    let s : ℕ = source_of edges k in
    let f : ℕ = get_or first s 0 in
    let after : k + 1 ≤ f = h.behind s from in
    record {
      firsts = length-set first s k ∙ h.firsts;
      nexts = length-set next k f ∙ h.nexts;
      rises = λ e le below. elim (cases_eq e k) [
        | inl is ↦ (let at : get_or (set next k f) k 0 ≡ f = get_or-set_same next k f 0 (omega (arith, lt, h.nexts)) in let P : ℕ → Type 0 = λ j. j < get_or (set next k f) j 0 in subst P (sym is) (omega (arith, at, after)))
        | inr ne ↦ (let at : get_or (set next k f) e 0 ≡ get_or next e 0 = get_or-set_other next k e f 0 ne in let up : e < get_or next e 0 = h.rises e (omega (arith, le, ne)) (omega (arith, below, length-set next k f)) in omega (arith, at, up))
      ];
      behind = λ v lv. elim (cases_eq v s) [
        | inl is ↦ (let at : get_or (set first s k) s 0 ≡ k = get_or-set_same first s k 0 (omega (arith, from, h.firsts)) in let P : ℕ → Type 0 = λ j. k ≤ get_or (set first s k) j 0 in subst P (sym is) (omega (arith, at)))
        | inr ne ↦ (let at : get_or (set first s k) v 0 ≡ get_or first v 0 = get_or-set_other first s v k 0 ne in omega (arith, at, h.behind v lv))
      ];
      finds = λ v lv. found nodes edges k first next lt from h v lv (cases_eq v s);
    }

-- nothing is linked at the start
pub linked_none : (nodes none : ℕ) (edges : List Edge) (first next : List ℕ) → none ≡ length edges → first ≡ replicate nodes none → next ≡ replicate (length edges) none
    → Linked nodes edges (length edges) first next
linked_none nodes none edges first next is fs ns =
    let ln : length next ≡ length edges = ap length ns ∙ length-replicate (length edges) none in
    let at : (v : ℕ) → v < nodes → get_or first v 0 ≡ none = λ v lv. ap (λ (xs : List ℕ). get_or xs v 0) fs ∙ get_or-replicate nodes v none 0 lv in
    record {
      firsts = ap length fs ∙ length-replicate nodes none;
      nexts = ln;
      rises = λ e le below. absurd (omega (arith, le, below, ln));
      behind = λ v lv. omega (arith, at v lv, is);
      finds = λ v lv.
          chain_past next (length edges) (get_or first v 0) (omega (arith, at v lv, is, ln))
          ∙ sym (ap (λ (es : List Edge). outs_from (length edges) es (record { 0 = v })) (drop_all (length edges) edges (omega arith)));
    }

pub source_at : (edges : List Edge) (k : ℕ) (d : Edge) → k < length edges → (get_or edges k d).from.0 ≡ source_of edges k
source_at [] k d lt = absurd (omega arith)
source_at (e ∷ es) zero d lt = refl
source_at (e ∷ es) (suc k) d lt = source_at es k d (omega arith)

-- the edges of a graph lead from its nodes
pub flow_sources : (nodes : List Node) (table : Table) (edges : List Edge) → All (EdgeFits nodes table) edges → (k : ℕ) → k < length edges → source_of edges k < length nodes
flow_sources nodes table [] all k lt = absurd (omega arith)
flow_sources nodes table (e ∷ es) all zero lt = slice_get_within nodes e.from.0 Plain (all 0 e (omega arith)).from
flow_sources nodes table (e ∷ es) all (suc k) lt = flow_sources nodes table es (λ j d below. all (suc j) d (omega (arith, below))) k (omega arith)

-- where no edge leads from, or a graph's chain
pub chains_of : (nodes : List Node) (edges : List Edge) (first next : List ℕ) → Linked (length nodes) edges 0 first next → AreChains nodes edges first next
chains_of nodes edges first next h = record { firsts = h.firsts; nexts = h.nexts; finds = h.finds }

-- one edge more is followed
pub follow_more : (next : List ℕ) (acc new whole : List EdgeId) (n e : ℕ) → 0 < n → e < length next → new ≡ acc ++ record { 0 = e } ∷ []
    → acc ++ chain next n e ≡ whole → new ++ chain next (n - 1) (get_or next e 0) ≡ whole
follow_more next acc new whole n e pos lt is h =
    let s : n ≡ suc (n - 1) = omega (arith, pos) in
    let rest : List EdgeId = chain next (n - 1) (get_or next e 0) in
    ap (λ (xs : List EdgeId). xs ++ chain next (n - 1) (get_or next e 0)) is
    ∙ append_assoc acc (record { 0 = e } ∷ []) (chain next (n - 1) (get_or next e 0))
    ∙ ap (λ (xs : List EdgeId). acc ++ xs) (sym (chain_more next (n - 1) e lt))
    ∙ ap (λ (m : ℕ). acc ++ chain next m e) (sym s)
    ∙ h

-- one edge more is linked, as the loop goes down
pub linked_step : (nodes : ℕ) (edges : List Edge) (n from f : ℕ) (first next : List ℕ) → 0 < n → n ≤ length edges
    → from ≡ source_of edges (n - 1) → f ≡ get_or first from f → source_of edges (n - 1) < nodes → Linked nodes edges n first next
    → Linked nodes edges (n - 1) (set first from (n - 1)) (set next (n - 1) f)
linked_step nodes edges n from f first next pos le is at lt h =
    let s : n ≡ (n - 1) + 1 = omega (arith, pos) in
    let Q : ℕ → Type 0 = λ m. Linked nodes edges m first next in
    let old : Linked nodes edges ((n - 1) + 1) first next = subst Q s h in
    let there : from < length first = omega (arith, lt, is, h.firsts) in
    let here : f ≡ get_or first (source_of edges (n - 1)) 0 = at ∙ get_or_default_zero first from f there ∙ ap (λ (j : ℕ). get_or first j 0) is in
    let P : ℕ → Type 0 = λ j. Linked nodes edges (n - 1) (set first j (n - 1)) (set next (n - 1) f) in
    let R : ℕ → Type 0 = λ j. Linked nodes edges (n - 1) (set first (source_of edges (n - 1)) (n - 1)) (set next (n - 1) j) in
    subst P (sym is) (subst R (sym here) (linked_more nodes edges (n - 1) first next (omega (arith, pos, le)) lt old))
