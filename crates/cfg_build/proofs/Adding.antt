-- Nodes and edges that are added one after the other.
use Rattle.std.proofs.Common.{◌≡◌, ℕ, ◌+◌, List, [], ◌∷◌, ◌++◌, length, sym, ap, ◌∙◌, subst, arith, append_assoc, length-append}
use Rattle.bv_term.specs.declared.term.TermId.{TermId}
use Rattle.bv_term.specs.Numbers.{complement_in}
use Rattle.lv_base.specs.declared.fault.ErrorKind.{ErrorKind}
use Rattle.c_graph.specs.declared.graph.NodeId.{NodeId}
use Rattle.c_graph.specs.declared.graph.Node.{Node}
use Rattle.c_graph.specs.declared.graph.Node.TheVariants.{Plain, Error}
use Rattle.c_graph.specs.declared.graph.Operation.{Operation}
use Rattle.c_graph.specs.declared.graph.Operation.TheVariants.{Assume}
use Rattle.c_graph.specs.declared.graph.Edge.{Edge}
use Rattle.c_terms.specs.declared.words.Words.{Words}
use Rattle.c_terms.specs.Shown.{Shows, Grows}
use Rattle.c_terms.proofs.Putting.{later}
use Rattle.code_moves.specs.Deeds.{Tells}
use Rattle.cfg_build.specs.declared.draft.Draft.{Draft}
use Rattle.cfg_build.specs.Steps.{Adds, IsTurned, edge, node_id, next_of}

pub adds-twice : (a b c : Draft) (ns ms : List Node) (es fs : List Edge) → Adds a b ns es → Adds b c ms fs → Adds a c (ns ++ ms) (es ++ fs)
adds-twice a b c ns ms es fs h k = record {
  nodes_are = k.nodes_are ∙ ap (λ (xs : List Node). xs ++ ms) h.nodes_are ∙ append_assoc a.nodes.items ns ms;
  edges_are = k.edges_are ∙ ap (λ (xs : List Edge). xs ++ fs) h.edges_are ∙ append_assoc a.edges.items es fs;
}

pub edges-equal : (a b : Draft) (ns : List Node) (es fs : List Edge) → es ≡ fs → Adds a b ns es → Adds a b ns fs
edges-equal a b ns es fs e h = subst (λ (xs : List Edge). Adds a b ns xs) e h

nodes-equal : (a b : Draft) (ns ms : List Node) (es : List Edge) → ns ≡ ms → Adds a b ns es → Adds a b ms es
nodes-equal a b ns ms es e h = subst (λ (xs : List Node). Adds a b xs es) e h

-- ---- Numbers

pub next-more : (a b : Draft) (ns : List Node) (es : List Edge) → Adds a b ns es → next_of b ≡ next_of a + length ns
next-more a b ns es h = ap length h.nodes_are ∙ length-append a.nodes.items ns

-- ---- Checks

-- a complement of what a term has in each store
pub turned : (a b : Words) (t test : TermId) (f : List ℕ → ℕ) → Grows a b → Tells a.terms test 1 f → Tells b.terms t 1 (λ s. complement_in 1 (f s)) → IsTurned b.terms t test
turned a b t test f g h k = λ s. subst (λ (n : ℕ). Shows b.terms s t 1 (complement_in 1 n)) (sym (later a b s test 1 (f s) g (h s)).told) (k s)

pub turned-later : (a b : Words) (t test : TermId) (f : List ℕ → ℕ) → Grows a b → Tells a.terms test 1 f → IsTurned a.terms t test → IsTurned b.terms t test
turned-later a b t test f g h k =
    λ s. subst (λ (n : ℕ). Shows b.terms s t 1 (complement_in 1 n)) ((h s).told ∙ sym (later a b s test 1 (f s) g (h s)).told) (later a b s t 1 _ g (k s))

-- the edge to a check's error
abbrev fails_to : NodeId → ℕ → TermId → Edge
fails_to from n when = edge from (node_id n) (Assume when ∷ [])

-- one check, and what follows
pub once : (a b c d : Draft) (from next : NodeId) (when passed : TermId) (kind : ErrorKind) (at offset : ℕ) (first ops : List Operation)
    → from ≡ node_id (next_of a) → at ≡ offset → first ≡ Assume passed ∷ []
    → Adds a b (Plain ∷ []) [] → Adds b c (Error kind at ∷ []) (fails_to from (next_of b) when ∷ []) → Adds c d [] (edge from next (first ++ ops) ∷ [])
    → Adds a d (Plain ∷ Error kind offset ∷ []) (fails_to (node_id (next_of a)) (next_of a + 1) when ∷ edge (node_id (next_of a)) next (Assume passed ∷ ops) ∷ [])
once a b c d from next when passed kind at offset first ops e o p h k l =
    nodes-equal a d _ _ _ (ap (λ (z : ℕ). Plain ∷ Error kind z ∷ []) o)
    (edges-equal a d _ _ _ (ap (λ (z : NodeId). fails_to z (next_of b) when ∷ edge z next (first ++ ops) ∷ []) e
    ∙ ap (λ (z : ℕ). fails_to (node_id (next_of a)) z when ∷ edge (node_id (next_of a)) next (first ++ ops) ∷ []) (next-more a b _ _ h)
    ∙ ap (λ (z : List Operation). fails_to (node_id (next_of a)) (next_of a + 1) when ∷ edge (node_id (next_of a)) next (z ++ ops) ∷ []) p)
    (adds-twice a c d _ _ _ _ (adds-twice a b c _ _ _ _ h k) l))

-- two checks: the edges by where the second begins, and by the number of its error
abbrev two_edges : NodeId → ℕ → NodeId → ℕ → NodeId → TermId → TermId → TermId → List Operation → List Edge
two_edges from n between m next one two passed ops =
    fails_to from n one ∷ edge from between (Assume passed ∷ []) ∷ fails_to between m two ∷ edge between next ops ∷ []

pub twice : (a b c d e f g : Draft) (from between next : NodeId) (one two passed last : TermId) (kind other : ErrorKind) (at offset : ℕ) (first ops : List Operation)
    → from ≡ node_id (next_of a) → between ≡ node_id (next_of c) → at ≡ offset → first ≡ Assume last ∷ []
    → Adds a b (Plain ∷ []) [] → Adds b c (Error kind at ∷ []) (fails_to from (next_of b) one ∷ []) → Adds c d (Plain ∷ []) [] → Adds d e [] (edge from between (Assume passed ∷ []) ∷ [])
    → Adds e f (Error other at ∷ []) (fails_to between (next_of e) two ∷ []) → Adds f g [] (edge between next (first ++ ops) ∷ [])
    → Adds a g (Plain ∷ Error kind offset ∷ Plain ∷ Error other offset ∷ [])
    (two_edges (node_id (next_of a)) (next_of a + 1) (node_id (next_of a + 2)) (next_of a + 3) next one two passed (Assume last ∷ ops))
twice a b c d e f g from between next one two passed last kind other at offset first ops p q o r h i j k l m =
    let n = next_of a in
    let nb : next_of b ≡ n + 1 = next-more a b _ _ h in
    let nc : next_of c ≡ n + 2 = let s : next_of c ≡ next_of b + 1 = next-more b c _ _ i in omega (arith, s, nb) in
    let ne : next_of e ≡ n + 3 = let s : next_of d ≡ next_of c + 1 = next-more c d _ _ j in let t : next_of e ≡ next_of d + 0 = next-more d e _ _ k in omega (arith, s, t, nc) in
    nodes-equal a g _ _ _ (ap (λ (z : ℕ). Plain ∷ Error kind z ∷ Plain ∷ Error other z ∷ []) o)
    (edges-equal a g _ _ _ (ap (λ (z : NodeId). two_edges z (next_of b) between (next_of e) next one two passed (first ++ ops)) p
    ∙ ap (λ (z : ℕ). two_edges (node_id n) z between (next_of e) next one two passed (first ++ ops)) nb
    ∙ ap (λ (z : NodeId). two_edges (node_id n) (n + 1) z (next_of e) next one two passed (first ++ ops)) q
    ∙ ap (λ (z : ℕ). two_edges (node_id n) (n + 1) (node_id z) (next_of e) next one two passed (first ++ ops)) nc
    ∙ ap (λ (z : ℕ). two_edges (node_id n) (n + 1) (node_id (n + 2)) z next one two passed (first ++ ops)) ne
    ∙ ap (λ (z : List Operation). two_edges (node_id n) (n + 1) (node_id (n + 2)) (n + 3) next one two passed (z ++ ops)) r)
    (adds-twice a f g _ _ _ _ (adds-twice a e f _ _ _ _ (adds-twice a d e _ _ _ _ (adds-twice a c d _ _ _ _ (adds-twice a b c _ _ _ _ h i) j) k) l) m))
