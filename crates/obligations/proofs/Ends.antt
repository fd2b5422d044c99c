-- The ends of edges, and a step of its own behind another.
use Rattle.std.proofs.Common.{◌≡◌, ℕ, ◌<◌, length, List, [], ◌∷◌, get_or, arith, ap, sym, ◌∙◌, subst, suc, zero, Some, slice_get}
use Rattle.std.proofs.lemmas.Bool.{false≢true}
use Rattle.bv_term.specs.WellFormed.{Table}
use Rattle.bit_blast.specs.Held.{Held, IsOver, renew_of}
use Rattle.c_graph.specs.declared.graph.Node.{Node}
use Rattle.c_graph.specs.declared.graph.Edge.{Edge}
use Rattle.c_graph.specs.Shape.{Flow, IsFlow, EdgeFits}
use Rattle.obligations.specs.Stated.{from_of, to_of}

pub from_is : (edges : List Edge) (k : ℕ) (e : Edge) → k < length edges → e ≡ get_or edges k e → e.from ≡ from_of edges k
from_is [] k e lt h = absurd (omega (arith, lt))
from_is (x ∷ xs) zero e lt h = ap (λ (t : Edge). t.from) h
from_is (x ∷ xs) (suc k) e lt h = from_is xs k e (omega (arith, lt)) h

pub to_is : (edges : List Edge) (k : ℕ) (e : Edge) → k < length edges → e ≡ get_or edges k e → e.to ≡ to_of edges k
to_is [] k e lt h = absurd (omega (arith, lt))
to_is (x ∷ xs) zero e lt h = ap (λ (t : Edge). t.to) h
to_is (x ∷ xs) (suc k) e lt h = to_is xs k e (omega (arith, lt)) h

got_there : (nodes : List Node) (k : ℕ) (x : Node) → slice_get nodes k ≡ Some x → k < length nodes
got_there [] k x e = absurd cc
got_there (y ∷ ys) zero x e = omega arith
got_there (y ∷ ys) (suc k) x e = let h = got_there ys k x e in omega (arith, h)

edge_fits : (g : Flow) (k : ℕ) (e : Edge) → IsFlow g → k < length g.edges → e ≡ get_or g.edges k e → EdgeFits g.nodes g.terms e
edge_fits g k e flow lt h = subst (λ (t : Edge). EdgeFits g.nodes g.terms t) (sym h) (flow.edges k e lt)

pub from_there : (g : Flow) (k : ℕ) (e : Edge) → IsFlow g → k < length g.edges → e ≡ get_or g.edges k e → e.from.0 < length g.nodes
from_there g k e flow lt h = got_there g.nodes e.from.0 _ (edge_fits g k e flow lt h).from

pub to_there : (g : Flow) (k : ℕ) (e : Edge) → IsFlow g → k < length g.edges → e ≡ get_or g.edges k e → e.to.0 < length g.nodes
to_there g k e flow lt h = (edge_fits g k e flow lt h).to

pub renewed_over : (before after : Table) (h : Held) → before.cells ≡ after.cells → IsOver before h → IsOver after (renew_of h)
renewed_over before after h e o = record { cells = o.cells ∙ e; done = λ k d. absurd (false≢true d) }
