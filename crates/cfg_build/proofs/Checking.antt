-- Tests of instructions, in a table that grew.
use Rattle.std.proofs.Common.{◌≡◌, ℕ, List, [], ◌∷◌, ◌++◌, refl, ap, ◌∙◌, subst, Result, Ok, Err}
use Rattle.std.specs.Prelude.{IfOk}
use Rattle.lv_base.specs.declared.fail.Memory.{Memory}
use Rattle.bv_term.specs.declared.term.TermId.{TermId}
use Rattle.bv_term.specs.WellFormed.{Table}
use Rattle.c_graph.specs.declared.graph.NodeId.{NodeId}
use Rattle.c_graph.specs.declared.graph.Node.{Node}
use Rattle.c_graph.specs.declared.graph.Node.TheVariants.{Plain}
use Rattle.c_graph.specs.declared.graph.Edge.{Edge}
use Rattle.c_graph.specs.declared.graph.Operation.{Operation}
use Rattle.slot_code.specs.declared.flat.Instruction.{Instruction}
use Rattle.c_terms.specs.declared.words.Words.{Words}
use Rattle.c_terms.specs.declared.failing.Fails.{Fails}
use Rattle.c_terms.specs.declared.failing.Tests.{Tests}
use Rattle.c_terms.specs.declared.failing.Tests.TheVariants.{None, One, Two}
use Rattle.c_terms.specs.Operations.{Failure}
use Rattle.c_terms.specs.Shown.{Shows, Grows, IsFails, AreFails}
use Rattle.c_terms.proofs.Putting.{grows-twice, later}
use Rattle.code_moves.specs.Setting.{Setting}
use Rattle.code_moves.specs.Values.{failures_of}
use Rattle.code_moves.specs.Deeds.{AreTests}
use Rattle.cfg_build.specs.declared.draft.Draft.{Draft}
use Rattle.cfg_build.specs.Steps.{Adds, Behind, Built, Checked, Goes, node_id, next_of, edge}
use Rattle.cfg_build.proofs.Adding.{adds-twice, edges-equal}

fail-later : (a b : Words) (s : List ℕ) (f : Fails) (x : Failure) → Grows a b → IsFails a.terms s f x → IsFails b.terms s f x
fail-later a b s f x g h = record { kind = h.kind; shows = later a b s f.when 1 x.when g h.shows }

-- the tests stay as they are
pub fails-later : (a b : Words) (s : List ℕ) (r : Tests) (xs : List Failure) → Grows a b → AreFails a.terms s r xs → AreFails b.terms s r xs
fails-later a b s None [] g h = tt
fails-later a b s None (x ∷ xs) g h = absurd h
fails-later a b s (One f) [] g h = absurd h
fails-later a b s (One f) (x ∷ []) g h = fail-later a b s f x g h
fails-later a b s (One f) (x ∷ y ∷ zs) g h = absurd h
fails-later a b s (Two f k) [] g h = absurd h
fails-later a b s (Two f k) (x ∷ []) g h = absurd h
fails-later a b s (Two f k) (x ∷ y ∷ []) g h = (fail-later a b s f x g h.0, fail-later a b s k y g h.1)
fails-later a b s (Two f k) (x ∷ y ∷ z ∷ zs) g h = absurd h

-- ---- What the tests' terms tell

abbrev pub first_when : List Failure → ℕ
first_when [] = 0
first_when (x ∷ xs) = x.when

abbrev pub second_when : List Failure → ℕ
second_when [] = 0
second_when (x ∷ xs) = first_when xs

pub one-tells : (T : Table) (s : List ℕ) (f : Fails) (xs : List Failure) → AreFails T s (One f) xs → Shows T s f.when 1 (first_when xs)
one-tells T s f [] h = absurd h
one-tells T s f (x ∷ []) h = h.shows
one-tells T s f (x ∷ y ∷ zs) h = absurd h

pub two-tells : (T : Table) (s : List ℕ) (f k : Fails) (xs : List Failure) → AreFails T s (Two f k) xs → Shows T s f.when 1 (first_when xs) × Shows T s k.when 1 (second_when xs)
two-tells T s f k [] h = absurd h
two-tells T s f k (x ∷ []) h = absurd h
two-tells T s f k (x ∷ y ∷ []) h = (h.0.shows, h.1.shows)
two-tells T s f k (x ∷ y ∷ z ∷ zs) h = absurd h

pub tests-are : (T : Table) (s : List ℕ) (r t : Tests) (xs : List Failure) → r ≡ t → AreFails T s r xs → AreFails T s t xs
tests-are T s r t xs e h = subst (λ (z : Tests). AreFails T s z xs) e h

-- ---- An instruction with its checks

-- after a table grew
pub built-after : (r : Result (Unit {0}) Memory) (a b c : Words) (d e : Draft) (Form : ℕ → List Node → List Edge → Type 0)
    → Grows a b → IfOk r (λ u. Grows b c × Built d e Form) → IfOk r (λ u. Grows a c × Built d e Form)
built-after (Err z) a b c d e Form k h = tt
built-after (Ok u) a b c d e Form k h = (grows-twice a b c k h.0, h.1)

pub checked-behind : (r : Result (Unit {0}) Memory) (g : Setting) (a b c : Words) (d e : Draft) (x : Instruction) (next : NodeId) (tests : Tests)
    → Grows a b → AreTests b.terms tests (λ s. failures_of g s x) → IfOk r (λ u. Grows b c × Built d e (Behind g c.terms x next tests)) → IfOk r (λ u. Grows a c × Built d e (Checked g c.terms x next))
checked-behind (Err z) g a b c d e x next tests k t h = tt
checked-behind (Ok u) g a b c d e x next tests k t h = (
  grows-twice a b c k h.0,
  record {
    nodes = h.1.nodes;
    edges = h.1.edges;
    adds = h.1.adds;
    form = record { tests = tests; fails = λ s. fails-later b c s tests (failures_of g s x) h.0 (t s); behind = h.1.form };
  },
)

pub unchecked : (r : Result (Unit {0}) Memory) (g : Setting) (b c : Words) (d e f : Draft) (x : Instruction) (from next : NodeId) (t : TermId) (first : List Operation)
    → from ≡ node_id (next_of d) → first ≡ [] → Adds d e (Plain ∷ []) [] → IfOk r (λ u. Grows b c × Goes g c.terms e f x from next first) → IfOk r (λ u. Grows b c × Built d f (Behind g c.terms x next None))
unchecked (Err z) g b c d e f x from next t first p q h k = tt
unchecked (Ok u) g b c d e f x from next t first p q h k = (
  k.0,
  record {
    nodes = Plain ∷ [];
    edges = edge (node_id (next_of d)) next k.1.ops ∷ [];
    adds = edges-equal d f _ _ _ (ap (λ (z : NodeId). edge z next (first ++ k.1.ops) ∷ []) p ∙ ap (λ (z : List Operation). edge (node_id (next_of d)) next (z ++ k.1.ops) ∷ []) q) (adds-twice d e f _ _ _ _ h k.1.adds);
    form = record { passed = t; last = t; ops = k.1.ops; passes = tt; does = k.1.does; nodes_are = refl; edges_are = refl };
  },
)
