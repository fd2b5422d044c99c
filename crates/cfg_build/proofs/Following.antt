-- What stands for places, in a table that grew, and one behind the other.
use Rattle.std.proofs.Common.{◌≡◌, ℕ, zero, suc, ◌+◌, ◌-◌, Bool, List, [], ◌++◌, length, refl, sym, subst, Result, Ok, Err}
use Rattle.std.specs.Prelude.{IfOk, IsTrue}
use Rattle.std.proofs.lemmas.List.{append-nil}
use Rattle.lv_base.specs.declared.fail.Memory.{Memory}
use Rattle.bv_term.specs.declared.term.TermId.{TermId}
use Rattle.bv_term.specs.WellFormed.{Table}
use Rattle.c_graph.specs.declared.graph.NodeId.{NodeId}
use Rattle.c_graph.specs.declared.graph.Node.{Node}
use Rattle.c_graph.specs.declared.graph.Edge.{Edge}
use Rattle.slot_code.specs.declared.flat.Instruction.{Instruction}
use Rattle.slot_code.specs.declared.flat.Instruction.TheVariants as i
use Rattle.c_terms.specs.declared.words.Words.{Words}
use Rattle.c_terms.specs.declared.failing.Tests.{Tests}
use Rattle.c_terms.specs.declared.failing.Tests.TheVariants.{None, One, Two}
use Rattle.c_terms.specs.Shown.{Grows}
use Rattle.c_terms.proofs.Putting.{grows-twice}
use Rattle.code_moves.specs.Setting.{Setting}
use Rattle.code_moves.specs.Values.{failures_of}
use Rattle.code_moves.specs.Deeds.{AreTests}
use Rattle.code_moves.proofs.Doing.{tells-later, deeds-later}
use Rattle.cfg_build.specs.declared.draft.Draft.{Draft}
use Rattle.cfg_build.specs.Steps.{Built, Fork, Passes, Checked, next_of}
use Rattle.cfg_build.specs.Follows.{Plan, Follows, Joined, StandsAt, FirstFollow, Exit, PlacesFollow}
use Rattle.cfg_build.proofs.Adding.{adds-twice, next-more, turned-later}
use Rattle.cfg_build.proofs.Checking.{fails-later, first_when, second_when, one-tells, two-tells}

-- ---- In a table that grew

pub fork-later : (a b : Words) (f : List ℕ → ℕ) (to other : NodeId) (n : ℕ) (ns : List Node) (es : List Edge) → Grows a b → Fork a.terms f to other n ns es → Fork b.terms f to other n ns es
fork-later a b f to other n ns es g h = record {
  test = h.test;
  turned = h.turned;
  tells = tells-later a b h.test 1 f g h.tells;
  turns = tells-later a b h.turned 1 _ g h.turns;
  nodes_are = h.nodes_are;
  edges_are = h.edges_are;
}

passes-later : (a b : Words) (s : Setting) (x : Instruction) (r : Tests) (passed last : TermId) → Grows a b → AreTests a.terms r (λ store. failures_of s store x) → Passes a.terms r passed last → Passes b.terms r passed last
passes-later a b s x None passed last g t h = tt
passes-later a b s x (One f) passed last g t h =
    turned-later a b passed f.when (λ store. first_when (failures_of s store x)) g (λ store. one-tells a.terms store f (failures_of s store x) (t store)) h
passes-later a b s x (Two f k) passed last g t h = (
  turned-later a b passed f.when (λ store. first_when (failures_of s store x)) g (λ store. (two-tells a.terms store f k (failures_of s store x) (t store)).0) h.0,
  turned-later a b last k.when (λ store. second_when (failures_of s store x)) g (λ store. (two-tells a.terms store f k (failures_of s store x) (t store)).1) h.1,
)

pub checked-later : (a b : Words) (s : Setting) (x : Instruction) (next : NodeId) (n : ℕ) (ns : List Node) (es : List Edge) → Grows a b → Checked s a.terms x next n ns es → Checked s b.terms x next n ns es
checked-later a b s x next n ns es g h = record {
  tests = h.tests;
  fails = λ store. fails-later a b store h.tests (failures_of s store x) g (h.fails store);
  behind = record {
    passed = h.behind.passed;
    last = h.behind.last;
    ops = h.behind.ops;
    passes = passes-later a b s x h.tests h.behind.passed h.behind.last g h.fails h.behind.passes;
    does = deeds-later a b h.behind.ops _ g h.behind.does;
    nodes_are = h.behind.nodes_are;
    edges_are = h.behind.edges_are;
  };
}

pub follows-later : (a b : Words) (p : Plan) (s : Setting) (place : ℕ) (x : Instruction) (n : ℕ) (ns : List Node) (es : List Edge) → Grows a b → Follows p s a.terms place x n ns es → Follows p s b.terms place x n ns es
follows-later a b p s place (i.Fail kind at) n ns es g h = h
follows-later a b p s place i.Stop n ns es g h = h
follows-later a b p s place (i.Call at goal slot) n ns es g h = h
follows-later a b p s place (i.Return slot) n ns es g h = h
follows-later a b p s place (i.Jump skip) n ns es g h = h
follows-later a b p s place (i.Turn at goal) n ns es g h = h
follows-later a b p s place (i.SkipZero slot skip) n ns es g h = fork-later a b _ _ _ n ns es g h
follows-later a b p s place (i.SkipEqual slot v skip) n ns es g h = fork-later a b _ _ _ n ns es g h
follows-later a b p s place (i.Constant slot v) n ns es g h = checked-later a b s _ _ n ns es g h
follows-later a b p s place (i.Read slot object) n ns es g h = checked-later a b s _ _ n ns es g h
follows-later a b p s place (i.Element slot at object count) n ns es g h = checked-later a b s _ _ n ns es g h
follows-later a b p s place (i.Locate slot at object count) n ns es g h = checked-later a b s _ _ n ns es g h
follows-later a b p s place (i.Load slot object) n ns es g h = checked-later a b s _ _ n ns es g h
follows-later a b p s place (i.Store slot object) n ns es g h = checked-later a b s _ _ n ns es g h
follows-later a b p s place (i.Convert slot k) n ns es g h = checked-later a b s _ _ n ns es g h
follows-later a b p s place (i.Negate slot k at) n ns es g h = checked-later a b s _ _ n ns es g h
follows-later a b p s place (i.Complement slot k at) n ns es g h = checked-later a b s _ _ n ns es g h
follows-later a b p s place (i.Not slot) n ns es g h = checked-later a b s _ _ n ns es g h
follows-later a b p s place (i.Truth slot) n ns es g h = checked-later a b s _ _ n ns es g h
follows-later a b p s place (i.Binary slot o k at) n ns es g h = checked-later a b s _ _ n ns es g h
follows-later a b p s place (i.Update slot o k l at object) n ns es g h = checked-later a b s _ _ n ns es g h
follows-later a b p s place (i.Change slot before y k at object) n ns es g h = checked-later a b s _ _ n ns es g h
follows-later a b p s place (i.Draw slot k) n ns es g h = checked-later a b s _ _ n ns es g h
follows-later a b p s place (i.Fill object k count) n ns es g h = checked-later a b s _ _ n ns es g h
follows-later a b p s place (i.Begin slot object count values) n ns es g h = checked-later a b s _ _ n ns es g h
follows-later a b p s place (i.Bind slot object) n ns es g h = checked-later a b s _ _ n ns es g h
follows-later a b p s place (i.Take slot at from needed) n ns es g h = checked-later a b s _ _ n ns es g h

pub stands-at-later : (a b : Words) (p : Plan) (s : Setting) (place n : ℕ) (ns : List Node) (es : List Edge) → Grows a b → StandsAt p s a.terms place n ns es → StandsAt p s b.terms place n ns es
stands-at-later a b p s place n ns es g h = record {
  instruction = h.instruction;
  there = h.there;
  number = h.number;
  kept = h.kept;
  follows = follows-later a b p s place h.instruction n ns es g h.follows;
}

pub joined-by : (F G H K : ℕ → List Node → List Edge → Type 0) (n : ℕ) (ns : List Node) (es : List Edge) → ((n : ℕ) (ns : List Node) (es : List Edge) → F n ns es → H n ns es)
    → ((n : ℕ) (ns : List Node) (es : List Edge) → G n ns es → K n ns es) → Joined F G n ns es → Joined H K n ns es
joined-by F G H K n ns es f g h = record {
  nodes_first = h.nodes_first;
  edges_first = h.edges_first;
  nodes_second = h.nodes_second;
  edges_second = h.edges_second;
  first = f n h.nodes_first h.edges_first h.first;
  second = g (n + length h.nodes_first) h.nodes_second h.edges_second h.second;
  nodes_are = h.nodes_are;
  edges_are = h.edges_are;
}

pub first-later : (a b : Words) (p : Plan) (s : Setting) (k n : ℕ) (ns : List Node) (es : List Edge) → Grows a b → FirstFollow p s a.terms k n ns es → FirstFollow p s b.terms k n ns es
first-later a b p s zero n ns es g h = h
first-later a b p s (suc k) n ns es g h =
    joined-by (FirstFollow p s a.terms k) (StandsAt p s a.terms (p.range.entry + k)) (FirstFollow p s b.terms k) (StandsAt p s b.terms (p.range.entry + k)) n ns es
    (λ m xs fs z. first-later a b p s k m xs fs g z) (λ m xs fs z. stands-at-later a b p s (p.range.entry + k) m xs fs g z) h

-- ---- One behind the other

pub built-none : (d : Draft) (Form : ℕ → List Node → List Edge → Type 0) → Form (next_of d) [] [] → Built d d Form
built-none d Form h = record {
  nodes = [];
  edges = [];
  adds = record { nodes_are = sym (append-nil d.nodes.items); edges_are = sym (append-nil d.edges.items) };
  form = h;
}

pub built-by : (d e : Draft) (F G : ℕ → List Node → List Edge → Type 0) → ((n : ℕ) (ns : List Node) (es : List Edge) → F n ns es → G n ns es) → Built d e F → Built d e G
built-by d e F G f h = record { nodes = h.nodes; edges = h.edges; adds = h.adds; form = f (next_of d) h.nodes h.edges h.form }

pub built-twice : (a b c : Draft) (F G : ℕ → List Node → List Edge → Type 0) → Built a b F → Built b c G → Built a c (Joined F G)
built-twice a b c F G h k = record {
  nodes = h.nodes ++ k.nodes;
  edges = h.edges ++ k.edges;
  adds = adds-twice a b c h.nodes k.nodes h.edges k.edges h.adds k.adds;
  form = record {
    nodes_first = h.nodes;
    edges_first = h.edges;
    nodes_second = k.nodes;
    edges_second = k.edges;
    first = h.form;
    second = subst (λ (n : ℕ). G n k.nodes k.edges) (next-more a b h.nodes h.edges h.adds) k.form;
    nodes_are = refl;
    edges_are = refl;
  };
}

pub fork-to : (d e : Draft) (T : Table) (f : List ℕ → ℕ) (to goal other behind : NodeId) → to ≡ goal → other ≡ behind → Built d e (Fork T f to other) → Built d e (Fork T f goal behind)
fork-to d e T f to goal other behind p q h = subst (λ (z : NodeId). Built d e (Fork T f z behind)) p (subst (λ (z : NodeId). Built d e (Fork T f to z)) q h)

-- one place more
pub place-more : (a b c : Words) (x y z : Draft) (p : Plan) (s : Setting) (k m place : ℕ) → Grows a b × Built x y (FirstFollow p s b.terms k) → Grows b c × Built y z (StandsAt p s c.terms place)
    → place ≡ p.range.entry + k → suc k ≡ m → Grows a c × Built x z (FirstFollow p s c.terms m)
place-more a b c x y z p s k m place h g e f = (
  grows-twice a b c h.0 g.0,
  subst (λ (j : ℕ). Built x z (FirstFollow p s c.terms j)) f
      (built-twice x y z (FirstFollow p s c.terms k) (StandsAt p s c.terms (p.range.entry + k))
      (built-by x y (FirstFollow p s b.terms k) (FirstFollow p s c.terms k) (λ n ns es w. first-later b c p s k n ns es g.0 w) h.1)
      (subst (λ (j : ℕ). Built y z (StandsAt p s c.terms j)) e g.1)),
)

-- the exit behind all places
pub places-end : (r : Result Bool Memory) (a b : Words) (x y z : Draft) (p : Plan) (s : Setting) (k : ℕ) → Grows a b × Built x y (FirstFollow p s b.terms k) → k ≡ p.range.end - p.range.entry
    → IfOk r (λ o. IsTrue o → Built y z (Exit p)) → IfOk r (λ o. IsTrue o → Grows a b × Built x z (PlacesFollow p s b.terms))
places-end (Err w) a b x y z p s k h e g = tt
places-end (Ok o) a b x y z p s k h e g =
    λ t. (h.0, built-twice x y z (FirstFollow p s b.terms (p.range.end - p.range.entry)) (Exit p) (subst (λ (j : ℕ). Built x y (FirstFollow p s b.terms j)) e h.1) (g t))
