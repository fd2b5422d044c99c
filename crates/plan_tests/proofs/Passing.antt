-- Passes over lists; and all tests together.
use Rattle.std.proofs.Common.{◌≡◌, ℕ, ◌+◌, ◌<◌, ◌≤◌, inl, inr, List, [], ◌∷◌, length, Some, refl, sym, ap, ◌∙◌, subst, suc, arith, slice_get}
use Rattle.std.proofs.lemmas.Bool.{cases_eq}
use Rattle.std.proofs.lemmas.Option.{same_Some, slice_get_within}
use Rattle.bv_term.specs.WellFormed.{Table}
use Rattle.c_graph.specs.declared.graph.NodeId.{NodeId}
use Rattle.c_graph.specs.declared.graph.Node.TheVariants.{Error}
use Rattle.c_graph.specs.declared.graph.Cell.{Cell}
use Rattle.c_graph.specs.declared.graph.Edge.{Edge}
use Rattle.c_graph.specs.declared.graph.LoopAt.{LoopAt}
use Rattle.c_graph.specs.Shape.{Flow, IsFlow, widths_of}
use Rattle.block_rule.specs.Tests.{AreReads}
use Rattle.block_rule.specs.Blocked.{IsPlan, ReadsAll}
use Rattle.block_laws.proofs.Testing as law
use Rattle.walk_states.specs.declared.known.Known.{Known}
use Rattle.walk_states.specs.Known.{plan_of}
use Rattle.plan_tests.specs.Nodes.{AreListed, AreSteps, AreWatched, IsEntry}
use Rattle.plan_tests.specs.Flow.{AllFlow}

-- one more element of a list has the property
pub one_passed : {X : Type 0} → (xs : List X) (P : ℕ → X → Type 0) (n : ℕ) (x : X) → slice_get xs n ≡ Some x → P n x
    → ((k : ℕ) (e : X) → k < n → slice_get xs k ≡ Some e → P k e) → (k : ℕ) (e : X) → k < n + 1 → slice_get xs k ≡ Some e → P k e
one_passed xs P n x t p h k e lt s = elim (cases_eq k n) [
  | inl q ↦
      let same : x ≡ e = same_Some x e (sym t ∙ ap (slice_get xs) (sym q) ∙ s) in
      let here : P n e = subst (P n) same p in
      subst (λ (j : ℕ). P j e) (sym q) here
  | inr ne ↦ h k e (omega (arith, lt, ne)) s
]

-- so each has where the number is past the end
pub all_passed : {X : Type 0} → (xs : List X) (P : ℕ → X → Type 0) (n : ℕ) → length xs ≤ n
    → ((k : ℕ) (e : X) → k < n → slice_get xs k ≡ Some e → P k e) → (k : ℕ) (e : X) → slice_get xs k ≡ Some e → P k e
all_passed xs P n le h k e s =
    let lt : k < length xs = slice_get_within xs k e s in
    h k e (omega (arith, lt, le)) s

-- one more number has the property
pub one_more : (P : ℕ → Type 0) (n : ℕ) → P n → ((k : ℕ) → k < n → P k) → (k : ℕ) → k < n + 1 → P k
one_more P n p h k lt = elim (cases_eq k n) [
  | inl e ↦ subst P (sym e) p
  | inr ne ↦ h k (omega (arith, lt, ne))
]

as_many : (xs : List Cell) → length (widths_of xs) ≡ length xs
as_many [] = refl
as_many (x ∷ xs) = ap suc (as_many xs)

pub planned : (g : Flow) (known : Known) (entry : NodeId) (es fs : List Edge) (ls : List LoopAt) (table : Table) → IsFlow g
    → entry ≡ g.entry → es ≡ g.edges → fs ≡ g.edges → ls ≡ g.loops → table ≡ g.terms → IsEntry (plan_of known) entry → AreSteps known es
    → AreWatched known g.nodes → AreListed (plan_of known) ls → AreReads table (plan_of known) → AllFlow (plan_of known) fs → IsPlan g (plan_of known)
planned g known entry es fs ls table flow entry_is es_is fs_is ls_is table_is begins steps watched listed reads flows =
    let at : IsEntry (plan_of known) g.entry = subst (IsEntry (plan_of known)) entry_is begins in
    let steps2 : AreSteps known g.edges = subst (AreSteps known) es_is steps in
    let reads2 : AreReads g.terms (plan_of known) = subst (λ (t : Table). AreReads t (plan_of known)) table_is reads in
    let flows2 : AllFlow (plan_of known) g.edges = subst (AllFlow (plan_of known)) fs_is flows in
    let tell : ReadsAll g.terms (length g.terms.cells) (plan_of known) = law.reads_tell g.terms (plan_of known) flow.table reads2 in
    let many : length g.terms.cells ≡ length g.cells = ap length flow.cells ∙ as_many g.cells in
    record {
      entry = at.0;
      reaches = λ k e s. (steps2 k e s).0;
      errors = λ v kind at s. watched v (Error kind at) s;
      lives = λ k e s. (steps2 k e s).1;
      cut = at.1;
      loops = subst (AreListed (plan_of known)) ls_is listed;
      terms = subst (λ (n : ℕ). ReadsAll g.terms n (plan_of known)) many tell;
      flows = flows2;
    }
