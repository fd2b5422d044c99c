-- The terms of the formulas in an empty table, and what is read off labels.
use Rattle.std.proofs.Common.{◌≡◌, ℕ, ◌+◌, ◌<◌, Bool, true, false, List, [], ◌∷◌, ◌++◌, length, get_or, refl, sym, ap, ◌∙◌, subst, arith, zero, suc, inl, inr, ◌⊎◌, Option, Some, None, slice_get, ◌&&◌, reverse, not, IsTrue}
use Rattle.std.specs.Prelude.{All, Contains, IfSome}
use Rattle.std.proofs.lemmas.Bool.{cases_eq}
use Rattle.std.proofs.lemmas.List.{get_or_default}
use Rattle.bv_term.specs.declared.term.TermId.{TermId}
use Rattle.bv_term.specs.declared.term.Term.{Term}
use Rattle.bv_term.specs.declared.term.Term.TheVariants.{Constant, Cell, Equal}
use Rattle.bv_term.specs.WellFormed.{Table, with_term}
use Rattle.bv_term.specs.Values.{Holds}
use Rattle.bv_term.specs.Laws.{IsPut}
use Rattle.c_graph.specs.Shape.{Flow, HasWidth, widths_of}
use Rattle.cover_engine.specs.declared.unit.UnitDone.{UnitDone}
use Rattle.reach_tree.specs.declared.vertex.VertexId.{VertexId}
use Rattle.reach_tree.specs.Trees.{vertex_at}
use Rattle.cover_engine.specs.Unwindings.{Unwound, is_open_leaf, path_of}
use Rattle.needed_cells.specs.Formulas.{begins_true}
use Rattle.cover_engine.specs.Units.{CanRefine, Legal, Links, NameNeeded, CanAll, Meets, after_all, start}
use Rattle.loop_journey.proofs.Following.{falsely}
use Rattle.loop_journey.specs.Chains.{IsChain}
use Rattle.loop_journey.specs.Loop.{IsErrorNode, Travels, label_table, label_terms, loop_flow, term}

-- a term that is not there is put at the end
put_new : (old new : Table) (ts : List Term) (t : Term) (id : TermId) → old ≡ record { cells = 32 ∷ 32 ∷ []; terms = ts } → IsPut old new t → slice_get new.terms id.0 ≡ Some t
    → ((k : ℕ) → slice_get ts k ≡ Some t → ⊥) → new ≡ record { cells = 32 ∷ 32 ∷ []; terms = ts ++ t ∷ [] }
put_new old new ts t id is put named fresh = elim put [
  | inl same ↦ absurd (fresh id.0 (sym (ap (λ (x : Table). slice_get x.terms id.0) (same ∙ is)) ∙ named))
  | inr more ↦ more.0 ∙ ap (λ (x : Table). with_term x t) is
]

none_is_some : (t : Term) → None ≡ Some t → ⊥
none_is_some t e = cc

first : (k : ℕ) → slice_get [] k ≡ Some (Constant 32 0) → ⊥
first k e = absurd (cc)

second : (k : ℕ) → slice_get (Constant 32 0 ∷ []) k ≡ Some (Cell 0) → ⊥
second zero e = absurd (cc)
second (suc k) e = absurd (cc)

third : (k : ℕ) → slice_get (Constant 32 0 ∷ Cell 0 ∷ []) k ≡ Some (Equal (term 1) (term 0)) → ⊥
third zero e = absurd (cc)
third (suc zero) e = absurd (cc)
third (suc (suc k)) e = absurd (cc)

abbrev width : Option Term → ℕ
width (Some (Constant w v)) = w + v
width _ = 0

fourth : (k : ℕ) → slice_get (Constant 32 0 ∷ Cell 0 ∷ Equal (term 1) (term 0) ∷ []) k ≡ Some (Constant 1 1) → ⊥
fourth zero e = absurd (omega (arith, ap width e))
fourth (suc zero) e = absurd (cc)
fourth (suc (suc zero)) e = absurd (cc)
fourth (suc (suc (suc k))) e = absurd (cc)

fifth : (k : ℕ) → slice_get (Constant 32 0 ∷ Cell 0 ∷ Equal (term 1) (term 0) ∷ Constant 1 1 ∷ []) k ≡ Some (Constant 1 0) → ⊥
fifth zero e = absurd (omega (arith, ap width e))
fifth (suc zero) e = absurd (cc)
fifth (suc (suc zero)) e = absurd (cc)
fifth (suc (suc (suc zero))) e = absurd (omega (arith, ap width e))
fifth (suc (suc (suc (suc k)))) e = absurd (cc)

-- an unwinding without a unit, with another table
stays : (g : Flow) (old new : Unwound) → old ≡ start g old.terms → new ≡ record old { terms = new.terms } → new ≡ start g new.terms
stays g old new s o = o ∙ ap (λ (u : Unwound). let r : Unwound = record u { terms = new.terms } in r) s

legal_start : (g : Flow) (u : Unwound) → u ≡ start g u.terms → u.terms.cells ≡ widths_of g.cells → Legal g u
legal_start g u s cells =
    let none : u.journal ≡ [] = ap (λ (x : Unwound). x.journal) s in
    record {
      cells = cells;
      units = subst (λ (js : List UnitDone). CanAll g (start g u.terms) js) (sym none) tt;
      made = s ∙ sym (ap (after_all g (start g u.terms)) none);
    }

module _ (g : Flow) (u0 u1 u2 u3 u4 u5 : Unwound) (i1 i2 i3 i4 i5 : TermId) where
  pub five_put : ((last : ℕ) × (g ≡ loop_flow last)) → u0 ≡ start g u0.terms → u0.terms.cells ≡ widths_of g.cells → u0.terms.terms ≡ []
      → IsPut u0.terms u1.terms (Constant 32 0) → slice_get u1.terms.terms i1.0 ≡ Some (Constant 32 0) → u1 ≡ record u0 { terms = u1.terms }
      → IsPut u1.terms u2.terms (Cell 0) → slice_get u2.terms.terms i2.0 ≡ Some (Cell 0) → u2 ≡ record u1 { terms = u2.terms }
      → IsPut u2.terms u3.terms (Equal (term 1) (term 0)) → slice_get u3.terms.terms i3.0 ≡ Some (Equal (term 1) (term 0)) → u3 ≡ record u2 { terms = u3.terms }
      → IsPut u3.terms u4.terms (Constant 1 1) → slice_get u4.terms.terms i4.0 ≡ Some (Constant 1 1) → u4 ≡ record u3 { terms = u4.terms }
      → IsPut u4.terms u5.terms (Constant 1 0) → slice_get u5.terms.terms i5.0 ≡ Some (Constant 1 0) → u5 ≡ record u4 { terms = u5.terms }
      → Travels g u5 × (u5 ≡ start g label_table)
  five_put graph s cells empty p1 n1 o1 p2 n2 o2 p3 n3 o3 p4 n4 o4 p5 n5 o5 =
      let widths : widths_of g.cells ≡ 32 ∷ 32 ∷ [] = ap (λ (f : Flow). widths_of f.cells) graph.1 in
      let zero' : u0.terms ≡ record { cells = 32 ∷ 32 ∷ []; terms = [] } = same_table u0.terms (cells ∙ widths) empty in
      let t1 = put_new u0.terms u1.terms [] (Constant 32 0) i1 zero' p1 n1 first in
      let t2 = put_new u1.terms u2.terms (Constant 32 0 ∷ []) (Cell 0) i2 t1 p2 n2 second in
      let t3 = put_new u2.terms u3.terms (Constant 32 0 ∷ Cell 0 ∷ []) (Equal (term 1) (term 0)) i3 t2 p3 n3 third in
      let t4 = put_new u3.terms u4.terms (Constant 32 0 ∷ Cell 0 ∷ Equal (term 1) (term 0) ∷ []) (Constant 1 1) i4 t3 p4 n4 fourth in
      let t5 : u5.terms ≡ label_table = put_new u4.terms u5.terms (Constant 32 0 ∷ Cell 0 ∷ Equal (term 1) (term 0) ∷ Constant 1 1 ∷ []) (Constant 1 0) i5 t4 p5 n5 fifth in
      let s5 = stays g u4 u5 (stays g u3 u4 (stays g u2 u3 (stays g u1 u2 (stays g u0 u1 s o1) o2) o3) o4) o5 in
      (record { graph = graph; terms = t5; legal = legal_start g u5 s5 (ap (λ (x : Table). x.cells) t5 ∙ sym widths) }, s5 ∙ ap (start g) t5)
    where
      same_table : (x : Table) → x.cells ≡ 32 ∷ 32 ∷ [] → x.terms ≡ [] → x ≡ record { cells = 32 ∷ 32 ∷ []; terms = [] }
      same_table x a b =
          ap (λ (cs : List ℕ). let r : Table = record { cells = cs; terms = x.terms } in r) a
          ∙ ap (λ (ts : List Term). let r : Table = record { cells = 32 ∷ 32 ∷ []; terms = ts } in r) b

-- one term more that is there
pub all_there : (label terms : List TermId) (i : ℕ) (e : TermId) → i < length terms → ((k : ℕ) (d : TermId) → k < i → Contains label (get_or terms k d)) → Contains label (get_or terms i e)
    → (k : ℕ) (d : TermId) → k < i + 1 → Contains label (get_or terms k d)
all_there label terms i e lt before at k d more = elim (cases_eq k i) [
  | inl is ↦ subst (λ (t : TermId). Contains label t) (sym (get_or_default terms i d e lt) ∙ sym (ap (λ (j : ℕ). get_or terms j d) is)) at
  | inr ne ↦ before k d (omega (arith, more, ne))
]

-- a label with each conjunct of another implies it
pub subset_meets : (table : Table) (store : List ℕ) (a b : List TermId) → All (Contains a) b → Meets table store a → Meets table store b
subset_meets table store a b all meets k d lt =
    let c = all k d lt in
    subst (Holds table store) c.2 (meets c.0 (get_or b k d) c.1)

pub if_some : {A : Type 0} (P Q : A → Type 0) (o : Option A) → ((x : A) → P x → Q x) → IfSome o P → IfSome o Q
if_some P Q None f h = tt
if_some P Q (Some x) f h = f x h

-- what is asked of a Refine
pub can_refine : (g : Flow) (u : Unwound) (v : VertexId) (fs : List TermId) (last : ℕ) → g ≡ loop_flow last → u.terms ≡ label_table → v.0 < length u.vertices → is_open_leaf g u v ≡ true
    → IsErrorNode (slice_get g.nodes (vertex_at u.vertices v.0).node.0) → IsChain last u.vertices v fs → CanRefine g u v fs
can_refine g u v fs last is terms there leaf node chain = record {
  vertex = there;
  leaf = leaf;
  node = node;
  terms = subst (λ (t : Table). All (λ x. HasWidth t x 1) fs) (sym terms) chain.terms;
  first = subst (λ (t : Table). begins_true t fs ≡ true) (sym terms) chain.first;
  links = subst (λ (f : Flow). Links f u.terms u.vertices (reverse (path_of u.vertices v)) fs) (sym is) (subst (λ (t : Table). Links (loop_flow last) t u.vertices (reverse (path_of u.vertices v)) fs) (sym terms) chain.links);
  names = subst (λ (f : Flow). NameNeeded f u.terms u.vertices (reverse (path_of u.vertices v)) fs) (sym is) (subst (λ (t : Table). NameNeeded (loop_flow last) t u.vertices (reverse (path_of u.vertices v)) fs) (sym terms) chain.names);
}

pub from_some : {A : Type 0} (P : A → Type 0) (o : Option A) (x : A) → o ≡ Some x → IfSome o P → P x
from_some P None x e h = absurd (cc)
from_some P (Some y) x e h = let same : y ≡ x = cc in subst P same h

pub not_both : (b : Bool) → IsTrue (not b) → IsTrue b → ⊥
not_both true a b = falsely a
not_both false a b = falsely b
