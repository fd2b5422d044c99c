-- Every list of legal units makes a well labelled unwinding.
use Rattle.std.proofs.Common.{◌≡◌, ◌∙◌, ℕ, ◌<◌, List, [], ◌∷◌, Some, None, inl, refl, sym, subst, arith, length, zero, suc}
use Rattle.std.specs.List.{All}
use Rattle.bv_term.specs.WellFormed.{Table}
use Rattle.c_graph.specs.Shape.{Flow}
use Rattle.reach_tree.specs.declared.vertex.VertexId.{VertexId}
use Rattle.reach_tree.specs.Trees.{vertex_at, root_at}
use Rattle.cover_engine.specs.declared.unit.UnitDone.{UnitDone}
use Rattle.cover_engine.specs.declared.unit.UnitDone.TheVariants.{Expand, Refine, CoverYes, CoverNo}
use Rattle.cover_engine.specs.Unwindings.{Unwound}
use Rattle.cover_engine.specs.Units.{Can, CanAll, Legal, after, after_all, start}
use Rattle.cover_engine.specs.WellLabelled.{ChildFollows, LegalIsWellLabelled}
use Rattle.unwinding_laws.proofs.Vertices.{meets_none}
use Rattle.unwinding_laws.proofs.Units.{Good, good_part, good_cover}
use Rattle.unwinding_laws.proofs.Refinement.{good_refine}
use Rattle.unwinding_laws.proofs.Expansion.{good_expand}

good_unit : (g : Flow) (u : Unwound) (x : UnitDone) → Good g u → Can g u x → Good g (after g u x)
good_unit g u (Expand v) h can = good_expand g u v h can
good_unit g u (Refine v fs) h can = good_refine g u v fs h can
good_unit g u (CoverYes v w) h can = good_cover g u v w h can
good_unit g u (CoverNo v w store) h can = good_part g u v w store h

good_all : (g : Flow) (u : Unwound) (xs : List UnitDone) → Good g u → CanAll g u xs → Good g (after_all g u xs)
good_all g u [] h can = h
good_all g u (x ∷ xs) h can = good_all g (after g u x) xs (good_unit g u x h can.0) can.1

-- the only vertex has no children
no_children : (g : Flow) (k : ℕ) → k < 1 → (vertex_at (root_at g.entry ∷ []) k).children ≡ []
no_children g zero lt = refl
no_children g (suc k) lt = absurd (omega (arith, lt))

no_parent : (g : Flow) (k : ℕ) → k < 1 → (vertex_at (root_at g.entry ∷ []) k).parent ≡ None
no_parent g zero lt = refl
no_parent g (suc k) lt = absurd (omega (arith, lt))

none_of : (P : VertexId → Type 0) (cs : List VertexId) → cs ≡ [] → All P cs
none_of P [] e k d lt = absurd (omega (arith, lt))
none_of P (c ∷ cs) e k d lt = absurd cc

good_start : (g : Flow) (table : Table) → Good g (start g table)
good_start g table = record {
  family = record {
    some = omega arith;
    below = λ k p lt e. absurd (let q : None ≡ Some p = sym (no_parent g k (omega (arith, lt))) ∙ e in cc);
    kids = λ v lt. none_of (λ c. (c.0 < length (root_at g.entry ∷ [])) × ((vertex_at (root_at g.entry ∷ []) c.0).parent ≡ Some v)) (vertex_at (root_at g.entry ∷ []) v.0).children (no_children g v.0 (omega (arith, lt)));
  };
  root = refl;
  inside = λ k d lt. absurd (omega (arith, lt));
  well = record {
    root = λ store whole. meets_none table store;
    follows = λ v lt. none_of (ChildFollows g (start g table) v) (vertex_at (root_at g.entry ∷ []) v.0).children (no_children g v.0 (omega (arith, lt)));
    families = λ v lt. inl (no_children g v.0 (omega (arith, lt)));
    pairs = λ k d lt. absurd (omega (arith, lt));
  };
}

-- what is kept from unit to unit holds of a legal unwinding
pub legal_good : (g : Flow) (u : Unwound) → Legal g u → Good g u
legal_good g u l = subst (Good g) (sym l.made) (good_all g (start g u.terms) u.journal (good_start g u.terms) l.units)

pub legal_well_labelled : LegalIsWellLabelled
legal_well_labelled g u flow table l = (legal_good g u l).well
