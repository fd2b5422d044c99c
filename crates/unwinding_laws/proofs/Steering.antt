-- Steered journals: with one more unit, and over tables that grow.
use Rattle.std.proofs.Common.{◌≡◌, ◌∙◌, ℕ, ◌<◌, List, [], ◌∷◌, ◌++◌, length, Option, None, Some, sym, subst, inl, inr}
use Rattle.bv_term.specs.WellFormed.{Table}
use Rattle.bv_term.specs.Laws.{Extends}
use Rattle.c_graph.specs.Shape.{Flow}
use Rattle.reach_tree.specs.declared.vertex.VertexId.{VertexId}
use Rattle.cover_engine.specs.declared.unit.UnitDone.{UnitDone}
use Rattle.cover_engine.specs.declared.unit.UnitDone.TheVariants.{Expand, Refine, CoverYes, CoverNo}
use Rattle.cover_engine.specs.Unwindings.{Unwound, is_open_leaf}
use Rattle.cover_engine.specs.Units.{CanAll, Legal, after, after_all, start}
use Rattle.cover_engine.specs.Steering.{CoversSteered, IsHighestOpen, Steered, SteeredFrom}
use Rattle.unwinding_laws.specs.Steered.{last_refined, KeepsRule, OneMoreIsSteered, GrowingTablesKeepSteering}
use Rattle.unwinding_laws.proofs.Tables.{Labelled, before, later, open_stays, after_later, after_before, known_after, known_start}

-- one unit behind others that are steered
append_steered : (g : Flow) (u : Unwound) (refined : Option VertexId) (js : List UnitDone) (x : UnitDone) → SteeredFrom g u refined js
    → KeepsRule g (after_all g u js) (last_refined refined js) x → SteeredFrom g u refined (js ++ x ∷ [])
append_steered g u refined [] (Expand v) h k = (k.0, k.1, tt)
append_steered g u refined [] (Refine v fs) h k = (k, tt)
append_steered g u refined [] (CoverYes v w) h k = (k, tt)
append_steered g u refined [] (CoverNo v w store) h k = (k, tt)
append_steered g u refined (Expand v ∷ js) x h k = (h.0, h.1, append_steered g (after g u (Expand v)) None js x h.2 k)
append_steered g u refined (Refine v fs ∷ js) x h k = (h.0, append_steered g (after g u (Refine v fs)) (Some v) js x h.1 k)
append_steered g u refined (CoverYes v w ∷ js) x h k = (h.0, append_steered g (after g u (CoverYes v w)) refined js x h.1 k)
append_steered g u refined (CoverNo v w store ∷ js) x h k = (h.0, append_steered g (after g u (CoverNo v w store)) refined js x h.1 k)

-- what a unit makes has the same table, and the unit behind the others in its journal
appended : (g : Flow) (u : Unwound) (x : UnitDone) → SteeredFrom g (start g u.terms) None (u.journal ++ x ∷ []) → Steered g (after g u x)
appended g u (Expand v) h = h
appended g u (Refine v fs) h = h
appended g u (CoverYes v w) h = h
appended g u (CoverNo v w store) h = h

pub one_more_is_steered : OneMoreIsSteered
one_more_is_steered g u x l s k =
    appended g u x
    (append_steered g (start g u.terms) None u.journal x s (subst (λ (w : Unwound). KeepsRule g w (last_refined None u.journal) x) l.made k))

module _ (g : Flow) (old new : Table) (ext : Extends old new) where
  highest_later : (u : Unwound) (v : VertexId) → Labelled g old new ext u.vertices → IsHighestOpen g (before g old new ext u) v → IsHighestOpen g (later g old new ext u) v
  highest_later u v k h = (open_stays g old new ext u v k ∙ h.0, λ w lt there. open_stays g old new ext u w k ∙ h.1 w lt there)

  covers_later : (u : Unwound) (refined : Option VertexId) (v w : VertexId) → Labelled g old new ext u.vertices
      → CoversSteered g (before g old new ext u) refined v w → CoversSteered g (later g old new ext u) refined v w
  covers_later u refined v w k h = (h.0, elim h.1 [ inl a ↦ inl (highest_later u v k a.0, a.1) | inr b ↦ inr b ])

  -- what is known where a unit was made
  behind : (u : Unwound) (refined : Option VertexId) (x : UnitDone) (xs : List UnitDone) → Labelled g old new ext u.vertices
      → CanAll g (before g old new ext u) (x ∷ xs) → SteeredFrom g (after g (before g old new ext u) x) refined xs
      → Labelled g old new ext (after g (before g old new ext u) x).vertices
      × CanAll g (before g old new ext (after g (before g old new ext u) x)) xs
      × SteeredFrom g (before g old new ext (after g (before g old new ext u) x)) refined xs
  behind u refined x xs k c h =
      let same = after_before g old new ext u x in (
        known_after g old new ext u x c.0 k,
        subst (λ (w : Unwound). CanAll g w xs) same c.1,
        subst (λ (w : Unwound). SteeredFrom g w refined xs) same h,
      )

  steered_later : (u : Unwound) (refined : Option VertexId) (xs : List UnitDone) → Labelled g old new ext u.vertices
      → CanAll g (before g old new ext u) xs → SteeredFrom g (before g old new ext u) refined xs → SteeredFrom g (later g old new ext u) refined xs
  steered_later u refined [] k c h = tt
  steered_later u refined (Expand v ∷ xs) k c h =
      let next : Unwound = after g (before g old new ext u) (Expand v) in
      let (a, b, d) = behind u None (Expand v) xs k c h.2 in
      (highest_later u v k h.0, h.1, subst (λ (w : Unwound). SteeredFrom g w None xs) (sym (after_later g old new ext u (Expand v) c.0)) (steered_later next None xs a b d))
  steered_later u refined (Refine v fs ∷ xs) k c h =
      let next : Unwound = after g (before g old new ext u) (Refine v fs) in
      let (a, b, d) = behind u (Some v) (Refine v fs) xs k c h.1 in
      (highest_later u v k h.0, subst (λ (w : Unwound). SteeredFrom g w (Some v) xs) (sym (after_later g old new ext u (Refine v fs) c.0)) (steered_later next (Some v) xs a b d))
  steered_later u refined (CoverYes v w ∷ xs) k c h =
      let next : Unwound = after g (before g old new ext u) (CoverYes v w) in
      let (a, b, d) = behind u refined (CoverYes v w) xs k c h.1 in
      (covers_later u refined v w k h.0, subst (λ (z : Unwound). SteeredFrom g z refined xs) (sym (after_later g old new ext u (CoverYes v w) c.0)) (steered_later next refined xs a b d))
  steered_later u refined (CoverNo v w store ∷ xs) k c h =
      let next : Unwound = after g (before g old new ext u) (CoverNo v w store) in
      let (a, b, d) = behind u refined (CoverNo v w store) xs k c h.1 in
      (covers_later u refined v w k h.0, subst (λ (z : Unwound). SteeredFrom g z refined xs) (sym (after_later g old new ext u (CoverNo v w store) c.0)) (steered_later next refined xs a b d))

pub growing_tables_keep_steering : GrowingTablesKeepSteering
growing_tables_keep_steering g u table ext l s =
    steered_later g u.terms table ext (start g u.terms) None u.journal (known_start g u.terms table ext) l.units s
