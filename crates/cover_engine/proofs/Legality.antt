-- A legal unit keeps an unwinding legal.
use Rattle.std.proofs.Common.{◌≡◌, List, [], ◌∷◌, ◌++◌, ap, sym, ◌∙◌, refl, subst}
use Rattle.bv_term.specs.WellFormed.{Table}
use Rattle.c_graph.specs.Shape.{Flow}
use Rattle.cover_engine.specs.declared.unit.UnitDone.{UnitDone}
use Rattle.cover_engine.specs.declared.unit.UnitDone.TheVariants.{Expand, Refine, CoverYes, CoverNo}
use Rattle.cover_engine.specs.Unwindings.{Unwound}
use Rattle.cover_engine.specs.Units.{Can, CanAll, after, after_all, start, Legal}

after-snoc : (g : Flow) (u : Unwound) (xs : List UnitDone) (x : UnitDone) → after_all g u (xs ++ x ∷ []) ≡ after g (after_all g u xs) x
after-snoc g u [] x = refl
after-snoc g u (y ∷ xs) x = after-snoc g (after g u y) xs x

can-snoc : (g : Flow) (u : Unwound) (xs : List UnitDone) (x : UnitDone) → CanAll g u xs → Can g (after_all g u xs) x → CanAll g u (xs ++ x ∷ [])
can-snoc g u [] x all can = (can, tt)
can-snoc g u (y ∷ xs) x all can = (all.0, can-snoc g (after g u y) xs x all.1 can)

-- a unit leaves the table, and stands last in the journal
same-terms : (g : Flow) (u : Unwound) (x : UnitDone) → (after g u x).terms ≡ u.terms
same-terms g u (Expand v) = refl
same-terms g u (Refine v fs) = refl
same-terms g u (CoverYes v w) = refl
same-terms g u (CoverNo v w s) = refl

stands-last : (g : Flow) (u : Unwound) (x : UnitDone) → (after g u x).journal ≡ u.journal ++ x ∷ []
stands-last g u (Expand v) = refl
stands-last g u (Refine v fs) = refl
stands-last g u (CoverYes v w) = refl
stands-last g u (CoverNo v w s) = refl

pub legal-unit : (g : Flow) (u : Unwound) (x : UnitDone) → Legal g u → Can g u x → Legal g (after g u x)
legal-unit g u x h can =
    let J : List UnitDone → Table → Type 0 = λ j t. CanAll g (start g t) j in
    let can0 : Can g (after_all g (start g u.terms) u.journal) x = (let P : Unwound → Type 0 = λ w. Can g w x in subst P h.made can) in
    let A : List UnitDone → Type 0 = λ j. J j u.terms in
    let B : Table → Type 0 = λ t. J (after g u x).journal t in
    record {
      cells = ap (λ (t : Table). t.cells) (same-terms g u x) ∙ h.cells;
      units = subst B (sym (same-terms g u x)) (subst A (sym (stands-last g u x)) (can-snoc g (start g u.terms) u.journal x h.units can0));
      made =
          ap (λ w. after g w x) h.made
          ∙ sym (after-snoc g (start g u.terms) u.journal x)
          ∙ ap (λ (j : List UnitDone). after_all g (start g u.terms) j) (sym (stands-last g u x))
          ∙ ap (λ (t : Table). after_all g (start g t) (after g u x).journal) (sym (same-terms g u x));
    }
