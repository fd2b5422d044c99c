-- Operands and tests that are found.
use Rattle.std.proofs.Common.{◌≡◌, ℕ, List, [], ◌∷◌, refl, sym, ap, ◌∙◌, subst, Bool, true, false, if◌then◌else◌}
use Rattle.lv_base.specs.declared.kind.Kind.{Kind}
use Rattle.lv_base.specs.declared.kind.Model.{Model}
use Rattle.lv_base.specs.declared.fault.ErrorKind.{ErrorKind}
use Rattle.lv_base.specs.Integers.{width_of}
use Rattle.bv_term.specs.declared.term.TermId.{TermId}
use Rattle.c_terms.specs.declared.words.Words.{Words}
use Rattle.c_terms.specs.declared.arithmetic.Operands.{Operands}
use Rattle.c_terms.specs.declared.failing.Tests.TheVariants.{None, One, Two}
use Rattle.c_terms.specs.Operations.{Failure, failure}
use Rattle.c_terms.specs.Shown.{Grows, Puts, IsPair, Finds}
use Rattle.c_terms.proofs.Putting.{grows-none, grows-twice, later}

pub stand : (x y : Words) (s : List ℕ) (o : Operands) (a b c : ℕ) → Grows x y → IsPair x.terms s o a b c → IsPair y.terms s o a b c
stand x y s o a b c g h = record {
  left_shows = later x y s o.left (width_of o.kind o.model) a g h.left_shows;
  right_shows = later x y s o.right (width_of o.kind o.model) b g h.right_shows;
  whole_shows = later x y s o.whole 64 c g h.whole_shows;
}

pub over : (f : Kind → Model → ℕ) (k l : Kind) (m n : Model) → k ≡ l → m ≡ n → f k m ≡ f l n
over f k l m n p q = ap (λ (z : Kind). f z m) p ∙ ap (f l) q

pub found-never : (x : Words) (s : List ℕ) → Finds x x s None []
found-never x s = record { grows = grows-none x; fails = tt }

pub found-none : (x : Words) (s : List ℕ) (b : Bool) (f : Failure) → b ≡ false → Finds x x s None (if b then f ∷ [] else [])
found-none x s b f e = subst (λ (z : Bool). Finds x x s None (if z then f ∷ [] else [])) (sym e) (found-never x s)

pub found-always : (x y : Words) (s : List ℕ) (t : TermId) (k : ErrorKind) (n : ℕ) → Puts x y s t 1 n → Finds x y s (One (record { kind = k; when = t })) (failure k n ∷ [])
found-always x y s t k n h = record { grows = h.grows; fails = record { kind = refl; shows = h.shows } }

pub found-one : (x y : Words) (s : List ℕ) (b : Bool) (t : TermId) (k : ErrorKind) (n : ℕ) → b ≡ true → Puts x y s t 1 n → Finds x y s (One (record { kind = k; when = t })) (if b then failure k n ∷ [] else [])
found-one x y s b t k n e h = subst (λ (z : Bool). Finds x y s (One (record { kind = k; when = t })) (if z then failure k n ∷ [] else [])) (sym e) (found-always x y s t k n h)

-- the first test alone, or both
pub found-first : (x y : Words) (s : List ℕ) (b : Bool) (t : TermId) (k : ErrorKind) (n : ℕ) (f : Failure) → b ≡ false → Puts x y s t 1 n → Finds x y s (One (record { kind = k; when = t })) (if b then failure k n ∷ f ∷ [] else failure k n ∷ [])
found-first x y s b t k n f e h = subst (λ (z : Bool). Finds x y s (One (record { kind = k; when = t })) (if z then failure k n ∷ f ∷ [] else failure k n ∷ [])) (sym e) (found-always x y s t k n h)

pub found-two : (x y z : Words) (s : List ℕ) (b : Bool) (t u : TermId) (k l : ErrorKind) (n m : ℕ) → b ≡ true → Puts x y s t 1 n → Puts y z s u 1 m
    → Finds x z s (Two (record { kind = k; when = t }) (record { kind = l; when = u })) (if b then failure k n ∷ failure l m ∷ [] else failure k n ∷ [])
found-two x y z s b t u k l n m e h g =
    subst (λ (v : Bool). Finds x z s (Two (record { kind = k; when = t }) (record { kind = l; when = u })) (if v then failure k n ∷ failure l m ∷ [] else failure k n ∷ [])) (sym e) (record {
      grows = grows-twice x y z h.grows g.grows;
      fails = (record { kind = refl; shows = later y z s t 1 n g.grows h.shows }, record { kind = refl; shows = g.shows });
    })
