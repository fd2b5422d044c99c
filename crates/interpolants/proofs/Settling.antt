-- Joined terms that need no further one.
use Rattle.std.proofs.Common.{◌≡◌, ℕ, Bool, true, false, not, ◌&&◌, ◌||◌, List, Result, Some, slice_get, refl, sym, ap, ◌∙◌, subst, arith}
use Rattle.std.specs.Prelude.{IfOk}
use Rattle.bv_term.specs.declared.term.TermId.{TermId}
use Rattle.bv_term.specs.declared.term.Term.TheVariants.{Constant, Not}
use Rattle.bv_term.specs.Numbers.{truth}
use Rattle.bv_term.specs.WellFormed.{Table, IsTable}
use Rattle.formula_diagrams.specs.Truths.{choice}
use Rattle.formula_diagrams.specs.Writings.{IsTruth}
use Rattle.formula_diagrams.proofs.Putting.{put-end, put-not, extends-none, same-truth, same-result, end-result}
use Rattle.interpolants.specs.declared.plain.Settled.{Settled}
use Rattle.interpolants.specs.declared.plain.Settled.TheVariants.{Left, Right, Swallowed}
use Rattle.interpolants.specs.Merging.{merged, IsSettled}

-- one term has one truth
truth-one : (x y : Bool) → truth x ≡ truth y → x ≡ y
truth-one true true e = refl
truth-one true false e = absurd cc
truth-one false true e = absurd cc
truth-one false false e = refl

one-truth : (a : Table) (t : TermId) (f g : List ℕ → Bool) → IsTruth a t f → IsTruth a t g → (store : List ℕ) → f store ≡ g store
one-truth a t f g h i store = truth-one (f store) (g store) (sym (h.told store) ∙ i.told store)

pub same-truths : (a : Table) (s t : TermId) (f g : List ℕ → Bool) → s.0 ≡ t.0 → IsTruth a s f → IsTruth a t g → (store : List ℕ) → f store ≡ g store
same-truths a s t f g e h i =
    let q : s ≡ t = ap (λ (n : ℕ). let id : TermId = record { 0 = n } in id) e in
    one-truth a t f g (subst (λ (u : TermId). IsTruth a u f) q h) i

pub end-value : (a : Table) (t : TermId) (n : ℕ) (v : Bool) (f : List ℕ → Bool) → IsTable a → slice_get a.terms t.0 ≡ Some (Constant 1 n)
    → n ≡ truth v → IsTruth a t f → (store : List ℕ) → f store ≡ v
end-value a t n v f is s e h = one-truth a t f (λ store. v) h (put-end a t n (λ store. v) is s (λ store. e))

pub complement-value : (a : Table) (t u : TermId) (f g : List ℕ → Bool) → IsTable a → slice_get a.terms t.0 ≡ Some (Not u)
    → IsTruth a t f → IsTruth a u g → (store : List ℕ) → f store ≡ not (g store)
complement-value a t u f g is s h i = one-truth a t f (λ store. not (g store)) h (put-not a a u t g is (extends-none a) s i)

pub complement-of : (a : Table) (t u w : TermId) (f g : List ℕ → Bool) → IsTable a → slice_get a.terms t.0 ≡ Some (Not u) → u.0 ≡ w.0
    → IsTruth a t f → IsTruth a w g → (store : List ℕ) → f store ≡ not (g store)
complement-of a t u w f g is s e h i =
    let q : w ≡ u = ap (λ (n : ℕ). let id : TermId = record { 0 = n } in id) (sym e) in
    complement-value a t u f g is s h (subst (λ (x : TermId). IsTruth a x g) q i)

pub end-false : (v : Bool) → not v ≡ true → v ≡ false
end-false true e = absurd cc
end-false false e = refl

-- of two truths joined
pub merge-same : (b x y : Bool) → x ≡ y → merged b x y ≡ x
merge-same true true y e = refl
merge-same true false y e = sym e
merge-same false true y e = sym e
merge-same false false y e = refl

pub merge-left : (b x y : Bool) → x ≡ b → merged b x y ≡ x
merge-left true true y e = refl
merge-left true false y e = absurd cc
merge-left false true y e = absurd cc
merge-left false false y e = refl

pub merge-neutral : (b x y : Bool) → y ≡ not b → merged b x y ≡ x
merge-neutral true true y e = refl
merge-neutral true false y e = e
merge-neutral false true y e = e
merge-neutral false false y e = refl

pub merge-right : (b x y : Bool) → y ≡ b → merged b x y ≡ y
merge-right true true y e = sym e
merge-right true false y e = refl
merge-right false true y e = refl
merge-right false false y e = sym e

pub merge-other : (b x y : Bool) → x ≡ not b → merged b x y ≡ y
merge-other true true y e = absurd cc
merge-other true false y e = refl
merge-other false true y e = refl
merge-other false false y e = absurd cc

pub merge-complement : (b x y : Bool) → x ≡ not y → merged b x y ≡ b
merge-complement true true y e = refl
merge-complement true false true e = refl
merge-complement true false false e = absurd cc
merge-complement false true true e = absurd cc
merge-complement false true false e = refl
merge-complement false false y e = refl

pub merge-complemented : (b x y : Bool) → y ≡ not x → merged b x y ≡ b
merge-complemented true true y e = refl
merge-complemented true false y e = e
merge-complemented false true y e = e
merge-complemented false false y e = refl

-- what was settled
pub left-truth : (b : Bool) (a c : Table) (s t : TermId) (f g : List ℕ → Bool) (r : Settled) → r ≡ Left → IsSettled b f g r → IsTruth a s f
    → IsTruth a s (λ store. merged b (f store) (g store))
left-truth b a c s t f g r e k h =
    let m : (store : List ℕ) → merged b (f store) (g store) ≡ f store = subst (IsSettled b f g) e k in
    same-truth a s f (λ store. merged b (f store) (g store)) (λ store. sym (m store)) h

pub right-truth : (b : Bool) (a c : Table) (s t : TermId) (f g : List ℕ → Bool) (r : Settled) → r ≡ Right → IsSettled b f g r → IsTruth a t g
    → IsTruth a t (λ store. merged b (f store) (g store))
right-truth b a c s t f g r e k h =
    let m : (store : List ℕ) → merged b (f store) (g store) ≡ g store = subst (IsSettled b f g) e k in
    same-truth a t g (λ store. merged b (f store) (g store)) (λ store. sym (m store)) h

pub swallowed-truth : {E : Type 0} (o : Result TermId E) (b v : Bool) (c : Table) (f g : List ℕ → Bool) (r : Settled) → r ≡ Swallowed → IsSettled b f g r
    → v ≡ b → IfOk o (λ t. IsTruth c t (λ store. v)) → IfOk o (λ t. IsTruth c t (λ store. merged b (f store) (g store)))
swallowed-truth o b v c f g r e k q h =
    let m : (store : List ℕ) → merged b (f store) (g store) ≡ b = subst (IsSettled b f g) e k in
    same-result o c (λ store. v) (λ store. merged b (f store) (g store)) (λ store. q ∙ sym (m store)) h

pub end-truth : {E : Type 0} (r : Result TermId E) (b : Table) (v : Bool) → v ≡ true → IsTable b → IfOk r (λ id. slice_get b.terms id.0 ≡ Some (Constant 1 1))
    → IfOk r (λ id. IsTruth b id (λ store. v))
end-truth r b v e is s = same-result r b (λ store. true) (λ store. v) (λ store. sym e) (end-result r b 1 (omega arith) is s)

pub end-untruth : {E : Type 0} (r : Result TermId E) (b : Table) (v : Bool) → v ≡ false → IsTable b → IfOk r (λ id. slice_get b.terms id.0 ≡ Some (Constant 1 0))
    → IfOk r (λ id. IsTruth b id (λ store. v))
end-untruth r b v e is s = same-result r b (λ store. false) (λ store. v) (λ store. sym e) (end-result r b 0 (omega arith) is s)

pub same-by : (x y : Bool) → ((x && y) || not (x || y)) ≡ choice x y (not y)
same-by true true = refl
same-by true false = refl
same-by false true = refl
same-by false false = refl
