-- Lists of formulas, over a table that grows.
use Rattle.std.proofs.Common.{◌≡◌, ℕ, ◌+◌, List, [], ◌∷◌, ◌++◌, Some, slice_get, zero, suc, refl, sym, ap, ◌∙◌, subst, arith, append_assoc, append-nil, length, length-append}
use Rattle.std.specs.Prelude.{All}
use Rattle.std.proofs.lemmas.List.Elements.{All-nil, All-cons, All-append, All-push, All-weaker}
use Rattle.bv_term.specs.declared.term.TermId.{TermId}
use Rattle.bv_term.specs.declared.term.Term.{Term}
use Rattle.bv_term.specs.declared.term.Term.TheVariants.{Constant}
use Rattle.bv_term.specs.WellFormed.{Table}
use Rattle.bv_term.specs.Laws.{Extends}
use Rattle.c_graph.specs.Shape.{HasWidth}
use Rattle.formula_diagrams.specs.Writings.{IsOneBit}
use Rattle.bv_term.proofs.Staying.{widths_stay}
use Rattle.interpolants.specs.Cuts.{Adds, AreFormulas, IsEnd}

get-left : {A : Type 0} (xs ys : List A) (k : ℕ) (a : A) → slice_get xs k ≡ Some a → slice_get (xs ++ ys) k ≡ Some a
get-left [] ys k a h = absurd cc
get-left (x ∷ xs) ys zero a h = h
get-left (x ∷ xs) ys (suc k) a h = get-left xs ys k a h

pub get-end : {A : Type 0} (xs : List A) (x : A) → slice_get (xs ++ x ∷ []) (length xs) ≡ Some x
get-end [] x = refl
get-end (y ∷ xs) x = get-end xs x

pub has-one : (a : Table) (t : TermId) → IsOneBit a t → HasWidth a t 1
has-one a t h = (h.there, h.width)

pub width-stays : (a b : Table) (t : TermId) → Extends a b → HasWidth a t 1 → HasWidth b t 1
width-stays a b t g h = (omega (arith, h.0, ap length g.1.1, length-append a.terms g.1.0), widths_stay a b t g h.0 ∙ h.1)

pub end-stays : (a b : Table) (n : ℕ) (t : TermId) → Extends a b → IsEnd a n t → IsEnd b n t
end-stays a b n t g h =
    subst (λ (ts : List Term). slice_get ts t.0 ≡ Some (Constant 1 n)) (sym g.1.1) (get-left a.terms g.1.0 t.0 (Constant 1 n) h)

all-stay : (a b : Table) (ts : List TermId) → Extends a b → All (λ t. HasWidth a t 1) ts → All (λ t. HasWidth b t 1) ts
all-stay a b ts g h = All-weaker (λ t. HasWidth a t 1) (λ t. HasWidth b t 1) (λ t k. width-stays a b t g k) ts h

pub adds-none : (a : Table) (ts : List TermId) → Adds a 0 ts ts
adds-none a ts = record { more = []; parts = sym (append-nil ts); count = refl; bits = All-nil (λ t. HasWidth a t 1) }

pub adds-push : (a b : Table) (n m : ℕ) (old new newer : List TermId) (t : TermId) → Extends a b → Adds a n old new → IsOneBit b t
    → newer ≡ new ++ t ∷ [] → n + 1 ≡ m → Adds b m old newer
adds-push a b n m old new newer t g h w e q = record {
  more = h.more ++ t ∷ [];
  parts = e ∙ ap (λ (ts : List TermId). ts ++ t ∷ []) h.parts ∙ append_assoc old h.more (t ∷ []);
  count = omega (arith, length-append h.more (t ∷ []), h.count, q);
  bits = All-push (λ t. HasWidth b t 1) h.more t (all-stay a b h.more g h.bits) (has-one b t w);
}

pub adds-same : (a : Table) (n m : ℕ) (old new : List TermId) → n ≡ m → Adds a n old new → Adds a m old new
adds-same a n m old new e h = subst (λ (k : ℕ). Adds a k old new) e h

-- a path without a step
pub formulas-one : (a b : Table) (steps n : ℕ) (t : TermId) (old new : List TermId) → old ≡ t ∷ [] → Extends a b → IsOneBit a t
    → IsEnd a 1 t → Adds b n old new → steps ≡ 0 → n ≡ 0 → AreFormulas b steps new
formulas-one a b steps n t old new e g one end h z k =
    let fs : List TermId = (t ∷ []) ++ h.more in
    let q : new ≡ fs = h.parts ∙ ap (λ (ts : List TermId). ts ++ h.more) e in
    let P : TermId → Type 0 = λ t. HasWidth b t 1 in
    let made : AreFormulas b steps fs = record {
      count = omega (arith, h.count, z, k, length-append (t ∷ []) h.more);
      bits = All-append P (t ∷ []) h.more (All-cons P t [] (width-stays a b t g (has-one a t one)) (All-nil P)) h.bits;
      first = λ u s. let r : t ≡ u = cc in subst (IsEnd b 1) r (end-stays a b 1 t g end);
      last = λ u less s. absurd (omega (arith, less, z));
    } in
    subst (λ (ts : List TermId). AreFormulas b steps ts) (sym q) made

-- a path with steps
pub formulas-more : (a b c : Table) (steps n : ℕ) (t u : TermId) (old new newer : List TermId) → old ≡ t ∷ [] → Extends a b → Extends b c
    → Extends a c → IsOneBit a t → IsEnd a 1 t → Adds b n old new → n + 1 ≡ steps → IsOneBit c u → IsEnd c 0 u → newer ≡ new ++ u ∷ []
    → AreFormulas c steps newer
formulas-more a b c steps n t u old new newer e g i j one end h z two close f =
    let front : List TermId = (t ∷ []) ++ h.more in
    let q : newer ≡ front ++ u ∷ [] = f ∙ ap (λ (ts : List TermId). ts ++ u ∷ []) (h.parts ∙ ap (λ (ts : List TermId). ts ++ h.more) e) in
    let P : TermId → Type 0 = λ t. HasWidth c t 1 in
    let long : length front ≡ steps = omega (arith, h.count, z, length-append (t ∷ []) h.more) in
    let wide : All P front = All-append P (t ∷ []) h.more (All-cons P t [] (width-stays a c t j (has-one a t one)) (All-nil P)) (all-stay b c h.more i h.bits) in
    let made : AreFormulas c steps (front ++ u ∷ []) = record {
      count = omega (arith, long, length-append front (u ∷ []));
      bits = All-push P front u wide (has-one c u two);
      first = λ x s. let r : t ≡ x = cc in subst (IsEnd c 1) r (end-stays a c 1 t j end);
      last = λ x less s.
          let at : slice_get (front ++ u ∷ []) steps ≡ Some u = subst (λ (k : ℕ). slice_get (front ++ u ∷ []) k ≡ Some u) long (get-end front u) in
          let r : u ≡ x = cc in
          subst (IsEnd c 0) r close;
    } in
    subst (λ (ts : List TermId). AreFormulas c steps ts) (sym q) made
