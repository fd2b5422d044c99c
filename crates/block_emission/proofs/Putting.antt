-- What is put: one equation after another.
use Rattle.std.proofs.Common.{◌≡◌, ◌↔◌, ◌∙◌, ◌<◌, ◌≤◌, ◌+◌, ◌-◌, ℕ, ap, arith, refl, sym, subst, Bool, true, false, if◌then◌else◌, Result, Ok, Err, Option, None, Some, List, [], ◌∷◌, drop, get_or, length}
use Rattle.std.specs.Prelude.{IfOk, is_none, is_some, not}
use Rattle.std.proofs.lemmas.List.{drop_more}
use Rattle.lv_base.specs.declared.fail.Memory.{Memory}
use Rattle.bv_term.specs.declared.term.TermId.{TermId}
use Rattle.bv_term.specs.declared.term.Term.{Term}
use Rattle.bv_term.specs.WellFormed.{Table, FitsTable}
use Rattle.bv_term.specs.Keys.{put_of}
use Rattle.c_graph.specs.declared.graph.NodeId.{NodeId}
use Rattle.c_terms.specs.Fitting.{fits_in}
use Rattle.c_terms.proofs.Choosing.{fits-iff}
use Rattle.block_emission.specs.declared.terms.Truths.{Truths}
use Rattle.block_emission.specs.declared.draft.Check.{Check}
use Rattle.block_emission.specs.Putting as made
use Rattle.block_emission.specs.Putting.{Sketch, truths_of, put_fit, put_unfit, put, with_truths, beside}

-- ---- One equation after another

pub two : {A B C : Type 0} (f : A → B → C) {a b : A} {c d : B} → a ≡ b → c ≡ d → f a c ≡ f b d
two f {a} {b} {c} {d} p q = ap (λ x. f x c) p ∙ ap (f b) q

-- the answer of a call is also this
pub thus : {A : Type 0} (r : Result A Memory) (P Q : A → Type 0) → ((x : A) → P x → Q x) → IfOk r P → IfOk r Q
thus (Ok x) P Q f h = f x h
thus (Err z) P Q f h = tt

-- what a call makes, of what is known of where it began
pub after : {A B : Type 0} (r : Result A Memory) (new : B) (f : B → B) (a b : B) → a ≡ b → IfOk r (λ u. new ≡ f a) → IfOk r (λ u. new ≡ f b)
after r new f a b e h = subst (λ x. IfOk r (λ u. new ≡ f x)) e h

pub to : {A B : Type 0} (r : Result A Memory) (new p q : B) → p ≡ q → IfOk r (λ u. new ≡ p) → IfOk r (λ u. new ≡ q)
to r new p q e h = subst (λ x. IfOk r (λ u. new ≡ x)) e h

pub with : {A B : Type 0} (r : Result A Memory) (new : B) (p q : B × A) → p ≡ q → IfOk r (λ x. (new, x) ≡ p) → IfOk r (λ x. (new, x) ≡ q)
with r new p q e h = subst (λ z. IfOk r (λ x. (new, x) ≡ z)) e h

-- ---- What is put

one-truth : (x y : Bool) (P : Type 0) → ((x ≡ true) ↔ P) → ((y ≡ true) ↔ P) → x ≡ y
one-truth true true P p q = refl
one-truth false false P p q = refl
one-truth true false P p q = sym (q.1 (p.0 refl))
one-truth false true P p q = p.1 (q.0 refl)

pub fits-as : (table : Table) (t : Term) (x y : Bool) → ((x ≡ true) ↔ FitsTable table t) → x ≡ y → fits_in table t ≡ y
fits-as table t x y h e = one-truth (fits_in table t) x (FitsTable table t) (fits-iff table t) h ∙ e

pub put-unfit : (w : Truths) (t : Term) (x : Bool) → ((x ≡ true) ↔ FitsTable w.terms t) → x ≡ false → put_unfit w ≡ put w t
put-unfit w t x h e = sym (ap (λ (z : Bool). if z then put_fit w t else put_unfit w) (fits-as w.terms t x false h e))

pub put-made : (r : Result TermId Memory) (w : Truths) (new : Table) (t : Term) (x : Bool) → ((x ≡ true) ↔ FitsTable w.terms t) → x ≡ true
    → IfOk r (λ id. (new, id) ≡ put_of w.terms t) → IfOk r (λ id. (truths_of new w.is_sound, id) ≡ put w t)
put-made (Ok id) w new t x h e m =
    let p : (truths_of new w.is_sound, id) ≡ put_fit w t = ap (λ (z : Table × TermId). (truths_of z.0 w.is_sound, z.1)) m in
    p ∙ sym (ap (λ (z : Bool). if z then put_fit w t else put_unfit w) (fits-as w.terms t x true h e))
put-made (Err z) w new t x h e m = tt

-- the terms of what is made
pub put-beside : (r : Result TermId Memory) (d : Sketch) (new : Truths) (p : Truths × TermId) → IfOk r (λ t. (new, t) ≡ p) → IfOk r (λ t. (with_truths d new, t) ≡ beside d p)
put-beside (Ok t) d new p h = ap (beside d) h
put-beside (Err z) d new p h = tt

-- ---- Loops

pub none-is : (o : Option ℕ) (b : Bool) → is_some o ≡ not b → b ≡ is_none o
none-is None true e = refl
none-is None false e = absurd cc
none-is (Some n) true e = absurd cc
none-is (Some n) false e = refl

-- one more check, from the last on
pub failed-step : (d0 d new : Sketch) (any more : Option TermId) (cs : List Check) (k : ℕ) (x : Check)
    → (d, any) ≡ made.some_failed d0 (drop (length cs - k) cs) → k < length cs
    → (new, more) ≡ made.fail_with (made.read d (get_or cs (length cs - 1 - k) x).cell) any
    → (new, more) ≡ made.some_failed d0 (drop (length cs - (k + 1)) cs)
failed-step d0 d new any more cs k x h lt m =
    let i = length cs - 1 - k in
    let c = get_or cs i x in
    let F : Sketch × Option TermId → Sketch × Option TermId = λ p. made.fail_with (made.read p.0 c.cell) p.1 in
    let within : i < length cs = omega (arith, lt) in
    let behind : i + 1 ≡ length cs - k = omega (arith, lt) in
    let before : length cs - (k + 1) ≡ i = omega (arith, lt) in
    let one : drop (length cs - (k + 1)) cs ≡ c ∷ drop (length cs - k) cs =
    ap (λ (j : ℕ). drop j cs) before ∙ drop_more cs i x within ∙ ap (λ (j : ℕ). c ∷ drop j cs) behind in
    m ∙ ap F h ∙ sym (ap (made.some_failed d0) one)

-- no check has another behind it
pub chain-done : (d : Sketch) (from : NodeId) (cs : List Check) → length cs ≤ 1 → made.check_chain d from cs ≡ d
chain-done d from [] h = refl
chain-done d from (c ∷ []) h = refl
chain-done d from (c ∷ next ∷ cs) h = absurd (omega (arith, h))
