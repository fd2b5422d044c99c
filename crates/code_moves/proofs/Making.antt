-- Which terms and operations are made: one equation after another.
use Rattle.std.proofs.Common.{◌≡◌, ℕ, List, [], ◌∷◌, ◌++◌, ap, ◌∙◌, subst, Result, Ok, Err}
use Rattle.std.specs.Prelude.{IfOk}
use Rattle.lv_base.specs.declared.fail.Memory.{Memory}
use Rattle.bv_term.specs.declared.term.TermId.{TermId}
use Rattle.c_graph.specs.declared.graph.Operation.{Operation}
use Rattle.c_graph.specs.declared.graph.Operation.TheVariants.{Set}
use Rattle.c_terms.specs.declared.words.Words.{Words}
use Rattle.c_terms.proofs.Choosing.{two, three}
use Rattle.code_moves.specs.Setting.{Site}
use Rattle.code_moves.specs.Made as made

pub four : {A B C D E : Type 0} (f : A → B → C → D → E) {a b : A} {c d : B} {x y : C} {u v : D} → a ≡ b → c ≡ d → x ≡ y → u ≡ v → f a c x u ≡ f b d y v
four f {a} {b} {c} {d} {x} {y} {u} {v} p q r s = ap (λ z. f z c x u) p ∙ three (f b) q r s

-- what was made is this too
pub so : {A B : Type 0} (r : Result A Memory) (x p q : B) → IfOk r (λ u. x ≡ p) → p ≡ q → IfOk r (λ u. x ≡ q)
so {A} {B} r x p q h e = subst (λ (z : B). IfOk r (λ u. x ≡ z)) e h

-- a slot gets the term that was made
pub then-filled : (r : Result (Unit {0}) Memory) (g : Site) (w : Words) (value : TermId) (xs ops : List Operation) (number : ℕ) (p : Words × TermId)
    → IfOk r (λ u. xs ≡ made.fill g ops number value) → (w, value) ≡ p → IfOk r (λ u. (w, xs) ≡ made.filled g p ops number)
then-filled (Ok u) g w value xs ops number p h e = ap (λ (ys : List Operation). (w, ys)) h ∙ ap (λ (q : Words × TermId). made.filled g q ops number) e
then-filled (Err z) g w value xs ops number p h e = tt

-- a slot gets a term that was there, behind what was written
pub then-fill : (r : Result (Unit {0}) Memory) (g : Site) (w : Words) (value same : TermId) (xs ops : List Operation) (number : ℕ) (p : Words × List Operation)
    → IfOk r (λ u. xs ≡ made.fill g ops number value) → (w, ops) ≡ p → value ≡ same → IfOk r (λ u. ◌≡◌ {A = Words × List Operation} (w, xs) (p.0, made.fill g p.1 number same))
then-fill (Ok u) g w value same xs ops number p h e k =
    ap (λ (ys : List Operation). (w, ys)) h ∙ two (λ (q : Words × List Operation) (t : TermId). (q.0, made.fill g q.1 number t)) e k
then-fill (Err z) g w value same xs ops number p h e k = tt

-- a cell gets the term that was made
pub set-made : (w : Words) (bits : TermId) (xs ops : List Operation) (cell n : ℕ) (p : Words × TermId) → xs ≡ ops ++ Set cell bits ∷ [] → cell ≡ n → (w, bits) ≡ p → ◌≡◌ {A = Words × List Operation} (w, xs) (p.0, ops ++ Set n p.1 ∷ [])
set-made w bits xs ops cell n p h e k =
    ap (λ (ys : List Operation). (w, ys)) h ∙ two (λ (m : ℕ) (q : Words × TermId). (q.0, ops ++ Set m q.1 ∷ [])) e k

-- beside words that stay
pub beside : {A : Type 0} (r : Result A Memory) (w : Words) (xs ys : List Operation) (z : Words × List Operation) → IfOk r (λ u. xs ≡ ys) → (w, ys) ≡ z → IfOk r (λ u. (w, xs) ≡ z)
beside (Ok u) w xs ys z h e = ap (λ (os : List Operation). (w, os)) h ∙ e
beside (Err z) w xs ys p h e = tt

-- a term is made behind an operation
pub kept-made : (r : Result TermId Memory) (w : Words) (xs ys : List Operation) (q : Words × TermId) (z : Words × List Operation × TermId)
    → xs ≡ ys → IfOk r (λ t. (w, t) ≡ q) → (q.0, ys, q.1) ≡ z → IfOk r (λ t. (w, xs, t) ≡ z)
kept-made (Ok t) w xs ys q z h e k = two (λ (os : List Operation) (p : Words × TermId). (p.0, os, p.1)) h e ∙ k
kept-made (Err x) w xs ys q z h e k = tt
