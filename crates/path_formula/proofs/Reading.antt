-- Going over a term's parts, the highest first, finds the cells that it reads.
use Rattle.std.proofs.Common.{◌≡◌, ℕ, ◌+◌, ◌-◌, ◌≤◌, ◌<◌, length, List, [], ◌∷◌, arith, ap, sym, ◌∙◌, suc, subst, ◌||◌, Bool}
use Rattle.std.specs.Prelude.{slice_get, Some}
use Rattle.std.specs.List.Sorted.{IsPermutation}
use Rattle.std.specs.Ordering.{nat_cmp}
use Rattle.std.specs.BinaryHeap.{IsUpperBound}
use Rattle.std.specs.BTreeSet.{insert_key}
use Rattle.bv_term.specs.declared.term.Term.{Term}
use Rattle.bv_term.specs.WellFormed.{Table}
use Rattle.bit_blast.specs.Cone.{numbers, uses_of, operands_at, falling, pending, Wanted, AllWanted}
use Rattle.bit_blast.specs.Done.{is_done}
use Rattle.bit_blast.specs.Emission.{term_at}
use Rattle.bit_blast.proofs.ConeLemmas.{falling-next, falling-again, falling-end, falling-start, operands-at}
use Rattle.bit_blast.proofs.Steps.{term-at}
use Rattle.path_formula.specs.Reads.{cells_from, span_of, with_cells, with_read, with_terms, is_needed, some_needed}

from-next : (first count k : ℕ) → k < count → cells_from (first + k) (count - k) ≡ (first + k) ∷ cells_from (first + (k + 1)) (count - (k + 1))
from-next first count k lt =
    let a : count - k ≡ suc (count - (k + 1)) = omega arith in
    let b : first + k + 1 ≡ first + (k + 1) = omega arith in
    ap (λ (t : ℕ). cells_from (first + k) t) a ∙ ap (λ (t : ℕ). (first + k) ∷ cells_from t (count - (k + 1))) b

-- one more cell
pub need_more : (first count k : ℕ) (whole now new : List ℕ) → k < count → whole ≡ with_cells now (cells_from (first + k) (count - k))
    → new ≡ insert_key nat_cmp now (first + k) → whole ≡ with_cells new (cells_from (first + (k + 1)) (count - (k + 1)))
need_more first count k whole now new lt e h =
    e ∙ (ap (λ (t : List ℕ). with_cells now t) (from-next first count k lt)
    ∙ ap (λ (t : List ℕ). with_cells t (cells_from (first + (k + 1)) (count - (k + 1)))) (sym h))

pub some_more : (first count k : ℕ) (needed : List ℕ) (whole : Bool) → k < count → whole ≡ some_needed needed (cells_from (first + k) (count - k))
    → whole ≡ (is_needed needed (first + k) || some_needed needed (cells_from (first + (k + 1)) (count - (k + 1))))
some_more first count k needed whole lt e = e ∙ ap (λ (t : List ℕ). some_needed needed t) (from-next first count k lt)

-- the beginning
pub read_start : (table : Table) (t : ℕ) (needed new : List ℕ) → Wanted [] new (is_done []) t
    → with_read table t needed ≡ with_terms table.terms needed (falling table.terms (is_done []) (suc t) (pending new))
read_start table t needed new w = ap (λ (x : List ℕ). with_terms table.terms needed x) (falling-start table.terms [] t new w)

-- one turn of the loop
pub read_step : (ts : List Term) (below k : ℕ) (old rest new ks needed more whole : List ℕ) (t : Term)
    → whole ≡ with_terms ts needed (falling ts (is_done []) below (pending old)) → IsPermutation old (k ∷ rest) → IsUpperBound nat_cmp k rest → k < below
    → AllWanted rest new (is_done []) ks → slice_get ts k ≡ Some t → ks ≡ numbers (uses_of t)
    → more ≡ with_cells needed (cells_from (span_of t).first (span_of t).count)
    → whole ≡ with_terms ts more (falling ts (is_done []) k (pending new))
read_step ts below k old rest new ks needed more whole t e h u lt w g o m =
    let w2 : AllWanted rest new (is_done []) (operands_at ts k)
    = subst (λ (x : List ℕ). AllWanted rest new (is_done []) x) (o ∙ sym (operands-at ts k t g)) w in
    let F = falling ts (is_done []) k (pending new) in
    let s : with_cells needed (cells_from (span_of (term_at ts k)).first (span_of (term_at ts k)).count) ≡ more
    = ap (λ (x : Term). with_cells needed (cells_from (span_of x).first (span_of x).count)) (term-at ts k t g) ∙ sym m in
    e ∙ (ap (λ (x : List ℕ). with_terms ts needed x) (falling-next ts (is_done []) below k old rest new h u lt w2)
    ∙ ap (λ (x : List ℕ). with_terms ts x F) s)

pub read_again : (ts : List Term) (below k : ℕ) (old rest needed whole : List ℕ)
    → whole ≡ with_terms ts needed (falling ts (is_done []) below (pending old)) → IsPermutation old (k ∷ rest) → below ≤ k
    → whole ≡ with_terms ts needed (falling ts (is_done []) below (pending rest))
read_again ts below k old rest needed whole e h le =
    e ∙ ap (λ (x : List ℕ). with_terms ts needed x) (falling-again ts (is_done []) below k old rest h le)

pub read_end : (ts : List Term) (below : ℕ) (old needed whole : List ℕ)
    → whole ≡ with_terms ts needed (falling ts (is_done []) below (pending old)) → length old ≡ 0 → needed ≡ whole
read_end ts below old needed whole e l = sym (e ∙ ap (λ (x : List ℕ). with_terms ts needed x) (falling-end ts (is_done []) below old l))
