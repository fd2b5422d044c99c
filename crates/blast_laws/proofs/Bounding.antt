-- How much calls add.
use Rattle.std.proofs.Common.{◌≡◌, ℕ, ◌+◌, ◌≤◌, ◌<◌, length, List, ◌∷◌, ◌++◌, map, arith, refl, suc, zero, Bool, not, ◌&&◌, eqb, Option, Some, None}
use Rattle.prop.specs.declared.Lit.{Lit}
use Rattle.bit_gates.proofs.Within.{chosen}
use Rattle.bit_gates.proofs.Weights.{weights, weights-append, net-count}
use Rattle.bit_words.specs.Words.{spelled_of}
use Rattle.bv_term.specs.WellFormed.{Table, IsTable, widths}
use Rattle.bit_blast.specs.Done.{Known, lits_of, is_done}
use Rattle.bit_blast.specs.Cone.{falling, cone_of}
use Rattle.bit_blast.specs.Emission.{emission, emitted, term_at}
use Rattle.bit_blast.specs.Held.{begun, store_in, known_index}
use Rattle.bit_blast.proofs.Ready.{fits-at}
use Rattle.bit_blast.proofs.Cones.{DoneFit}
use Rattle.blast_laws.specs.Bounds.{bound_of, bounds_of, constant_bound}
use Rattle.blast_laws.specs.Laws.{TermsSmall, StoresSmall}
use Rattle.blast_laws.proofs.Turns.{with-wants, IsFreshNeed, fresh-wants, fresh-one, turn}
use Rattle.blast_laws.proofs.Sizes.{term-few, store-few, bound-same}

rising-few : (table : Table) (one : Lit) (cells : List (List Lit)) (n : ℕ) (done : List Known)
    → IsTable table → map length cells ≡ table.cells → DoneFit table done
    → (k : ℕ) (need : ℕ → Bool) → k ≤ length table.terms → IsFreshNeed (is_done done) need
    → weights (emitted one cells table.terms n done (falling table.terms (is_done done) k need)).defs ≤ bounds_of table (falling table.terms (is_done done) k need)
rising-few table one cells n done h e d zero need le fresh = omega arith
rising-few table one cells n done h e d (suc k) need le fresh =
    let ts = table.terms in
    let D = is_done done in
    let up = falling ts D k (with-wants ts D k need) in
    let down = falling ts D k need in
    chosen {A = List ℕ} (need k) (k ∷ up) down (λ (ks : List ℕ). weights (emitted one cells ts n done ks).defs ≤ bounds_of table ks)
    (λ y.
    let i = rising-few table one cells n done h e d k (with-wants ts D k need) (omega (arith, le)) (fresh-wants ts D k need fresh) in
    let r = emitted one cells ts n done up in
    let N = n + length r.defs in
    let t = term_at ts k in
    let lt : k < length ts = omega (arith, le) in
    let a = fits-at table k h lt in
    let u = turn table one cells n done h e d k need lt fresh y a.0 a.1 in
    let m = emission one cells (lits_of r.done) N t in
    let z = term-few one cells (lits_of r.done) N table.cells a.0 t h.cells u.sizes e a.1.fits u.long in
    let same : bound_of table.cells a.0 t ≡ bound_of table.cells (widths table) t = bound-same table.cells a.0 (widths table) t k a.1.fits a.1.many a.1.same in
    omega (arith, z, same, i, weights-append r.defs m.defs))
    (λ y. rising-few table one cells n done h e d k need (omega (arith, le)) fresh)

begun-few : (n : ℕ) (one : Option Lit) → weights (begun n one).defs ≤ constant_bound one
begun-few n None = omega arith
begun-few n (Some l) = omega arith

pub terms_small : TermsSmall
terms_small table h t is o lt =
    let b = begun h.next h.one in
    let N = h.next + length b.defs in
    let r = emitted b.lit h.cells table.terms N h.done (cone_of table.terms h.done t) in
    let i = rising-few table b.lit h.cells N h.done is o.cells o.done (suc t) (λ j. eqb t j && not (is_done h.done j)) (omega (arith, lt)) (fresh-one (is_done h.done) (λ j. eqb t j)) in
    omega (arith, i, begun-few h.next h.one, net-count h.next (b.defs ++ r.defs), weights-append b.defs r.defs)

pub stores_small : StoresSmall
stores_small h f m index value some few le al =
    let b = begun h.next h.one in
    let N = h.next + length b.defs in
    let s = store_in b.lit N h.cells f m index value (known_index m (spelled_of b.lit index)) in
    let i = store-few b.lit N h.cells f m index value (known_index m (spelled_of b.lit index)) refl some few le al in
    omega (arith, i, begun-few h.next h.one, net-count h.next (b.defs ++ s.defs), weights-append b.defs s.defs)
