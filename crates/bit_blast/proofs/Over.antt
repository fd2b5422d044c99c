-- What each call holds fits the tables that it fitted before.
use Rattle.std.proofs.Common.{◌≡◌, ℕ, ◌+◌, ◌≤◌, ◌<◌, length, List, [], ◌∷◌, map, take, drop, arith, ap, sym, ◌∙◌, refl, suc, zero, ltb, subst, slice_index, IfOk, Result, Ok, Err}
use Rattle.std.specs.Prelude.{Option, Some, None}
use Rattle.std.proofs.lemmas.Bool.{false≢true, ltb-true}
use Rattle.prop.specs.declared.Lit.{Lit}
use Rattle.bit_gates.specs.Quotients.{selected}
use Rattle.bit_gates.proofs.Within.{chosen}
use Rattle.bit_gates.proofs.DivideLaws.{selected-length}
use Rattle.bit_words.specs.Folding.{folded_made}
use Rattle.bit_words.specs.Words.{spelled_of}
use Rattle.bit_words.specs.Elements.{decoded, stored, AllLong}
use Rattle.bv_term.specs.WellFormed.{Table}
use Rattle.bit_blast.specs.Done.{Known}
use Rattle.bit_blast.specs.Emission.{cell_at}
use Rattle.bit_blast.specs.Held.{Held, fresh_lits, fresh_cells, placed, replaced, known_index, store_open, store_in, store_of, begun, new_of, rebind_of, renew_of, IsOver, above_all}
use Rattle.bit_blast.proofs.Lengths.{folded-outs}
use Rattle.bit_blast.proofs.Steps.{stored-many}

pub cell-width : (cells : List (List Lit)) (k : ℕ) → length (cell_at cells k) ≡ slice_index (map length cells) k
cell-width [] k = refl
cell-width (c ∷ cs) zero = refl
cell-width (c ∷ cs) (suc k) = cell-width cs k

fresh-width : (n w : ℕ) → length (fresh_lits n w) ≡ w
fresh-width n zero = refl
fresh-width n (suc w) = ap suc (fresh-width (suc n) w)

pub fresh-widths : (n : ℕ) (ws : List ℕ) → map length (fresh_cells n ws) ≡ ws
fresh-widths n [] = refl
fresh-widths n (w ∷ ws) = ap (λ (t : ℕ). t ∷ map length (fresh_cells (n + w) ws)) (fresh-width n w) ∙ ap (λ (t : List ℕ). w ∷ t) (fresh-widths (n + w) ws)

pub over-none : (table : Table) (next : ℕ) (one : Option Lit) (cells : List (List Lit)) → map length cells ≡ table.cells
    → IsOver table (record { next = next; one = one; cells = cells; done = [] })
over-none table next one cells e = record { cells = e; done = λ k h. absurd (false≢true h) }

pub over-new : (cs : List (List Lit)) (ws : List ℕ) (table : Table) → table.cells ≡ ws → IsOver table (new_of cs ws)
over-new cs ws table e = over-none table _ None (fresh_cells (above_all 0 cs) ws) (fresh-widths (above_all 0 cs) ws ∙ sym e)

pub placed-widths : (cells : List (List Lit)) (k : ℕ) (to : List Lit) → length to ≡ length (cell_at cells k) → map length (placed cells k to) ≡ map length cells
placed-widths [] k to e = refl
placed-widths (c ∷ cs) zero to e = ap (λ (t : ℕ). t ∷ map length cs) e
placed-widths (c ∷ cs) (suc k) to e = ap (λ (t : List ℕ). length c ∷ t) (placed-widths cs k to e)

pub over-rebind : (cell : ℕ) (to : List Lit) (h : Held) (table : Table) → length to ≡ length (cell_at h.cells cell) → IsOver table h → IsOver table (rebind_of cell to h)
over-rebind cell to h table e o = over-none table h.next h.one (placed h.cells cell to) (placed-widths h.cells cell to e ∙ o.cells)

pub over-renew : (h : Held) (table : Table) → IsOver table h → IsOver table (renew_of h)
over-renew h table o = over-none table h.next None h.cells o.cells

pub long-at : (w : ℕ) (cells : List (List Lit)) (f m k : ℕ) → AllLong w (take m (drop f cells)) → k < m → f + m ≤ length cells → length (cell_at cells (f + k)) ≡ w
long-at w cells f zero k h lt le = absurd (omega arith)
long-at w [] zero (suc m) k h lt le = absurd (omega arith)
long-at w (c ∷ cs) zero (suc m) zero h lt le = h.0
long-at w (c ∷ cs) zero (suc m) (suc k) h lt le =
    let e : 0 + suc k ≡ suc (0 + k) = omega arith in
    ap (λ (i : ℕ). length (cell_at (c ∷ cs) i)) e ∙ long-at w cs zero m k h.1 (omega arith) (omega arith)
long-at w [] (suc f) (suc m) k h lt le = absurd (omega arith)
long-at w (c ∷ cs) (suc f) (suc m) k h lt le =
    let e : suc f + k ≡ suc (f + k) = omega arith in
    ap (λ (i : ℕ). length (cell_at (c ∷ cs) i)) e ∙ long-at w cs f (suc m) k h lt (omega arith)

pub replaced-widths : (w : ℕ) (cells : List (List Lit)) (f : ℕ) (news : List (List Lit)) → AllLong w news
    → ((k : ℕ) → k < length news → length (cell_at cells (f + k)) ≡ w) → map length (replaced cells f news) ≡ map length cells
replaced-widths w cells f [] h g = refl
replaced-widths w cells f (c ∷ cs) h g =
    let i : map length (replaced cells (suc f) cs) ≡ map length cells
    = replaced-widths w cells (suc f) cs h.1 (λ k lt. let e : suc f + k ≡ f + suc k = omega arith in ap (λ (t : ℕ). length (cell_at cells t)) e ∙ g (suc k) (omega arith)) in
    let z : f ≡ f + 0 = omega arith in
    let at : length (cell_at (replaced cells (suc f) cs) f) ≡ w
    = cell-width (replaced cells (suc f) cs) f ∙ (ap (λ (t : List ℕ). slice_index t f) i ∙ (sym (cell-width cells f)
    ∙ (ap (λ (t : ℕ). length (cell_at cells t)) z ∙ g 0 (omega arith)))) in
    placed-widths (replaced cells (suc f) cs) f c (h.0 ∙ sym at) ∙ i

pub stored-long : (w : ℕ) (one : Lit) (n : ℕ) (es : List Lit) (cs : List (List Lit)) (value : List Lit) → length value ≡ w → AllLong w cs
    → AllLong w (stored one n es cs value).cells
stored-long w one n [] cs value e h = tt
stored-long w one n (p ∷ es) [] value e h = tt
stored-long w one n (p ∷ es) (c ∷ cs) value e h =
    let s = folded_made one n (selected n p value c) in
    (folded-outs one n (selected n p value c) ∙ (selected-length n p value c (e ∙ sym h.0) ∙ e), stored-long w one (n + length s.defs) es cs value e h.1)

pub store-open-long : (one : Lit) (n : ℕ) (cs : List (List Lit)) (index value : List Lit) → AllLong (length value) cs
    → AllLong (length value) (store_open one n cs index value).cells
store-open-long one n cs index value h =
    let d = folded_made one n (decoded n one index (length cs)) in
    stored-long (length value) one (n + length d.defs) d.outs cs value refl h

take-many : (m : ℕ) (cs : List (List Lit)) → length (take m cs) ≤ m
take-many zero cs = omega arith
take-many (suc m) [] = omega arith
take-many (suc m) (c ∷ cs) = let i = take-many m cs in omega (arith, i)

store-widths : (one : Lit) (n : ℕ) (cells : List (List Lit)) (f m : ℕ) (index value : List Lit) (o : Option ℕ) → f + m ≤ length cells
    → AllLong (length value) (take m (drop f cells)) → map length (store_in one n cells f m index value o).cells ≡ map length cells
store-widths one n cells f m index value (Some k) le h =
    chosen {A = List (List Lit)} (ltb k m) (placed cells (f + k) value) cells (λ (x : List (List Lit)). map length x ≡ map length cells)
    (λ t. placed-widths cells (f + k) value (sym (long-at (length value) cells f m k h (ltb-true k m t) le)))
    (λ t. refl)
store-widths one n cells f m index value None le h =
    let cs = take m (drop f cells) in
    let d = folded_made one n (decoded n one index (length cs)) in
    let news = (stored one (n + length d.defs) d.outs cs value).cells in
    let a = stored-long (length value) one (n + length d.defs) d.outs cs value refl h in
    let b = stored-many one (n + length d.defs) d.outs cs value in
    let c = take-many m (drop f cells) in
    replaced-widths (length value) cells f news a (λ k lt. long-at (length value) cells f m k h (omega (arith, lt, b, c)) le)

pub over-store : (f m : ℕ) (index value : List Lit) (h : Held) (table : Table) → f + m ≤ length h.cells
    → AllLong (length value) (take m (drop f h.cells)) → IsOver table h → IsOver table (store_of f m index value h).held
over-store f m index value h table le l o =
    let b = begun h.next h.one in
    let s = store_in b.lit (h.next + length b.defs) h.cells f m index value (known_index m (spelled_of b.lit index)) in
    over-none table _ (Some b.lit) s.cells
    (store-widths b.lit (h.next + length b.defs) h.cells f m index value (known_index m (spelled_of b.lit index)) le l ∙ o.cells)

pub over-from : (table : Table) (next : ℕ) (one : Option Lit) (cells : List (List Lit)) (done : List Known) → done ≡ [] → map length cells ≡ table.cells
    → IsOver table (record { next = next; one = one; cells = cells; done = done })
over-from table next one cells done e h =
    subst (λ (x : List Known). IsOver table (record { next = next; one = one; cells = cells; done = x })) (sym e) (over-none table next one cells h)

pub if-ok : {A : Type 0} {E : Type 0} (r : Result A E) (P : Type 0) → P → IfOk r (λ x. P)
if-ok (Ok x) P h = h
if-ok (Err x) P h = tt

-- what stands after a value was stored
pub over-stored : (table : Table) (next n : ℕ) (one : Lit) (now : Option Lit) (h : Held) (old cells : List (List Lit)) (done : List Known) (f m : ℕ) (index value : List Lit) (o : Option ℕ)
    → old ≡ h.cells → done ≡ [] → f + m ≤ length h.cells → AllLong (length value) (take m (drop f h.cells))
    → cells ≡ (store_in one n old f m index value o).cells → IsOver table h
    → IsOver table (record { next = next; one = now; cells = cells; done = done })
over-stored table next n one now h old cells done f m index value o e d le l c i =
    over-from table next now cells done d
    (ap (λ (x : List (List Lit)). map length x) (c ∙ ap (λ (x : List (List Lit)). (store_in one n x f m index value o).cells) e)
    ∙ (store-widths one n h.cells f m index value o le l ∙ i.cells))
