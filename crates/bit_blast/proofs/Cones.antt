-- Over a table, the terms of a cone are emitted each once, after their operands.
use Rattle.std.proofs.Common.{◌≡◌, ℕ, ◌+◌, ◌≤◌, ◌<◌, length, List, [], ◌∷◌, ◌++◌, map, arith, ap, sym, ◌∙◌, refl, suc, zero, Bool, true, false, not, ◌&&◌, ◌||◌, cond, eqb, subst, ◌⊎◌, inl, inr, slice_index, get_or}
use Rattle.std.specs.Prelude.{Option}
use Rattle.std.proofs.lemmas.Bool.{eqb-true, eq-eqb, false≢true}
use Rattle.prop.specs.declared.Lit.{Lit}
use Rattle.prop.specs.Trues.{listed}
use Rattle.bit_gates.proofs.Within.{chosen}
use Rattle.bv_term.specs.declared.term.Term.{Term}
use Rattle.bv_term.specs.WellFormed.{Table, IsTable, widths}
use Rattle.bit_blast.specs.Done.{Known, lits_of, is_done}
use Rattle.bit_blast.specs.Cone.{uses_of, numbers, operands_at, wants, falling, cone_of}
use Rattle.bit_blast.specs.Emission.{emission, AllReady, emitted, term_at}
use Rattle.bit_blast.specs.Held.{IsOver}
use Rattle.bit_blast.proofs.Ready.{fits-at, widths-at, term-ready, operand-below}

split : (b : Bool) → (b ≡ true) ⊎ (b ≡ false)
split true = inl refl
split false = inr refl

-- looking among terms that are done, and one more
pub is_done-more : (ds : List Known) (k : ℕ) (ls : List Lit) (j : ℕ) → is_done (ds ++ record { term = k; lits = ls } ∷ []) j ≡ (is_done ds j || (eqb k j || false))
is_done-more [] k ls j = refl
is_done-more (d ∷ ds) k ls j = ap (λ b. eqb d.term j || b) (is_done-more ds k ls j) ∙ by (eqb d.term j) (is_done ds j) (eqb k j)
  where
    by : (a b c : Bool) → (a || (b || (c || false))) ≡ ((a || b) || (c || false))
    by true b c = refl
    by false b c = refl

pub lits_of-first : (ds : List Known) (k : ℕ) (ls : List Lit) (j : ℕ) → is_done ds j ≡ true → lits_of (ds ++ record { term = k; lits = ls } ∷ []) j ≡ lits_of ds j
lits_of-first [] k ls j h = absurd (false≢true h)
lits_of-first (d ∷ ds) k ls j h = by (eqb d.term j) refl (λ g. lits_of-first ds k ls j g)
  where
    by : (b : Bool) → b ≡ eqb d.term j → (is_done ds j ≡ true → lits_of (ds ++ record { term = k; lits = ls } ∷ []) j ≡ lits_of ds j)
        → cond b d.lits (lits_of (ds ++ record { term = k; lits = ls } ∷ []) j) ≡ cond b d.lits (lits_of ds j)
    by true e f = refl
    by false e f = f (ap (λ b. b || is_done ds j) e ∙ h)

pub lits_of-last : (ds : List Known) (k : ℕ) (ls : List Lit) → is_done ds k ≡ false → lits_of (ds ++ record { term = k; lits = ls } ∷ []) k ≡ ls
lits_of-last [] k ls h = ap (λ b. cond b ls []) (eq-eqb k k refl)
lits_of-last (d ∷ ds) k ls h = by (eqb d.term k) refl (λ g. lits_of-last ds k ls g)
  where
    by : (b : Bool) → b ≡ eqb d.term k → (is_done ds k ≡ false → lits_of (ds ++ record { term = k; lits = ls } ∷ []) k ≡ ls)
        → cond b d.lits (lits_of (ds ++ record { term = k; lits = ls } ∷ []) k) ≡ ls
    by true e f = absurd (false≢true (sym h ∙ ap (λ b. b || is_done ds k) (sym e)))
    by false e f = f (ap (λ b. b || is_done ds k) e ∙ h)

-- terms that are done are terms of the table, with their widths
abbrev pub DoneFit : Table → List Known → Type 0
DoneFit table ds = (k : ℕ) → is_done ds k ≡ true → (k < length table.terms) × (length (lits_of ds k) ≡ slice_index (widths table) k)

pub done_fit-more : (table : Table) (ds : List Known) (k : ℕ) (ls : List Lit) → DoneFit table ds → is_done ds k ≡ false → k < length table.terms
    → length ls ≡ slice_index (widths table) k → DoneFit table (ds ++ record { term = k; lits = ls } ∷ [])
done_fit-more table ds k ls h new lt e j g = by (split (is_done ds j))
  where
    by : (is_done ds j ≡ true) ⊎ (is_done ds j ≡ false) → (j < length table.terms) × (length (lits_of (ds ++ record { term = k; lits = ls } ∷ []) j) ≡ slice_index (widths table) j)
    by (inl q) = ((h j q).0, ap length (lits_of-first ds k ls j q) ∙ (h j q).1)
    by (inr q) =
        let t : (eqb k j || false) ≡ true = sym (ap (λ b. b || (eqb k j || false)) q) ∙ (sym (is_done-more ds k ls j) ∙ g) in
        let i : k ≡ j = eqb-true k j (right (eqb k j) t) in
        subst (λ (j : ℕ). (j < length table.terms) × (length (lits_of (ds ++ record { term = k; lits = ls } ∷ []) j) ≡ slice_index (widths table) j)) i
        (lt, ap length (lits_of-last ds k ls new) ∙ e)
      where
        right : (b : Bool) → (b || false) ≡ true → b ≡ true
        right true e = refl
        right false e = e

-- what holds of a falling list of needed terms
pub record Falls (table : Table) (one : Lit) (cells : List (List Lit)) (n : ℕ) (done : List Known) (k : ℕ) (need : ℕ → Bool) (ks : List ℕ) : Type 0 where
  pub ready : AllReady one cells table.terms n done ks
  pub dones : (j : ℕ) → is_done (emitted one cells table.terms n done ks).done j ≡ (is_done done j || listed ks j)
  pub fit : DoneFit table (emitted one cells table.terms n done ks).done
  pub below : (j : ℕ) → listed ks j ≡ true → (j < k) × (is_done done j ≡ false)
  pub has : (j : ℕ) → j < k → need j ≡ true → listed ks j ≡ true

right-false : (b : Bool) → b ≡ (b || false)
right-false true = refl
right-false false = refl

or-right : (a b : Bool) → b ≡ true → (a || b) ≡ true
or-right true b e = refl
or-right false b e = e

term-operands : (ts : List Term) (k : ℕ) → k < length ts → operands_at ts k ≡ numbers (uses_of (term_at ts k))
term-operands [] k lt = absurd (omega arith)
term-operands (t ∷ ts) zero lt = refl
term-operands (t ∷ ts) (suc k) lt = term-operands ts k (omega arith)

pub falls : (table : Table) (one : Lit) (cells : List (List Lit)) (n : ℕ) (done : List Known) → IsTable table → map length cells ≡ table.cells → DoneFit table done
    → (k : ℕ) (need : ℕ → Bool) → k ≤ length table.terms → ((j : ℕ) → need j ≡ true → is_done done j ≡ false)
    → Falls table one cells n done k need (falling table.terms (is_done done) k need)
falls table one cells n done h e d zero need le f = record {
  ready = tt;
  dones = λ j. right-false (is_done done j);
  fit = d;
  below = λ j g. absurd (false≢true g);
  has = λ j lt g. absurd (omega (arith, lt));
}
falls table one cells n done h e d (suc k) need le f =
    let ts = table.terms in
    let D = is_done done in
    let need2 : ℕ → Bool = λ j. need j || wants ts D k j in
    let up = falling ts D k need2 in
    let low = falling ts D k need in
    chosen {A = List ℕ} (need k) (k ∷ up) low (Falls table one cells n done (suc k) need)
    (λ y.
    let f2 : (j : ℕ) → need2 j ≡ true → D j ≡ false = λ j g. fresh2 j g in
    let i = falls table one cells n done h e d k need2 (omega arith) f2 in
    let r = emitted one cells ts n done up in
    let t = term_at ts k in
    let lt : k < length ts = omega arith in
    let a = fits-at table k h lt in
    let us = a.0 in
    let wu = widths-at table k us t h lt a.1 in
    let there : (j : ℕ) → listed (numbers (uses_of t)) j ≡ true → is_done r.done j ≡ true
    = λ j g.
    let jk : j < k = omega (arith, operand-below table.cells us t j a.1.fits g, a.1.many) in
    i.dones j ∙ elim (split (D j)) [
      | inl q ↦ ap (λ b. b || listed up j) q
      | inr q ↦
          let w : wants ts D k j ≡ true = ap (λ b. b && not (D j)) (ap (λ l. listed l j) (term-operands ts k lt) ∙ g) ∙ ap not q in
          or-right (D j) (listed up j) (i.has j jk (or-right (need j) (wants ts D k j) w))
    ] in
    let o : (j : ℕ) → listed (numbers (uses_of t)) j ≡ true → length (lits_of r.done j) ≡ slice_index us j
    = λ j g.
    let jk : j < k = omega (arith, operand-below table.cells us t j a.1.fits g, a.1.many) in
    (i.fit j (there j g)).1 ∙ sym (a.1.same j jk) in
    let q = term-ready one cells (lits_of r.done) (n + length r.defs) table.cells us t h.cells wu e a.1.fits o in
    let m = emission one cells (lits_of r.done) (n + length r.defs) t in
    let new : is_done r.done k ≡ false
    = i.dones k ∙ (ap (λ b. b || listed up k) (f k y) ∙ not-listed k up i.below) in
    record {
      ready = (i.ready, q.0, new);
      dones = λ j. is_done-more r.done k m.outs j ∙ (ap (λ b. b || (eqb k j || false)) (i.dones j) ∙ swap (D j) (listed up j) (eqb k j));
      fit = done_fit-more table r.done k m.outs i.fit new lt (q.1 ∙ sym a.1.width);
      below = λ j g. elim (split (eqb k j)) [
        | inl q ↦ let s : k ≡ j = eqb-true k j q in (omega (arith, s), subst (λ (j : ℕ). D j ≡ false) s (f k y))
        | inr q ↦ let b = i.below j (sym (ap (λ b. b || listed up j) q) ∙ g) in (omega (arith, b.0), b.1)
      ];
      has = λ j less g. elim (split (eqb k j)) [
        | inl q ↦ ap (λ b. b || listed up j) q
        | inr q ↦ or-right (eqb k j) (listed up j) (i.has j (smaller j less q) (ap (λ b. b || wants ts D k j) g))
      ];
    })
    (λ y.
    let i = falls table one cells n done h e d k need (omega arith) f in
    record {
      ready = i.ready;
      dones = i.dones;
      fit = i.fit;
      below = λ j g. let b = i.below j g in (omega (arith, b.0), b.1);
      has = λ j less g. elim (split (eqb k j)) [
        | inl q ↦ absurd (false≢true (sym y ∙ (ap need (eqb-true k j q) ∙ g)))
        | inr q ↦ i.has j (smaller j less q) g
      ];
    })
  where
    fresh2 : (j : ℕ) → (need j || wants table.terms (is_done done) k j) ≡ true → is_done done j ≡ false
    fresh2 j g = by (need j) refl g
      where
        from : (a b : Bool) → (a && not b) ≡ true → b ≡ false
        from true true e = sym e
        from true false e = refl
        from false b e = absurd (false≢true e)

        by : (b : Bool) → b ≡ need j → (b || wants table.terms (is_done done) k j) ≡ true → is_done done j ≡ false
        by true e g = f j (sym e)
        by false e g = from (listed (operands_at table.terms k) j) (is_done done j) g

    not-listed : (k : ℕ) (ks : List ℕ) → ((j : ℕ) → listed ks j ≡ true → (j < k) × (is_done done j ≡ false)) → listed ks k ≡ false
    not-listed k ks b = elim (split (listed ks k)) [ inl q ↦ absurd (omega (arith, (b k q).0)) | inr q ↦ q ]

    swap : (a b c : Bool) → ((a || b) || (c || false)) ≡ (a || (c || b))
    swap true b c = refl
    swap false true true = refl
    swap false true false = refl
    swap false false true = refl
    swap false false false = refl

    smaller : (j : ℕ) → j < suc k → eqb k j ≡ false → j < k
    smaller j less q = let ne : k ≡ j → ⊥ = λ s. false≢true (sym q ∙ eq-eqb k j s) in omega (arith, less, ne)

-- the cone of a term: ready, and the term is done after it
pub cone-falls : (table : Table) (one : Lit) (cells : List (List Lit)) (n : ℕ) (done : List Known) (t : ℕ) → IsTable table → map length cells ≡ table.cells
    → DoneFit table done → t < length table.terms
    → Falls table one cells n done (suc t) (λ j. eqb t j && not (is_done done j)) (cone_of table.terms done t)
cone-falls table one cells n done t h e d lt =
    falls table one cells n done h e d (suc t) (λ j. eqb t j && not (is_done done j)) (omega arith) (λ j g. from (eqb t j) (is_done done j) g)
  where
    from : (a b : Bool) → (a && not b) ≡ true → b ≡ false
    from true true e = sym e
    from true false e = refl
    from false b e = absurd (false≢true e)

pub cone-done : (table : Table) (one : Lit) (cells : List (List Lit)) (n : ℕ) (done : List Known) (t : ℕ) → IsTable table → map length cells ≡ table.cells
    → DoneFit table done → t < length table.terms
    → is_done (emitted one cells table.terms n done (cone_of table.terms done t)).done t ≡ true
cone-done table one cells n done t h e d lt =
    let i = cone-falls table one cells n done t h e d lt in
    i.dones t ∙ elim (split (is_done done t)) [
      | inl q ↦ ap (λ b. b || listed (cone_of table.terms done t) t) q
      | inr q ↦ or-right (is_done done t) (listed (cone_of table.terms done t) t)
          (i.has t (omega arith) (ap (λ b. b && not (is_done done t)) (eq-eqb t t refl) ∙ ap not q))
    ]

listed-at : (xs : List ℕ) (k d : ℕ) → k < length xs → listed xs (get_or xs k d) ≡ true
listed-at [] k d lt = absurd (omega arith)
listed-at (x ∷ xs) zero d lt = ap (λ b. b || listed xs x) (eq-eqb x x refl)
listed-at (x ∷ xs) (suc k) d lt = or-right (eqb x (get_or xs k d)) (listed xs (get_or xs k d)) (listed-at xs k d (omega arith))

-- each term of the cone is a term of the table
pub cone-there : (table : Table) (one : Lit) (cells : List (List Lit)) (n : ℕ) (done : List Known) (t : ℕ) → IsTable table → map length cells ≡ table.cells
    → DoneFit table done → t < length table.terms → (found : List ℕ) → found ≡ cone_of table.terms done t
    → (k d : ℕ) → k < length found → get_or found k d < length table.terms
cone-there table one cells n done t h e g lt found ef k d less =
    let i = cone-falls table one cells n done t h e g lt in
    let at : listed (cone_of table.terms done t) (get_or found k d) ≡ true
    = subst (λ (x : List ℕ). listed x (get_or found k d) ≡ true) ef (listed-at found k d less) in
    omega (arith, (i.below (get_or found k d) at).0, lt)

pub cone-ready : (table : Table) (one : Lit) (cells : List (List Lit)) (n : ℕ) (done : List Known) (t : ℕ) → IsTable table → map length cells ≡ table.cells
    → DoneFit table done → t < length table.terms → (found : List ℕ) → found ≡ cone_of table.terms done t
    → AllReady one cells table.terms n done found
cone-ready table one cells n done t h e g lt found ef =
    subst (λ (x : List ℕ). AllReady one cells table.terms n done x) (sym ef) (cone-falls table one cells n done t h e g lt).ready

-- what is held after a term was blasted fits its table, and the term is done
pub blast-over : (table : Table) (one : Lit) (cells : List (List Lit)) (n next : ℕ) (old now : Option Lit) (done new : List Known) (t : ℕ) → IsTable table
    → IsOver table (record { next = next; one = old; cells = cells; done = done }) → t < length table.terms
    → new ≡ (emitted one cells table.terms n done (cone_of table.terms done t)).done → (m : ℕ)
    → IsOver table (record { next = m; one = now; cells = cells; done = new }) × (is_done new t ≡ true)
blast-over table one cells n next old now done new t h o lt e m =
    let i = cone-falls table one cells n done t h o.cells o.done lt in
    let f : DoneFit table new = subst (λ (x : List Known). DoneFit table x) (sym e) i.fit in
    let d : is_done new t ≡ true = subst (λ (x : List Known). is_done x t ≡ true) (sym e) (cone-done table one cells n done t h o.cells o.done lt) in
    (record { cells = o.cells; done = f }, d)
