-- The value of a cell among rising ones.
use Rattle.std.proofs.Common.{◌≡◌, ℕ, ◌+◌, ◌<◌, ◌≤◌, length, List, [], ◌∷◌, arith, ap, ◌∙◌, refl, suc, zero, slice_index_or, drop, Bool, true, false, nat_lt, if◌then◌else◌, drop-cons, subst, inl, inr}
use Rattle.std.proofs.lemmas.Bool.{ltb-false, eq-eqb, ne_eqb, cases_eq}
use Rattle.c_graph.specs.declared.store.Named.{Named}
use Rattle.c_graph.specs.Stores.{kept_for, rises_from}

-- the first of rising cells, and the others
first-of : (low : ℕ) (e : Named) (es : List Named) → rises_from low (e ∷ es) ≡ true → (low ≤ e.cell) × (rises_from (e.cell + 1) es ≡ true)
first-of low e es h =
    elim (nat_lt e.cell low) as (λ b. nat_lt e.cell low ≡ b → (if b then false else rises_from (e.cell + 1) es) ≡ true → (low ≤ e.cell) × (rises_from (e.cell + 1) es ≡ true)) [
      | true ↦ (λ q r. absurd (cc))
      | false ↦ (λ q r. (ltb-false e.cell low q, r))
    ] refl h

-- each is at least the lowest
above-low : (low : ℕ) (ns : List Named) (k : ℕ) (d : Named) → rises_from low ns ≡ true → k < length ns → low ≤ (slice_index_or ns k d).cell
above-low low [] k d h lt = absurd (omega arith)
above-low low (e ∷ es) zero d h lt = (first-of low e es h).0
above-low low (e ∷ es) (suc k) d h lt =
    let f = first-of low e es h in
    let g : e.cell + 1 ≤ (slice_index_or es k d).cell = above-low (e.cell + 1) es k d f.1 (omega arith) in
    omega (arith, f.0, g)

-- a later one is above an earlier one
pub later-above : (low : ℕ) (ns : List Named) (m k : ℕ) (d : Named) → rises_from low ns ≡ true → m < k → k < length ns
    → (slice_index_or ns m d).cell < (slice_index_or ns k d).cell
later-above low [] m k d h less lt = absurd (omega arith)
later-above low (e ∷ es) m zero d h less lt = absurd (omega arith)
later-above low (e ∷ es) zero (suc k) d h less lt =
    let g : e.cell + 1 ≤ (slice_index_or es k d).cell = above-low (e.cell + 1) es k d (first-of low e es h).1 (omega arith) in
    omega (arith, g)
later-above low (e ∷ es) (suc m) (suc k) d h less lt =
    later-above (e.cell + 1) es m k d (first-of low e es h).1 (omega arith) (omega arith)

-- another cell's entry does not count
other : (e : Named) (es : List Named) (cell : ℕ) → (e.cell ≡ cell → ⊥) → kept_for (e ∷ es) cell ≡ kept_for es cell
other e es cell ne = ap (λ (b : Bool). if b then e.value else kept_for es cell) (ne_eqb e.cell cell ne)

none-kept : (low : ℕ) (ns : List Named) (cell : ℕ) → rises_from low ns ≡ true → cell < low → kept_for ns cell ≡ 0
none-kept low [] cell h lt = refl
none-kept low (e ∷ es) cell h lt =
    let f = first-of low e es h in
    other e es cell (λ q. omega (arith, f.0, q, lt)) ∙ none-kept (e.cell + 1) es cell f.1 (omega (arith, f.0))

-- entries up to one that is below a cell do not count for the cell
pub passed-over : (low : ℕ) (ns : List Named) (m : ℕ) (d : Named) (cell : ℕ) → rises_from low ns ≡ true → m < length ns
    → (slice_index_or ns m d).cell < cell → kept_for ns cell ≡ kept_for (drop (suc m) ns) cell
passed-over low [] m d cell h lt less = absurd (omega arith)
passed-over low (e ∷ es) zero d cell h lt less = other e es cell (λ q. omega (arith, q, less))
passed-over low (e ∷ es) (suc m) d cell h lt less =
    let f = first-of low e es h in
    let g : e.cell + 1 ≤ (slice_index_or es m d).cell = above-low (e.cell + 1) es m d f.1 (omega arith) in
    other e es cell (λ q. omega (arith, q, g, less)) ∙ passed-over (e.cell + 1) es m d cell f.1 (omega arith) less

rest-rises : (low : ℕ) (ns : List Named) (k : ℕ) (d : Named) → rises_from low ns ≡ true → k < length ns
    → rises_from ((slice_index_or ns k d).cell + 1) (drop (suc k) ns) ≡ true
rest-rises low [] k d h lt = absurd (omega arith)
rest-rises low (e ∷ es) zero d h lt = (first-of low e es h).1
rest-rises low (e ∷ es) (suc k) d h lt = rest-rises (e.cell + 1) es k d (first-of low e es h).1 (omega arith)

-- what is kept for the cell that stands first among those that are left
pub kept-here : (ns : List Named) (k : ℕ) (d : Named) (cell : ℕ) → k < length ns → (slice_index_or ns k d).cell ≡ cell
    → kept_for (drop k ns) cell ≡ (slice_index_or ns k d).value
kept-here ns k d cell lt e =
    ap (λ (xs : List Named). kept_for xs cell) (drop-cons ns k d lt)
    ∙ ap (λ (b : Bool). if b then (slice_index_or ns k d).value else kept_for (drop (suc k) ns) cell) (eq-eqb (slice_index_or ns k d).cell cell e)

-- nothing is kept for a cell that lies before those that are left
pub none-here : (ns : List Named) (k : ℕ) (d : Named) (cell : ℕ) → rises_from 0 ns ≡ true → k < length ns → cell < (slice_index_or ns k d).cell
    → kept_for (drop k ns) cell ≡ 0
none-here ns k d cell h lt less =
    ap (λ (xs : List Named). kept_for xs cell) (drop-cons ns k d lt)
    ∙ other (slice_index_or ns k d) (drop (suc k) ns) cell (λ q. omega (arith, q, less))
    ∙ none-kept ((slice_index_or ns k d).cell + 1) (drop (suc k) ns) cell (rest-rises 0 ns k d h lt) (omega (arith, less))

pub none-left : (ns : List Named) (k : ℕ) (cell : ℕ) → length ns ≤ k → kept_for (drop k ns) cell ≡ 0
none-left [] zero cell le = refl
none-left [] (suc k) cell le = refl
none-left (e ∷ es) zero cell le = absurd (omega arith)
none-left (e ∷ es) (suc k) cell le = none-left es k cell (omega arith)

-- from one that is not below a cell on none is
pub above-from : (ns : List Named) (m : ℕ) (d : Named) (cell : ℕ) → rises_from 0 ns ≡ true → m < length ns → cell ≤ (slice_index_or ns m d).cell
    → (k : ℕ) (e : Named) → m ≤ k → k < length ns → cell ≤ (slice_index_or ns k e).cell
above-from ns m d cell h lt le k e less there =
    let same : (slice_index_or ns m d).cell ≡ (slice_index_or ns m e).cell = ap (λ (x : Named). x.cell) (any-default ns m d e lt) in
    elim (cases_eq m k) [
      | inl q ↦ (let P : ℕ → Type 0 = λ j. cell ≤ (slice_index_or ns j e).cell in subst P q (omega (arith, same, le)))
      | inr ne ↦ (let a = later-above 0 ns m k e h (omega (arith, less, ne)) there in omega (arith, same, le, a))
    ]
  where
    any-default : (xs : List Named) (i : ℕ) (a b : Named) → i < length xs → slice_index_or xs i a ≡ slice_index_or xs i b
    any-default [] i a b l = absurd (omega arith)
    any-default (x ∷ xs) zero a b l = refl
    any-default (x ∷ xs) (suc i) a b l = any-default xs i a b (omega arith)
