-- Numbers and stores read from an assignment.
use Rattle.std.proofs.Common.{◌≡◌, ℕ, ◌+◌, ◌*◌, ◌^◌, ◌<◌, ◌≤◌, Bool, true, false, List, [], ◌∷◌, ◌++◌, length, drop, get_or, refl, sym, ap, ◌∙◌, subst, arith, zero, suc, slice_index, ◌==◌, if◌then◌else◌, All, inl, inr}
use Rattle.std.proofs.Math.Pow.{pow_mono}
use Rattle.std.proofs.lemmas.Bool.{cases_eq, eq-eqb, eqb-true}
use Rattle.std.proofs.lemmas.List.{drop_more, length-map}
use Rattle.prop.specs.declared.Lit.{Lit}
use Rattle.prop.specs.Logic.{lit_value}
use Rattle.bit_gates.specs.Net.{bit, number}
use Rattle.bit_gates.proofs.AddLaws.{number-lt}
use Rattle.bv_term.specs.WellFormed.{IsWidth}
use Rattle.bit_blast.specs.Emission.{cell_at}
use Rattle.bit_blast.specs.Held.{fresh_cells, fresh_lits, new_of}
use Rattle.blast_laws.specs.Calls.{spelled_store}
use Rattle.c_graph.specs.declared.store.Named.{Named}
use Rattle.c_graph.specs.Stores.{kept_for, values_from}

-- one literal more, before those that were read
pub number_turn : (v : ℕ → Bool) (ls : List Lit) (k n : ℕ) (l d : Lit) → k < length ls → l ≡ get_or ls k d → n ≡ number v (drop (k + 1) ls)
    → bit (lit_value v l) + 2 * n ≡ number v (drop k ls)
number_turn v ls k n l d lt el en =
    let e : drop k ls ≡ l ∷ drop (k + 1) ls = drop_more ls k d lt ∙ ap (λ (x : Lit). x ∷ drop (k + 1) ls) (sym el) in
    ap (λ (m : ℕ). bit (lit_value v l) + 2 * m) en ∙ sym (ap (number v) e)

-- there is room for it
length-drop : {A : Type 0} (k : ℕ) (xs : List A) → k ≤ length xs → length (drop k xs) + k ≡ length xs
length-drop zero xs le = omega arith
length-drop (suc k) [] le = absurd (omega (arith, le))
length-drop (suc k) (x ∷ xs) le = omega (arith, length-drop k xs (omega (arith, le)))

pub number_room : (v : ℕ → Bool) (ls : List Lit) (k n : ℕ) → 0 < k → k ≤ length ls → length ls ≤ 128 → n ≡ number v (drop k ls) → 2 * n + 1 < 2 ^ 128
number_room v ls k n lt up le en =
    let r = drop k ls in
    let a : number v r < 2 ^ length r = number-lt v r in
    let s : length r + k ≡ length ls = length-drop k ls up in
    let b : length r ≤ 127 = omega (arith, s, le, lt) in
    let c : 2 ^ length r ≤ 2 ^ 127 = pow_mono b in
    omega (arith, a, c, en)

-- the cell is named
abbrev is_named : List Named → ℕ → Bool
is_named [] k = false
is_named (e ∷ es) k = if e.cell == k then true else is_named es k

-- the cells below a number are named with their values, where these are not 0, and no others are named
pub record AreNamed (named : List Named) (values : List ℕ) (n : ℕ) : Type 0 where
  pub below : (k : ℕ) → k < n → kept_for named k ≡ slice_index values k
  above : (k : ℕ) → n ≤ k → is_named named k ≡ false

unnamed : (named : List Named) (k : ℕ) → is_named named k ≡ false → kept_for named k ≡ 0
unnamed [] k h = refl
unnamed (x ∷ xs) k h = first (x.cell == k) (λ q. unnamed xs k q) h
  where
    first : (b : Bool) → (is_named xs k ≡ false → kept_for xs k ≡ 0) → (if b then true else is_named xs k) ≡ false
        → (if b then x.value else kept_for xs k) ≡ 0
    first true r h = absurd cc
    first false r h = r h

kept-last : (named : List Named) (e : Named) (k : ℕ) → is_named named k ≡ false → (e.cell == k) ≡ true → kept_for (named ++ e ∷ []) k ≡ e.value
kept-last [] e k h q = rw q refl
kept-last (x ∷ xs) e k h q = first (x.cell == k) (λ r. kept-last xs e k r q) h
  where
    first : (b : Bool) → (is_named xs k ≡ false → kept_for (xs ++ e ∷ []) k ≡ e.value) → (if b then true else is_named xs k) ≡ false
        → (if b then x.value else kept_for (xs ++ e ∷ []) k) ≡ e.value
    first true r h = absurd cc
    first false r h = r h

kept-others : (named : List Named) (e : Named) (k : ℕ) → (e.cell == k) ≡ false
    → (kept_for (named ++ e ∷ []) k ≡ kept_for named k) × (is_named (named ++ e ∷ []) k ≡ is_named named k)
kept-others [] e k q = (rw q refl, rw q refl)
kept-others (x ∷ xs) e k q = first (x.cell == k) (kept-others xs e k q)
  where
    first : (b : Bool) → (kept_for (xs ++ e ∷ []) k ≡ kept_for xs k) × (is_named (xs ++ e ∷ []) k ≡ is_named xs k)
        → ((if b then x.value else kept_for (xs ++ e ∷ []) k) ≡ (if b then x.value else kept_for xs k))
        × ((if b then true else is_named (xs ++ e ∷ []) k) ≡ (if b then true else is_named xs k))
    first true r = (refl, refl)
    first false r = r

equal : (a b : ℕ) → a ≡ b → (a == b) ≡ true
equal a b e = eq-eqb a b e

unequal : (a b : ℕ) → (a ≡ b → ⊥) → (a == b) ≡ false
unequal a b ne = off (a == b) refl
  where
    off : (c : Bool) → (a == b) ≡ c → (a == b) ≡ false
    off true q = absurd (ne (eqb-true a b q))
    off false q = q

pub named_start : (values : List ℕ) → AreNamed [] values 0
named_start values = record { below = λ k lt. absurd (omega (arith, lt)); above = λ k le. refl }

pub named_turn : (named new : List Named) (values : List ℕ) (n v : ℕ) → v ≡ slice_index values n → new ≡ named ++ record { cell = n; value = v } ∷ []
    → AreNamed named values n → AreNamed new values (n + 1)
named_turn named new values n v ev en h =
    let e : Named = record { cell = n; value = v } in
    let P : List Named → Type 0 = λ xs. AreNamed xs values (n + 1) in
    subst P (sym en) (record {
      below = λ k lt. elim (cases_eq n k) [
        | inl q ↦ kept-last named e k (h.above k (omega (arith, q))) (equal n k q) ∙ (ev ∙ ap (slice_index values) q)
        | inr ne ↦ (kept-others named e k (unequal n k ne)).0 ∙ h.below k (omega (arith, lt, ne))
      ];
      above = λ k le. (kept-others named e k (unequal n k (λ q. omega (arith, q, le)))).1 ∙ h.above k (omega (arith, le));
    })

pub named_skip : (named : List Named) (values : List ℕ) (n : ℕ) → slice_index values n ≡ 0 → AreNamed named values n → AreNamed named values (n + 1)
named_skip named values n z h = record {
  below = λ k lt. elim (cases_eq n k) [
    | inl q ↦ unnamed named k (h.above k (omega (arith, q))) ∙ (sym z ∙ ap (slice_index values) q)
    | inr ne ↦ h.below k (omega (arith, lt, ne))
  ];
  above = λ k le. h.above k (omega (arith, le));
}

all-named : (named : List Named) (values : List ℕ) (c : ℕ) → ((k : ℕ) → k < length values → kept_for named (c + k) ≡ slice_index values k)
    → values_from named c (length values) ≡ values
all-named named [] c h = refl
all-named named (x ∷ xs) c h =
    let z : c + 0 ≡ c = omega arith in
    let a : kept_for named c ≡ x = ap (kept_for named) (sym z) ∙ h 0 (omega arith) in
    let b : values_from named (c + 1) (length xs) ≡ xs =
    all-named named xs (c + 1) (λ k lt. let q : c + 1 + k ≡ c + suc k = omega arith in ap (kept_for named) q ∙ h (suc k) (omega (arith, lt))) in
    ap (λ (v : ℕ). v ∷ values_from named (c + 1) (length xs)) a ∙ ap (λ (vs : List ℕ). x ∷ vs) b

pub named_end : (named : List Named) (values : List ℕ) (n : ℕ) → length values ≡ n → AreNamed named values n → values_from named 0 n ≡ values
named_end named values n e h =
    subst (λ (m : ℕ). values_from named 0 m ≡ values) e
    (all-named named values 0 (λ k lt. let q : 0 + k ≡ k = omega arith in ap (kept_for named) q ∙ h.below k (omega (arith, lt, e))))

-- the literals of the first cells
fresh-long : (n w : ℕ) → length (fresh_lits n w) ≡ w
fresh-long n zero = refl
fresh-long n (suc w) = ap suc (fresh-long (suc n) w)

cells-long : (n : ℕ) (ws : List ℕ) (k : ℕ) → k < length ws → length (cell_at (fresh_cells n ws) k) ≡ slice_index ws k
cells-long n [] k lt = absurd (omega (arith, lt))
cells-long n (w ∷ ws) zero lt = fresh-long n w
cells-long n (w ∷ ws) (suc k) lt = cells-long (n + w) ws k (omega (arith, lt))

pub cell_short : (ws : List ℕ) (k : ℕ) (cells : List (List Lit)) → All IsWidth ws → k < length ws → cells ≡ (new_of [] ws).cells → length (cell_at cells k) ≤ 128
cell_short ws k cells is lt e =
    let l : length (cell_at (new_of [] ws).cells k) ≡ slice_index ws k = cells-long 0 ws k lt in
    let w : IsWidth (slice_index ws k) = is k 0 lt in
    let q : length (cell_at cells k) ≡ slice_index ws k = ap (λ (cs : List (List Lit)). length (cell_at cs k)) e ∙ l in
    omega (arith, q, w.1)

spelled-at : (v : ℕ → Bool) (cells : List (List Lit)) (k : ℕ) → k < length cells → slice_index (spelled_store v cells) k ≡ number v (cell_at cells k)
spelled-at v [] k lt = absurd (omega (arith, lt))
spelled-at v (c ∷ cs) zero lt = refl
spelled-at v (c ∷ cs) (suc k) lt = spelled-at v cs k (omega (arith, lt))

cells-many : (n : ℕ) (ws : List ℕ) → length (fresh_cells n ws) ≡ length ws
cells-many n [] = refl
cells-many n (w ∷ ws) = ap suc (cells-many (n + w) ws)

-- what a cell's literals spell
pub cell_read : (v : ℕ → Bool) (ws : List ℕ) (k : ℕ) (cells : List (List Lit)) → k < length ws → cells ≡ (new_of [] ws).cells
    → number v (cell_at cells k) ≡ slice_index (spelled_store v (new_of [] ws).cells) k
cell_read v ws k cells lt e =
    let m : length (new_of [] ws).cells ≡ length ws = cells-many 0 ws in
    ap (λ (cs : List (List Lit)). number v (cell_at cs k)) e ∙ sym (spelled-at v (new_of [] ws).cells k (omega (arith, lt, m)))

pub read_whole : (v : ℕ → Bool) (ws : List ℕ) → length (spelled_store v (new_of [] ws).cells) ≡ length ws
read_whole v ws = length-map (new_of [] ws).cells (number v) ∙ cells-many 0 ws
