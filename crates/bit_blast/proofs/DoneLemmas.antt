-- Terms that are done are found by their places.
use Rattle.std.proofs.Common.{◌≡◌, ℕ, ◌+◌, ◌<◌, length, List, [], ◌∷◌, ◌++◌, map, arith, ap, sym, ◌∙◌, refl, suc, zero, Bool, true, false, ◌||◌, cond, eqb, subst, get_or, nat_eq, if◌then◌else◌}
use Rattle.std.specs.Prelude.{Option, Some, unwrap_or}
use Rattle.std.proofs.lemmas.Bool.{eqb-true, eq-eqb, false≢true, ne_eqb}
use Rattle.prop.specs.declared.Lit.{Lit}
use Rattle.bit_words.proofs.WordPuts.{map-length}
use Rattle.bit_blast.specs.declared.done.Done.{Done}
use Rattle.bit_blast.specs.Done.{Known, lits_of, is_done, Placed}
use Rattle.bit_blast.specs.Places.{known}

some-inj : (a b : ℕ) → Some a ≡ Some b → a ≡ b
some-inj a b e = ap (λ (o : Option ℕ). unwrap_or o 0) e

pub place-found : (find : ℕ → Option ℕ) (i : ℕ) (ds : List Done) (t j : ℕ) (d : Done) → Placed find i (map known ds) → find t ≡ Some (i + j) → j < length ds
    → (get_or ds j d).term ≡ t → (is_done (map known ds) t ≡ true) × (lits_of (map known ds) t ≡ (get_or ds j d).lits.items)
place-found find i [] t j d h e lt s = absurd (omega arith)
place-found find i (x ∷ ds) t zero d h e lt s = (
  ap (λ b. b || is_done (map known ds) t) (eq-eqb x.term t s),
  ap (λ b. cond b x.lits.items (lits_of (map known ds) t)) (eq-eqb x.term t s),
)
place-found find i (x ∷ ds) t (suc j) d h e lt s =
    let k : i + suc j ≡ suc i + j = omega arith in
    let r = place-found find (suc i) ds t j d h.1 (e ∙ ap Some k) (omega arith) s in
    by (eqb x.term t) refl r
  where
    by : (b : Bool) → b ≡ eqb x.term t → (is_done (map known ds) t ≡ true) × (lits_of (map known ds) t ≡ (get_or ds j d).lits.items)
        → ((b || is_done (map known ds) t) ≡ true) × (cond b x.lits.items (lits_of (map known ds) t) ≡ (get_or ds j d).lits.items)
    by true q r =
        let same : x.term ≡ t = eqb-true x.term t (sym q) in
        let at : Some i ≡ Some (i + suc j) = sym h.0 ∙ (ap find same ∙ e) in
        absurd (omega (arith, some-inj i (i + suc j) at))
    by false q r = r

pub place-none : (find : ℕ → Option ℕ) (i : ℕ) (ds : List Done) (t : ℕ) → Placed find i (map known ds)
    → ((j : ℕ) (d : Done) → find t ≡ Some (i + j) → j < length ds → (get_or ds j d).term ≡ t → ⊥)
    → (is_done (map known ds) t ≡ false) × (lits_of (map known ds) t ≡ [])
place-none find i [] t h f = (refl, refl)
place-none find i (x ∷ ds) t h f =
    let k : i + 0 ≡ i = omega arith in
    let r = place-none find (suc i) ds t h.1 (λ j d e lt s. let m : suc i + j ≡ i + suc j = omega arith in f (suc j) d (e ∙ ap Some m) (omega arith) s) in
    by (eqb x.term t) refl r
  where
    by : (b : Bool) → b ≡ eqb x.term t → (is_done (map known ds) t ≡ false) × (lits_of (map known ds) t ≡ [])
        → ((b || is_done (map known ds) t) ≡ false) × (cond b x.lits.items (lits_of (map known ds) t) ≡ [])
    by true q r =
        let same : x.term ≡ t = eqb-true x.term t (sym q) in
        let k : i ≡ i + 0 = omega arith in
        absurd (f 0 x (sym (ap find same) ∙ (h.0 ∙ ap Some k)) (omega arith) same)
    by false q r = r

-- a term that was not done gets the next place
placed-more : (old new : ℕ → Option ℕ) (i : ℕ) (ds : List Known) (t : ℕ) (ls : List Lit) → Placed old i ds → is_done ds t ≡ false
    → ((k : ℕ) → new k ≡ (if nat_eq t k then Some (i + length ds) else old k))
    → Placed new i (ds ++ record { term = t; lits = ls } ∷ [])
placed-more old new i [] t ls h g f =
    let k : i + 0 ≡ i = omega arith in
    let same : nat_eq t t ≡ true = eq-eqb t t refl in
    (f t ∙ rw (same, k) refl, tt)
placed-more old new i (d ∷ ds) t ls h g f =
    let k : i + length (d ∷ ds) ≡ suc i + length ds = omega arith in
    let p = parts (eqb d.term t) (is_done ds t) g in
    let apart : nat_eq t d.term ≡ false = ne_eqb t d.term (λ s. false≢true (sym p.0 ∙ eq-eqb d.term t (sym s))) in
    let other : new d.term ≡ old d.term = f d.term ∙ rw apart refl in
    (other ∙ h.0, placed-more old new (suc i) ds t ls h.1 p.1 (λ n. f n ∙ ap (λ (m : ℕ). if nat_eq t n then Some m else old n) k))
  where
    parts : (a b : Bool) → (a || b) ≡ false → (a ≡ false) × (b ≡ false)
    parts true b e = absurd (false≢true (sym e))
    parts false b e = (refl, e)

-- a term that was not done, with a place behind all: those that are done are found as before
pub placed-beside : (old new : ℕ → Option ℕ) (n i : ℕ) (ds : List Known) (t : ℕ) → Placed old i ds → is_done ds t ≡ false
    → ((k : ℕ) → new k ≡ (if nat_eq t k then Some n else old k)) → Placed new i ds
placed-beside old new n i [] t h g f = tt
placed-beside old new n i (d ∷ ds) t h g f =
    let p = parts (eqb d.term t) (is_done ds t) g in
    let apart : nat_eq t d.term ≡ false = ne_eqb t d.term (λ s. false≢true (sym p.0 ∙ eq-eqb d.term t (sym s))) in
    let other : new d.term ≡ old d.term = f d.term ∙ rw apart refl in
    (other ∙ h.0, placed-beside old new n (suc i) ds t h.1 p.1 f)
  where
    parts : (a b : Bool) → (a || b) ≡ false → (a ≡ false) × (b ≡ false)
    parts true b e = absurd (false≢true (sym e))
    parts false b e = (refl, e)

pub placed-same : (old new : ℕ → Option ℕ) (i : ℕ) (ds : List Known) → Placed old i ds → ((k : ℕ) → new k ≡ old k) → Placed new i ds
placed-same old new i [] h f = tt
placed-same old new i (d ∷ ds) h f = (f d.term ∙ h.0, placed-same old new (suc i) ds h.1 f)

map-snoc : (ds : List Done) (d : Done) → map known (ds ++ d ∷ []) ≡ map known ds ++ known d ∷ []
map-snoc [] d = refl
map-snoc (x ∷ ds) d = ap (λ t. known x ∷ t) (map-snoc ds d)

-- the place of a term that was entered
pub placed-enter : (old new : ℕ → Option ℕ) (ds es : List Done) (d : Done) (n : ℕ) → Placed old 0 (map known ds) → is_done (map known ds) d.term ≡ false
    → ((k : ℕ) → new k ≡ (if nat_eq d.term k then Some n else old k)) → n ≡ length ds
    → es ≡ ds ++ d ∷ [] → Placed new 0 (map known es)
placed-enter old new ds es d n h g f en ee =
    let e : map known es ≡ map known ds ++ known d ∷ [] = ap (map known) ee ∙ map-snoc ds d in
    let l : length (map known ds) ≡ length ds = map-length known ds in
    let k : n ≡ 0 + length (map known ds) = omega (arith, en, l) in
    let p : Placed new 0 (map known ds ++ known d ∷ [])
    = placed-more old new 0 (map known ds) d.term d.lits.items h g (λ j. f j ∙ ap (λ (m : ℕ). if nat_eq d.term j then Some m else old j) k) in
    subst (λ (t : List Known). Placed new 0 t) (sym e) p

pub look-found : (find : ℕ → Option ℕ) (ds es : List Done) (view : List Known) (t k : ℕ) (d : Done) → Placed find 0 (map known ds) → map known ds ≡ view
    → es ≡ ds → (k < length es) × (find t ≡ Some k) × ((d : Done) → (get_or es k d).term ≡ t)
    → (is_done view t ≡ true) × (lits_of view t ≡ (get_or ds k d).lits.items)
look-found find ds es view t k d h ev ee f =
    let e : find t ≡ Some (0 + k) = f.1 ∙ ap Some z in
    let lt : k < length ds = subst (λ (x : List Done). k < length x) ee f.0 in
    let s : (get_or ds k d).term ≡ t = ap (λ (x : List Done). (get_or x k d).term) (sym ee) ∙ f.2 d in
    subst (λ (v : List Known). (is_done v t ≡ true) × (lits_of v t ≡ (get_or ds k d).lits.items)) ev (place-found find 0 ds t k d h e lt s)
  where
    z : k ≡ 0 + k
    z = omega arith

pub has-found : (find : ℕ → Option ℕ) (ds es : List Done) (view : List Known) (t k : ℕ) → Placed find 0 (map known ds) → map known ds ≡ view
    → es ≡ ds → (k < length es) × (find t ≡ Some k) × ((d : Done) → (get_or es k d).term ≡ t)
    → is_done view t ≡ true
has-found find ds [] view t k h ev ee f = absurd (omega (arith, f.0))
has-found find ds (x ∷ es) view t k h ev ee f = (look-found find ds (x ∷ es) view t k x h ev ee f).0

pub look-none : (find : ℕ → Option ℕ) (ds es : List Done) (view : List Known) (t : ℕ) → Placed find 0 (map known ds) → map known ds ≡ view
    → es ≡ ds → ((k : ℕ) (d : Done) → find t ≡ Some k → k < length es → (get_or es k d).term ≡ t → ⊥)
    → (is_done view t ≡ false) × (lits_of view t ≡ [])
look-none find ds es view t h ev ee f =
    let g : (j : ℕ) (d : Done) → find t ≡ Some (0 + j) → j < length ds → (get_or ds j d).term ≡ t → ⊥
    = λ j d e lt s. let z : 0 + j ≡ j = omega arith in
    f j d (e ∙ ap Some z) (subst (λ (x : List Done). j < length x) (sym ee) lt)
    (ap (λ (x : List Done). (get_or x j d).term) ee ∙ s) in
    subst (λ (v : List Known). (is_done v t ≡ false) × (lits_of v t ≡ [])) ev (place-none find 0 ds t h g)
