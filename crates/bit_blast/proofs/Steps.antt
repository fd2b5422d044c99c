-- The code of cells, steps and single bits, step by step.
use Rattle.std.proofs.Common.{◌≡◌, ℕ, ◌+◌, ◌-◌, ◌≤◌, ◌<◌, length, List, [], ◌∷◌, ◌++◌, map, take, drop, get_or, arith, ap, sym, ◌∙◌, refl, suc, zero, false, subst, append_assoc}
use Rattle.std.specs.Prelude.{Option, Some, None, slice_get, is_some}
use Rattle.std.proofs.lemmas.Bool.{false≢true}
use Rattle.std.proofs.lemmas.List.{drop_more}
use Rattle.prop.specs.declared.Lit.{Lit}
use Rattle.prop.specs.Logic.{positive_of}
use Rattle.bit_gates.specs.declared.netlist.Def.{Def}
use Rattle.bit_gates.specs.Cut.{Grew}
use Rattle.bit_gates.specs.Products.{Made}
use Rattle.bit_gates.proofs.Puts.{grew_seq}
use Rattle.bit_words.specs.Folding.{folded_made}
use Rattle.bit_gates.specs.Quotients.{selected}
use Rattle.bit_words.specs.Elements.{decoded, picked, stored}
use Rattle.bv_term.specs.declared.term.Term.{Term}
use Rattle.bit_blast.specs.Done.{Known, lits_of, is_done}
use Rattle.bit_blast.specs.Emission.{cell_at, no_cell, element_of, emission, emitted, IsReady, AllReady, term_at}
use Rattle.bit_blast.specs.Held.{above, above_all, fresh_lits, fresh_cells, sum_of, placed, replaced, known_index}

pub none-some : {A : Type 0} (v : A) → None ≡ Some v → ⊥
none-some {A} v e = false≢true (ap (λ (o : Option A). is_some o) e)

pub some-inj : {A : Type 0} (d a b : A) → Some a ≡ Some b → a ≡ b
some-inj {A} d a b e = ap (λ (o : Option A). or_else o) e
  where
    or_else : Option A → A
    or_else None = d
    or_else (Some x) = x

-- the rest of a list from a place that is read
pub rest-at : {A : Type 0} (xs : List A) (k : ℕ) (x : A) → slice_get xs k ≡ Some x → drop k xs ≡ x ∷ drop (k + 1) xs
rest-at [] k x e = absurd (none-some x e)
rest-at (y ∷ xs) zero x e = ap (λ t. t ∷ xs) (some-inj y y x e)
rest-at (y ∷ xs) (suc k) x e =
    let n : suc (k + 1) ≡ suc k + 1 = omega arith in
    rest-at xs k x e ∙ ap (λ (i : ℕ). x ∷ drop i (y ∷ xs)) n

pub above_step : (cs : List (List Lit)) (k n m first : ℕ) (c : List Lit) → slice_get cs k ≡ Some c → first ≡ above_all n (drop k cs)
    → m ≡ above n c → first ≡ above_all m (drop (k + 1) cs)
above_step cs k n m first c e h g =
    h ∙ (ap (λ (t : List (List Lit)). above_all n t) (rest-at cs k c e) ∙ ap (λ (t : ℕ). above_all t (drop (k + 1) cs)) (sym g))

pub fresh_more : (n w i : ℕ) (whole outs new : List Lit) → i < w → whole ≡ outs ++ fresh_lits (n + i) (w - i)
    → new ≡ outs ++ positive_of (n + i) ∷ [] → whole ≡ new ++ fresh_lits (n + (i + 1)) (w - (i + 1))
fresh_more n w i whole outs new lt e h =
    let a : w - i ≡ suc (w - (i + 1)) = omega arith in
    let b : suc (n + i) ≡ n + (i + 1) = omega arith in
    e ∙ (ap (λ (t : ℕ). outs ++ fresh_lits (n + i) t) a ∙ (ap (λ (t : ℕ). outs ++ positive_of (n + i) ∷ fresh_lits t (w - (i + 1))) b
    ∙ (sym (append_assoc outs (positive_of (n + i) ∷ []) (fresh_lits (n + (i + 1)) (w - (i + 1))))
    ∙ ap (λ (t : List Lit). t ++ fresh_lits (n + (i + 1)) (w - (i + 1))) (sym h))))

pub cells_more : (n w i : ℕ) (ws : List ℕ) (whole cells new : List (List Lit)) (lits : List Lit) → i < length ws → w ≡ get_or ws i 0
    → whole ≡ cells ++ fresh_cells n (drop i ws) → lits ≡ fresh_lits n w → new ≡ cells ++ lits ∷ []
    → whole ≡ new ++ fresh_cells (n + w) (drop (i + 1) ws)
cells_more n w i ws whole cells new lits lt ew e el h =
    let d : drop i ws ≡ w ∷ drop (i + 1) ws = drop_more ws i 0 lt ∙ ap (λ (t : ℕ). t ∷ drop (i + 1) ws) (sym ew) in
    let rest = fresh_cells (n + w) (drop (i + 1) ws) in
    e ∙ (ap (λ (t : List ℕ). cells ++ fresh_cells n t) d ∙ (ap (λ (t : List Lit). cells ++ (t ∷ rest)) (sym el)
    ∙ (sym (append_assoc cells (lits ∷ []) rest) ∙ ap (λ (t : List (List Lit)). t ++ rest) (sym h))))

pub sum_more : (n w i s : ℕ) (ws : List ℕ) → i < length ws → w ≡ get_or ws i 0 → s ≡ n + sum_of (drop i ws) → s ≡ n + w + sum_of (drop (i + 1) ws)
sum_more n w i s ws lt ew e =
    let d : drop i ws ≡ w ∷ drop (i + 1) ws = drop_more ws i 0 lt ∙ ap (λ (t : ℕ). t ∷ drop (i + 1) ws) (sym ew) in
    let f : sum_of (drop i ws) ≡ w + sum_of (drop (i + 1) ws) = ap sum_of d in
    omega (arith, e, f)

-- a cell in its place, the later ones being there
pub replaced_put : (cells now new : List (List Lit)) (first n : ℕ) (rest more : List (List Lit)) (c : List Lit) → now ≡ replaced cells (suc (first + n)) rest
    → more ≡ c ∷ rest → new ≡ placed now (first + n) c → new ≡ replaced cells (first + n) more
replaced_put cells now new first n rest more c e g h =
    h ∙ (ap (λ (t : List (List Lit)). placed t (first + n) c) e ∙ ap (λ (t : List (List Lit)). replaced cells (first + n) t) (sym g))

-- a choice by places: two nets, each folded
pub choice_put : (one : Lit) (n n1 n2 : ℕ) (cs : List (List Lit)) (index places z outs : List Lit) (d d1 d2 : List Def) (pd : List Def) (po : List Lit)
    → Grew n d n1 d1 (folded_made one n (decoded n one index (length cs))).defs → places ≡ (folded_made one n (decoded n one index (length cs))).outs
    → z ≡ no_cell one cs → pd ≡ (picked n1 places cs z).defs → po ≡ (picked n1 places cs z).outs
    → Grew n1 d1 n2 d2 (folded_made one n1 (record { defs = pd; outs = po })).defs → outs ≡ (folded_made one n1 (record { defs = pd; outs = po })).outs
    → Grew n d n2 d2 (element_of one n cs index None).defs × (outs ≡ (element_of one n cs index None).outs)
choice_put one n n1 n2 cs index places z outs d d1 d2 pd po g1 ep ez ed eo g2 eu =
    let m = folded_made one n (decoded n one index (length cs)) in
    let made : Made = record { defs = pd; outs = po } in
    let es : made ≡ picked n1 places cs z
    = ap (λ (t : List Def). let q : Made = record { defs = t; outs = po } in q) ed
    ∙ ap (λ (t : List Lit). let q : Made = record { defs = (picked n1 places cs z).defs; outs = t } in q) eo in
    let e2 : picked n1 places cs z ≡ picked (n + length m.defs) m.outs cs (no_cell one cs)
    = ap (λ (t : ℕ). picked t places cs z) g1.0 ∙ (ap (λ (t : List Lit). picked (n + length m.defs) t cs z) ep
    ∙ ap (λ (t : List Lit). picked (n + length m.defs) m.outs cs t) ez) in
    let p = folded_made one (n + length m.defs) (picked (n + length m.defs) m.outs cs (no_cell one cs)) in
    let e3 : folded_made one n1 made ≡ p = ap (λ (t : Made). folded_made one n1 t) (es ∙ e2)
    ∙ ap (λ (t : ℕ). folded_made one t (picked (n + length m.defs) m.outs cs (no_cell one cs))) g1.0 in
    let q = grew_seq n n1 n2 d d1 d2 m.defs (folded_made one n1 made).defs g1 g2 in
    (subst (λ (t : Made). Grew n d n2 d2 (m.defs ++ t.defs)) e3 q, eu ∙ ap (λ (t : Made). t.outs) e3)

abbrev head_or : {A : Type 0} → A → List A → A
head_or d [] = d
head_or d (x ∷ xs) = x

abbrev tail_of : {A : Type 0} → List A → List A
tail_of [] = []
tail_of (x ∷ xs) = xs

-- the last of some items taken from a list
pub split-last : {A : Type 0} (f : A → List Lit) (news : List A) (to : A) (all : List (List Lit)) → map f (news ++ to ∷ []) ≡ take (suc (length news)) all
    → (map f news ≡ take (length news) all) × (drop (length news) all ≡ f to ∷ drop (suc (length news)) all)
split-last f [] to [] e = let l : length (f to ∷ []) ≡ 0 = ap length e in absurd (omega (arith, l))
split-last f [] to (x ∷ xs) e = (refl, ap (λ t. t ∷ xs) (sym (ap (λ (l : List (List Lit)). head_or x l) e)))
split-last f (y ∷ news) to [] e = let l : suc (length (map f (news ++ to ∷ []))) ≡ 0 = ap length e in absurd (omega (arith, l))
split-last f (y ∷ news) to (x ∷ xs) e =
    let r = split-last f news to xs (ap (λ (l : List (List Lit)). tail_of l) e) in
    (ap (λ t. t ∷ map f news) (ap (λ (l : List (List Lit)). head_or x l) e) ∙ ap (λ t. x ∷ t) r.0, r.1)

pub stored-many : (one : Lit) (n : ℕ) (es : List Lit) (cs : List (List Lit)) (value : List Lit) → length (stored one n es cs value).cells ≤ length cs
stored-many one n [] cs value = omega arith
stored-many one n (e ∷ es) [] value = omega arith
stored-many one n (e ∷ es) (c ∷ cs) value =
    let s = folded_made one n (selected n e value c) in
    let i = stored-many one (n + length s.defs) es cs value in
    omega (arith, i)

pub known-index : (m : ℕ) (s : Option ℕ) → 0 < m → known_index m s ≡ s
known-index zero s h = absurd (omega arith)
known-index (suc m) s h = refl

pub term-at : (ts : List Term) (k : ℕ) (t : Term) → slice_get ts k ≡ Some t → term_at ts k ≡ t
term-at [] k t e = absurd (none-some t e)
term-at (x ∷ ts) zero t e = some-inj x x t e
term-at (x ∷ ts) (suc k) t e = term-at ts k t e

all_ready-drop : (one : Lit) (cells : List (List Lit)) (ts : List Term) (n : ℕ) (done : List Known) (ks : List ℕ) (i : ℕ)
    → AllReady one cells ts n done ks → AllReady one cells ts n done (drop i ks)
all_ready-drop one cells ts n done ks zero h = h
all_ready-drop one cells ts n done [] (suc i) h = tt
all_ready-drop one cells ts n done (k ∷ ks) (suc i) h = all_ready-drop one cells ts n done ks i h.0

drop-back : (ks : List ℕ) (i left k : ℕ) → i + 1 ≡ left → left ≤ length ks → k ≡ get_or ks i 0 → drop i ks ≡ k ∷ drop left ks
drop-back ks i left k e le h =
    drop_more ks i 0 (omega arith) ∙ (ap (λ (t : ℕ). t ∷ drop (i + 1) ks) (sym h) ∙ ap (λ (t : ℕ). k ∷ drop t ks) e)

-- the term whose turn it is
pub turn-ready : (one : Lit) (cells : List (List Lit)) (ts : List Term) (n : ℕ) (done now : List Known) (ks : List ℕ) (i left k : ℕ) (t : Term)
    → i + 1 ≡ left → left ≤ length ks → k ≡ get_or ks i 0 → slice_get ts k ≡ Some t → now ≡ (emitted one cells ts n done (drop left ks)).done
    → AllReady one cells ts n done ks → IsReady cells (lits_of now) t × (is_done now k ≡ false)
turn-ready one cells ts n done now ks i left k t e le h g w a =
    let r = subst (λ (x : List ℕ). AllReady one cells ts n done x) (drop-back ks i left k e le h) (all_ready-drop one cells ts n done ks i a) in
    let P : List Known → Type 0 = λ d. IsReady cells (lits_of d) t × (is_done d k ≡ false) in
    subst P (sym w) (subst (λ (x : Term). IsReady cells (lits_of (emitted one cells ts n done (drop left ks)).done) x) (term-at ts k t g) r.1, r.2)

pub turn-put : (one : Lit) (cells : List (List Lit)) (ts : List Term) (n n1 n2 : ℕ) (done now new : List Known) (ks : List ℕ) (i left k : ℕ) (t : Term)
    (old d1 d2 : List Def) (lits : List Lit)
    → i + 1 ≡ left → left ≤ length ks → k ≡ get_or ks i 0 → slice_get ts k ≡ Some t
    → n1 ≡ n + length (emitted one cells ts n done (drop left ks)).defs → d1 ≡ old ++ (emitted one cells ts n done (drop left ks)).defs
    → now ≡ (emitted one cells ts n done (drop left ks)).done
    → Grew n1 d1 n2 d2 (emission one cells (lits_of now) n1 t).defs → lits ≡ (emission one cells (lits_of now) n1 t).outs
    → new ≡ now ++ record { term = k; lits = lits } ∷ []
    → (n2 ≡ n + length (emitted one cells ts n done (drop i ks)).defs) × (d2 ≡ old ++ (emitted one cells ts n done (drop i ks)).defs)
    × (new ≡ (emitted one cells ts n done (drop i ks)).done)
turn-put one cells ts n n1 n2 done now new ks i left k t old d1 d2 lits e le h g en ed ew gr el ew2 =
    let r = emitted one cells ts n done (drop left ks) in
    let m = emission one cells (lits_of r.done) (n + length r.defs) (term_at ts k) in
    let em : emission one cells (lits_of now) n1 t ≡ m
    = ap (λ (x : List Known). emission one cells (lits_of x) n1 t) ew ∙ (ap (λ (x : ℕ). emission one cells (lits_of r.done) x t) en
    ∙ ap (λ (x : Term). emission one cells (lits_of r.done) (n + length r.defs) x) (sym (term-at ts k t g))) in
    let gr2 : Grew n1 d1 n2 d2 m.defs = subst (λ (x : Made). Grew n1 d1 n2 d2 x.defs) em gr in
    let q = grew_seq n n1 n2 old d1 d2 r.defs m.defs (en, ed) gr2 in
    let last : new ≡ r.done ++ record { term = k; lits = m.outs } ∷ []
    = ew2 ∙ (ap (λ (x : List Known). x ++ record { term = k; lits = lits } ∷ []) ew
    ∙ ap (λ (x : List Lit). r.done ++ record { term = k; lits = x } ∷ []) (el ∙ ap (λ (x : Made). x.outs) em)) in
    let P : List ℕ → Type 0 = λ x. (n2 ≡ n + length (emitted one cells ts n done x).defs) × (d2 ≡ old ++ (emitted one cells ts n done x).defs)
    × (new ≡ (emitted one cells ts n done x).done) in
    subst P (sym (drop-back ks i left k e le h)) (q.0, q.1, last)

pub cell-past : (cs : List (List Lit)) (k : ℕ) → length cs ≤ k → [] ≡ cell_at cs k
cell-past [] k le = refl
cell-past (c ∷ cs) zero le = absurd (omega arith)
cell-past (c ∷ cs) (suc k) le = cell-past cs k (omega arith)

-- a second cell with literals is there
pub two-cells : (cells : List (List Lit)) (w : ℕ) → length (cell_at cells 1) ≡ w → 0 < w → 2 ≤ length cells
two-cells [] w e lt = absurd (omega (arith, e, lt))
two-cells (c ∷ []) w e lt = absurd (omega (arith, e, lt))
two-cells (c ∷ d ∷ cs) w e lt = omega arith
