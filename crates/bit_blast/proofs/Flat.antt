-- Cells that lie in one flat list.
use Rattle.std.proofs.Common.{◌≡◌, ℕ, Bool, ◌+◌, ◌-◌, ◌≤◌, ◌<◌, length, List, [], ◌∷◌, ◌++◌, map, take, drop, get_or, arith, ap, sym, ◌∙◌, refl, suc, zero, ltb, cond, subst, slice_index}
use Rattle.std.specs.Prelude.{Some}
use Rattle.std.proofs.lemmas.Bool.{ltb-true}
use Rattle.std.proofs.lemmas.List.{drop-drop, drop-take, length-append, length-drop, length-take-le}
use Rattle.std.proofs.lemmas.Slice.{take-put_mid_below, between-put_mid, drop-put_mid}
use Rattle.prop.specs.declared.Lit.{Lit}
use Rattle.prop.specs.Logic.{negated}
use Rattle.prop.specs.Pieces.{pieces, Rising, start_of}
use Rattle.prop.proofs.Pieces.{rows_keep, push_view, rising_at}
use Rattle.bit_gates.proofs.Within.{chosen}
use Rattle.bit_words.specs.Elements.{AllLong}
use Rattle.bit_words.specs.Words.{copies_of}
use Rattle.bit_blast.specs.Emission.{cell_at, element_of}
use Rattle.bit_blast.specs.Held.{fresh_lits, fresh_cells, sum_of, placed, replaced}
use Rattle.bit_blast.proofs.Steps.{cells_more, sum_more, split-last}
use Rattle.bit_blast.proofs.Over.{cell-width, long-at, replaced-widths}

start-more : (from e : ℕ) (es : List ℕ) (k : ℕ) → start_of from (e ∷ es) (suc k) ≡ start_of e es k
start-more from e es zero = refl
start-more from e es (suc k) = refl

pub cell-piece : (from : ℕ) (es : List ℕ) (xs : List Lit) (k : ℕ) → k < length es
    → cell_at (pieces from es xs) k ≡ take (get_or es k 0 - start_of from es k) (drop (start_of from es k) xs)
cell-piece from [] xs k h = absurd (omega arith)
cell-piece from (e ∷ es) xs zero h = refl
cell-piece from (e ∷ es) xs (suc k) h =
    subst (λ (s : ℕ). cell_at (pieces e es xs) k ≡ take (get_or es k 0 - s) (drop s xs)) (sym (start-more from e es k)) (cell-piece e es xs k (omega arith))

start-above : (from : ℕ) (es : List ℕ) (n : ℕ) (k : ℕ) → Rising from es n → k < length es → from ≤ start_of from es k
start-above from [] n k r h = absurd (omega arith)
start-above from (e ∷ es) n zero r h = omega arith
start-above from (e ∷ es) n (suc k) r h =
    let i : e ≤ start_of e es k = start-above e es n k r.1 (omega arith) in
    let s : start_of from (e ∷ es) (suc k) ≡ start_of e es k = start-more from e es k in
    omega (arith, i, s, r.0)

take-less : (m n : ℕ) (xs : List Lit) → m ≤ n → take m (take n xs) ≡ take m xs
take-less zero n xs h = refl
take-less (suc m) zero xs h = absurd (omega arith)
take-less (suc m) (suc n) [] h = refl
take-less (suc m) (suc n) (x ∷ xs) h = ap (λ (t : List Lit). x ∷ t) (take-less m n xs (omega arith))

drop-later : (from e : ℕ) (xs ys : List Lit) → from ≤ e → drop from ys ≡ drop from xs → drop e ys ≡ drop e xs
drop-later from e xs ys h d =
    let i : from + (e - from) ≡ e = omega arith in
    ap (λ (t : ℕ). drop t ys) (sym i) ∙ (sym (drop-drop (e - from) from ys) ∙ (ap (λ (t : List Lit). drop (e - from) t) d
    ∙ (drop-drop (e - from) from xs ∙ ap (λ (t : ℕ). drop t xs) i)))

range-kept : (from e s : ℕ) (xs ys : List Lit) → from ≤ e → e ≤ s → take s ys ≡ take s xs → take (e - from) (drop from ys) ≡ take (e - from) (drop from xs)
range-kept from e s xs ys h le a =
    let i : from + (e - from) ≡ e = omega arith in
    let b : take e ys ≡ take e xs = sym (take-less e s ys le) ∙ (ap (λ (t : List Lit). take e t) a ∙ take-less e s xs le) in
    sym (drop-take from (e - from) ys) ∙ (ap (λ (t : ℕ). drop from (take t ys)) i ∙ (ap (λ (t : List Lit). drop from t) b
    ∙ (ap (λ (t : ℕ). drop from (take t xs)) (sym i) ∙ drop-take from (e - from) xs)))

-- the pieces from a place on tell only of what lies there
pieces-later : (from : ℕ) (es : List ℕ) (xs ys : List Lit) (n : ℕ) → Rising from es n → drop from ys ≡ drop from xs → pieces from es ys ≡ pieces from es xs
pieces-later from [] xs ys n r d = refl
pieces-later from (e ∷ es) xs ys n r d =
    ap (λ (z : List Lit). take (e - from) z ∷ pieces e es ys) d
    ∙ ap (λ (z : List (List Lit)). take (e - from) (drop from xs) ∷ z) (pieces-later e es xs ys n r.1 (drop-later from e xs ys r.0 d))

-- other items in one piece
pub pieces-put : (from : ℕ) (es : List ℕ) (xs ys : List Lit) (n k : ℕ) (to : List Lit) → Rising from es n → k < length es
    → take (start_of from es k) ys ≡ take (start_of from es k) xs
    → take (get_or es k 0 - start_of from es k) (drop (start_of from es k) ys) ≡ to
    → drop (get_or es k 0) ys ≡ drop (get_or es k 0) xs
    → pieces from es ys ≡ placed (pieces from es xs) k to
pieces-put from [] xs ys n k to r h a b c = absurd (omega arith)
pieces-put from (e ∷ es) xs ys n zero to r h a b c =
    ap (λ (z : List Lit). z ∷ pieces e es ys) b ∙ ap (λ (z : List (List Lit)). to ∷ z) (pieces-later e es xs ys n r.1 c)
pieces-put from (e ∷ es) xs ys n (suc k) to r h a b c =
    let s : start_of from (e ∷ es) (suc k) ≡ start_of e es k = start-more from e es k in
    let lt : k < length es = omega arith in
    let a2 : take (start_of e es k) ys ≡ take (start_of e es k) xs = subst (λ (t : ℕ). take t ys ≡ take t xs) s a in
    let b2 : take (get_or es k 0 - start_of e es k) (drop (start_of e es k) ys) ≡ to
    = subst (λ (t : ℕ). take (get_or es k 0 - t) (drop t ys) ≡ to) s b in
    let le : e ≤ start_of e es k = start-above e es n k r.1 lt in
    ap (λ (z : List Lit). z ∷ pieces e es ys) (range-kept from e (start_of e es k) xs ys r.0 le a2)
    ∙ ap (λ (z : List (List Lit)). take (e - from) (drop from xs) ∷ z) (pieces-put e es xs ys n k to r.1 lt a2 b2 c)

-- one more cell at the end
pub cells-step : (n w i end : ℕ) (ws es es2 : List ℕ) (xs xs2 : List Lit) (whole : List (List Lit)) → i < length ws → w ≡ get_or ws i 0
    → Rising 0 es (length xs) → whole ≡ pieces 0 es xs ++ fresh_cells n (drop i ws) → xs2 ≡ xs ++ fresh_lits n w → end ≡ length xs2 → es2 ≡ es ++ end ∷ []
    → Rising 0 es2 (length xs2) × (whole ≡ pieces 0 es2 xs2 ++ fresh_cells (n + w) (drop (i + 1) ws))
cells-step n w i end ws es es2 xs xs2 whole lt ew r e a m b =
    let c = fresh_lits n w in
    let l : end ≡ length xs + length c = m ∙ (ap length a ∙ length-append xs c) in
    let v : pieces 0 es2 xs2 ≡ pieces 0 es xs ++ c ∷ [] = push_view es es2 xs c xs2 end (pieces 0 es xs) a b l r refl in
    (rows_keep es es2 xs c xs2 end a b l r, cells_more n w i ws whole (pieces 0 es xs) (pieces 0 es2 xs2) c lt ew e refl v)

pub sum-at : (n i s : ℕ) (ws : List ℕ) → i < length ws → s ≡ n + sum_of (drop i ws) → n + get_or ws i 0 ≤ s
sum-at n i s ws lt e =
    let h : s ≡ n + get_or ws i 0 + sum_of (drop (i + 1) ws) = sum_more n (get_or ws i 0) i s ws lt refl e in
    omega (arith, h)

take-last : (cs : List (List Lit)) (i : ℕ) → i < length cs → take (suc i) cs ≡ take i cs ++ cell_at cs i ∷ []
take-last [] i h = absurd (omega arith)
take-last (c ∷ cs) zero h = refl
take-last (c ∷ cs) (suc i) h = ap (λ (t : List (List Lit)). c ∷ t) (take-last cs i (omega arith))

cell-drop : (cs : List (List Lit)) (f k : ℕ) → cell_at (drop f cs) k ≡ cell_at cs (f + k)
cell-drop cs zero k = let e : k ≡ 0 + k = omega arith in ap (λ (i : ℕ). cell_at cs i) e
cell-drop [] (suc f) k = refl
cell-drop (c ∷ cs) (suc f) k = let e : suc (f + k) ≡ suc f + k = omega arith in cell-drop cs f k ∙ ap (λ (i : ℕ). cell_at (c ∷ cs) i) e

cell-take : (cs : List (List Lit)) (m k : ℕ) → k < m → cell_at (take m cs) k ≡ cell_at cs k
cell-take cs zero k h = absurd (omega arith)
cell-take [] (suc m) k h = refl
cell-take (c ∷ cs) (suc m) zero h = refl
cell-take (c ∷ cs) (suc m) (suc k) h = cell-take cs m k (omega arith)

drop-long : (cs : List (List Lit)) (f i : ℕ) → f + i < length cs → i < length (drop f cs)
drop-long cs zero i h = omega arith
drop-long [] (suc f) i h = absurd (omega arith)
drop-long (c ∷ cs) (suc f) i h = drop-long cs f i (omega arith)

-- a range of the cells, one cell longer
pub range-more : (cs now new : List (List Lit)) (f i : ℕ) (c : List Lit) → f + i < length cs → now ≡ take i (drop f cs) → c ≡ cell_at cs (f + i) → new ≡ now ++ c ∷ []
    → new ≡ take (i + 1) (drop f cs)
range-more cs now new f i c lt e h g =
    let n : suc i ≡ i + 1 = omega arith in
    g ∙ (ap (λ (t : List (List Lit)). t ++ c ∷ []) e ∙ (ap (λ (t : List Lit). take i (drop f cs) ++ t ∷ []) (h ∙ sym (cell-drop cs f i))
    ∙ (sym (take-last (drop f cs) i (drop-long cs f i lt)) ∙ ap (λ (t : ℕ). take t (drop f cs)) n)))

take-many : (m : ℕ) (cs : List (List Lit)) → m ≤ length cs → length (take m cs) ≡ m
take-many zero cs h = refl
take-many (suc m) [] h = absurd (omega arith)
take-many (suc m) (c ∷ cs) h = ap suc (take-many m cs (omega arith))

drop-many : (f m : ℕ) (cs : List (List Lit)) → f + m ≤ length cs → m ≤ length (drop f cs)
drop-many zero m cs h = omega arith
drop-many (suc f) m [] h = omega arith
drop-many (suc f) m (c ∷ cs) h = drop-many f m cs (omega arith)

-- the cells of a range are as many
pub range-many : (f m : ℕ) (cs : List (List Lit)) → f + m ≤ length cs → length (take m (drop f cs)) ≡ m
range-many f m cs h = take-many m (drop f cs) (drop-many f m cs h)

-- the cell at a known place among those of a range
pub element-known : (one : Lit) (n : ℕ) (cells : List (List Lit)) (f m : ℕ) (index : List Lit) (k : ℕ) → 1 ≤ m → f + m ≤ length cells
    → cond (ltb k m) (cell_at cells (f + k)) (copies_of (negated one) (length (cell_at cells f))) ≡ (element_of one n (take m (drop f cells)) index (Some k)).outs
element-known one n cells f m index k some le =
    let cs = take m (drop f cells) in
    let many : length cs ≡ m = range-many f m cells le in
    let z : f + 0 ≡ f = omega arith in
    let head : cell_at cells f ≡ cell_at cs 0
    = sym (cell-take (drop f cells) m 0 (omega arith) ∙ (cell-drop cells f 0 ∙ ap (λ (i : ℕ). cell_at cells i) z)) in
    let none = copies_of (negated one) (length (cell_at cs 0)) in
    ap (λ (t : List Lit). cond (ltb k m) (cell_at cells (f + k)) (copies_of (negated one) (length t))) head
    ∙ (chosen {A = List Lit} (ltb k m) (cell_at cells (f + k)) none (λ (t : List Lit). t ≡ cond (ltb k m) (cell_at cs k) none)
    (λ t. sym (cell-drop cells f k) ∙ (sym (cell-take (drop f cells) m k (ltb-true k m t)) ∙ ap (λ (b : Bool). cond b (cell_at cs k) none) (sym t)))
    (λ t. ap (λ (b : Bool). cond b (cell_at cs k) none) (sym t))
    ∙ ap (λ (t : ℕ). cond (ltb k t) (cell_at cs k) none) (sym many))

all-long-drop : (w n : ℕ) (cs : List (List Lit)) → AllLong w cs → AllLong w (drop n cs)
all-long-drop w zero cs h = h
all-long-drop w (suc n) [] h = tt
all-long-drop w (suc n) (c ∷ cs) h = all-long-drop w n cs h.1

-- a cell that is put in has as many literals as the one in its place, the later ones being there
pub replaced-fits : (w : ℕ) (cells now : List (List Lit)) (f n : ℕ) (all : List (List Lit)) (to : List Lit) → AllLong w all → AllLong w (take (length all) (drop f cells))
    → f + length all ≤ length cells → n < length all → drop n all ≡ to ∷ drop (suc n) all → now ≡ replaced cells (suc (f + n)) (drop (suc n) all)
    → length to ≡ length (cell_at now (f + n))
replaced-fits w cells now f n all to a h le lt d e =
    let rest = drop (suc n) all in
    let b : AllLong w (to ∷ rest) = subst (λ (t : List (List Lit)). AllLong w t) d (all-long-drop w n all a) in
    let many : length (drop n all) ≡ suc (length rest) = ap length d in
    let long : length all ≡ n + length (drop n all) = dropped n all (omega arith) in
    let widths : map length now ≡ map length cells
    = ap (λ (t : List (List Lit)). map length t) e
    ∙ replaced-widths w cells (suc (f + n)) rest b.1 (λ k less. let i : suc (f + n) + k ≡ f + (suc n + k) = omega arith in
    ap (λ (t : ℕ). length (cell_at cells t)) i ∙ long-at w cells f (length all) (suc n + k) h (omega (arith, less, many, long)) le) in
    b.0 ∙ sym (cell-width now (f + n) ∙ (ap (λ (t : List ℕ). slice_index t (f + n)) widths ∙ (sym (cell-width cells (f + n))
    ∙ long-at w cells f (length all) n h lt le)))
  where
    dropped : (i : ℕ) (xs : List (List Lit)) → i ≤ length xs → length xs ≡ i + length (drop i xs)
    dropped zero xs g = omega arith
    dropped (suc i) [] g = absurd (omega arith)
    dropped (suc i) (x ∷ xs) g = let r = dropped i xs (omega arith) in omega (arith, r)

pub placed-many : (cs : List (List Lit)) (k : ℕ) (c : List Lit) → length (placed cs k c) ≡ length cs
placed-many [] k c = refl
placed-many (x ∷ cs) zero c = refl
placed-many (x ∷ cs) (suc k) c = ap suc (placed-many cs k c)

-- the last of the cells that are left to be put in
pub replace-turn : {A : Type 0} (f : A → List Lit) (cells now all : List (List Lit)) (first : ℕ) (items new : List A) (to : A) → items ≡ new ++ to ∷ []
    → map f items ≡ take (length items) all → length items ≤ length all → now ≡ replaced cells (first + length items) (drop (length items) all)
    → (map f new ≡ take (length new) all) × (length new < length all) × (drop (length new) all ≡ f to ∷ drop (suc (length new)) all)
    × (now ≡ replaced cells (suc (first + length new)) (drop (suc (length new)) all))
replace-turn f cells now all first items new to e m le r =
    let ln : length items ≡ suc (length new) = ap length e ∙ (length-append new (to ∷ []) ∙ omega arith) in
    let s = split-last f new to all (ap (map f) (sym e) ∙ (m ∙ ap (λ (t : ℕ). take t all) ln)) in
    let at : first + length items ≡ suc (first + length new) = omega (arith, ln) in (
      s.0,
      omega (arith, ln, le),
      s.1,
      r ∙ (ap (λ (t : ℕ). replaced cells t (drop (length items) all)) at
          ∙ ap (λ (t : ℕ). replaced cells (suc (first + length new)) (drop t all)) ln),
    )

-- the first cell of a range, and a shorter range
pub long-head : (w : ℕ) (cells : List (List Lit)) (f m : ℕ) → 1 ≤ m → f + m ≤ length cells → AllLong w (take m (drop f cells)) → length (cell_at cells f) ≡ w
long-head w cells f m some le h =
    let z : f ≡ f + 0 = omega arith in
    ap (λ (i : ℕ). length (cell_at cells i)) z ∙ long-at w cells f m 0 h (omega arith) le

pub long-less : (w n m : ℕ) (cs : List (List Lit)) → n ≤ m → AllLong w (take m cs) → AllLong w (take n cs)
long-less w zero m cs le h = tt
long-less w (suc n) zero cs le h = absurd (omega arith)
long-less w (suc n) (suc m) [] le h = tt
long-less w (suc n) (suc m) (c ∷ cs) le h = (h.0, long-less w n m cs (omega arith) h.1)

-- after a write to the literals of a cell
pub overwritten : (es : List ℕ) (xs to : List Lit) (k : ℕ) → Rising 0 es (length xs) → k < length es → length to ≡ length (cell_at (pieces 0 es xs) k)
    → (length to ≡ get_or es k 0 - start_of 0 es k)
    × (pieces 0 es (take (start_of 0 es k) xs ++ (to ++ drop (get_or es k 0 - start_of 0 es k) (drop (start_of 0 es k) xs))) ≡ placed (pieces 0 es xs) k to)
overwritten es xs to k r h l =
    let s = start_of 0 es k in
    let e = get_or es k 0 in
    let b = rising_at 0 es (length xs) r k h in
    let d : length (drop s xs) ≡ length xs - s = length-drop s xs in
    let t : length (take (e - s) (drop s xs)) ≡ e - s = length-take-le (e - s) (drop s xs) (omega (arith, d, b.0, b.1)) in
    let n : length to ≡ e - s = l ∙ (ap length (cell-piece 0 es xs k h) ∙ t) in
    let within : s ≤ length xs = omega (arith, b.0, b.1) in (
      n,
      pieces-put 0 es xs (take s xs ++ (to ++ drop (e - s) (drop s xs))) (length xs) k to r h
          (take-put_mid_below s (e - s) xs to s (omega arith) within)
          (between-put_mid s (e - s) xs to e within n)
          (drop-put_mid s (e - s) xs to e (omega (arith, b.0)) within n),
    )
