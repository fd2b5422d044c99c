-- A value that is stored at an index.
use Rattle.std.proofs.Common.{◌≡◌, ℕ, ◌+◌, ◌≤◌, ◌<◌, length, List, [], ◌∷◌, map, take, drop, arith, ap, sym, ◌∙◌, refl, suc, zero, Bool, true, false, cond, ltb, eqb, nat_lt, if◌then◌else◌, Option, Some, None, slice_index, slice_set}
use Rattle.std.proofs.lemmas.List.{length-drop, length-take-le, get_or-set_other, set-get_or}
use Rattle.std.proofs.lemmas.Bool.{eq-eqb, ne_eqb, ltb-true, ltb-false, le-ltb}
use Rattle.prop.specs.declared.Lit.{Lit}
use Rattle.prop.specs.Logic.{lit_value, LitsBelow}
use Rattle.bit_gates.specs.Net.{Meets, number}
use Rattle.bit_gates.specs.Quotients.{selected}
use Rattle.bit_gates.proofs.Nets.{meets-append}
use Rattle.bit_gates.proofs.Within.{lits-more}
use Rattle.bit_gates.proofs.Exacts.{ok_below, below_ok}
use Rattle.bit_words.specs.Folding.{folded_made}
use Rattle.bit_words.specs.Words.{spelled_of}
use Rattle.bit_words.specs.Elements.{decoded, stored, AllLong}
use Rattle.bit_blast.specs.Emission.{cell_at}
use Rattle.bit_blast.specs.Held.{placed, replaced, known_index, store_in}
use Rattle.bit_blast.proofs.Steps.{stored-many}
use Rattle.blast_laws.proofs.Words.{if-cases, none-is-some, spelled-number}
use Rattle.blast_laws.proofs.Places.{Spots}
use Rattle.blast_laws.proofs.Owes.{Below, fits-zero, AllOk, all-more, all-take, all-drop}
use Rattle.blast_laws.proofs.Operations.{choice-told}
use Rattle.blast_laws.proofs.Elements.{places-told, decoded-below}

pub placed-spelled : (v : ℕ → Bool) (cells : List (List Lit)) (k : ℕ) (to : List Lit)
    → map (number v) (placed cells k to) ≡ slice_set (map (number v) cells) k (number v to)
placed-spelled v [] k to = refl
placed-spelled v (c ∷ cs) zero to = refl
placed-spelled v (c ∷ cs) (suc k) to = ap (λ (t : List ℕ). number v c ∷ t) (placed-spelled v cs k to)

pub cell-spelled : (v : ℕ → Bool) (cells : List (List Lit)) (k : ℕ) → number v (cell_at cells k) ≡ slice_index (map (number v) cells) k
cell-spelled v [] k = refl
cell-spelled v (c ∷ cs) zero = refl
cell-spelled v (c ∷ cs) (suc k) = cell-spelled v cs k

pub cell-range : (cells : List (List Lit)) (f m j : ℕ) → j < m → cell_at (take m (drop f cells)) j ≡ cell_at cells (f + j)
cell-range cells zero m j lt = first cells m j lt ∙ ap (cell_at cells) e
  where
    e : j ≡ 0 + j
    e = omega arith

    first : (cs : List (List Lit)) (m j : ℕ) → j < m → cell_at (take m cs) j ≡ cell_at cs j
    first cs zero j lt = absurd (omega (arith, lt))
    first [] (suc m) j lt = refl
    first (c ∷ cs) (suc m) zero lt = refl
    first (c ∷ cs) (suc m) (suc j) lt = first cs m j (omega (arith, lt))
cell-range [] (suc f) zero j lt = absurd (omega (arith, lt))
cell-range [] (suc f) (suc m) j lt = refl
cell-range (c ∷ cs) (suc f) m j lt = cell-range cs f m j lt ∙ ap (cell_at (c ∷ cs)) e
  where
    e : suc (f + j) ≡ suc f + j
    e = omega arith

pub replaced-same : (v : ℕ → Bool) (cells : List (List Lit)) (f : ℕ) (news : List (List Lit))
    → ((j : ℕ) → j < length news → number v (cell_at news j) ≡ slice_index (map (number v) cells) (f + j))
    → map (number v) (replaced cells f news) ≡ map (number v) cells
replaced-same v cells f [] h = refl
replaced-same v cells f (c ∷ cs) h =
    let S = map (number v) cells in
    let z : f + 0 ≡ f = omega arith in
    let i : map (number v) (replaced cells (suc f) cs) ≡ S
    = replaced-same v cells (suc f) cs (λ j lt. let e : f + suc j ≡ suc f + j = omega arith in h (suc j) (omega (arith, lt)) ∙ ap (slice_index S) e) in
    placed-spelled v (replaced cells (suc f) cs) f c ∙ (ap (λ (t : List ℕ). slice_set t f (number v c)) i
    ∙ (ap (λ (t : ℕ). slice_set S f t) (h 0 (omega arith) ∙ ap (slice_index S) z) ∙ set-get_or S f 0))

pub replaced-hit : (v : ℕ → Bool) (cells : List (List Lit)) (f : ℕ) (news : List (List Lit)) (i x : ℕ) → i < length news
    → number v (cell_at news i) ≡ x
    → ((j : ℕ) → j < length news → (j ≡ i → ⊥) → number v (cell_at news j) ≡ slice_index (map (number v) cells) (f + j))
    → map (number v) (replaced cells f news) ≡ slice_set (map (number v) cells) (f + i) x
replaced-hit v cells f [] i x lt q h = absurd (omega (arith, lt))
replaced-hit v cells f (c ∷ cs) zero x lt q h =
    let S = map (number v) cells in
    let z : f ≡ f + 0 = omega arith in
    let i : map (number v) (replaced cells (suc f) cs) ≡ S
    = replaced-same v cells (suc f) cs (λ j less. let e : f + suc j ≡ suc f + j = omega arith in h (suc j) (omega (arith, less)) (λ g. omega (arith, g)) ∙ ap (slice_index S) e) in
    placed-spelled v (replaced cells (suc f) cs) f c ∙ (ap (λ (t : List ℕ). slice_set t f (number v c)) i
    ∙ (ap (λ (t : ℕ). slice_set S f t) q ∙ ap (λ (t : ℕ). slice_set S t x) z))
replaced-hit v cells f (c ∷ cs) (suc i) x lt q h =
    let S = map (number v) cells in
    let a = suc f + i in
    let T = slice_set S a x in
    let z : f + 0 ≡ f = omega arith in
    let e : suc f + i ≡ f + suc i = omega arith in
    let r : map (number v) (replaced cells (suc f) cs) ≡ T
    = replaced-hit v cells (suc f) cs i x (omega (arith, lt)) q
    (λ j less ne. let e : f + suc j ≡ suc f + j = omega arith in h (suc j) (omega (arith, less)) (λ g. ne (omega (arith, g))) ∙ ap (slice_index S) e) in
    let other : slice_index T f ≡ slice_index S f = get_or-set_other S a f x 0 (λ g. omega (arith, g)) in
    let at : number v c ≡ slice_index T f = h 0 (omega arith) (λ g. omega (arith, g)) ∙ (ap (slice_index S) z ∙ sym other) in
    placed-spelled v (replaced cells (suc f) cs) f c ∙ (ap (λ (t : List ℕ). slice_set t f (number v c)) r
    ∙ (ap (λ (t : ℕ). slice_set T f t) at ∙ (set-get_or T f 0 ∙ ap (λ (t : ℕ). slice_set S t x) e)))

pub stored-told : (v f : ℕ → Bool) (one : Lit) (n : ℕ) (es : List Lit) (cs : List (List Lit)) (value : List Lit) → lit_value v one ≡ true → one.var < n
    → LitsBelow n es → AllOk Below n cs → LitsBelow n value → AllLong (length value) cs → Spots v f es
    → Meets v n (stored one n es cs value).defs
    → (j : ℕ) → j < length (stored one n es cs value).cells
    → number v (cell_at (stored one n es cs value).cells j) ≡ cond (f j) (number v value) (number v (cell_at cs j))
stored-told v f one n [] cs value h o he hc hv al s m j lt = absurd (omega (arith, lt))
stored-told v f one n (e ∷ es) [] value h o he hc hv al s m j lt = absurd (omega (arith, lt))
stored-told v f one n (e ∷ es) (c ∷ cs) value h o he hc hv al s m j lt =
    let d = folded_made one n (selected n e value c) in
    let k = n + length d.defs in
    let r = stored one k es cs value in
    let p = meets-append v n d.defs r.defs m in
    let nk : n ≤ k = omega arith in
    by j lt (choice-told v one n e value c h he.0 hv (below_ok n c hc.0) (sym al.0) p.0)
    (λ i less. stored-told v (λ j. f (suc j)) one k es cs value h (omega (arith, o)) (below_ok k es (lits-more Below 0 fits-zero n k es (omega arith) nk (ok_below n es he.1)))
    (all-more Below 0 fits-zero n k cs (omega arith) nk hc.1) (below_ok k value (lits-more Below 0 fits-zero n k value (omega arith) nk (ok_below n value hv)))
    al.1 s.1 p.1 i less)
  where
    by : (j : ℕ) → j < length (stored one n (e ∷ es) (c ∷ cs) value).cells
        → number v (folded_made one n (selected n e value c)).outs ≡ cond (lit_value v e) (number v value) (number v c)
        → ((i : ℕ) → i < length (stored one (n + length (folded_made one n (selected n e value c)).defs) es cs value).cells
        → number v (cell_at (stored one (n + length (folded_made one n (selected n e value c)).defs) es cs value).cells i) ≡ cond (f (suc i)) (number v value) (number v (cell_at cs i)))
        → number v (cell_at (stored one n (e ∷ es) (c ∷ cs) value).cells j) ≡ cond (f j) (number v value) (number v (cell_at (c ∷ cs) j))
    by zero lt q ih = q ∙ ap (λ (t : Bool). cond t (number v value) (number v c)) s.0
    by (suc i) lt q ih = ih i (omega (arith, lt))

stored-long : (one : Lit) (n i : ℕ) (es : List Lit) (cs : List (List Lit)) (value : List Lit) → i < length es → i < length cs
    → i < length (stored one n es cs value).cells
stored-long one n i [] cs value lt less = absurd (omega (arith, lt))
stored-long one n i (e ∷ es) [] value lt less = absurd (omega (arith, less))
stored-long one n zero (e ∷ es) (c ∷ cs) value lt less = omega arith
stored-long one n (suc i) (e ∷ es) (c ∷ cs) value lt less =
    let d = folded_made one n (selected n e value c) in
    let h = stored-long one (n + length d.defs) i es cs value (omega (arith, lt)) (omega (arith, less)) in
    omega (arith, h)

never-below-zero : (k : ℕ) → ltb k 0 ≡ false
never-below-zero k = le-ltb k 0 (omega arith)

-- the cells after a value was stored: the one that the index names has it
pub store-told : (v : ℕ → Bool) (one : Lit) (n : ℕ) (cells : List (List Lit)) (f m : ℕ) (index value : List Lit) (o : Option ℕ) → o ≡ known_index m (spelled_of one index)
    → lit_value v one ≡ true → one.var < n → LitsBelow n index → LitsBelow n value → AllOk Below n cells → f + m ≤ length cells
    → AllLong (length value) (take m (drop f cells))
    → Meets v n (store_in one n cells f m index value o).defs
    → map (number v) (store_in one n cells f m index value o).cells
    ≡ (if nat_lt (number v index) m then slice_set (map (number v) cells) (f + number v index) (number v value) else map (number v) cells)
store-told v one n cells f zero index value None e h ob hi hv hc le al x = absurd (none-is-some 0 e)
store-told v one n cells f zero index value (Some k) e h ob hi hv hc le al x =
    ap (λ (t : Bool). map (number v) (cond t (placed cells (f + k) value) cells)) (never-below-zero k)
    ∙ sym (ap (λ (t : Bool). if t then slice_set (map (number v) cells) (f + number v index) (number v value) else map (number v) cells) (never-below-zero (number v index)))
store-told v one n cells f (suc m) index value (Some k) e h ob hi hv hc le al x =
    let q : number v index ≡ k = spelled-number v one index k h (sym e) in
    by (ltb k (suc m)) ∙ ap (λ (i : ℕ). if nat_lt i (suc m) then slice_set (map (number v) cells) (f + i) (number v value) else map (number v) cells) (sym q)
  where
    by : (t : Bool) → map (number v) (cond t (placed cells (f + k) value) cells) ≡ (if t then slice_set (map (number v) cells) (f + k) (number v value) else map (number v) cells)
    by true = placed-spelled v cells (f + k) value
    by false = refl
store-told v one n cells f (suc m) index value None e h ob hi hv hc le al x =
    let S = map (number v) cells in
    let cs = take (suc m) (drop f cells) in
    let lc : length cs ≡ suc m = length-take-le (suc m) (drop f cells) (omega (arith, length-drop f cells, le)) in
    let d = folded_made one n (decoded n one index (length cs)) in
    let k = n + length d.defs in
    let s = stored one k d.outs cs value in
    let i = number v index in
    let p = meets-append v n d.defs s.defs x in
    let t = places-told v one n index (length cs) h ob hi p.0 in
    let nk : n ≤ k = omega arith in
    let r = stored-told v (λ j. eqb i j) one k d.outs cs value h (omega (arith, ob)) (decoded-below one n index (length cs) ob hi)
    (all-more Below 0 fits-zero n k cs (omega arith) nk (all-take Below n (suc m) (drop f cells) (all-drop Below n f cells hc)))
    (below_ok k value (lits-more Below 0 fits-zero n k value (omega arith) nk (ok_below n value hv))) al t.0 p.1 in
    let many = stored-many one k d.outs cs value in
    let at : (j : ℕ) → j < length s.cells → number v (cell_at cs j) ≡ slice_index S (f + j)
    = λ j lt. ap (number v) (cell-range cells f (suc m) j (omega (arith, lt, many, lc))) ∙ cell-spelled v cells (f + j) in
    if-cases {A = List ℕ} (nat_lt i (suc m)) (slice_set S (f + i) (number v value)) S (λ (t : List ℕ). map (number v) (replaced cells f s.cells) ≡ t)
    (λ y.
    let lt : i < length cs = omega (arith, ltb-true i (suc m) y, lc) in
    let ls : i < length s.cells = stored-long one k i d.outs cs value (t.1 lt) lt in
    replaced-hit v cells f s.cells i (number v value) ls
    (r i ls ∙ ap (λ (b : Bool). cond b (number v value) (number v (cell_at cs i))) (eq-eqb i i refl))
    (λ j less ne. r j less ∙ (ap (λ (b : Bool). cond b (number v value) (number v (cell_at cs j))) (ne_eqb i j (λ g. ne (sym g))) ∙ at j less)))
    (λ y.
    let ge : suc m ≤ i = ltb-false i (suc m) y in
    replaced-same v cells f s.cells
    (λ j less. r j less ∙ (ap (λ (b : Bool). cond b (number v value) (number v (cell_at cs j))) (ne_eqb i j (λ g. omega (arith, g, ge, less, many, lc))) ∙ at j less)))
