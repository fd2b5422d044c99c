-- Elements of arrays: reading one, and storing one.
use Rattle.std.proofs.Common.{◌≡◌, ℕ, ◌+◌, ◌≤◌, ◌<◌, length, List, [], ◌∷◌, arith, ap, sym, ◌∙◌, refl, suc, zero, Bool, true, false, ◌&&◌, cond, subst, ltb, eqb, nat_lt, if◌then◌else◌, Option, Some, None}
use Rattle.std.proofs.lemmas.Bool.{ne_eqb, ltb-true, ltb-false}
use Rattle.prop.specs.declared.Lit.{Lit}
use Rattle.prop.specs.Logic.{negated, lit_value, LitsBelow}
use Rattle.bit_gates.specs.Net.{Meets, Agree, number}
use Rattle.bit_gates.proofs.Nets.{meets-append, lit-agree}
use Rattle.bit_gates.proofs.Exacts.{ok_below, below_ok}
use Rattle.bit_words.specs.Folding.{folded, renamed, folded_made}
use Rattle.bit_words.specs.Words.{spelled_of, copies_of}
use Rattle.bit_words.specs.Elements.{decoded, picked, AllLong}
use Rattle.bit_words.proofs.FoldLaws.{not-one}
use Rattle.bit_blast.specs.Emission.{cell_at, no_cell, element_of}
use Rattle.bit_blast.proofs.Lengths.{folded-outs, decoded-length, copies-length}
use Rattle.blast_laws.proofs.Words.{if-cases, number-agree, copies-zeros, spelled-number}
use Rattle.blast_laws.proofs.Places.{Spots, spots-same, spots-mapped, decoded-spots, decoded-long, picked-hit, picked-miss}
use Rattle.blast_laws.proofs.Owes.{Below, low-below, fits-zero, Owes, AllOk, all-more, inside, inside-one, decoded-owes, picked-owes, folded-owes}
use Rattle.bit_words.proofs.FoldingLaws.{Inside, fits_inside}
use Rattle.blast_laws.proofs.Operations.{unfolded, outs-seen}

-- folded places hold where the index names them
pub places-told : (v : ℕ → Bool) (one : Lit) (n : ℕ) (index : List Lit) (count : ℕ) → lit_value v one ≡ true → one.var < n → LitsBelow n index
    → Meets v n (folded_made one n (decoded n one index count)).defs
    → Spots v (λ j. eqb (number v index) j) (folded_made one n (decoded n one index count)).outs
    × (number v index < count → number v index < length (folded_made one n (decoded n one index count)).outs)
places-told v one n index count h o hi x =
    let m = decoded n one index count in
    let (w, ag, y, r) = unfolded v one n m h (decoded-owes Below 0 fits-zero n one index count (omega arith) o (ok_below n index hi)) x in
    let ho : lit_value w one ≡ true = lit-agree n v w one ag o ∙ h in
    let ni : number w index ≡ number v index = number-agree n v w index ag hi in
    let s : Spots w (λ j. lit_value w one && eqb (number w index) j) m.outs = decoded-spots w n one index count y in
    let e : (j : ℕ) → (lit_value w one && eqb (number w index) j) ≡ eqb (number v index) j
    = λ j. ap (λ (t : Bool). t && eqb (number w index) j) ho ∙ ap (λ (t : ℕ). eqb t j) ni in
    let t = spots-mapped v w (λ j. eqb (number v index) j) (renamed n (folded one n n [] m.defs).subs) m.outs r
    (spots-same w (λ j. lit_value w one && eqb (number w index) j) (λ j. eqb (number v index) j) m.outs e s) in (
      t,
      λ lt.
          let l : number w index < length m.outs = decoded-long w n one index count (omega (arith, lt, ni)) in
          omega (arith, l, ni, folded-outs one n m),
    )

-- at these places in w they are as in v
spots-agree : (n : ℕ) (v w f : ℕ → Bool) (ls : List Lit) → Agree n v w → LitsBelow n ls → Spots v f ls → Spots w f ls
spots-agree n v w f [] ag h s = tt
spots-agree n v w f (l ∷ ls) ag h s = (lit-agree n v w l ag h.0 ∙ s.0, spots-agree n v w (λ j. f (suc j)) ls ag h.1 s.1)

cells-below-at : (n k : ℕ) (cs : List (List Lit)) → AllOk Below n cs → LitsBelow n (cell_at cs k)
cells-below-at n k [] h = tt
cells-below-at n zero (c ∷ cs) h = below_ok n c h.0
cells-below-at n (suc k) (c ∷ cs) h = cells-below-at n k cs h.1

-- the choice among cells, folded
pub picked-told : (v : ℕ → Bool) (one : Lit) (n i : ℕ) (es : List Lit) (cs : List (List Lit)) (z : List Lit) → lit_value v one ≡ true
    → LitsBelow n es → AllOk Below n cs → LitsBelow n z → AllLong (length z) cs → Spots v (λ j. eqb i j) es → length es ≤ length cs
    → (i < length cs → i < length es)
    → Meets v n (folded_made one n (picked n es cs z)).defs
    → number v (folded_made one n (picked n es cs z)).outs ≡ (if nat_lt i (length cs) then number v (cell_at cs i) else number v z)
picked-told v one n i es cs z h he hc hz al s le named x =
    let m = picked n es cs z in
    let (w, ag, y, r) = unfolded v one n m h (picked-owes Below 0 fits-zero n es cs z (omega arith) (ok_below n es he) hc (ok_below n z hz)) x in
    let sw = spots-agree n v w (λ j. eqb i j) es ag he s in
    outs-seen v w one n m r
    ∙ if-cases {A = ℕ} (nat_lt i (length cs)) (number v (cell_at cs i)) (number v z) (λ (t : ℕ). number w m.outs ≡ t)
    (λ t.
    let lt = named (ltb-true i (length cs) t) in
    picked-hit w (λ j. eqb i j) n i es cs z al sw (λ j. refl) lt le y ∙ number-agree n v w (cell_at cs i) ag (cells-below-at n i cs hc))
    (λ t.
    let ge : length cs ≤ i = ltb-false i (length cs) t in
    picked-miss w (λ j. eqb i j) n es cs z al sw (λ j lt. ne_eqb i j (λ e. omega (arith, e, lt, ge, le))) y ∙ number-agree n v w z ag hz)

pub none-number : (v : ℕ → Bool) (one : Lit) (cs : List (List Lit)) → lit_value v one ≡ true → number v (no_cell one cs) ≡ 0
none-number v one cs h = copies-zeros v (negated one) (length (cell_at cs 0)) (not-one v one h)

none-below : (n : ℕ) (l : Lit) (k : ℕ) → l.var < n → LitsBelow n (copies_of l k)
none-below n l zero h = tt
none-below n l (suc k) h = (h, none-below n l k h)

decoded-inside : (n : ℕ) (one : Lit) (index : List Lit) (count : ℕ) → one.var < n → LitsBelow n index
    → Owes (Inside Below n n) n (decoded n one index count)
decoded-inside n one index count o hi =
    decoded-owes (Inside Below n n) n (fits_inside Below n n) n one index count (omega arith) (inside-one Below low-below n one o)
    (inside Below low-below n index (ok_below n index hi))

pub decoded-below : (one : Lit) (n : ℕ) (index : List Lit) (count : ℕ) → one.var < n → LitsBelow n index
    → LitsBelow (n + length (folded_made one n (decoded n one index count)).defs) (folded_made one n (decoded n one index count)).outs
decoded-below one n index count o hi =
    let d = folded_made one n (decoded n one index count) in
    below_ok (n + length d.defs) d.outs (folded-owes Below 0 fits-zero one n (decoded n one index count) (omega arith) o (decoded-inside n one index count o hi)).1

-- the cell that an index names, or 0
pub element-told : (v : ℕ → Bool) (one : Lit) (n : ℕ) (cs : List (List Lit)) (index : List Lit) (o : Option ℕ) → o ≡ spelled_of one index
    → lit_value v one ≡ true → one.var < n → LitsBelow n index → AllOk Below n cs → 1 ≤ length cs → AllLong (length (cell_at cs 0)) cs
    → Meets v n (element_of one n cs index o).defs
    → number v (element_of one n cs index o).outs ≡ (if nat_lt (number v index) (length cs) then number v (cell_at cs (number v index)) else 0)
element-told v one n cs index (Some k) e h ob hi hc some al x =
    let q : number v index ≡ k = spelled-number v one index k h (sym e) in
    let nothing = none-number v one cs h in
    let known : number v (cond (ltb k (length cs)) (cell_at cs k) (no_cell one cs)) ≡ (if nat_lt k (length cs) then number v (cell_at cs k) else 0) = by (ltb k (length cs)) k nothing in
    known ∙ ap (λ (i : ℕ). if nat_lt i (length cs) then number v (cell_at cs i) else 0) (sym q)
  where
    by : (t : Bool) (k : ℕ) → number v (no_cell one cs) ≡ 0 → number v (cond t (cell_at cs k) (no_cell one cs)) ≡ (if t then number v (cell_at cs k) else 0)
    by true k z = refl
    by false k z = z
element-told v one n cs index None e h ob hi hc some al x =
    let d = folded_made one n (decoded n one index (length cs)) in
    let k = n + length d.defs in
    let z = no_cell one cs in
    let p = picked k d.outs cs z in
    let xs = meets-append v n d.defs (folded_made one k p).defs x in
    let t = places-told v one n index (length cs) h ob hi xs.0 in
    let lz : length z ≡ length (cell_at cs 0) = copies-length (negated one) (length (cell_at cs 0)) in
    let le : length d.outs ≤ length cs = omega (arith, folded-outs one n (decoded n one index (length cs)), decoded-length n one index (length cs) some) in
    picked-told v one k (number v index) d.outs cs z h (decoded-below one n index (length cs) ob hi) (all-more Below 0 fits-zero n k cs (omega arith) (omega arith) hc)
    (none-below k (negated one) (length (cell_at cs 0)) (omega (arith, ob))) (subst (λ (t : ℕ). AllLong t cs) (sym lz) al) t.0 le t.1 xs.1
    ∙ ap (λ (t : ℕ). if nat_lt (number v index) (length cs) then number v (cell_at cs (number v index)) else t) (none-number v one cs h)
