use Rattle.std.proofs.Common.{◌≡◌, ℕ, ◌+◌, ◌-◌, ◌*◌, ◌≤◌, ◌<◌, length, List, [], ◌∷◌, ◌++◌, take, true, Bool, cond, arith, ap, sym, ◌∙◌, refl, suc, subst, append_assoc, get_or}
use Rattle.std.proofs.lemmas.List.{length-append}
use Rattle.prop.specs.declared.Lit.{Lit}
use Rattle.prop.specs.Logic.{positive_of}
use Rattle.bit_gates.specs.declared.netlist.Def.{Def}
use Rattle.bit_gates.specs.declared.netlist.Def.TheVariants.{And, Fixed}
use Rattle.prop.specs.Logic.{negated}
use Rattle.bit_gates.specs.Singles.{Chained}
use Rattle.bit_gates.specs.Sums.{Added, half_ripple}
use Rattle.bit_gates.specs.Products.{Made, masked, row, product}
use Rattle.bit_gates.specs.Quotients.{Divided, divided, none_of, quotient}
use Rattle.bit_gates.specs.declared.shifters.Shift.{Shift}
use Rattle.bit_gates.specs.Shifts.{stage, last_stage, stages, top_of}
use Rattle.bit_gates.specs.Cut.{Grew}
use Rattle.std.proofs.lemmas.Bool.{lt-ltb, le-ltb}

pub grew_seq : (n n1 n2 : ℕ) (old d1 d2 xs ys : List Def) → Grew n old n1 d1 xs → Grew n1 d1 n2 d2 ys → Grew n old n2 d2 (xs ++ ys)
grew_seq n n1 n2 old d1 d2 xs ys g h =
    (omega (arith, g.0, h.0, length-append xs ys), h.1 ∙ (ap (λ t. t ++ ys) g.1 ∙ append_assoc old xs ys))

pub row_put : (n n1 n2 n3 : ℕ) (a : Lit) (xs : List Lit) (b : Lit) (low : List Lit) (old d1 d2 d3 : List Def) (f : Lit) (os ss : List Lit)
    → f ≡ positive_of n → Grew n old n1 d1 (And a b ∷ [])
    → Grew n1 d1 n2 d2 (masked n1 xs b).defs → os ≡ (masked n1 xs b).outs
    → Grew n2 d2 n3 d3 (half_ripple n2 os low).defs → ss ≡ (half_ripple n2 os low).outs
    → Grew n old n3 d3 (row n a xs b low).defs × (f ∷ ss ≡ (row n a xs b low).outs)
row_put n n1 n2 n3 a xs b low old d1 d2 d3 f os ss ef g1 g2 eo g3 es =
    let e1 : n1 ≡ suc n = omega (arith, g1.0) in
    let m = masked (suc n) xs b in
    let em : masked n1 xs b ≡ m = ap (λ (t : ℕ). masked t xs b) e1 in
    let e2 : n2 ≡ suc n + length m.defs
    = g2.0 ∙ (ap (λ (t : Made). n1 + length t.defs) em ∙ ap (λ (t : ℕ). t + length m.defs) e1) in
    let eo2 : os ≡ m.outs = eo ∙ ap (λ (t : Made). t.outs) em in
    let s = half_ripple (suc n + length m.defs) m.outs low in
    let e3 : half_ripple n2 os low ≡ s
    = ap (λ (t : ℕ). half_ripple t os low) e2 ∙ ap (λ (t : List Lit). half_ripple (suc n + length m.defs) t low) eo2 in
    let q = grew_seq n n2 n3 old d2 d3 (And a b ∷ (masked n1 xs b).defs) (half_ripple n2 os low).defs
    (grew_seq n n1 n2 old d1 d2 (And a b ∷ []) (masked n1 xs b).defs g1 g2) g3 in
    let q2 = subst (λ (t : Made). Grew n old n3 d3 (And a b ∷ (t.defs ++ (half_ripple n2 os low).defs))) em q in
    let q3 = subst (λ (t : Added). Grew n old n3 d3 (And a b ∷ (m.defs ++ t.defs))) e3 q2 in
    (q3, ap (λ (t : Lit). t ∷ ss) ef ∙ ap (λ (t : List Lit). positive_of n ∷ t) (es ∙ ap (λ (t : Added). t.outs) e3))

pub product_put : (n n1 n2 : ℕ) (a : Lit) (xs ys zs : List Lit) (y : Lit) (old d1 d2 : List Def) (low os : List Lit)
    → zs ≡ y ∷ ys → low ≡ (product n a xs ys).outs → Grew n old n1 d1 (product n a xs ys).defs
    → Grew n1 d1 n2 d2 (row n1 a (take (length low) xs) y low).defs → os ≡ (row n1 a (take (length low) xs) y low).outs
    → Grew n old n2 d2 (product n a xs zs).defs × (os ≡ (product n a xs zs).outs)
product_put n n1 n2 a xs ys zs y old d1 d2 low os ez el g1 g2 eo =
    let m = product n a xs ys in
    let s = row (n + length m.defs) a (take (length m.outs) xs) y m.outs in
    let e : row n1 a (take (length low) xs) y low ≡ s
    = ap (λ (t : ℕ). row t a (take (length low) xs) y low) g1.0
    ∙ ap (λ (t : List Lit). row (n + length m.defs) a (take (length t) xs) y t) el in
    let q = grew_seq n n1 n2 old d1 d2 m.defs (row n1 a (take (length low) xs) y low).defs g1 g2 in
    let q2 = subst (λ (t : Made). Grew n old n2 d2 (m.defs ++ t.defs)) e q in
    let o2 : os ≡ (product n a xs (y ∷ ys)).outs = eo ∙ ap (λ (t : Made). t.outs) e in (
      subst (λ (t : List Lit). Grew n old n2 d2 (product n a xs t).defs) (sym ez) q2,
      subst (λ (t : List Lit). os ≡ (product n a xs t).outs) (sym ez) o2,
    )

pub quotient_put : (n n1 n2 n3 n4 n5 : ℕ) (xs b : List Lit) (one none : Lit) (old d1 d2 d3 d4 d5 : List Def) (dq dr q r : List Lit)
    → one ≡ positive_of n → Grew n old n1 d1 (Fixed true ∷ [])
    → Grew n1 d1 n2 d2 (divided n1 one xs b).defs → dq ≡ (divided n1 one xs b).quot → dr ≡ (divided n1 one xs b).rest
    → Grew n2 d2 n3 d3 (none_of n2 one b).defs → none ≡ (none_of n2 one b).out
    → Grew n3 d3 n4 d4 (masked n3 dq (negated none)).defs → q ≡ (masked n3 dq (negated none)).outs
    → Grew n4 d4 n5 d5 (masked n4 dr (negated none)).defs → r ≡ (masked n4 dr (negated none)).outs
    → Grew n old n5 d5 (quotient n xs b).defs × (q ≡ (quotient n xs b).quot) × (r ≡ (quotient n xs b).rest)
quotient_put n n1 n2 n3 n4 n5 xs b one none old d1 d2 d3 d4 d5 dq dr q r eo g1 g2 edq edr g3 en g4 eq g5 er =
    let e1 : n1 ≡ suc n = omega (arith, g1.0) in
    let one2 = positive_of n in
    let d = divided (suc n) one2 xs b in
    let ed : divided n1 one xs b ≡ d = ap (λ (t : ℕ). divided t one xs b) e1 ∙ ap (λ (t : Lit). divided (suc n) t xs b) eo in
    let k = suc n + length d.defs in
    let e2 : n2 ≡ k = g2.0 ∙ (ap (λ (t : Divided). n1 + length t.defs) ed ∙ ap (λ (t : ℕ). t + length d.defs) e1) in
    let z = none_of k one2 b in
    let ez : none_of n2 one b ≡ z = ap (λ (t : ℕ). none_of t one b) e2 ∙ ap (λ (t : Lit). none_of k t b) eo in
    let l = k + length z.defs in
    let e3 : n3 ≡ l = g3.0 ∙ (ap (λ (t : Chained). n2 + length t.defs) ez ∙ ap (λ (t : ℕ). t + length z.defs) e2) in
    let ec : negated none ≡ negated z.out = ap negated (en ∙ ap (λ (t : Chained). t.out) ez) in
    let mq = masked l d.quot (negated z.out) in
    let eq2 : masked n3 dq (negated none) ≡ mq
    = ap (λ (t : ℕ). masked t dq (negated none)) e3 ∙ (ap (λ (t : List Lit). masked l t (negated none)) (edq ∙ ap (λ (t : Divided). t.quot) ed)
    ∙ ap (λ (t : Lit). masked l d.quot t) ec) in
    let o = l + length mq.defs in
    let e4 : n4 ≡ o = g4.0 ∙ (ap (λ (t : Made). n3 + length t.defs) eq2 ∙ ap (λ (t : ℕ). t + length mq.defs) e3) in
    let mr = masked o d.rest (negated z.out) in
    let er2 : masked n4 dr (negated none) ≡ mr
    = ap (λ (t : ℕ). masked t dr (negated none)) e4 ∙ (ap (λ (t : List Lit). masked o t (negated none)) (edr ∙ ap (λ (t : Divided). t.rest) ed)
    ∙ ap (λ (t : Lit). masked o d.rest t) ec) in
    let h5 = subst (λ (t : Made). Grew n4 d4 n5 d5 t.defs) er2 g5 in
    let h4 = subst (λ (t : Made). Grew n3 d3 n4 d4 t.defs) eq2 g4 in
    let h3 = subst (λ (t : Chained). Grew n2 d2 n3 d3 t.defs) ez g3 in
    let h2 = subst (λ (t : Divided). Grew n1 d1 n2 d2 t.defs) ed g2 in
    let w = grew_seq n n1 n5 old d1 d5 (Fixed true ∷ []) (d.defs ++ (z.defs ++ (mq.defs ++ mr.defs))) g1
    (grew_seq n1 n2 n5 d1 d2 d5 d.defs (z.defs ++ (mq.defs ++ mr.defs)) h2
    (grew_seq n2 n3 n5 d2 d3 d5 z.defs (mq.defs ++ mr.defs) h3
    (grew_seq n3 n4 n5 d3 d4 d5 mq.defs mr.defs h4 h5))) in
    (w, eq ∙ ap (λ (t : Made). t.outs) eq2, er ∙ ap (λ (t : Made). t.outs) er2)

stages_low : (n : ℕ) (how : Shift) (z : Lit) (k : ℕ) (xs : List Lit) (b : Lit) (bs : List Lit) → k < length xs
    → stages n how z k xs (b ∷ bs)
    ≡ record { defs = (stage n how z k b xs).defs ++ (stages (n + length (stage n how z k b xs).defs) how z (2 * k) (stage n how z k b xs).outs bs).defs; outs = (stages (n + length (stage n how z k b xs).defs) how z (2 * k) (stage n how z k b xs).outs bs).outs }
stages_low n how z k xs b bs lt =
    let s = stage n how z k b xs in
    let r = stages (n + length s.defs) how z (2 * k) s.outs bs in
    let p : Made = record { defs = s.defs ++ r.defs; outs = r.outs } in
    ap (λ (t : Bool). cond t p (last_stage n how z xs b bs)) (lt-ltb k (length xs) lt)

stages_high : (n : ℕ) (how : Shift) (z : Lit) (k : ℕ) (xs : List Lit) (b : Lit) (bs : List Lit) → length xs ≤ k
    → stages n how z k xs (b ∷ bs) ≡ last_stage n how z xs b bs
stages_high n how z k xs b bs le =
    let s = stage n how z k b xs in
    let r = stages (n + length s.defs) how z (2 * k) s.outs bs in
    let p : Made = record { defs = s.defs ++ r.defs; outs = r.outs } in
    ap (λ (t : Bool). cond t p (last_stage n how z xs b bs)) (le-ltb k (length xs) le)

-- what is left of a net whose definitions are to be those of m
abbrev pub Left : ℕ → List Def → Made → ℕ → List Def → Made → Type 0
Left n old m k d r = (n + length m.defs ≡ k + length r.defs) × (old ++ m.defs ≡ d ++ r.defs) × (m.outs ≡ r.outs)

pub stages_put : (n0 n n2 : ℕ) (old d d2 : List Def) (m : Made) (how : Shift) (z : Lit) (k k2 : ℕ) (os os2 zs : List Lit) (b : Lit) (bs : List Lit)
    → zs ≡ b ∷ bs → k < length os → k2 ≡ 2 * k → Left n0 old m n d (stages n how z k os zs)
    → Grew n d n2 d2 (stage n how z k b os).defs → os2 ≡ (stage n how z k b os).outs
    → Left n0 old m n2 d2 (stages n2 how z k2 os2 bs)
stages_put n0 n n2 old d d2 m how z k k2 os os2 zs b bs ez lt ek l g eo =
    let s = stage n how z k b os in
    let r = stages (n + length s.defs) how z (2 * k) s.outs bs in
    let e : stages n2 how z k2 os2 bs ≡ r
    = ap (λ (t : ℕ). stages t how z k2 os2 bs) g.0 ∙ (ap (λ (t : ℕ). stages (n + length s.defs) how z t os2 bs) ek
    ∙ ap (λ (t : List Lit). stages (n + length s.defs) how z (2 * k) t bs) eo) in
    let w : stages n how z k os zs ≡ record { defs = s.defs ++ r.defs; outs = r.outs }
    = ap (λ (t : List Lit). stages n how z k os t) ez ∙ stages_low n how z k os b bs lt in
    let l2 = subst (λ (t : Made). Left n0 old m n d t) w l in
    subst (λ (t : Made). Left n0 old m n2 d2 t) (sym e) (
      omega (arith, l2.0, g.0, length-append s.defs r.defs),
      l2.1 ∙ (sym (append_assoc d s.defs r.defs) ∙ ap (λ t. t ++ r.defs) (sym g.1)),
      l2.2,
    )

pub stages_end : (n0 n n2 : ℕ) (old d d2 : List Def) (m : Made) (how : Shift) (z : Lit) (k : ℕ) (os outs zs : List Lit) (b : Lit) (bs : List Lit)
    → zs ≡ b ∷ bs → length os ≤ k → Left n0 old m n d (stages n how z k os zs)
    → Grew n d n2 d2 (last_stage n how z os b bs).defs → outs ≡ (last_stage n how z os b bs).outs
    → Grew n0 old n2 d2 m.defs × (outs ≡ m.outs)
stages_end n0 n n2 old d d2 m how z k os outs zs b bs ez le l g eo =
    let w : stages n how z k os zs ≡ last_stage n how z os b bs
    = ap (λ (t : List Lit). stages n how z k os t) ez ∙ stages_high n how z k os b bs le in
    let l2 = subst (λ (t : Made). Left n0 old m n d t) w l in
    ((omega (arith, l2.0, g.0), g.1 ∙ sym l2.1), eo ∙ sym l2.2)

pub top_of-last : (xs : List Lit) (d : Lit) → 1 ≤ length xs → top_of xs ≡ get_or xs (length xs - 1) d
top_of-last [] d h = absurd (omega arith)
top_of-last (x ∷ []) d h = refl
top_of-last (x ∷ y ∷ ys) d h =
    let e : length (x ∷ y ∷ ys) - 1 ≡ suc (length (y ∷ ys) - 1) = omega arith in
    top_of-last (y ∷ ys) d (omega arith) ∙ ap (λ (t : ℕ). get_or (x ∷ y ∷ ys) t d) (sym e)
