-- The terms of a cone, emitted in rising order: their scope and their values.
use Rattle.std.proofs.Common.{◌≡◌, ℕ, ◌+◌, ◌≤◌, ◌<◌, length, List, [], ◌∷◌, ◌++◌, map, arith, ap, sym, ◌∙◌, refl, suc, zero, Bool, true, false, ◌||◌, cond, eqb, subst, inl, inr, slice_index}
use Rattle.std.proofs.lemmas.List.{length-append}
use Rattle.std.proofs.lemmas.Bool.{eq-eqb, eqb-true}
use Rattle.prop.specs.declared.Lit.{Lit}
use Rattle.prop.specs.Logic.{lit_value, LitsBelow}
use Rattle.prop.specs.Trues.{listed}
use Rattle.bit_gates.specs.Net.{Meets, number}
use Rattle.bit_gates.proofs.Nets.{meets-append}
use Rattle.bit_gates.proofs.Within as within
use Rattle.bit_gates.proofs.Within.{LitsOk, NetOk, ok-more, lits-more, net_ok-append, chosen}
use Rattle.bv_term.specs.declared.term.Term.{Term}
use Rattle.bv_term.specs.WellFormed.{Table, IsTable, Fits, AllFit, width_in, widths_after, widths}
use Rattle.bv_term.specs.Values.{value_in, values_after, values}
use Rattle.bv_term.proofs.Staying.{widths-keep, values-keep}
use Rattle.bit_blast.specs.Done.{Known, lits_of, is_done}
use Rattle.bit_blast.specs.Cone.{falling}
use Rattle.bit_blast.specs.Emission.{cell_at, emission, emitted, term_at}
use Rattle.bit_blast.proofs.Ready.{fits-at, term-ready, operand-below}
use Rattle.bit_blast.proofs.Cones.{is_done-more, lits_of-first, lits_of-last, DoneFit}
use Rattle.blast_laws.proofs.Turns.{or-right, split, with-wants, IsFreshNeed, fresh-wants, turn}
use Rattle.blast_laws.proofs.Owes.{IsLow, Below, fits-zero, AllOk, all-more}
use Rattle.blast_laws.proofs.Terms.{OwnOk, term-owes, term-told}

-- a term of a table, over the widths and values of the terms before it
pub record At (cw store allw allv ws vs : List ℕ) (t : Term) (k : ℕ) : Type 0 where
  pub fits : Fits cw ws t
  pub many : length ws ≡ k
  pub same : (i : ℕ) → i < k → slice_index ws i ≡ slice_index allw i
  pub width : slice_index allw k ≡ width_in cw ws t
  pub seen : (i : ℕ) → i < k → slice_index vs i ≡ slice_index allv i
  pub value : slice_index allv k ≡ value_in store ws vs t

index-last : (xs : List ℕ) (w : ℕ) → slice_index (xs ++ w ∷ []) (length xs) ≡ w
index-last [] w = refl
index-last (x ∷ xs) w = index-last xs w

at-from : (cw store ws vs : List ℕ) (ts : List Term) (k : ℕ) → AllFit cw ws ts → length vs ≡ length ws → k < length ts
    → (us : List ℕ) × ((xs : List ℕ) × At cw store (widths_after cw ws ts) (values_after cw store ws vs ts) us xs (term_at ts k) (length ws + k))
at-from cw store ws vs [] k f e lt = absurd (omega (arith, lt))
at-from cw store ws vs (t ∷ ts) zero f e lt =
    let w = width_in cw ws t in
    let x = value_in store ws vs t in
    let lw : length (ws ++ w ∷ []) ≡ length ws + 1 = length-append ws (w ∷ []) in
    let lv : length (vs ++ x ∷ []) ≡ length vs + 1 = length-append vs (x ∷ []) in
    let z : length ws + 0 ≡ length ws = omega arith in
    let zv : length ws + 0 ≡ length vs = omega (arith, e) in
    let at : slice_index (widths_after cw (ws ++ w ∷ []) ts) (length ws) ≡ w
    = widths-keep cw (ws ++ w ∷ []) ts (length ws) (omega (arith, lw)) ∙ index-last ws w in
    let av : slice_index (values_after cw store (ws ++ w ∷ []) (vs ++ x ∷ []) ts) (length vs) ≡ x
    = values-keep cw store (ws ++ w ∷ []) (vs ++ x ∷ []) ts (length vs) (omega (arith, lv)) ∙ index-last vs x in (
      ws,
      (
        vs,
        record {
          fits = f.0;
          many = sym z;
          same = λ i less. sym (widths-keep cw ws (t ∷ ts) i (omega (arith, less, z)));
          width = ap (slice_index (widths_after cw (ws ++ w ∷ []) ts)) z ∙ at;
          seen = λ i less. sym (values-keep cw store ws vs (t ∷ ts) i (omega (arith, less, zv)));
          value = ap (slice_index (values_after cw store (ws ++ w ∷ []) (vs ++ x ∷ []) ts)) zv ∙ av;
        },
      ),
    )
at-from cw store ws vs (t ∷ ts) (suc k) f e lt =
    let w = width_in cw ws t in
    let x = value_in store ws vs t in
    let lw : length (ws ++ w ∷ []) ≡ length ws + 1 = length-append ws (w ∷ []) in
    let lv : length (vs ++ x ∷ []) ≡ length vs + 1 = length-append vs (x ∷ []) in
    let r = at-from cw store (ws ++ w ∷ []) (vs ++ x ∷ []) ts k f.1 (omega (arith, lw, lv, e)) (omega (arith, lt)) in
    let j : length (ws ++ w ∷ []) + k ≡ length ws + suc k = omega (arith, lw) in
    (r.0, (r.1.0, subst (λ (i : ℕ). At cw store (widths_after cw (ws ++ w ∷ []) ts) (values_after cw store (ws ++ w ∷ []) (vs ++ x ∷ []) ts) r.0 r.1.0 (term_at ts k) i) j r.1.1))

pub term-place : (table : Table) (store : List ℕ) (k : ℕ) → IsTable table → k < length table.terms
    → (us : List ℕ) × ((xs : List ℕ) × At table.cells store (widths table) (values table store) us xs (term_at table.terms k) k)
term-place table store k h lt =
    let r = at-from table.cells store [] [] table.terms k h.terms refl lt in
    let e : 0 + k ≡ k = omega arith in
    (r.0, (r.1.0, subst (λ (i : ℕ). At table.cells store (widths table) (values table store) r.0 r.1.0 (term_at table.terms k) i) e r.1.1))

-- the literals of each term that is done spell its value in the store that the cells spell
abbrev pub Means : (ℕ → Bool) → Table → List (List Lit) → List Known → Type 0
Means v table cells done =
    (j : ℕ) → is_done done j ≡ true → number v (lits_of done j) ≡ slice_index (values table (map (number v) cells)) j

-- what holds after terms were emitted
pub record Rises (P : ℕ → ℕ → Type 0) (table : Table) (one : Lit) (cells : List (List Lit)) (n : ℕ) (done : List Known) (ks : List ℕ) : Type 0 where
  pub net : NetOk P n (emitted one cells table.terms n done ks).defs
  pub lits : (j : ℕ) → LitsOk P (n + length (emitted one cells table.terms n done ks).defs) (lits_of (emitted one cells table.terms n done ks).done j)
  pub told : (v : ℕ → Bool) → lit_value v one ≡ true → Means v table cells done → Meets v n (emitted one cells table.terms n done ks).defs
      → Means v table cells (emitted one cells table.terms n done ks).done

lits-last : (P : ℕ → ℕ → Type 0) (m : ℕ) (ds : List Known) (k : ℕ) (ls : List Lit) (j : ℕ) → LitsOk P m (lits_of ds j) → LitsOk P m ls
    → LitsOk P m (lits_of (ds ++ record { term = k; lits = ls } ∷ []) j)
lits-last P m [] k ls j h g = by (eqb k j)
  where
    by : (b : Bool) → LitsOk P m (cond b ls [])
    by true = g
    by false = tt
lits-last P m (d ∷ ds) k ls j h g = by (eqb d.term j) h (λ x. lits-last P m ds k ls j x g)
  where
    by : (b : Bool) → LitsOk P m (cond b d.lits (lits_of ds j)) → (LitsOk P m (lits_of ds j) → LitsOk P m (lits_of (ds ++ record { term = k; lits = ls } ∷ []) j))
        → LitsOk P m (cond b d.lits (lits_of (ds ++ record { term = k; lits = ls } ∷ []) j))
    by true x f = x
    by false x f = f x

means-more : (v : ℕ → Bool) (table : Table) (cells : List (List Lit)) (ds : List Known) (k : ℕ) (ls : List Lit) → Means v table cells ds → is_done ds k ≡ false
    → number v ls ≡ slice_index (values table (map (number v) cells)) k → Means v table cells (ds ++ record { term = k; lits = ls } ∷ [])
means-more v table cells ds k ls h new e j g = elim (split (is_done ds j)) [
  | inl q ↦ ap (number v) (lits_of-first ds k ls j q) ∙ h j q
  | inr q ↦
      let i : k ≡ j = eqb-true k j (right (eqb k j) (sym (ap (λ b. b || (eqb k j || false)) q) ∙ (sym (is_done-more ds k ls j) ∙ g))) in
      subst (λ (j : ℕ). number v (lits_of (ds ++ record { term = k; lits = ls } ∷ []) j) ≡ slice_index (values table (map (number v) cells)) j) i
      (ap (number v) (lits_of-last ds k ls new) ∙ e)
]
  where
    right : (b : Bool) → (b || false) ≡ true → b ≡ true
    right true e = refl
    right false e = e

low-lits : (P : ℕ → ℕ → Type 0) → IsLow P → (n : ℕ) (ls : List Lit) → LitsOk P n ls → LitsBelow n ls
low-lits P low n [] h = tt
low-lits P low n (l ∷ ls) h = (low n l.var h.0, low-lits P low n ls h.1)

pub low-cells : (P : ℕ → ℕ → Type 0) → IsLow P → (n : ℕ) (cs : List (List Lit)) → AllOk P n cs → AllOk Below n cs
low-cells P low n [] h = tt
low-cells P low n (c ∷ cs) h = (low-ok n c h.0, low-cells P low n cs h.1)
  where
    low-ok : (n : ℕ) (ls : List Lit) → LitsOk P n ls → LitsOk Below n ls
    low-ok n [] h = tt
    low-ok n (l ∷ ls) h = (low n l.var h.0, low-ok n ls h.1)

-- each cell that one of these terms reads may be spoken of
abbrev pub ConeOk : (ℕ → ℕ → Type 0) → ℕ → List (List Lit) → List Term → List ℕ → Type 0
ConeOk P n cells ts ks = (j : ℕ) → listed ks j ≡ true → OwnOk P n cells (term_at ts j)

pub rises : (P : ℕ → ℕ → Type 0) (lo : ℕ) → within.Fits P lo → IsLow P → (table : Table) (one : Lit) (cells : List (List Lit)) (n : ℕ) (done : List Known)
    → lo ≤ n → P n one.var → AllOk Below n cells → ((j : ℕ) → LitsOk P n (lits_of done j))
    → IsTable table → map length cells ≡ table.cells → DoneFit table done
    → (k : ℕ) (need : ℕ → Bool) → k ≤ length table.terms → IsFreshNeed (is_done done) need
    → ConeOk P n cells table.terms (falling table.terms (is_done done) k need)
    → Rises P table one cells n done (falling table.terms (is_done done) k need)
rises P lo f low table one cells n done ln o hc hl h e d zero need le fresh own = record {
  net = tt;
  lits = λ j. lits-more P lo f n (n + 0) (lits_of done j) ln (omega arith) (hl j);
  told = λ v y m x. m;
}
rises P lo f low table one cells n done ln o hc hl h e d (suc k) need le fresh own =
    let ts = table.terms in
    let D = is_done done in
    let up = falling ts D k (with-wants ts D k need) in
    let down = falling ts D k need in
    chosen {A = List ℕ} (need k) (k ∷ up) down (λ ks. ConeOk P n cells ts ks → Rises P table one cells n done ks)
    (λ y own.
    let i = rises P lo f low table one cells n done ln o hc hl h e d k (with-wants ts D k need) (omega (arith, le)) (fresh-wants ts D k need fresh)
    (λ j g. own j (or-right (eqb k j) (listed up j) g)) in
    let r = emitted one cells ts n done up in
    let N = n + length r.defs in
    let t = term_at ts k in
    let lt : k < length ts = omega (arith, le) in
    let a = fits-at table k h lt in
    let u = turn table one cells n done h e d k need lt fresh y a.0 a.1 in
    let q = term-ready one cells (lits_of r.done) N table.cells a.0 t h.cells u.sizes e a.1.fits u.long in
    let m = emission one cells (lits_of r.done) N t in
    let nN : n ≤ N = omega arith in
    let lN : lo ≤ N = omega (arith, ln) in
    let oN : P N one.var = ok-more P lo f n N one.var ln nN o in
    let cN : AllOk Below N cells = all-more Below 0 fits-zero n N cells (omega arith) nN hc in
    let mine : OwnOk P N cells t = λ c g. lits-more P lo f n N (cell_at cells c) ln nN (own k (ap (λ b. b || listed up k) (eq-eqb k k refl)) c g) in
    let ow = term-owes P lo f low one cells (lits_of r.done) N t lN oN mine i.lits q.0 in
    let l : N + length m.defs ≡ n + length (r.defs ++ m.defs) = omega (arith, length-append r.defs m.defs) in
    let M = n + length (r.defs ++ m.defs) in
    record {
      net = net_ok-append P n r.defs m.defs i.net ow.0;
      lits = λ j. lits-last P M r.done k m.outs j (lits-more P lo f N M (lits_of r.done j) lN (omega (arith, l)) (i.lits j)) (subst (λ (z : ℕ). LitsOk P z m.outs) l ow.1);
      told = λ v ho me x.
          let p = meets-append v n r.defs m.defs x in
          let mr = i.told v ho me p.0 in
          let b = term-place table (map (number v) cells) k h lt in
          let us = b.0 in
          let xs = b.1.0 in
          let at = b.1.1 in
          let w = turn table one cells n done h e d k need lt fresh y us (record { fits = at.fits; many = at.many; same = at.same; width = at.width }) in
          let spelled = term-told v one cells (lits_of r.done) N table.cells us xs t
          (record {
            holds = ho;
            below = low N one.var oN;
            inside = cN;
            lits = λ j. low-lits P low N (lits_of r.done j) (i.lits j);
            sizes = w.sizes;
            long = e;
            fits = at.fits;
            widths = w.long;
            spell = λ j g. mr j (w.there j g) ∙ sym (at.seen j (omega (arith, operand-below table.cells us t j at.fits g, at.many)));
          }) p.1 in
          means-more v table cells r.done k m.outs mr u.fresh (spelled ∙ sym at.value);
    })
    (λ y own. rises P lo f low table one cells n done ln o hc hl h e d k need (omega (arith, le)) fresh own)
    own
