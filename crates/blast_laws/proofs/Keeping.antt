-- What each call keeps, and what it says.
use Rattle.std.proofs.Common.{◌≡◌, ℕ, ◌+◌, ◌≤◌, ◌<◌, length, List, [], ◌∷◌, ◌++◌, map, take, drop, arith, ap, sym, ◌∙◌, refl, suc, zero, Bool, true, not, ◌&&◌, cond, eqb, ltb, nat_lt, if◌then◌else◌, subst, slice_index, slice_set, Option, Some, None}
use Rattle.std.proofs.lemmas.List.{length-append}
use Rattle.std.proofs.lemmas.Bool.{false≢true}
use Rattle.prop.specs.declared.Lit.{Lit}
use Rattle.prop.specs.Logic.{lit_value, LitsBelow}
use Rattle.bit_gates.specs.declared.netlist.Def.{Def}
use Rattle.bit_gates.specs.Net.{Meets, number}
use Rattle.bit_gates.proofs.Nets.{meets-append}
use Rattle.bit_gates.proofs.Within as within
use Rattle.bit_gates.proofs.Within.{LitsOk, NetOk, ok-more, lits-more, net_ok-append, chosen}
use Rattle.bit_gates.proofs.Exacts.{below_ok, ok_below}
use Rattle.bit_words.specs.Folding.{folded_made}
use Rattle.bit_words.specs.Words.{spelled_of}
use Rattle.bit_words.specs.Elements.{decoded, stored}
use Rattle.bit_words.proofs.FoldingLaws.{Inside, fits_inside}
use Rattle.bv_term.specs.declared.term.Term.{Term}
use Rattle.bv_term.specs.WellFormed.{Table, IsTable, widths_after}
use Rattle.bv_term.specs.Values.{values, values_after}
use Rattle.bv_term.proofs.Bounds.{values-append}
use Rattle.bv_term.proofs.Growing.{widths-append, length-widths}
use Rattle.bv_term.proofs.Staying.{widths-keep, values-keep, length-values}
use Rattle.bit_blast.specs.Done.{Known, lits_of, is_done}
use Rattle.bit_blast.specs.Cone.{cone_of}
use Rattle.bit_blast.specs.Emission.{cell_at, emitted}
use Rattle.bit_blast.specs.Held.{Held, begun, blast_of, store_in, known_index, placed, replaced}
use Rattle.bit_blast.proofs.Cones.{DoneFit, cone-falls, cone-done}
use Rattle.bit_blast.proofs.Over.{placed-widths, over-store}
use Rattle.bit_blast.specs.Held.{IsOver}
use Rattle.blast_laws.specs.Calls.{Call, Blast, Fresh, Rebind, Renew, StoreAt, table_of, made_by, terms_after, May, store_by, Answers}
use Rattle.blast_laws.specs.Reading.{Reads, Sets}
use Rattle.blast_laws.proofs.Owes.{IsLow, Below, low-below, fits-zero, AllOk, all-more, all-at, at-all, all-range, folded-owes, stored-owes, decoded-owes, inside, inside-one}
use Rattle.blast_laws.proofs.Stores.{placed-spelled, store-told}
use Rattle.blast_laws.proofs.Turns.{fresh-one}
use Rattle.blast_laws.proofs.Rising.{ConeOk, Means, Rises, low-cells, rises}

-- a constant literal that may be spoken of
abbrev pub OneOk : (ℕ → ℕ → Type 0) → ℕ → Option Lit → Type 0
OneOk P n None = Unit {0}
OneOk P n (Some l) = P n l.var

-- what is held speaks of what may be spoken of, and fits cells of these widths and terms of this table
pub record Keeps (P : ℕ → ℕ → Type 0) (ws : List ℕ) (us : List Term) (h : Held) : Type 0 where
  pub widths : map length h.cells ≡ ws
  pub cells : AllOk P h.next h.cells
  pub one : OneOk P h.next h.one
  pub lits : (j : ℕ) → LitsOk P h.next (lits_of h.done j)
  pub fit : DoneFit (table_of ws us) h.done

-- literals that a call is handed
abbrev pub Handed : (ℕ → ℕ → Type 0) → ℕ → Call → Type 0
Handed P n (Blast ts t) = Unit {0}
Handed P n (Fresh w) = Unit {0}
Handed P n (Rebind c to) = LitsOk P n to
Handed P n Renew = Unit {0}
Handed P n (StoreAt f m i x) = LitsOk P n i × LitsOk P n x

-- what a call leaves and adds
pub record Steps (P : ℕ → ℕ → Type 0) (ws : List ℕ) (us : List Term) (n : ℕ) (ds : List Def) (h : Held) : Type 0 where
  pub keeps : Keeps P ws us h
  pub net : NetOk P n ds
  pub rises : n + length ds ≤ h.next

pub none-fits : (table : Table) → DoneFit table []
none-fits table k h = absurd (false≢true h)

-- the constant literal
begun-ok : (P : ℕ → ℕ → Type 0) (lo : ℕ) → within.Fits P lo → (n : ℕ) (one : Option Lit) → lo ≤ n → OneOk P n one
    → NetOk P n (begun n one).defs × P (n + length (begun n one).defs) (begun n one).lit.var
begun-ok P lo f n None le h = ((tt, tt), let e : suc n ≡ n + 1 = omega arith in subst (λ (t : ℕ). P t n) e (f.fresh n le))
begun-ok P lo f n (Some l) le h = (tt, let e : n ≡ n + 0 = omega arith in subst (λ (t : ℕ). P t l.var) e h)

-- terms keep their widths in a table that begins with theirs
fit-more : (ws : List ℕ) (us more : List Term) (ds : List Known) → DoneFit (table_of ws us) ds → DoneFit (table_of ws (us ++ more)) ds
fit-more ws us more ds h k g =
    let r = h k g in
    let l = length-widths ws [] us in
    let lt : k < length (widths_after ws [] us) = omega (arith, r.0, l) in
    let e : slice_index (widths_after ws [] (us ++ more)) k ≡ slice_index (widths_after ws [] us) k
    = ap (λ (t : List ℕ). slice_index t k) (widths-append ws [] us more) ∙ widths-keep ws (widths_after ws [] us) more k lt in
    (omega (arith, r.0, length-append us more), r.1 ∙ sym e)

pub cone-rises : (P : ℕ → ℕ → Type 0) (lo : ℕ) → within.Fits P lo → IsLow P → (table : Table) (one : Lit) (cells : List (List Lit)) (n : ℕ) (done : List Known) (t : ℕ)
    → lo ≤ n → P n one.var → AllOk Below n cells → ((j : ℕ) → LitsOk P n (lits_of done j))
    → IsTable table → map length cells ≡ table.cells → DoneFit table done → t < length table.terms
    → ConeOk P n cells table.terms (cone_of table.terms done t)
    → Rises P table one cells n done (cone_of table.terms done t)
cone-rises P lo f low table one cells n done t le o hc hl h e d lt own =
    rises P lo f low table one cells n done le o hc hl h e d (suc t) (λ j. eqb t j && not (is_done done j)) (omega (arith, lt)) (fresh-one (is_done done) (λ j. eqb t j)) own

-- a cell after others were put in their places
placed-at : (P : ℕ → ℕ → Type 0) (n : ℕ) (cells : List (List Lit)) (k j : ℕ) (to : List Lit) → LitsOk P n to → LitsOk P n (cell_at cells j) → LitsOk P n (cell_at (placed cells k to) j)
placed-at P n [] k j to h g = tt
placed-at P n (c ∷ cs) zero zero to h g = h
placed-at P n (c ∷ cs) zero (suc j) to h g = g
placed-at P n (c ∷ cs) (suc k) zero to h g = g
placed-at P n (c ∷ cs) (suc k) (suc j) to h g = placed-at P n cs k j to h g

placed-here : (P : ℕ → ℕ → Type 0) (n : ℕ) (cells : List (List Lit)) (k : ℕ) (to : List Lit) → LitsOk P n to → LitsOk P n (cell_at (placed cells k to) k)
placed-here P n [] k to h = tt
placed-here P n (c ∷ cs) zero to h = h
placed-here P n (c ∷ cs) (suc k) to h = placed-here P n cs k to h

replaced-at : (P : ℕ → ℕ → Type 0) (n : ℕ) (cells : List (List Lit)) (f j : ℕ) (news : List (List Lit)) → AllOk P n news → LitsOk P n (cell_at cells j)
    → LitsOk P n (cell_at (replaced cells f news) j)
replaced-at P n cells f j [] h g = g
replaced-at P n cells f j (c ∷ cs) h g = placed-at P n (replaced cells (suc f) cs) f j c h.0 (replaced-at P n cells (suc f) j cs h.1 g)

store-owes : (P : ℕ → ℕ → Type 0) (lo : ℕ) → within.Fits P lo → IsLow P → (one : Lit) (n : ℕ) (cells : List (List Lit)) (f m : ℕ) (index value : List Lit) (o : Option ℕ) → lo ≤ n
    → P n one.var → AllOk P n (take m (drop f cells)) → LitsOk P n index → LitsOk P n value
    → NetOk P n (store_in one n cells f m index value o).defs
    × ((j : ℕ) → LitsOk P n (cell_at cells j)
    → LitsOk P (n + length (store_in one n cells f m index value o).defs) (cell_at (store_in one n cells f m index value o).cells j))
store-owes P lo f low one n cells b m index value (Some k) le ho hc hi hv =
    let nn : n ≤ n + 0 = omega arith in (
      tt,
      λ j g. lits-more P lo f n (n + 0) (cell_at (cond (ltb k m) (placed cells (b + k) value) cells) j) le nn
          (chosen {A = List (List Lit)} (ltb k m) (placed cells (b + k) value) cells (λ t. LitsOk P n (cell_at t j)) (λ t. placed-at P n cells (b + k) j value hv g) (λ t. g)),
    )
store-owes P lo f low one n cells b m index value None le ho hc hi hv =
    let cs = take m (drop b cells) in
    let d = folded_made one n (decoded n one index (length cs)) in
    let k = n + length d.defs in
    let s = stored one k d.outs cs value in
    let i = folded-owes P lo f one n (decoded n one index (length cs)) le ho
    (decoded-owes (Inside P n n) n (fits_inside P n n) n one index (length cs) (omega arith) (inside-one P low n one ho) (inside P low n index hi)) in
    let nk : n ≤ k = omega arith in
    let lk : lo ≤ k = omega (arith, le) in
    let j = stored-owes P lo f low one k d.outs cs value lk (ok-more P lo f n k one.var le nk ho) i.1
    (all-more P lo f n k cs le nk hc) (lits-more P lo f n k value le nk hv) in
    let l : k + length s.defs ≡ n + length (d.defs ++ s.defs) = omega (arith, length-append d.defs s.defs) in
    let M = n + length (d.defs ++ s.defs) in
    let nM : n ≤ M = omega arith in (
      net_ok-append P n d.defs s.defs i.0 j.0,
      λ a g. replaced-at P M cells b a s.cells (subst (λ (x : ℕ). AllOk P x s.cells) l j.1) (lits-more P lo f n M (cell_at cells a) le nM g),
    )

-- what is held, but for its cells, speaks of what may be spoken of; the cells may speak of all that lies below
pub record Aside (P : ℕ → ℕ → Type 0) (ws : List ℕ) (us : List Term) (h : Held) : Type 0 where
  pub widths : map length h.cells ≡ ws
  pub inside : AllOk Below h.next h.cells
  pub one : OneOk P h.next h.one
  pub lits : (j : ℕ) → LitsOk P h.next (lits_of h.done j)
  pub fit : DoneFit (table_of ws us) h.done

-- what a call leaves of that, and of each cell
pub record Leaves (P : ℕ → ℕ → Type 0) (ws : List ℕ) (us : List Term) (h : Held) (c : Call) : Type 0 where
  pub widths : map length (made_by ws c h).held.cells ≡ ws
  pub one : OneOk P (made_by ws c h).held.next (made_by ws c h).held.one
  pub lits : (j : ℕ) → LitsOk P (made_by ws c h).held.next (lits_of (made_by ws c h).held.done j)
  pub fit : DoneFit (table_of ws (terms_after c us)) (made_by ws c h).held.done
  pub net : NetOk P h.next (made_by ws c h).defs
  pub rises : h.next + length (made_by ws c h).defs ≤ (made_by ws c h).held.next
  pub kept : (j : ℕ) → LitsOk P h.next (cell_at h.cells j) → LitsOk P (made_by ws c h).held.next (cell_at (made_by ws c h).held.cells j)
  pub set : (j : ℕ) → Sets c j → LitsOk P (made_by ws c h).held.next (cell_at (made_by ws c h).held.cells j)

-- where each cell that a call reads may be spoken of
pub call-leaves : (P : ℕ → ℕ → Type 0) (lo : ℕ) → within.Fits P lo → IsLow P → (ws : List ℕ) (us : List Term) (h : Held) (c : Call) → lo ≤ h.next
    → Aside P ws us h → May ws us h c → Handed P h.next c → ((j : ℕ) → Reads h c j → LitsOk P h.next (cell_at h.cells j))
    → Leaves P ws us h c
call-leaves P lo f low ws us h (Blast ts t) le k may ha own =
    let table = table_of ws ts in
    let o = begun h.next h.one in
    let N = h.next + length o.defs in
    let b = begun-ok P lo f h.next h.one le k.one in
    let fit : DoneFit table h.done = subst (λ (x : List Term). DoneFit (table_of ws x) h.done) (sym may.1.1) (fit-more ws us may.1.0 h.done k.fit) in
    let nN : h.next ≤ N = omega arith in
    let lN : lo ≤ N = omega (arith, le) in
    let cN = all-more Below 0 fits-zero h.next N h.cells (omega arith) nN k.inside in
    let hN : (j : ℕ) → LitsOk P N (lits_of h.done j) = λ j. lits-more P lo f h.next N (lits_of h.done j) le nN (k.lits j) in
    let readable : ConeOk P N h.cells ts (cone_of ts h.done t) = λ j g c i. lits-more P lo f h.next N (cell_at h.cells c) le nN (own c (j, g, i)) in
    let r = emitted o.lit h.cells ts N h.done (cone_of ts h.done t) in
    let i = cone-rises P lo f low table o.lit h.cells N h.done t lN b.1 cN hN may.0 k.widths fit may.2 readable in
    let F = cone-falls table o.lit h.cells N h.done t may.0 k.widths fit may.2 in
    let l : N + length r.defs ≡ h.next + length (o.defs ++ r.defs) = omega (arith, length-append o.defs r.defs) in
    let M = h.next + length (o.defs ++ r.defs) in
    let nM : h.next ≤ M = omega arith in
    record {
      widths = k.widths;
      one = ok-more P lo f N M o.lit.var lN (omega (arith, l)) b.1;
      lits = λ j. subst (λ (x : ℕ). LitsOk P x (lits_of r.done j)) l (i.lits j);
      fit = F.fit;
      net = net_ok-append P h.next o.defs r.defs b.0 i.net;
      rises = omega arith;
      kept = λ j g. lits-more P lo f h.next M (cell_at h.cells j) le nM g;
      set = λ j s. absurd s;
    }
call-leaves P lo f low ws us h (Fresh w) le k may ha own =
    let n : h.next ≤ h.next + w = omega arith in
    record {
      widths = k.widths;
      one = later h.one k.one;
      lits = λ j. lits-more P lo f h.next (h.next + w) (lits_of h.done j) le n (k.lits j);
      fit = k.fit;
      net = tt;
      rises = omega arith;
      kept = λ j g. lits-more P lo f h.next (h.next + w) (cell_at h.cells j) le n g;
      set = λ j s. absurd s;
    }
  where
    later : (o : Option Lit) → OneOk P h.next o → OneOk P (h.next + w) o
    later None x = tt
    later (Some l) x = ok-more P lo f h.next (h.next + w) l.var le (omega arith) x
call-leaves P lo f low ws us h (Rebind c to) le k may ha own = record {
  widths = placed-widths h.cells c to may.1 ∙ k.widths;
  one = k.one;
  lits = λ j. tt;
  fit = none-fits (table_of ws []);
  net = tt;
  rises = omega arith;
  kept = λ j g. placed-at P h.next h.cells c j to ha g;
  set = λ j e. subst (λ (i : ℕ). LitsOk P h.next (cell_at (placed h.cells c to) i)) (sym e) (placed-here P h.next h.cells c to ha);
}
call-leaves P lo f low ws us h Renew le k may ha own = record {
  widths = k.widths;
  one = tt;
  lits = λ j. tt;
  fit = none-fits (table_of ws []);
  net = tt;
  rises = omega arith;
  kept = λ j g. g;
  set = λ j s. absurd s;
}
call-leaves P lo f low ws us h (StoreAt b m i x) le k may ha own =
    let o = begun h.next h.one in
    let N = h.next + length o.defs in
    let g = begun-ok P lo f h.next h.one le k.one in
    let nN : h.next ≤ N = omega arith in
    let lN : lo ≤ N = omega (arith, le) in
    let array : AllOk P h.next (take m (drop b h.cells)) = all-range P h.next h.cells b m (λ c least most. own c (least, most)) in
    let s = store_in o.lit N h.cells b m i x (known_index m (spelled_of o.lit i)) in
    let q = store-owes P lo f low o.lit N h.cells b m i x (known_index m (spelled_of o.lit i)) lN g.1 (all-more P lo f h.next N (take m (drop b h.cells)) le nN array)
    (lits-more P lo f h.next N i le nN ha.0) (lits-more P lo f h.next N x le nN ha.1) in
    let l : N + length s.defs ≡ h.next + length (o.defs ++ s.defs) = omega (arith, length-append o.defs s.defs) in
    let M = h.next + length (o.defs ++ s.defs) in
    let over : IsOver (table_of ws []) (record { next = h.next; one = h.one; cells = h.cells; done = [] }) = record { cells = k.widths; done = λ j e. absurd (false≢true e) } in
    let w = over-store b m i x (record { next = h.next; one = h.one; cells = h.cells; done = [] }) (table_of ws []) may.0 may.1 over in
    record {
      widths = w.cells;
      one = ok-more P lo f N M o.lit.var lN (omega (arith, l)) g.1;
      lits = λ j. tt;
      fit = none-fits (table_of ws []);
      net = net_ok-append P h.next o.defs s.defs g.0 q.0;
      rises = omega arith;
      kept = λ j y. subst (λ (z : ℕ). LitsOk P z (cell_at s.cells j)) l (q.1 j (lits-more P lo f h.next N (cell_at h.cells j) le nN y));
      set = λ j e. absurd e;
    }

-- what a call leaves keeps what was held
pub call-steps : (P : ℕ → ℕ → Type 0) (lo : ℕ) → within.Fits P lo → IsLow P → (ws : List ℕ) (us : List Term) (h : Held) (c : Call) → lo ≤ h.next
    → Keeps P ws us h → May ws us h c → Handed P h.next c
    → Steps P ws (terms_after c us) h.next (made_by ws c h).defs (made_by ws c h).held
call-steps P lo f low ws us h c le k may ha =
    let held = (made_by ws c h).held in
    let aside : Aside P ws us h = record { widths = k.widths; inside = low-cells P low h.next h.cells k.cells; one = k.one; lits = k.lits; fit = k.fit } in
    let at : (j : ℕ) → LitsOk P h.next (cell_at h.cells j) = λ j. all-at P h.next j h.cells k.cells in
    let x = call-leaves P lo f low ws us h c le aside may ha (λ j i. at j) in
    record {
      keeps = record { widths = x.widths; cells = at-all P held.next held.cells (λ j. x.kept j (at j)); one = x.one; lits = x.lits; fit = x.fit };
      net = x.net;
      rises = x.rises;
    }

-- what is held says what it means
abbrev pub OneHolds : (ℕ → Bool) → Option Lit → Type 0
OneHolds v None = Unit {0}
OneHolds v (Some l) = lit_value v l ≡ true

pub record Says (v : ℕ → Bool) (ws : List ℕ) (us : List Term) (h : Held) (s : List ℕ) : Type 0 where
  pub store : map (number v) h.cells ≡ s
  pub one : OneHolds v h.one
  pub done : Means v (table_of ws us) h.cells h.done

begun-holds : (v : ℕ → Bool) (n : ℕ) (one : Option Lit) → OneHolds v one → Meets v n (begun n one).defs → lit_value v (begun n one).lit ≡ true
begun-holds v n None h m = m.0
begun-holds v n (Some l) h m = h

means-grow : (v : ℕ → Bool) (ws : List ℕ) (us more : List Term) (cells : List (List Lit)) (ds : List Known) → DoneFit (table_of ws us) ds
    → Means v (table_of ws us) cells ds → Means v (table_of ws (us ++ more)) cells ds
means-grow v ws us more cells ds f h j g =
    let S = map (number v) cells in
    let l = length-values ws S [] [] us in
    let lt : j < length (values_after ws S [] [] us) = omega (arith, l, (f j g).0) in
    let e : slice_index (values_after ws S [] [] (us ++ more)) j ≡ slice_index (values_after ws S [] [] us) j
    = ap (λ (t : List ℕ). slice_index t j) (values-append ws S [] [] us more) ∙ values-keep ws S (widths_after ws [] us) (values_after ws S [] [] us) more j lt in
    h j g ∙ sym e

pub means-none : (v : ℕ → Bool) (table : Table) (cells : List (List Lit)) → Means v table cells []
means-none v table cells j h = absurd (false≢true h)

blast-says : (v : ℕ → Bool) (ws : List ℕ) (us ts more : List Term) (t : ℕ) (h : Held) (s : List ℕ) → Keeps Below ws us h → IsTable (table_of ws ts) → ts ≡ us ++ more
    → t < length ts → Says v ws us h s → Meets v h.next (blast_of (table_of ws ts) t h).defs
    → Says v ws ts (blast_of (table_of ws ts) t h).held s
    × (number v (blast_of (table_of ws ts) t h).outs ≡ slice_index (values (table_of ws ts) s) t)
blast-says v ws us ts more t h s k is e lt y x =
    let table = table_of ws ts in
    let o = begun h.next h.one in
    let N = h.next + length o.defs in
    let b = begun-ok Below 0 fits-zero h.next h.one (omega arith) k.one in
    let fit : DoneFit table h.done = subst (λ (z : List Term). DoneFit (table_of ws z) h.done) (sym e) (fit-more ws us more h.done k.fit) in
    let means : Means v table h.cells h.done = subst (λ (z : List Term). Means v (table_of ws z) h.cells h.done) (sym e) (means-grow v ws us more h.cells h.done k.fit y.done) in
    let nN : h.next ≤ N = omega arith in
    let zero-le : 0 ≤ h.next = omega arith in
    let cN = all-more Below 0 fits-zero h.next N h.cells zero-le nN k.cells in
    let hN : (j : ℕ) → LitsOk Below N (lits_of h.done j) = λ j. lits-more Below 0 fits-zero h.next N (lits_of h.done j) zero-le nN (k.lits j) in
    let r = emitted o.lit h.cells ts N h.done (cone_of ts h.done t) in
    let i = cone-rises Below 0 fits-zero low-below table o.lit h.cells N h.done t (omega arith) b.1 cN hN is k.widths fit lt (λ j g c i. all-at Below N c h.cells cN) in
    let p = meets-append v h.next o.defs r.defs x in
    let one : lit_value v o.lit ≡ true = begun-holds v h.next h.one y.one p.0 in
    let m = i.told v one means p.1 in
    let d = cone-done table o.lit h.cells N h.done t is k.widths fit lt in
    (record { store = y.store; one = one; done = m }, m t d ∙ ap (λ (z : List ℕ). slice_index (values table z) t) y.store)

-- where what a call adds is met, what it leaves says what it means, and it answers the value
pub call-says : (v : ℕ → Bool) (ws : List ℕ) (us : List Term) (h : Held) (c : Call) (s : List ℕ) → Keeps Below ws us h → May ws us h c → Says v ws us h s
    → Meets v h.next (made_by ws c h).defs
    → Says v ws (terms_after c us) (made_by ws c h).held (store_by v c s) × Answers v ws s c (made_by ws c h).outs
call-says v ws us h (Blast ts t) s k may y x = blast-says v ws us ts may.1.0 t h s k may.0 may.1.1 may.2 y x
call-says v ws us h (Fresh w) s k may y x = (record { store = y.store; one = y.one; done = y.done }, tt)
call-says v ws us h (Rebind c to) s k may y x = (
  record {
    store = placed-spelled v h.cells c to ∙ ap (λ (z : List ℕ). slice_set z c (number v to)) y.store;
    one = y.one;
    done = means-none v (table_of ws []) (placed h.cells c to);
  },
  tt,
)
call-says v ws us h Renew s k may y x = (record { store = y.store; one = tt; done = means-none v (table_of ws []) h.cells }, tt)
call-says v ws us h (StoreAt b m i x) s k may y q =
    let o = begun h.next h.one in
    let N = h.next + length o.defs in
    let g = begun-ok Below 0 fits-zero h.next h.one (omega arith) k.one in
    let nN : h.next ≤ N = omega arith in
    let z : 0 ≤ h.next = omega arith in
    let st = store_in o.lit N h.cells b m i x (known_index m (spelled_of o.lit i)) in
    let p = meets-append v h.next o.defs st.defs q in
    let one : lit_value v o.lit ≡ true = begun-holds v h.next h.one y.one p.0 in
    let iN : LitsBelow N i = below_ok N i (lits-more Below 0 fits-zero h.next N i z nN (ok_below h.next i may.2)) in
    let xN : LitsBelow N x = below_ok N x (lits-more Below 0 fits-zero h.next N x z nN (ok_below h.next x may.3)) in
    let r = store-told v o.lit N h.cells b m i x (known_index m (spelled_of o.lit i)) refl one g.1 iN xN
    (all-more Below 0 fits-zero h.next N h.cells z nN k.cells) may.0 may.1 p.1 in (
      record {
        store = r ∙ ap (λ (u : List ℕ). if nat_lt (number v i) m then slice_set u (b + number v i) (number v x) else u) y.store;
        one = one;
        done = means-none v (table_of ws []) st.cells;
      },
      tt,
    )
