-- The formulas of a path's cuts, from one to the next, and what they read.
use Rattle.std.proofs.Common.{◌≡◌, ℕ, ◌<◌, ◌≤◌, ◌⊎◌, inl, inr, Bool, true, false, not, List, [], ◌∷◌, cond, length, ◌==◌, Some, slice_get, slice_index, slice_index_or, zero, suc, refl, sym, ap, ◌∙◌, subst, arith}
use Rattle.std.proofs.lemmas.Bool.{both_ways, cases_lt}
use Rattle.std.proofs.lemmas.List.{get_or_past}
use Rattle.std.proofs.lemmas.Option.{slice_get_within}
use Rattle.bv_term.specs.declared.term.TermId.{TermId}
use Rattle.bv_term.specs.Numbers.{bit_of}
use Rattle.bv_term.specs.WellFormed.{Table, IsTable}
use Rattle.bv_term.specs.Values.{Holds}
use Rattle.formula_diagrams.specs.Truths.{is_set}
use Rattle.formula_diagrams.proofs.Putting.{put-end}
use Rattle.path_query.specs.declared.query.Bundle.{Bundle}
use Rattle.path_query.specs.declared.query.PathQuery.{PathQuery}
use Rattle.path_query.specs.Facts.{IsQuery, RisingTo}
use Rattle.prop.specs.declared.Lit.{Lit}
use Rattle.prop.specs.Steps.{same_sign}
use Rattle.resolution_log.specs.declared.Chain.{Chain}
use Rattle.resolution_log.specs.Chains.{IsRefutation}
use Rattle.interpolants.specs.declared.items.Placed.{Placed}
use Rattle.interpolants.specs.CutMeanings.{AreCutFormulas, AreShared, IsFormulaAt, edge_of}
use Rattle.interpolants.specs.Cuts.{IsEnd}
use Rattle.interpolants.specs.Laws.{AgreedAreGiven, FirstIsMeant, FormulasLead, FormulasReadTheirCut, Gives, IsCutAt, LastIsMeant, SameOn}
use Rattle.interpolants.specs.Meanings.{Agree, HasBit, read, said}
use Rattle.interpolants.specs.Placings.{bits_of}
use Rattle.interpolants.specs.Rules.{cut_truth}
use Rattle.interpolants.proofs.Agreeing.{read-at}
use Rattle.interpolants.proofs.Alike.{cut-alike, reads-alike}
use Rattle.interpolants.proofs.Cutting as law
use Rattle.interpolants.proofs.Rows.{of-out}

-- an assignment that gives bits their values
sign-said : (b x y : Bool) → cond b x (not x) ≡ y → same_sign b y ≡ x
sign-said true x y e = sym e
sign-said false true y e = ap not (sym e)
sign-said false false y e = ap not (sym e)

sign-given : (b x y : Bool) → x ≡ same_sign b y → cond b x (not x) ≡ y
sign-given true x y e = e
sign-given false x true e = ap not e
sign-given false x false e = ap not e

given-said : (v : ℕ → Bool) (bits : List Placed) (store : List ℕ) → Gives v bits store → (k : ℕ) (p : Placed) → slice_get bits k ≡ Some p
    → said store p ≡ v p.lit.var
given-said v bits store g k p h = sign-said p.lit.positive (v p.lit.var) (is_set store p.bit) (g k p h)

given-agree : (v : ℕ → Bool) (bits : List Placed) (store : List ℕ) → Gives v bits store → Agree bits store
given-agree v bits store g i j p q a b e = given-said v bits store g i p a ∙ ap v e ∙ sym (given-said v bits store g j q b)

given-read : (v : ℕ → Bool) (bits : List Placed) (store : List ℕ) (x : ℕ) → Gives v bits store → HasBit bits x → read bits store x ≡ v x
given-read v bits store x g (p, (k, h, e)) =
    read-at bits store x k p (given-agree v bits store g) h e ∙ given-said v bits store g k p h ∙ ap v e

pub agreed_are_given : AgreedAreGiven
agreed_are_given bits store agree k p h =
    sign-given p.lit.positive (read bits store p.lit.var) (is_set store p.bit) (read-at bits store p.lit.var k p agree h refl)

given-truth : (v : ℕ → Bool) (bits : List Placed) (store : List ℕ) (clauses : List (List Lit)) (log : List Chain) (edge : ℕ) → AreShared clauses edge bits
    → Gives v bits store → cut_truth clauses log edge (read bits store) ≡ cut_truth clauses log edge v
given-truth v bits store clauses log edge shared g =
    cut-alike clauses log edge (read bits store) v (λ x before behind. given-read v bits store x g (shared x before behind))

-- edges never fall
rising-low : (low most : ℕ) (ns : List ℕ) (k : ℕ) → RisingTo low ns most → low ≤ slice_index_or ns k most
rising-low low most [] k h = h
rising-low low most (n ∷ ns) zero h = h.0
rising-low low most (n ∷ ns) (suc k) h = let r = rising-low n most ns k h.1 in omega (arith, r, h.0)

rising-next : (low most : ℕ) (ns : List ℕ) (k : ℕ) → RisingTo low ns most → slice_index_or ns k most ≤ slice_index_or ns (suc k) most
rising-next low most [] k h = omega arith
rising-next low most (n ∷ ns) zero h = rising-low n most ns 0 h.1
rising-next low most (n ∷ ns) (suc k) h = rising-next n most ns k h.1

edges-rise : (cells : List ℕ) (steps k : ℕ) (q : PathQuery) → IsQuery cells steps q → edge_of q k ≤ edge_of q (suc k)
edges-rise cells steps zero q h = omega arith
edges-rise cells steps (suc k) q h = rising-next 0 (length q.clauses) q.starts (suc k) h.rising

past-edge : (q : PathQuery) (k : ℕ) → length q.starts ≤ suc k → edge_of q (suc k) ≡ length q.clauses
past-edge q k le = get_or_past q.starts (suc k) (length q.clauses) le

-- from one cut to the next
front-truth : (table : Table) (k : ℕ) (q : PathQuery) (log : List Chain) (fs : List TermId) (front : List Bundle) (f : TermId) (v : ℕ → Bool)
    (before : List ℕ) → AreCutFormulas table q log fs → k < length q.starts → IsCutAt q fs k front f → Gives v (bits_of front) before
    → Holds table before f → cut_truth q.clauses log (edge_of q k) v ≡ true
front-truth table zero q log fs front f v before made lt at g holds = law.first_is_true q.clauses log v
front-truth table (suc k) q log fs front f v before made lt at g holds =
    let both = (made (suc k) f (omega arith) lt at.formula front at.cells at.shared before).0 holds in
    sym (given-truth v (bits_of front) before q.clauses log (edge_of q (suc k)) at.shared g) ∙ both.1

back-holds : (table : Table) (k : ℕ) (q : PathQuery) (log : List Chain) (fs : List TermId) (back : List Bundle) (h : TermId) (v : ℕ → Bool)
    (after : List ℕ) → IsRefutation q.clauses log → AreCutFormulas table q log fs → IsCutAt q fs (suc k) back h → Gives v (bits_of back) after
    → cut_truth q.clauses log (edge_of q (suc k)) v ≡ true → Holds table after h
back-holds table k q log fs back h v after refuted made at g t = way (cases_lt (suc k) (length q.starts))
  where
    way : (suc k < length q.starts) ⊎ (length q.starts ≤ suc k) → Holds table after h
    way (inl lt) =
        (made (suc k) h (omega arith) lt at.formula back at.cells at.shared after).1
        (given-agree v (bits_of back) after g, given-truth v (bits_of back) after q.clauses log (edge_of q (suc k)) at.shared g ∙ t)
    way (inr le) =
        absurd (both_ways (cut_truth q.clauses log (length q.clauses) v) (law.last_is_false q.clauses log v refuted)
        (subst (λ (n : ℕ). cut_truth q.clauses log n v ≡ true) (past-edge q k le) t))

pub formulas_lead : FormulasLead
formulas_lead table cells steps k q log fs front back f h v before after query refuted made one next between gf gb holds =
    let far = slice_get_within q.cuts (suc k) back next.cells in
    let lt : k < length q.starts = omega (arith, far, query.cuts, query.starts) in
    back-holds table k q log fs back h v after refuted made next gb
    (law.cuts_lead q.clauses log (edge_of q k) (edge_of q (suc k)) v (edges-rise cells steps k q query) refuted between
    (front-truth table k q log fs front f v before made lt one gf holds))

-- the ends
true-holds : (table : Table) (t : TermId) (store : List ℕ) → IsTable table → IsEnd table 1 t → Holds table store t
true-holds table t store is h = (put-end table t 1 (λ s. true) is h (λ s. refl)).told store

false-fails : (table : Table) (t : TermId) (store : List ℕ) → IsTable table → IsEnd table 0 t → Holds table store t → ⊥
false-fails table t store is h holds =
    let z = (put-end table t 0 (λ s. false) is h (λ s. refl)).told store in
    absurd (omega (arith, z, holds))

pub first_is_meant : FirstIsMeant
first_is_meant table steps q log fs t is are g agree bundles cells shared store = (
  λ holds. (agree bundles cells store, law.first_is_true q.clauses log (read (bits_of bundles) store)),
  λ both. true-holds table t store is (are.first t g),
)

last-fails : (table : Table) (cells : List ℕ) (n : ℕ) (q : PathQuery) (log : List Chain) (t : TermId) → IsTable table
    → IsQuery cells (suc n) q → IsRefutation q.clauses log → IsEnd table 0 t → IsFormulaAt table q log (suc n) t
last-fails table cells n q log t is query refuted end bundles at shared store =
    let e : edge_of q (suc n) ≡ length q.clauses = past-edge q n (omega (arith, query.starts)) in
    let v : ℕ → Bool = read (bits_of bundles) store in
    let no : cut_truth q.clauses log (edge_of q (suc n)) v ≡ false =
    ap (λ (m : ℕ). cut_truth q.clauses log m v) e ∙ law.last_is_false q.clauses log v refuted in (
      λ holds. absurd (false-fails table t store is end holds),
      λ both. absurd (both_ways (cut_truth q.clauses log (edge_of q (suc n)) v) no both.1),
    )

pub last_is_meant : LastIsMeant
last_is_meant table cells zero q log fs t is query refuted are pos g = absurd (omega (arith, pos))
last_is_meant table cells (suc n) q log fs t is query refuted are pos g =
    last-fails table cells n q log t is query refuted (are.last t pos g)

-- stores that give the cells of a cut the same values
pub same-said : (bundles : List Bundle) (one other : List ℕ) → SameOn bundles one other → (k : ℕ) (p : Placed) → slice_get (bits_of bundles) k ≡ Some p
    → said one p ≡ said other p
unfolding is_set
same-said bundles one other same k p h =
    let (j, i, b, l, g, gl, e) = of-out bundles p (k, h) in
    let c : b.cell ≡ p.bit.cell = ap (λ (x : Placed). x.bit.cell) e in
    let v : slice_index one p.bit.cell ≡ slice_index other p.bit.cell =
    subst (λ (n : ℕ). slice_index one n ≡ slice_index other n) c (same j b g) in
    ap (λ (n : ℕ). same_sign p.lit.positive (bit_of p.bit.bit n == 1)) v

moved : (table : Table) (k : ℕ) (q : PathQuery) (log : List Chain) (fs : List TermId) (bundles : List Bundle) (t : TermId) (one other : List ℕ)
    → AreCutFormulas table q log fs → 0 < k → k < length q.starts → IsCutAt q fs k bundles t → SameOn bundles one other → Holds table one t
    → Holds table other t
moved table k q log fs bundles t one other made pos lt at same holds =
    let bits : List Placed = bits_of bundles in
    let says = same-said bundles one other same in
    let both = (made k t pos lt at.formula bundles at.cells at.shared one).0 holds in
    let agree : Agree bits other = λ i j p q a b e. sym (says i p a) ∙ both.0 i j p q a b e ∙ says j q b in
    (made k t pos lt at.formula bundles at.cells at.shared other).1
    (agree, sym (cut-alike q.clauses log (edge_of q k) (read bits one) (read bits other) (λ x before behind. reads-alike bits one other x says)) ∙ both.1)

pub formulas_read_their_cut : FormulasReadTheirCut
formulas_read_their_cut table cells steps k q log fs bundles t one other is query are made at same holds = way k at (cases_lt k (length q.starts))
  where
    far : (j : ℕ) → IsCutAt q fs j bundles t → j < suc steps
    far j c = let lt = slice_get_within q.cuts j bundles c.cells in omega (arith, lt, query.cuts)

    end : (j : ℕ) → IsCutAt q fs j bundles t → 0 < j → length q.starts ≤ j → Holds table other t
    end j c pos le =
        let z : j ≡ steps = let f = far j c in omega (arith, f, le, query.starts) in
        let g : slice_get fs steps ≡ Some t = subst (λ (n : ℕ). slice_get fs n ≡ Some t) z c.formula in
        absurd (false-fails table t one is (are.last t (omega (arith, pos, z)) g) holds)

    way : (j : ℕ) → IsCutAt q fs j bundles t → (j < length q.starts) ⊎ (length q.starts ≤ j) → Holds table other t
    way zero c s = true-holds table t other is (are.first t c.formula)
    way (suc j) c (inl lt) = moved table (suc j) q log fs bundles t one other made (omega arith) lt c same holds
    way (suc j) c (inr le) = end (suc j) c (omega arith) le
