-- What the term of a cut means.
use Rattle.std.proofs.Common.{◌≡◌, ℕ, ◌+◌, ◌-◌, ◌<◌, ◌≤◌, ◌⊎◌, inl, inr, Bool, List, [], ◌∷◌, ◌++◌, length, length-append, Some, slice_get, slice_index_or, zero, suc, refl, sym, ap, ◌∙◌, subst, arith}
use Rattle.std.proofs.Common.{Result, Ok, Err}
use Rattle.std.specs.Prelude.{IfOk}
use Rattle.std.proofs.lemmas.Bool.{cases_lt, eq-eqb, eqb-true}
use Rattle.std.proofs.lemmas.Option.{get_or_from_slice_get, slice_get_within}
use mathlib.Core.Path.{fun_ext}
use Rattle.bv_term.specs.declared.term.TermId.{TermId}
use Rattle.bv_term.specs.WellFormed.{Table}
use Rattle.bv_term.specs.Values.{value}
use Rattle.bv_term.specs.Laws.{Extends}
use Rattle.bv_term.proofs.Staying.{values_stay}
use Rattle.c_graph.specs.Shape.{HasWidth}
use Rattle.prop.specs.declared.Lit.{Lit}
use Rattle.resolution_log.specs.declared.Chain.{Chain}
use Rattle.resolution_log.specs.Chains.{IsRefutation}
use Rattle.path_query.specs.declared.query.Bundle.{Bundle}
use Rattle.path_query.specs.declared.query.PathQuery.{PathQuery}
use Rattle.interpolants.specs.declared.items.Placed.{Placed}
use Rattle.interpolants.specs.declared.walk.Cut.{Cut}
use Rattle.interpolants.specs.Cuts.{Adds}
use Rattle.interpolants.specs.CutMeanings.{AreCutFormulas, AreShared, IsCutFormula, IsFormulaAt, edge_of}
use Rattle.interpolants.specs.Keeping.{term_truth}
use Rattle.interpolants.specs.Meanings.{Agree, read}
use Rattle.interpolants.specs.Placings.{SameBits, bits_of}
use Rattle.interpolants.specs.Rules.{cut_truth, is_behind, last_of, leaves, truths_after}
use Rattle.interpolants.specs.Sources.{AreEnds}
use Rattle.interpolants.specs.Walks.{AreCovered, IsCutTruth, all_truths, noted_behind, value_of}
use Rattle.interpolants.proofs.Listing.{get-end}
use Rattle.interpolants.proofs.Alike.{before-at, other-way, same-agree, same-has, same-read}

covered : (c : Cut) (bits : List Placed) → AreEnds c.clauses.now c.ends.now → SameBits bits c.bits.now.bits.items
    → AreShared c.clauses.now c.edge bits → AreCovered c
covered c bits ends same shared n clause lt g k l gl behind =
    same-has bits c.bits.now.bits.items l.var same
    (shared l.var (before-at c.clauses.now c.edge n k clause l lt g gl) (sym (ends l.var c.edge) ∙ behind))

-- the truth of the walk is that of the rules
truth-meant : (c : Cut) (bits : List Placed) (store : List ℕ) → AreEnds c.clauses.now c.ends.now → SameBits bits c.bits.now.bits.items
    → Agree bits store → last_of (all_truths c store) ≡ cut_truth c.clauses.now c.log.now c.edge (read bits store)
truth-meant c bits store ends same agree =
    let behind : noted_behind c ≡ is_behind c.clauses.now c.edge = fun_ext (λ (x : ℕ). ends x c.edge) in
    let reads : value_of c store ≡ read bits store =
    fun_ext (λ (x : ℕ). sym (same-read bits c.bits.now.bits.items store x same agree)) in
    ap (λ (f : ℕ → Bool). last_of (truths_after f (leaves f (value_of c store) c.edge c.clauses.now) c.log.now)) behind
    ∙ ap (λ (v : ℕ → Bool). last_of (truths_after (is_behind c.clauses.now c.edge) (leaves (is_behind c.clauses.now c.edge) v c.edge c.clauses.now) c.log.now)) reads

pub cut-meant : (c : Cut) (table : Table) (bits : List Placed) (t : TermId) → AreEnds c.clauses.now c.ends.now → SameBits bits c.bits.now.bits.items
    → ((store : List ℕ) → AreCovered c → IsCutTruth c store (term_truth table (record { 0 = t.0 }) store))
    → IsCutFormula table c.clauses.now c.log.now c.edge bits t
unfolding term_truth
cut-meant c table bits t ends same told shared store =
    let h = told store (covered c bits ends same shared) in (
      λ holds.
          let both = h.0 (eq-eqb (value table store t) 1 holds) in
          let agree : Agree bits store = same-agree c.bits.now.bits.items bits store (other-way bits c.bits.now.bits.items same) both.0 in
          (agree, sym (truth-meant c bits store ends same agree) ∙ both.1),
      λ w.
          eqb-true (value table store t) 1
          (h.1 (same-agree bits c.bits.now.bits.items store same w.0, truth-meant c bits store ends same w.0 ∙ w.1)),
    )

pub formula-meant : {E : Type 0} (r : Result TermId E) (c : Cut) (table : Table) (bits : List Placed) → AreEnds c.clauses.now c.ends.now
    → SameBits bits c.bits.now.bits.items
    → ((store : List ℕ) → AreCovered c → IfOk r (λ t. IsCutTruth c store (term_truth table (record { 0 = t.0 }) store)))
    → IfOk r (IsCutFormula table c.clauses.now c.log.now c.edge bits)
formula-meant (Ok t) c table bits ends same told = cut-meant c table bits t ends same told
formula-meant (Err e) c table bits ends same told = tt

-- the formula of a cut of a path
pub edge-inner : (q : PathQuery) (k : ℕ) → 0 < k → edge_of q k ≡ slice_index_or q.starts k (length q.clauses)
edge-inner q zero pos = absurd (omega (arith, pos))
edge-inner q (suc k) pos = refl

pub formula-at : {E : Type 0} (r : Result TermId E) (table : Table) (q : PathQuery) (log : List Chain) (k edge : ℕ) (bundles : List Bundle)
    → slice_get q.cuts k ≡ Some bundles → edge ≡ edge_of q k → IfOk r (IsCutFormula table q.clauses log edge (bits_of bundles))
    → IfOk r (IsFormulaAt table q log k)
formula-at (Ok t) table q log k edge bundles g e h = λ others o.
    let s : bundles ≡ others = cc in
    subst (λ (n : ℕ). IsCutFormula table q.clauses log n (bits_of others) t) e
    (subst (λ (bs : List Bundle). IsCutFormula table q.clauses log edge (bits_of bs) t) s h)
formula-at (Err x) table q log k edge bundles g e h = tt

-- as a table grows
pub formula-stays : (a b : Table) (q : PathQuery) (log : List Chain) (k : ℕ) (t : TermId) → Extends a b → t.0 < length a.terms
    → IsFormulaAt a q log k t → IsFormulaAt b q log k t
formula-stays a b q log k t g lt h = λ bundles o shared store.
    let w = h bundles o shared store in
    let e : value b store t ≡ value a store t = values_stay a b store t g lt in
    (λ holds. w.0 (sym e ∙ holds), λ both. e ∙ w.1 both)

-- lists of them
get-before : (xs ys : List TermId) (k : ℕ) (t : TermId) → k < length xs → slice_get (xs ++ ys) k ≡ Some t → slice_get xs k ≡ Some t
get-before [] ys k t lt h = absurd (omega (arith, lt))
get-before (x ∷ xs) ys zero t lt h = h
get-before (x ∷ xs) ys (suc k) t lt h = get-before xs ys k t (omega (arith, lt)) h

added-there : (b : Table) (n : ℕ) (old new : List TermId) (k : ℕ) (t : TermId) → length old ≡ 1 → Adds b n old new → 0 < k
    → slice_get new k ≡ Some t → HasWidth b t 1
added-there b n old new zero t one h pos g = absurd (omega (arith, pos))
added-there b n [] new (suc k) t one h pos g = absurd (omega (arith, one))
added-there b n (x ∷ y ∷ zs) new (suc k) t one h pos g = absurd (omega (arith, one))
added-there b n (x ∷ []) new (suc k) t one h pos g =
    let i : slice_get (x ∷ h.more) (suc k) ≡ Some t = subst (λ (ts : List TermId). slice_get ts (suc k) ≡ Some t) h.parts g in
    subst (λ (u : TermId). HasWidth b u 1) (get_or_from_slice_get h.more k t t i) (h.bits k t (slice_get_within h.more k t i))

-- the formulas of the cuts before a number, without the first
abbrev pub AreMade : Table → PathQuery → List Chain → ℕ → List TermId → Type 0
AreMade table q log n fs = (k : ℕ) (t : TermId) → 0 < k → k < n → slice_get fs k ≡ Some t → IsFormulaAt table q log k t

pub added-long : (b : Table) (n : ℕ) (old new : List TermId) → length old ≡ 1 → Adds b n old new → length new ≡ suc n
added-long b n old new one h =
    let e = ap length h.parts in
    omega (arith, e, length-append old h.more, h.count, one)

pub made-none : (a : Table) (q : PathQuery) (log : List Chain) (n : ℕ) (fs : List TermId) → n ≤ 1 → AreMade a q log n fs
made-none a q log n fs le k t pos lt g = absurd (omega (arith, le, pos, lt))

pub made-more : (a b : Table) (q : PathQuery) (log : List Chain) (n : ℕ) (old fs newer : List TermId) (t : TermId) → Extends a b → length old ≡ 1
    → Adds a (n - 1) old fs → 1 ≤ n → AreMade a q log n fs → IsFormulaAt b q log n t → newer ≡ fs ++ t ∷ [] → AreMade b q log (n + 1) newer
made-more a b q log n old fs newer t ext one adds low made new e k u pos lt g = way (cases_lt k n)
  where
    long : length fs ≡ n
    long = let l = added-long a (n - 1) old fs one adds in omega (arith, l, low)

    at : slice_get (fs ++ t ∷ []) k ≡ Some u
    at = subst (λ (ts : List TermId). slice_get ts k ≡ Some u) e g

    way : (k < n) ⊎ (n ≤ k) → IsFormulaAt b q log k u
    way (inl less) =
        let i : slice_get fs k ≡ Some u = get-before fs (t ∷ []) k u (omega (arith, less, long)) at in
        formula-stays a b q log k u ext (added-there a (n - 1) old fs k u one adds pos i).0 (made k u pos less i)
    way (inr le) =
        let s : k ≡ length fs = omega (arith, le, lt, long) in
        let z : n ≡ k = omega (arith, s, long) in
        let i : slice_get (fs ++ t ∷ []) (length fs) ≡ Some u = subst (λ (m : ℕ). slice_get (fs ++ t ∷ []) m ≡ Some u) s at in
        let j : slice_get (fs ++ t ∷ []) (length fs) ≡ Some t = get-end fs t in
        let r : t ≡ u = cc in
        subst (λ (x : TermId). IsFormulaAt b q log k x) r (subst (λ (m : ℕ). IsFormulaAt b q log m t) z new)

pub made-all : (a : Table) (q : PathQuery) (log : List Chain) (n : ℕ) (fs : List TermId) → length q.starts ≤ n → AreMade a q log n fs
    → AreCutFormulas a q log fs
made-all a q log n fs le made k t pos lt g = made k t pos (omega (arith, le, lt)) g

-- one more formula behind them
pub meant-more : (b c : Table) (q : PathQuery) (log : List Chain) (n : ℕ) (old new newer : List TermId) (u : TermId) → Extends b c → length old ≡ 1
    → Adds b n old new → n ≡ length q.starts - 1 → AreCutFormulas b q log new → newer ≡ new ++ u ∷ [] → AreCutFormulas c q log newer
meant-more b c q log n old new newer u ext one adds e made f k t pos lt g =
    let long = added-long b n old new one adds in
    let at : slice_get (new ++ u ∷ []) k ≡ Some t = subst (λ (ts : List TermId). slice_get ts k ≡ Some t) f g in
    let i : slice_get new k ≡ Some t = get-before new (u ∷ []) k t (omega (arith, long, e, lt)) at in
    formula-stays b c q log k t ext (added-there b n old new k t one adds pos i).0 (made k t pos lt i)

-- a refutation has a chain
pub some-chain : (clauses : List (List Lit)) (log : List Chain) → IsRefutation clauses log → 0 < length log
some-chain clauses [] ([], h) = absurd cc
some-chain clauses [] (c ∷ front, h) = absurd cc
some-chain clauses (ch ∷ log) h = omega arith
