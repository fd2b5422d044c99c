-- The steps of a walk.
use Rattle.std.proofs.Common.{◌≡◌, ℕ, ◌+◌, ◌-◌, ◌<◌, ◌≤◌, ◌⊎◌, inl, inr, Bool, true, false, ◌&&◌, ◌||◌, List, [], ◌∷◌, length, drop, Some, slice_get, zero, suc, refl, sym, ap, ◌∙◌, subst, arith}
use Rattle.std.proofs.lemmas.List.{at_drop_more}
use Rattle.std.proofs.lemmas.Option.{slice_get_within, get_or_from_slice_get}
use Rattle.prop.specs.declared.Lit.{Lit}
use Rattle.prop.specs.Logic.{lit_value}
use Rattle.std.proofs.Common.{slice_index, slice_index_or, slice_set}
use Rattle.std.proofs.Common.{Result, Ok, Err}
use Rattle.std.specs.Prelude.{Option, IfOk, OnOk}
use Rattle.std.proofs.lemmas.Bool.{and_from, and_parts, both_ways, cases_lt}
use Rattle.interpolants.specs.Memos.{IsBlank}
use Rattle.interpolants.specs.declared.items.Formula.{Formula}
use Rattle.interpolants.specs.declared.walk.Cut.{Cut}
use Rattle.interpolants.specs.Meanings.{HasBit, IsPlacing, agree_from}
use Rattle.resolution_log.specs.declared.Chain.{Chain}
use Rattle.interpolants.specs.Rules.{chain_truth, joined, last_of, some_holds, steps_truth}
use Rattle.interpolants.specs.Sources.{IsMet, low_of, lows_after}
use Rattle.interpolants.specs.Walks.{AreAgreed, AreBits, AreKept, AreMet, AreTrue, HasEntry, IsCut, IsCutTruth, IsKept, all_truths, leaf_truths, noted_behind, truth_of, value_of}
use Rattle.interpolants.proofs.Truths.{behind-true, last-at, leaf-at, length-leaves, length-truths, low-clause, low-result, past-true, truth-at, truths-keep}

or-assoc : (x y z : Bool) → ((x || y) || z) ≡ (x || (y || z))
or-assoc true y z = refl
or-assoc false y z = refl

some-at : (behind v : ℕ → Bool) (c : List Lit) (k : ℕ) (l : Lit) → slice_get c k ≡ Some l
    → some_holds behind v (drop k c) ≡ ((behind l.var && lit_value v l) || some_holds behind v (drop (k + 1) c))
some-at behind v c k l g =
    at_drop_more (some_holds behind v) c k l (slice_get_within c k l g)
    ∙ ap (λ (m : Lit). (behind m.var && lit_value v m) || some_holds behind v (drop (k + 1) c)) (get_or_from_slice_get c k l l g)

pub leaf-step : (cut : Cut) (store : List ℕ) (c : List Lit) (k : ℕ) (l : Lit) (x y whole : Bool) → AreBits cut c
    → ((noted_behind cut l.var ≡ true → HasBit cut.bits.now.bits.items l.var) → y ≡ (x || (noted_behind cut l.var && lit_value (value_of cut store) l)))
    → slice_get c k ≡ Some l → (x || some_holds (noted_behind cut) (value_of cut store) (drop k c)) ≡ whole
    → (y || some_holds (noted_behind cut) (value_of cut store) (drop (k + 1) c)) ≡ whole
leaf-step cut store c k l x y whole all told g e =
    let b : Bool = noted_behind cut l.var && lit_value (value_of cut store) l in
    let rest : Bool = some_holds (noted_behind cut) (value_of cut store) (drop (k + 1) c) in
    ap (λ (z : Bool). z || rest) (told (λ h. all k l g h)) ∙ or-assoc x b rest
    ∙ ap (λ (z : Bool). x || z) (sym (some-at (noted_behind cut) (value_of cut store) c k l g)) ∙ e

-- what the walk finds
pub behind-told : (cut : Cut) (store : List ℕ) (m : ℕ) → IsCut cut → cut.edge ≤ low_of cut.cone.now.clauses cut.cone.now.lows.items m
    → truth_of cut store m ≡ true
unfolding truth_of
behind-told cut store m is h =
    let q : low_of cut.cone.now.clauses cut.cone.now.lows.items m ≡ low_of (length cut.clauses.now) (lows_after (length cut.clauses.now) [] cut.log.now) m =
    ap (λ (n : ℕ). low_of n cut.cone.now.lows.items m) is.clauses ∙ ap (λ (ls : List ℕ). low_of (length cut.clauses.now) ls m) is.lows in
    behind-true (noted_behind cut) (value_of cut store) cut.edge cut.clauses.now cut.log.now m (subst (λ (n : ℕ). cut.edge ≤ n) q h)

-- a clause, and a number that names none
pub leaf-told : (cut : Cut) (store : List ℕ) (m : ℕ) (c : List Lit) → m < cut.edge → slice_get cut.clauses.now m ≡ Some c
    → some_holds (noted_behind cut) (value_of cut store) c ≡ slice_index_or (leaf_truths cut store) m true
leaf-told cut store m c lt g = sym (leaf-at (noted_behind cut) (value_of cut store) cut.edge cut.clauses.now m c lt g)

pub past-told : (cut : Cut) (store : List ℕ) (m : ℕ) → length cut.clauses.now ≤ m → true ≡ slice_index_or (leaf_truths cut store) m true
past-told cut store m le =
    sym (past-true (leaf_truths cut store) m (omega (arith, le, length-leaves (noted_behind cut) (value_of cut store) cut.edge cut.clauses.now)))

no-entry : (cut : Cut) (memo : List (Option Formula)) (m : ℕ) → IsKept cut memo m → (HasEntry memo m → ⊥) → length cut.clauses.now ≤ m
    → low_of cut.cone.now.clauses cut.cone.now.lows.items m < cut.edge → length cut.log.now ≤ m - length cut.clauses.now
no-entry cut memo m kept none le low =
    elim (cases_lt (m - length cut.clauses.now) (length cut.log.now)) [ inl lt ↦ absurd (none (kept le lt low)) | inr past ↦ past ]

pub fresh-told : (cut : Cut) (store : List ℕ) (memo : List (Option Formula)) (m : ℕ) → IsKept cut memo m → (HasEntry memo m → ⊥)
    → low_of cut.cone.now.clauses cut.cone.now.lows.items m < cut.edge → slice_index_or (leaf_truths cut store) m true ≡ truth_of cut store m
unfolding truth_of
fresh-told cut store memo m kept none low = way (cases_lt m (length cut.clauses.now))
  where
    way : (m < length cut.clauses.now) ⊎ (length cut.clauses.now ≤ m) → slice_index_or (leaf_truths cut store) m true ≡ slice_index_or (all_truths cut store) m true
    way (inl lt) =
        let l = length-leaves (noted_behind cut) (value_of cut store) cut.edge cut.clauses.now in
        sym (truths-keep (noted_behind cut) (leaf_truths cut store) cut.log.now m (omega (arith, lt, l)))
    way (inr le) =
        let l = length-leaves (noted_behind cut) (value_of cut store) cut.edge cut.clauses.now in
        let past = no-entry cut memo m kept none le low in
        let t = length-truths (noted_behind cut) (leaf_truths cut store) cut.log.now in
        past-true (leaf_truths cut store) m (omega (arith, le, l)) ∙ sym (past-true (all_truths cut store) m (omega (arith, l, t, past, le)))

pub low-before : (cut : Cut) (m : ℕ) → IsCut cut → low_of cut.cone.now.clauses cut.cone.now.lows.items m < cut.edge → m < length cut.clauses.now → m < cut.edge
low-before cut m is low lt =
    let q : low_of cut.cone.now.clauses cut.cone.now.lows.items m ≡ m =
    ap (λ (n : ℕ). low_of n cut.cone.now.lows.items m) is.clauses ∙ low-clause (length cut.clauses.now) m cut.cone.now.lows.items lt in
    omega (arith, low, q)

-- formulas that are written down
set-other : (memo : List (Option Formula)) (m k : ℕ) (o p : Option Formula) → slice_get (slice_set memo m o) k ≡ Some p
    → ((m ≡ k) × (o ≡ p)) ⊎ (slice_get memo k ≡ Some p)
set-other [] m k o p h = inr h
set-other (q ∷ memo) zero zero o p h = let e : o ≡ p = cc in inl (refl, e)
set-other (q ∷ memo) zero (suc k) o p h = inr h
set-other (q ∷ memo) (suc m) zero o p h = inr h
set-other (q ∷ memo) (suc m) (suc k) o p h =
    elim (set-other memo m k o p h) [ inl e ↦ inl (ap suc e.0, e.1) | inr r ↦ inr r ]

pub entry-grows : (memo : List (Option Formula)) (m k : ℕ) (f : Formula) → HasEntry memo k → HasEntry (slice_set memo m (Some f)) k
entry-grows [] m k f (g, h) = absurd cc
entry-grows (q ∷ memo) zero zero f (g, h) = (f, refl)
entry-grows (q ∷ memo) zero (suc k) f (g, h) = (g, h)
entry-grows (q ∷ memo) (suc m) zero f (g, h) = (g, h)
entry-grows (q ∷ memo) (suc m) (suc k) f (g, h) = entry-grows memo m k f (g, h)

pub set-true : (T S : Formula → List ℕ → Bool) (cut : Cut) (store : List ℕ) (memo : List (Option Formula)) (m : ℕ) (f : Formula) (H : Formula → Type 0)
    → AreTrue T cut store memo → ((k : ℕ) (g : Formula) → slice_get memo k ≡ Some (Some g) → H g)
    → ((g : Formula) → H g → S g store ≡ T g store) → S f store ≡ truth_of cut store m → AreTrue S cut store (slice_set memo m (Some f))
set-true T S cut store memo m f H all has stay one k g h =
    elim (set-other memo m k (Some f) (Some g) h) [
      | inl e ↦
          let q : f ≡ g = cc in
          subst (λ (x : Formula). S x store ≡ truth_of cut store k) q (subst (λ (i : ℕ). S f store ≡ truth_of cut store i) e.0 one)
      | inr r ↦ stay g (has k g r) ∙ all k g r
    ]

pub set-known : (H : Formula → Type 0) (memo : List (Option Formula)) (m : ℕ) (f : Formula)
    → ((k : ℕ) (g : Formula) → slice_get memo k ≡ Some (Some g) → H g) → H f
    → (k : ℕ) (g : Formula) → slice_get (slice_set memo m (Some f)) k ≡ Some (Some g) → H g
set-known H memo m f has one k g h =
    elim (set-other memo m k (Some f) (Some g) h) [ inl e ↦ (let q : f ≡ g = cc in subst H q one) | inr r ↦ has k g r ]

pub true-stays : (T S : Formula → List ℕ → Bool) (cut : Cut) (store : List ℕ) (memo : List (Option Formula)) (H : Formula → Type 0)
    → AreTrue T cut store memo → ((k : ℕ) (g : Formula) → slice_get memo k ≡ Some (Some g) → H g)
    → ((g : Formula) → H g → S g store ≡ T g store) → AreTrue S cut store memo
true-stays T S cut store memo H all has stay k g h = stay g (has k g h) ∙ all k g h

pub not-behind : (r : Bool) (e l : ℕ) → r ≡ false → (e ≤ l → r ≡ true) → l < e
not-behind r e l q h = elim (cases_lt l e) [ inl lt ↦ lt | inr le ↦ absurd (both_ways r q (h le)) ]

pub kept-grows : (cut : Cut) (old new : List (Option Formula)) (m : ℕ) → ((k : ℕ) → HasEntry old k → HasEntry new k) → IsKept cut old m
    → IsKept cut new m
kept-grows cut old new m more kept le lt low = more m (kept le lt low)

-- of a call's result
pub on-ok : {E : Type 0} (r : Result Formula E) (P : Type 0) → P → OnOk r P
on-ok (Ok f) P p = p
on-ok (Err e) P p = tt

pub ok-same : {E : Type 0} (r : Result Formula E) (T : Formula → Bool) (x y : Bool) → x ≡ y → IfOk r (λ f. T f ≡ x) → IfOk r (λ f. T f ≡ y)
ok-same (Ok f) T x y e h = h ∙ e
ok-same (Err d) T x y e h = tt

pub ok-at : {E : Type 0} (r : Result Formula E) (T : Formula → List ℕ → Bool) (store : List ℕ) (X : List ℕ → Bool) (y : Bool) → X store ≡ y
    → IfOk r (λ f. (s : List ℕ) → T f s ≡ X s) → IfOk r (λ f. T f store ≡ y)
ok-at (Ok f) T store X y e h = h store ∙ e
ok-at (Err d) T store X y e h = tt

-- a chain
pub chain-first : (cut : Cut) (store : List ℕ) (ch : Chain) (x : Bool) → x ≡ truth_of cut store ch.first
    → steps_truth (noted_behind cut) (all_truths cut store) x ch.pairs ≡ chain_truth (noted_behind cut) (all_truths cut store) ch
unfolding truth_of
chain-first cut store ch x e = ap (λ (z : Bool). steps_truth (noted_behind cut) (all_truths cut store) z ch.pairs) e

pub truths-step : (cut : Cut) (ch : Chain) (i a b : ℕ) (old memo : List (Option Formula)) (X : Type 0) → (IsKept cut memo b → X) → AreKept cut old ch
    → ((k : ℕ) → HasEntry old k → HasEntry memo k) → slice_get ch.pairs i ≡ Some (a, b) → X
truths-step cut ch i a b old memo X told kept more g = told (kept-grows cut old memo b more (kept b (inr (i, (a, b), g, refl))))

steps-at : (behind : ℕ → Bool) (T : List Bool) (x : Bool) (ps : List (ℕ × ℕ)) (i : ℕ) (p : ℕ × ℕ) → slice_get ps i ≡ Some p
    → steps_truth behind T x (drop i ps) ≡ steps_truth behind T (joined (behind p.0) x (slice_index_or T p.1 true)) (drop (i + 1) ps)
steps-at behind T x ps i p g =
    at_drop_more (steps_truth behind T x) ps i p (slice_get_within ps i p g)
    ∙ ap (λ (q : ℕ × ℕ). steps_truth behind T (joined (behind q.0) x (slice_index_or T q.1 true)) (drop (i + 1) ps)) (get_or_from_slice_get ps i p p g)

pub chain-step : (cut : Cut) (store : List ℕ) (ch : Chain) (i a b : ℕ) (x y whole : Bool) (old memo : List (Option Formula))
    → (IsKept cut memo b → y ≡ joined (noted_behind cut a) x (truth_of cut store b)) → AreKept cut old ch
    → ((k : ℕ) → HasEntry old k → HasEntry memo k) → slice_get ch.pairs i ≡ Some (a, b)
    → steps_truth (noted_behind cut) (all_truths cut store) x (drop i ch.pairs) ≡ whole
    → steps_truth (noted_behind cut) (all_truths cut store) y (drop (i + 1) ch.pairs) ≡ whole
unfolding truth_of
chain-step cut store ch i a b x y whole old memo told kept more g e =
    ap (λ (z : Bool). steps_truth (noted_behind cut) (all_truths cut store) z (drop (i + 1) ch.pairs)) (told (kept-grows cut old memo b more (kept b (inr (i, (a, b), g, refl)))))
    ∙ sym (steps-at (noted_behind cut) (all_truths cut store) x ch.pairs i (a, b) g) ∙ e

-- a result's turn
pub met-kept : (cut : Cut) (place : ℕ) (ch : Chain) (memo : List (Option Formula)) → IsCut cut → AreMet cut place memo
    → slice_get cut.log.now place ≡ Some ch → IsMet cut.cone.now.lows.items cut.cone.now.needed.items place cut.edge → AreKept cut memo ch
met-kept cut place ch memo is met g here m names le lt low =
    let n : ℕ = length cut.clauses.now in
    let below : m < n + place = is.names place ch m g names in
    let need : slice_index_or cut.cone.now.needed.items (m - n) false ≡ true = is.cone.named place ch m g here.1 names le (omega (arith, lt, is.long)) in
    let q : low_of cut.cone.now.clauses cut.cone.now.lows.items m ≡ slice_index cut.cone.now.lows.items (m - n) =
    ap (λ (k : ℕ). low_of k cut.cone.now.lows.items m) is.clauses ∙ low-result n m cut.cone.now.lows.items le in
    let e : n + (m - n) ≡ m = omega (arith, le) in
    subst (HasEntry memo) e (met.1 (m - n) (omega (arith, below, le)) (omega (arith, lt, is.many), need, omega (arith, low, q)))

pub result-told : (cut : Cut) (store : List ℕ) (place : ℕ) (ch : Chain) → IsCut cut → slice_get cut.log.now place ≡ Some ch
    → chain_truth (noted_behind cut) (all_truths cut store) ch ≡ truth_of cut store (length cut.clauses.now + place)
unfolding truth_of
result-told cut store place ch is g =
    let l = length-leaves (noted_behind cut) (value_of cut store) cut.edge cut.clauses.now in
    sym (truth-at (noted_behind cut) (leaf_truths cut store) cut.log.now place ch g (λ m names. omega (arith, l, is.names place ch m g names)))
    ∙ ap (λ (n : ℕ). slice_index_or (all_truths cut store) (n + place) true) l

-- the last, if it is not met
pub unmet-told : (cut : Cut) (store : List ℕ) (place : ℕ) → IsCut cut → place + 1 ≡ length cut.log.now
    → (IsMet cut.cone.now.lows.items cut.cone.now.needed.items place cut.edge → ⊥) → truth_of cut store (length cut.clauses.now + place) ≡ true
unmet-told cut store place is last none =
    let n : ℕ = length cut.clauses.now in
    let need : slice_index_or cut.cone.now.needed.items place false ≡ true = is.cone.last place (omega (arith, last)) in
    let z : (n + place) - n ≡ place = omega arith in
    let q : low_of cut.cone.now.clauses cut.cone.now.lows.items (n + place) ≡ slice_index cut.cone.now.lows.items place =
    ap (λ (k : ℕ). low_of k cut.cone.now.lows.items (n + place)) is.clauses ∙ low-result n (n + place) cut.cone.now.lows.items (omega arith)
    ∙ ap (slice_index cut.cone.now.lows.items) z in
    behind-told cut store (n + place) is
    (elim (cases_lt (slice_index cut.cone.now.lows.items place) cut.edge) [
      | inl lt ↦ absurd (none (omega (arith, last, is.many), need, lt))
      | inr le ↦ omega (arith, le, q)
    ])

-- the results that are written down
pub met-next : (cut : Cut) (place : ℕ) (memo : List (Option Formula)) → AreMet cut place memo
    → (IsMet cut.cone.now.lows.items cut.cone.now.needed.items place cut.edge → ⊥) → AreMet cut (place + 1) memo
met-next cut place memo met none = (met.0, λ k lt here. way k here (cases_lt k place) lt)
  where
    way : (k : ℕ) → IsMet cut.cone.now.lows.items cut.cone.now.needed.items k cut.edge → (k < place) ⊎ (place ≤ k) → k < place + 1
        → HasEntry memo (length cut.clauses.now + k)
    way k here (inl less) lt = met.1 k less here
    way k here (inr le) lt =
        let e : k ≡ place = omega (arith, le, lt) in
        absurd (none (subst (λ (i : ℕ). IsMet cut.cone.now.lows.items cut.cone.now.needed.items i cut.edge) e here))

set-entry : (memo : List (Option Formula)) (m : ℕ) (f : Formula) → m < length memo → HasEntry (slice_set memo m (Some f)) m
set-entry [] m f lt = absurd (omega (arith, lt))
set-entry (q ∷ memo) zero f lt = (f, refl)
set-entry (q ∷ memo) (suc m) f lt = set-entry memo m f (omega (arith, lt))

set-long : (memo : List (Option Formula)) (m : ℕ) (o : Option Formula) → length (slice_set memo m o) ≡ length memo
set-long [] m o = refl
set-long (q ∷ memo) zero o = refl
set-long (q ∷ memo) (suc m) o = ap suc (set-long memo m o)

pub met-set : (cut : Cut) (place m : ℕ) (ch : Chain) (old memo new : List (Option Formula)) (f : Formula) → AreMet cut place old
    → slice_get cut.log.now place ≡ Some ch → length memo ≡ length old → ((k : ℕ) → HasEntry old k → HasEntry memo k)
    → m ≡ length cut.clauses.now + place → new ≡ slice_set memo m (Some f) → AreMet cut (place + 1) new
met-set cut place m ch old memo new f met g long more at e =
    let n : ℕ = length cut.clauses.now in
    let there : place < length cut.log.now = slice_get_within cut.log.now place ch g in
    subst (AreMet cut (place + 1)) (sym e)
    (omega (arith, set-long memo m (Some f), long, met.0), λ k lt here. way k here (cases_lt k place) lt there)
  where
    way : (k : ℕ) → IsMet cut.cone.now.lows.items cut.cone.now.needed.items k cut.edge → (k < place) ⊎ (place ≤ k) → k < place + 1
        → place < length cut.log.now → HasEntry (slice_set memo m (Some f)) (length cut.clauses.now + k)
    way k here (inl less) lt there = entry-grows memo m (length cut.clauses.now + k) f (more (length cut.clauses.now + k) (met.1 k less here))
    way k here (inr le) lt there =
        let q : m ≡ length cut.clauses.now + k = omega (arith, at, le, lt) in
        subst (HasEntry (slice_set memo m (Some f))) q (set-entry memo m f (omega (arith, long, met.0, at, there)))

pub unmet : (r : Bool) (P : Type 0) → r ≡ false → (P → r ≡ true) → P → ⊥
unmet r P e h p = both_ways r e (h p)

-- the last result
pub last-told : (cut : Cut) (store : List ℕ) (place : ℕ) (x : Bool) → place ≡ length cut.log.now → 0 < length cut.log.now
    → ((p : ℕ) → p + 1 ≡ place → place ≡ length cut.log.now → x ≡ truth_of cut store (length cut.clauses.now + p)) → x ≡ last_of (all_truths cut store)
unfolding truth_of
last-told cut store place x e some told =
    let n : ℕ = length cut.clauses.now in
    let l = length-leaves (noted_behind cut) (value_of cut store) cut.edge cut.clauses.now in
    let t = length-truths (noted_behind cut) (leaf_truths cut store) cut.log.now in
    let q : (place - 1) + 1 ≡ place = omega (arith, e, some) in
    told (place - 1) q e ∙ sym (last-at (all_truths cut store) (n + (place - 1)) (omega (arith, l, t, e, q)))

pub told-next : (cut : Cut) (store : List ℕ) (place : ℕ) (x : Bool) → (place + 1 ≡ length cut.log.now → x ≡ truth_of cut store (length cut.clauses.now + place))
    → (p : ℕ) → p + 1 ≡ place + 1 → place + 1 ≡ length cut.log.now → x ≡ truth_of cut store (length cut.clauses.now + p)
told-next cut store place x told p q last =
    let e : place ≡ p = omega (arith, q) in subst (λ (i : ℕ). x ≡ truth_of cut store (length cut.clauses.now + i)) e (told last)

pub blank-true : (T : Formula → List ℕ → Bool) (cut : Cut) (store : List ℕ) (memo : List (Option Formula)) → IsBlank memo → AreTrue T cut store memo
blank-true T cut store memo blank k f h = absurd (blank k f h)

pub none-met : (cut : Cut) (memo : List (Option Formula)) → length memo ≡ length cut.clauses.now + length cut.log.now → AreMet cut 0 memo
none-met cut memo long = (long, λ k lt here. absurd (omega (arith, lt)))

-- the formula of a cut
pub cut-told : {E : Type 0} (r : Result Formula E) (T : Formula → List ℕ → Bool) (cut : Cut) (store : List ℕ) (x y : Bool) → IsPlacing cut.bits.now
    → (AreAgreed cut store → x ≡ last_of (all_truths cut store)) → y ≡ agree_from store true cut.bits.now.twins.items
    → IfOk r (λ f. T f store ≡ (x && y)) → IfOk r (λ f. IsCutTruth cut store (T f store))
cut-told (Ok f) T cut store x y is told e h = (
  λ t.
      let both = and_parts x y (sym h ∙ t) in
      let agreed : AreAgreed cut store = is.all store (sym e ∙ both.1) in
      (agreed, sym (told agreed) ∙ both.0),
  λ p. h ∙ and_from x y (told p.0 ∙ p.1) (e ∙ is.each store p.0),
)
cut-told (Err d) T cut store x y is told e h = tt

-- a step's two cases
pub told-joined : {E : Type 0} (r : Result Formula E) (T : Formula → List ℕ → Bool) (b : Bool) (x y : List ℕ → Bool) → b ≡ true
    → IfOk r (λ f. (s : List ℕ) → T f s ≡ (x s && y s)) → IfOk r (λ f. (s : List ℕ) → T f s ≡ joined b (x s) (y s))
told-joined (Ok f) T b x y e h = λ s. h s ∙ sym (ap (λ (t : Bool). joined t (x s) (y s)) e)
told-joined (Err k) T b x y e h = tt

pub told-either : {E : Type 0} (r : Result Formula E) (T : Formula → List ℕ → Bool) (b : Bool) (x y : List ℕ → Bool) → b ≡ false
    → IfOk r (λ f. (s : List ℕ) → T f s ≡ (x s || y s)) → IfOk r (λ f. (s : List ℕ) → T f s ≡ joined b (x s) (y s))
told-either (Ok f) T b x y e h = λ s. h s ∙ sym (ap (λ (t : Bool). joined t (x s) (y s)) e)
told-either (Err k) T b x y e h = tt
