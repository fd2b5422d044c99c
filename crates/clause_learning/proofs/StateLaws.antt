-- Laws of the solver's state.
use Rattle.std.proofs.Common.{◌≡◌, ℕ, ◌+◌, ◌-◌, ◌<◌, ◌≤◌, Bool, true, false, List, [], ◌∷◌, ◌++◌, Option, Some, None, slice_get, zero, suc, ◌⊎◌, inl, inr, refl, sym, ap, ◌∙◌, subst, arith, append_assoc, append-nil, length, length-append}
use Rattle.std.proofs.lemmas.Bool.{both_ways}
use Rattle.prop.specs.declared.Lit.{Lit}
use Rattle.prop.specs.Logic.{negated}
use Rattle.prop.specs.Trues.{listed}
use Rattle.prop.specs.Steps.{has, Has, In, without, resolved}
use Rattle.prop.proofs.Sets.{In-left, In-right, In-append, In-get, Has-head, Has-append, Has-without}
use Rattle.resolution_log.specs.declared.Chain.{Chain}
use Rattle.resolution_log.specs.Chains.{then_with, chain_from, chain_result, pivots_differ}
use Rattle.resolution_log.specs.Propagation.{Closed, Quiet, IsNew}
use Rattle.resolution_log.specs.Logs.{New, Lean, Same, AllSame, AllSame.none, AllSame.also}
use Rattle.resolution_log.proofs.Pushes.{New-push}
use Rattle.resolution_log.proofs.Sames.{result_same, new_same}
use Rattle.clause_learning.specs.declared.Entry.{Entry}
use Rattle.clause_learning.specs.Trail.{Set, SetAt, below_of, Going, Told, ToldSet, UipOk, Learnt, Back, Holds}
use Rattle.clause_learning.specs.Solve.{State, pairs_of}
use Rattle.clause_learning.proofs.AnalysisLaws.{learnt_new, below_all}
use Rattle.clause_learning.proofs.JumpLaws.{back_start, holds_learnt, below_from}

chain_of : (known : List (List Lit)) (ch : Chain) (start d : List Lit) → slice_get known ch.first ≡ Some start → chain_from known start ch.pairs ≡ Some d → chain_result known ch ≡ Some d
chain_of known ch start d g h = rw g h

get_last : (xs : List (List Lit)) (d : List Lit) (k : ℕ) → k ≡ length xs → slice_get (xs ++ (d ∷ [])) k ≡ Some d
get_last [] d zero e = refl
get_last [] d (suc k) e = absurd (omega arith)
get_last (x ∷ xs) d zero e = absurd (omega arith)
get_last (x ∷ xs) d (suc k) e = let q : k ≡ length xs = omega arith in get_last xs d k q

has_none : (d : List Lit) (u : Lit) → Has d u → d ≡ [] → ⊥
has_none [] u h e = absurd (both_ways false refl h)
has_none (x ∷ d) u h e = cc

same_nil : (c d : List Lit) → Same c d → c ≡ [] → d ≡ []
same_nil c [] s e = refl
same_nil c (x ∷ d) s e = absurd (both_ways false refl (subst (λ w. Has w x) e (s.from x (Has-head x d))))

same_back : (c d : List Lit) → Same c d → Same d c
same_back c d s = record { to = s.from; from = s.to }

same_both : (a b c : List Lit) → Same a b → Same a c → Same b c
same_both a b c s t = record { to = λ l h. t.to l (s.from l h); from = λ l h. s.to l (t.from l h) }

all_push : (xs ys : List (List Lit)) (c d : List Lit) → AllSame xs ys → Same c d → AllSame (xs ++ (c ∷ [])) (ys ++ (d ∷ []))
all_push [] [] c d none s = also s none
all_push [] (y ∷ ys) c d a s = elim a [ ]
all_push (x ∷ xs) [] c d a s = elim a [ ]
all_push (x ∷ xs) (y ∷ ys) c d (also q t) s = also q (all_push xs ys c d t s)

pub all_refl : (xs : List (List Lit)) → AllSame xs xs
all_refl [] = none
all_refl (x ∷ xs) = also (record { to = λ l h. h; from = λ l h. h }) (all_refl xs)

pub all_length : (xs ys : List (List Lit)) → AllSame xs ys → length xs ≡ length ys
all_length [] [] none = refl
all_length [] (y ∷ ys) a = elim a [ ]
all_length (x ∷ xs) [] a = elim a [ ]
all_length (x ∷ xs) (y ∷ ys) (also q t) = ap suc (all_length xs ys t)

learnt_same : (level : ℕ) (t : List Entry) (c d : List Lit) (u : Lit) → Same c d → Learnt level t c u → Learnt level t d u
learnt_same level t c d u s l = record { in_it = s.to u l.in_it; free = l.free; free_not = l.free_not; below = λ m h n. l.below m (s.from m h) n }

pub state_below : (known : List (List Lit)) (level : ℕ) (t : List Entry) (d : List Lit) (u : Lit) (first : ℕ) (pairs : List (ℕ × ℕ)) → ToldSet known level t first d pairs (Some u) → below_of (level - 1) t u d ≡ true
state_below known level t d u first pairs g = below_from (level - 1) t u d (learnt_same level t g.whole d u g.same g.told.uip.1).below

module _ (clauses known : List (List Lit)) (level : ℕ) (t0 : List Entry) (log : List Chain) (st : State clauses known level t0 log) where
  -- the refutation is lean
  pub state_lean : (t : List Entry) (d : List Lit) (ch : Chain) → ToldSet known level t ch.first d ch.pairs None → Lean clauses (log ++ (ch ∷ []))
  state_lean t d ch g =
      let (q, h, s) = result_same ch g.whole st.parts (chain_of known ch g.told.start g.whole g.told.gets g.told.chain) in
      record {
        front = log;
        last = ch;
        results = st.results;
        parts = refl;
        new = st.new;
        empty = subst (λ w. chain_result (clauses ++ st.results) ch ≡ Some w) (same_nil g.whole q s g.told.uip.1) h;
        differ = g.told.differ;
      }

  -- the learned clause joins the log
  pub state_learn : (t back : List Entry) (d : List Lit) (ch : Chain) (u : Lit) (low : ℕ) (e : Entry) → ToldSet known level t ch.first d ch.pairs (Some u) → low < level → below_of low t u d ≡ true → ((k : ℕ) → k < low → below_of k t u d ≡ false) → (Back known low t t → Back known low t back × ((l : Lit) → Set back l → SetAt low back l)) → e.lit ≡ u → e.level ≡ low → e.reason ≡ Some (length known) → State clauses (known ++ (d ∷ [])) low (back ++ (e ∷ [])) (log ++ (ch ∷ []))
  state_learn t back d ch u low e g lt at least jump is lev why =
      let le : low ≤ level = omega arith in
      let told = g.told in
      let learnt = learnt_same level t g.whole d u g.same told.uip.1 in
      let j = jump (back_start known low level t le told.ok told.low) in
      let (q, h, s) = result_same ch g.whole st.parts (chain_of known ch told.start g.whole told.gets told.chain) in
      let new : IsNew known d = learnt_new known level t d u told.uip.0 told.ok told.low st.some learnt in
      let dq : Same d q = same_both g.whole d q g.same s in
      record {
        results = st.results ++ (q ∷ []);
        parts = subst (AllSame (known ++ (d ∷ []))) (append_assoc clauses st.results (q ∷ [])) (all_push known (clauses ++ st.results) d q st.parts dq);
        new = New-push ch q st.new h told.differ (new_same d q st.parts dq new);
        holds = holds_learnt known d u level low t back e (length known) j.0 j.1 learnt at least is lev why (get_last known d (length known) refl);
        some = λ c hc n. (elim (In-append known (d ∷ []) c hc) [ inl a ↦ st.some c a n | inr y ↦ elim y [ inl z ↦ has_none d u learnt.in_it (sym z ∙ n) | inr z ↦ z ] ]);
      }

-- the literal has no value after the jump
pub told_free : (known : List (List Lit)) (level low : ℕ) (t back : List Entry) (d : List Lit) (u : Lit) (first : ℕ) (pairs : List (ℕ × ℕ)) → ToldSet known level t first d pairs (Some u) → low < level → (Back known low t t → Back known low t back × ((l : Lit) → Set back l → SetAt low back l)) → (Set back u → ⊥) × (Set back (negated u) → ⊥)
told_free known level low t back d u first pairs g lt jump =
    let le : low ≤ level = omega arith in
    let j = jump (back_start known low level t le g.told.ok g.told.low) in
    ((λ s. g.told.uip.1.free (j.0.fewer u s)), (λ s. g.told.uip.1.free_not (j.0.fewer (negated u) s)))

-- pairs
pub pairs_push : (log : List Chain) (ch : Chain) → pairs_of (log ++ (ch ∷ [])) ≡ pairs_of log + length ch.pairs
pairs_push [] ch = omega arith
pairs_push (c ∷ log) ch = let ih = pairs_push log ch in omega (arith, ih)

pub front_is : (log front : List Chain) (ch last : Chain) → log ++ (ch ∷ []) ≡ front ++ (last ∷ []) → log ≡ front
front_is [] [] ch last h = refl
front_is [] (y ∷ front) ch last h = let p : [] ≡ front ++ (last ∷ []) = cc in absurd (no_snoc front last p)
  where
    no_snoc : (t : List Chain) (e : Chain) → [] ≡ t ++ (e ∷ []) → ⊥
    no_snoc [] e p = cc
    no_snoc (y ∷ t) e p = cc
front_is (x ∷ log) [] ch last h = let p : log ++ (ch ∷ []) ≡ [] = cc in absurd (no_snoc log ch p)
  where
    no_snoc : (t : List Chain) (e : Chain) → t ++ (e ∷ []) ≡ [] → ⊥
    no_snoc [] e p = cc
    no_snoc (y ∷ t) e p = cc
front_is (x ∷ log) (y ∷ front) ch last h =
    let p : x ≡ y = cc in
    let q : log ++ (ch ∷ []) ≡ front ++ (last ∷ []) = cc in
    let r = front_is log front ch last q in
    cc

pub same_clause : (xs ys : List (List Lit)) (c : List Lit) → AllSame xs ys → In ys c → (d : List Lit) × In xs d × Same d c
same_clause [] [] c none h = absurd h
same_clause [] (y ∷ ys) c a h = elim a [ ]
same_clause (x ∷ xs) [] c a h = absurd h
same_clause (x ∷ xs) (y ∷ ys) c (also q t) h = elim h [ inl e ↦ (x, inl refl, subst (Same x) (sym e) q) | inr r ↦ (let (d, k, s) = same_clause xs ys c t r in (d, inr k, s)) ]
