-- The truths of clauses and results at a cut, by their numbers.
use Rattle.std.proofs.Common.{◌≡◌, ℕ, ◌+◌, ◌-◌, ◌<◌, ◌≤◌, ◌⊎◌, inl, inr, Bool, true, false, List, [], ◌∷◌, ◌++◌, length, nat_lt, slice_index, slice_index_or, Some, slice_get, zero, suc, refl, sym, ap, ◌∙◌, subst, arith, cond}
use Rattle.std.proofs.lemmas.Bool.{ltb-true, ltb-false, lt-ltb, le-ltb, cases_lt}
use Rattle.std.proofs.lemmas.List.{length-append, get_or_append_left, get_or-append-add}
use Rattle.std.proofs.lemmas.Option.{slice_get_within}
use Rattle.prop.specs.declared.Lit.{Lit}
use Rattle.resolution_log.specs.declared.Chain.{Chain}
use Rattle.resolution_log.specs.Chains.{chain_from, chain_result, results_of}
use Rattle.resolution_log.proofs.Results.{then_parts, step_parts, results_parts}
use Rattle.interpolants.specs.Rules.{some_holds, leaves, joined, steps_truth, chain_truth, truths_after, last_of}
use Rattle.interpolants.specs.Sources.{low_of, lower, pairs_low, chain_low, lows_after, Names}

-- past the end all is true
pub past-true : (xs : List Bool) (k : ℕ) → length xs ≤ k → slice_index_or xs k true ≡ true
past-true [] k le = refl
past-true (x ∷ xs) zero le = absurd (omega (arith, le))
past-true (x ∷ xs) (suc k) le = past-true xs k (omega (arith, le))

-- the clauses
pub length-leaves : (b v : ℕ → Bool) (edge : ℕ) (cs : List (List Lit)) → length (leaves b v edge cs) ≡ length cs
length-leaves b v edge [] = refl
length-leaves b v zero (c ∷ cs) = ap suc (length-leaves b v zero cs)
length-leaves b v (suc edge) (c ∷ cs) = ap suc (length-leaves b v edge cs)

pub leaf-behind : (b v : ℕ → Bool) (edge : ℕ) (cs : List (List Lit)) (k : ℕ) → edge ≤ k → slice_index_or (leaves b v edge cs) k true ≡ true
leaf-behind b v edge [] k le = refl
leaf-behind b v zero (c ∷ cs) zero le = refl
leaf-behind b v zero (c ∷ cs) (suc k) le = leaf-behind b v zero cs k (omega arith)
leaf-behind b v (suc edge) (c ∷ cs) zero le = absurd (omega (arith, le))
leaf-behind b v (suc edge) (c ∷ cs) (suc k) le = leaf-behind b v edge cs k (omega (arith, le))

pub leaf-at : (b v : ℕ → Bool) (edge : ℕ) (cs : List (List Lit)) (k : ℕ) (c : List Lit) → k < edge → slice_get cs k ≡ Some c
    → slice_index_or (leaves b v edge cs) k true ≡ some_holds b v c
leaf-at b v edge [] k c lt g = absurd cc
leaf-at b v zero (d ∷ cs) k c lt g = absurd (omega (arith, lt))
leaf-at b v (suc edge) (d ∷ cs) zero c lt g = let e : d ≡ c = cc in ap (some_holds b v) e
leaf-at b v (suc edge) (d ∷ cs) (suc k) c lt g = leaf-at b v edge cs k c (omega (arith, lt)) g

-- earlier truths stand where they stood
abbrev push : (ℕ → Bool) → List Bool → Chain → List Bool
push b known ch = known ++ chain_truth b known ch ∷ []

length-push : (b : ℕ → Bool) (known : List Bool) (ch : Chain) → length (push b known ch) ≡ length known + 1
length-push b known ch = length-append known (chain_truth b known ch ∷ [])

pub truths-keep : (b : ℕ → Bool) (known : List Bool) (log : List Chain) (k : ℕ) → k < length known
    → slice_index_or (truths_after b known log) k true ≡ slice_index_or known k true
truths-keep b known [] k lt = refl
truths-keep b known (ch ∷ log) k lt =
    truths-keep b (push b known ch) log k (omega (arith, lt, length-push b known ch))
    ∙ get_or_append_left known (chain_truth b known ch ∷ []) true k lt

pub length-truths : (b : ℕ → Bool) (known : List Bool) (log : List Chain) → length (truths_after b known log) ≡ length known + length log
length-truths b known [] = omega arith
length-truths b known (ch ∷ log) = omega (arith, length-truths b (push b known ch) log, length-push b known ch)

-- a chain over other truths that agree where it looks
steps-same : (b : ℕ → Bool) (xs ys : List Bool) (x : Bool) (ps : List (ℕ × ℕ))
    → ((i : ℕ) (p : ℕ × ℕ) → slice_get ps i ≡ Some p → slice_index_or xs p.1 true ≡ slice_index_or ys p.1 true)
    → steps_truth b xs x ps ≡ steps_truth b ys x ps
steps-same b xs ys x [] same = refl
steps-same b xs ys x (p ∷ ps) same =
    ap (λ (z : Bool). steps_truth b xs (joined (b p.0) x z) ps) (same 0 p refl)
    ∙ steps-same b xs ys (joined (b p.0) x (slice_index_or ys p.1 true)) ps (λ i q g. same (suc i) q g)

chain-same : (b : ℕ → Bool) (xs ys : List Bool) (ch : Chain) → ((m : ℕ) → Names ch m → slice_index_or xs m true ≡ slice_index_or ys m true)
    → chain_truth b xs ch ≡ chain_truth b ys ch
chain-same b xs ys ch same =
    ap (λ (z : Bool). steps_truth b xs z ch.pairs) (same ch.first (inl refl))
    ∙ steps-same b xs ys (slice_index_or ys ch.first true) ch.pairs (λ i p g. same p.1 (inr (i, p, g, refl)))

at-push : (b : ℕ → Bool) (known : List Bool) (ch : Chain) → slice_index_or (push b known ch) (length known) true ≡ chain_truth b known ch
at-push b known ch =
    let z : length known + 0 ≡ length known = omega arith in
    ap (λ (k : ℕ). slice_index_or (push b known ch) k true) (sym z) ∙ get_or-append-add known (chain_truth b known ch ∷ []) 0 true

-- a result's truth, where its chain names earlier clauses alone
pub truth-at : (b : ℕ → Bool) (known : List Bool) (log : List Chain) (k : ℕ) (ch : Chain) → slice_get log k ≡ Some ch
    → ((m : ℕ) → Names ch m → m < length known + k)
    → slice_index_or (truths_after b known log) (length known + k) true ≡ chain_truth b (truths_after b known log) ch
truth-at b known [] k ch g below = absurd cc
truth-at b known (d ∷ log) zero ch g below =
    let e : d ≡ ch = cc in
    let z : length known + zero ≡ length known = omega arith in
    let all : List Bool = truths_after b known (d ∷ log) in
    ap (λ (k : ℕ). slice_index_or all k true) z
    ∙ truths-keep b (push b known d) log (length known) (omega (arith, length-push b known d))
    ∙ at-push b known d ∙ ap (chain_truth b known) e
    ∙ chain-same b known all ch (λ m h. sym (truths-keep b known (d ∷ log) m (omega (arith, below m h))))
truth-at b known (d ∷ log) (suc k) ch g below =
    let l = length-push b known d in
    let e : length (push b known d) + k ≡ length known + suc k = omega (arith, l) in
    let all : List Bool = truths_after b known (d ∷ log) in
    ap (λ (i : ℕ). slice_index_or all i true) (sym e)
    ∙ truth-at b (push b known d) log k ch g (λ m h. omega (arith, e, below m h))

-- the last
pub last-at : (xs : List Bool) (k : ℕ) → suc k ≡ length xs → last_of xs ≡ slice_index_or xs k true
last-at [] k e = refl
last-at (x ∷ []) zero e = refl
last-at (x ∷ []) (suc k) e = absurd (omega (arith, e))
last-at (x ∷ y ∷ xs) zero e = absurd (omega (arith, e))
last-at (x ∷ y ∷ xs) (suc k) e = last-at (y ∷ xs) k (omega (arith, e))

-- the chains of a valid log name earlier clauses alone
from-below : (known : List (List Lit)) (c : List Lit) (ps : List (ℕ × ℕ)) (r : List Lit) → chain_from known c ps ≡ Some r
    → (i : ℕ) (p : ℕ × ℕ) → slice_get ps i ≡ Some p → p.1 < length known
from-below known c [] r h i p g = absurd cc
from-below known c (s ∷ ps) r h zero p g =
    let (f, d, gf, gg, h2) = step_parts known s ps c r h in
    let e : s ≡ p = cc in
    subst (λ (q : ℕ × ℕ). q.1 < length known) e (slice_get_within known s.1 f gf)
from-below known c (s ∷ ps) r h (suc i) p g =
    let (f, d, gf, gg, h2) = step_parts known s ps c r h in from-below known d ps r h2 i p g

chain-below : (known : List (List Lit)) (ch : Chain) (r : List Lit) → chain_result known ch ≡ Some r → (m : ℕ) → Names ch m → m < length known
chain-below known ch r h m (inl e) =
    let (c, gc, h1) = then_parts (slice_get known ch.first) (λ c. chain_from known c ch.pairs) r h in
    let lt = slice_get_within known ch.first c gc in
    omega (arith, lt, e)
chain-below known ch r h m (inr n) =
    let (c, gc, h1) = then_parts (slice_get known ch.first) (λ c. chain_from known c ch.pairs) r h in
    let lt = from-below known c ch.pairs r h1 n.0 n.1 n.2 in
    omega (arith, lt, n.3)

pub names-below : (known : List (List Lit)) (log : List Chain) (rs : List (List Lit)) → results_of known log ≡ Some rs
    → (k : ℕ) (ch : Chain) (m : ℕ) → slice_get log k ≡ Some ch → Names ch m → m < length known + k
names-below known [] rs h k ch m g n = absurd cc
names-below known (d ∷ log) rs h zero ch m g n =
    let (r, ts, gr, gt, e) = results_parts known d log rs h in
    let q : d ≡ ch = cc in
    let lt = chain-below known d r gr m (subst (λ (x : Chain). Names x m) (sym q) n) in
    omega (arith, lt)
names-below known (d ∷ log) rs h (suc k) ch m g n =
    let (r, ts, gr, gt, e) = results_parts known d log rs h in
    let lt = names-below (known ++ r ∷ []) log ts gt k ch m g n in
    omega (arith, lt, length-append known (r ∷ []))

-- what comes from clauses behind the cut alone is true
record Behind (edge n : ℕ) (known : List Bool) (lows : List ℕ) : Type 0 where
  many : length known ≡ n + length lows
  all : (k : ℕ) → edge ≤ low_of n lows k → slice_index_or known k true ≡ true

lower-parts : (e a b : ℕ) → e ≤ lower a b → (e ≤ a) × (e ≤ b)
lower-parts e a b h = way (nat_lt b a) refl
  where
    way : (t : Bool) → nat_lt b a ≡ t → (e ≤ a) × (e ≤ b)
    way true q =
        let r : lower a b ≡ b = ap (λ (u : Bool). cond u b a) q in
        let lt = ltb-true b a q in
        (omega (arith, h, r, lt), omega (arith, h, r))
    way false q =
        let r : lower a b ≡ a = ap (λ (u : Bool). cond u b a) q in
        let le = ltb-false b a q in
        (omega (arith, h, r), omega (arith, h, r, le))

low-first : (edge n : ℕ) (lows : List ℕ) (low : ℕ) (ps : List (ℕ × ℕ)) → edge ≤ pairs_low n lows low ps → edge ≤ low
low-first edge n lows low [] h = h
low-first edge n lows low (p ∷ ps) h =
    (lower-parts edge low (low_of n lows p.1) (low-first edge n lows (lower low (low_of n lows p.1)) ps h)).0

join-true : (t x y : Bool) → x ≡ true → y ≡ true → joined t x y ≡ true
join-true true true true p q = refl
join-true true true false p q = q
join-true true false y p q = p
join-true false true y p q = refl
join-true false false y p q = q

steps-true : (b : ℕ → Bool) (edge n : ℕ) (known : List Bool) (lows : List ℕ) (x : Bool) (low : ℕ) (ps : List (ℕ × ℕ)) → Behind edge n known lows
    → x ≡ true → edge ≤ pairs_low n lows low ps → steps_truth b known x ps ≡ true
steps-true b edge n known lows x low [] r e h = e
steps-true b edge n known lows x low (p ∷ ps) r e h =
    let next : ℕ = lower low (low_of n lows p.1) in
    let both = lower-parts edge low (low_of n lows p.1) (low-first edge n lows next ps h) in
    steps-true b edge n known lows (joined (b p.0) x (slice_index_or known p.1 true)) next ps r
    (join-true (b p.0) x (slice_index_or known p.1 true) e (r.all p.1 both.1)) h

chain-true : (b : ℕ → Bool) (edge n : ℕ) (known : List Bool) (lows : List ℕ) (ch : Chain) → Behind edge n known lows
    → edge ≤ chain_low n lows ch → chain_truth b known ch ≡ true
chain-true b edge n known lows ch r h =
    steps-true b edge n known lows (slice_index_or known ch.first true) (low_of n lows ch.first) ch.pairs r
    (r.all ch.first (low-first edge n lows (low_of n lows ch.first) ch.pairs h)) h

pub low-clause : (n k : ℕ) (lows : List ℕ) → k < n → low_of n lows k ≡ k
low-clause n k lows lt = ap (λ (u : Bool). cond u k (slice_index lows (k - n))) (lt-ltb k n lt)

pub low-result : (n k : ℕ) (lows : List ℕ) → n ≤ k → low_of n lows k ≡ slice_index lows (k - n)
low-result n k lows le = ap (λ (u : Bool). cond u k (slice_index lows (k - n))) (le-ltb k n le)

behind-push : (b : ℕ → Bool) (edge n : ℕ) (known : List Bool) (lows : List ℕ) (ch : Chain) → Behind edge n known lows
    → Behind edge n (push b known ch) (lows ++ chain_low n lows ch ∷ [])
behind-push b edge n known lows ch r = record {
  many = omega (arith, r.many, length-push b known ch, length-append lows (chain_low n lows ch ∷ []));
  all = λ k h. go k h (cases_lt k n);
}
  where
    old : (k : ℕ) → k < length known → edge ≤ low_of n lows k → slice_index_or (push b known ch) k true ≡ true
    old k lt h = get_or_append_left known (chain_truth b known ch ∷ []) true k lt ∙ r.all k h

    far : (k : ℕ) → n ≤ k → edge ≤ low_of n (lows ++ chain_low n lows ch ∷ []) k → (k - n < length lows) ⊎ (length lows ≤ k - n)
        → slice_index_or (push b known ch) k true ≡ true
    far k le h (inl lt) =
        let q : slice_index (lows ++ chain_low n lows ch ∷ []) (k - n) ≡ slice_index lows (k - n) = get_or_append_left lows (chain_low n lows ch ∷ []) 0 (k - n) lt in
        let p = low-result n k (lows ++ chain_low n lows ch ∷ []) le in
        let s = low-result n k lows le in
        old k (omega (arith, r.many, lt, le)) (omega (arith, h, p, q, s))
    far k le h (inr past) = end k le h past (cases_lt (length lows) (k - n))
      where
        end : (k : ℕ) → n ≤ k → edge ≤ low_of n (lows ++ chain_low n lows ch ∷ []) k → length lows ≤ k - n → (length lows < k - n) ⊎ (k - n ≤ length lows)
            → slice_index_or (push b known ch) k true ≡ true
        end k le h past (inl lt) = past-true (push b known ch) k (omega (arith, lt, le, r.many, length-push b known ch))
        end k le h past (inr here) =
            let z : length lows + 0 ≡ k - n = omega (arith, past, here) in
            let q : slice_index (lows ++ chain_low n lows ch ∷ []) (k - n) ≡ chain_low n lows ch =
            ap (slice_index (lows ++ chain_low n lows ch ∷ [])) (sym z) ∙ get_or-append-add lows (chain_low n lows ch ∷ []) 0 0 in
            let p = low-result n k (lows ++ chain_low n lows ch ∷ []) le in
            let at : k ≡ length known = omega (arith, past, here, le, r.many) in
            ap (λ (i : ℕ). slice_index_or (push b known ch) i true) at ∙ at-push b known ch
            ∙ chain-true b edge n known lows ch r (omega (arith, h, p, q))

    go : (k : ℕ) → edge ≤ low_of n (lows ++ chain_low n lows ch ∷ []) k → (k < n) ⊎ (n ≤ k) → slice_index_or (push b known ch) k true ≡ true
    go k h (inl lt) =
        let p = low-clause n k (lows ++ chain_low n lows ch ∷ []) lt in
        let s = low-clause n k lows lt in
        old k (omega (arith, r.many, lt)) (omega (arith, h, p, s))
    go k h (inr le) = far k le h (cases_lt (k - n) (length lows))

behind-log : (b : ℕ → Bool) (edge n : ℕ) (known : List Bool) (lows : List ℕ) (log : List Chain) → Behind edge n known lows
    → Behind edge n (truths_after b known log) (lows_after n lows log)
behind-log b edge n known lows [] r = r
behind-log b edge n known lows (ch ∷ log) r =
    behind-log b edge n (push b known ch) (lows ++ chain_low n lows ch ∷ []) log (behind-push b edge n known lows ch r)

pub behind-true : (b v : ℕ → Bool) (edge : ℕ) (cs : List (List Lit)) (log : List Chain) (k : ℕ)
    → edge ≤ low_of (length cs) (lows_after (length cs) [] log) k → slice_index_or (truths_after b (leaves b v edge cs) log) k true ≡ true
behind-true b v edge cs log k h =
    let start : Behind edge (length cs) (leaves b v edge cs) [] = record {
      many = omega (arith, length-leaves b v edge cs);
      all = λ i e. first i e (cases_lt i (length cs));
    } in
    (behind-log b edge (length cs) (leaves b v edge cs) [] log start).all k h
  where
    first : (i : ℕ) → edge ≤ low_of (length cs) [] i → (i < length cs) ⊎ (length cs ≤ i) → slice_index_or (leaves b v edge cs) i true ≡ true
    first i e (inl lt) = let p = low-clause (length cs) i [] lt in leaf-behind b v edge cs i (omega (arith, e, p))
    first i e (inr le) = past-true (leaves b v edge cs) i (omega (arith, le, length-leaves b v edge cs))
