-- Laws of the cone: what marking keeps, and why the cut log is a lean refutation.
use Rattle.std.proofs.Common.{◌≡◌, ◌≢◌, ℕ, ◌+◌, ◌<◌, ◌≤◌, Bool, true, false, cond, List, [], ◌∷◌, ◌++◌, Option, Some, None, slice_get, slice_set, get_or, drop, zero, suc, ◌⊎◌, inl, inr, refl, sym, ap, ◌∙◌, subst, arith, length, length-append, add-one, append_assoc, drop-cons, Fits, w32, IfOk, Result, Ok, Err}
use Rattle.std.proofs.lemmas.Bool.{both_ways, cases_lt}
use Rattle.std.proofs.Math.Seq.{get_or-append_seam}
use Rattle.std.proofs.lemmas.Grind.{get_or_default_zero}
use Rattle.std.proofs.lemmas.List.{length-set, get_or-set_same, get_or-set_other, get_or_append_left}
use Rattle.prop.specs.declared.Lit.{Lit}
use Rattle.resolution_log.specs.declared.Chain.{Chain}
use Rattle.resolution_log.specs.Chains.{chain_from, chain_result, then_with, pivots_differ}
use Rattle.resolution_log.specs.Cones.{anew, rank, Used, Anew, Kept, Kept.kept_none, Kept.kept_not, Kept.kept_one}
use Rattle.resolution_log.specs.Logs.{New, New.none, New.more, Lean}
use Rattle.resolution_log.proofs.Results.{then_parts, step_parts, get-below}
use Rattle.resolution_log.proofs.Cones.{cut_lean}
use Rattle.clause_learning.specs.Solve.{IsRefuted}
use Rattle.clause_learning.specs.Cuts.{need_in, mark_pairs, mark_chain, PairsBelow, NamesBelow, Ranged, GivenNeeded, Names, Closes, AreRanks, renamed, cut_from}

-- Marking.

pub set_marks : (m : List Bool) (i : ℕ) → i < length m → need_in (slice_set m i true) i ≡ true
set_marks m i h = get_or-set_same m i true false h

pub set_keeps : (m : List Bool) (i j : ℕ) → need_in m j ≡ true → need_in (slice_set m i true) j ≡ true
set_keeps [] i j h = h
set_keeps (b ∷ m) zero zero h = refl
set_keeps (b ∷ m) zero (suc j) h = h
set_keeps (b ∷ m) (suc i) zero h = h
set_keeps (b ∷ m) (suc i) (suc j) h = set_keeps m i j h

pub set_other : (m : List Bool) (i j : ℕ) → i < j → need_in (slice_set m i true) j ≡ need_in m j
set_other m i j h = let ne : j ≢ i = λ e. omega (arith, h, e) in get_or-set_other m i j true false ne

pub pairs_keep : (ps : List (ℕ × ℕ)) (m : List Bool) (j : ℕ) → need_in m j ≡ true → need_in (mark_pairs ps m) j ≡ true
pairs_keep [] m j h = h
pairs_keep (p ∷ ps) m j h = pairs_keep ps (slice_set m p.1 true) j (set_keeps m p.1 j h)

pub pairs_length : (ps : List (ℕ × ℕ)) (m : List Bool) → length (mark_pairs ps m) ≡ length m
pairs_length [] m = refl
pairs_length (p ∷ ps) m = pairs_length ps (slice_set m p.1 true) ∙ length-set m p.1 true

pub pairs_other : (ps : List (ℕ × ℕ)) (m : List Bool) (at j : ℕ) → PairsBelow at ps → at ≤ j → need_in (mark_pairs ps m) j ≡ need_in m j
pairs_other [] m at j h le = refl
pairs_other (p ∷ ps) m at j h le = let lt : p.1 < j = omega (arith, h.0, le) in pairs_other ps (slice_set m p.1 true) at j h.1 le ∙ set_other m p.1 j lt

pub pairs_named : (ps : List (ℕ × ℕ)) (m : List Bool) → PairsBelow (length m) ps → Used (need_in (mark_pairs ps m)) ps
pairs_named [] m h = tt
pairs_named (p ∷ ps) m h =
    (pairs_keep ps (slice_set m p.1 true) p.1 (set_marks m p.1 h.0), pairs_named ps (slice_set m p.1 true) (subst (λ n. PairsBelow n ps) (sym (length-set m p.1 true)) h.1))

pub chain_keeps : (ch : Chain) (m : List Bool) (j : ℕ) → need_in m j ≡ true → need_in (mark_chain ch m) j ≡ true
chain_keeps ch m j h = pairs_keep ch.pairs (slice_set m ch.first true) j (set_keeps m ch.first j h)

pub chain_length : (ch : Chain) (m : List Bool) → length (mark_chain ch m) ≡ length m
chain_length ch m = pairs_length ch.pairs (slice_set m ch.first true) ∙ length-set m ch.first true

pub chain_other : (ch : Chain) (m : List Bool) (at j : ℕ) → NamesBelow at ch → at ≤ j → need_in (mark_chain ch m) j ≡ need_in m j
chain_other ch m at j h le = let lt : ch.first < j = omega (arith, h.0, le) in pairs_other ch.pairs (slice_set m ch.first true) at j h.1 le ∙ set_other m ch.first j lt

pub chain_named : (ch : Chain) (m : List Bool) → NamesBelow (length m) ch → Names (need_in (mark_chain ch m)) ch
chain_named ch m h =
    (pairs_keep ch.pairs (slice_set m ch.first true) ch.first (set_marks m ch.first h.0), pairs_named ch.pairs (slice_set m ch.first true) (subst (λ n. PairsBelow n ch.pairs) (sym (length-set m ch.first true)) h.1))

-- Ranges.

pub pairs_wider : (ps : List (ℕ × ℕ)) (a b : ℕ) → a ≤ b → PairsBelow a ps → PairsBelow b ps
pairs_wider [] a b le h = tt
pairs_wider (p ∷ ps) a b le h = (omega (arith, h.0, le), pairs_wider ps a b le h.1)

pub names_wider : (ch : Chain) (a b : ℕ) → a ≤ b → NamesBelow a ch → NamesBelow b ch
names_wider ch a b le h = (omega (arith, h.0, le), pairs_wider ch.pairs a b le h.1)

-- the chain with this place is ranged
pub ranged_at : (chs : List Chain) (n k : ℕ) (ch : Chain) → Ranged n chs → k < length chs → ch ≡ get_or chs k ch → NamesBelow (n + k) ch
ranged_at [] n k ch r lt e = absurd (omega (arith, lt))
ranged_at (a ∷ chs) n zero ch r lt e = subst (λ (w : Chain). NamesBelow (n + 0) w) (sym e) (names_wider a n (n + 0) (omega arith) r.0)
ranged_at (a ∷ chs) n (suc k) ch r lt e =
    let q : k < length chs = omega (arith, lt) in
    names_wider ch (suc n + k) (n + suc k) (omega arith) (ranged_at chs (suc n) k ch r.1 q e)

pairs_ranged : (known : List (List Lit)) (ps : List (ℕ × ℕ)) (c r : List Lit) → chain_from known c ps ≡ Some r → PairsBelow (length known) ps
pairs_ranged known [] c r h = tt
pairs_ranged known (p ∷ ps) c r h = let (d, e, gd, ge, h2) = step_parts known p ps c r h in (get-below known p.1 d gd, pairs_ranged known ps e r h2)

pub chain_ranged : (known : List (List Lit)) (ch : Chain) (r : List Lit) → chain_result known ch ≡ Some r → NamesBelow (length known) ch
chain_ranged known ch r h = let (c, gc, h1) = then_parts (slice_get known ch.first) (λ c. chain_from known c ch.pairs) r h in (get-below known ch.first c gc, pairs_ranged known ch.pairs c r h1)

ranged_new : (last : Chain) {known rs : List (List Lit)} {log : List Chain} → New known log rs → (n : ℕ) → n ≡ length known → NamesBelow (length (known ++ rs)) last → Ranged n (log ++ (last ∷ []))
ranged_new last {known} none n e h = (names_wider last (length (known ++ [])) n (omega (arith, e, length-append known [])) h, tt)
ranged_new last {known} (more {rs = rs} {ch = ch} {r = r} g d x v) n e h =
    (names_wider ch (length known) n (omega (arith, e)) (chain_ranged known ch r g), ranged_new last v (suc n) (omega (arith, e, length-append known (r ∷ []))) (names_wider last (length (known ++ (r ∷ rs))) (length ((known ++ (r ∷ [])) ++ rs)) (omega (arith, length-append known (r ∷ rs), length-append (known ++ (r ∷ [])) rs, length-append known (r ∷ []))) h))

-- a lean refutation names earlier clauses alone, and has a chain
pub lean_ranged : (clauses : List (List Lit)) (log : List Chain) (n : ℕ) → n ≡ length clauses → Lean clauses log → Ranged n log
lean_ranged clauses log n e l = subst (Ranged n) (sym l.parts) (ranged_new l.last l.new n e (chain_ranged (clauses ++ l.results) l.last [] l.empty))

pub lean_some : (clauses : List (List Lit)) (log : List Chain) → Lean clauses log → 0 < length log
lean_some clauses log l = omega (arith, ap length l.parts, length-append l.front (l.last ∷ []))

-- Closing.

used_more : (f g : ℕ → Bool) (ps : List (ℕ × ℕ)) → ((j : ℕ) → f j ≡ true → g j ≡ true) → Used f ps → Used g ps
used_more f g [] h u = tt
used_more f g (p ∷ ps) h u = (h p.1 u.0, used_more f g ps h u.1)

pub closes_more : (f g : ℕ → Bool) (n : ℕ) (chs : List Chain) → ((j : ℕ) → f j ≡ true → g j ≡ true) → ((j : ℕ) → n ≤ j → g j ≡ f j) → Closes f n chs → Closes g n chs
closes_more f g n [] h k c = tt
closes_more f g n (ch ∷ chs) h k c =
    ((λ y. let u = c.0 (sym (k n (omega arith)) ∙ y) in (h ch.first u.0, used_more f g ch.pairs h u.1)), closes_more f g (suc n) chs h (λ j le. k j (omega (arith, le))) c.1)

-- one chain more, from the back
pub closes_step : (m : List Bool) (n k : ℕ) (chs : List Chain) (ch : Chain) → k < length chs → ch ≡ get_or chs k ch → NamesBelow (n + k) ch → NamesBelow (length m) ch → Closes (need_in m) (n + suc k) (drop (suc k) chs) → Closes (need_in (mark_chain ch m)) (n + k) (drop k chs)
closes_step m n k chs ch lt e low below c =
    rw (drop-cons chs k ch lt) (rw (← e) ((λ y. chain_named ch m below), closes_more (need_in m) (need_in (mark_chain ch m)) (suc (n + k)) (drop (suc k) chs) (chain_keeps ch m) (λ j le. chain_other ch m (n + k) j low (omega (arith, le))) (subst (λ z. Closes (need_in m) z (drop (suc k) chs)) (omega arith) c)))

some_at : (chs : List Chain) (k : ℕ) → k < length chs → Chain × Unit {0}
some_at [] k lt = absurd (omega (arith, lt))
some_at (ch ∷ chs) k lt = (ch, tt)

pub closes_pass : (m : List Bool) (n k : ℕ) (chs : List Chain) → k < length chs → need_in m (n + k) ≡ false → Closes (need_in m) (n + suc k) (drop (suc k) chs) → Closes (need_in m) (n + k) (drop k chs)
closes_pass m n k chs lt no' c =
    let (ch, g) = some_at chs k lt in
    rw (drop-cons chs k ch lt) ((λ y. absurd (both_ways (need_in m (n + k)) no' y)), subst (λ z. Closes (need_in m) z (drop (suc k) chs)) (omega arith) c)

pub mark_read : (m : List Bool) (i : ℕ) (b : Bool) → i < length m → b ≡ get_or m i b → need_in m i ≡ b
mark_read [] i b lt e = absurd (omega (arith, lt))
mark_read (x ∷ m) zero b lt e = sym e
mark_read (x ∷ m) (suc i) b lt e = mark_read m i b (omega (arith, lt)) e

-- The cut, chain by chain: the log so far, and what is still to come of it.
module _ (need : ℕ → Bool) (log : List Chain) (n m k m2 k2 : ℕ) (chs : List Chain) (ch : Chain) (lt : k < length chs) (e : ch ≡ get_or chs k ch) (em : m2 ≡ m + 1) (ek : k2 ≡ k + 1) (so_far : log ++ cut_from need m (drop k chs) ≡ cut_from need n chs) where
  abbrev later : List Chain
  later = cut_from need m2 (drop k2 chs)

  cut_here : cut_from need m (drop k chs) ≡ cond (need m) (renamed (rank need) ch ∷ later) later
  cut_here =
      let up : suc m ≡ m2 = omega (arith, em) in
      let on : suc k ≡ k2 = omega (arith, ek) in
      ap (cut_from need m) (drop-cons chs k ch lt)
      ∙ ap (λ c. cond (need m) (renamed (rank need) c ∷ cut_from need (suc m) (drop (suc k) chs)) (cut_from need (suc m) (drop (suc k) chs))) (sym e)
      ∙ ap (λ j. cond (need m) (renamed (rank need) ch ∷ cut_from need j (drop (suc k) chs)) (cut_from need j (drop (suc k) chs))) up
      ∙ ap (λ j. cond (need m) (renamed (rank need) ch ∷ cut_from need m2 (drop j chs)) (cut_from need m2 (drop j chs))) on

  pub cut_kept : (r : Chain) → need m ≡ true → r ≡ renamed (rank need) ch → (log ++ (r ∷ [])) ++ later ≡ cut_from need n chs
  cut_kept r y q = append_assoc log (r ∷ []) later ∙ ap (λ w. log ++ w) (ap (λ c. c ∷ later) q ∙ sym (cut_here ∙ ap (λ b. cond b (renamed (rank need) ch ∷ later) later) y)) ∙ so_far

  pub cut_left_out : need m ≡ false → log ++ later ≡ cut_from need n chs
  cut_left_out no' = ap (λ w. log ++ w) (sym (cut_here ∙ ap (λ b. cond b (renamed (rank need) ch ∷ later) later) no')) ∙ so_far

-- one more mark at the end
pub given_push : (n : ℕ) (m : List Bool) (b : Bool) → n ≤ length m → GivenNeeded n m → GivenNeeded n (m ++ (b ∷ []))
given_push n m b le g k lt = let q : k < length m = omega (arith, lt, le) in get_or_append_left m (b ∷ []) false k q ∙ g k lt

pub marked_last : (m : List Bool) (k : ℕ) → k ≡ length m → need_in (m ++ (true ∷ [])) k ≡ true
marked_last m k e = subst (λ j. need_in (m ++ (true ∷ [])) j ≡ true) (sym e) (get_or-append_seam m true [] false)

pub given_grown : (n : ℕ) (m w : List Bool) → ((k : ℕ) → need_in m k ≡ true → need_in w k ≡ true) → GivenNeeded n m → GivenNeeded n w
given_grown n m w h g k lt = h k (g k lt)

pub grown_chain : (m w : List Bool) (ch : Chain) → ((k : ℕ) → need_in m k ≡ true → need_in w k ≡ true) → (k : ℕ) → need_in m k ≡ true → need_in (mark_chain ch w) k ≡ true
grown_chain m w ch h k y = chain_keeps ch w k (h k y)

-- Ranks.

pub ranks_push : (f : ℕ → Bool) (xs : List ℕ) (n : ℕ) → AreRanks f xs → n ≡ rank f (length xs) → AreRanks f (xs ++ (n ∷ []))
ranks_push f xs n r e k lt = elim (cases_lt k (length xs)) [
  | inl a ↦ get_or_append_left xs (n ∷ []) 0 k a ∙ r k a
  | inr b ↦ let q : k ≡ length xs = omega (arith, b, lt, length-append xs (n ∷ [])) in subst (λ j. get_or (xs ++ (n ∷ [])) j 0 ≡ rank f j) (sym q) (get_or-append_seam xs n [] 0 ∙ e)
]

pub rank_next : (f : ℕ → Bool) (k : ℕ) (b : Bool) → f k ≡ b → rank f (suc k) ≡ rank f k + cond b 1 0
rank_next f k b e = rw e refl

pub rank_within : (f : ℕ → Bool) (k : ℕ) → rank f k ≤ k
rank_within f zero = omega arith
rank_within f (suc k) = let ih = rank_within f k in elim (f k) as (λ b. rank f k + cond b 1 0 ≤ suc k) [ true ↦ omega (arith, ih) | false ↦ omega (arith, ih) ]

pub rank_read : (f : ℕ → Bool) (numbers : List ℕ) (n k x : ℕ) → length numbers ≡ n → AreRanks f numbers → k < n → x ≡ get_or numbers k x → x ≡ rank f k
rank_read f numbers n k x e r lt g = let q : k < length numbers = omega (arith, lt, e) in g ∙ get_or_default_zero numbers k x q ∙ r k q

pub rank_fits : (f : ℕ → Bool) (k x : ℕ) → x ≡ rank f k → Fits w32 k → Fits w32 x
rank_fits f k x e h = let w : x ≤ k = subst (λ y. y ≤ k) (sym e) (rank_within f k) in omega (arith, w, h)

pub renamed_pair : (f : ℕ → Bool) (so_far : List (ℕ × ℕ)) (p : ℕ × ℕ) (ps all : List (ℕ × ℕ)) → so_far ++ anew (rank f) (p ∷ ps) ≡ all → (so_far ++ ((p.0, rank f p.1) ∷ [])) ++ anew (rank f) ps ≡ all
renamed_pair f so_far p ps all e = append_assoc so_far ((p.0, rank f p.1) ∷ []) (anew (rank f) ps) ∙ e

-- The cut.

pub cut_needed : (f : ℕ → Bool) (n : ℕ) (so_far : List Chain) (ch : Chain) (chs all : List Chain) → f n ≡ true → so_far ++ cut_from f n (ch ∷ chs) ≡ all → (so_far ++ (renamed (rank f) ch ∷ [])) ++ cut_from f (suc n) chs ≡ all
cut_needed f n so_far ch chs all y e = append_assoc so_far (renamed (rank f) ch ∷ []) (cut_from f (suc n) chs) ∙ (let q : cut_from f n (ch ∷ chs) ≡ renamed (rank f) ch ∷ cut_from f (suc n) chs = rw y refl in ap (λ w. so_far ++ w) (sym q) ∙ e)

pub cut_passed : (f : ℕ → Bool) (n : ℕ) (so_far : List Chain) (ch : Chain) (chs all : List Chain) → f n ≡ false → so_far ++ cut_from f n (ch ∷ chs) ≡ all → so_far ++ cut_from f (suc n) chs ≡ all
cut_passed f n so_far ch chs all y e = let q : cut_from f n (ch ∷ chs) ≡ cut_from f (suc n) chs = rw y refl in ap (λ w. so_far ++ w) (sym q) ∙ e

pub kept_cut : (f : ℕ → Bool) (n : ℕ) (chs : List Chain) → Closes f n chs → Kept f n chs (cut_from f n chs)
kept_cut f n [] c = kept_none
kept_cut f n (ch ∷ chs) c = elim (f n) as (λ b. f n ≡ b → Kept f n (ch ∷ chs) (cond b (renamed (rank f) ch ∷ cut_from f (suc n) chs) (cut_from f (suc n) chs))) [
  | true ↦ λ y. let u = c.0 y in kept_one y (record { first = refl; pairs = refl; first_used = u.0; used = u.1 }) (kept_cut f (suc n) chs c.1)
  | false ↦ λ y. kept_not y (kept_cut f (suc n) chs c.1)
] refl

-- the places of a list's end
closes_last : (f : ℕ → Bool) (n : ℕ) (front : List Chain) (last : Chain) → Closes f n (front ++ (last ∷ [])) → Closes f n front × (f (n + length front) ≡ true → Names f last)
closes_last f n [] last c = (tt, λ y. c.0 (subst (λ k. f k ≡ true) (omega arith) y))
closes_last f n (ch ∷ front) last c =
    let (a, b) = closes_last f (suc n) front last c.1 in
    ((c.0, a), λ y. b (subst (λ k. f k ≡ true) (omega arith) y))

cut_last : (f : ℕ → Bool) (n : ℕ) (front : List Chain) (last : Chain) → f (n + length front) ≡ true → cut_from f n (front ++ (last ∷ [])) ≡ cut_from f n front ++ (renamed (rank f) last ∷ [])
cut_last f n [] last y = let e : f n ≡ true = subst (λ k. f k ≡ true) (omega arith) y in rw e refl
cut_last f n (ch ∷ front) last y =
    let ih = cut_last f (suc n) front last (subst (λ k. f k ≡ true) (omega arith) y) in
    elim (f n) as (λ b. cond b (renamed (rank f) ch ∷ cut_from f (suc n) (front ++ (last ∷ []))) (cut_from f (suc n) (front ++ (last ∷ []))) ≡ cond b (renamed (rank f) ch ∷ cut_from f (suc n) front) (cut_from f (suc n) front) ++ (renamed (rank f) last ∷ [])) [
      | true ↦ ap (λ w. renamed (rank f) ch ∷ w) ih
      | false ↦ ih
    ]

cut_length : (f : ℕ → Bool) (n : ℕ) (chs : List Chain) → length (cut_from f n chs) ≤ length chs
cut_length f n [] = omega arith
cut_length f n (ch ∷ chs) = let ih = cut_length f (suc n) chs in elim (f n) as (λ b. length (cond b (renamed (rank f) ch ∷ cut_from f (suc n) chs) (cut_from f (suc n) chs)) ≤ suc (length chs)) [ true ↦ omega (arith, ih) | false ↦ omega (arith, ih) ]

-- a lean refutation cut to its cone is lean
pub cone_lean : (m : List Bool) (clauses : List (List Lit)) (log r : List Chain) (base : ℕ) → base ≡ length clauses → Lean clauses log → GivenNeeded base m → Closes (need_in m) base log → ((k : ℕ) → k + 1 ≡ base + length log → need_in m k ≡ true) → r ≡ cut_from (need_in m) base log → IsRefuted clauses (length log) r
cone_lean m clauses log r base e l given closes last is =
    let need : ℕ → Bool = need_in m in
    let c : Closes need base (l.front ++ (l.last ∷ [])) = subst (Closes need base) l.parts closes in
    let (a, b) = closes_last need base l.front l.last c in
    let y : need (base + length l.front) ≡ true = last (base + length l.front) (omega (arith, ap length l.parts, length-append l.front (l.last ∷ []))) in
    let u = b y in
    let w : Anew need l.last (renamed (rank need) l.last) = record { first = refl; pairs = refl; first_used = u.0; used = u.1 } in
    let k : Kept need (length clauses) l.front (cut_from need base l.front) = subst (λ n. Kept need n l.front (cut_from need base l.front)) e (kept_cut need base l.front a) in
    let g : (j : ℕ) → j < length clauses → need j ≡ true = λ j lt. given j (omega (arith, lt, e)) in
    let all : r ≡ cut_from need base l.front ++ (renamed (rank need) l.last ∷ []) = is ∙ ap (cut_from need base) l.parts ∙ cut_last need base l.front l.last y in
    (subst (Lean clauses) (sym all) (cut_lean need clauses l.results l.front (cut_from need base l.front) l.last (renamed (rank need) l.last) g l.new l.empty l.differ k w), subst (λ x. length x ≤ length log) (sym is) (cut_length need base log))

pub cone_answer : {E : Type 0} (m : List Bool) (clauses : List (List Lit)) (log chains : List Chain) (base : ℕ) (o : Result (List Chain) E) → chains ≡ log → base ≡ length clauses → Lean clauses log → GivenNeeded base m → Closes (need_in m) base chains → ((k : ℕ) → k + 1 ≡ base + length chains → need_in m k ≡ true) → IfOk o (λ r. r ≡ cut_from (need_in m) base chains) → IfOk o (IsRefuted clauses (length log))
cone_answer m clauses log chains base (Err e) is b l g c last h = tt
cone_answer m clauses log chains base (Ok r) is b l g c last h =
    cone_lean m clauses log r base b l g (subst (Closes (need_in m) base) is c) (subst (λ (w : List Chain). (k : ℕ) → k + 1 ≡ base + length w → need_in m k ≡ true) is last) (h ∙ ap (cut_from (need_in m) base) is)
