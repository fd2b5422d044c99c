-- Folding keeps what definitions say, where they may look, and their size.
use Rattle.std.proofs.Common.{◌≡◌, ℕ, ◌+◌, ◌-◌, ◌≤◌, ◌<◌, length, List, [], ◌∷◌, ◌++◌, map, arith, ap, sym, ◌∙◌, refl, suc, zero, Bool, true, false, not, cond, subst, ltb, ◌⊎◌, inl, inr, length-append}
use Rattle.std.proofs.lemmas.Bool.{lt-ltb, le-ltb, ltb-true, ltb-false}
use Rattle.prop.specs.declared.Lit.{Lit}
use Rattle.prop.specs.Logic.{negated, lit_value}
use Rattle.bit_gates.specs.declared.netlist.Def.{Def}
use Rattle.bit_gates.specs.declared.netlist.Def.TheVariants.{And, Xor, Select, Sum, Carry, Same, Fixed}
use Rattle.bit_gates.specs.Net.{Meets, Grounded, DefBelow, Agree, def_value}
use Rattle.bit_gates.specs.Products.{Made}
use Rattle.bit_gates.proofs.Nets.{value-negated, meets-append, def-agree}
use Rattle.bit_gates.proofs.Within.{Fits, LitsOk, DefOk, NetOk, chosen, ok-more, lits-more, lits-append, net_ok-append}
use Rattle.bit_gates.proofs.Exacts.{fits_below, grounded_ok}
use Rattle.bit_gates.proofs.Weights.{weight, weights, weights-append, net-count}
use Rattle.bit_words.specs.Folds.{def_in}
use Rattle.bit_words.specs.Folding.{standing, renamed, renamed_def, folded, folded_made}
use Rattle.bit_words.specs.Laws.{FoldingTold, FoldingGrounded, FoldingSmall}
use Rattle.bit_words.proofs.FoldLaws.{Among, DefAmong, NetAmong, ins_of, def_ok}

-- the assignment of the first variables that new ones make
abbrev pub seen : (ℕ → Bool) → ℕ → List Lit → ℕ → Bool
seen v base subs k = cond (ltb k base) (v k) (lit_value v (standing subs (k - base)))

pub renamed-value : (v : ℕ → Bool) (base : ℕ) (subs : List Lit) (l : Lit) → lit_value v (renamed base subs l) ≡ lit_value (seen v base subs) l
renamed-value v base subs l = by (ltb l.var base) l.positive
  where
    s : Lit
    s = standing subs (l.var - base)

    by : (t p : Bool) → lit_value v (cond t (record { var = l.var; positive = p }) (cond p s (negated s)))
        ≡ cond p (cond t (v l.var) (lit_value v s)) (not (cond t (v l.var) (lit_value v s)))
    by true true = refl
    by true false = refl
    by false true = refl
    by false false = value-negated v s

def-seen : (v : ℕ → Bool) (base : ℕ) (subs : List Lit) (d : Def) → def_value v (renamed_def base subs d) ≡ def_value (seen v base subs) d
def-seen v base subs (And a b) = rw (renamed-value v base subs a, renamed-value v base subs b) refl
def-seen v base subs (Xor a b) = rw (renamed-value v base subs a, renamed-value v base subs b) refl
def-seen v base subs (Select c a b) = rw (renamed-value v base subs c, renamed-value v base subs a, renamed-value v base subs b) refl
def-seen v base subs (Sum a b c) = rw (renamed-value v base subs a, renamed-value v base subs b, renamed-value v base subs c) refl
def-seen v base subs (Carry a b c) = rw (renamed-value v base subs a, renamed-value v base subs b, renamed-value v base subs c) refl
def-seen v base subs (Same e a b) = rw (renamed-value v base subs e, renamed-value v base subs a, renamed-value v base subs b) refl
def-seen v base subs (Fixed b) = refl

standing-first : (xs ys : List Lit) (k : ℕ) → k < length xs → standing (xs ++ ys) k ≡ standing xs k
standing-first [] ys k lt = absurd (omega arith)
standing-first (x ∷ xs) ys zero lt = refl
standing-first (x ∷ xs) ys (suc k) lt = standing-first xs ys k (omega arith)

standing-last : (xs : List Lit) (l : Lit) (ys : List Lit) → standing (xs ++ l ∷ ys) (length xs) ≡ l
standing-last [] l ys = refl
standing-last (x ∷ xs) l ys = standing-last xs l ys

-- what stands for earlier variables stays
subs-keep : (one : Lit) (base n : ℕ) (subs : List Lit) (ds : List Def) (k : ℕ) → k < length subs
    → standing (folded one base n subs ds).subs k ≡ standing subs k
subs-keep one base n subs [] k lt = refl
subs-keep one base n subs (d ∷ ds) k lt =
    let f = def_in one n (renamed_def base subs d) in
    let l : length (subs ++ f.out ∷ []) ≡ length subs + 1 = length-append subs (f.out ∷ []) in
    subs-keep one base (n + length f.defs) (subs ++ f.out ∷ []) ds k (omega (arith, l)) ∙ standing-first subs (f.out ∷ []) k lt

seen-agree : (v : ℕ → Bool) (base m : ℕ) (subs more : List Lit) → m ≡ base + length subs
    → ((k : ℕ) → k < length subs → standing more k ≡ standing subs k) → Agree m (seen v base subs) (seen v base more)
seen-agree v base m subs more e f k lt =
    chosen {A = Bool} (ltb k base) (v k) (lit_value v (standing more (k - base)))
    (λ b. b ≡ cond (ltb k base) (v k) (lit_value v (standing subs (k - base))))
    (λ t. rw t refl)
    (λ t. let ge : base ≤ k = omega (arith, ltb-false k base t) in
    ap (lit_value v) (f (k - base) (omega arith)) ∙ sym (ap (λ (b : Bool). cond b (v k) (lit_value v (standing subs (k - base)))) t))

told-net : (v : ℕ → Bool) (one : Lit) (base : ℕ) → lit_value v one ≡ true → (n m : ℕ) (subs : List Lit) (ds : List Def)
    → m ≡ base + length subs → Grounded m ds → Meets v n (folded one base n subs ds).defs
    → Meets (seen v base (folded one base n subs ds).subs) m ds
told-net v one base h n m subs [] e g x = tt
told-net v one base h n m subs (d ∷ ds) e g x =
    let c = renamed_def base subs d in
    let f = def_in one n c in
    let k = n + length f.defs in
    let next = subs ++ f.out ∷ [] in
    let r = folded one base k next ds in
    let p = meets-append v n f.defs r.defs x in
    let o : lit_value v f.out ≡ def_value v c = (def_ok one n c).told v h p.0 in
    let l : length next ≡ length subs + 1 = length-append subs (f.out ∷ []) in
    let st : standing r.subs (length subs) ≡ f.out = subs-keep one base k next ds (length subs) (omega (arith, l)) ∙ standing-last subs f.out [] in
    let i : m - base ≡ length subs = omega (arith, e) in
    let t : ltb m base ≡ false = le-ltb m base (omega (arith, e)) in
    let e1 : seen v base r.subs m ≡ lit_value v f.out = rw (t, i, st) refl in
    let ag = seen-agree v base m subs r.subs e (λ j lt. subs-keep one base n subs (d ∷ ds) j lt) in
    let first : seen v base r.subs m ≡ def_value (seen v base r.subs) d
    = e1 ∙ (o ∙ (def-seen v base subs d ∙ sym (def-agree m (seen v base subs) (seen v base r.subs) d ag g.0))) in
    (first, told-net v one base h k (suc m) next ds (omega (arith, e, l)) g.1 p.1)

pub folding_told : FoldingTold
folding_told v one n m h g x =
    let s = (folded one n n [] m.defs).subs in
    let e : n ≡ n + 0 = omega arith in (
      seen v n s,
      λ k lt. ap (λ (b : Bool). cond b (v k) (lit_value v (standing s (k - n)))) (lt-ltb k n lt),
      told-net v one n h n n [] m.defs e g x,
      λ l. renamed-value v n s l,
    )

weight-renamed : (base : ℕ) (subs : List Lit) (d : Def) → weight (renamed_def base subs d) ≡ weight d
weight-renamed base subs (And a b) = refl
weight-renamed base subs (Xor a b) = refl
weight-renamed base subs (Select c a b) = refl
weight-renamed base subs (Sum a b c) = refl
weight-renamed base subs (Carry a b c) = refl
weight-renamed base subs (Same e a b) = refl
weight-renamed base subs (Fixed b) = refl

pub folded-weights : (one : Lit) (base n : ℕ) (subs : List Lit) (ds : List Def) → weights (folded one base n subs ds).defs ≤ weights ds
folded-weights one base n subs [] = omega arith
folded-weights one base n subs (d ∷ ds) =
    let c = renamed_def base subs d in
    let f = def_in one n c in
    let r = folded one base (n + length f.defs) (subs ++ f.out ∷ []) ds in
    let i : weights r.defs ≤ weights ds = folded-weights one base (n + length f.defs) (subs ++ f.out ∷ []) ds in
    let k : weights f.defs ≤ weight c = (def_ok one n c).few in
    omega (arith, i, k, weight-renamed base subs d, weights-append f.defs r.defs)

pub folding_small : FoldingSmall
folding_small one n m =
    omega (arith, folded-weights one n n [] m.defs, net-count n (folded_made one n m).defs, net-count n m.defs)

pub folded-length : (one : Lit) (base n : ℕ) (subs : List Lit) (ds : List Def) → length (folded one base n subs ds).subs ≡ length subs + length ds
folded-length one base n subs [] = omega arith
folded-length one base n subs (d ∷ ds) =
    let f = def_in one n (renamed_def base subs d) in
    let l : length (subs ++ f.out ∷ []) ≡ length subs + 1 = length-append subs (f.out ∷ []) in
    omega (arith, l, folded-length one base (n + length f.defs) (subs ++ f.out ∷ []) ds)

-- what a definition of the variable i may speak of before folding: inputs that may be spoken of at the start, and earlier
-- definitions
abbrev pub Inside : (ℕ → ℕ → Type 0) → ℕ → ℕ → ℕ → ℕ → Type 0
Inside P base start i k = (k < base → P start k) × (k < i)

pub fits_inside : (P : ℕ → ℕ → Type 0) (base start : ℕ) → Fits (Inside P base start) base
fits_inside P base start = record {
  later = λ i k le h. (h.0, omega (arith, h.1));
  fresh = λ i le. (λ lt. absurd (omega (arith, lt, le)), omega arith);
}

standing-ok : (P : ℕ → ℕ → Type 0) (n k : ℕ) (ls : List Lit) → k < length ls → LitsOk P n ls → P n (standing ls k).var
standing-ok P n k [] lt h = absurd (omega arith)
standing-ok P n zero (l ∷ ls) lt h = h.0
standing-ok P n (suc k) (l ∷ ls) lt h = standing-ok P n k ls (omega arith) h.1

renamed-ok : (P : ℕ → ℕ → Type 0) (lo : ℕ) → Fits P lo → (base start n m : ℕ) (subs : List Lit) (l : Lit) → lo ≤ start → start ≤ n
    → m ≡ base + length subs → LitsOk P n subs → Inside P base start m l.var → P n (renamed base subs l).var
renamed-ok P lo f base start n m subs l le ge e h i =
    let s = standing subs (l.var - base) in
    chosen {A = Lit} (ltb l.var base) l (cond l.positive s (negated s)) (λ (t : Lit). P n t.var)
    (λ t. ok-more P lo f start n l.var le ge (i.0 (ltb-true l.var base t)))
    (λ t.
    let b : base ≤ l.var = ltb-false l.var base t in
    let st : P n s.var = standing-ok P n (l.var - base) subs (omega (arith, e, i.1, b)) h in
    chosen {A = Lit} l.positive s (negated s) (λ (t : Lit). P n t.var) (λ p. st) (λ p. st))

ins-ok : (P : ℕ → ℕ → Type 0) (lo : ℕ) → Fits P lo → (base start n m : ℕ) (subs : List Lit) (d : Def) → lo ≤ start → start ≤ n
    → m ≡ base + length subs → LitsOk P n subs → DefOk (Inside P base start) m d → LitsOk P n (ins_of (renamed_def base subs d))
ins-ok P lo f base start n m subs (And a b) le ge e h i =
    (renamed-ok P lo f base start n m subs a le ge e h i.0, (renamed-ok P lo f base start n m subs b le ge e h i.1, tt))
ins-ok P lo f base start n m subs (Xor a b) le ge e h i =
    (renamed-ok P lo f base start n m subs a le ge e h i.0, (renamed-ok P lo f base start n m subs b le ge e h i.1, tt))
ins-ok P lo f base start n m subs (Select c a b) le ge e h i = (
  renamed-ok P lo f base start n m subs c le ge e h i.0,
  (renamed-ok P lo f base start n m subs a le ge e h i.1, (renamed-ok P lo f base start n m subs b le ge e h i.2, tt)),
)
ins-ok P lo f base start n m subs (Sum c a b) le ge e h i = (
  renamed-ok P lo f base start n m subs c le ge e h i.0,
  (renamed-ok P lo f base start n m subs a le ge e h i.1, (renamed-ok P lo f base start n m subs b le ge e h i.2, tt)),
)
ins-ok P lo f base start n m subs (Carry c a b) le ge e h i = (
  renamed-ok P lo f base start n m subs c le ge e h i.0,
  (renamed-ok P lo f base start n m subs a le ge e h i.1, (renamed-ok P lo f base start n m subs b le ge e h i.2, tt)),
)
ins-ok P lo f base start n m subs (Same c a b) le ge e h i = (
  renamed-ok P lo f base start n m subs c le ge e h i.0,
  (renamed-ok P lo f base start n m subs a le ge e h i.1, (renamed-ok P lo f base start n m subs b le ge e h i.2, tt)),
)
ins-ok P lo f base start n m subs (Fixed b) le ge e h i = tt

among-ok : (P : ℕ → ℕ → Type 0) (n : ℕ) (ls : List Lit) (k : ℕ) → LitsOk P n ls → Among ls k → P n k
among-ok P n [] k h i = absurd i
among-ok P n (l ∷ ls) k h (inl e) = subst (λ (t : ℕ). P n t) (sym e) h.0
among-ok P n (l ∷ ls) k h (inr i) = among-ok P n ls k h.1 i

def_among-ok : (P : ℕ → ℕ → Type 0) (n : ℕ) (ls : List Lit) (d : Def) → LitsOk P n ls → DefAmong ls d → DefOk P n d
def_among-ok P n ls (And a b) h i = (among-ok P n ls a.var h i.0, among-ok P n ls b.var h i.1)
def_among-ok P n ls (Xor a b) h i = (among-ok P n ls a.var h i.0, among-ok P n ls b.var h i.1)
def_among-ok P n ls (Select c a b) h i = (among-ok P n ls c.var h i.0, among-ok P n ls a.var h i.1, among-ok P n ls b.var h i.2)
def_among-ok P n ls (Sum a b c) h i = (among-ok P n ls a.var h i.0, among-ok P n ls b.var h i.1, among-ok P n ls c.var h i.2)
def_among-ok P n ls (Carry a b c) h i = (among-ok P n ls a.var h i.0, among-ok P n ls b.var h i.1, among-ok P n ls c.var h i.2)
def_among-ok P n ls (Same e a b) h i = (among-ok P n ls e.var h i.0, among-ok P n ls a.var h i.1, among-ok P n ls b.var h i.2)
def_among-ok P n ls (Fixed b) h i = tt

net_among-ok : (P : ℕ → ℕ → Type 0) (n : ℕ) (ls : List Lit) (ds : List Def) → length ds ≤ 1 → LitsOk P n ls → NetAmong ls ds → NetOk P n ds
net_among-ok P n ls [] le h i = tt
net_among-ok P n ls (d ∷ []) le h i = (def_among-ok P n ls d h i.0, tt)
net_among-ok P n ls (d ∷ c ∷ ds) le h i = absurd (omega arith)

out-ok : (P : ℕ → ℕ → Type 0) (lo n j k : ℕ) (ls : List Lit) → Fits P lo → lo ≤ n → LitsOk P n ls
    → Among ls k ⊎ ((k ≡ n) × (j ≡ 1)) → P (n + j) k
out-ok P lo n j k ls f le h (inl i) = ok-more P lo f n (n + j) k le (omega arith) (among-ok P n ls k h i)
out-ok P lo n j k ls f le h (inr e) =
    let s : suc n ≡ n + j = omega (arith, e.1) in
    subst (λ (t : ℕ). P t k) s (subst (λ (t : ℕ). P (suc n) t) (sym e.0) (f.fresh n le))

pub folded-ok : (P : ℕ → ℕ → Type 0) (lo : ℕ) → Fits P lo → (one : Lit) (base start n m : ℕ) (subs : List Lit) (ds : List Def)
    → lo ≤ start → start ≤ n → P n one.var → m ≡ base + length subs → LitsOk P n subs → NetOk (Inside P base start) m ds
    → NetOk P n (folded one base n subs ds).defs
    × LitsOk P (n + length (folded one base n subs ds).defs) (folded one base n subs ds).subs
folded-ok P lo f one base start n m subs [] le ge o e h i = (tt, lits-more P lo f n (n + 0) subs (omega (arith, le, ge)) (omega arith) h)
folded-ok P lo f one base start n m subs (d ∷ ds) le ge o e h i =
    let c = renamed_def base subs d in
    let q = def_in one n c in
    let k = n + length q.defs in
    let next = subs ++ q.out ∷ [] in
    let r = folded one base k next ds in
    let ok = def_ok one n c in
    let all : LitsOk P n (one ∷ ins_of c) = (o, ins-ok P lo f base start n m subs d le ge e h i.0) in
    let l : length next ≡ length subs + 1 = length-append subs (q.out ∷ []) in
    let ln : lo ≤ n = omega (arith, le, ge) in
    let nk : n ≤ k = omega arith in
    let here : NetOk P n q.defs = net_among-ok P n (one ∷ ins_of c) q.defs ok.short all ok.among in
    let out : P k q.out.var = out-ok P lo n (length q.defs) q.out.var (one ∷ ins_of c) f ln all ok.out in
    let subs2 : LitsOk P k next = lits-append P k subs (q.out ∷ []) (lits-more P lo f n k subs ln nk h) (out, tt) in
    let rest = folded-ok P lo f one base start k (suc m) next ds le (omega (arith, ge, nk)) (ok-more P lo f n k one.var ln nk o) (omega (arith, e, l)) subs2 i.1 in
    let same : k + length r.defs ≡ n + length (q.defs ++ r.defs) = omega (arith, length-append q.defs r.defs) in
    (net_ok-append P n q.defs r.defs here rest.0, subst (λ (t : ℕ). LitsOk P t r.subs) same rest.1)

outs-ok : (P : ℕ → ℕ → Type 0) (lo : ℕ) → Fits P lo → (base start n m : ℕ) (subs ls : List Lit) → lo ≤ start → start ≤ n
    → m ≡ base + length subs → LitsOk P n subs → LitsOk (Inside P base start) m ls → LitsOk P n (map (renamed base subs) ls)
outs-ok P lo f base start n m subs [] le ge e h i = tt
outs-ok P lo f base start n m subs (l ∷ ls) le ge e h i =
    (renamed-ok P lo f base start n m subs l le ge e h i.0, outs-ok P lo f base start n m subs ls le ge e h i.1)

-- what is made and folded speaks of what the first may speak of
pub folded_made-ok : (P : ℕ → ℕ → Type 0) (lo : ℕ) → Fits P lo → (one : Lit) (n : ℕ) (m : Made) → lo ≤ n → P n one.var
    → NetOk (Inside P n n) n m.defs → LitsOk (Inside P n n) (n + length m.defs) m.outs
    → NetOk P n (folded_made one n m).defs × LitsOk P (n + length (folded_made one n m).defs) (folded_made one n m).outs
folded_made-ok P lo f one n m le o i j =
    let q = folded one n n [] m.defs in
    let e : n ≡ n + 0 = omega arith in
    let a = folded-ok P lo f one n n n n [] m.defs le (omega arith) o e tt i in
    let l : length q.subs ≡ 0 + length m.defs = folded-length one n n [] m.defs in
    let k = n + length q.defs in
    (a.0, outs-ok P lo f n n k (n + length m.defs) q.subs m.outs le (omega arith) (omega (arith, l)) a.1 j)

grounded-inside : (base i : ℕ) (ds : List Def) → Grounded i ds → NetOk (Inside (λ n k. k < n) base base) i ds
grounded-inside base i [] g = tt
grounded-inside base i (d ∷ ds) g = (one i d g.0, grounded-inside base (suc i) ds g.1)
  where
    at : (i k : ℕ) → k < i → Inside (λ n k. k < n) base base i k
    at i k lt = (λ l. l, lt)

    one : (i : ℕ) (d : Def) → DefBelow i d → DefOk (Inside (λ n k. k < n) base base) i d
    one i (And a b) h = (at i a.var h.0, at i b.var h.1)
    one i (Xor a b) h = (at i a.var h.0, at i b.var h.1)
    one i (Select c a b) h = (at i c.var h.0, at i a.var h.1, at i b.var h.2)
    one i (Sum c a b) h = (at i c.var h.0, at i a.var h.1, at i b.var h.2)
    one i (Carry c a b) h = (at i c.var h.0, at i a.var h.1, at i b.var h.2)
    one i (Same c a b) h = (at i c.var h.0, at i a.var h.1, at i b.var h.2)
    one i (Fixed b) h = tt

pub folding_grounded : FoldingGrounded
folding_grounded one n m o g =
    let e : n ≡ n + 0 = omega arith in
    grounded_ok n (folded_made one n m).defs
    (folded-ok (λ n k. k < n) n (fits_below n) one n n n n [] m.defs (omega arith) (omega arith) o e tt (grounded-inside n n m.defs g)).0
