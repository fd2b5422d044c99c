-- The laws of cut formulas.
use Rattle.std.proofs.Common.{◌≡◌, ℕ, ◌≤◌, Bool, true, false, ◌&&◌, ◌||◌, List, [], ◌∷◌, ◌++◌, Some, slice_get, slice_index_or, nat_eq, zero, suc, inl, inr, refl, sym, ap, ◌∙◌, subst, arith, append_assoc, append-nil, length}
use Rattle.std.proofs.lemmas.Bool.{or_cases, or_left, or_right, eq-eqb}
use Rattle.prop.specs.declared.Lit.{Lit}
use Rattle.prop.specs.Logic.{lit_value}
use Rattle.prop.specs.Steps.{Has}
use Rattle.prop.specs.Trues.{listed}
use Rattle.prop.proofs.Sets.{Has-cons}
use Rattle.resolution_log.specs.declared.Chain.{Chain}
use Rattle.resolution_log.specs.Chains.{chain_from, chain_result, results_of}
use Rattle.resolution_log.specs.Codes.{vars_of, all_vars}
use Rattle.resolution_log.proofs.Results.{then_parts, step_parts, results_parts}
use Rattle.interpolants.specs.Rules.{is_behind, some_holds, leaves, joined, steps_truth, chain_truth, truths_after, truths, last_of}
use Rattle.interpolants.specs.Laws.{Between, StepsLead, CutsLead, FirstIsTrue, LastIsFalse}
use Rattle.interpolants.proofs.Alike.{listed-left, listed-right}
use Rattle.interpolants.proofs.Leading.{AllLead, lead-get, lead-last, lead-leaves, lead-log}

-- which variables occur behind a cut
listed-has : (c : List Lit) (l : Lit) → Has c l → listed (vars_of c) l.var ≡ true
listed-has [] l h = absurd cc
listed-has (m ∷ c) l h =
    elim (Has-cons m c l h) [
      | inl e ↦ or_left _ _ (eq-eqb m.var l.var (ap (λ (x : Lit). x.var) e))
      | inr r ↦ or_right _ _ (listed-has c l r)
    ]

occurs-at : (cs : List (List Lit)) (n : ℕ) (c : List Lit) (l : Lit) → slice_get cs n ≡ Some c → Has c l → listed (all_vars cs) l.var ≡ true
occurs-at [] n c l g h = absurd cc
occurs-at (d ∷ cs) zero c l g h =
    let e : d ≡ c = cc in
    listed-left (vars_of d) (all_vars cs) l.var (subst (λ (x : List Lit). listed (vars_of x) l.var ≡ true) (sym e) (listed-has c l h))
occurs-at (d ∷ cs) (suc n) c l g h = listed-right (vars_of d) (all_vars cs) l.var (occurs-at cs n c l g h)

behind-at : (cs : List (List Lit)) (edge n : ℕ) (c : List Lit) (l : Lit) → edge ≤ n → slice_get cs n ≡ Some c → Has c l
    → is_behind cs edge l.var ≡ true
behind-at [] edge n c l le g h = absurd cc
behind-at (d ∷ cs) zero n c l le g h = occurs-at (d ∷ cs) n c l g h
behind-at (d ∷ cs) (suc edge) zero c l le g h = absurd (omega (arith, le))
behind-at (d ∷ cs) (suc edge) (suc n) c l le g h = behind-at cs edge n c l (omega (arith, le)) g h

behind-any : (cs : List (List Lit)) (edge x : ℕ) → is_behind cs edge x ≡ true → listed (all_vars cs) x ≡ true
behind-any [] zero x h = h
behind-any [] (suc edge) x h = h
behind-any (d ∷ cs) zero x h = h
behind-any (d ∷ cs) (suc edge) x h = listed-right (vars_of d) (all_vars cs) x (behind-any cs edge x h)

behind-less : (cs : List (List Lit)) (edge next x : ℕ) → edge ≤ next → is_behind cs next x ≡ true → is_behind cs edge x ≡ true
behind-less [] zero next x le h = behind-any [] next x h
behind-less [] (suc edge) next x le h = behind-any [] next x h
behind-less (d ∷ cs) zero next x le h = behind-any (d ∷ cs) next x h
behind-less (d ∷ cs) (suc edge) zero x le h = absurd (omega (arith, le))
behind-less (d ∷ cs) (suc edge) (suc next) x le h = behind-less cs edge next x (omega (arith, le)) h

all-lead : (clauses rs : List (List Lit)) (log : List Chain) (edge next : ℕ) (v : ℕ → Bool) → edge ≤ next
    → results_of clauses log ≡ Some rs → Between clauses v edge next
    → AllLead (is_behind clauses edge) (is_behind clauses next) v (truths clauses log edge v) (truths clauses log next v) (clauses ++ rs)
all-lead clauses rs log edge next v le h holds =
    lead-log (is_behind clauses edge) (is_behind clauses next) v (leaves (is_behind clauses edge) v edge clauses)
    (leaves (is_behind clauses next) v next clauses) clauses rs log (λ x. behind-less clauses edge next x le)
    (lead-leaves (is_behind clauses edge) (is_behind clauses next) v edge next clauses le (λ n c l p g k. behind-at clauses edge n c l p g k) holds) h

pub steps_lead : StepsLead
steps_lead clauses rs log edge next v n c le h holds g =
    lead-get (is_behind clauses edge) (is_behind clauses next) v (truths clauses log edge v) (truths clauses log next v) (clauses ++ rs) n c
    (all-lead clauses rs log edge next v le h holds) g

pub cuts_lead : CutsLead
cuts_lead clauses log edge next v le (front, h) holds t =
    let b = is_behind clauses edge in
    let d = is_behind clauses next in
    let all = all-lead clauses (front ++ [] ∷ []) log edge next v le h holds in
    let q : clauses ++ (front ++ [] ∷ []) ≡ (clauses ++ front) ++ [] ∷ [] = sym (append_assoc clauses front ([] ∷ [])) in
    let both = subst (λ (cs : List (List Lit)). AllLead b d v (truths clauses log edge v) (truths clauses log next v) cs) q all in
    elim (lead-last b d v (truths clauses log edge v) (truths clauses log next v) (clauses ++ front) [] both t) [
      | inl y ↦ y
      | inr k ↦ let no : false ≡ true = k.1 in absurd cc
    ]

-- all true
abbrev AllTrue : List Bool → Type 0
AllTrue [] = Unit {0}
AllTrue (x ∷ xs) = (x ≡ true) × AllTrue xs

true-get : (xs : List Bool) (n : ℕ) → AllTrue xs → slice_index_or xs n true ≡ true
true-get [] n a = refl
true-get (x ∷ xs) zero a = a.0
true-get (x ∷ xs) (suc n) a = true-get xs n a.1

true-push : (xs : List Bool) (x : Bool) → AllTrue xs → x ≡ true → AllTrue (xs ++ x ∷ [])
true-push [] x a e = (e, tt)
true-push (y ∷ xs) x a e = (a.0, true-push xs x a.1 e)

true-last : (xs : List Bool) → AllTrue xs → last_of xs ≡ true
true-last [] a = refl
true-last (x ∷ []) a = a.0
true-last (x ∷ y ∷ xs) a = true-last (y ∷ xs) a.1

true-joined : (b x y : Bool) → x ≡ true → y ≡ true → joined b x y ≡ true
true-joined true x y e f = ap (λ (z : Bool). z && y) e ∙ f
true-joined false x y e f = ap (λ (z : Bool). z || y) e

true-leaves : (b v : ℕ → Bool) (cs : List (List Lit)) → AllTrue (leaves b v 0 cs)
true-leaves b v [] = tt
true-leaves b v (c ∷ cs) = (refl, true-leaves b v cs)

true-steps : (b : ℕ → Bool) (xs : List Bool) (ps : List (ℕ × ℕ)) (x : Bool) → AllTrue xs → x ≡ true → steps_truth b xs x ps ≡ true
true-steps b xs [] x a e = e
true-steps b xs (p ∷ ps) x a e =
    let y : Bool = slice_index_or xs p.1 true in
    true-steps b xs ps (joined (b p.0) x y) a (true-joined (b p.0) x y e (true-get xs p.1 a))

true-log : (b : ℕ → Bool) (xs : List Bool) (log : List Chain) → AllTrue xs → AllTrue (truths_after b xs log)
true-log b xs [] a = a
true-log b xs (ch ∷ log) a =
    let x : Bool = chain_truth b xs ch in
    true-log b (xs ++ x ∷ []) log (true-push xs x a (true-steps b xs ch.pairs (slice_index_or xs ch.first true) a (true-get xs ch.first a)))

pub first_is_true : FirstIsTrue
first_is_true clauses log v =
    true-last (truths clauses log 0 v) (true-log (is_behind clauses 0) (leaves (is_behind clauses 0) v 0 clauses) log (true-leaves (is_behind clauses 0) v clauses))

-- all false, one for each clause
abbrev AllFalse : List Bool → List (List Lit) → Type 0
AllFalse [] [] = Unit {0}
AllFalse (x ∷ xs) (c ∷ cs) = (x ≡ false) × AllFalse xs cs
AllFalse xs cs = ⊥

false-get : (xs : List Bool) (cs : List (List Lit)) (n : ℕ) (c : List Lit) → AllFalse xs cs → slice_get cs n ≡ Some c
    → slice_index_or xs n true ≡ false
false-get [] [] n c a h = absurd cc
false-get [] (d ∷ cs) n c a h = absurd a
false-get (x ∷ xs) [] n c a h = absurd a
false-get (x ∷ xs) (d ∷ cs) zero c a h = a.0
false-get (x ∷ xs) (d ∷ cs) (suc n) c a h = false-get xs cs n c a.1 h

false-push : (xs : List Bool) (cs : List (List Lit)) (x : Bool) (c : List Lit) → AllFalse xs cs → x ≡ false → AllFalse (xs ++ x ∷ []) (cs ++ c ∷ [])
false-push [] [] x c a e = (e, tt)
false-push [] (d ∷ cs) x c a e = absurd a
false-push (y ∷ xs) [] x c a e = absurd a
false-push (y ∷ xs) (d ∷ cs) x c a e = (a.0, false-push xs cs x c a.1 e)

false-last : (xs : List Bool) (cs : List (List Lit)) (c : List Lit) → AllFalse xs (cs ++ c ∷ []) → last_of xs ≡ false
false-last [] [] c a = absurd a
false-last [] (d ∷ cs) c a = absurd a
false-last (x ∷ []) [] c a = a.0
false-last (x ∷ y ∷ xs) [] c a = absurd a.1
false-last (x ∷ []) (d ∷ []) c a = absurd a.1
false-last (x ∷ []) (d ∷ e ∷ cs) c a = absurd a.1
false-last (x ∷ y ∷ xs) (d ∷ cs) c a = false-last (y ∷ xs) cs c a.1

false-joined : (b x y : Bool) → x ≡ false → y ≡ false → joined b x y ≡ false
false-joined true x y e f = ap (λ (z : Bool). z && y) e
false-joined false x y e f = ap (λ (z : Bool). z || y) e ∙ f

false-some : (b v : ℕ → Bool) (c : List Lit) → ((x : ℕ) → b x ≡ false) → some_holds b v c ≡ false
false-some b v [] none = refl
false-some b v (l ∷ c) none = ap (λ (z : Bool). (z && lit_value v l) || some_holds b v c) (none l.var) ∙ false-some b v c none

false-leaves : (b v : ℕ → Bool) (edge : ℕ) (cs : List (List Lit)) → ((x : ℕ) → b x ≡ false) → length cs ≤ edge → AllFalse (leaves b v edge cs) cs
false-leaves b v edge [] none le = tt
false-leaves b v zero (c ∷ cs) none le = absurd (omega (arith, le))
false-leaves b v (suc edge) (c ∷ cs) none le = (false-some b v c none, false-leaves b v edge cs none (omega (arith, le)))

false-steps : (b : ℕ → Bool) (xs : List Bool) (cs : List (List Lit)) (ps : List (ℕ × ℕ)) (c r : List Lit) (x : Bool) → AllFalse xs cs
    → chain_from cs c ps ≡ Some r → x ≡ false → steps_truth b xs x ps ≡ false
false-steps b xs cs [] c r x a h e = e
false-steps b xs cs (p ∷ ps) c r x a h e =
    let (f, g, gf, gg, h2) = step_parts cs p ps c r h in
    let y : Bool = slice_index_or xs p.1 true in
    false-steps b xs cs ps g r (joined (b p.0) x y) a h2 (false-joined (b p.0) x y e (false-get xs cs p.1 f a gf))

false-chain : (b : ℕ → Bool) (xs : List Bool) (cs : List (List Lit)) (ch : Chain) (r : List Lit) → AllFalse xs cs
    → chain_result cs ch ≡ Some r → chain_truth b xs ch ≡ false
false-chain b xs cs ch r a h =
    let (c, gc, h1) = then_parts (slice_get cs ch.first) (λ c. chain_from cs c ch.pairs) r h in
    false-steps b xs cs ch.pairs c r (slice_index_or xs ch.first true) a h1 (false-get xs cs ch.first c a gc)

false-log : (b : ℕ → Bool) (xs : List Bool) (cs rs : List (List Lit)) (log : List Chain) → AllFalse xs cs
    → results_of cs log ≡ Some rs → AllFalse (truths_after b xs log) (cs ++ rs)
false-log b xs cs rs [] a h =
    let e : [] ≡ rs = cc in
    subst (λ (ts : List (List Lit)). AllFalse xs (cs ++ ts)) e (subst (λ (ts : List (List Lit)). AllFalse xs ts) (sym (append-nil cs)) a)
false-log b xs cs rs (ch ∷ log) a h =
    let (r, ts, gr, gt, e) = results_parts cs ch log rs h in
    let x : Bool = chain_truth b xs ch in
    let rest = false-log b (xs ++ x ∷ []) (cs ++ r ∷ []) ts log (false-push xs cs x r a (false-chain b xs cs ch r a gr)) gt in
    let q : (cs ++ r ∷ []) ++ ts ≡ cs ++ rs = append_assoc cs (r ∷ []) ts ∙ ap (λ (us : List (List Lit)). cs ++ us) e in
    subst (λ (us : List (List Lit)). AllFalse (truths_after b xs (ch ∷ log)) us) q rest

none-behind : (cs : List (List Lit)) (edge x : ℕ) → length cs ≤ edge → is_behind cs edge x ≡ false
none-behind [] zero x le = refl
none-behind [] (suc edge) x le = refl
none-behind (d ∷ cs) zero x le = absurd (omega (arith, le))
none-behind (d ∷ cs) (suc edge) x le = none-behind cs edge x (omega (arith, le))

pub last_is_false : LastIsFalse
last_is_false clauses log v (front, h) =
    let b = is_behind clauses (length clauses) in
    let none : (x : ℕ) → b x ≡ false = λ x. none-behind clauses (length clauses) x (omega arith) in
    let all = false-log b (leaves b v (length clauses) clauses) clauses (front ++ [] ∷ []) log (false-leaves b v (length clauses) clauses none (omega arith)) h in
    let q : clauses ++ (front ++ [] ∷ []) ≡ (clauses ++ front) ++ [] ∷ [] = sym (append_assoc clauses front ([] ∷ [])) in
    false-last (truths clauses log (length clauses) v) (clauses ++ front) []
    (subst (λ (cs : List (List Lit)). AllFalse (truths clauses log (length clauses) v) cs) q all)
