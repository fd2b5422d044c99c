-- From the truths at one cut to those at the next.
use Rattle.std.proofs.Common.{◌≡◌, ℕ, ◌≤◌, Bool, true, false, not, ◌&&◌, ◌||◌, List, [], ◌∷◌, ◌++◌, Some, slice_get, slice_index_or, zero, suc, ◌⊎◌, inl, inr, refl, sym, ap, ◌∙◌, subst, arith, append_assoc, append-nil}
use Rattle.std.proofs.lemmas.Bool.{and_parts, and_from, or_cases, or_left, or_right, both_ways}
use Rattle.prop.specs.declared.Lit.{Lit}
use Rattle.prop.specs.Logic.{negated, positive_of, lit_value, clause_holds}
use Rattle.prop.specs.Steps.{negative_of, Has, without, crosses, resolved, one_way, resolve}
use Rattle.prop.proofs.Sets.{lit_cases, Has-left, Has-right, Has-kept, Has-head, Has-tail, Has-cons, lit_value-negated, not-not}
use Rattle.prop.proofs.Sound.{holds_parts}
use Rattle.resolution_log.specs.declared.Chain.{Chain}
use Rattle.resolution_log.specs.Chains.{chain_from, chain_result, results_of}
use Rattle.resolution_log.proofs.Results.{then_parts, step_parts, results_parts}
use Rattle.interpolants.specs.Rules.{some_holds, leaves, joined, steps_truth, chain_truth, truths_after, last_of}
use Rattle.interpolants.specs.Laws.{Loses, Leads, Between}

-- the truth of a clause before a cut, by a literal
pub some-by : (b v : ℕ → Bool) (c : List Lit) (l : Lit) → Has c l → b l.var ≡ true → lit_value v l ≡ true → some_holds b v c ≡ true
some-by b v [] l h k t = absurd cc
some-by b v (m ∷ c) l h k t =
    elim (Has-cons m c l h) [
      | inl e ↦ or_left _ _ (subst (λ (x : Lit). (b x.var && lit_value v x) ≡ true) (sym e) (and_from (b l.var) (lit_value v l) k t))
      | inr r ↦ or_right _ _ (some-by b v c l r k t)
    ]

pub some-parts : (b v : ℕ → Bool) (c : List Lit) → some_holds b v c ≡ true → (l : Lit) × (Has c l) × (b l.var ≡ true) × (lit_value v l ≡ true)
some-parts b v [] h = absurd cc
some-parts b v (m ∷ c) h =
    elim (or_cases (b m.var && lit_value v m) (some_holds b v c) h) [
      | inl a ↦ let p = and_parts (b m.var) (lit_value v m) a in (m, Has-head m c, p.0, p.1)
      | inr r ↦ let (l, k, s, t) = some-parts b v c r in (l, Has-tail m c l k, s, t)
    ]

-- a true literal of a clause that is known behind the first cut
pub lead-lit : (b d v : ℕ → Bool) (c : List Lit) (l : Lit) → Has c l → b l.var ≡ true → lit_value v l ≡ true
    → (some_holds d v c ≡ true) ⊎ Loses b d v c
lead-lit b d v c l h k t = go (d l.var) refl
  where
    go : (x : Bool) → d l.var ≡ x → (some_holds d v c ≡ true) ⊎ Loses b d v c
    go true e = inl (some-by d v c l h e t)
    go false e = inr (l, h, k, e, t)

-- a clause before both cuts, and one between them
pub lead-before : (b d v : ℕ → Bool) (c : List Lit) → Leads b d v (some_holds b v c) (some_holds d v c) c
lead-before b d v c h = let (l, k, s, t) = some-parts b v c h in lead-lit b d v c l k s t

pub lead-between : (b d v : ℕ → Bool) (c : List Lit) → ((l : Lit) → Has c l → b l.var ≡ true) → clause_holds v c ≡ true
    → Leads b d v true (some_holds d v c) c
lead-between b d v c all holds h = let (l, k, t) = holds_parts v c holds in lead-lit b d v c l k (all l k) t

pub lead-behind : (b d v : ℕ → Bool) (c : List Lit) → Leads b d v true true c
lead-behind b d v c h = inl refl

-- the pivot's cases
lit-differs : (b : ℕ → Bool) (l m : Lit) (x : Bool) → b l.var ≡ x → b m.var ≡ not x → m ≡ l → ⊥
lit-differs b l m true p q e = both_ways (b m.var) q (ap (λ (k : Lit). b k.var) e ∙ p)
lit-differs b l m false p q e = both_ways (b m.var) (ap (λ (k : Lit). b k.var) e ∙ p) q

kept-left : (l m : Lit) (c d : List Lit) → Has c m → (m ≡ l → ⊥) → Has (resolved l c d) m
kept-left l m c d h n = Has-left (without l c) _ m (Has-kept l c m h n)

kept-right : (l m : Lit) (c d : List Lit) → Has d m → (m ≡ negated l → ⊥) → Has (resolved l c d) m
kept-right l m c d h n = Has-right (without l c) _ m (Has-kept (negated l) d m h n)

loses-left : (b d v : ℕ → Bool) (l : Lit) (f g : List Lit) (k : Loses b d v f) → (k.0 ≡ l → ⊥) → Loses b d v (resolved l f g)
loses-left b d v l f g k n = (k.0, kept-left l k.0 f g k.1 n, k.2, k.3, k.4)

loses-right : (b d v : ℕ → Bool) (l : Lit) (f g : List Lit) (k : Loses b d v g) → (k.0 ≡ negated l → ⊥) → Loses b d v (resolved l f g)
loses-right b d v l f g k n = (k.0, kept-right l k.0 f g k.1 n, k.2, k.3, k.4)

-- the pivot occurs behind both cuts
lead-shared : (b d v : ℕ → Bool) (l : Lit) (f g : List Lit) (x y z w : Bool) → d l.var ≡ true → Leads b d v x y f → Leads b d v z w g
    → Leads b d v (x && z) (y && w) (resolved l f g)
lead-shared b d v l f g x y z w e p q h =
    let xz = and_parts x z h in
    elim (p xz.0) [
      | inr k ↦ inr (loses-left b d v l f g k (lit-differs d l k.0 true e k.3))
      | inl yt ↦
          elim (q xz.1) [
            | inr k ↦ inr (loses-right b d v l f g k (lit-differs d (negated l) k.0 true e k.3))
            | inl wt ↦ inl (and_from y w yt wt)
          ]
    ]

-- the pivot occurs behind the first cut alone
opposite : (v : ℕ → Bool) (l m k : Lit) → lit_value v m ≡ true → lit_value v k ≡ true → m ≡ l → k ≡ negated l → ⊥
opposite v l m k tm tk e f =
    both_ways (lit_value v l) (sym (not-not (lit_value v l)) ∙ ap not (sym (lit_value-negated v l) ∙ ap (lit_value v) (sym f) ∙ tk))
    (subst (λ (x : Lit). lit_value v x ≡ true) e tm)

lead-lost : (b d v : ℕ → Bool) (l : Lit) (f g : List Lit) (x y z w : Bool) → Leads b d v x y f → Leads b d v z w g
    → Leads b d v (x && z) (y || w) (resolved l f g)
lead-lost b d v l f g x y z w p q h =
    let xz = and_parts x z h in
    elim (p xz.0) [
      | inl yt ↦ inl (or_left y w yt)
      | inr k ↦
          elim (q xz.1) [
            | inl wt ↦ inl (or_right y w wt)
            | inr j ↦
                elim (lit_cases k.0 l) [
                  | inr n ↦ inr (loses-left b d v l f g k n)
                  | inl e ↦
                      elim (lit_cases j.0 (negated l)) [
                        | inr n ↦ inr (loses-right b d v l f g j n)
                        | inl s ↦ absurd (opposite v l k.0 j.0 k.4 j.4 e s)
                      ]
                ]
          ]
    ]

-- the pivot occurs behind neither
lead-local : (b d v : ℕ → Bool) (l : Lit) (f g : List Lit) (x y z w : Bool) → b l.var ≡ false → Leads b d v x y f → Leads b d v z w g
    → Leads b d v (x || z) (y || w) (resolved l f g)
lead-local b d v l f g x y z w e p q h =
    elim (or_cases x z h) [
      | inl xt ↦
          elim (p xt) [
            | inl yt ↦ inl (or_left y w yt)
            | inr k ↦ inr (loses-left b d v l f g k (lit-differs b l k.0 false e k.2))
          ]
      | inr zt ↦
          elim (q zt) [
            | inl wt ↦ inl (or_right y w wt)
            | inr k ↦ inr (loses-right b d v l f g k (lit-differs b (negated l) k.0 false e k.2))
          ]
    ]

lead-resolved : (b d v : ℕ → Bool) (l : Lit) (f g : List Lit) (x y z w : Bool) → ((n : ℕ) → d n ≡ true → b n ≡ true)
    → Leads b d v x y f → Leads b d v z w g → Leads b d v (joined (b l.var) x z) (joined (d l.var) y w) (resolved l f g)
lead-resolved b d v l f g x y z w sub p q = go (b l.var) (d l.var) refl refl
  where
    go : (m n : Bool) → b l.var ≡ m → d l.var ≡ n → Leads b d v (joined m x z) (joined n y w) (resolved l f g)
    go true true bm dn = lead-shared b d v l f g x y z w dn p q
    go true false bm dn = lead-lost b d v l f g x y z w p q
    go false true bm dn = absurd (both_ways (b l.var) bm (sub l.var dn))
    go false false bm dn = lead-local b d v l f g x y z w bm p q

lead-way : (b d v : ℕ → Bool) (s t : Bool) (k : ℕ) (f g r : List Lit) (x y z w : Bool) → one_way s t k f g ≡ Some r
    → ((n : ℕ) → d n ≡ true → b n ≡ true) → Leads b d v x y f → Leads b d v z w g
    → Leads b d v (joined (b k) x z) (joined (d k) y w) r
lead-way b d v true true k f g r x y z w h sub p q = absurd cc
lead-way b d v false false k f g r x y z w h sub p q = absurd cc
lead-way b d v true false k f g r x y z w h sub p q =
    let e : resolved (positive_of k) f g ≡ r = cc in
    subst (λ (c : List Lit). Leads b d v (joined (b k) x z) (joined (d k) y w) c) e (lead-resolved b d v (positive_of k) f g x y z w sub p q)
lead-way b d v false true k f g r x y z w h sub p q =
    let e : resolved (negative_of k) f g ≡ r = cc in
    subst (λ (c : List Lit). Leads b d v (joined (b k) x z) (joined (d k) y w) c) e (lead-resolved b d v (negative_of k) f g x y z w sub p q)

-- a step
pub lead-step : (b d v : ℕ → Bool) (k : ℕ) (f g r : List Lit) (x y z w : Bool) → resolve k f g ≡ Some r
    → ((n : ℕ) → d n ≡ true → b n ≡ true) → Leads b d v x y f → Leads b d v z w g
    → Leads b d v (joined (b k) x z) (joined (d k) y w) r
lead-step b d v k f g r x y z w h sub p q =
    lead-way b d v (crosses (positive_of k) f g) (crosses (negative_of k) f g) k f g r x y z w h sub p q

-- truths at both cuts, clause by clause
abbrev pub AllLead : (ℕ → Bool) → (ℕ → Bool) → (ℕ → Bool) → List Bool → List Bool → List (List Lit) → Type 0
AllLead b d v [] [] [] = Unit {0}
AllLead b d v (x ∷ xs) (y ∷ ys) (c ∷ cs) = Leads b d v x y c × AllLead b d v xs ys cs
AllLead b d v xs ys cs = ⊥

pub lead-get : (b d v : ℕ → Bool) (xs ys : List Bool) (cs : List (List Lit)) (n : ℕ) (c : List Lit) → AllLead b d v xs ys cs
    → slice_get cs n ≡ Some c → Leads b d v (slice_index_or xs n true) (slice_index_or ys n true) c
lead-get b d v [] [] [] n c a h = absurd cc
lead-get b d v [] [] (e ∷ cs) n c a h = absurd a
lead-get b d v [] (y ∷ ys) cs n c a h = absurd a
lead-get b d v (x ∷ xs) [] cs n c a h = absurd a
lead-get b d v (x ∷ xs) (y ∷ ys) [] n c a h = absurd a
lead-get b d v (x ∷ xs) (y ∷ ys) (e ∷ cs) zero c a h =
    let q : e ≡ c = cc in subst (λ (f : List Lit). Leads b d v x y f) q a.0
lead-get b d v (x ∷ xs) (y ∷ ys) (e ∷ cs) (suc n) c a h = lead-get b d v xs ys cs n c a.1 h

pub lead-push : (b d v : ℕ → Bool) (xs ys : List Bool) (cs : List (List Lit)) (x y : Bool) (c : List Lit) → AllLead b d v xs ys cs
    → Leads b d v x y c → AllLead b d v (xs ++ x ∷ []) (ys ++ y ∷ []) (cs ++ c ∷ [])
lead-push b d v [] [] [] x y c a h = (h, tt)
lead-push b d v [] [] (e ∷ cs) x y c a h = absurd a
lead-push b d v [] (u ∷ ys) cs x y c a h = absurd a
lead-push b d v (t ∷ xs) [] cs x y c a h = absurd a
lead-push b d v (t ∷ xs) (u ∷ ys) [] x y c a h = absurd a
lead-push b d v (t ∷ xs) (u ∷ ys) (e ∷ cs) x y c a h = (a.0, lead-push b d v xs ys cs x y c a.1 h)

pub lead-last : (b d v : ℕ → Bool) (xs ys : List Bool) (cs : List (List Lit)) (c : List Lit) → AllLead b d v xs ys (cs ++ c ∷ [])
    → Leads b d v (last_of xs) (last_of ys) c
lead-last b d v [] [] [] c a = absurd a
lead-last b d v [] (y ∷ ys) [] c a = absurd a
lead-last b d v (x ∷ xs) [] [] c a = absurd a
lead-last b d v (x ∷ []) (y ∷ []) [] c a = a.0
lead-last b d v (x ∷ []) (y ∷ z ∷ ys) [] c a = absurd a.1
lead-last b d v (x ∷ t ∷ xs) (y ∷ []) [] c a = absurd a.1
lead-last b d v (x ∷ t ∷ xs) (y ∷ z ∷ ys) [] c a = absurd a.1
lead-last b d v [] [] (e ∷ cs) c a = absurd a
lead-last b d v [] (y ∷ ys) (e ∷ cs) c a = absurd a
lead-last b d v (x ∷ xs) [] (e ∷ cs) c a = absurd a
lead-last b d v (x ∷ []) (y ∷ ys) (e ∷ cs) c a = absurd (none ys cs a.1)
  where
    none : (zs : List Bool) (ds : List (List Lit)) → AllLead b d v [] zs (ds ++ c ∷ []) → ⊥
    none [] [] h = h
    none [] (g ∷ ds) h = h
    none (z ∷ zs) ds h = h
lead-last b d v (x ∷ t ∷ xs) (y ∷ []) (e ∷ cs) c a = absurd a.1
lead-last b d v (x ∷ t ∷ xs) (y ∷ z ∷ ys) (e ∷ cs) c a = lead-last b d v (t ∷ xs) (z ∷ ys) cs c a.1

-- the clauses
pub lead-leaves : (b d v : ℕ → Bool) (edge next : ℕ) (cs : List (List Lit)) → edge ≤ next
    → ((n : ℕ) (c : List Lit) (l : Lit) → edge ≤ n → slice_get cs n ≡ Some c → Has c l → b l.var ≡ true)
    → Between cs v edge next → AllLead b d v (leaves b v edge cs) (leaves d v next cs) cs
lead-leaves b d v edge next [] le all holds = tt
lead-leaves b d v zero zero (c ∷ cs) le all holds =
    (lead-behind b d v c, lead-leaves b d v zero zero cs (omega arith) (λ n e l p g h. all (suc n) e l (omega arith) g h) (λ n e p q g. absurd (omega (arith, q))))
lead-leaves b d v zero (suc next) (c ∷ cs) le all holds = (
  lead-between b d v c (λ l h. all zero c l (omega arith) refl h) (holds zero c (omega arith) (omega arith) refl),
  lead-leaves b d v zero next cs (omega arith) (λ n e l p g h. all (suc n) e l (omega arith) g h) (λ n e p q g. holds (suc n) e (omega arith) (omega (arith, q)) g),
)
lead-leaves b d v (suc edge) zero (c ∷ cs) le all holds = absurd (omega (arith, le))
lead-leaves b d v (suc edge) (suc next) (c ∷ cs) le all holds = (
  lead-before b d v c,
  lead-leaves b d v edge next cs (omega (arith, le)) (λ n e l p g h. all (suc n) e l (omega (arith, p)) g h) (λ n e p q g. holds (suc n) e (omega (arith, p)) (omega (arith, q)) g),
)

-- a chain
lead-steps : (b d v : ℕ → Bool) (xs ys : List Bool) (cs : List (List Lit)) (ps : List (ℕ × ℕ)) (c r : List Lit) (x y : Bool)
    → ((n : ℕ) → d n ≡ true → b n ≡ true) → AllLead b d v xs ys cs → chain_from cs c ps ≡ Some r → Leads b d v x y c
    → Leads b d v (steps_truth b xs x ps) (steps_truth d ys y ps) r
lead-steps b d v xs ys cs [] c r x y sub a h p = let e : c ≡ r = cc in subst (λ (f : List Lit). Leads b d v x y f) e p
lead-steps b d v xs ys cs (s ∷ ps) c r x y sub a h p =
    let (f, g, gf, gg, h2) = step_parts cs s ps c r h in
    let z : Bool = slice_index_or xs s.1 true in
    let w : Bool = slice_index_or ys s.1 true in
    lead-steps b d v xs ys cs ps g r (joined (b s.0) x z) (joined (d s.0) y w) sub a h2
    (lead-step b d v s.0 c f g x y z w gg sub p (lead-get b d v xs ys cs s.1 f a gf))

lead-chain : (b d v : ℕ → Bool) (xs ys : List Bool) (cs : List (List Lit)) (ch : Chain) (r : List Lit)
    → ((n : ℕ) → d n ≡ true → b n ≡ true) → AllLead b d v xs ys cs → chain_result cs ch ≡ Some r
    → Leads b d v (chain_truth b xs ch) (chain_truth d ys ch) r
lead-chain b d v xs ys cs ch r sub a h =
    let (c, gc, h1) = then_parts (slice_get cs ch.first) (λ c. chain_from cs c ch.pairs) r h in
    lead-steps b d v xs ys cs ch.pairs c r (slice_index_or xs ch.first true) (slice_index_or ys ch.first true) sub a h1
    (lead-get b d v xs ys cs ch.first c a gc)

-- a log
pub lead-log : (b d v : ℕ → Bool) (xs ys : List Bool) (cs rs : List (List Lit)) (log : List Chain)
    → ((n : ℕ) → d n ≡ true → b n ≡ true) → AllLead b d v xs ys cs → results_of cs log ≡ Some rs
    → AllLead b d v (truths_after b xs log) (truths_after d ys log) (cs ++ rs)
lead-log b d v xs ys cs rs [] sub a h =
    let e : [] ≡ rs = cc in
    subst (λ (ts : List (List Lit)). AllLead b d v xs ys (cs ++ ts)) e (subst (λ (ts : List (List Lit)). AllLead b d v xs ys ts) (sym (append-nil cs)) a)
lead-log b d v xs ys cs rs (ch ∷ log) sub a h =
    let (r, ts, gr, gt, e) = results_parts cs ch log rs h in
    let x : Bool = chain_truth b xs ch in
    let y : Bool = chain_truth d ys ch in
    let next = lead-push b d v xs ys cs x y r a (lead-chain b d v xs ys cs ch r sub a gr) in
    let rest = lead-log b d v (xs ++ x ∷ []) (ys ++ y ∷ []) (cs ++ r ∷ []) ts log sub next gt in
    let q : (cs ++ r ∷ []) ++ ts ≡ cs ++ rs = append_assoc cs (r ∷ []) ts ∙ ap (λ (us : List (List Lit)). cs ++ us) e in
    subst (λ (us : List (List Lit)). AllLead b d v (truths_after b xs (ch ∷ log)) (truths_after d ys (ch ∷ log)) us) q rest
