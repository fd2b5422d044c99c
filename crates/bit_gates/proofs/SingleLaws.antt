use Rattle.std.proofs.Common.{◌≡◌, ℕ, [], ◌∷◌, ap, sym, ◌∙◌, refl, Bool, true, false, not, ◌&&◌, cond, eqb}
use Rattle.std.specs.Bool.{beq}
use Rattle.std.proofs.lemmas.Bool.{eqb-true, false≢true}
use Rattle.prop.specs.declared.Lit.{Lit}
use Rattle.prop.specs.Logic.{negated, positive_of, lit_value}
use Rattle.bit_gates.specs.declared.netlist.Def.TheVariants.{And, Xor, Select, Fixed}
use Rattle.bit_gates.specs.Net.{xor, Meets}
use Rattle.bit_gates.specs.Singles.{Chained, and_of, xor_of, turned, select_of}
use Rattle.bit_gates.proofs.Nets.{value-negated}
use Rattle.bit_gates.proofs.Within.{chosen}

-- literals on one variable
both-same : (p q x : Bool) → beq p q ≡ true → cond p x (not x) ≡ cond q x (not x)
both-same true true x e = refl
both-same true false x e = absurd (false≢true e)
both-same false true x e = absurd (false≢true e)
both-same false false x e = refl

both-apart : (p q x : Bool) → beq p q ≡ false → cond p x (not x) ≡ not (cond q x (not x))
both-apart true true x e = absurd (false≢true (sym e))
both-apart true false true e = refl
both-apart true false false e = refl
both-apart false true x e = refl
both-apart false false x e = absurd (false≢true (sym e))

same-value : (v : ℕ → Bool) (a b : Lit) → eqb a.var b.var ≡ true → beq a.positive b.positive ≡ true → lit_value v a ≡ lit_value v b
same-value v a b e h =
    ap (λ (k : ℕ). cond a.positive (v k) (not (v k))) (eqb-true a.var b.var e) ∙ both-same a.positive b.positive (v b.var) h

apart-value : (v : ℕ → Bool) (a b : Lit) → eqb a.var b.var ≡ true → beq a.positive b.positive ≡ false → lit_value v a ≡ not (lit_value v b)
apart-value v a b e h =
    ap (λ (k : ℕ). cond a.positive (v k) (not (v k))) (eqb-true a.var b.var e) ∙ both-apart a.positive b.positive (v b.var) h

and-self : (x y : Bool) → x ≡ y → x ≡ (x && y)
and-self true y e = e
and-self false y e = refl

and-apart : (x y : Bool) → x ≡ not y → false ≡ (x && y)
and-apart true true e = sym e
and-apart true false e = refl
and-apart false y e = refl

pub and_of-law : (v : ℕ → Bool) (n : ℕ) (a b : Lit) → Meets v n (and_of n a b).defs → lit_value v (and_of n a b).out ≡ (lit_value v a && lit_value v b)
and_of-law v n a b =
    chosen {A = Chained} (eqb a.var b.var)
    (cond (beq a.positive b.positive) (record { defs = []; out = a }) (record { defs = Fixed false ∷ []; out = positive_of n }))
    (record { defs = And a b ∷ []; out = positive_of n }) (λ m. Meets v n m.defs → lit_value v m.out ≡ (lit_value v a && lit_value v b))
    (λ e. chosen {A = Chained} (beq a.positive b.positive) (record { defs = []; out = a }) (record { defs = Fixed false ∷ []; out = positive_of n })
    (λ m. Meets v n m.defs → lit_value v m.out ≡ (lit_value v a && lit_value v b))
    (λ g m. and-self (lit_value v a) (lit_value v b) (same-value v a b e g))
    (λ g m. m.0 ∙ and-apart (lit_value v a) (lit_value v b) (apart-value v a b e g)))
    (λ e m. m.0)

xor-same : (x y s : Bool) → (s ≡ true → x ≡ y) → (s ≡ false → x ≡ not y) → not s ≡ xor x y
xor-same true true true f g = refl
xor-same true false true f g = sym (f refl)
xor-same false true true f g = f refl
xor-same false false true f g = refl
xor-same true true false f g = g refl
xor-same true false false f g = refl
xor-same false true false f g = refl
xor-same false false false f g = sym (g refl)

pub xor_of-law : (v : ℕ → Bool) (n : ℕ) (a b : Lit) → Meets v n (xor_of n a b).defs → lit_value v (xor_of n a b).out ≡ xor (lit_value v a) (lit_value v b)
xor_of-law v n a b =
    chosen {A = Chained} (eqb a.var b.var)
    (record { defs = Fixed (not (beq a.positive b.positive)) ∷ []; out = positive_of n })
    (record { defs = Xor a b ∷ []; out = positive_of n }) (λ m. Meets v n m.defs → lit_value v m.out ≡ xor (lit_value v a) (lit_value v b))
    (λ e m. m.0 ∙ xor-same (lit_value v a) (lit_value v b) (beq a.positive b.positive) (same-value v a b e) (apart-value v a b e))
    (λ e m. m.0)

select-alike : (c a b : Bool) → a ≡ b → a ≡ cond c a b
select-alike true a b e = refl
select-alike false a b e = e

select-apart : (c a b o : Bool) → a ≡ not b → o ≡ not (xor c a) → o ≡ cond c a b
select-apart true true b o e h = h
select-apart true false b o e h = h
select-apart false true true o e h = absurd (false≢true (sym e))
select-apart false true false o e h = h
select-apart false false true o e h = h
select-apart false false false o e h = absurd (false≢true e)

select-or : (c a b o : Bool) → c ≡ a → o ≡ not (not c && not b) → o ≡ cond c a b
select-or true a b o e h = h ∙ e
select-or false a true o e h = h
select-or false a false o e h = h

select-only : (c a b o : Bool) → c ≡ not a → o ≡ (not c && b) → o ≡ cond c a b
select-only true true b o e h = absurd (false≢true (sym e))
select-only true false b o e h = h
select-only false a b o e h = h

select-both : (c a b o : Bool) → c ≡ b → o ≡ (c && a) → o ≡ cond c a b
select-both true a b o e h = h
select-both false a b o e h = h ∙ e

select-else : (c a b o : Bool) → c ≡ not b → o ≡ not (c && not a) → o ≡ cond c a b
select-else true true b o e h = h
select-else true false b o e h = h
select-else false a true o e h = h
select-else false a false o e h = absurd (false≢true e)

pub select_of-law : (v : ℕ → Bool) (n : ℕ) (c a b : Lit) → Meets v n (select_of n c a b).defs
    → lit_value v (select_of n c a b).out ≡ cond (lit_value v c) (lit_value v a) (lit_value v b)
select_of-law v n c a b =
    let q1 : Chained = cond (beq a.positive b.positive) (record { defs = []; out = a }) (turned (xor_of n c a)) in
    let q2 : Chained = cond (beq c.positive a.positive) (turned (and_of n (negated c) (negated b))) (and_of n (negated c) b) in
    let q3 : Chained = cond (beq c.positive b.positive) (and_of n c a) (turned (and_of n c (negated a))) in
    let q4 : Chained = record { defs = Select c a b ∷ []; out = positive_of n } in
    let q5 : Chained = cond (eqb c.var b.var) q3 q4 in
    let q6 : Chained = cond (eqb c.var a.var) q2 q5 in
    let C = lit_value v c in
    let A = lit_value v a in
    let B = lit_value v b in
    chosen {A = Chained} (eqb a.var b.var) q1 q6 (λ m. Meets v n m.defs → lit_value v m.out ≡ cond C A B)
    (λ e. chosen {A = Chained} (beq a.positive b.positive) (record { defs = []; out = a }) (turned (xor_of n c a)) (λ m. Meets v n m.defs → lit_value v m.out ≡ cond C A B)
    (λ g m. select-alike C A B (same-value v a b e g))
    (λ g m. let x = xor_of n c a in select-apart C A B (lit_value v (negated x.out)) (apart-value v a b e g)
    (value-negated v x.out ∙ ap not (xor_of-law v n c a m))))
    (λ e. chosen {A = Chained} (eqb c.var a.var) q2 q5 (λ m. Meets v n m.defs → lit_value v m.out ≡ cond C A B)
    (λ g. chosen {A = Chained} (beq c.positive a.positive) (turned (and_of n (negated c) (negated b))) (and_of n (negated c) b) (λ m. Meets v n m.defs → lit_value v m.out ≡ cond C A B)
    (λ h m. let x = and_of n (negated c) (negated b) in select-or C A B (lit_value v (negated x.out)) (same-value v c a g h)
    (value-negated v x.out ∙ ap not (and_of-law v n (negated c) (negated b) m ∙ rw (value-negated v c, value-negated v b) refl)))
    (λ h m. let x = and_of n (negated c) b in select-only C A B (lit_value v x.out) (apart-value v c a g h)
    (and_of-law v n (negated c) b m ∙ rw (value-negated v c) refl)))
    (λ g. chosen {A = Chained} (eqb c.var b.var) q3 q4 (λ m. Meets v n m.defs → lit_value v m.out ≡ cond C A B)
    (λ h. chosen {A = Chained} (beq c.positive b.positive) (and_of n c a) (turned (and_of n c (negated a))) (λ m. Meets v n m.defs → lit_value v m.out ≡ cond C A B)
    (λ k m. select-both C A B (lit_value v (and_of n c a).out) (same-value v c b h k) (and_of-law v n c a m))
    (λ k m. let x = and_of n c (negated a) in select-else C A B (lit_value v (negated x.out)) (apart-value v c b h k)
    (value-negated v x.out ∙ ap not (and_of-law v n c (negated a) m ∙ rw (value-negated v a) refl))))
    (λ h m. m.0)))
