-- A step keeps the truth: an assignment that meets two clauses meets their resolvent.
use Rattle.std.proofs.Common.{◌≡◌, ℕ, Bool, true, false, not, List, [], ◌∷◌, Some, inl, inr, sym, ap, ◌∙◌, subst}
use Rattle.std.proofs.lemmas.Bool.{or_cases, or_left, or_right, both_ways}
use Rattle.prop.specs.declared.Lit.{Lit}
use Rattle.prop.specs.Logic.{negated, positive_of, lit_value, clause_holds}
use Rattle.prop.specs.Steps.{negative_of, Has, without, crosses, resolved, one_way, resolve}
use Rattle.prop.proofs.Sets.{lit_cases, Has-left, Has-right, Has-kept, Has-head, Has-tail, Has-cons, lit_value-negated, not-not}

-- a clause holds where one of its literals is true
pub holds_by : (v : ℕ → Bool) (c : List Lit) (l : Lit) → Has c l → lit_value v l ≡ true → clause_holds v c ≡ true
holds_by v [] l h t = absurd cc
holds_by v (m ∷ c) l h t = elim (Has-cons m c l h) [ inl e ↦ or_left _ _ (subst (λ x. lit_value v x ≡ true) (sym e) t) | inr r ↦ or_right _ _ (holds_by v c l r t) ]

pub holds_parts : (v : ℕ → Bool) (c : List Lit) → clause_holds v c ≡ true → (l : Lit) × (Has c l) × (lit_value v l ≡ true)
holds_parts v [] h = absurd cc
holds_parts v (m ∷ c) h = elim (or_cases (lit_value v m) (clause_holds v c) h) [
  | inl a ↦ (m, Has-head m c, a)
  | inr b ↦ let (l, k, t) = holds_parts v c b in (l, Has-tail m c l k, t)
]

holds_resolved : (v : ℕ → Bool) (l : Lit) (c d : List Lit) → clause_holds v c ≡ true → clause_holds v d ≡ true → clause_holds v (resolved l c d) ≡ true
holds_resolved v l c d hc hd =
    let (a, ha, ta) = holds_parts v c hc in
    let (b, hb, tb) = holds_parts v d hd in
    elim (lit_cases a l) [
      | inr n ↦ holds_by v (resolved l c d) a (Has-left (without l c) _ a (Has-kept l c a ha n)) ta
      | inl e ↦ elim (lit_cases b (negated l)) [
        | inr m ↦ holds_by v (resolved l c d) b (Has-right (without l c) _ b (Has-kept (negated l) d b hb m)) tb
        | inl f ↦ absurd (both_ways (lit_value v l) (opp b tb f) (subst (λ x. lit_value v x ≡ true) e ta))
      ]
    ]
  where
    opp : (b : Lit) → lit_value v b ≡ true → b ≡ negated l → lit_value v l ≡ false
    opp b tb f = sym (not-not _) ∙ ap not (sym (lit_value-negated v l) ∙ ap (lit_value v) (sym f) ∙ tb)

holds_one_way : (v : ℕ → Bool) (p q : Bool) (k : ℕ) (c d e : List Lit) → one_way p q k c d ≡ Some e → clause_holds v c ≡ true → clause_holds v d ≡ true → clause_holds v e ≡ true
holds_one_way v true true k c d e h mc md = absurd cc
holds_one_way v false false k c d e h mc md = absurd cc
holds_one_way v true false k c d e h mc md = let g : resolved (positive_of k) c d ≡ e = cc in subst (λ x. clause_holds v x ≡ true) g (holds_resolved v (positive_of k) c d mc md)
holds_one_way v false true k c d e h mc md = let g : resolved (negative_of k) c d ≡ e = cc in subst (λ x. clause_holds v x ≡ true) g (holds_resolved v (negative_of k) c d mc md)

pub holds_step : (v : ℕ → Bool) (k : ℕ) (c d e : List Lit) → resolve k c d ≡ Some e → clause_holds v c ≡ true → clause_holds v d ≡ true → clause_holds v e ≡ true
holds_step v k c d e h mc md = holds_one_way v (crosses (positive_of k) c d) (crosses (negative_of k) c d) k c d e h mc md
