-- Propagation, and clauses that are new.
use Rattle.std.proofs.Common.{◌≡◌, ℕ, ◌+◌, Bool, true, false, not, ◌&&◌, ◌||◌, cond, List, [], ◌∷◌, ◌++◌, Option, Some, None, slice_get, nat_eq, zero, suc, ◌⊎◌, inl, inr, refl, sym, ap, ◌∙◌, subst, arith, append_assoc, append-nil, ap₂}
use Rattle.std.proofs.lemmas.Bool.{and_parts, and_from, or_cases, or_left, or_right, both_ways, cases_Bool}
use Rattle.prop.specs.declared.Lit.{Lit}
use Rattle.prop.specs.Logic.{negated, positive_of, lit_value, clause_holds, all_hold}
use Rattle.prop.specs.Steps.{same_sign, same, negative_of, has, Has, without, In, crosses, resolved, one_way, resolve}
use Rattle.resolution_log.specs.declared.Chain.{Chain}
use Rattle.resolution_log.specs.Chains.{then_with, chain_from, chain_result, results_of, IsRefutation, absent, pivots_differ}
use Rattle.prop.proofs.Sets.{lit_cases, negated_twice, negated_ne, negated_swap, lit_value-negated, Has-left, Has-right, Has-append, Has-without, Has-kept, Has-head, In-left, In-right, In-append, In-get, not-not}
use Rattle.resolution_log.specs.Propagation.{Derived, Derived.start, Derived.unit, Quiet, Closed, Others, Empowering, IsNew}
use Rattle.resolution_log.specs.Logs.{New, New.none, New.more, Lean}

-- propagation stays in a closed set

pub Derived-inside : (clauses : List (List Lit)) (given S : Lit → Type 0) → Closed clauses S → ((l : Lit) → given l → S l) → (l : Lit) → Derived clauses given l → S l
Derived-inside clauses given S closed in' l (start g) = in' l g
Derived-inside clauses given S closed in' l (unit c k h others) = closed c l k h (λ m hm ne. Derived-inside clauses given S closed in' (negated m) (others m hm ne))

module _ (clauses : List (List Lit)) (S : Lit → Type 0) (closed : Closed clauses S) (quiet : Quiet S) (r : List Lit) (t : Lit) (in_it : Has r t) (false_in : (l : Lit) → Has r l → (l ≡ t → ⊥) → S (negated l)) (no_t : S t → ⊥) where
  pub inside : (l : Lit) → Derived clauses (Others r t) l → S l
  inside = Derived-inside clauses (Others r t) S closed (λ l o. subst S (negated_twice l) (false_in (negated l) o.0 o.1))

  pub empowering : Empowering clauses r t
  empowering = record { in_it = in_it; quiet = λ l a b. quiet l (inside l a) (inside (negated l) b); not_given = λ d. no_t (inside t d) }

  pub one_sided : (l : Lit) → Has r l → Has r (negated l) → ⊥
  one_sided l h g = elim (lit_cases l t) [
    | inl e ↦ no_t (subst S (negated_twice l ∙ e) (false_in (negated l) g (λ q. negated_ne l (e ∙ sym q))))
    | inr n ↦ elim (lit_cases (negated l) t) [
      | inl e ↦ no_t (subst S e (false_in l h n))
      | inr m ↦ quiet (negated l) (false_in l h n) (false_in (negated l) g m)
    ]
  ]

  lacking : (c : List Lit) → In clauses c → ((l : Lit) → Has c l → Has r l) → (Has c t → ⊥) → (l : Lit) → Has c l → ⊥
  lacking c k sub lacks l h =
      let other : (m : Lit) → Has c m → m ≡ t → ⊥ = λ m hm e. lacks (subst (Has c) e hm) in
      quiet l (closed c l k h (λ m hm ne. false_in m (sub m hm) (other m hm))) (false_in l (sub l h) (other l h))

  without_empty : (c : List Lit) → In clauses c → ((l : Lit) → Has c l → Has r l) → (Has c t → ⊥) → (c ≡ [] → ⊥) → ⊥
  without_empty [] k sub lacks ne = ne refl
  without_empty (m ∷ c) k sub lacks ne = lacking (m ∷ c) k sub lacks m (Has-head m c)

  pub includes_none : ((c : List Lit) → In clauses c → c ≡ [] → ⊥) → (c : List Lit) → In clauses c → ((l : Lit) → Has c l → Has r l) → ⊥
  includes_none some c k sub =
      without_empty c k sub (λ h. no_t (closed c t k h (λ m hm ne. false_in m (sub m hm) ne))) (some c k)

  pub is_new : ((c : List Lit) → In clauses c → c ≡ [] → ⊥) → IsNew clauses r
  is_new some = record { some = (t, empowering); one_sided = one_sided; includes_none = includes_none some }

-- fewer clauses keep a result new

pub Derived-fewer : (few all : List (List Lit)) (given : Lit → Type 0) → ((c : List Lit) → In few c → In all c) → (l : Lit) → Derived few given l → Derived all given l
Derived-fewer few all given sub l (start g) = start g
Derived-fewer few all given sub l (unit c k h others) = unit c (sub c k) h (λ m hm ne. Derived-fewer few all given sub (negated m) (others m hm ne))

pub IsNew-fewer : (few all : List (List Lit)) (r : List Lit) → ((c : List Lit) → In few c → In all c) → IsNew all r → IsNew few r
IsNew-fewer few all r sub n =
    let (t, e) = n.some in
    record {
      some = (t, record { in_it = e.in_it; quiet = λ l a b. e.quiet l (Derived-fewer few all (Others r t) sub l a) (Derived-fewer few all (Others r t) sub (negated l) b); not_given = λ d. e.not_given (Derived-fewer few all (Others r t) sub t d) });
      one_sided = n.one_sided;
      includes_none = λ c k h. n.includes_none c (sub c k) h;
    }
