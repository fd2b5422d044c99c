-- The analysis over any list that is the same set as the chain's result: the result itself is a ghost.
use Rattle.std.proofs.Common.{◌≡◌, ℕ, ◌+◌, ◌-◌, ◌<◌, Bool, true, false, List, [], ◌∷◌, ◌++◌, Option, Some, None, slice_get, refl, sym, ap, ◌∙◌, subst, nat_lt, ◌&&◌, ◌||◌, cond, ◌⊎◌, inl, inr, ◌≤◌, arith, length}
use Rattle.prop.specs.declared.Lit.{Lit}
use Rattle.clause_learning.specs.declared.Entry.{Entry}
use Rattle.clause_learning.specs.Trail.{Set, SetAt, below_of, first_of, Going, Told, GoingSet, ToldSet, added}
use Rattle.resolution_log.specs.Logs.{Same}
use Rattle.resolution_log.proofs.Places.{bool_same}
use Rattle.resolution_log.proofs.Sames.{resolved_same}
use Rattle.std.proofs.lemmas.Bool.{both_ways}
use Rattle.prop.proofs.Sets.{Has-append, Has-left, Has-right, Has-head, Has-tail, Has-cons}
use Rattle.clause_learning.proofs.AnalysisLaws.{pop_level, going_reason, going_decided, going_end, going_pass, going_step, going_learn, below_all, first_false, first_true}
use Rattle.clause_learning.proofs.JumpLaws.{below_from}
use Rattle.clause_learning.specs.Covers.{RisesFrom, last_level}
use Rattle.clause_learning.proofs.StoreLaws.{rises_pop}
use Rattle.resolution_log.proofs.Results.{get-below}
use Rattle.prop.specs.Logic.{negated}
use Rattle.prop.specs.Steps.{has, Has, resolved, without, same}

has_same : (c d : List Lit) (l : Lit) → Same c d → has c l ≡ has d l
has_same c d l s = bool_same (has c l) (has d l) (s.to l) (s.from l)

below_same : (k : ℕ) (t : List Entry) (u : Lit) (c d : List Lit) → Same c d → below_of k t u c ≡ below_of k t u d
below_same k t u c d s = bool_same (below_of k t u c) (below_of k t u d)
    (λ h. below_from k t u d (λ m hm n. below_all k t u c h m (s.from m hm) n))
    (λ h. below_from k t u c (λ m hm n. below_all k t u d h m (s.to m hm) n))

first_same : (level : ℕ) (t : List Entry) (u : Lit) (c d : List Lit) → Same c d → first_of level t u c ≡ first_of level t u d
first_same level t u c d s = ap (λ w. nat_lt 0 level && w) (below_same (level - 1) t u c d s)

module _ (known : List (List Lit)) (level : ℕ) (x t : List Entry) (e : Entry) (conflict : ℕ) (d : List Lit) (pairs : List (ℕ × ℕ)) (g : GoingSet known level x conflict d pairs) (is : x ≡ t ++ (e ∷ [])) where
  pub set_pass : has d (negated e.lit) ≡ false → GoingSet known level t conflict d pairs
  set_pass h = record { whole = g.whole; go = going_pass known level x t e conflict g.whole pairs g.go is (has_same g.whole d (negated e.lit) g.same ∙ h); same = g.same }

  pub set_step : (r : ℕ) (c d2 : List Lit) (p : ℕ × ℕ) → has d (negated e.lit) ≡ true → e.reason ≡ Some r → slice_get known r ≡ Some c → first_of level t (negated e.lit) d ≡ false → p.0 ≡ e.lit.var → p.1 ≡ r → Same (resolved (negated e.lit) d c) d2 → GoingSet known level t conflict d2 (pairs ++ (p ∷ []))
  set_step r c d2 p h at gets f pv pc s = record {
    whole = resolved (negated e.lit) g.whole c;
    go = going_step known level x t e conflict g.whole pairs g.go is r c p (has_same g.whole d (negated e.lit) g.same ∙ h) at gets (first_false level t (negated e.lit) g.whole (first_same level t (negated e.lit) g.whole d g.same ∙ f)) pv pc;
    same = let a = resolved_same (negated e.lit) g.whole d c c g.same (record { to = λ l k. k; from = λ l k. k }) in record { to = λ l k. s.to l (a.to l k); from = λ l k. a.from l (s.from l k) };
  }

  pub set_learn : has d (negated e.lit) ≡ true → first_of level t (negated e.lit) d ≡ true → ToldSet known level t conflict d pairs (Some (negated e.lit))
  set_learn h f =
      let k = first_true level t (negated e.lit) g.whole (first_same level t (negated e.lit) g.whole d g.same ∙ f) in
      record { whole = g.whole; told = going_learn known level x t e conflict g.whole pairs g.go is k.0 (has_same g.whole d (negated e.lit) g.same ∙ h) k.1; same = g.same }

-- each literal once
added_to : (out : List Lit) (l : Lit) (c : List Lit) (x : Lit) → Has (added out l c) x → Has out x ⊎ Has (without l c) x
added_to out l [] x h = inl h
added_to out l (m ∷ c) x h = go (same m l) (has out m) refl refl h (added_to out l c x) (added_to (out ++ (m ∷ [])) l c x)
  where
    go : (a b : Bool) → same m l ≡ a → has out m ≡ b → Has (added (cond (a || b) out (out ++ (m ∷ []))) l c) x → (Has (added out l c) x → Has out x ⊎ Has (without l c) x) → (Has (added (out ++ (m ∷ [])) l c) x → Has (out ++ (m ∷ [])) x ⊎ Has (without l c) x) → Has out x ⊎ Has (cond a (without l c) (m ∷ without l c)) x
    go true b p q k f g = f k
    go false true p q k f g = elim (f k) [ inl y ↦ inl y | inr y ↦ inr (Has-tail m (without l c) x y) ]
    go false false p q k f g = elim (g k) [
      | inl y ↦ elim (Has-append out (m ∷ []) x y) [ inl z ↦ inl z | inr z ↦ elim (Has-cons m [] x z) [ inl e ↦ inr (subst (Has (m ∷ without l c)) e (Has-head m (without l c))) | inr n ↦ absurd (both_ways false refl n) ] ]
      | inr y ↦ inr (Has-tail m (without l c) x y)
    ]

added_from : (out : List Lit) (l : Lit) (c : List Lit) (x : Lit) → Has out x ⊎ Has (without l c) x → Has (added out l c) x
added_from out l [] x (inl h) = h
added_from out l [] x (inr h) = absurd (both_ways false refl h)
added_from out l (m ∷ c) x h = go (same m l) (has out m) refl refl h (added_from out l c x) (added_from (out ++ (m ∷ [])) l c x)
  where
    go : (a b : Bool) → same m l ≡ a → has out m ≡ b → Has out x ⊎ Has (cond a (without l c) (m ∷ without l c)) x → (Has out x ⊎ Has (without l c) x → Has (added out l c) x) → (Has (out ++ (m ∷ [])) x ⊎ Has (without l c) x → Has (added (out ++ (m ∷ [])) l c) x) → Has (added (cond (a || b) out (out ++ (m ∷ []))) l c) x
    go true b p q k f g = f k
    go false true p q k f g = f (elim k [ inl y ↦ inl y | inr y ↦ elim (Has-cons m (without l c) x y) [ inl e ↦ inl (subst (Has out) e q) | inr z ↦ inr z ] ])
    go false false p q k f g = g (elim k [ inl y ↦ inl (Has-left out (m ∷ []) x y) | inr y ↦ elim (Has-cons m (without l c) x y) [ inl e ↦ inl (Has-right out (m ∷ []) x (subst (Has (m ∷ [])) e (Has-head m []))) | inr z ↦ inr z ] ])

pub joined_same : (l : Lit) (c d : List Lit) → Same (resolved l c d) (added (added [] l c) (negated l) d)
joined_same l c d = record {
  to = λ x h. added_from (added [] l c) (negated l) d x (elim (Has-append (without l c) (without (negated l) d) x h) [ inl a ↦ inl (added_from [] l c x (inr a)) | inr b ↦ inr b ]);
  from = λ x h. elim (added_to (added [] l c) (negated l) d x h) [
    | inl a ↦ elim (added_to [] l c x a) [ inl n ↦ absurd (both_ways false refl n) | inr y ↦ Has-left (without l c) (without (negated l) d) x y ]
    | inr b ↦ Has-right (without l c) (without (negated l) d) x b
  ];
}

pub set_end : (known : List (List Lit)) (level : ℕ) (x : List Entry) (conflict : ℕ) (d : List Lit) (pairs : List (ℕ × ℕ)) → GoingSet known level x conflict d pairs → x ≡ [] → ToldSet known level x conflict d pairs None
set_end known level x conflict d pairs g e = record { whole = g.whole; told = going_end known level x conflict g.whole pairs g.go e; same = g.same }

pub set_start : (known : List (List Lit)) (level : ℕ) (t : List Entry) (conflict : ℕ) (d : List Lit) → Going known level t conflict d [] → GoingSet known level t conflict d []
set_start known level t conflict d g = record { whole = d; go = g; same = record { to = λ l h. h; from = λ l h. h } }

-- the entry that was taken away
pub popped_rises : (known : List (List Lit)) (level : ℕ) (x t : List Entry) (e : Entry) (conflict : ℕ) (d : List Lit) (pairs : List (ℕ × ℕ)) → GoingSet known level x conflict d pairs → RisesFrom 0 x → x ≡ t ++ (e ∷ []) → RisesFrom 0 t × (level ≤ last_level 0 t + 1)
popped_rises known level x t e conflict d pairs g r is =
    let p = rises_pop 0 t e (subst (RisesFrom 0) is r) in
    let le = pop_level known level x t e g.go.start g.whole pairs g.go.ok is g.go.an in
    (p.0, omega (arith, p.2, le))

pub set_reason : (known : List (List Lit)) (level : ℕ) (x t : List Entry) (e : Entry) (conflict : ℕ) (d : List Lit) (pairs : List (ℕ × ℕ)) → GoingSet known level x conflict d pairs → x ≡ t ++ (e ∷ []) → (r : ℕ) → e.reason ≡ Some r → r < length known
set_reason known level x t e conflict d pairs g is r at = let (c, h) = going_reason known level x t e conflict g.whole pairs g.go is r at in get-below known r c h

pub set_decided : (known : List (List Lit)) (level : ℕ) (x t : List Entry) (e : Entry) (conflict : ℕ) (d : List Lit) (pairs : List (ℕ × ℕ)) → GoingSet known level x conflict d pairs → x ≡ t ++ (e ∷ []) → ((r : ℕ) → e.reason ≡ Some r → ⊥) → first_of level t (negated e.lit) d ≡ false → ⊥
set_decided known level x t e conflict d pairs g is no' f = going_decided known level x t e conflict g.whole pairs g.go is (is_none e.reason no') (first_false level t (negated e.lit) g.whole (first_same level t (negated e.lit) g.whole d g.same ∙ f))
  where
    is_none : (o : Option ℕ) → ((x : ℕ) → o ≡ Some x → ⊥) → o ≡ None
    is_none None h = refl
    is_none (Some y) h = absurd (h y refl)

-- the joined list, at the values of a goal
pub joined : (b2 b : Lit) (d2 d c2 c e : List Lit) → e ≡ added (added [] b2 d2) (negated b2) c2 → b2 ≡ b → d2 ≡ d → c2 ≡ c → Same (resolved b d c) e
joined b2 b d2 d c2 c e h f g k =
    let p : e ≡ added (added [] b d) (negated b) c = subst (λ w. e ≡ added (added [] w d) (negated w) c) f (subst (λ w. e ≡ added (added [] b2 w) (negated b2) c) g (subst (λ w. e ≡ added (added [] b2 d2) (negated b2) w) k h)) in
    subst (Same (resolved b d c)) (sym p) (joined_same b d c)
