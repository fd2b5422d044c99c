-- What a turn of the search leaves, at the values of the code.
use Rattle.std.proofs.Common.{◌≡◌, ℕ, ◌+◌, ◌-◌, ◌*◌, ◌<◌, ◌≤◌, Bool, true, false, List, [], ◌∷◌, ◌++◌, Option, Some, None, slice_get, zero, suc, ◌⊎◌, inl, inr, refl, sym, ap, ◌∙◌, subst, arith, length, length-append}
use Rattle.std.proofs.lemmas.Bool.{both_ways, cases_Bool}
use Rattle.prop.specs.declared.Lit.{Lit}
use Rattle.prop.specs.Logic.{all_hold}
use Rattle.prop.specs.Trues.{listed}
use Rattle.prop.specs.Steps.{Has, In}
use Rattle.prop.proofs.Sets.{In-left, Has-head, Has-tail, Has-cons}
use Rattle.resolution_log.specs.Codes.{AllBelow}
use Rattle.resolution_log.specs.declared.Chain.{Chain}
use Rattle.clause_learning.specs.declared.Entry.{Entry}
use Rattle.clause_learning.specs.Trail.{set_in, Set, Holds}
use Rattle.clause_learning.specs.Covers.{RisesFrom, last_level}
use Rattle.clause_learning.specs.Solve.{State, IsSpent, IsHeavy, pairs_of, values_of, trues_of}
use Rattle.clause_learning.proofs.TrailLaws.{quiet_trail}
use Rattle.clause_learning.proofs.StateLaws.{pairs_push, front_is, same_clause}
use Rattle.clause_learning.proofs.StoreLaws.{last_below}
use Rattle.clause_learning.proofs.MeetLaws.{done_meets, met_answer}
use Rattle.dense_trail.specs.declared.Trail.{Trail}
use Rattle.dense_trail.specs.Dense.{known_of, entries_of}
use Rattle.watched_clauses.specs.Kept.{IsLinked}
use Rattle.conflict_analysis.specs.Walk.{RowsFit}
use Rattle.cdcl_solver.specs.Stops.{trail_entries}
use Rattle.cdcl_solver.specs.Search.{Rests}
use Rattle.cdcl_solver.proofs.ListLaws.{get_push}

pub turn_spent : (clauses : List (List Lit)) (learn : ℕ) (known : List (List Lit)) (level : ℕ) (t : List Entry) (log log2 : List Chain) (ch : Chain) → State clauses known level t log2 → log2 ≡ log ++ (ch ∷ []) → length log < learn → learn ≤ length log2 → IsSpent clauses learn log2
turn_spent clauses learn known level t log log2 ch s is short big = ((s.results, s.new), omega (arith, ap length is, length-append log (ch ∷ []), short, big))

pub turn_heavy : (clauses : List (List Lit)) (learn limit : ℕ) (known : List (List Lit)) (level : ℕ) (t : List Entry) (log log2 : List Chain) (ch : Chain) (pairs : ℕ) → State clauses known level t log2 → log2 ≡ log ++ (ch ∷ []) → pairs ≡ pairs_of log → pairs_of log < limit → length log2 < learn → limit ≤ pairs + length ch.pairs → IsHeavy clauses learn limit log2
turn_heavy clauses learn limit known level t log log2 ch pairs s is counted light few big = (
  (s.results, s.new),
  few,
  omega (arith, ap pairs_of is, pairs_push log ch, counted, big),
  λ front last e. subst (λ w. pairs_of w < limit) (front_is log front ch last (sym is ∙ e)) light,
)

pub turn_counted : (log log2 : List Chain) (ch : Chain) (pairs total : ℕ) → log2 ≡ log ++ (ch ∷ []) → pairs ≡ pairs_of log → total ≡ pairs + length ch.pairs → total ≡ pairs_of log2
turn_counted log log2 ch pairs total is counted t = omega (arith, ap pairs_of is, pairs_push log ch, counted, t)

pub turn_light : (log log2 : List Chain) (ch : Chain) (pairs limit : ℕ) → log2 ≡ log ++ (ch ∷ []) → pairs ≡ pairs_of log → pairs + length ch.pairs < limit → pairs_of log2 < limit
turn_light log log2 ch pairs limit is counted small = omega (arith, ap pairs_of is, pairs_push log ch, counted, small)

pub turn_rests : (clauses : List (List Lit)) (vars : List ℕ) (rows rows2 : List (List ℕ)) (level : ℕ) (t : Trail) (log : List Chain) (clause : List ℕ) → rows2 ≡ rows ++ (clause ∷ []) → RowsFit vars rows → AllBelow (2 * length vars) clause → State clauses (known_of vars (rows ++ (clause ∷ []))) level (trail_entries vars t) log → IsLinked vars (rows ++ (clause ∷ [])) level t → Rests clauses vars rows2 level t log
turn_rests clauses vars rows rows2 level t log clause is fit small s l = subst (λ w. Rests clauses vars w level t log) (sym is) (record {
  state = s;
  linked = l;
  fit = λ k r g. elim (get_push rows clause k r g) [ inl p ↦ fit k r p.0 | inr p ↦ subst (AllBelow (2 * length vars)) (sym p.1) small ];
})

entries_length : (vars levels : List ℕ) (reasons : List (Option ℕ)) (xs : List ℕ) → length (entries_of vars levels reasons xs) ≡ length xs
entries_length vars levels reasons [] = refl
entries_length vars levels reasons (x ∷ xs) = ap suc (entries_length vars levels reasons xs)

pub turn_deep : (vars : List ℕ) (t : Trail) (low : ℕ) → RisesFrom 0 (trail_entries vars t) × (last_level 0 (trail_entries vars t) ≡ low) → low ≤ length t.codes.items
turn_deep vars t low r = let b = last_below 0 (trail_entries vars t) r.0 in omega (arith, b, r.1, entries_length vars t.levels.items t.reasons.items t.codes.items)

-- a clause has a true literal, or none
some_true : (t : List Entry) (c : List Lit) → ((m : Lit) × Has c m × Set t m) ⊎ ((m : Lit) → Has c m → Set t m → ⊥)
some_true t [] = inr (λ m h s. both_ways false refl h)
some_true t (x ∷ c) = elim (cases_Bool (set_in t x)) [
  | inl a ↦ inl (x, Has-head x c, a)
  | inr n ↦ elim (some_true t c) [
    | inl (m, hm, sm) ↦ inl (m, Has-tail x c m hm, sm)
    | inr f ↦ inr (λ m h s. elim (Has-cons x c m h) [ inl e ↦ both_ways (set_in t x) n (subst (λ w. Set t w) (sym e) s) | inr b ↦ f m b s ])
  ]
]

pub turn_met : (clauses known : List (List Lit)) (level level2 : ℕ) (t t2 : List Entry) (log : List Chain) (met : List ℕ) → State clauses known level t log → Holds known level2 t2 → ((c : List Lit) → In known c → ((l : Lit) → Has c l → Set t2 l → ⊥) → c ≡ []) → met ≡ trues_of t2 → all_hold (listed met) clauses ≡ true
turn_met clauses known level level2 t t2 log met s h stop is = met_answer t2 met met clauses is (λ v. refl) (done_meets t2 clauses (quiet_trail known t2 h.ok) (λ c hc. (let (d, hd, q) = same_clause known (clauses ++ s.results) c s.parts (In-left clauses s.results c hc) in
    elim (some_true t2 d) [
      | inl (m, hm, sm) ↦ (m, q.to m hm, sm)
      | inr f ↦ absurd (s.some d hd (stop d hd f))
    ])))
