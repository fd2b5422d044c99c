-- Laws of a round, of the start and of the answers.
use Rattle.std.proofs.Common.{◌≡◌, ℕ, ◌+◌, ◌*◌, ◌<◌, ◌≤◌, Bool, true, false, ◌&&◌, ◌||◌, cond, List, [], ◌∷◌, ◌++◌, Option, Some, None, slice_get, zero, suc, ◌⊎◌, inl, inr, refl, sym, ap, ◌∙◌, subst, arith, length, get_or, take, drop, append-nil, append_assoc, nat_eq, replicate}
use Rattle.std.proofs.lemmas.Bool.{both_ways, cases_Bool, and_parts, and_from}
use Rattle.prop.specs.declared.Lit.{Lit}
use Rattle.prop.specs.Logic.{negated, positive_of, all_hold, clause_holds, lit_value}
use Rattle.prop.specs.Trues.{listed}
use Rattle.prop.specs.Steps.{same, same_sign, Has, In}
use Rattle.prop.proofs.Sets.{In-left, In-append}
use Rattle.prop.proofs.All.{drop_next}
use Rattle.resolution_log.specs.declared.Chain.{Chain}
use Rattle.resolution_log.specs.Chains.{chain_result}
use Rattle.resolution_log.specs.Logs.{New, New.none, Lean, AllSame}
use Rattle.resolution_log.specs.Codes.{CoversAll}
use Rattle.resolution_log.proofs.Results.{get-below}
use Rattle.clause_learning.specs.declared.Entry.{Entry}
use Rattle.plain_solver.specs.declared.engine.Solver.{Solver}
use Rattle.clause_learning.specs.Trail.{set_in, Set, SetAt, TrailOk.none_set, Going, Holds}
use Rattle.clause_learning.specs.Covers.{RisesFrom, last_level}
use Rattle.clause_learning.specs.Solve.{State, IsRefuted, values_of, trues_of, pairs_of}
use Rattle.plain_solver.specs.Search.{StateOf}
use Rattle.clause_learning.proofs.TrailLaws.{quiet_trail}
use Rattle.clause_learning.proofs.JumpLaws.{going_start}
use Rattle.clause_learning.proofs.MeetLaws.{done_meets, true_of}
use Rattle.clause_learning.proofs.StateLaws.{all_refl, same_clause}

module _ (clauses : List (List Lit)) (learn limit : ℕ) (s : Solver) (st : StateOf clauses learn limit s) (level : ℕ) (t : List Entry) (h : Holds s.known level t) where
  pub round_state : State clauses s.known level t s.log
  round_state = record { results = st.state.results; parts = st.state.parts; new = st.state.new; holds = h; some = st.state.some }

  pub round_begin : (k : ℕ) (c : List Lit) → slice_get s.known k ≡ Some c → ((m : Lit) → Has c m → Set t (negated m)) → (d : List Lit) → slice_get s.known k ≡ Some d → Going s.known level t k d []
  round_begin k c g f d gd =
      let q : c ≡ d = cc (g, gd) in
      going_start s.known level t k d h st.state.some gd (λ m hm. f m (subst (λ w. Has w m) (sym q) hm))

  pub round_met : ((c : List Lit) → In s.known c → (m : Lit) × Has c m × Set t m) → all_hold (values_of t) clauses ≡ true
  round_met all = done_meets t clauses (quiet_trail s.known t h.ok) (λ c hc.
      let (d, hd, q) = same_clause s.known (clauses ++ st.state.results) c st.state.parts (In-left clauses st.state.results c hc) in
      let (m, hm, sm) = all d hd in
      (m, q.to m hm, sm))
