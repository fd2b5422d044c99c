-- The machine's steps, one after the other, and the moves of a run over the graphs.
use Rattle.std.proofs.Common.{◌≡◌, ◌⊎◌, inl, inr, ℕ, zero, suc, ◌≤◌, refl, sym, ap, ◌∙◌, subst, arith, List, [], ◌∷◌, ◌++◌, length, take, Option, Some, slice_get, ℤ, pos}
use Rattle.std.proofs.lemmas.Option.{same_Some, none-some, slice_get_past}
use Rattle.c_run.specs.Run.{Compute}
use Rattle.c_graph.specs.declared.graph.NodeId.{NodeId}
use Rattle.c_graph.specs.declared.graph.Cell.{Cell}
use Rattle.c_graph.specs.Shape.{widths_of}
use Rattle.c_graph.specs.Steps.{IsWhole}
use Rattle.c_graph.specs.Functions.{Flows}
use Rattle.slot_code.specs.declared.flat.Instruction.{Instruction}
use Rattle.slot_code.specs.declared.reply.Ending.TheVariants as ending
use Rattle.slot_code.specs.Machine.{Machine, Next, Goes, Over, act_at_with, step_with}
use Rattle.slot_laws.proofs.Lying.{put_same}
use Rattle.typed_range_laws.specs.Ways.{Way}
use Rattle.code_moves.specs.Setting.{Setting}
use Rattle.code_move_laws.specs.Mirrors.{Mirrors}
use Rattle.code_move_laws.specs.Ways.{converting, graph_way}
use Rattle.cfg_build.specs.Steps.{node_id}
use Rattle.cfg_build.specs.Graphs.{program_code, program_setting}
use Rattle.function_runs.specs.Runs.{Along, Spot, spot, RunsBy, FunctionsRunTo}
use Rattle.code_flow_laws.specs.Followed.{start_of}
use Rattle.code_flow_laws.proofs.Ranging.{Range}
use Rattle.code_flow_laws.proofs.Moving.{Moves, moves-join, one-move, stay, in-order, nothing-more}
use Rattle.code_flow_laws.proofs.Stepping.{Known, Stands, Comes}
use Rattle.code_flow_laws.proofs.Walking.{step}
use Rattle.code_back_laws.proofs.Beginning.{known, main, entry, opens-by, stands}
use Rattle.code_visit_laws.specs.Visits.{behind, FlatVisitsFollow}

module _ (code : List Instruction) (numbers : List ℕ) (ranges : List Range) (g : Setting) (p : Flows) (know : Known code numbers ranges g p) (inputs : List ℤ) where
  abbrev compute : Compute
  compute op kind a b = converting g.model op kind a b

  abbrev way : Way
  way = graph_way g

  -- the run comes to the machine's place, or the code is at its end
  abbrev pub Visits : Machine → Spot → Machine → Type 0
  Visits m s o = (length code ≤ o.place) ⊎ ((t : Spot) × (draws : List ℤ) × Moves p s draws t × Stands code numbers ranges g p know inputs o t × (take (o.st).taken inputs ≡ take (m.st).taken inputs ++ draws))

  -- behind the code the machine goes nowhere
  past : (n : ℕ) (x o : Machine) → length code ≤ x.place → behind g.model compute inputs way code n (Goes x) ≡ Some o → length code ≤ o.place
  past zero x o le e = let same : x ≡ o = same_Some x o e in let places = ap (λ (z : Machine). z.place) same in omega (arith, le, places)
  past (suc n) x o le e =
      let none : step_with g.model compute inputs way code x ≡ Over ending.Ended = ap (λ (q : Option Instruction). act_at_with g.model compute inputs way q x) (slice_get_past code x.place le) in
      absurd (none-some o (sym (ap (behind g.model compute inputs way code n) none) ∙ e))

  go-on : (n : ℕ) (m o : Machine) (s : Spot) (next : Next) → Comes code numbers ranges g p know inputs m s next → behind g.model compute inputs way code n next ≡ Some o
      → ((x : Machine) (t : Spot) → Stands code numbers ranges g p know inputs x t → behind g.model compute inputs way code n (Goes x) ≡ Some o → Visits x t o) → Visits m s o
  go-on n m o s (Over x) c e later = absurd (none-some o e)
  go-on n m o s (Goes x) (inl le) e later = inl (past n x o le e)
  go-on n m o s (Goes x) (inr (t, draws, moves, there, took)) e later = behind-it (later x t there e)
    where
      behind-it : Visits x t o → Visits m s o
      behind-it (inl le) = inl le
      behind-it (inr (u, rest, more, stands_there, took2)) =
          inr (u, draws ++ rest, moves-join p s t u draws rest moves more, stands_there, took2 ∙ ap (λ (xs : List ℤ). xs ++ rest) took ∙ in-order (take (m.st).taken inputs) draws rest)

  pub visits : (n : ℕ) (m o : Machine) (s : Spot) → Stands code numbers ranges g p know inputs m s → behind g.model compute inputs way code n (Goes m) ≡ Some o → Visits m s o
  visits zero m o s h e =
      let same : m ≡ o = same_Some m o e in
      subst (λ (z : Machine). Visits m s z) same (inr (s, [], stay p s, h, nothing-more (take (m.st).taken inputs)))
  visits (suc n) m o s h e = go-on n m o s (step_with g.model compute inputs way code m) (step code numbers ranges g p know inputs m s h) e (λ x t there rest. visits n x o t there rest)

nothing-taken : (xs : List ℤ) → take 0 xs ≡ []
nothing-taken [] = refl
nothing-taken (x ∷ xs) = refl

pub flat-visits-follow : FlatVisitsFollow
flat-visits-follow t order p slots inputs turns n l o typed flows follow link opened walked short =
    found
    (visits (program_code t order) follow.numbers follow.ranges (program_setting t order) p (known t order p flows follow typed) inputs n m o (spot p.main (node_id 1) [] opened.after)
    (stands t order p flows follow typed l link m opened inputs refl (put_same slots l.slot (pos (length (program_code t order))))) walked)
  where
    m : Machine
    m = start_of t order slots l turns

    Found : Type 0
    Found =
        (s : Spot) × (number : ℕ) × FunctionsRunTo p (take (o.st).taken inputs) s × (slice_get follow.numbers o.place ≡ Some number) × (s.node ≡ node_id number)
        × Mirrors (program_setting t order) o.slots (o.st).store s.store

    found : Visits (program_code t order) follow.numbers follow.ranges (program_setting t order) p (known t order p flows follow typed) inputs m (spot p.main (node_id 1) [] opened.after) o → Found
    found (inl le) = absurd (omega (arith, le, short))
    found (inr (s, draws, moves, there, took)) =
        let b = opens-by t order p flows follow typed l link m opened in
        let begin : Spot = spot p.main (node_id 0) [] opened.store in
        let (all, run) = moves-join p begin (spot p.main (node_id 1) [] opened.after) s [] draws (one-move p (Along b.0) begin (spot p.main (node_id 1) [] opened.after) [] b.1) moves in
        let drawn : draws ≡ take (o.st).taken inputs = sym (took ∙ ap (λ (xs : List ℤ). xs ++ draws) (nothing-taken inputs)) in
        let from = subst (λ (v : NodeId). RunsBy p all (spot p.main v [] opened.store) draws s) (sym (entry t order p flows follow typed l link)) run in
        let whole : IsWhole (widths_of p.cells) opened.store = subst (λ (cs : List Cell). IsWhole (widths_of cs) opened.store) (sym follow.cells) opened.whole in
        let f = main t order p flows follow typed l link in (
          s,
          there.node.0,
          subst (λ (ds : List ℤ). FunctionsRunTo p ds s) drawn (f.graph, all, opened.store, f.graph_is, whole, from),
          there.node.1,
          there.node.2,
          there.mirrors,
        )
