-- A run over the graphs that ends at an error node, from its first move on.
use Rattle.std.proofs.Common.{◌≡◌, inl, true, ℕ, ◌<◌, ◌≤◌, refl, sym, ap, ◌∙◌, subst, arith, List, [], ◌∷◌, ◌++◌, length, take, Option, Some, ℤ, pos}
use Rattle.std.proofs.lemmas.Option.{same_Some}
use Rattle.lv_base.specs.declared.fault.ErrorKind.{ErrorKind}
use Rattle.c_run.specs.Run as c
use Rattle.c_typed.specs.Facts.{IsTyped}
use Rattle.c_typed.specs.Parts.{Parts, tree_of}
use Rattle.c_typed.specs.Rules.{has}
use Rattle.c_typed.specs.Run.{run, main_number}
use Rattle.c_graph.specs.declared.graph.NodeId.{NodeId}
use Rattle.c_graph.specs.declared.graph.Cell.{Cell}
use Rattle.c_graph.specs.Shape.{widths_of}
use Rattle.c_graph.specs.Steps.{IsWhole}
use Rattle.c_graph.specs.Functions.{FnFlow, Flows, AreFlows}
use Rattle.slot_code.specs.declared.reply.Ending.{Ending}
use Rattle.slot_code.specs.declared.reply.Ending.TheVariants as ending
use Rattle.slot_code.specs.Slots.{slots_in}
use Rattle.slot_code.specs.Values.{Link, link_of}
use Rattle.slot_code.specs.Programs.{code_of}
use Rattle.slot_code.specs.Machine.{Machine, ending_of, rank, run_code_with, run_from_with, main_link}
use Rattle.slot_laws.specs.Laws.{IsOrder, MainStands}
use Rattle.slot_laws.proofs.Lying.{put_same}
use Rattle.slot_laws.proofs.Ordering.{linked_one, onto, has_onto, Grown, all_stand}
use Rattle.slot_laws.proofs.Whole.{runs_each_way}
use Rattle.typed_range_laws.specs.Ways.{as_it_is}
use Rattle.code_move_laws.specs.Mirrors.{IsLaid}
use Rattle.code_move_laws.specs.Ways.{converting, graph_way}
use Rattle.code_move_laws.proofs.Laying.{laid}
use Rattle.code_move_laws.proofs.Trimming.{converting-agrees}
use Rattle.code_move_laws.proofs.Suiting.{graph-way-suits}
use Rattle.cfg_build.specs.Steps.{node_id}
use Rattle.cfg_build.specs.Graphs.{ProgramFollows, program_code, program_setting}
use Rattle.function_runs.specs.Runs.{Along, Spot, spot, RunsBy}
use Rattle.code_flow_laws.proofs.Moving.{nothing-more}
use Rattle.code_flow_laws.specs.Followed.{IsOpened, links_in, start_of}
use Rattle.code_back_laws.specs.Back.{FailsIn, MovesAreDetermined, FlatErrorsComeBack, TypedErrorsComeBack, ProgramErrorsComeBack}
use Rattle.code_back_laws.proofs.Edges.{graphs-alone}
use Rattle.code_back_laws.proofs.Determined.{determined, error-dead, goes-on}
use Rattle.code_back_laws.proofs.Meeting.{Ahead, alone}
use Rattle.code_back_laws.proofs.Acting.{walk-meets}
use Rattle.code_back_laws.proofs.Anywhere.{stores-open}
use Rattle.code_back_laws.proofs.Beginning.{known, main, entry, opens-by, stands}

pub moves-are-determined : MovesAreDetermined
moves-are-determined t order p m n s u v first second left right flows follow x y same =
    determined p flows (graphs-alone (program_code t order) follow.numbers follow.ranges p.main (program_setting t order) p.terms (length follow.ranges) p.graphs p.exits follow.follow) m n s u v first second left right x y same

nothing-taken : (xs : List ℤ) → take 0 xs ≡ []
nothing-taken [] = refl
nothing-taken (x ∷ xs) = refl

module _ (t : Parts) (order : List ℕ) (p : Flows) (inputs draws more : List ℤ) (turns n : ℕ) (l : Link) (kind : ErrorKind) (at : ℕ) (typed : IsTyped (tree_of t)) (flows : AreFlows p) (follow : ProgramFollows t order p)
    (link : link_of p.main (links_in t order) ≡ Some l) (f : FailsIn p n draws kind at) (enough : n ≤ turns) (begin : inputs ≡ draws ++ more) where
  few : length (program_setting t order).lay.cells < 4294967296
  few = subst (λ (cs : List Cell). length cs < 4294967296) follow.cells flows.few_cells

  whole : IsWhole (widths_of (program_setting t order).lay.cells) f.store
  whole = subst (λ (cs : List Cell). IsWhole (widths_of cs) f.store) follow.cells f.whole

  abbrev opened : (slots : List ℤ) × (o : IsOpened (program_setting t order) (start_of t order slots l turns)) × (o.store ≡ f.store)
  opened = stores-open t order p.main l turns f.store typed few follow.short link whole

  abbrev m : Machine
  m = start_of t order opened.0 l turns

  abbrev open_spot : Spot
  open_spot = spot p.main (node_id 1) [] (opened.1).after

  -- main's graph begins with the opening
  from : RunsBy p f.moves (spot p.main (node_id 0) [] (opened.1).store) draws f.last
  from =
      let it : f.graph ≡ (main t order p flows follow typed l link).graph = same_Some f.graph (main t order p flows follow typed l link).graph (sym f.main ∙ (main t order p flows follow typed l link).graph_is) in
      let begins : (f.graph).entry ≡ node_id 0 = ap (λ (z : FnFlow). z.entry) it ∙ entry t order p flows follow typed l link in
      subst (λ (c : List ℕ). RunsBy p f.moves (spot p.main (node_id 0) [] c) draws f.last) (sym opened.2) (subst (λ (v : NodeId). RunsBy p f.moves (spot p.main v [] f.store) draws f.last) begins f.runs)

  ahead : Ahead (program_code t order) follow.numbers follow.ranges (program_setting t order) p (known t order p flows follow typed) flows inputs m open_spot draws kind at
  ahead =
      let o = opens-by t order p flows follow typed l link m opened.1 in
      let r = goes-on p flows (alone (program_code t order) follow.numbers follow.ranges (program_setting t order) p (known t order p flows follow typed) flows inputs) (Along o.0 ∷ []) f.moves (spot p.main (node_id 0) [] (opened.1).store) open_spot f.last [] draws draws []
      (λ move c v h. error-dead p flows move f.last v c kind at f.error h) (open_spot, [], [], refl, o.1, (refl, refl)) from (nothing-more draws) in
      record {
        last = f.last;
        moves = r.moves;
        more = more;
        runs = subst (λ (ds : List ℤ). RunsBy p r.moves open_spot ds f.last) (sym r.parts) r.runs;
        error = f.error;
        left = begin;
        enough = omega (arith, r.counts, f.counts, enough);
      }

  come-back : (slots : List ℤ) × (taken : ℕ)
      × (run_from_with t.model (λ op kind a b. converting t.model op kind a b) inputs (graph_way (program_setting t order)) (program_code t order) (start_of t order slots l turns) ≡ ending.Error kind at taken)
      × (take taken inputs ≡ draws)
  come-back =
      let (taken, ends, drew) =
      walk-meets (program_code t order) follow.numbers follow.ranges (program_setting t order) p (known t order p flows follow typed) flows inputs (rank t.model (λ op kind a b. converting t.model op kind a b) inputs (program_code t order) m) m open_spot draws kind at
      (omega arith) (stands t order p flows follow typed l link m opened.1 inputs refl (put_same opened.0 l.slot (pos (length (program_code t order))))) ahead in
      (opened.0, taken, ends, drew ∙ ap (λ (xs : List ℤ). xs ++ draws) (nothing-taken inputs))

pub flat-errors-come-back : FlatErrorsComeBack
flat-errors-come-back t order p inputs draws more turns n l kind at typed flows follow link f enough begin = come-back t order p inputs draws more turns n l kind at typed flows follow link f enough begin

-- ---- The typed tree

-- an order has main's code
main-found : (t : Parts) (order : List ℕ) (p : Flows) → IsOrder (tree_of t) order → ProgramFollows t order p → (l : Link) × (link_of p.main (links_in t order) ≡ Some l)
main-found t order p ordered follow =
    let grown : Grown (tree_of t) (λ op kind a b. converting t.model op kind a b) as_it_is [] (program_code t order) (code_of (tree_of t) order) (onto order []) =
    all_stand (tree_of t) (λ op kind a b. converting t.model op kind a b) as_it_is [] (program_code t order) order (record { instructions = []; links = [] }) [] (record { stands = tt; numbers = refl }) ordered.callees refl in
    let stands : MainStands (Some p.main) order = subst (λ (o : Option ℕ). MainStands o order) follow.main ordered.main in
    linked_one p.main (links_in t order) (subst (λ x. has x p.main ≡ true) (sym grown.numbers) (has_onto order [] p.main (inl stands)))

-- an ending that is an error is the end of a run in this error
error-end : (e : c.End) (kind : ErrorKind) (at taken : ℕ) → ending_of e ≡ ending.Error kind at taken → e ≡ c.Error kind at taken
error-end (c.Error k x y) kind at taken h =
    let a : k ≡ kind = cc in
    let b : x ≡ at = cc in
    let d : y ≡ taken = cc in
    ap (λ z. c.Error z x y) a ∙ ap (λ z. c.Error kind z y) b ∙ ap (λ z. c.Error kind at z) d
error-end c.Ended kind at taken h = absurd cc
error-end c.NoInput kind at taken h = absurd cc
error-end (c.BadInput number) kind at taken h = absurd cc
error-end (c.Spent x store n) kind at taken h = absurd cc

pub typed-errors-come-back : TypedErrorsComeBack
typed-errors-come-back t order p inputs draws more turns n kind at typed ordered flows follow f enough begin =
    let (l, link) = main-found t order p ordered follow in
    let (slots, taken, ends, drew) = flat-errors-come-back t order p inputs draws more turns n l kind at typed flows follow link f enough begin in
    (taken, error-end (run turns (tree_of t) inputs) kind at taken (sym (runs slots) ∙ by-link slots l link ∙ ends), drew)
  where
    is-laid : IsLaid (program_setting t order)
    is-laid = laid t.objects t.model (program_code t order) (slots_in (program_code t order)) (omega arith) (subst (λ (cs : List Cell). length cs < 4294967296) follow.cells flows.few_cells)

    Code-run : List ℤ → Option Link → Ending
    Code-run slots o = run_code_with (λ op k a b. converting t.model op k a b) (graph_way (program_setting t order)) (tree_of t) (code_of (tree_of t) order) slots o inputs turns

    -- the code runs as the tree
    runs : (slots : List ℤ) → Code-run slots (main_link (main_number (tree_of t).functions) (code_of (tree_of t) order)) ≡ ending_of (run turns (tree_of t) inputs)
    runs slots = runs_each_way (tree_of t) order typed ordered (λ op k a b. converting t.model op k a b) (converting-agrees t.model) (graph_way (program_setting t order)) (graph-way-suits (program_setting t order) is-laid) slots inputs turns

    by-link : (slots : List ℤ) (l : Link) → link_of p.main (links_in t order) ≡ Some l → Code-run slots (main_link (main_number (tree_of t).functions) (code_of (tree_of t) order)) ≡ Code-run slots (Some l)
    by-link slots l link = ap (λ (main : Option ℕ). Code-run slots (main_link main (code_of (tree_of t) order))) follow.main ∙ ap (λ (o : Option Link). Code-run slots o) link

pub program-errors-come-back : ProgramErrorsComeBack
program-errors-come-back t order p draws kind at typed ordered flows follow (last, (g, moves, store, main_is, whole, runs), error) =
    let f : FailsIn p (length moves) draws kind at = record { graph = g; moves = moves; store = store; last = last; main = main_is; whole = whole; counts = refl; runs = runs; error = error } in
    (length moves, λ turns inputs more enough begin. typed-errors-come-back t order p inputs draws more turns (length moves) kind at typed ordered flows follow f enough begin)
