-- A visit of a loop of main, over the graphs of functions.
use Rattle.std.proofs.Common.{◌≡◌, ◌⊎◌, inl, inr, ℕ, ◌<◌, ◌≤◌, Bool, true, refl, sym, ap, ◌∙◌, subst, arith, List, [], ◌∷◌, ◌++◌, length, take, Option, None, Some, slice_get, ℤ, pos}
use Rattle.std.proofs.lemmas.Option.{same_Some, none-some, slice_get_within}
use Rattle.std.proofs.lemmas.Bool.{eq-eqb}
use Rattle.c_run.specs.Run.{choose}
use Rattle.c_typed.specs.Parts.{Parts, tree_of}
use Rattle.c_typed.specs.Facts.{IsTyped}
use Rattle.c_graph.specs.declared.graph.NodeId.{NodeId}
use Rattle.c_graph.specs.declared.graph.LoopAt.{LoopAt}
use Rattle.c_graph.specs.declared.graph.Cell.{Cell}
use Rattle.c_graph.specs.Shape.{widths_of}
use Rattle.c_graph.specs.Steps.{IsWhole}
use Rattle.c_graph.specs.Functions.{Flows, AreFlows}
use Rattle.slot_code.specs.declared.flat.Instruction.{Instruction}
use Rattle.slot_code.specs.declared.flat.Instruction.TheVariants as i
use Rattle.slot_code.specs.Slots.{get, slots_in}
use Rattle.slot_code.specs.Values.{Link, link_of}
use Rattle.slot_code.specs.Programs.{code_of}
use Rattle.slot_code.specs.Machine.{Machine, main_link, rank}
use Rattle.slot_laws.proofs.Lying.{put_same}
use Rattle.slot_turn_laws.specs.Turns.{spent_at, turned_code}
use Rattle.slot_turn_laws.proofs.Whole.{turns-as-tree}
use Rattle.code_moves.specs.Setting.{Setting}
use Rattle.code_move_laws.specs.Mirrors.{IsLaid}
use Rattle.code_move_laws.specs.Ways.{converting, graph_way}
use Rattle.code_move_laws.proofs.Laying.{laid}
use Rattle.code_move_laws.proofs.Trimming.{converting-agrees}
use Rattle.code_move_laws.proofs.Suiting.{graph-way-suits}
use Rattle.cfg_build.specs.Steps.{node_id}
use Rattle.cfg_build.specs.Keeping.{is_inside}
use Rattle.cfg_build.specs.Follows.{node_of}
use Rattle.cfg_build.specs.Graphs.{ProgramFollows, program_code, program_setting}
use Rattle.function_runs.specs.Runs.{Along, Spot, Return, spot, RunsBy, FunctionsRunTo}
use Rattle.code_flow_laws.specs.Followed.{IsOpened, links_in, start_of}
use Rattle.code_flow_laws.proofs.Ranging.{Range}
use Rattle.code_flow_laws.proofs.Graphs.{within}
use Rattle.code_flow_laws.proofs.Open.{Opened, bottom}
use Rattle.code_flow_laws.proofs.Moving.{Moves, moves-join, nothing-more, one-move}
use Rattle.code_flow_laws.proofs.Stepping.{Known, Stands, the_plan, follows, in_range, node_there, way-moves}
use Rattle.code_start_laws.proofs.Whole.{program-opens}
use Rattle.code_back_laws.proofs.Beginning.{known, main, entry, opens-by, stands}
use Rattle.code_visit_laws.proofs.Visiting.{visits}
use Rattle.program_visits.specs.Visiting.{Shows}
use Rattle.loop_visit_laws.specs.Loops.{TurnsInMain, LoopVisitsFollow}
use Rattle.loop_visit_laws.proofs.Asking.{Asks, asks}
use Rattle.loop_visit_laws.proofs.Outermost.{outermost, run-keeps}

nothing-taken : (xs : List ℤ) → take 0 xs ≡ []
nothing-taken [] = refl
nothing-taken (x ∷ xs) = refl

-- at a place of main no call is open
none-open : (size main : ℕ) (numbers : List ℕ) (ranges : List Range) (slots : List ℤ) (range own : Range) (returns : List Return) (goal : ℕ) → is_inside range goal ≡ true → is_inside own goal ≡ true → slice_get ranges main ≡ Some own
    → Opened size main numbers ranges slots range returns → returns ≡ []
none-open size main numbers ranges slots range own [] goal inside at_main there h = refl
none-open size main numbers ranges slots range own (r ∷ rest) goal inside at_main there (caller, w, h) =
    let (b, is, le) = bottom size main numbers ranges slots caller rest h in
    let same : b ≡ own = same_Some b own (sym is ∙ there) in
    let entries : b.entry ≡ own.entry = ap (λ (z : Range). z.entry) same in
    let here = within range goal inside in
    let mine = within own goal at_main in
    absurd (omega (arith, le, entries, w.lies.before, here.to, mine.from))

module _ (t : Parts) (order : List ℕ) (p : Flows) (flows : AreFlows p) (f : ProgramFollows t order p) (typed : IsTyped (tree_of t)) (inputs : List ℤ) (l : LoopAt) (values : List (List ℤ)) (v : TurnsInMain t order p f l) where
  abbrev code : List Instruction
  code = program_code t order

  abbrev g : Setting
  g = program_setting t order

  abbrev know : Known code f.numbers f.ranges g p
  know = known t order p flows f typed

  -- a run over the graphs has come to the loop's node, and shows what the objects hold
  abbrev Visited : Type 0
  Visited = (taken : ℕ) × (store : List ℕ) × FunctionsRunTo p (take taken inputs) (spot p.main l.node [] store) × Shows g values store

  module _ (k : Link) (link : link_of p.main (links_in t order) ≡ Some k) (m : Machine) (opened : IsOpened g m) where
    abbrev begin : Spot
    begin = spot p.main (node_id 0) [] opened.store

    -- the machine stands at a turn of the loop, and the run at that place's node
    module _ (o : Machine) (goal : ℕ) (here : slice_get code o.place ≡ Some (i.Turn l.at goal)) (shown : (o.st).store ≡ values) (s : Spot) (h : Stands code f.numbers f.ranges g p know inputs o s) where
      goes : goal ≡ v.goal
      goes = v.only.all o.place goal here

      inside : is_inside h.range goal ≡ true
      inside = in_range code f.numbers f.ranges g p know inputs o s h (i.Turn l.at goal) here

      none : s.returns ≡ []
      none =
          none-open (length code) p.main f.numbers f.ranges o.slots h.range v.plan.range s.returns goal inside
          (subst (λ (q : ℕ). is_inside v.plan.range q ≡ true) (sym goes) v.inside) v.main.range h.open_calls

      abbrev there : NodeId
      there = node_of (the_plan code f.numbers f.ranges g p know inputs o s h (i.Turn l.at goal) here) goal

      node : there ≡ l.node
      node =
          let (n, numbered, is) = node_there code f.numbers f.ranges g p know inputs o s h (i.Turn l.at goal) here goal inside in
          let same : n ≡ v.number = same_Some n v.number (sym numbered ∙ ap (slice_get f.numbers) goes ∙ v.numbered) in
          is ∙ ap node_id same ∙ sym v.node

      -- by the turn's edge to the loop's node
      turns : Moves p s [] (spot s.function there s.returns s.store)
      turns = way-moves code f.numbers f.ranges g p know inputs o s h (i.Turn l.at goal) here there (follows code f.numbers f.ranges g p know inputs o s h (i.Turn l.at goal) here)

      arrived : (draws : List ℤ) → Moves p begin draws s → take (o.st).taken inputs ≡ draws → Visited
      arrived draws moves took =
          let (all, run) = moves-join p begin s (spot s.function there s.returns s.store) draws [] moves turns in
          let outer = run-keeps p all begin (spot s.function there s.returns s.store) (draws ++ []) run in
          let function : s.function ≡ p.main = sym (ap (outermost s.function) none) ∙ outer in
          let at_main : spot s.function there s.returns s.store ≡ spot p.main l.node [] s.store =
          ap (λ (x : ℕ). spot x there s.returns s.store) function ∙ ap (λ (x : NodeId). spot p.main x s.returns s.store) node ∙ ap (λ (x : List Return). spot p.main l.node x s.store) none in
          let drawn : draws ++ [] ≡ take (o.st).taken inputs = sym (nothing-more draws) ∙ sym took in
          let run2 = subst (λ (z : Spot). RunsBy p all begin (draws ++ []) z) at_main run in
          let run3 = subst (λ (ds : List ℤ). RunsBy p all begin ds (spot p.main l.node [] s.store)) drawn run2 in
          let from = subst (λ (x : NodeId). RunsBy p all (spot p.main x [] opened.store) (take (o.st).taken inputs) (spot p.main l.node [] s.store)) (sym (entry t order p flows f typed k link)) run3 in
          let whole : IsWhole (widths_of p.cells) opened.store = subst (λ (cs : List Cell). IsWhole (widths_of cs) opened.store) (sym f.cells) opened.whole in
          let graph = main t order p flows f typed k link in (
            (o.st).taken,
            s.store,
            (graph.graph, all, opened.store, graph.graph_is, whole, from),
            subst (λ (vs : List (List ℤ)). Shows g vs s.store) shown (h.mirrors).elements,
          )

    comes : (begins : m.place ≡ k.entry) → get m.slots k.slot ≡ pos (length code) → (m.st).taken ≡ 0 → Asks t.model (λ op kind a b. converting t.model op kind a b) inputs (graph_way g) code l.at m values → Visited
    comes begins to_end fresh a =
        found (visits code f.numbers f.ranges g p know inputs a.steps m a.last (spot p.main (node_id 1) [] opened.after) (stands t order p flows f typed k link m opened inputs begins to_end) a.comes)
      where
        found : ((length code ≤ (a.last).place) ⊎ ((s : Spot) × (draws : List ℤ) × Moves p (spot p.main (node_id 1) [] opened.after) draws s × Stands code f.numbers f.ranges g p know inputs a.last s
            × (take ((a.last).st).taken inputs ≡ take (m.st).taken inputs ++ draws))) → Visited
        found (inl le) = let lt = slice_get_within code (a.last).place (i.Turn l.at (a.turns).goal) (a.turns).is in absurd (omega (arith, le, lt))
        found (inr (s, draws, moves, there, took)) =
            let b = opens-by t order p flows f typed k link m opened in
            let all = moves-join p begin (spot p.main (node_id 1) [] opened.after) s [] draws (one-move p (Along b.0) begin (spot p.main (node_id 1) [] opened.after) [] b.1) moves in
            let none_before : take (m.st).taken inputs ≡ [] = ap (λ (n : ℕ). take n inputs) fresh ∙ nothing-taken inputs in
            let drawn : take ((a.last).st).taken inputs ≡ draws = took ∙ ap (λ (xs : List ℤ). xs ++ draws) none_before in
            arrived a.last (a.turns).goal (a.turns).is (a.turns).store s there draws all drawn

pub loop-visits-follow : LoopVisitsFollow
loop-visits-follow t order p inputs l values typed ordered flows f v (turns, drawn, run) = by-link (link_of p.main (links_in t order)) refl ends
  where
    is_laid : IsLaid (program_setting t order)
    is_laid = laid t.objects t.model (program_code t order) (slots_in (program_code t order)) (omega arith) (subst (λ (cs : List Cell). length cs < 4294967296) f.cells flows.few_cells)

    Ends : Option Link → Type 0
    Ends o = turned_code (λ op kind a b. converting t.model op kind a b) (graph_way (program_setting t order)) (tree_of t) (code_of (tree_of t) order) [] o inputs turns l.at ≡ Some values

    -- the code is out of turns where the tree is
    ends : Ends (link_of p.main (links_in t order))
    ends =
        subst (λ (main : Option ℕ). Ends (main_link main (code_of (tree_of t) order))) f.main
        (turns-as-tree (tree_of t) order typed ordered (λ op kind a b. converting t.model op kind a b) (converting-agrees t.model) (graph_way (program_setting t order)) (graph-way-suits (program_setting t order) is_laid) l.at v.only.uncalled [] inputs turns
        ∙ ap (spent_at l.at) run ∙ ap (λ (b : Bool). choose b (Some values) None) (eq-eqb l.at l.at refl))

    by-link : (o : Option Link) → link_of p.main (links_in t order) ≡ o → Ends o → (taken : ℕ) × (store : List ℕ) × FunctionsRunTo p (take taken inputs) (spot p.main l.node [] store) × Shows (program_setting t order) values store
    by-link None e h = absurd (none-some values h)
    by-link (Some k) e h =
        let m : Machine = start_of t order [] k turns in
        let few : length (program_setting t order).lay.cells < 4294967296 = subst (λ (cs : List Cell). length cs < 4294967296) f.cells flows.few_cells in
        let opened : IsOpened (program_setting t order) m = program-opens t order k turns typed few f.short in
        comes t order p flows f typed inputs l values v k e m opened refl (put_same [] k.slot (pos (length (program_code t order)))) refl
        (asks t.model (λ op kind a b. converting t.model op kind a b) inputs (graph_way (program_setting t order)) (program_code t order) l.at
        (rank t.model (λ op kind a b. converting t.model op kind a b) inputs (program_code t order) m) m values h)
