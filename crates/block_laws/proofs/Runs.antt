-- A run, block by block.
use Rattle.std.proofs.Common.{◌≡◌, ℕ, ℤ, ◌<◌, ◌≤◌, ◌⊎◌, inl, inr, true, List, [], ◌∷◌, ◌++◌, Some, None, refl, sym, ap, ◌∙◌, subst, zero, suc, length, length-append, arith, All, slice_index, slice_get}
use Rattle.std.proofs.lemmas.Nat.{pow_pos}
use Rattle.bv_term.specs.WellFormed.{Table}
use Rattle.bv_term.specs.Values.{IsStore}
use Rattle.c_graph.specs.declared.graph.NodeId.{NodeId}
use Rattle.c_graph.specs.declared.graph.EdgeId.{EdgeId}
use Rattle.c_graph.specs.declared.graph.Node.{Node}
use Rattle.c_graph.specs.declared.graph.Node.TheVariants.{Error}
use Rattle.c_graph.specs.declared.graph.Cell.{Cell}
use Rattle.c_graph.specs.declared.graph.Operation.{Operation}
use Rattle.c_graph.specs.declared.graph.Operation.TheVariants.{Assume, Set, SetAt, Draw}
use Rattle.c_graph.specs.Shape.{Flow, IsFlow, OperationFits, widths_of}
use Rattle.c_graph.specs.Steps.{IsWhole, Moment, moment, operated_all}
use Rattle.c_graph.specs.Runs.{RunsAlong, RunsTo}
use Rattle.c_graph.proofs.Keeping.{edge-fits, inductive_means_safe}
use Rattle.graph_walk_laws.proofs.Consuming.{taken, more_left}
use Rattle.block_rule.specs.Deeds.{Code}
use Rattle.block_rule.specs.Plans.{Plan, matters, IsError}
use Rattle.block_rule.specs.Rule.{block_code}
use Rattle.block_rule.specs.Blocked.{Agree, read_before_all, Flows, plain_deeds, Begins, Keeps, IsBlocked}
use Rattle.block_laws.specs.Keeping.{BlockedMapMeansSafe, BlocksKeepErrors, BlocksKeepVisits}
use Rattle.block_laws.proofs.Reading.{SetsBelow, AllSetBelow, follows_all}
use Rattle.block_laws.proofs.Moving.{Widths}
use Rattle.block_laws.proofs.Blocks.{Along, alive-along, both-true, Out, block-lands}
use Rattle.block_laws.proofs.Edges.{plain-operate, along-append, leads-along, has-runs}

-- runs with the values that are drawn, and with those that are still to be drawn

runs-of : (g : Flow) (path : List EdgeId) (v : NodeId) (m : Moment) (w : NodeId) (a : Moment) → Along g path v.0 m w.0 a → a.inputs ≡ [] → RunsAlong g path v m.store m.inputs w a.store
runs-of g [] v m w a run none =
    let F : ℕ → NodeId = λ k. record { 0 = k } in
    (ap F run.0, ap (λ (x : Moment). x.store) run.1, ap (λ (x : Moment). x.inputs) run.1 ∙ none)
runs-of g (k ∷ path) v m w a (e, there, from, (mid, go, run)) none =
    let F : ℕ → NodeId = λ k. record { 0 = k } in
    let (first, split, leads) = taken g.terms e.ops m mid go in
    (e, there, ap F from, (mid.store, first, mid.inputs, split, leads, runs-of g path e.to mid w a run none))

along-of : (g : Flow) (path : List EdgeId) (v : NodeId) (store : List ℕ) (draws : List ℤ) (w : NodeId) (after : List ℕ) → RunsAlong g path v store draws w after
    → Along g path v.0 (moment store draws) w.0 (moment after [])
along-of g [] v store draws w after (same, stays, none) =
    (ap (λ (x : NodeId). x.0) same, ap (λ (s : List ℕ). moment s draws) stays ∙ ap (moment after) none)
along-of g (k ∷ path) v store draws w after (e, there, from, (mid, first, later, split, leads, run)) =
    let go : operated_all g.terms e.ops (Some (moment store draws)) ≡ Some (moment mid later) =
    ap (λ (zs : List ℤ). operated_all g.terms e.ops (Some (moment store zs))) split ∙ more_left g.terms e.ops (moment store first) (moment mid []) later leads in
    (e, there, ap (λ (x : NodeId). x.0) from, (moment mid later, go, along-of g path e.to mid later w after run))

-- nodes and cells that stand behind others

node-there : (xs ys : List Node) (k : ℕ) (x : Node) → slice_get xs k ≡ Some x → slice_get (xs ++ ys) k ≡ Some x
node-there [] ys k x h = absurd (let z : None ≡ Some x = h in cc)
node-there (y ∷ xs) ys zero x h = h
node-there (y ∷ xs) ys (suc k) x h = node-there xs ys k x h

width-there : (xs ys : List Cell) (c : ℕ) → c < length xs → slice_index (widths_of xs) c ≡ slice_index (widths_of (xs ++ ys)) c
width-there [] ys c lt = absurd (omega (arith, lt))
width-there (x ∷ xs) ys zero lt = refl
width-there (x ∷ xs) ys (suc c) lt = width-there xs ys c (omega (arith, lt))

length-widths : (xs : List Cell) → length (widths_of xs) ≡ length xs
length-widths [] = refl
length-widths (x ∷ xs) = ap suc (length-widths xs)

-- a store of some cells, and 0 in each cell behind them
abbrev zeros : List Cell → List ℕ
zeros [] = []
zeros (x ∷ xs) = 0 ∷ zeros xs

zero-fits : (xs : List Cell) (c : ℕ) → slice_index (zeros xs) c ≡ 0
zero-fits [] c = refl
zero-fits (x ∷ xs) zero = refl
zero-fits (x ∷ xs) (suc c) = zero-fits xs c

zeros-fit : (xs : List Cell) → IsStore (widths_of xs) (zeros xs)
zeros-fit xs c lt =
    let p = pow_pos (slice_index (widths_of xs) c) in
    omega (arith, zero-fits xs c, p)

zeros-long : (xs : List Cell) → length (zeros xs) ≡ length (widths_of xs)
zeros-long [] = refl
zeros-long (x ∷ xs) = ap suc (zeros-long xs)

wider-fits : (xs more : List Cell) (s : List ℕ) → length s ≡ length (widths_of xs) → IsStore (widths_of xs) s → IsStore (widths_of (xs ++ more)) (s ++ zeros more)
wider-fits [] more [] long fits c lt = zeros-fit more c lt
wider-fits [] more (v ∷ s) long fits c lt = absurd (omega (arith, long))
wider-fits (x ∷ xs) more [] long fits c lt = absurd (omega (arith, long))
wider-fits (x ∷ xs) more (v ∷ s) long fits zero lt = fits zero (omega arith)
wider-fits (x ∷ xs) more (v ∷ s) long fits (suc c) lt =
    wider-fits xs more s (omega (arith, long)) (λ k less. fits (suc k) (omega (arith, less))) c (omega (arith, lt))

wider-long : (xs more : List Cell) (s : List ℕ) → length s ≡ length (widths_of xs) → length (s ++ zeros more) ≡ length (widths_of (xs ++ more))
wider-long [] more [] long = zeros-long more
wider-long [] more (v ∷ s) long = absurd (omega (arith, long))
wider-long (x ∷ xs) more [] long = absurd (omega (arith, long))
wider-long (x ∷ xs) more (v ∷ s) long = ap suc (wider-long xs more s (omega (arith, long)))

front-same : (s t : List ℕ) (c : ℕ) → c < length s → slice_index s c ≡ slice_index (s ++ t) c
front-same [] t c lt = absurd (omega (arith, lt))
front-same (x ∷ s) t zero lt = refl
front-same (x ∷ s) t (suc c) lt = front-same s t c (omega (arith, lt))

-- operations that fit set cells that are there
fits-below : (table : Table) (n : ℕ) (ops : List Operation) → length table.cells ≡ n → All (OperationFits table) ops → AllSetBelow n ops
fits-below table n [] long fits = tt
fits-below table n (op ∷ ops) long fits =
    (one op (fits zero op (omega arith)), fits-below table n ops long (λ k x lt. fits (suc k) x (omega (arith, lt))))
  where
    one : (op : Operation) → OperationFits table op → SetsBelow n op
    one (Assume t) f = tt
    one (Set c t) f = (let z = f.0 in omega (arith, z, long))
    one (SetAt first k i t) f = (let z = f.0.1 in omega (arith, z, long))
    one (Draw c signed) f = (let z = f.0 in omega (arith, z, long))

module _ (g h : Flow) (plan : Plan) (flow : IsFlow g) (wide : IsFlow h) (is : IsBlocked g h plan) (w : ℕ) (a : Moment) (alive-end : plan.alive w ≡ true)
    (stop : IsError g w ⊎ (plan.cuts w ≡ true)) where
  abbrev n : ℕ
  n = length g.cells

  abbrev many : ℕ
  many = length h.cells

  le : n ≤ many
  le = omega (arith, ap length is.cells.1, length-append g.cells is.cells.0)

  widths : Widths n g.terms h.terms
  widths c lt =
      ap (λ (ws : List ℕ). slice_index ws c) flow.cells ∙ width-there g.cells is.cells.0 c lt
      ∙ ap (λ (xs : List Cell). slice_index (widths_of xs) c) (sym is.cells.1) ∙ ap (λ (ws : List ℕ). slice_index ws c) (sym wide.cells)

  whole-long : (s : List ℕ) → IsWhole h.terms.cells s → length s ≡ many
  whole-long s whole = whole.length ∙ ap length wide.cells ∙ length-widths h.cells

  -- at an error nothing is said of the store; at another node what is read from there on is the same
  abbrev Arrived : Moment → Type 0
  Arrived end = IsError g w ⊎ Agree n (plan.live w) a.store end.store

  -- the run of the graph of blocks
  abbrev Follows : ℕ → Moment → Type 0
  Follows v m = (path : List EdgeId) × ((end : Moment) × Along h path v m w end × (end.inputs ≡ a.inputs) × Arrived end)

  -- runs along fewer edges than so many have one
  abbrev Followed : ℕ → Type 0
  Followed fuel =
      (path : List EdgeId) (v : ℕ) (m : Moment) (s : List ℕ) → length path < fuel → Along g path v m w a → plan.cuts v ≡ true → plan.reached v ≡ true
      → Agree n (plan.live v) m.store s → n ≤ length m.store → IsWhole h.terms.cells s → Follows v (moment s m.inputs)

  joined : (v : ℕ) (m : Moment) (path : List EdgeId) (u : ℕ) (b : Moment) → Along h path v m u b → Follows u b → Follows v m
  joined v m path u b run (rest, (end, run2, same, arrived)) = (path ++ rest, (end, along-append h path rest v m u b w end run run2, same, arrived))

  by-block : (fuel : ℕ) → Followed fuel → (k : EdgeId) (path : List EdgeId) (v : ℕ) (m : Moment) (s : List ℕ) → length (k ∷ path) < suc fuel → Along g (k ∷ path) v m w a
      → plan.reached v ≡ true → Agree n (plan.live v) m.store s → n ≤ length m.store → IsWhole h.terms.cells s → Begins g h plan v → Follows v (moment s m.inputs)
  by-block fuel next k path v m s less run reached agree long whole begins =
      let code : Code = block_code g.terms plan begins.first begins.others n in
      let lands = block-lands g h.terms plan many widths flow is.planned le w a alive-end stop (length (k ∷ path)) begins.first begins.others begins.places begins.inside s k path m (whole-long s whole)
      (subst (λ (x : ℕ). Agree n (plan.live x) m.store s) (sym begins.node) agree) long (subst (λ (x : ℕ). Along g (k ∷ path) x m w a) (sym begins.node) run)
      (omega arith) (ap plan.reached begins.node ∙ reached) in
      let (to, (end, go, out)) = lands begins.sound in
      let (first, (run1, whole1)) = has-runs h wide code v [] (moment s m.inputs) (moment s m.inputs) to end begins.has whole refl go in
      joined v (moment s m.inputs) first to end run1 (goes-on to end whole1 out)
    where
      goes-on : (to : ℕ) (end : Moment) → IsWhole h.terms.cells end.store → Out g plan n w a (length (k ∷ path)) to end → Follows to end
      goes-on to end whole1 (inl (err, last, same)) = ([], (end, (last, refl), same, inl err))
      goes-on to end whole1 (inr (path2, (m2, less2, run2, cut2, reached2, agree2, long2, same2))) =
          subst (λ (zs : List ℤ). Follows to (moment end.store zs)) same2
          (next path2 to m2 end.store (omega (arith, less, less2)) run2 cut2 reached2 agree2 long2 whole1)

  by-edge : (fuel : ℕ) → Followed fuel → (k : EdgeId) (path : List EdgeId) (v : ℕ) (m : Moment) (s : List ℕ) → length (k ∷ path) < suc fuel → Along g (k ∷ path) v m w a
      → plan.reached v ≡ true → Agree n (plan.live v) m.store s → n ≤ length m.store → IsWhole h.terms.cells s → Keeps g h plan v → Follows v (moment s m.inputs)
  by-edge fuel next k path v m s less (e, there, from, (mid, go, run)) reached agree long whole keeps =
      let fits = edge-fits g k.0 e flow there in
      let below = fits-below g.terms n e.ops (ap length flow.cells ∙ length-widths g.cells) fits.operations in
      let reached2 : plan.reached e.to.0 ≡ true = is.planned.reaches k.0 e there (ap plan.reached from ∙ reached) in
      let alive2 : plan.alive e.to.0 ≡ true = alive-along g plan path e.to.0 mid w a is.planned alive-end run in
      let alive : matters plan e.to.0 ≡ true = both-true (plan.reached e.to.0) (plan.alive e.to.0) reached2 alive2 in
      let flows : Flows plan e = is.planned.flows k.0 e there alive in
      let agree2 : Agree n (read_before_all plan (plan.live e.to.0) e.ops) m.store s =
      λ c lt y. agree c lt (ap (λ (x : ℕ). plan.live x c) (sym from) ∙ flows c y) in
      let long2 : n ≤ length s = omega (arith, le, whole-long s whole) in
      let (u, (go2, alike)) = follows_all g.terms plan n is.planned.terms e.ops (plan.live e.to.0) m.store s m.inputs mid below (agree2, long, long2) go in
      let kept = keeps k.0 e there from alive in
      let (path1, (run1, whole1)) = leads-along h wide v (plain_deeds g.terms e.ops) e.to.0 (moment s m.inputs) (moment u mid.inputs) kept.1 whole
      (plain-operate g.terms h.terms n e.ops (moment s m.inputs) widths below ∙ go2) in
      joined v (moment s m.inputs) path1 e.to.0 (moment u mid.inputs) run1
      (next path e.to.0 mid u (omega (arith, less)) run kept.0 reached2 alike.0 alike.1 whole1)

  followed : (fuel : ℕ) → Followed fuel
  followed zero path v m s less run cut reached agree long whole = absurd (omega (arith, less))
  followed (suc fuel) [] v m s less run cut reached agree long whole =
      ([], (moment s m.inputs, (run.0, refl), ap (λ (x : Moment). x.inputs) run.1, inr (λ c lt y. held c lt y)))
    where
      held : Agree n (plan.live w) a.store s
      held c lt y =
          ap (λ (x : Moment). slice_index x.store c) (sym run.1) ∙ agree c lt (ap (λ (x : ℕ). plan.live x c) run.0 ∙ y)
  followed (suc fuel) (k ∷ path) v m s less run cut reached agree long whole =
      let alive : plan.alive v ≡ true = alive-along g plan (k ∷ path) v m w a is.planned alive-end run in
      elim (is.blocks v cut (both-true (plan.reached v) (plan.alive v) reached alive)) [
        | inl begins ↦ by-block fuel (followed fuel) k path v m s less run reached agree long whole begins
        | inr keeps ↦ by-edge fuel (followed fuel) k path v m s less run reached agree long whole keeps
      ]

-- a run from the entry, and one of the graph of blocks from there
pub follows-to : (g h : Flow) (plan : Plan) (draws : List ℤ) (v : NodeId) (after : List ℕ) → IsFlow g → IsFlow h → IsBlocked g h plan → RunsTo g draws v after
    → plan.alive v.0 ≡ true → IsError g v.0 ⊎ (plan.cuts v.0 ≡ true)
    → (end : List ℕ) × RunsTo h draws v end × (IsError g v.0 ⊎ Agree (length g.cells) (plan.live v.0) after end)
follows-to g h plan draws v after flow wide is (path, store, whole, run) alive stop =
    let s : List ℕ = store ++ zeros is.cells.0 in
    let cells : widths_of (g.cells ++ is.cells.0) ≡ h.terms.cells = ap widths_of (sym is.cells.1) ∙ sym wide.cells in
    let fits : IsWhole (widths_of (g.cells ++ is.cells.0)) (store ++ zeros is.cells.0) =
    record { length = wider-long g.cells is.cells.0 store whole.length; fits = wider-fits g.cells is.cells.0 store whole.length whole.fits } in
    let whole2 : IsWhole h.terms.cells (store ++ zeros is.cells.0) = subst (λ (ws : List ℕ). IsWhole ws (store ++ zeros is.cells.0)) cells fits in
    let long : length store ≡ length g.cells = whole.length ∙ length-widths g.cells in
    let (path2, (end, run2, same, arrived)) = followed g h plan flow wide is v.0 (moment after []) alive stop (suc (length path)) path g.entry.0 (moment store draws)
    (store ++ zeros is.cells.0) (omega arith) (along-of g path g.entry store draws v after run) is.planned.cut is.planned.entry
    (λ c lt y. front-same store (zeros is.cells.0) c (omega (arith, lt, long))) (omega (arith, long)) whole2 in
    let runs = runs-of h path2 g.entry (moment (store ++ zeros is.cells.0) draws) v end run2 same in (
      end.store,
      (
        path2,
        store ++ zeros is.cells.0,
        subst (λ (ws : List ℕ). IsWhole ws (store ++ zeros is.cells.0)) wide.cells whole2,
        subst (λ (x : NodeId). RunsAlong h path2 x (store ++ zeros is.cells.0) draws v end.store) (sym is.entry) runs,
      ),
      arrived,
    )

pub blocks_keep_errors : BlocksKeepErrors
blocks_keep_errors g h plan draws v after kind at flow wide is run error =
    let err : IsError g v.0 = (kind, (at, error)) in
    let (end, runs, arrived) = follows-to g h plan draws v after flow wide is run (is.planned.errors v.0 kind at error) (inl err) in (
      (end, runs),
      ap (λ (xs : List Node). slice_get xs v.0) is.nodes.1 ∙ node-there g.nodes is.nodes.0 v.0 (Error kind at) error,
    )

pub blocks_keep_visits : BlocksKeepVisits
blocks_keep_visits g h plan draws v after flow wide is cut alive run =
    let (end, runs, arrived) = follows-to g h plan draws v after flow wide is run alive (inr cut) in
    (end, runs, λ no. elim arrived [ inl err ↦ absurd (no err) | inr agree ↦ agree ])

pub blocked_map_means_safe : BlockedMapMeansSafe
blocked_map_means_safe g h plan m draws v after kind at flow wide is map run error =
    let r = blocks_keep_errors g h plan draws v after kind at flow wide is run error in
    inductive_means_safe h m draws v kind at r.0.0 wide map r.0.1 r.1
