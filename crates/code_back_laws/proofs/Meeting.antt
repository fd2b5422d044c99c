-- A machine whose spot stands on a run to an error meets that error.
use Rattle.std.proofs.Common.{◌≡◌, inl, inr, ℕ, suc, ◌+◌, ◌<◌, ◌≤◌, refl, sym, ap, ◌∙◌, arith, List, [], ◌∷◌, ◌++◌, length, take, drop, Some, slice_get, ℤ}
use Rattle.std.proofs.lemmas.List.{append_assoc, append_cancel_left, take-append-drop}
use Rattle.lv_base.specs.declared.fault.ErrorKind.{ErrorKind}
use Rattle.c_run.specs.Run.{Compute}
use Rattle.c_graph.specs.declared.graph.Node.{Node}
use Rattle.c_graph.specs.declared.graph.Node.TheVariants.{Error, End}
use Rattle.c_graph.specs.Functions.{FnFlow, Flows, AreFlows}
use Rattle.slot_code.specs.declared.flat.Instruction.{Instruction}
use Rattle.slot_code.specs.declared.reply.Ending.{Ending}
use Rattle.slot_code.specs.declared.reply.Ending.TheVariants as ending
use Rattle.slot_code.specs.Machine.{Machine, Next, Goes, Over, onward, walk_with, rank}
use Rattle.slot_laws.specs.Laws.{Falls}
use Rattle.typed_range_laws.specs.Ways.{Way}
use Rattle.code_moves.specs.Setting.{Setting}
use Rattle.code_move_laws.specs.Ways.{converting, graph_way}
use Rattle.function_runs.specs.Runs.{Move, Return, Spot, node_at, MovesBy, RunsBy}
use Rattle.code_flow_laws.proofs.Ranging.{Range}
use Rattle.code_flow_laws.proofs.Moving.{nothing-more}
use Rattle.code_flow_laws.proofs.Stepping.{Known, Stands, Comes}
use Rattle.code_back_laws.proofs.Edges.{NoChoice, graphs-alone}
use Rattle.code_back_laws.proofs.Determined.{error-dead, end-dead, differ, goes-on, Rest}

module _ (code : List Instruction) (numbers : List ℕ) (ranges : List Range) (g : Setting) (p : Flows) (known : Known code numbers ranges g p) (flows : AreFlows p) (inputs : List ℤ) where
  -- as the graph computes
  abbrev pub compute : Compute
  compute op kind a b = converting g.model op kind a b

  abbrev pub way : Way
  way = graph_way g

  pub alone : (k : ℕ) (f : FnFlow) → slice_get p.graphs k ≡ Some f → NoChoice p.terms f.edges
  alone = graphs-alone code numbers ranges p.main g p.terms (length ranges) p.graphs p.exits known.follow

  -- ---- A run that is ahead

  -- from the machine's spot a run draws the first of the inputs that are left, and ends at an error node; it has no more moves than the
  -- machine has turns
  pub record Ahead (m : Machine) (s : Spot) (draws : List ℤ) (kind : ErrorKind) (at : ℕ) : Type 0 where
    pub last : Spot
    pub moves : List Move
    pub more : List ℤ
    pub runs : RunsBy p moves s draws last
    pub error : node_at p last ≡ Some (Error kind at)
    pub left : drop (m.st).taken inputs ≡ draws ++ more
    pub enough : length moves ≤ (m.st).turns

  -- its first move
  pub record First (s : Spot) (b : List ℤ) (moves : List Move) : Type 0 where
    pub move : Move
    pub rest : List Move
    pub mid : Spot
    pub draws : List ℤ
    pub later : List ℤ
    pub moves_are : moves ≡ move ∷ rest
    pub parts : b ≡ draws ++ later
    pub by : MovesBy p move s draws mid

  -- behind some of its moves
  pub record Behind (o : Machine) (t : Spot) (b first : List ℤ) (kind : ErrorKind) (at : ℕ) : Type 0 where
    pub draws : List ℤ
    pub parts : b ≡ first ++ draws
    pub ahead : Ahead o t draws kind at

  module _ (m : Machine) (s : Spot) (b : List ℤ) (kind : ErrorKind) (at : ℕ) (a : Ahead m s b kind at) where
    dead : (move : Move) (c : List ℤ) (v : Spot) → MovesBy p move a.last c v → ⊥
    dead move c v h = error-dead p flows move a.last v c kind at a.error h

    first-in : (x : Node) → node_at p s ≡ Some x → (x ≡ Error kind at → ⊥) → (moves : List Move) → a.moves ≡ moves → RunsBy p moves s b a.last → First s b a.moves
    first-in x node not [] e (same, none) = absurd (not (differ p flows s x (Error kind at) node (ap (node_at p) same ∙ a.error)))
    first-in x node not (move ∷ rest) e (mid, draws, later, parts, by, run) = record { move = move; rest = rest; mid = mid; draws = draws; later = later; moves_are = e; parts = parts; by = by }

    -- a run at a node that is no error goes on
    pub first-move : (x : Node) → node_at p s ≡ Some x → (x ≡ Error kind at → ⊥) → First s b a.moves
    first-move x node not = first-in x node not a.moves refl a.runs

    -- the run goes on behind each beginning
    pub rest-of : (moves : List Move) (t : Spot) (draws later : List ℤ) → RunsBy p moves s draws t → draws ++ later ≡ b ++ a.more → Rest p flows alone moves a.moves t a.last draws b
    rest-of moves t draws later run e = goes-on p flows alone moves a.moves s t a.last draws b later a.more dead run a.runs e

    pub behind : (o : Machine) (t : Spot) (moves : List Move) (draws : List ℤ) → RunsBy p moves s draws t → take (o.st).taken inputs ≡ take (m.st).taken inputs ++ draws → (m.st).turns ≤ (o.st).turns + length moves
        → Behind o t b draws kind at
    behind o t moves draws run took turns =
        let first : List ℤ = take (m.st).taken inputs in
        let whole : take (m.st).taken inputs ++ (draws ++ drop (o.st).taken inputs) ≡ take (m.st).taken inputs ++ (b ++ a.more) =
        sym (append_assoc (take (m.st).taken inputs) draws (drop (o.st).taken inputs)) ∙ ap (λ (zs : List ℤ). zs ++ drop (o.st).taken inputs) (sym took) ∙ take-append-drop (o.st).taken inputs
        ∙ sym (take-append-drop (m.st).taken inputs) ∙ ap (λ (zs : List ℤ). take (m.st).taken inputs ++ zs) a.left in
        let same : draws ++ drop (o.st).taken inputs ≡ b ++ a.more = append_cancel_left (take (m.st).taken inputs) (draws ++ drop (o.st).taken inputs) (b ++ a.more) whole in
        let r = rest-of moves t draws (drop (o.st).taken inputs) run same in
        let shifted : draws ++ drop (o.st).taken inputs ≡ draws ++ (r.draws ++ a.more) = same ∙ ap (λ (zs : List ℤ). zs ++ a.more) r.parts ∙ append_assoc draws r.draws a.more in
        record {
          draws = r.draws;
          parts = r.parts;
          ahead = record {
            last = a.last;
            moves = r.moves;
            more = a.more;
            runs = r.runs;
            error = a.error;
            left = append_cancel_left draws (drop (o.st).taken inputs) (r.draws ++ a.more) shifted;
            enough = omega (arith, turns, a.enough, r.counts);
          };
        }

    -- no run goes on from an end that is not left
    pub stops : (t : Spot) (moves : List Move) (c : List ℤ) → RunsBy p moves t c a.last → node_at p t ≡ Some End → ((r : Return) (rest : List Return) → slice_get p.exits t.function ≡ Some t.node → t.returns ≡ r ∷ rest → ⊥) → ⊥
    stops t [] c (same, none) node not = let q = differ p flows t End (Error kind at) node (ap (node_at p) same ∙ a.error) in absurd cc
    stops t (move ∷ moves) c (mid, draws, later, parts, by, run) node not = end-dead p flows move t mid draws node not by

  -- ---- What the machine meets

  abbrev pub Meets : Ending → Machine → List ℤ → ErrorKind → ℕ → Type 0
  Meets e m b kind at = (taken : ℕ) × (e ≡ ending.Error kind at taken) × (take taken inputs ≡ take (m.st).taken inputs ++ b)

  -- in so many instructions
  abbrev pub MeetsIn : ℕ → Machine → List ℤ → ErrorKind → ℕ → Type 0
  MeetsIn n m b kind at = Meets (walk_with g.model compute inputs way code n m) m b kind at

  abbrev pub By : ℕ → Next → Ending
  By n next = onward g.model compute inputs code next (walk_with g.model compute inputs way code n)

  -- machines of lower ranks do
  abbrev pub Later : ℕ → ErrorKind → ℕ → Type 0
  Later n kind at =
      (o : Machine) (t : Spot) (c : List ℤ) → rank g.model compute inputs code o ≤ n → Stands code numbers ranges g p known inputs o t → Ahead o t c kind at → MeetsIn n o c kind at

  -- the machine goes on, and so does the run; or it meets an error
  abbrev pub Quiet : Machine → Next → Type 0
  Quiet m (Goes o) = (o.place < length code) × ((o.st).turns ≡ (m.st).turns)
  Quiet m (Over (ending.Error kind at taken)) = Unit {0}
  Quiet m (Over ending.Ended) = ⊥
  Quiet m (Over ending.NoInput) = ⊥
  Quiet m (Over (ending.BadInput number)) = ⊥
  Quiet m (Over ending.Spent) = ⊥

  module _ (n : ℕ) (m : Machine) (s : Spot) (b : List ℤ) (kind : ErrorKind) (at : ℕ) (a : Ahead m s b kind at) (later : Later n kind at) (few : rank g.model compute inputs code m ≤ suc n) where
    pub on : (o : Machine) (t : Spot) (moves : List Move) (draws : List ℤ) → RunsBy p moves s draws t → Stands code numbers ranges g p known inputs o t → take (o.st).taken inputs ≡ take (m.st).taken inputs ++ draws
        → (m.st).turns ≤ (o.st).turns + length moves → rank g.model compute inputs code o < rank g.model compute inputs code m → Meets (By n (Goes o)) m b kind at
    on o t moves draws run stands took turns fall =
        let r = behind m s b kind at a o t moves draws run took turns in
        let (taken, ends, drew) = later o t r.draws (omega (arith, fall, few)) stands r.ahead in
        (taken, ends, drew ∙ ap (λ (zs : List ℤ). zs ++ r.draws) took ∙ append_assoc (take (m.st).taken inputs) draws r.draws ∙ ap (λ (zs : List ℤ). take (m.st).taken inputs ++ zs) (sym r.parts))

    -- from an error node there is no way on
    ended : (t : Spot) (k : ErrorKind) (x : ℕ) → node_at p t ≡ Some (Error k x) → (moves : List Move) (c : List ℤ) → RunsBy p moves t c a.last → (t ≡ a.last) × (c ≡ [])
    ended t k x node [] c h = h
    ended t k x node (move ∷ moves) c (mid, draws, rest, parts, by, run) = absurd (error-dead p flows move t mid draws k x node by)

    error-met : (t : Spot) (moves : List Move) (k : ErrorKind) (x y : ℕ) → RunsBy p moves s [] t → node_at p t ≡ Some (Error k x) → y ≡ (m.st).taken → Meets (ending.Error k x y) m b kind at
    error-met t moves k x y run node same =
        let r = rest-of m s b kind at a moves t [] (drop (m.st).taken inputs) run a.left in
        let e = ended t k x node r.moves r.draws r.runs in
        let both : Error k x ≡ Error kind at = differ p flows t (Error k x) (Error kind at) node (ap (node_at p) e.0 ∙ a.error) in
        let kinds : k ≡ kind = cc in
        let places : x ≡ at = cc in
        let none : b ≡ [] = r.parts ∙ e.1 in (
          y,
          ap (λ (z : ErrorKind). ending.Error z x y) kinds ∙ ap (λ (z : ℕ). ending.Error kind z y) places,
          ap (λ (z : ℕ). take z inputs) same ∙ nothing-more (take (m.st).taken inputs) ∙ ap (λ (zs : List ℤ). take (m.st).taken inputs ++ zs) (sym none),
        )

    pub quietly : (next : Next) → Comes code numbers ranges g p known inputs m s next → Quiet m next → Falls g.model compute inputs code m next → Meets (By n next) m b kind at
    quietly (Goes o) (inl le) q fall = absurd (omega (arith, le, q.0))
    quietly (Goes o) (inr (t, draws, (moves, run), stands, took)) q fall = on o t moves draws run stands took (omega (arith, q.1)) fall
    quietly (Over (ending.Error k x y)) (t, (moves, run), node, same) q fall = error-met t moves k x y run node same
    quietly (Over ending.Ended) c q fall = absurd q
    quietly (Over ending.NoInput) c q fall = absurd q
    quietly (Over (ending.BadInput number)) c q fall = absurd q
    quietly (Over ending.Spent) c q fall = absurd q
