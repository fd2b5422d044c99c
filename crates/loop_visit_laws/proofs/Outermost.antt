-- The function that is open outermost in a run over functions.
use Rattle.std.proofs.Common.{◌≡◌, ℕ, ℤ, sym, ap, ◌∙◌, List, [], ◌∷◌}
use Rattle.c_graph.specs.Functions.{Flows}
use Rattle.function_runs.specs.Runs.{Along, Into, Back, Move, Return, Spot, MovesBy, RunsBy}

-- of a function, and where its open calls return
abbrev pub outermost : ℕ → List Return → ℕ
outermost function [] = function
outermost function (r ∷ rest) = outermost r.function rest

abbrev pub outermost_of : Spot → ℕ
outermost_of s = outermost s.function s.returns

move-keeps : (p : Flows) (m : Move) (s t : Spot) (draws : List ℤ) → MovesBy p m s draws t → outermost_of t ≡ outermost_of s
move-keeps p (Along e) s t draws (g, edge, graph, own, from, (after, leads, is)) = ap outermost_of is
move-keeps p Into s t draws (callee, next, g, at, graph, none, is) = ap outermost_of is
move-keeps p Back s t draws (r, rest, exit, open_calls, none, is) = ap outermost_of is ∙ sym (ap (outermost s.function) open_calls)

-- it stays the same
pub run-keeps : (p : Flows) (moves : List Move) (s t : Spot) (draws : List ℤ) → RunsBy p moves s draws t → outermost_of t ≡ outermost_of s
run-keeps p [] s t draws (same, none) = sym (ap outermost_of same)
run-keeps p (m ∷ moves) s t draws (mid, first, rest, split, move, run) = run-keeps p moves mid t rest run ∙ move-keeps p m s mid first move
