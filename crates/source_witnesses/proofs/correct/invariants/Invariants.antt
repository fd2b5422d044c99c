use Rattle.std.proofs.Common.{◌≡◌, ◌++◌, drop}
use Rattle.type_scopes.specs.Seen as seen
use Rattle.block_join.specs.Living.{live_at}
use Rattle.source_witnesses.specs.Witnesses.{invariants_of}
use Rattle.source_witnesses.proofs.correct.invariants.Given as goal

-- the invariants so far, and those of the loops that are left, are all
abbrev pub invariant-loop-a_loop : goal.invariant-loop-a_loop
invariant-loop-a_loop l =
    l.found.items ++ invariants_of l.source (seen.env_of l.env) l.places (live_at l.live) l.graph.cells l.map (drop l.a_loop-index l.graph.loops) ≡ invariants_of l.source (seen.env_of l.env) l.places (live_at l.live) l.graph.cells l.map l.graph.loops
