-- A graph of a graph's blocks, or chains.
use Rattle.std.proofs.Common.{◌≡◌, ℕ, ◌*◌, ◌≤◌, length, arith}
use Rattle.std.specs.Prelude.{take}
use Rattle.std.proofs.Math.Nat.{mul-le-mul_left}
use Rattle.source_graph_laws.specs.Laws.{JoinedGraphsStand}

pub joined_graphs_stand : JoinedGraphsStand
joined_graphs_stand t g h few follow back keeps comes = record {
  follow = λ turns inputs kind at taken ends. keeps (take taken inputs) kind at (follow turns inputs kind at taken ends);
  back = λ path inputs draws more turns kind at fails enough is.
      let found = comes path draws kind at fails in
      let short : length found.0 ≤ length path * length g.nodes = found.1.1 in
      let wide : length path * length g.nodes ≤ length path * 2147483647 = mul-le-mul_left (length path) few in
      back found.0 inputs draws more turns kind at found.1.0 (omega (arith, short, wide, enough)) is;
}
