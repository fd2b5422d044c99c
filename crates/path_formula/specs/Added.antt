-- What operations add to a path's clauses.
use Rattle.std.specs.Prelude.{ℕ, Bool, true, false, List, [], ◌∷◌, ◌++◌, drop, slice_index, slice_index_or}
use Rattle.prop.specs.declared.Lit.{Lit}
use Rattle.bit_gates.specs.Net.{net_clauses}
use Rattle.bv_term.specs.WellFormed.{Table}
use Rattle.bit_blast.specs.Held.{Held, blast_of, fresh_of, rebind_of, store_of}
use Rattle.c_graph.specs.declared.graph.Operation.{Operation}
use Rattle.c_graph.specs.declared.graph.Operation.TheVariants.{Assume, Set, SetAt, Draw}
use Rattle.path_query.specs.declared.query.Bundle.{Bundle}

-- clauses that are added, cells that are drawn into with their literals, and what is held then
pub record Added : Type 0 where
  pub clauses : List (List Lit)
  pub draws : List Bundle
  pub held : Held

abbrev pub nothing_added : Held → Added
nothing_added h = record { clauses = []; draws = []; held = h }

-- an addition, and what follows it
abbrev pub joined : Added → Added → Added
joined a b = record { clauses = a.clauses ++ b.clauses; draws = a.draws ++ b.draws; held = b.held }

-- the term holds: its literal is a clause
abbrev pub assumed : Table → ℕ → Held → Added
assumed table t h =
    let m = blast_of table t h in
    record { clauses = net_clauses h.next m.defs ++ m.outs ∷ []; draws = []; held = m.held }

-- the cell has the term's literals
abbrev pub set_to : Table → ℕ → ℕ → Held → Added
set_to table c t h =
    let m = blast_of table t h in
    record { clauses = net_clauses h.next m.defs; draws = []; held = rebind_of c m.outs m.held }

-- the term's value is stored at the index among n cells
abbrev pub stored_at : Table → ℕ → ℕ → ℕ → ℕ → Held → Added
stored_at table first n i t h =
    let a = blast_of table i h in
    let b = blast_of table t a.held in
    let s = store_of first n a.outs b.outs b.held in
    record {
      clauses = net_clauses h.next a.defs ++ (net_clauses a.held.next b.defs ++ net_clauses b.held.next s.defs);
      draws = [];
      held = s.held;
    }

-- the cell has literals of its own
abbrev pub drawn_into : Table → ℕ → Held → Added
drawn_into table c h =
    let m = fresh_of (slice_index table.cells c) h in
    record { clauses = []; draws = record { cell = c; bits = m.outs } ∷ []; held = rebind_of c m.outs m.held }

abbrev pub added : Table → Held → Operation → Added
added table h (Assume t) = assumed table t.0 h
added table h (Set c t) = set_to table c t.0 h
added table h (SetAt first n i t) = stored_at table first n i.0 t.0 h
added table h (Draw c signed) = drawn_into table c h

-- where it is kept
abbrev pub added_if : Bool → Table → Held → Operation → Added
added_if true table h o = added table h o
added_if false table h o = nothing_added h

-- operations in order, each where its flag is set
abbrev pub added_all : Table → Held → List Operation → List Bool → Added
added_all table h [] kept = nothing_added h
added_all table h (o ∷ os) kept =
    let m = added_if (slice_index_or kept 0 false) table h o in
    joined m (added_all table m.held os (drop 1 kept))
