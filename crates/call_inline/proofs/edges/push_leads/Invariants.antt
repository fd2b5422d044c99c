use Rattle.std.proofs.Common.{◌≡◌, ◌++◌, drop}
use Rattle.call_inline.specs.Copying.{each_from, leads_of, lists_of}
use Rattle.call_inline.proofs.edges.push_leads.Given as goal

abbrev pub invariant-loop-at : goal.invariant-loop-at
invariant-loop-at l =
    l.edges.items ++ each_from (leads_of l.graphs (lists_of l.offsets) l.copied) l.at (drop l.at l.nodes)
    ≡ l.initial.edges.items ++ each_from (leads_of l.graphs (lists_of l.offsets) l.copied) 0 l.nodes
