-- The copies, their edges, their numbers and their nodes make an inlining.
use Rattle.std.proofs.Common.{◌≡◌, ℕ, ◌<◌, ◌≤◌, length, Option, Some, None, map, arith, sym, ap, ◌∙◌, refl}
use Rattle.std.proofs.lemmas.Option.{same_Some, slice_get_within}
use Rattle.lv_base.specs.declared.fault.ErrorKind.{ErrorKind}
use Rattle.c_graph.specs.declared.graph.NodeId.{NodeId}
use Rattle.c_graph.specs.declared.graph.Node.{Node}
use Rattle.c_graph.specs.declared.graph.Node.TheVariants.{Error, End, Call}
use Rattle.c_graph.specs.Functions.{Flows, AreFlows}
use Rattle.call_inline.specs.declared.numbers.Copied.{Copied}
use Rattle.call_inline.specs.Inlining.{IsInlining, edges_in, entry_in, nodes_in}
use Rattle.call_inline.specs.Copying.{Offsets, called, calls_of, copies_after, each_from, goal_of, graph_of, leads_of, main_copy, moved, number_of, plain_if}
use Rattle.call_inline.specs.Layout.{IsLaidOut}
use Rattle.call_inline.proofs.Lists.{among-back, among-map, get-there}
use Rattle.call_inline.proofs.Gluing.{in-first, in-all, in-leads, exit-ends, exit-goal}
use Rattle.call_inline.proofs.Turning.{first, followed}
use Rattle.call_inline.proofs.Leading.{only}
use Rattle.call_inline.proofs.Unfolding.{fewer}
use Rattle.call_inline.proofs.Standing.{apart, stands}

-- an error that stands at a node's number is that of the node
plain-error : (o : Option NodeId) (x : Node) (kind : ErrorKind) (at : ℕ) → plain_if o x ≡ Error kind at → x ≡ Error kind at
plain-error None x kind at e = e
plain-error (Some to) x kind at e = absurd (cc e)

pub inlined : (p : Flows) (offsets : Offsets) (total : ℕ) → AreFlows p → IsLaidOut p offsets total → IsInlining p (graph_of p offsets (copies_after p offsets total) total)
inlined p offsets total flows out = record {
  copies = copies_after p offsets total;
  number = number_of offsets;
  main = (main_copy p, first p offsets total, refl, refl, refl);
  edges = λ c e at own.
      in-all p offsets (copies_after p offsets total) c (moved offsets c e) at
      (among-back (each_from (leads_of p offsets c) 0 (nodes_in p c.function)) (map (moved offsets c) (edges_in p c.function)) (moved offsets c e)
      (among-map (moved offsets c) (edges_in p c.function) e own));
  calls = λ c v callee next at s.
      let d : Copied = called offsets c v.0 callee next in
      let lt : at.0 < length (copies_after p offsets total) = slice_get_within (copies_after p offsets total) at.0 c at.1 in
      let few : length (copies_after p offsets total) ≤ total = fewer p offsets total flows out total in (
        d,
        followed p offsets total at.0 c d (omega (arith, lt, few)) at.1 (in-first (calls_of offsets c) (nodes_in p c.function) v.0 (Call callee next) d s (0, refl)),
        refl,
        refl,
        in-leads p offsets (copies_after p offsets total) c v (number_of offsets d (entry_in p callee)) (Call callee next) at s refl,
      );
  returns = λ c v back at s b. in-leads p offsets (copies_after p offsets total) c v back End at (exit-ends p c.function v flows s) (exit-goal p offsets c v back s b);
  errors = λ c v kind offset at s. stands p offsets total flows out c v (Error kind offset) at s;
  only = λ e a. only p offsets total (copies_after p offsets total) (followed p offsets total) (fewer p offsets total flows out total) e a;
  apart = λ c d v w a b lv lw e. apart p offsets total flows out c d v w a b lv lw e;
  own_errors = λ c v kind offset at lt s.
      let (x, there) = get-there (nodes_in p c.function) v.0 lt in
      let both : Some (plain_if (goal_of p offsets c v.0 x) x) ≡ Some (Error kind offset) = sym (stands p offsets total flows out c v x at there) ∙ s in
      there ∙ ap (λ (y : Node). Some y) (plain-error (goal_of p offsets c v.0 x) x kind offset (same_Some (plain_if (goal_of p offsets c v.0 x) x) (Error kind offset) both));
  loops = refl;
  cells = refl;
  terms = refl;
}
