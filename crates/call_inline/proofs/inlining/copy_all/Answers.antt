use Rattle.std.proofs.Common.{rules, ◌≡◌, inl, inr, ◌∙◌, ap, sym, subst, List}
use Rattle.c_graph.specs.Shape.{Flow, IsFlow}
use Rattle.c_graph.specs.Parts.{flow_of}
use Rattle.call_inline.specs.declared.numbers.Copied.{Copied}
use Rattle.call_inline.specs.Inlining.{IsInlining, entry_in}
use Rattle.call_inline.specs.Copying.{all_edges, copied_nodes, copies_after, graph_of, lists_of, main_copy, main_loops, number_of}
use Rattle.call_inline.specs.Inlined.{inlined as inlined_of}
use Rattle.call_inline.proofs.Onliness.{laid-is-inlined}
use Rattle.call_inline.proofs.Turning.{weaken}
use Rattle.call_inline.proofs.Making.{inlined}
use Rattle.call_inline.proofs.Fitting.{fits, parts-are}
use Rattle.call_inline.proofs.inlining.copy_all.Goals as goal

pub returns : goal.returns
returns c =
    let p = c.args.graphs.now in
    let o = (lists_of c.args.offsets.now) in
    let n = c.args.size in
    let copies : List Copied = c.in_ok-copies.copies.items in
    let are : copies ≡ copies_after p o n = c.in_ok-copies.ensures in
    let edges : c.in_ok-edges.edges.items ≡ all_edges p o copies = c.in_ok-edges.ensures ∙ ap (all_edges p o) c.deref.ensures.value in
    let nodes : c.in_ok-nodes.nodes.items ≡ copied_nodes p o copies n = c.in_ok-nodes.ensures ∙ ap (λ (cs : List Copied). copied_nodes p o cs n) c.deref-2.ensures.value in
    let entry : c.number-entry.result ≡ number_of o (main_copy p) (entry_in p p.main) =
    c.number-entry.ensures ∙ ap (λ m. number_of o m c.entry_of.result) c.main_of.ensures
    ∙ ap (number_of o (main_copy p)) (c.entry_of.ensures ∙ ap (entry_in p) c.main.ensures.value) in
    let cells : c.in_ok-cells.cells.items ≡ p.cells = search rules in
    let terms : c.in_ok-terms.terms ≡ p.terms = search rules in
    let loops : c.in_ok-loops.loops.items ≡ main_loops p o = c.in_ok-loops.ensures in
    let made : flow_of c.in_ok-nodes.nodes.items c.in_ok-edges.edges.items c.in_ok-cells.cells.items c.in_ok-terms.terms c.number-entry.result c.in_ok-loops.loops.items ≡ graph_of p o (copies_after p o n) n =
    parts-are p o n copies c.in_ok-nodes.nodes.items c.in_ok-edges.edges.items c.in_ok-cells.cells.items c.in_ok-terms.terms c.number-entry.result c.in_ok-loops.loops.items are nodes edges cells terms entry loops in
    let whole : IsInlining p (graph_of p o (copies_after p o n) n) = inlined p o n c.main.ensures.flows c.requires in
    let is : graph_of p o (copies_after p o n) n ≡ inlined_of p = laid-is-inlined p o n c.requires in
    record {
      only = weaken c.graph_from.result _ _ (λ (g : Flow) h. elim h [ inl e ↦ inl (e ∙ made ∙ is) | inr e ↦ inr e ]) c.graph_from.ensures.made;
      one = λ sparse.
          weaken c.graph_from.result _ _ (λ (g : Flow) e. e ∙ made ∙ is)
          (c.graph_from.ensures.whole (subst IsFlow (sym made) (fits p o n c.main.ensures.flows c.requires sparse)));
      made = weaken c.graph_from.result _ _ (λ (g : Flow) h. elim h [
        | inl e ↦ inl (subst (IsInlining p) (sym (e ∙ made)) whole)
        | inr e ↦ inr e
      ]) c.graph_from.ensures.made;
      whole = λ sparse.
          weaken c.graph_from.result _ _ (λ (g : Flow) e. subst (IsInlining p) (sym (e ∙ made)) whole)
          (c.graph_from.ensures.whole (subst IsFlow (sym made) (fits p o n c.main.ensures.flows c.requires sparse)));
    }
