use Rattle.std.proofs.Common.{rules, ◌≡◌, map, length, ◌∙◌, arith}
use Rattle.c_tree.specs.Denotes.{tree_of}
use Rattle.c_typed.specs.View.{function_of}
use Rattle.trace_lines.proofs.Sites.{paired_next, paired_all}
use Rattle.trace_lines.proofs.pairing.paired.Goals as goal

pub links-preserved : goal.links-preserved
links-preserved c =
    let count : c.len-in-links.result ≡ length c.args.code.now.instructions.items = search rules in
    paired_next (tree_of c.args.unit.now) (map function_of c.args.functions.now) c.args.code.now.instructions.items c.args.code.now.links.items (length c.args.code.now.instructions.items)
    c.links.number c.index.result.now c.links.sites.items c.in_ok-own.own.items c.extend_from_slice.new.self.items c.deref-in-links-2.result.now c.deref.result.now c.deref-in-links.result.now c.len-in-links.result c.entry_at-end.result
    (omega arith) c.index.ensures c.links.invariant c.deref.ensures.value count c.entry_at-end.ensures c.deref-in-links.ensures.value c.in_ok-own.ensures c.deref-in-links-2.ensures.value c.in_ok-extend_from_slice.ensures.items

pub returns : goal.returns
returns c =
    c.links.invariant
    ∙ paired_all (tree_of c.args.unit.now) (map function_of c.args.functions.now) c.args.code.now.instructions.items c.args.code.now.links.items (length c.args.code.now.instructions.items) c.links.number (omega arith)
