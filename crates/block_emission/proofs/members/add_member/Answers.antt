use Rattle.std.proofs.Common.{rules, ◌<◌, ◌≤◌, ◌∙◌, ◌∷◌, ◌++◌, [], Vec, ap, length}
use Rattle.std.specs.Global.{Global}
use Rattle.c_graph.specs.declared.graph.NodeId.{NodeId}
use Rattle.block_emission.proofs.Listing.{member-added, member-past}
use Rattle.block_emission.proofs.members.add_member.Goals as goal

pub returns-in_ok-push : goal.returns-in_ok-push
returns-in_ok-push c =
    let within : c.args.start < length c.args.members.now.items = search rules in
    record {
      made = member-added c.args.members.now.items c.args.start c.index_mut.result.now c.push.new.self c.args.node within
          (c.in_ok-push.ensures.items ∙ ap (λ (v : Vec NodeId Global). v.items ++ c.args.node ∷ []) c.index_mut.ensures.value);
    }

pub returns-else-start-len : goal.returns-else-start-len
returns-else-start-len c =
    let past : length c.args.members.now.items ≤ c.args.start = search rules in
    record { made = member-past c.args.members.now.items c.args.start c.args.node past }
