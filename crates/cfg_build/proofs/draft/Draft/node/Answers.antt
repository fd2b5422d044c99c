use Rattle.std.proofs.Common.{sym}
use Rattle.std.proofs.lemmas.List.{append-nil}
use Rattle.cfg_build.proofs.draft.Draft.node.Goals as goal

pub returns-clause-adds : goal.returns-clause-adds
returns-clause-adds c = record { nodes_are = c.in_ok-push.ensures.items; edges_are = sym (append-nil c.args.self.now.edges.items) }
