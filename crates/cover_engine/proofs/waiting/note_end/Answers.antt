use Rattle.std.proofs.Common.{sym, ◌∙◌, get_or}
use Rattle.std.specs.Prelude.{is_ok}
use Rattle.cover_engine.proofs.Waits.{ends_pushed}
use Rattle.cover_engine.proofs.waiting.note_end.Goals as goal

pub returns-clause-ends : goal.returns-clause-ends
returns-clause-ends c = λ h.
    ends_pushed c.args.nodes.now c.args.ends_known.now.items c.push.new.self.items (get_or c.args.vertices.now c.args.number c.index-vertices-at.result).node.0 (is_ok c.push.result) c.push.ensures.items (sym c.ends.ensures ∙ c.if-not-ends.false) h
