use Rattle.std.proofs.Common.{◌∙◌, sym}
use Rattle.cover_engine.proofs.Onto.{none_onto}
use Rattle.cover_engine.proofs.pairs.Pairs.fallen_onto.Goals as goal

pub returns-then-not-lead_onto : goal.returns-then-not-lead_onto
returns-then-not-lead_onto c = c.new.ensures.items ∙ sym (none_onto c.args.numbers.now c.args.self.now (sym c.lead_onto.ensures ∙ c.if-not-lead_onto.true))
