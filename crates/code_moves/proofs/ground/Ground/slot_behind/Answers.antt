use Rattle.std.proofs.Common.{ap}
use Rattle.c_terms.proofs.Putting.{equals}
use Rattle.code_moves.specs.Setting.{setting_of, site_of}
use Rattle.code_moves.specs.Values.{slot_value}
use Rattle.c_terms.proofs.Choosing.{thus}
use Rattle.code_moves.specs.Made as made
use Rattle.code_moves.proofs.ground.Ground.slot_behind.Goals as goal

pub returns-clause-shows : goal.returns-clause-shows
returns-clause-shows c = λ s h. equals _ _ _ s 64 _ _ (ap (slot_value (setting_of c.args.self.now) s) c.in_ok-number.ensures) (c.slot.ensures.shows s h)

pub returns-clause-made : goal.returns-clause-made
returns-clause-made c = thus _ _ _ _ c.slot.ensures.made (ap (made.slot (site_of (setting_of c.args.self.now)) c.args.words.now) c.in_ok-number.ensures)
