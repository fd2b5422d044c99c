use Rattle.std.proofs.Common.{refl, ap, arith, Option}
use Rattle.c_terms.proofs.Putting.{equals}
use Rattle.code_moves.specs.declared.ground.Room.{Room}
use Rattle.code_moves.specs.Values.{element_in}
use Rattle.code_moves.proofs.Standing.{room-stands}
use Rattle.code_moves.specs.Setting.{setting_of, site_of}
use Rattle.c_terms.proofs.Choosing.{thus}
use Rattle.code_moves.specs.Made as made
use Rattle.code_moves.proofs.ground.Ground.element.Goals as goal

pub returns-in-None-clause-shows : goal.returns-in-None-clause-shows
returns-in-None-clause-shows c = λ s a h k. equals _ _ _ s 64 _ _ (ap (λ (o : Option Room). element_in c.args.self.now.model o s a) c.in-None.ensures) (c.zero.ensures.shows s 64 refl (omega arith) (omega arith))

pub returns-in-Some-clause-shows : goal.returns-in-Some-clause-shows
returns-in-Some-clause-shows c = λ s a h k. equals _ _ _ s 64 _ _ (ap (λ (o : Option Room). element_in c.args.self.now.model o s a) c.in-Some.ensures) (c.element_in.ensures.shows s a (room-stands _ _ _ _ h c.in-Some.ensures) k)

pub returns-in-None-clause-made : goal.returns-in-None-clause-made
returns-in-None-clause-made c = thus _ _ _ _ c.zero.ensures.made (ap (λ (o : Option Room). made.element_of (site_of (setting_of c.args.self.now)) c.args.words.now o c.args.index) c.in-None.ensures)

pub returns-in-Some-clause-made : goal.returns-in-Some-clause-made
returns-in-Some-clause-made c = thus _ _ _ _ c.element_in.ensures.made (ap (λ (o : Option Room). made.element_of (site_of (setting_of c.args.self.now)) c.args.words.now o c.args.index) c.in-Some.ensures)
