use Rattle.std.proofs.Common.{refl, ap, arith, Option}
use Rattle.c_terms.proofs.Putting.{equals}
use Rattle.code_moves.specs.declared.ground.Room.{Room}
use Rattle.code_moves.specs.Values.{scalar_in}
use Rattle.code_moves.proofs.Standing.{room-stands}
use Rattle.code_moves.specs.Setting.{setting_of, site_of}
use Rattle.c_terms.proofs.Choosing.{thus}
use Rattle.code_moves.specs.Made as made
use Rattle.code_moves.proofs.ground.Ground.scalar.Goals as goal

pub returns-in-None-clause-shows : goal.returns-in-None-clause-shows
returns-in-None-clause-shows c = λ s h. equals _ _ _ s 64 _ _ (ap (λ (o : Option Room). scalar_in c.args.self.now.model o s) c.in-None.ensures) (c.zero.ensures.shows s 64 refl (omega arith) (omega arith))

pub returns-in-Some-clause-shows : goal.returns-in-Some-clause-shows
returns-in-Some-clause-shows c = λ s h. equals _ _ _ s 64 _ _ (ap (λ (o : Option Room). scalar_in c.args.self.now.model o s) c.in-Some.ensures) (c.scalar_in.ensures.shows s (room-stands _ _ _ _ h c.in-Some.ensures))

pub returns-in-None-clause-made : goal.returns-in-None-clause-made
returns-in-None-clause-made c = thus _ _ _ _ c.zero.ensures.made (ap (made.scalar_of (site_of (setting_of c.args.self.now)) c.args.words.now) c.in-None.ensures)

pub returns-in-Some-clause-made : goal.returns-in-Some-clause-made
returns-in-Some-clause-made c = thus _ _ _ _ c.scalar_in.ensures.made (ap (made.scalar_of (site_of (setting_of c.args.self.now)) c.args.words.now) c.in-Some.ensures)
