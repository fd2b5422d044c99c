use Rattle.std.proofs.Common.{refl}
use Rattle.c_terms.proofs.Putting.{put-extends, put-shows}
use Rattle.c_terms.proofs.Choosing.{put-unfit, put-made}
use Rattle.c_terms.proofs.words.Words.put.Goals as goal

pub returns-clause-shows : goal.returns-clause-shows
returns-clause-shows c = λ s w x h.
    put-shows _ _ _ _ s w x c.count-count.ensures.table (record { extends = put-extends _ _ _ _ c.put-outcome.ensures.put c.put-outcome.ensures.unchanged; sound = refl }) c.put-outcome.ensures.named h

pub returns-then-not-fits-clause-made : goal.returns-then-not-fits-clause-made
returns-then-not-fits-clause-made c = put-unfit c.args.self.now c.args.term c.fits.result c.fits.ensures c.if-not-fits.true

pub returns-clause-made : goal.returns-clause-made
returns-clause-made c = put-made c.put-outcome.result c.args.self.now c.put-outcome.new.self c.args.term c.fits.result c.fits.ensures c.if-not-fits.false c.put-outcome.ensures.made
