use Rattle.block_emission.proofs.Putting.{put-made, put-unfit}
use Rattle.block_emission.proofs.terms.put.Goals as goal

pub returns-then-not-fits : goal.returns-then-not-fits
returns-then-not-fits c = record { made = put-unfit c.args.truths.now c.args.term c.fits.result c.fits.ensures c.if-not-fits.true }

pub returns : goal.returns
returns c = record { made = put-made c.put.result c.args.truths.now c.put.new.self c.args.term c.fits.result c.fits.ensures c.if-not-fits.false c.put.ensures.made }
