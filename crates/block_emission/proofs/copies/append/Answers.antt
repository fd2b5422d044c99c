use Rattle.block_emission.proofs.Listing.{append-fit, append-unfit}
use Rattle.block_emission.proofs.copies.append.Goals as goal

pub returns-then-not-fits : goal.returns-then-not-fits
returns-then-not-fits c = record { made = append-unfit c.args.truths.now c.args.term c.fits.result c.fits.ensures c.if-not-fits.true }

pub returns : goal.returns
returns c = record { made = append-fit c.args.truths.now c.append.new.self c.args.term c.fits.result c.fits.ensures c.if-not-fits.false c.in_ok-append.ensures.appended }
