use Rattle.certificate_laws.proofs.Whole.{written_read}
use Rattle.certificate_laws.proofs.written_is_read.Goals as goal

pub returns : goal.returns
returns c = written_read
