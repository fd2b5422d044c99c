use Rattle.certificate_laws.proofs.Whole.{text_read}
use Rattle.certificate_laws.proofs.cert_text_is_read.Goals as goal

pub returns : goal.returns
returns c = text_read
