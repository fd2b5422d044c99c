use Rattle.certificate_laws.proofs.ReadBack.{read_is_written}
use Rattle.certificate_laws.proofs.read_is_written.Goals as goal

pub returns : goal.returns
returns c = read_is_written
