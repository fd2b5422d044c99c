use Rattle.std.proofs.Common.{refl}
use Rattle.unwinding_laws.proofs.Tables.{legal_later}
use Rattle.unwinding_laws.proofs.growing_tables_keep_legality.Goals as goal

pub returns : goal.returns
returns c g u table ext l = legal_later g u.terms table ext u refl l
