use Rattle.parse_laws.proofs.SoundRun.{sound}
use Rattle.parse_laws.proofs.soundness.Goals as goal

pub returns : goal.returns
returns c = sound
