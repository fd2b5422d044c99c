use Rattle.resolution_log.proofs.Sames.{result_same, new_same}
use Rattle.resolution_log.proofs.laws.sets_are_enough.Goals as goal

pub returns : goal.returns
returns c cs ds all = ((λ ch r h. result_same ch r all h), (λ r q s n. new_same r q all s n))
