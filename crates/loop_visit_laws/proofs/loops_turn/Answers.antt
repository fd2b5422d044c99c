use Rattle.loop_visit_laws.proofs.Loops as law
use Rattle.loop_visit_laws.proofs.loops_turn.Goals as goal

pub returns : goal.returns
returns c = law.loops-turn
