use Rattle.path_laws.proofs.Running as law
use Rattle.path_laws.proofs.runs_meet_questions.Goals as goal

pub returns : goal.returns
returns c = law.runs_meet_questions
