use Rattle.run_replay.proofs.Whole.{replays_run}
use Rattle.run_replay.proofs.runs.Replay.run.Goals as goal

pub returns-clause-run : goal.returns-clause-run
returns-clause-run c program r = replays_run program c.self.inside.machine c.args.self.now c.args.inputs.now c.args.turns c.run.result c.self.view_is r c.run.ensures.code
