use Rattle.std.proofs.Common.{rules, ◌≡◌, length, Some}
use Rattle.loop_turns.specs.declared.goals.Standing.TheVariants.{To}
use Rattle.loop_turns.specs.Turning.{stands_at}
use Rattle.loop_turns.proofs.Turning.{only-turn}
use Rattle.loop_turns.proofs.goals.TurnGoals.only.Goals as goal

pub returns-in-Some-To-clause-only : goal.returns-in-Some-To-clause-only
returns-in-Some-To-clause-only c =
    let h : stands_at c.args.at c.args.self.now (length c.args.self.now) ≡ Some (To c.in-Some-To.goal) = search rules in
    only-turn c.args.at c.args.self.now c.in-Some-To.goal h
