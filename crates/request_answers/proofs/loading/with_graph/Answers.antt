use Rattle.request_answers.specs.Answers.IsRefused.{over}
use Rattle.request_answers.proofs.loading.with_graph.Goals as goal

pub returns-in-Err : goal.returns-in-Err
returns-in-Err c = over c.args.examined.typed c.in-Err.fail c.requires.replay c.in-Err.ensures.limits c.limit.ensures

pub returns-in-Ok : goal.returns-in-Ok
returns-in-Ok c = (
  record {
    short = c.requires.small;
    replay = c.requires.replay;
    within = c.in-Ok.ensures.within;
    is = c.in-Ok.ensures.one;
    stands = c.in-Ok.ensures.stands;
    flow = c.entry-entry.ensures.flow;
  },
  c.in-Ok.ensures.marked,
)
