use Rattle.request_answers.proofs.Refusals.{refused_by}
use Rattle.request_answers.proofs.loading.load_source.Goals as goal

pub returns-in-Err : goal.returns-in-Err
returns-in-Err c = refused_by c.args.model c.args.source.now c.in-Err.fail c.refuse.result c.refuse.ensures c.in-Err.ensures
