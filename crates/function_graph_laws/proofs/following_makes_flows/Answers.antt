use Rattle.function_graph_laws.proofs.Whole as law
use Rattle.function_graph_laws.proofs.following_makes_flows.Goals as goal

pub returns : goal.returns
returns c = law.following-makes-flows
