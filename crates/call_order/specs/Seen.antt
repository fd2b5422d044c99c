-- Calls of the program.
use Rattle.std.specs.Prelude.{ℕ, List, map, Vec}
use Rattle.std.proofs.Common.{Global}
use Rattle.c_typed.specs.Rules as r
use Rattle.call_order.specs.declared.calls.CallAt.{CallAt}
use Rattle.call_order.specs.declared.order.Taking.{Taking}
use Rattle.call_order.specs.declared.walk.Walk.{Walk}
use Rattle.call_order.specs.Peel as p
use Rattle.call_order.specs.Walks as walks

abbrev pub call_of : CallAt → r.Call
call_of c = record { at = c.at; to = c.to }

abbrev pub calls : List CallAt → List r.Call
calls cs = map call_of cs

-- by function
abbrev pub all_calls : List (Vec CallAt Global) → List (List r.Call)
all_calls xs = map (λ x. calls x.items) xs

-- the functions that are called
abbrev pub targets : List CallAt → List ℕ
targets cs = map (λ c. c.to) cs

abbrev pub graph_of : List (Vec CallAt Global) → List (List ℕ)
graph_of xs = map (λ x. targets x.items) xs

abbrev pub taking_of : Taking → p.Taking
taking_of x = record { taken = x.taken.items; order = x.order.items }

abbrev pub walk_of : Walk → walks.Walk
walk_of w = record {
  places = w.places.items;
  path = w.path.items;
  unclosed = w.unclosed.items;
  next = w.next;
  entered = w.entered;
  closed = w.closed;
  order = w.guess.order.items;
  parts = w.guess.parts.items;
}
