-- What the functions of a typed tree break, with their labels and calls, gathered one by one.
use Rattle.std.specs.Prelude.{◌≡◌, ℕ, List, [], ◌∷◌, ◌++◌, map}
use Rattle.first_broken.specs.Found.{Summary, summary, both}
use Rattle.c_typed.specs.Tree.{Function}
use Rattle.c_typed.specs.Rules as r
use Rattle.c_rules.specs.declared.label.LabelAt.{LabelAt}
use Rattle.c_rules.specs.Examined.{labels_at, labels_from}

pub record Gathering : Type 0 where
  pub found : Summary
  pub labels : List LabelAt
  pub calls : List (List r.Call)

abbrev pub nothing : Gathering
nothing = record { found = summary []; labels = []; calls = [] }

abbrev pub calls_in : Function → List r.Call
calls_in f = r.calls_of (r.all_of_all f.body)

-- with a function of this number
abbrev pub with_function : Gathering → ℕ → Function → Gathering
with_function g number f = record {
  found = both g.found (summary (r.function_faults f));
  labels = g.labels ++ labels_at number (r.labels_of_all [] f.body);
  calls = g.calls ++ calls_in f ∷ [];
}

abbrev pub gathering : List Function → Gathering
gathering fs = record { found = summary (r.functions_faults fs); labels = labels_from 0 fs; calls = r.calls_of_functions fs }

abbrev pub callees : List Function → List (List ℕ)
callees fs = map (λ cs. map (λ c. c.to) cs) (r.calls_of_functions fs)

-- together with the calls on cycles
abbrev pub checked : List Function → Gathering
checked fs = record {
  found = both (summary (r.functions_faults fs)) (summary (r.recursion_faults fs));
  labels = labels_from 0 fs;
  calls = r.calls_of_functions fs;
}

-- the values of a function alone: what they break, and their calls
pub record Checked : Type 0 where
  pub found : Summary
  pub calls : List r.Call

abbrev pub values_checked : Function → Checked
values_checked f = record { found = summary (r.unsequenced_of (r.all_of_all f.body)); calls = calls_in f }
