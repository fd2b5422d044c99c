-- One walk over a body that gathers its labels and gotos, with the objects in whose scope they stand, and the rules of `break`,
-- `continue`, `case`, `default` and `return` that it breaks.
use Rattle.std.specs.Prelude.{◌≡◌, ℕ, Bool, true, false, ◌||◌, not, List, [], ◌∷◌, ◌++◌, length, take, Option, None, Some, option_map}
use Rattle.lv_base.specs.declared.kind.Kind.{Kind}
use Rattle.lv_base.specs.declared.fault.SourceFault.TheVariants as fault
use Rattle.c_run.specs.Breaking.{Broken, line}
use Rattle.first_broken.specs.Found.{Summary, summary, both}
use Rattle.c_typed.specs.Tree.{Step, pDraw, pBegin, pBlock, pEmpty, pEffect, pIf, pIfElse, pWhile, pSwitch, pDo, pFor, pCase, pDefault, pLabel, pGoto, pBreak, pContinue, pReturn, Steps, no_steps, steps_and}
use Rattle.c_typed.specs.Rules as r

-- the objects in scope, the jumps so far, and the broken lines summed up
pub record State : Type 0 where
  pub scope : List ℕ
  pub labels : List r.Jump
  pub gotos : List r.Jump
  pub found : Summary

abbrev pub empty : State
empty = record { scope = []; labels = []; gotos = []; found = summary [] }

abbrev pub with_scope : State → List ℕ → State
with_scope st objects = record { scope = objects; labels = st.labels; gotos = st.gotos; found = st.found }

-- behind the declaration of these objects
abbrev pub declaring : State → List ℕ → State
declaring st objects = with_scope st (st.scope ++ objects)

-- in the scope of the first objects alone
abbrev pub leaving : ℕ → State → State
leaving depth st = with_scope st (take depth st.scope)

abbrev pub with_label : State → List ℕ → ℕ → State
with_label st n at = record { scope = st.scope; labels = st.labels ++ r.jump n at at st.scope ∷ []; gotos = st.gotos; found = st.found }

abbrev pub with_goto : State → ℕ → List ℕ → ℕ → State
with_goto st at n x = record { scope = st.scope; labels = st.labels; gotos = st.gotos ++ r.jump n x at st.scope ∷ []; found = st.found }

abbrev pub with_found : State → Summary → State
with_found st f = record { scope = st.scope; labels = st.labels; gotos = st.gotos; found = both st.found f }

abbrev pub case_found : Option ℕ → List ℕ → ℕ → Summary
case_found switch scope at = summary (r.case_lines (option_map (λ n. take n scope) switch) scope at)

module _ (result : Option Kind) where
  -- in a loop, and in a switch that stands in the scope of so many objects
  abbrev mutual
    pub walked : Bool → Option ℕ → State → Step → State
    walked l w st (pDraw object) = st
    walked l w st (pBegin object vs) = st
    walked l w st (pBlock ss) = leaving (length st.scope) (walked_all l w st ss)
    walked l w st pEmpty = st
    walked l w st (pEffect e) = st
    walked l w st (pIf v s) = walked l w st s
    walked l w st (pIfElse v s t) = walked l w (walked l w st s) t
    walked l w st (pWhile at v s) = walked true w st s
    walked l w st (pSwitch at k v s) = walked l (Some (length st.scope)) st s
    walked l w st (pDo at s v) = walked true w st s
    walked l w st (pFor at start v x s) = leaving (length st.scope) (walked true w (declaring st (r.declared_in start)) s)
    walked l w st (pCase at v s) = walked l w (with_found st (case_found w st.scope at)) s
    walked l w st (pDefault at s) = walked l w (with_found st (case_found w st.scope at)) s
    walked l w st (pLabel n at s) = walked l w (with_label st n at) s
    walked l w st (pGoto at n x) = with_goto st at n x
    walked l w st (pBreak at) = with_found st (summary (line (not (l || r.is_some w)) fault.BadJump at))
    walked l w st (pContinue at) = with_found st (summary (line (not l) fault.BadJump at))
    walked l w st (pReturn at e) = with_found st (summary (r.return_line result e at))

    pub walked_all : Bool → Option ℕ → State → Steps → State
    walked_all l w st no_steps = st
    walked_all l w st (steps_and ss s) = declaring (walked l w (walked_all l w st ss) s) (r.declared_by s)

-- the labels and gotos of a body with their scopes, and its broken lines
abbrev pub walk_of : Option Kind → Steps → State
walk_of result body = record { scope = r.declared_in body; labels = r.labels_of_all [] body; gotos = r.gotos_of_all [] body; found = summary (r.misplaced_all result false None [] body) }

-- the walk finds them
abbrev pub BodiesWalked : Type 0
BodiesWalked = (result : Option Kind) (body : Steps) → walked_all result false None empty body ≡ walk_of result body
