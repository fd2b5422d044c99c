-- The code of a block: place by place, with the places that wait and the checks that may have failed.
use Rattle.std.specs.Prelude.{ℕ, ◌+◌, ◌==◌, ◌&&◌, ◌||◌, Bool, true, false, not, List, [], ◌∷◌, ◌++◌, length, slice_index, nat_lt, Option, None, Some, if◌then◌else◌}
use Rattle.bv_term.specs.declared.term.TermId.{TermId}
use Rattle.bv_term.specs.Numbers.{truth}
use Rattle.bv_term.specs.WellFormed.{Table}
use Rattle.bv_term.specs.Values.{value}
use Rattle.c_graph.specs.declared.graph.Operation.{Operation}
use Rattle.c_graph.specs.declared.graph.Operation.TheVariants.{Assume, Set, SetAt, Draw}
use Rattle.block_rule.specs.Deeds.{Deed, Tests, Sets, SetsAt, Draws, Code, Stops, Refused, Ends, Does, Branches}
use Rattle.block_rule.specs.Plans.{Way, Ways, Goes, Tested, Checked, Fails, Forks, Place, Plan, matters}

-- a place that waits, and the saved cell that is 1 where the run waits there; without a cell it surely does
pub record Wait : Type 0 where
  pub node : ℕ
  pub guard : Option ℕ

-- a check that may have failed: the saved cell that is 1 where it did, and its error
pub record Bad : Type 0 where
  pub cell : ℕ
  pub error : ℕ

-- what is known between two places: who waits, in the order of numbers; the checks since the last branch, in their order; whether a run
-- may have been lost; the next saved cell
pub record State : Type 0 where
  pub waiting : List Wait
  pub bads : List Bad
  pub lost : Bool
  pub next : ℕ

abbrev pub is_set : ℕ → List ℕ → Bool
is_set c s = slice_index s c == 1

abbrev pub is_on : Option ℕ → List ℕ → Bool
is_on None s = true
is_on (Some c) s = is_set c s

-- the run is at the place, and the test holds
abbrev pub under : Table → Option ℕ → TermId → List ℕ → Bool
under table guard t s = is_on guard s && value table s t == 1

-- the guard of the place of a number among those that wait
abbrev pub found : List Wait → ℕ → Option (Option ℕ)
found [] v = None
found (w ∷ ws) v = if w.node == v then Some w.guard else found ws v

abbrev pub without : List Wait → ℕ → List Wait
without [] v = []
without (w ∷ ws) v = if w.node == v then without ws v else w ∷ without ws v

abbrev pub with_wait : List Wait → ℕ → Option ℕ → List Wait
with_wait [] v guard = record { node = v; guard = guard } ∷ []
with_wait (w ∷ ws) v guard =
    if nat_lt w.node v then w ∷ with_wait ws v guard else record { node = v; guard = guard } ∷ w ∷ ws

abbrev pub is_none : {A : Type 0} → List A → Bool
is_none [] = true
is_none (x ∷ xs) = false

abbrev pub is_sure : Option ℕ → Bool
is_sure None = true
is_sure (Some c) = false

-- whether a place that waits may read the cell before it sets it
abbrev pub some_live : Plan → List Wait → ℕ → Bool
some_live plan [] c = false
some_live plan (w ∷ ws) c = plan.live w.node c || some_live plan ws c

abbrev pub is_awaited : Plan → List Wait → ℕ → Bool
is_awaited plan waiting c = nat_lt plan.most (length waiting) || some_live plan waiting c

-- the guard through which a store into a cell goes
abbrev pub through : Plan → List Wait → Option ℕ → ℕ → Option ℕ
through plan waiting guard c = if is_awaited plan waiting c then guard else None

-- an operation through a guard
abbrev pub guarded : Table → Option ℕ → Operation → Deed
guarded table guard (Assume t) = Tests (λ s. value table s t == 1)
guarded table guard (Set c t) = Sets c (λ s. if is_on guard s then value table s t else slice_index s c)
guarded table guard (SetAt first n i t) = SetsAt first n (λ s. if is_on guard s then value table s i else n) (λ s. value table s t)
guarded table guard (Draw c signed) = Draws c signed

-- an operation at a place: a store is plain where no place that waits may read the cell before it sets it
abbrev pub deed_of : Table → Plan → List Wait → Option ℕ → Operation → Deed
deed_of table plan waiting guard (Assume t) = guarded table guard (Assume t)
deed_of table plan waiting guard (Set c t) = guarded table (through plan waiting guard c) (Set c t)
deed_of table plan waiting guard (SetAt first n i t) = guarded table (through plan waiting guard first) (SetAt first n i t)
deed_of table plan waiting guard (Draw c signed) = guarded table guard (Draw c signed)

abbrev pub moved : Table → Plan → List Wait → Option ℕ → List Operation → Code → Code
moved table plan waiting guard [] code = code
moved table plan waiting guard (op ∷ ops) code = Does (deed_of table plan waiting guard op) (moved table plan waiting guard ops code)

abbrev pub is_draw : Operation → Bool
is_draw (Assume t) = false
is_draw (Set c t) = false
is_draw (SetAt first n i t) = false
is_draw (Draw c signed) = true

abbrev pub some_draw : List Operation → Bool
some_draw [] = false
some_draw (op ∷ ops) = is_draw op || some_draw ops

-- whether one of the checks failed
abbrev pub some_bad : List Bad → List ℕ → Bool
some_bad [] s = false
some_bad (b ∷ bs) s = is_set b.cell s || some_bad bs s

-- the error of the first check that failed, the last without a test
abbrev pub first_bad : Bad → List Bad → Code
first_bad b [] = Ends b.error
first_bad b (x ∷ bs) = Branches (is_set b.cell) (Ends b.error) (first_bad x bs)

-- one branch for all checks that may have failed, and then the rest
abbrev pub flushed : List Bad → Code → Code
flushed [] code = code
flushed (b ∷ bs) code = Branches (some_bad (b ∷ bs)) (first_bad b bs) code

-- where a run may have been lost, it goes on only where the guard is 1
abbrev pub certain : Bool → Option ℕ → Code → Code
certain false guard code = code
certain true None code = code
certain true (Some c) code = Does (Tests (is_set c)) code

abbrev pub losing : State → State
losing st = record { waiting = st.waiting; bads = st.bads; lost = true; next = st.next }

abbrev pub found_sure : State → State
found_sure st = record { waiting = st.waiting; bads = st.bads; lost = false; next = st.next }

abbrev pub clear : State → State
clear st = record { waiting = st.waiting; bads = []; lost = false; next = st.next }

abbrev pub with_bad : State → ℕ → State
with_bad st error = record {
  waiting = st.waiting;
  bads = st.bads ++ record { cell = st.next; error = error } ∷ [];
  lost = st.lost;
  next = st.next + 1;
}

abbrev pub with_place : State → ℕ → State
with_place st v = record { waiting = with_wait st.waiting v (Some st.next); bads = st.bads; lost = st.lost; next = st.next + 1 }

abbrev pub with_sure : State → ℕ → State
with_sure st v = record { waiting = with_wait st.waiting v None; bads = st.bads; lost = st.lost; next = st.next }

abbrev pub with_saved : State → State
with_saved st = record { waiting = st.waiting; bads = st.bads; lost = true; next = st.next + 1 }

abbrev pub left : State → ℕ → State
left st v = record { waiting = without st.waiting v; bads = st.bads; lost = st.lost; next = st.next }

-- a check under a test: its cell says whether it failed
abbrev pub checked : State → ℕ → (List ℕ → Bool) → (State → Code) → Code
checked st error test rest = Does (Sets st.next (λ s. truth (test s))) (rest (with_bad st error))

-- a run goes on at a place that matters, under a test: the first way to it sets its cell, later ones add to it; a place to which a run
-- surely goes needs none, unless it is a cut point
abbrev pub waits : Plan → State → ℕ → Bool → (List ℕ → Bool) → (State → Code) → Option (Option ℕ) → Code
waits plan st v sure test rest (Some None) = rest st
waits plan st v sure test rest (Some (Some c)) = Does (Sets c (λ s. truth (is_set c s || test s))) (rest st)
waits plan st v sure test rest None =
    if sure && not (plan.cuts v) then rest (with_sure st v) else Does (Sets st.next (λ s. truth (test s))) (rest (with_place st v))

abbrev pub leads : Plan → State → ℕ → Bool → (List ℕ → Bool) → (State → Code) → Code
leads plan st v sure test rest =
    if matters plan v then waits plan st v sure test rest (found st.waiting v) else rest (losing st)

-- a way behind its test, under a guard; a value is drawn only where nothing else waits and no check is open
abbrev pub goes : Table → Plan → State → Option ℕ → Way → (State → Code) → Code
goes table plan st guard way rest =
    if some_draw way.moves
    then
    if is_none st.waiting
    then
    flushed st.bads
    (certain st.lost guard
    (moved table plan st.waiting None way.moves (leads plan (clear st) way.to true (λ s. true) rest)))
    else Refused
    else moved table plan st.waiting guard way.moves (leads plan st way.to (is_sure guard) (is_on guard) rest)

-- the ways out of a place under its guard
abbrev pub outwards : Table → Plan → State → Option ℕ → Ways → (State → Code) → Code
outwards table plan st guard (Goes way) rest = goes table plan st guard way rest
outwards table plan st guard (Tested t way) rest =
    Does (Sets st.next (λ s. truth (under table guard t s))) (goes table plan (with_saved st) (Some st.next) way rest)
outwards table plan st guard (Checked t error u way) rest =
    checked st error (under table guard t) (λ st1. goes table plan st1 guard way rest)
outwards table plan st guard (Fails t error u other) rest =
    checked st error (under table guard t) (λ st1. checked st1 other (under table guard u) rest)
outwards table plan st guard (Forks t one u other) rest =
    leads plan st one false (under table guard t) (λ st1. leads plan st1 other false (under table guard u) rest)

-- where nothing else waits, and no run was lost with a check open, the run is surely at the place
abbrev pub is_clear : State → Bool
is_clear st = is_none st.waiting && (not st.lost || is_none st.bads)

abbrev pub at_place : Table → Plan → State → Ways → (State → Code) → Option (Option ℕ) → Code
at_place table plan st ways rest None = Refused
at_place table plan st ways rest (Some guard) =
    if is_clear st
    then certain st.lost guard (outwards table plan (found_sure st) None ways rest)
    else outwards table plan st guard ways rest

abbrev pub placed : Table → Plan → State → Place → (State → Code) → Code
placed table plan st p rest = at_place table plan (left st p.node) p.ways rest (found st.waiting p.node)

-- the places that wait at the end, which are cut points; the last without a test, unless a run may have been lost
abbrev pub exits : Plan → Bool → List Wait → Code
exits plan lost [] = Stops
exits plan lost (w ∷ []) =
    if plan.cuts w.node then (if lost then Does (Tests (is_on w.guard)) (Ends w.node) else Ends w.node) else Refused
exits plan lost (w ∷ x ∷ ws) =
    if plan.cuts w.node then Branches (is_on w.guard) (Ends w.node) (exits plan lost (x ∷ ws)) else Refused

abbrev pub all_placed : Table → Plan → List Place → State → Code
all_placed table plan [] st = flushed st.bads (exits plan st.lost st.waiting)
all_placed table plan (p ∷ ps) st = placed table plan st p (all_placed table plan ps)

-- at its first place a run surely is
abbrev pub start : ℕ → ℕ → State
start v next = record { waiting = record { node = v; guard = None } ∷ []; bads = []; lost = false; next = next }

-- the code of a block: its first place, the others in order, the first saved cell
abbrev pub block_code : Table → Plan → Place → List Place → ℕ → Code
block_code table plan first others next = all_placed table plan (first ∷ others) (start first.node next)
