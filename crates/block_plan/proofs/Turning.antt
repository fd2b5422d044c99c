-- Loops, turn by turn.
use Rattle.std.proofs.Common.{◌≡◌, ℕ, suc, ◌+◌, ◌-◌, ◌<◌, arith, Bool, true, List, [], ◌∷◌, ◌++◌, length, take, get_or, Some, Option, slice_get, if◌then◌else◌, ap, sym, refl, ◌∙◌}
use Rattle.std.proofs.lemmas.List.{take_more}
use Rattle.c_graph.specs.declared.graph.NodeId.{NodeId}
use Rattle.c_graph.specs.declared.graph.Edge.{Edge}
use Rattle.c_graph.specs.declared.graph.Operation.{Operation}
use Rattle.c_graph.specs.Shape.{Flow}
use Rattle.plan_tables.specs.Tables.{LiveRows, UnitTable}
use Rattle.plan_tables.specs.Made.{link_at}
use Rattle.block_plan.specs.declared.blocks.Came.{Came}
use Rattle.block_plan.specs.declared.blocks.Pending.{Pending}
use Rattle.block_plan.specs.Plans.{Plan, WayChains}
use Rattle.block_plan.specs.Made.{Flowing, Planning, Search, block_before, blocks_along, came_all, came_from, enter_chain, enter_source, gone_if, gone_on, gone_through, left, left_all, next_waiting, over_operation, over_operations, pass, passes, step_then, taken, taken_all, without_next}

-- a search goes on from one more node
pub search_turn : (step : NodeId → Search → Search) (s mid new : Search) (count turn : ℕ) (v : NodeId)
    → turn < count → next_waiting s ≡ Some v → mid ≡ without_next s → new ≡ step v mid
    → (whole : Search) → gone_on step (count - turn) s ≡ whole → gone_on step (count - (turn + 1)) new ≡ whole
search_turn step s mid new count turn v lt next rest made whole h =
    let n : ℕ = count - (turn + 1) in
    let more : count - turn ≡ suc n = omega (arith, lt) in
    let h2 : step_then step (gone_on step n) (next_waiting s) s ≡ whole = sym (ap (λ (k : ℕ). gone_on step k s) more) ∙ h in
    let h3 : gone_on step n (step v (without_next s)) ≡ whole = sym (ap (λ (o : Option NodeId). step_then step (gone_on step n) o s) next) ∙ h2 in
    ap (gone_on step n) (made ∙ ap (step v) rest) ∙ h3

-- one more edge of a chain
pub chain_turn : (edges : List Edge) (next : List (Option ℕ)) (count turn k : ℕ) (at to : Option ℕ) (s new whole : Search)
    → turn < count → at ≡ Some k → new ≡ enter_source (slice_get edges k) s → to ≡ link_at next k
    → enter_chain edges next (count - turn) at s ≡ whole → enter_chain edges next (count - (turn + 1)) to new ≡ whole
chain_turn edges next count turn k at to s new whole lt is made link h =
    let n : ℕ = count - (turn + 1) in
    let more : count - turn ≡ suc n = omega (arith, lt) in
    let h2 : enter_chain edges next (suc n) (Some k) s ≡ whole =
    sym (ap (λ (o : Option ℕ). enter_chain edges next (suc n) o s) is) ∙ sym (ap (λ (m : ℕ). enter_chain edges next m at s) more) ∙ h in
    ap (λ (o : Option ℕ). enter_chain edges next n o new) link ∙ ap (enter_chain edges next n (link_at next k)) made ∙ h2

-- one more way of a chain
along_turn : (b : WayChains) (v : NodeId) (starts : List (Option ℕ)) (count turn k : ℕ) (at to : Option ℕ)
    → turn < count → at ≡ Some k → to ≡ link_at b.next k
    → blocks_along b v starts (count - turn) at ≡ block_before b starts v k ∷ blocks_along b v starts (count - (turn + 1)) to
along_turn b v starts count turn k at to lt is link =
    let n : ℕ = count - (turn + 1) in
    let more : count - turn ≡ suc n = omega (arith, lt) in
    ap (λ (m : ℕ). blocks_along b v starts m at) more ∙ ap (blocks_along b v starts (suc n)) is
    ∙ sym (ap (λ (o : Option ℕ). block_before b starts v k ∷ blocks_along b v starts n o) link)

pub came_turn : (b : WayChains) (v : NodeId) (starts : List (Option ℕ)) (count turn k block : ℕ) (at to : Option ℕ) (c new whole : Came)
    → turn < count → at ≡ Some k → to ≡ link_at b.next k → block ≡ block_before b starts v k → new ≡ came_from c block
    → came_all (blocks_along b v starts (count - turn) at) c ≡ whole → came_all (blocks_along b v starts (count - (turn + 1)) to) new ≡ whole
came_turn b v starts count turn k block at to c new whole lt is link bl made h =
    ap (came_all (blocks_along b v starts (count - (turn + 1)) to)) (made ∙ ap (came_from c) bl)
    ∙ sym (ap (λ (bs : List ℕ). came_all bs c) (along_turn b v starts count turn k at to lt is link)) ∙ h

pub taken_turn : (b : WayChains) (v : NodeId) (starts : List (Option ℕ)) (count turn k block : ℕ) (at to : Option ℕ) (is_end ends : Bool) (p new whole : Pending)
    → turn < count → at ≡ Some k → to ≡ link_at b.next k → block ≡ block_before b starts v k → is_end ≡ ends → new ≡ taken is_end p block
    → taken_all ends (blocks_along b v starts (count - turn) at) p ≡ whole → taken_all ends (blocks_along b v starts (count - (turn + 1)) to) new ≡ whole
taken_turn b v starts count turn k block at to is_end ends p new whole lt is link bl e made h =
    ap (taken_all ends (blocks_along b v starts (count - (turn + 1)) to)) (made ∙ ap (taken is_end p) bl ∙ ap (λ (x : Bool). taken x p (block_before b starts v k)) e)
    ∙ sym (ap (λ (bs : List ℕ). taken_all ends bs p) (along_turn b v starts count turn k at to lt is link)) ∙ h

abbrev pub with_left : Pending → List Bool → Pending
with_left p flags = record { ahead = p.ahead; left = flags }

pub left_turn : (b : WayChains) (v : NodeId) (starts : List (Option ℕ)) (count turn k block : ℕ) (at to : Option ℕ) (p new whole : Pending)
    → turn < count → at ≡ Some k → to ≡ link_at b.next k → block ≡ block_before b starts v k → new ≡ left p block
    → left_all (blocks_along b v starts (count - turn) at) p ≡ whole → left_all (blocks_along b v starts (count - (turn + 1)) to) new ≡ whole
left_turn b v starts count turn k block at to p new whole lt is link bl made h =
    ap (left_all (blocks_along b v starts (count - (turn + 1)) to)) (made ∙ ap (left p) bl)
    ∙ sym (ap (λ (bs : List ℕ). left_all bs p) (along_turn b v starts count turn k at to lt is link)) ∙ h

-- one more operation, from the last one on
over_push : (units : UnitTable) (reads : List (List ℕ)) (ops : List Operation) (op : Operation) (s : List ℕ)
    → over_operations units reads (ops ++ op ∷ []) s ≡ over_operations units reads ops (over_operation units reads op s)
over_push units reads [] op s = refl
over_push units reads (o ∷ ops) op s = ap (over_operation units reads o) (over_push units reads ops op s)

pub over_turn : (units : UnitTable) (reads : List (List ℕ)) (ops : List Operation) (behind : ℕ) (d op : Operation) (s new whole : List ℕ)
    → behind < length ops → op ≡ get_or ops (length ops - 1 - behind) d → new ≡ over_operation units reads op s
    → over_operations units reads (take (length ops - behind) ops) s ≡ whole → over_operations units reads (take (length ops - (behind + 1)) ops) new ≡ whole
over_turn units reads ops behind d op s new whole lt is made h =
    let m : ℕ = length ops - (behind + 1) in
    let at : length ops - 1 - behind ≡ m = omega (arith, lt) in
    let more : length ops - behind ≡ m + 1 = omega (arith, lt) in
    let below : m < length ops = omega (arith, lt) in
    let last : op ≡ get_or ops m d = is ∙ ap (λ (k : ℕ). get_or ops k d) at in
    let split : take (length ops - behind) ops ≡ take m ops ++ op ∷ [] =
    ap (λ (k : ℕ). take k ops) more ∙ take_more ops m d below ∙ sym (ap (λ (o : Operation). take m ops ++ o ∷ []) last) in
    ap (over_operations units reads (take m ops)) made ∙ sym (over_push units reads (take m ops) op s)
    ∙ sym (ap (λ (os : List Operation). over_operations units reads os s) split) ∙ h

-- one more pass
pub pass_turn : (g : Flow) (plan : Plan) (units : UnitTable) (reads : List (List ℕ)) (count turn : ℕ) (changed : Bool) (s new : Flowing) (whole : LiveRows)
    → turn < count → new ≡ pass g plan units reads s → changed ≡ new.changed → changed ≡ true
    → passes g plan units reads (count - turn) s ≡ whole → passes g plan units reads (count - (turn + 1)) new ≡ whole
pass_turn g plan units reads count turn changed s new whole lt made is on h =
    let n : ℕ = count - (turn + 1) in
    let f : Flowing = pass g plan units reads s in
    let more : count - turn ≡ suc n = omega (arith, lt) in
    let h2 : (if f.changed then passes g plan units reads n f else f.live) ≡ whole = sym (ap (λ (k : ℕ). passes g plan units reads k s) more) ∙ h in
    let yes2 : f.changed ≡ true = sym (ap (λ (z : Flowing). z.changed) made) ∙ sym is ∙ on in
    ap (passes g plan units reads n) made ∙ sym (ap (λ (b : Bool). if b then passes g plan units reads n f else f.live) yes2) ∙ h2

-- one more place
pub through_turn : (g : Flow) (b : WayChains) (s old new : Planning) (n : ℕ)
    → new ≡ gone_if g b (record { 0 = n }) old → old ≡ gone_through g b s n → new ≡ gone_through g b s (n + 1)
through_turn g b s old new n made h =
    let next : suc n ≡ n + 1 = omega arith in
    made ∙ ap (gone_if g b (record { 0 = n })) h ∙ ap (gone_through g b s) next
