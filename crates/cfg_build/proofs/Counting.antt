-- How many nodes stand for instructions and for places.
use Rattle.std.proofs.Common.{◌≡◌, ℕ, zero, suc, ◌+◌, Bool, true, false, List, [], ◌∷◌, ◌++◌, length, refl, ap, ◌∙◌, arith, Some, slice_get, take, drop, length-append, if◌then◌else◌}
use Rattle.std.proofs.lemmas.Option.{same_Some, none-some}
use Rattle.lv_base.specs.declared.kind.Kind.{Kind}
use Rattle.lv_base.specs.declared.kind.Kind.TheVariants as k
use Rattle.lv_base.specs.declared.kind.Model.{Model}
use Rattle.lv_base.specs.Integers.{is_signed, is_promoted}
use Rattle.bv_term.specs.WellFormed.{Table}
use Rattle.c_tree.specs.declared.symbol.BinaryOp.{BinaryOp}
use Rattle.c_tree.specs.declared.symbol.BinaryOp.TheVariants as o
use Rattle.c_tree.specs.declared.symbol.Crement.{Crement}
use Rattle.c_graph.specs.declared.graph.NodeId.{NodeId}
use Rattle.c_graph.specs.declared.graph.Node.{Node}
use Rattle.c_graph.specs.declared.graph.Edge.{Edge}
use Rattle.slot_code.specs.declared.flat.Instruction.{Instruction}
use Rattle.slot_code.specs.declared.flat.Instruction.TheVariants as i
use Rattle.c_terms.specs.declared.failing.Tests.{Tests}
use Rattle.c_terms.specs.declared.failing.Tests.TheVariants.{None, One, Two}
use Rattle.c_terms.specs.Operations.{Failure, failures, failure_count}
use Rattle.c_terms.specs.Shown.{AreFails}
use Rattle.code_moves.specs.Setting.{Setting}
use Rattle.code_moves.specs.Values.{failures_of, operation_of, step_tested}
use Rattle.cfg_build.specs.Steps.{Checked, checked_nodes, offset_of}
use Rattle.cfg_build.specs.Follows.{Plan, Follows, FirstFollow}
use Rattle.cfg_build.specs.Sizes.{checks_in, nodes_with, nodes_at, nodes_of}

-- ---- Failures

if-length : (b : Bool) (x : Failure) → length (if b then x ∷ [] else []) ≡ (if b then 1 else 0)
if-length true x = refl
if-length false x = refl

division-length : (b : Bool) (x y : Failure) → length (if b then x ∷ y ∷ [] else x ∷ []) ≡ (if b then 2 else 1)
division-length true x y = refl
division-length false x y = refl

failures-count : (op : BinaryOp) (kind : Kind) (m : Model) (a b c : ℕ) → length (failures op kind m a b c) ≡ failure_count op (is_signed kind)
failures-count o.OrElse kind m a b c = refl
failures-count o.AndAlso kind m a b c = refl
failures-count o.BitOr kind m a b c = refl
failures-count o.BitXor kind m a b c = refl
failures-count o.BitAnd kind m a b c = refl
failures-count o.Equal kind m a b c = refl
failures-count o.NotEqual kind m a b c = refl
failures-count o.Less kind m a b c = refl
failures-count o.Greater kind m a b c = refl
failures-count o.LessEqual kind m a b c = refl
failures-count o.GreaterEqual kind m a b c = refl
failures-count o.ShiftLeft kind m a b c = refl
failures-count o.ShiftRight kind m a b c = refl
failures-count o.Add kind m a b c = if-length (is_signed kind) _
failures-count o.Subtract kind m a b c = if-length (is_signed kind) _
failures-count o.Multiply kind m a b c = if-length (is_signed kind) _
failures-count o.Divide kind m a b c = division-length (is_signed kind) _ _
failures-count o.Remainder kind m a b c = division-length (is_signed kind) _ _

step-count : (x : Crement) (kind : Kind) (m : Model) (a : ℕ) → length (step_tested x kind m a) ≡ (if is_promoted kind then failure_count (operation_of x) (is_signed kind) else 0)
step-count x k.Bool m a = refl
step-count x k.Char m a = refl
step-count x k.UChar m a = refl
step-count x k.Short m a = refl
step-count x k.UShort m a = refl
step-count x k.Int m a = failures-count (operation_of x) k.Int m _ _ _
step-count x k.UInt m a = failures-count (operation_of x) k.UInt m _ _ _
step-count x k.Long m a = failures-count (operation_of x) k.Long m _ _ _
step-count x k.ULong m a = failures-count (operation_of x) k.ULong m _ _ _
step-count x k.LongLong m a = failures-count (operation_of x) k.LongLong m _ _ _
step-count x k.ULongLong m a = failures-count (operation_of x) k.ULongLong m _ _ _

instruction-count : (g : Setting) (s : List ℕ) (x : Instruction) → length (failures_of g s x) ≡ checks_in x
instruction-count g s (i.Constant slot v) = refl
instruction-count g s (i.Read slot object) = refl
instruction-count g s (i.Element slot at object count) = refl
instruction-count g s (i.Locate slot at object count) = refl
instruction-count g s (i.Load slot object) = refl
instruction-count g s (i.Store slot object) = refl
instruction-count g s (i.Convert slot kind) = refl
instruction-count g s (i.Negate slot kind at) = if-length (is_signed kind) _
instruction-count g s (i.Complement slot kind at) = refl
instruction-count g s (i.Not slot) = refl
instruction-count g s (i.Truth slot) = refl
instruction-count g s (i.Binary slot op kind at) = failures-count op kind g.model _ _ _
instruction-count g s (i.Update slot op kind l at object) = failures-count op kind g.model _ _ _
instruction-count g s (i.Change slot before y kind at object) = step-count y kind g.model _
instruction-count g s (i.Draw slot kind) = refl
instruction-count g s (i.Fill object kind count) = refl
instruction-count g s (i.Begin slot object count values) = refl
instruction-count g s (i.Bind slot object) = refl
instruction-count g s (i.Jump skip) = refl
instruction-count g s (i.Turn at goal) = refl
instruction-count g s (i.SkipZero slot skip) = refl
instruction-count g s (i.SkipEqual slot v skip) = refl
instruction-count g s (i.Call at goal slot) = refl
instruction-count g s (i.Return slot) = refl
instruction-count g s (i.Take slot at from needed) = if-length needed _
instruction-count g s (i.Fail kind at) = refl
instruction-count g s i.Stop = refl

-- ---- Nodes

tests-count : (T : Table) (s : List ℕ) (at : ℕ) (r : Tests) (xs : List Failure) → AreFails T s r xs → length (checked_nodes at r) ≡ nodes_with (length xs)
tests-count T s at None [] h = refl
tests-count T s at None (x ∷ xs) h = absurd h
tests-count T s at (One f) [] h = absurd h
tests-count T s at (One f) (x ∷ []) h = refl
tests-count T s at (One f) (x ∷ y ∷ zs) h = absurd h
tests-count T s at (Two f g) [] h = absurd h
tests-count T s at (Two f g) (x ∷ []) h = absurd h
tests-count T s at (Two f g) (x ∷ y ∷ []) h = refl
tests-count T s at (Two f g) (x ∷ y ∷ z ∷ zs) h = absurd h

checked-count : (g : Setting) (T : Table) (x : Instruction) (next : NodeId) (n : ℕ) (ns : List Node) (es : List Edge) → Checked g T x next n ns es → length ns ≡ nodes_at x
checked-count g T x next n ns es h =
    ap length h.behind.nodes_are ∙ tests-count T [] (offset_of x) h.tests (failures_of g [] x) (h.fails []) ∙ ap nodes_with (instruction-count g [] x)

pub follows-count : (p : Plan) (g : Setting) (T : Table) (place : ℕ) (x : Instruction) (n : ℕ) (ns : List Node) (es : List Edge) → Follows p g T place x n ns es → length ns ≡ nodes_at x
follows-count p g T place (i.Fail kind at) n ns es h = ap length h.0
follows-count p g T place i.Stop n ns es h = ap length h.0
follows-count p g T place (i.Call at goal slot) n ns es h = ap length h.nodes_are
follows-count p g T place (i.Return slot) n ns es h = ap length h.0
follows-count p g T place (i.Jump skip) n ns es h = ap length h.0
follows-count p g T place (i.Turn at goal) n ns es h = ap length h.0
follows-count p g T place (i.SkipZero slot skip) n ns es h = ap length h.nodes_are
follows-count p g T place (i.SkipEqual slot v skip) n ns es h = ap length h.nodes_are
follows-count p g T place (i.Constant slot v) n ns es h = checked-count g T _ _ n ns es h
follows-count p g T place (i.Read slot object) n ns es h = checked-count g T _ _ n ns es h
follows-count p g T place (i.Element slot at object count) n ns es h = checked-count g T _ _ n ns es h
follows-count p g T place (i.Locate slot at object count) n ns es h = checked-count g T _ _ n ns es h
follows-count p g T place (i.Load slot object) n ns es h = checked-count g T _ _ n ns es h
follows-count p g T place (i.Store slot object) n ns es h = checked-count g T _ _ n ns es h
follows-count p g T place (i.Convert slot kind) n ns es h = checked-count g T _ _ n ns es h
follows-count p g T place (i.Negate slot kind at) n ns es h = checked-count g T _ _ n ns es h
follows-count p g T place (i.Complement slot kind at) n ns es h = checked-count g T _ _ n ns es h
follows-count p g T place (i.Not slot) n ns es h = checked-count g T _ _ n ns es h
follows-count p g T place (i.Truth slot) n ns es h = checked-count g T _ _ n ns es h
follows-count p g T place (i.Binary slot op kind at) n ns es h = checked-count g T _ _ n ns es h
follows-count p g T place (i.Update slot op kind l at object) n ns es h = checked-count g T _ _ n ns es h
follows-count p g T place (i.Change slot before y kind at object) n ns es h = checked-count g T _ _ n ns es h
follows-count p g T place (i.Draw slot kind) n ns es h = checked-count g T _ _ n ns es h
follows-count p g T place (i.Fill object kind count) n ns es h = checked-count g T _ _ n ns es h
follows-count p g T place (i.Begin slot object count values) n ns es h = checked-count g T _ _ n ns es h
follows-count p g T place (i.Bind slot object) n ns es h = checked-count g T _ _ n ns es h
follows-count p g T place (i.Take slot at from needed) n ns es h = checked-count g T _ _ n ns es h

-- ---- Places one behind the other

pub get-drop : {X : Type 0} (xs : List X) (e k j : ℕ) → j ≡ e + k → slice_get (drop e xs) k ≡ slice_get xs j
get-drop [] zero k j q = refl
get-drop [] (suc e) k j q = refl
get-drop (x ∷ xs) zero k j q = let s : k ≡ j = omega (arith, q) in ap (slice_get (x ∷ xs)) s
get-drop (x ∷ xs) (suc e) k zero q = absurd (omega (arith, q))
get-drop (x ∷ xs) (suc e) k (suc j) q = get-drop xs e k j (omega (arith, q))

take-next : {X : Type 0} (xs : List X) (k : ℕ) (x : X) → slice_get xs k ≡ Some x → take (suc k) xs ≡ take k xs ++ x ∷ []
take-next [] k x h = absurd (none-some x h)
take-next (y ∷ ys) zero x h = ap (λ z. z ∷ []) (same_Some y x h)
take-next (y ∷ ys) (suc k) x h = ap (λ zs. y ∷ zs) (take-next ys k x h)

nodes-more : (xs : List Instruction) (x : Instruction) → nodes_of (xs ++ x ∷ []) ≡ nodes_of xs + nodes_at x
nodes-more [] x = omega arith
nodes-more (y ∷ ys) x = let h : nodes_of (ys ++ x ∷ []) ≡ nodes_of ys + nodes_at x = nodes-more ys x in omega (arith, h)

-- the nodes of the first so many places
pub first-count : (p : Plan) (g : Setting) (T : Table) (k n : ℕ) (ns : List Node) (es : List Edge) → FirstFollow p g T k n ns es → length ns ≡ nodes_of (take k (drop p.range.entry p.code))
first-count p g T zero n ns es h = ap length h.0
first-count p g T (suc k) n ns es h =
    let s = h.second in
    let before : length h.nodes_first ≡ nodes_of (take k (drop p.range.entry p.code)) = first-count p g T k n h.nodes_first h.edges_first h.first in
    let here : length h.nodes_second ≡ nodes_at s.instruction = follows-count p g T _ s.instruction _ h.nodes_second h.edges_second s.follows in
    let all : length ns ≡ length h.nodes_first + length h.nodes_second = ap length h.nodes_are ∙ length-append h.nodes_first h.nodes_second in
    let more : nodes_of (take (suc k) (drop p.range.entry p.code)) ≡ nodes_of (take k (drop p.range.entry p.code)) + nodes_at s.instruction =
    ap nodes_of (take-next (drop p.range.entry p.code) k s.instruction (get-drop p.code p.range.entry k (p.range.entry + k) refl ∙ s.there)) ∙ nodes-more (take k (drop p.range.entry p.code)) s.instruction in
    omega (arith, before, here, all, more)
