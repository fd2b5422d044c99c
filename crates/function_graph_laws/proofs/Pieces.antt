-- What stands for each instruction is a part of a graph.
use Rattle.std.proofs.Common.{◌≡◌, ℕ, zero, suc, ◌+◌, ◌<◌, ◌≤◌, ◌||◌, true, false, List, [], ◌∷◌, length, refl, sym, ap, ◌∙◌, subst, arith, Some, slice_get, nat_eq, eq-eqb}
use Rattle.std.proofs.lemmas.Option.{same_Some, none-some, slice_get_within}
use Rattle.bv_term.specs.declared.term.TermId.{TermId}
use Rattle.bv_term.specs.WellFormed.{Table}
use Rattle.lv_base.specs.declared.fault.ErrorKind.{ErrorKind}
use Rattle.c_graph.specs.declared.graph.NodeId.{NodeId}
use Rattle.c_graph.specs.declared.graph.Node.{Node}
use Rattle.c_graph.specs.declared.graph.Node.TheVariants.{Plain, Error, End, Call}
use Rattle.c_graph.specs.declared.graph.Operation.{Operation}
use Rattle.c_graph.specs.declared.graph.Operation.TheVariants.{Assume, Set, SetAt, Draw}
use Rattle.c_graph.specs.declared.graph.Edge.{Edge}
use Rattle.c_graph.specs.Shape.{OperationFits, has_out}
use Rattle.slot_code.specs.declared.flat.Instruction.{Instruction}
use Rattle.slot_code.specs.declared.flat.Instruction.TheVariants as i
use Rattle.c_terms.specs.declared.failing.Tests.{Tests}
use Rattle.c_terms.specs.declared.failing.Tests.TheVariants as t
use Rattle.c_terms.specs.Operations.{Failure}
use Rattle.c_terms.specs.Shown.{Shows, AreFails}
use Rattle.code_moves.specs.Setting.{Setting}
use Rattle.code_moves.specs.Values.{failures_of}
use Rattle.code_moves.specs.Deeds.{Deed, Sets, SetsAt, Draws, Tells, IsDeed, AreDeeds}
use Rattle.cfg_build.specs.Steps.{Fork, Checked, Passes, node_id, edge, checked_nodes, checked_edges, offset_of}
use Rattle.cfg_build.specs.Follows.{Plan, Follows, node_of}
use Rattle.cfg_build.specs.Graphs.{Opening}
use Rattle.cfg_build.proofs.Checking.{one-tells, two-tells}
use Rattle.function_graph_laws.proofs.Forms.{Each, Leads, IsPart}

-- ---- Operations

deed-fits : (table : Table) (op : Operation) (d : Deed) → IsDeed table op d → OperationFits table op
deed-fits table (Assume t) (Sets c f) h = absurd h
deed-fits table (Assume t) (SetsAt c n j f) h = absurd h
deed-fits table (Assume t) (Draws c signed) h = absurd h
deed-fits table (Set c t) (Sets d f) h = h.2
deed-fits table (Set c t) (SetsAt d n j f) h = absurd h
deed-fits table (Set c t) (Draws d signed) h = absurd h
deed-fits table (SetAt c n j t) (Sets d f) h = absurd h
deed-fits table (SetAt c n j t) (SetsAt d m k f) h = h.4
deed-fits table (SetAt c n j t) (Draws d signed) h = absurd h
deed-fits table (Draw c signed) (Sets d f) h = absurd h
deed-fits table (Draw c signed) (SetsAt d m k f) h = absurd h
deed-fits table (Draw c signed) (Draws d other) h = h.2

pub deeds-fit : (table : Table) (ops : List Operation) (ds : List Deed) → AreDeeds table ops ds → Each (OperationFits table) ops
deeds-fit table [] [] h = tt
deeds-fit table [] (d ∷ ds) h = absurd h
deeds-fit table (op ∷ ops) [] h = absurd h
deeds-fit table (op ∷ ops) (d ∷ ds) h = (deed-fits table op d h.0, deeds-fit table ops ds h.1)

assume-fits : (table : Table) (t : TermId) (f : List ℕ → ℕ) → Tells table t 1 f → OperationFits table (Assume t)
assume-fits table t f h = ((h []).there, (h []).width)

-- ---- Nodes

abbrev is_call : Node → ℕ
is_call Plain = 0
is_call (Error kind at) = 0
is_call End = 0
is_call (Call function next) = 1

abbrev is_plain : Node → ℕ
is_plain Plain = 1
is_plain (Error kind at) = 0
is_plain End = 0
is_plain (Call function next) = 0

not-plain : (x : Node) → is_plain x ≡ 0 → x ≡ Plain → ⊥
not-plain x z e = let s : is_plain x ≡ 1 = ap is_plain e in omega (arith, z, s)

-- none of these is a call, or plain
abbrev NoCalls : List Node → Type 0
NoCalls ns = Each (λ x. is_call x ≡ 0) ns

each-at : {X : Type 0} (P : X → Type 0) (xs : List X) (k : ℕ) (x : X) → Each P xs → slice_get xs k ≡ Some x → P x
each-at P [] k x h e = absurd (none-some x e)
each-at P (y ∷ ys) zero x h e = subst P (same_Some y x e) h.0
each-at P (y ∷ ys) (suc k) x h e = each-at P ys k x h.1 e

calls-none : (functions nodes : ℕ) (ns : List Node) → NoCalls ns → (k function : ℕ) (next : NodeId) → slice_get ns k ≡ Some (Call function next) → (function < functions) × (next.0 < nodes)
calls-none functions nodes ns h k function next e = let z : 1 ≡ 0 = each-at (λ x. is_call x ≡ 0) ns k (Call function next) h e in absurd (omega (arith, z))

-- ---- Forms

out-here : (n m : ℕ) (to : NodeId) (ops : List Operation) (es : List Edge) → n ≡ m → has_out (edge (node_id n) to ops ∷ es) (node_id m) ≡ true
out-here n m to ops es e = rw (eq-eqb n m e) refl

out-next : (d : Edge) (es : List Edge) (v : NodeId) → has_out es v ≡ true → has_out (d ∷ es) v ≡ true
out-next d es v h =
    elim (nat_eq d.from.0 v.0) as (λ b. (b || has_out es v) ≡ true) [
      | true ↦ refl
      | false ↦ h
    ]

leads : (table : Table) (nodes n k : ℕ) (ns : List Node) (from to : NodeId) (ops : List Operation) → from.0 ≡ n + k → slice_get ns k ≡ Some Plain → to.0 < nodes → Each (OperationFits table) ops → Leads table nodes n ns (edge from to ops)
leads table nodes n k ns from to ops e p lt h = record { behind = k; from = e; plain = p; to = lt; operations = h }

-- one plain node, from which its edges lead
one-on : (n : ℕ) (to : NodeId) (ops : List Operation) (es : List Edge) (k : ℕ) → slice_get (Plain ∷ []) k ≡ Some Plain → has_out (edge (node_id n) to ops ∷ es) (node_id (n + k)) ≡ true
one-on n to ops es zero e = out-here n (n + 0) to ops es (omega arith)
one-on n to ops es (suc k) e = absurd (none-some Plain e)

last-on : (x : Node) (es : List Edge) (n k : ℕ) → is_plain x ≡ 0 → slice_get (x ∷ []) k ≡ Some Plain → has_out es (node_id (n + k)) ≡ true
last-on x es n zero z e = absurd (not-plain x z (same_Some x Plain e))
last-on x es n (suc k) z e = absurd (none-some Plain e)

pub last-part : (table : Table) (functions nodes n : ℕ) (x : Node) (ns : List Node) (es : List Edge) → is_plain x ≡ 0 → is_call x ≡ 0 → ns ≡ x ∷ [] → es ≡ [] → IsPart table functions nodes n ns es
last-part table functions nodes n x ns es p c e f =
    subst (λ ms. IsPart table functions nodes n ms es) (sym e) (subst (λ fs. IsPart table functions nodes n (x ∷ []) fs) (sym f)
    (record { edges = tt; on = λ k s. last-on x [] n k p s; calls = calls-none functions nodes (x ∷ []) (c, tt); few = omega arith }))

way-part : (table : Table) (functions nodes n : ℕ) (to : NodeId) (ops : List Operation) (ns : List Node) (es : List Edge) → to.0 < nodes → Each (OperationFits table) ops → ns ≡ Plain ∷ [] → es ≡ edge (node_id n) to ops ∷ []
    → IsPart table functions nodes n ns es
way-part table functions nodes n to ops ns es lt h e f =
    subst (λ ms. IsPart table functions nodes n ms es) (sym e) (subst (λ fs. IsPart table functions nodes n (Plain ∷ []) fs) (sym f)
    (record {
      edges = (leads table nodes n 0 (Plain ∷ []) (node_id n) to ops (omega arith) refl lt h, tt);
      on = λ k s. one-on n to ops [] k s;
      calls = calls-none functions nodes (Plain ∷ []) (refl, tt);
      few = omega arith;
    }))

fork-part : (table : Table) (f : List ℕ → ℕ) (functions nodes n : ℕ) (to other : NodeId) (ns : List Node) (es : List Edge) → to.0 < nodes → other.0 < nodes → Fork table f to other n ns es
    → IsPart table functions nodes n ns es
fork-part table f functions nodes n to other ns es lt lo h =
    let one : Each (OperationFits table) (Assume h.test ∷ []) = (assume-fits table h.test f h.tells, tt) in
    let two : Each (OperationFits table) (Assume h.turned ∷ []) = (assume-fits table h.turned _ h.turns, tt) in
    subst (λ ms. IsPart table functions nodes n ms es) (sym h.nodes_are) (subst (λ fs. IsPart table functions nodes n (Plain ∷ []) fs) (sym h.edges_are)
    (record {
      edges = (
        leads table nodes n 0 (Plain ∷ []) (node_id n) to (Assume h.test ∷ []) (omega arith) refl lt one,
        (leads table nodes n 0 (Plain ∷ []) (node_id n) other (Assume h.turned ∷ []) (omega arith) refl lo two, tt),
      );
      on = λ k s. one-on n to (Assume h.test ∷ []) (edge (node_id n) other (Assume h.turned ∷ []) ∷ []) k s;
      calls = calls-none functions nodes (Plain ∷ []) (refl, tt);
      few = omega arith;
    }))

abbrev called : Node → ℕ
called Plain = 0
called (Error kind at) = 0
called End = 0
called (Call function next) = function

abbrev goes_on_at : Node → NodeId
goes_on_at Plain = node_id 0
goes_on_at (Error kind at) = node_id 0
goes_on_at End = node_id 0
goes_on_at (Call function next) = next

call-part : (table : Table) (functions nodes n : ℕ) (function : ℕ) (next : NodeId) (ns : List Node) (es : List Edge) → function < functions → next.0 < nodes → ns ≡ Call function next ∷ [] → es ≡ [] → IsPart table functions nodes n ns es
call-part table functions nodes n function next ns es lt ln e f =
    subst (λ ms. IsPart table functions nodes n ms es) (sym e) (subst (λ fs. IsPart table functions nodes n (Call function next ∷ []) fs) (sym f)
    (record { edges = tt; on = λ k s. last-on (Call function next) [] n k refl s; calls = λ k g v s. one-call k g v s; few = omega arith }))
  where
    one-call : (k g : ℕ) (v : NodeId) → slice_get (Call function next ∷ []) k ≡ Some (Call g v) → (g < functions) × (v.0 < nodes)
    one-call zero g v s =
        let q : Call function next ≡ Call g v = same_Some _ _ s in
        let a : function ≡ g = ap called q in
        let b : next ≡ v = ap goes_on_at q in
        (subst (λ m. m < functions) a lt, subst (λ (m : NodeId). m.0 < nodes) b ln)
    one-call (suc k) g v s = absurd (none-some _ s)

-- ---- Checks

shown-fits : (table : Table) (s : List ℕ) (t : TermId) (x : ℕ) → Shows table s t 1 x → OperationFits table (Assume t)
shown-fits table s t x h = (h.there, h.width)

one-checked-on : (n at : ℕ) (kind : ErrorKind) (to : NodeId) (ops : List Operation) (es : List Edge) (k : ℕ) → slice_get (Plain ∷ Error kind at ∷ []) k ≡ Some Plain → has_out (edge (node_id n) to ops ∷ es) (node_id (n + k)) ≡ true
one-checked-on n at kind to ops es zero e = out-here n (n + 0) to ops es (omega arith)
one-checked-on n at kind to ops es (suc zero) e = absurd (not-plain (Error kind at) refl (same_Some (Error kind at) Plain e))
one-checked-on n at kind to ops es (suc (suc k)) e = absurd (none-some Plain e)

two-checked-on : (n at : ℕ) (kind other : ErrorKind) (a b c d : Edge) (k : ℕ) → a.from ≡ node_id n → c.from ≡ node_id (n + 2) → slice_get (Plain ∷ Error kind at ∷ Plain ∷ Error other at ∷ []) k ≡ Some Plain
    → has_out (a ∷ b ∷ c ∷ d ∷ []) (node_id (n + k)) ≡ true
two-checked-on n at kind other a b c d zero p q e = here a (b ∷ c ∷ d ∷ []) (n + 0) (ap (λ (v : NodeId). v.0) p ∙ plus)
  where
    plus : n ≡ n + 0
    plus = omega arith

    here : (x : Edge) (es : List Edge) (j : ℕ) → x.from.0 ≡ j → has_out (x ∷ es) (node_id j) ≡ true
    here x es j r = rw (eq-eqb x.from.0 j r) refl
two-checked-on n at kind other a b c d (suc zero) p q e = absurd (not-plain (Error kind at) refl (same_Some (Error kind at) Plain e))
two-checked-on n at kind other a b c d (suc (suc zero)) p q e =
    out-next a (b ∷ c ∷ d ∷ []) (node_id (n + 2)) (out-next b (c ∷ d ∷ []) (node_id (n + 2)) (here c (d ∷ []) (n + 2) (ap (λ (v : NodeId). v.0) q)))
  where
    here : (x : Edge) (es : List Edge) (j : ℕ) → x.from.0 ≡ j → has_out (x ∷ es) (node_id j) ≡ true
    here x es j r = rw (eq-eqb x.from.0 j r) refl
two-checked-on n at kind other a b c d (suc (suc (suc zero))) p q e = absurd (not-plain (Error other at) refl (same_Some (Error other at) Plain e))
two-checked-on n at kind other a b c d (suc (suc (suc (suc k)))) p q e = absurd (none-some Plain e)

checked-with : (table : Table) (functions nodes n at : ℕ) (next : NodeId) (r : Tests) (passed last : TermId) (ops : List Operation) (xs : List Failure) → next.0 < nodes → n + length (checked_nodes at r) ≤ nodes
    → AreFails table [] r xs → Passes table r passed last → Each (OperationFits table) ops → IsPart table functions nodes n (checked_nodes at r) (checked_edges n next r passed last ops)
checked-with table functions nodes n at next t.None passed last ops xs lt le fails passes h = way-part table functions nodes n next ops _ _ lt h refl refl
checked-with table functions nodes n at next (t.One f) passed last ops xs lt le fails passes h =
    let ns : List Node = Plain ∷ Error f.kind at ∷ [] in
    record {
      edges = (
        leads table nodes n 0 ns (node_id n) (node_id (n + 1)) (Assume f.when ∷ []) (omega arith) refl (omega (arith, le)) (shown-fits table [] f.when _ (one-tells table [] f xs fails), tt),
        (leads table nodes n 0 ns (node_id n) next (Assume passed ∷ ops) (omega arith) refl lt (assume-fits table passed _ passes, h), tt),
      );
      on = λ k s. one-checked-on n at f.kind (node_id (n + 1)) (Assume f.when ∷ []) (edge (node_id n) next (Assume passed ∷ ops) ∷ []) k s;
      calls = calls-none functions nodes ns (refl, (refl, tt));
      few = omega arith;
    }
checked-with table functions nodes n at next (t.Two f g) passed last ops xs lt le fails passes h =
    let ns : List Node = Plain ∷ Error f.kind at ∷ Plain ∷ Error g.kind at ∷ [] in
    let shows = two-tells table [] f g xs fails in
    record {
      edges = (
        leads table nodes n 0 ns (node_id n) (node_id (n + 1)) (Assume f.when ∷ []) (omega arith) refl (omega (arith, le)) (shown-fits table [] f.when _ shows.0, tt),
        (
          leads table nodes n 0 ns (node_id n) (node_id (n + 2)) (Assume passed ∷ []) (omega arith) refl (omega (arith, le)) (assume-fits table passed _ passes.0, tt),
          (
            leads table nodes n 2 ns (node_id (n + 2)) (node_id (n + 3)) (Assume g.when ∷ []) refl refl (omega (arith, le)) (shown-fits table [] g.when _ shows.1, tt),
            (leads table nodes n 2 ns (node_id (n + 2)) next (Assume last ∷ ops) refl refl lt (assume-fits table last _ passes.1, h), tt),
          ),
        ),
      );
      on = λ k s. two-checked-on n at f.kind g.kind (edge (node_id n) (node_id (n + 1)) (Assume f.when ∷ [])) (edge (node_id n) (node_id (n + 2)) (Assume passed ∷ []))
          (edge (node_id (n + 2)) (node_id (n + 3)) (Assume g.when ∷ [])) (edge (node_id (n + 2)) next (Assume last ∷ ops)) k refl refl s;
      calls = calls-none functions nodes ns (refl, (refl, (refl, (refl, tt))));
      few = omega arith;
    }

checked-part : (table : Table) (g : Setting) (x : Instruction) (functions nodes n : ℕ) (next : NodeId) (ns : List Node) (es : List Edge) → next.0 < nodes → n + length ns ≤ nodes → Checked g table x next n ns es
    → IsPart table functions nodes n ns es
checked-part table g x functions nodes n next ns es lt le h =
    let b = h.behind in
    let room : n + length (checked_nodes (offset_of x) h.tests) ≤ nodes = subst (λ (ms : List Node). n + length ms ≤ nodes) b.nodes_are le in
    subst (λ ms. IsPart table functions nodes n ms es) (sym b.nodes_are) (subst (λ fs. IsPart table functions nodes n (checked_nodes (offset_of x) h.tests) fs) (sym b.edges_are)
    (checked-with table functions nodes n (offset_of x) next h.tests b.passed b.last b.ops (failures_of g [] x) lt room (h.fails []) b.passes (deeds-fit table b.ops _ b.does)))

-- ---- Instructions

-- each place's node, and the exit, is one of so many
pub record AreNodes (p : Plan) (nodes : ℕ) : Type 0 where
  pub places : (place : ℕ) → (node_of p place).0 < nodes
  pub exit : p.exit.0 < nodes

pub follows-part : (p : Plan) (g : Setting) (table : Table) (place : ℕ) (x : Instruction) (functions nodes n : ℕ) (ns : List Node) (es : List Edge) → AreNodes p nodes → length p.ranges ≤ functions → n + length ns ≤ nodes
    → Follows p g table place x n ns es → IsPart table functions nodes n ns es
follows-part p g table place (i.Fail kind at) functions nodes n ns es a f le h = last-part table functions nodes n (Error kind at) ns es refl refl h.0 h.1
follows-part p g table place i.Stop functions nodes n ns es a f le h = last-part table functions nodes n End ns es refl refl h.0 h.1
follows-part p g table place (i.Call at goal slot) functions nodes n ns es a f le h =
    let lt : h.function < length p.ranges = slice_get_within p.ranges h.function _ h.begins.there in
    call-part table functions nodes n h.function _ ns es (omega (arith, lt, f)) (a.places (place + 1)) h.nodes_are h.edges_are
follows-part p g table place (i.Return slot) functions nodes n ns es a f le h = way-part table functions nodes n p.exit [] ns es a.exit tt h.0 h.1
follows-part p g table place (i.Jump skip) functions nodes n ns es a f le h = way-part table functions nodes n _ [] ns es (a.places (place + 1 + skip)) tt h.0 h.1
follows-part p g table place (i.Turn at goal) functions nodes n ns es a f le h = way-part table functions nodes n _ [] ns es (a.places goal) tt h.0 h.1
follows-part p g table place (i.SkipZero slot skip) functions nodes n ns es a f le h = fork-part table _ functions nodes n _ _ ns es (a.places (place + 1)) (a.places (place + 1 + skip)) h
follows-part p g table place (i.SkipEqual slot v skip) functions nodes n ns es a f le h = fork-part table _ functions nodes n _ _ ns es (a.places (place + 1 + skip)) (a.places (place + 1)) h
follows-part p g table place (i.Constant slot v) functions nodes n ns es a f le h = checked-part table g _ functions nodes n _ ns es (a.places (place + 1)) le h
follows-part p g table place (i.Read slot object) functions nodes n ns es a f le h = checked-part table g _ functions nodes n _ ns es (a.places (place + 1)) le h
follows-part p g table place (i.Element slot at object count) functions nodes n ns es a f le h = checked-part table g _ functions nodes n _ ns es (a.places (place + 1)) le h
follows-part p g table place (i.Locate slot at object count) functions nodes n ns es a f le h = checked-part table g _ functions nodes n _ ns es (a.places (place + 1)) le h
follows-part p g table place (i.Load slot object) functions nodes n ns es a f le h = checked-part table g _ functions nodes n _ ns es (a.places (place + 1)) le h
follows-part p g table place (i.Store slot object) functions nodes n ns es a f le h = checked-part table g _ functions nodes n _ ns es (a.places (place + 1)) le h
follows-part p g table place (i.Convert slot k) functions nodes n ns es a f le h = checked-part table g _ functions nodes n _ ns es (a.places (place + 1)) le h
follows-part p g table place (i.Negate slot k at) functions nodes n ns es a f le h = checked-part table g _ functions nodes n _ ns es (a.places (place + 1)) le h
follows-part p g table place (i.Complement slot k at) functions nodes n ns es a f le h = checked-part table g _ functions nodes n _ ns es (a.places (place + 1)) le h
follows-part p g table place (i.Not slot) functions nodes n ns es a f le h = checked-part table g _ functions nodes n _ ns es (a.places (place + 1)) le h
follows-part p g table place (i.Truth slot) functions nodes n ns es a f le h = checked-part table g _ functions nodes n _ ns es (a.places (place + 1)) le h
follows-part p g table place (i.Binary slot o k at) functions nodes n ns es a f le h = checked-part table g _ functions nodes n _ ns es (a.places (place + 1)) le h
follows-part p g table place (i.Update slot o k l at object) functions nodes n ns es a f le h = checked-part table g _ functions nodes n _ ns es (a.places (place + 1)) le h
follows-part p g table place (i.Change slot before y k at object) functions nodes n ns es a f le h = checked-part table g _ functions nodes n _ ns es (a.places (place + 1)) le h
follows-part p g table place (i.Draw slot k) functions nodes n ns es a f le h = checked-part table g _ functions nodes n _ ns es (a.places (place + 1)) le h
follows-part p g table place (i.Fill object k count) functions nodes n ns es a f le h = checked-part table g _ functions nodes n _ ns es (a.places (place + 1)) le h
follows-part p g table place (i.Begin slot object count values) functions nodes n ns es a f le h = checked-part table g _ functions nodes n _ ns es (a.places (place + 1)) le h
follows-part p g table place (i.Bind slot object) functions nodes n ns es a f le h = checked-part table g _ functions nodes n _ ns es (a.places (place + 1)) le h
follows-part p g table place (i.Take slot at from needed) functions nodes n ns es a f le h = checked-part table g _ functions nodes n _ ns es (a.places (place + 1)) le h

-- ---- The opening

pub opening-part : (g : Setting) (table : Table) (functions nodes n : ℕ) (ns : List Node) (es : List Edge) → n + 1 < nodes → Opening g table n ns es → IsPart table functions nodes n ns es
opening-part g table functions nodes n ns es lt h = way-part table functions nodes n (node_id (n + 1)) h.ops ns es lt (deeds-fit table h.ops _ h.does) h.nodes_are h.edges_are
