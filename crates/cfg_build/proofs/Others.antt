-- Instructions that go on behind themselves: what stands for them, and what is drawn.
use Rattle.std.proofs.Common.{◌≡◌, ℕ, ◌+◌, ℤ, List, refl, subst}
use Rattle.lv_base.specs.declared.fault.ErrorKind.{ErrorKind}
use Rattle.bv_term.specs.WellFormed.{Table}
use Rattle.c_graph.specs.declared.graph.NodeId.{NodeId}
use Rattle.c_graph.specs.declared.graph.Node.{Node}
use Rattle.c_graph.specs.declared.graph.Edge.{Edge}
use Rattle.slot_code.specs.declared.flat.Instruction.{Instruction}
use Rattle.slot_code.specs.declared.flat.Instruction.TheVariants as i
use Rattle.code_moves.specs.Setting.{Setting, Site}
use Rattle.cfg_build.specs.declared.draft.Draft.{Draft}
use Rattle.cfg_build.specs.Steps.{Built, Checked}
use Rattle.cfg_build.specs.Follows.{Plan, Follows, node_of}
use Rattle.cfg_build.specs.Made as made
use Rattle.cfg_build.specs.Made.{Drawn}
use Rattle.cfg_build.proofs.Following.{built-by}

abbrev pub IsOther : Instruction → Type 0
IsOther (i.Jump skip) = ⊥
IsOther (i.Turn at goal) = ⊥
IsOther (i.SkipZero slot skip) = ⊥
IsOther (i.SkipEqual slot v skip) = ⊥
IsOther (i.Call at goal slot) = ⊥
IsOther (i.Return slot) = ⊥
IsOther (i.Fail kind at) = ⊥
IsOther i.Stop = ⊥
IsOther _ = Unit {0}

pub is-other : (x : Instruction) → ((skip : ℕ) → x ≡ i.Jump skip → ⊥) → ((slot skip : ℕ) → x ≡ i.SkipZero slot skip → ⊥) → ((slot : ℕ) (v : ℤ) (skip : ℕ) → x ≡ i.SkipEqual slot v skip → ⊥)
    → ((at goal : ℕ) → x ≡ i.Turn at goal → ⊥) → ((at goal slot : ℕ) → x ≡ i.Call at goal slot → ⊥) → ((slot : ℕ) → x ≡ i.Return slot → ⊥) → ((kind : ErrorKind) (at : ℕ) → x ≡ i.Fail kind at → ⊥)
    → (x ≡ i.Stop → ⊥) → IsOther x
is-other (i.Constant slot v) a b c d e f g h = tt
is-other (i.Read slot object) a b c d e f g h = tt
is-other (i.Element slot at object count) a b c d e f g h = tt
is-other (i.Locate slot at object count) a b c d e f g h = tt
is-other (i.Load slot object) a b c d e f g h = tt
is-other (i.Store slot object) a b c d e f g h = tt
is-other (i.Convert slot k) a b c d e f g h = tt
is-other (i.Negate slot k at) a b c d e f g h = tt
is-other (i.Complement slot k at) a b c d e f g h = tt
is-other (i.Not slot) a b c d e f g h = tt
is-other (i.Truth slot) a b c d e f g h = tt
is-other (i.Binary slot o k at) a b c d e f g h = tt
is-other (i.Update slot o k l at object) a b c d e f g h = tt
is-other (i.Change slot before y k at object) a b c d e f g h = tt
is-other (i.Draw slot k) a b c d e f g h = tt
is-other (i.Fill object k count) a b c d e f g h = tt
is-other (i.Begin slot object count values) a b c d e f g h = tt
is-other (i.Bind slot object) a b c d e f g h = tt
is-other (i.Jump skip) a b c d e f g h = a skip refl
is-other (i.Turn at goal) a b c d e f g h = d at goal refl
is-other (i.SkipZero slot skip) a b c d e f g h = b slot skip refl
is-other (i.SkipEqual slot v skip) a b c d e f g h = c slot v skip refl
is-other (i.Call at goal slot) a b c d e f g h = e at goal slot refl
is-other (i.Return slot) a b c d e f g h = f slot refl
is-other (i.Take slot at from needed) a b c d e f g h = tt
is-other (i.Fail kind at) a b c d e f g h = g kind at refl
is-other i.Stop a b c d e f g h = h refl

pub other-drawn : (p : Plan) (owners : List ℕ) (g : Site) (d : Drawn) (place : ℕ) (x : Instruction) → IsOther x → made.add_moves g d x (node_of p (place + 1)) ≡ made.add_place p owners g d place x
other-drawn p owners g d place (i.Constant slot v) z = refl
other-drawn p owners g d place (i.Read slot object) z = refl
other-drawn p owners g d place (i.Element slot at object count) z = refl
other-drawn p owners g d place (i.Locate slot at object count) z = refl
other-drawn p owners g d place (i.Load slot object) z = refl
other-drawn p owners g d place (i.Store slot object) z = refl
other-drawn p owners g d place (i.Convert slot k) z = refl
other-drawn p owners g d place (i.Negate slot k at) z = refl
other-drawn p owners g d place (i.Complement slot k at) z = refl
other-drawn p owners g d place (i.Not slot) z = refl
other-drawn p owners g d place (i.Truth slot) z = refl
other-drawn p owners g d place (i.Binary slot o k at) z = refl
other-drawn p owners g d place (i.Update slot o k l at object) z = refl
other-drawn p owners g d place (i.Change slot before y k at object) z = refl
other-drawn p owners g d place (i.Draw slot k) z = refl
other-drawn p owners g d place (i.Fill object k count) z = refl
other-drawn p owners g d place (i.Begin slot object count values) z = refl
other-drawn p owners g d place (i.Bind slot object) z = refl
other-drawn p owners g d place (i.Jump skip) z = absurd z
other-drawn p owners g d place (i.Turn at goal) z = absurd z
other-drawn p owners g d place (i.SkipZero slot skip) z = absurd z
other-drawn p owners g d place (i.SkipEqual slot v skip) z = absurd z
other-drawn p owners g d place (i.Call at goal slot) z = absurd z
other-drawn p owners g d place (i.Return slot) z = absurd z
other-drawn p owners g d place (i.Take slot at from needed) z = refl
other-drawn p owners g d place (i.Fail kind at) z = absurd z
other-drawn p owners g d place i.Stop z = absurd z

other-follows : (p : Plan) (g : Setting) (table : Table) (place : ℕ) (x : Instruction) (n : ℕ) (ns : List Node) (es : List Edge) → IsOther x → Checked g table x (node_of p (place + 1)) n ns es → Follows p g table place x n ns es
other-follows p g table place (i.Constant slot v) n ns es z h = h
other-follows p g table place (i.Read slot object) n ns es z h = h
other-follows p g table place (i.Element slot at object count) n ns es z h = h
other-follows p g table place (i.Locate slot at object count) n ns es z h = h
other-follows p g table place (i.Load slot object) n ns es z h = h
other-follows p g table place (i.Store slot object) n ns es z h = h
other-follows p g table place (i.Convert slot k) n ns es z h = h
other-follows p g table place (i.Negate slot k at) n ns es z h = h
other-follows p g table place (i.Complement slot k at) n ns es z h = h
other-follows p g table place (i.Not slot) n ns es z h = h
other-follows p g table place (i.Truth slot) n ns es z h = h
other-follows p g table place (i.Binary slot o k at) n ns es z h = h
other-follows p g table place (i.Update slot o k l at object) n ns es z h = h
other-follows p g table place (i.Change slot before y k at object) n ns es z h = h
other-follows p g table place (i.Draw slot k) n ns es z h = h
other-follows p g table place (i.Fill object k count) n ns es z h = h
other-follows p g table place (i.Begin slot object count values) n ns es z h = h
other-follows p g table place (i.Bind slot object) n ns es z h = h
other-follows p g table place (i.Jump skip) n ns es z h = absurd z
other-follows p g table place (i.Turn at goal) n ns es z h = absurd z
other-follows p g table place (i.SkipZero slot skip) n ns es z h = absurd z
other-follows p g table place (i.SkipEqual slot v skip) n ns es z h = absurd z
other-follows p g table place (i.Call at goal slot) n ns es z h = absurd z
other-follows p g table place (i.Return slot) n ns es z h = absurd z
other-follows p g table place (i.Take slot at from needed) n ns es z h = h
other-follows p g table place (i.Fail kind at) n ns es z h = absurd z
other-follows p g table place i.Stop n ns es z h = absurd z

pub place-checked : (a b : Draft) (p : Plan) (g : Setting) (table : Table) (place : ℕ) (x : Instruction) (next : NodeId) → IsOther x → next ≡ node_of p (place + 1) → Built a b (Checked g table x next) → Built a b (Follows p g table place x)
place-checked a b p g table place x next z e h =
    built-by a b (Checked g table x next) (Follows p g table place x) (λ n ns es k. other-follows p g table place x n ns es z (subst (λ (to : NodeId). Checked g table x to n ns es) e k)) h
