-- Chains followed, edge by edge.
use Rattle.std.proofs.Common.{◌≡◌, ℕ, ◌+◌, ◌<◌, Bool, true, false, length, List, [], ◌∷◌, ◌++◌, Option, Some, None, Result, Ok, Err, IfOk, IfSome, get_or, arith, ap, sym, ◌∙◌, refl, subst, suc, zero, slice_get, ◌⊎◌, inl, inr, append_assoc, append-nil}
use Rattle.std.proofs.lemmas.Bool.{cases_eq}
use Rattle.std.proofs.lemmas.Option.{slice_get_within, get_or_from_slice_get}
use Rattle.c_graph.specs.declared.graph.NodeId.{NodeId}
use Rattle.c_graph.specs.declared.graph.Node.{Node}
use Rattle.c_graph.specs.declared.graph.Node.TheVariants.{Error}
use Rattle.c_graph.specs.declared.graph.Operation.{Operation}
use Rattle.c_graph.specs.declared.graph.Edge.{Edge}
use Rattle.c_graph.specs.declared.graph.LoopAt.{LoopAt}
use Rattle.edge_chains.specs.Joining.{Among, IsOnly, Follows, Extends, IsJoined}
use Rattle.edge_chains.specs.Links.{flag_at, link_at, AreClear, AreLinked, AreKept, IsNext, Adds, AreJoined}

pub among-front : (xs ys : List Edge) (x : Edge) → Among xs x → Among (xs ++ ys) x
among-front [] ys x (k, s) = absurd (cc)
among-front (z ∷ xs) ys x (zero, s) = (zero, s)
among-front (z ∷ xs) ys x (suc k, s) = let (j, t) = among-front xs ys x (k, s) in (suc j, t)

among-last : (xs : List Edge) (x : Edge) → Among (xs ++ x ∷ []) x
among-last [] x = (zero, refl)
among-last (z ∷ xs) x = let (j, t) = among-last xs x in (suc j, t)

among-split : (xs : List Edge) (y x : Edge) → Among (xs ++ y ∷ []) x → Among xs x ⊎ (x ≡ y)
among-split [] y x (zero, s) = inr (cc)
among-split [] y x (suc k, s) = absurd (cc)
among-split (z ∷ xs) y x (zero, s) = inl (zero, s)
among-split (z ∷ xs) y x (suc k, s) = elim (among-split xs y x (k, s)) [ inl a ↦ inl (suc a.0, a.1) | inr e ↦ inr e ]

-- an element by its number
pub there : (xs : List Edge) (k : ℕ) (x : Edge) → k < length xs → x ≡ get_or xs k x → slice_get xs k ≡ Some x
there [] k x lt is = absurd (omega (arith, lt))
there (y ∷ xs) zero x lt is = ap (λ (z : Edge). Some z) (sym is)
there (y ∷ xs) (suc k) x lt is = there xs k x (omega (arith, lt)) is

pub weaken : {A : Type 0} → {E : Type 0} → (r : Result A E) (P Q : A → Type 0) → ((x : A) → P x → Q x) → IfOk r P → IfOk r Q
weaken (Ok x) P Q f h = f x h
weaken (Err e) P Q f h = tt

pub weaken_some : {A : Type 0} → (o : Option A) (P Q : A → Type 0) → ((x : A) → P x → Q x) → IfSome o P → IfSome o Q
weaken_some None P Q f h = tt
weaken_some (Some x) P Q f h = f x h

-- an edge's operations, and what follows them
abbrev pub Goes : (ℕ → Bool) → List Edge → Edge → List Operation → NodeId → Type 0
Goes inner edges e ops to = (n : ℕ) × (rest : List Operation) × (ops ≡ e.ops ++ rest) × Follows inner edges n e.to rest to

-- whatever follows a node completes the edge
abbrev pub Completes : (ℕ → Bool) → List Edge → Edge → List Operation → NodeId → Type 0
Completes inner edges e ops to = (n : ℕ) (rest : List Operation) (goal : NodeId) → Follows inner edges n to rest goal → Goes inner edges e (ops ++ rest) goal

pub starts : (inner : ℕ → Bool) (edges : List Edge) (e : Edge) (ops : List Operation) → ops ≡ e.ops → Completes inner edges e ops e.to
starts inner edges e ops is n rest goal f = (n, rest, ap (λ o. o ++ rest) is, f)

pub turns : (flags : List Bool) (edges : List Edge) (e x : Edge) (ops new : List Operation) (to : NodeId) (k : ℕ)
    → IsNext flags edges to k → x ≡ get_or edges k x → new ≡ ops ++ x.ops
    → Completes (flag_at flags) edges e ops to → Completes (flag_at flags) edges e new x.to
turns flags edges e x ops new to k next is grown h n rest goal f =
    let only : IsOnly edges to x = next.2 x (there edges k x next.0 is) in
    let all : Follows (flag_at flags) edges (suc n) to (x.ops ++ rest) goal = (next.1, (x, rest, only, refl, f)) in
    let q : ops ++ (x.ops ++ rest) ≡ new ++ rest = sym (ap (λ o. o ++ rest) grown ∙ append_assoc ops x.ops rest) in
    subst (λ o. Goes (flag_at flags) edges e o goal) q (h (suc n) (x.ops ++ rest) goal all)

pub ends : (inner : ℕ → Bool) (edges : List Edge) (e f : Edge) (ops : List Operation) (to : NodeId)
    → Completes inner edges e ops to → inner to.0 ≡ false → f ≡ record { from = e.from; to = to; ops = ops } → Extends inner edges e f
ends inner edges e f ops to h kept is =
    let none : Follows inner edges zero to [] to = (kept, refl, refl) in
    let (n, rest, all, follows) = h zero [] to none in
    let made : Extends inner edges e (record { from = e.from; to = to; ops = ops }) = (n, rest, refl, sym (append-nil ops) ∙ all, follows) in
    subst (Extends inner edges e) (sym is) made

pub next_is : (inner : List Bool) (links : List (Option ℕ)) (edges : List Edge) (v : NodeId) (k : ℕ)
    → AreLinked inner links edges → flag_at inner v.0 ≡ true → link_at links v.0 ≡ Some k → k < length edges
    → ((e : Edge) → slice_get edges k ≡ Some e → e.from ≡ v) → IsNext inner edges v k
next_is inner links edges v k linked gives link lt from = (
  lt,
  gives,
  λ e s. (
    (k, s),
    from e s,
    λ f a g.
        let to_f : link_at links f.from.0 ≡ Some a.0 = linked a.0 f a.1 (ap (λ (n : NodeId). flag_at inner n.0) g ∙ gives) in
        let both : Some a.0 ≡ Some k = sym to_f ∙ ap (λ (n : NodeId). link_at links n.0) g ∙ link in
        let same : a.0 ≡ k = cc in
        let two : Some f ≡ Some e = sym (subst (λ j. slice_get edges j ≡ Some f) same a.1) ∙ s in
        cc,
  ),
)

pub leads_from : (edges : List Edge) (v : NodeId) (k : ℕ) (x : Edge) → x ≡ get_or edges k x → x.from.0 ≡ v.0
    → (e : Edge) → slice_get edges k ≡ Some e → e.from ≡ v
leads_from edges v k x is from e s =
    let q : x ≡ e = is ∙ get_or_from_slice_get edges k e x s in
    let F : ℕ → NodeId = λ n. record { 0 = n } in
    ap (λ (y : Edge). y.from) (sym q) ∙ ap F from

pub none_joined : (inner : List Bool) (edges new : List Edge) → new ≡ [] → AreJoined inner edges 0 new
none_joined inner edges new is = record {
  kept = λ k e lt s b. absurd (omega (arith, lt));
  made = λ f a. let t : Among [] f = subst (λ es. Among es f) is a in absurd (let z : None ≡ Some f = t.1 in cc);
}

pub one_more : (inner : List Bool) (edges : List Edge) (k : ℕ) (x : Edge) (old new : List Edge)
    → k < length edges → x ≡ get_or edges k x → Adds inner edges x old new → AreJoined inner edges k old → AreJoined inner edges (k + 1) new
one_more inner edges k x old new lt is adds h = elim adds [
  | inl (gives, same) ↦ subst (AreJoined inner edges (k + 1)) (sym same) (record {
    kept = λ j e less s b. elim (cases_eq j k) [
      | inl q ↦
          let both : Some e ≡ Some x = sym (subst (λ i. slice_get edges i ≡ Some e) q s) ∙ there edges k x lt is in
          let one : e ≡ x = cc in
          absurd (let z : true ≡ false = sym gives ∙ ap (λ (y : Edge). flag_at inner y.from.0) (sym one) ∙ b in cc)
      | inr ne ↦ h.kept j e (omega (arith, less, ne)) s b
    ];
    made = h.made;
  })
  | inr (kept, (f, grown, extends)) ↦ subst (AreJoined inner edges (k + 1)) (sym grown) (record {
    kept = λ j e less s b. elim (cases_eq j k) [
      | inl q ↦
          let both : Some e ≡ Some x = sym (subst (λ i. slice_get edges i ≡ Some e) q s) ∙ there edges k x lt is in
          let one : e ≡ x = cc in
          (f, among-last old f, subst (λ y. Extends (flag_at inner) edges y f) (sym one) extends)
      | inr ne ↦ let (g, a, g_extends) = h.kept j e (omega (arith, less, ne)) s b in (g, among-front old (f ∷ []) g a, g_extends)
    ];
    made = λ g a. elim (among-split old f g a) [
      | inl b ↦ h.made g b
      | inr q ↦ (x, (k, there edges k x lt is), kept, subst (Extends (flag_at inner) edges x) (sym q) extends)
    ];
  })
]

pub joined_is : (nodes : List Node) (places : List LoopAt) (first : NodeId) (edges : List Edge) (inner : List Bool) (new : List Edge)
    → flag_at inner first.0 ≡ false → AreClear inner places → AreKept nodes inner → AreJoined inner edges (length edges) new
    → IsJoined nodes places first edges new
joined_is nodes places first edges inner new entry clear kept j = record {
  inner = flag_at inner;
  entry = entry;
  loops = clear;
  errors = λ v kind at s. kept v.0 (Error kind at) s;
  kept = λ e a b. j.kept a.0 e (slice_get_within edges a.0 e a.1) a.1 b;
  made = j.made;
}

-- edges that stay as they are
pub unjoined : (nodes : List Node) (places : List LoopAt) (first : NodeId) (edges : List Edge) → IsJoined nodes places first edges edges
unjoined nodes places first edges = record {
  inner = λ n. false;
  entry = refl;
  loops = λ k l s. refl;
  errors = λ v kind at s. refl;
  kept = λ e a b. (e, a, itself e);
  made = λ e a. (e, a, refl, itself e);
}
  where
    itself : (e : Edge) → Extends (λ n. false) edges e e
    itself e = (zero, [], refl, sym (append-nil e.ops), (refl, refl, refl))

-- what stands past the end does not matter for an element that is there
pub same_there : (xs : List Edge) (k : ℕ) (d e : Edge) → k < length xs → get_or xs k d ≡ get_or xs k e
same_there [] k d e lt = absurd (omega (arith, lt))
same_there (x ∷ xs) zero d e lt = refl
same_there (x ∷ xs) (suc k) d e lt = same_there xs k d e (omega (arith, lt))
