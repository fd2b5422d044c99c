-- Sizes that are known of functions, deeper calls, and sizes that are raised.
use Rattle.std.proofs.Common.{◌≡◌, ℕ, zero, suc, ◌+◌, ◌<◌, ◌≤◌, List, [], ◌∷◌, length, replicate, drop, slice_get, slice_set, refl, ap, sym, subst, ◌∙◌, arith, inl, inr, Option}
use Rattle.std.specs.Prelude.{slice_index_or, min, Bool, true, false}
use Rattle.std.proofs.lemmas.Bool.{cases_eq, cases_lt}
use Rattle.std.proofs.lemmas.Option.{slice_get_past}
use Rattle.c_graph.specs.declared.graph.Node.{Node}
use Rattle.c_graph.specs.declared.graph.Node.TheVariants.{Plain, Error, End, Call}
use Rattle.c_graph.specs.Functions.{FnFlow}
use Rattle.call_inline.specs.Inlining.{nodes_of}
use Rattle.call_inline.specs.Sizes.{AreExact, AreSettled, AreSizes, IsBelow, IsSettled, copy_nodes, nodes_among, nodes_at, nodes_with, room, size_in}

-- ---- More nodes where functions have more

node-more : (s t : ℕ → ℕ) (v : Node) → IsBelow s t → nodes_at s v ≤ nodes_at t v
node-more s t Plain h = omega arith
node-more s t (Error kind at) h = omega arith
node-more s t End h = omega arith
node-more s t (Call callee next) h = let m : s callee ≤ t callee = h callee in omega (arith, m)

nodes-more : (s t : ℕ → ℕ) (vs : List Node) → IsBelow s t → nodes_among s vs ≤ nodes_among t vs
nodes-more s t [] h = omega arith
nodes-more s t (v ∷ vs) h =
    let first : nodes_at s v ≤ nodes_at t v = node-more s t v h in
    let rest : nodes_among s vs ≤ nodes_among t vs = nodes-more s t vs h in
    omega (arith, first, rest)

-- down to a greater depth a copy has no fewer nodes
deeper : (graphs : List FnFlow) (depth f : ℕ) → copy_nodes graphs depth f ≤ copy_nodes graphs (suc depth) f
deeper graphs zero f = omega arith
deeper graphs (suc depth) f = nodes-more (copy_nodes graphs depth) (copy_nodes graphs (suc depth)) (nodes_of (slice_get graphs f)) (λ g. deeper graphs depth g)

-- ---- Lists of sizes

length-set : (sizes : List ℕ) (k n : ℕ) → length (slice_set sizes k n) ≡ length sizes
length-set [] k n = refl
length-set (x ∷ xs) zero n = refl
length-set (x ∷ xs) (suc k) n = ap suc (length-set xs k n)

set-here : (sizes : List ℕ) (k n : ℕ) → k < length sizes → size_in (slice_set sizes k n) k ≡ n
set-here [] k n lt = absurd (omega (arith, lt))
set-here (x ∷ xs) zero n lt = refl
set-here (x ∷ xs) (suc k) n lt = set-here xs k n (omega (arith, lt))

set-other : (sizes : List ℕ) (k n f : ℕ) → (f ≡ k → ⊥) → size_in (slice_set sizes k n) f ≡ size_in sizes f
set-other [] k n f ne = refl
set-other (x ∷ xs) zero n zero ne = absurd (ne refl)
set-other (x ∷ xs) zero n (suc f) ne = refl
set-other (x ∷ xs) (suc k) n zero ne = refl
set-other (x ∷ xs) (suc k) n (suc f) ne = set-other xs k n f (λ e. ne (ap suc e))

abbrev pub no-sizes : ℕ → List ℕ
no-sizes k = replicate k 0

none-known : (k f : ℕ) → size_in (no-sizes k) f ≡ 0
none-known zero f = refl
none-known (suc k) zero = refl
none-known (suc k) (suc f) = none-known k f

length-none : (k : ℕ) → length (no-sizes k) ≡ k
length-none zero = refl
length-none (suc k) = ap suc (length-none k)

-- at first no size is known
pub none-sizes : (graphs : List FnFlow) (k : ℕ) → k ≡ length graphs → AreSizes graphs (no-sizes k)
none-sizes graphs k is = record {
  count = length-none k ∙ is;
  depth = 0;
  below = λ f. let none : size_in (no-sizes k) f ≡ 0 = none-known k f in omega (arith, none);
  summed = λ f. let none : size_in (no-sizes k) f ≡ 0 = none-known k f in omega (arith, none);
}

-- the room that is left where a size is raised
room-falls : (sizes : List ℕ) (k n : ℕ) → k < length sizes → size_in sizes k < n → n ≤ 65537 → room (slice_set sizes k n) < room sizes
room-falls [] k n lt more few = absurd (omega (arith, lt))
room-falls (x ∷ xs) zero n lt more few = omega (arith, more, few)
room-falls (x ∷ xs) (suc k) n lt more few = let rest : room (slice_set xs k n) < room xs = room-falls xs k n (omega (arith, lt)) more few in omega (arith, rest)

module _ (graphs : List FnFlow) (sizes : List ℕ) (k n : ℕ) (sized : AreSizes graphs sizes) (lt : k < length sizes) (more : size_in sizes k < n) (few : n ≤ nodes_with graphs (size_in sizes) k) where
  raised-more : IsBelow (size_in sizes) (size_in (slice_set sizes k n))
  raised-more f = elim (cases_eq f k) [
    | inl e ↦
        let here : size_in (slice_set sizes k n) k ≡ n = set-here sizes k n lt in
        let at : size_in sizes k ≤ size_in (slice_set sizes k n) k = omega (arith, here, more) in
        subst (λ (i : ℕ). size_in sizes i ≤ size_in (slice_set sizes k n) i) (sym e) at
    | inr ne ↦ let same : size_in (slice_set sizes k n) f ≡ size_in sizes f = set-other sizes k n f ne in omega (arith, same)
  ]

  raised-below : IsBelow (size_in (slice_set sizes k n)) (copy_nodes graphs (suc sized.depth))
  raised-below f = elim (cases_eq f k) [
    | inl e ↦
        let here : size_in (slice_set sizes k n) k ≡ n = set-here sizes k n lt in
        let deep : nodes_with graphs (size_in sizes) k ≤ copy_nodes graphs (suc sized.depth) k = nodes-more (size_in sizes) (copy_nodes graphs sized.depth) (nodes_of (slice_get graphs k)) sized.below in
        let at : size_in (slice_set sizes k n) k ≤ copy_nodes graphs (suc sized.depth) k = omega (arith, here, few, deep) in
        subst (λ (i : ℕ). size_in (slice_set sizes k n) i ≤ copy_nodes graphs (suc sized.depth) i) (sym e) at
    | inr ne ↦
        let same : size_in (slice_set sizes k n) f ≡ size_in sizes f = set-other sizes k n f ne in
        let was : size_in sizes f ≤ copy_nodes graphs sized.depth f = sized.below f in
        let deep : copy_nodes graphs sized.depth f ≤ copy_nodes graphs (suc sized.depth) f = deeper graphs sized.depth f in
        omega (arith, same, was, deep)
  ]

  raised-summed : IsBelow (size_in (slice_set sizes k n)) (nodes_with graphs (size_in (slice_set sizes k n)))
  raised-summed f =
      let grown : nodes_with graphs (size_in sizes) f ≤ nodes_with graphs (size_in (slice_set sizes k n)) f = nodes-more (size_in sizes) (size_in (slice_set sizes k n)) (nodes_of (slice_get graphs f)) raised-more in
      elim (cases_eq f k) [
        | inl e ↦
            let here : size_in (slice_set sizes k n) k ≡ n = set-here sizes k n lt in
            let at : size_in (slice_set sizes k n) k ≤ nodes_with graphs (size_in sizes) k = omega (arith, here, few) in
            let there : size_in (slice_set sizes k n) f ≤ nodes_with graphs (size_in sizes) f = subst (λ (i : ℕ). size_in (slice_set sizes k n) i ≤ nodes_with graphs (size_in sizes) i) (sym e) at in
            omega (arith, there, grown)
        | inr ne ↦
            let same : size_in (slice_set sizes k n) f ≡ size_in sizes f = set-other sizes k n f ne in
            let was : size_in sizes f ≤ nodes_with graphs (size_in sizes) f = sized.summed f in
            omega (arith, same, was, grown)
      ]

  -- a size that is raised to no more than its function and its calls have
  pub raised-sizes : AreSizes graphs (slice_set sizes k n)
  raised-sizes = record { count = length-set sizes k n ∙ sized.count; depth = suc sized.depth; below = raised-below; summed = raised-summed }

pub set-sizes : (graphs : List FnFlow) (old new : List ℕ) (b : Bool) (k n : ℕ)
    → (b ≡ true → (k < length old) × (size_in old k < n) × (new ≡ slice_set old k n)) → (b ≡ false → new ≡ old)
    → n ≤ nodes_with graphs (size_in old) k → AreSizes graphs old → AreSizes graphs new
set-sizes graphs old new true k n raised same few sized =
    let h = raised refl in
    subst (AreSizes graphs) (sym h.2) (raised-sizes graphs old k n sized h.0 h.1 few)
set-sizes graphs old new false k n raised same few sized = subst (AreSizes graphs) (sym (same refl)) sized

pub set-room : (old new : List ℕ) (k n : ℕ) → (k < length old) × (size_in old k < n) × (new ≡ slice_set old k n) → n ≤ 65537 → room new < room old
set-room old new k n h few = subst (λ (s : List ℕ). room s < room old) (sym h.2) (room-falls old k n h.0 h.1 few)

-- ---- Sizes that are settled

-- behind all functions there is none
pub all-settled : (graphs : List FnFlow) (sizes : List ℕ) → ((f : ℕ) → f < length graphs → IsSettled graphs sizes f) → AreSettled graphs sizes
all-settled graphs sizes h f = elim (cases_lt f (length graphs)) [
  | inl lt ↦ h f lt
  | inr le ↦
      let none : nodes_with graphs (size_in sizes) f ≡ 0 = ap (λ (o : Option FnFlow). nodes_among (size_in sizes) (nodes_of o)) (slice_get_past graphs f le) in
      omega (arith, none)
]

-- small sizes that are settled are exact
pub exact : (graphs : List FnFlow) (sizes : List ℕ) → AreSizes graphs sizes → AreSettled graphs sizes → AreExact graphs (size_in sizes)
exact graphs sizes sized settled f few =
    let most : size_in sizes f ≤ nodes_with graphs (size_in sizes) f = sized.summed f in
    let least : min (nodes_with graphs (size_in sizes) f) 65537 ≤ size_in sizes f = settled f in
    omega (arith, most, least, few)

-- ---- Copies of few nodes

node-few : (s t : ℕ → ℕ) (v : Node) → ((g : ℕ) → min (t g) 65537 ≤ s g) → min (nodes_at t v) 65537 ≤ min (nodes_at s v) 65537
node-few s t Plain h = omega arith
node-few s t (Error kind at) h = omega arith
node-few s t End h = omega arith
node-few s t (Call callee next) h = let m : min (t callee) 65537 ≤ s callee = h callee in omega (arith, m)

among-few : (s t : ℕ → ℕ) (vs : List Node) → ((g : ℕ) → min (t g) 65537 ≤ s g) → min (nodes_among t vs) 65537 ≤ min (nodes_among s vs) 65537
among-few s t [] h = omega arith
among-few s t (v ∷ vs) h =
    let first : min (nodes_at t v) 65537 ≤ min (nodes_at s v) 65537 = node-few s t v h in
    let rest : min (nodes_among t vs) 65537 ≤ min (nodes_among s vs) 65537 = among-few s t vs h in
    omega (arith, first, rest)

-- down to each depth a function has no more nodes than its settled size says, which counts to 65,537
pub settled-few : (graphs : List FnFlow) (sizes : List ℕ) → AreSettled graphs sizes → (depth f : ℕ) → min (copy_nodes graphs depth f) 65537 ≤ size_in sizes f
settled-few graphs sizes settled zero f = omega arith
settled-few graphs sizes settled (suc depth) f =
    let below : min (nodes_among (copy_nodes graphs depth) (nodes_of (slice_get graphs f))) 65537 ≤ min (nodes_with graphs (size_in sizes) f) 65537 =
    among-few (size_in sizes) (copy_nodes graphs depth) (nodes_of (slice_get graphs f)) (λ g. settled-few graphs sizes settled depth g) in
    let enough : min (nodes_with graphs (size_in sizes) f) 65537 ≤ size_in sizes f = settled f in
    omega (arith, below, enough)

-- so a function whose settled size is few has few down to each depth
pub few-copies : (graphs : List FnFlow) (sizes : List ℕ) → AreSettled graphs sizes → (f : ℕ) → size_in sizes f ≤ 65536 → (depth : ℕ) → copy_nodes graphs depth f ≤ 65536
few-copies graphs sizes settled f few depth =
    let most : min (copy_nodes graphs depth f) 65537 ≤ size_in sizes f = settled-few graphs sizes settled depth f in
    omega (arith, most, few)

-- ---- Sums

-- from a place on there are the node at the place, and those behind it
pub from-place : (size : ℕ → ℕ) (vs : List Node) (k : ℕ) → k < length vs → nodes_among size (drop k vs) ≡ nodes_at size (slice_index_or vs k Plain) + nodes_among size (drop (suc k) vs)
from-place size [] k lt = absurd (omega (arith, lt))
from-place size (x ∷ vs) zero lt = refl
from-place size (x ∷ vs) (suc k) lt = from-place size vs k (omega (arith, lt))

pub behind-next : (size : ℕ → ℕ) (vs : List Node) (k : ℕ) → nodes_among size (drop (k + 1) vs) ≡ nodes_among size (drop (suc k) vs)
behind-next size vs k = let next : k + 1 ≡ suc k = omega arith in ap (λ i. nodes_among size (drop i vs)) next
