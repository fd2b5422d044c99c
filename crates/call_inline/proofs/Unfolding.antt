-- A copy's stretch of numbers is its own nodes and the stretches of the copies in it; so all copies share the stretch of main.
use Rattle.std.proofs.Common.{◌≡◌, ◌⊎◌, inl, inr, ℕ, ◌+◌, ◌<◌, ◌≤◌, min, length, take, List, [], ◌∷◌, ◌++◌, Option, Some, None, suc, zero, slice_get, arith, ap, sym, ◌∙◌, refl, subst, append-nil}
use Rattle.std.proofs.lemmas.Option.{none-some, same_Some, slice_get_within}
use Rattle.c_graph.specs.declared.graph.NodeId.{NodeId}
use Rattle.c_graph.specs.declared.graph.Node.{Node}
use Rattle.c_graph.specs.declared.graph.Node.TheVariants.{Plain, Error, End, Call}
use Rattle.c_graph.specs.Shape.{GoesOn, IsNodeOf}
use Rattle.c_graph.specs.Functions.{AreFlows, CallFits, FnFlow, Flows, IsFnFlow}
use Rattle.call_inline.specs.declared.numbers.Copied.{Copied}
use Rattle.call_inline.specs.Inlining.{Among, edges_in, edges_of, nodes_in, nodes_of, or_zero}
use Rattle.call_inline.specs.Sizes.{nodes_among, nodes_at}
use Rattle.call_inline.specs.Copying.{Offsets, all_lays, all_offsets, called, calls_in, calls_in_any, calls_of, copies_after, copy_lays, each_from, items_in, laid, lays_of, main_copy, node, number_of, offset_in, offsets_among}
use Rattle.call_inline.specs.Layout.{IsLaidOut}
use Rattle.call_inline.proofs.Weighing.{IsAdditive, Measure, count, count-adds, one-there, weigh, weigh-append}
use Rattle.call_inline.proofs.Lists.{all-there, among-either, among-front, from-each, get-there}

-- ---- Offsets

-- a node, with the copy behind it, is within all
pub up-to : (size : ℕ → ℕ) (xs : List Node) (k : ℕ) (x : Node) → slice_get xs k ≡ Some x → nodes_among size (take k xs) + nodes_at size x ≤ nodes_among size xs
up-to size [] k x s = absurd (none-some x s)
up-to size (y ∷ ys) zero x s = let same : nodes_at size y ≡ nodes_at size x = ap (nodes_at size) (same_Some y x s) in omega (arith, same)
up-to size (y ∷ ys) (suc k) x s = let rest : nodes_among size (take k ys) + nodes_at size x ≤ nodes_among size ys = up-to size ys k x s in omega (arith, rest)

one-node : (size : ℕ → ℕ) (x : Node) → 1 ≤ nodes_at size x
one-node size Plain = omega arith
one-node size (Error kind at) = omega arith
one-node size End = omega arith
one-node size (Call callee next) = omega arith

part-of : (size : ℕ → ℕ) (xs : List Node) (k : ℕ) → nodes_among size (take k xs) ≤ nodes_among size xs
part-of size [] zero = omega arith
part-of size [] (suc k) = omega arith
part-of size (y ∷ ys) zero = omega arith
part-of size (y ∷ ys) (suc k) = let rest : nodes_among size (take k ys) ≤ nodes_among size ys = part-of size ys k in omega (arith, rest)

offset-there : (size : ℕ → ℕ) (at : ℕ) (xs : List Node) (k : ℕ) → k < length xs → or_zero (slice_get (offsets_among size at xs) k) ≡ min (at + nodes_among size (take k xs)) 4294967295
offset-there size at [] k lt = absurd (omega (arith, lt))
offset-there size at (x ∷ xs) zero lt = omega arith
offset-there size at (x ∷ xs) (suc k) lt =
    let rest : or_zero (slice_get (offsets_among size (at + nodes_at size x) xs) k) ≡ min ((at + nodes_at size x) + nodes_among size (take k xs)) 4294967295 = offset-there size (at + nodes_at size x) xs k (omega (arith, lt)) in
    omega (arith, rest)

pub among-there : (size : ℕ → ℕ) (graphs : List FnFlow) (f : ℕ) → items_in (slice_get (all_offsets size graphs) f) ≡ offsets_among size 0 (nodes_of (slice_get graphs f))
among-there size [] f = refl
among-there size (g ∷ gs) zero = refl
among-there size (g ∷ gs) (suc f) = among-there size gs f

list-there : (size : ℕ → ℕ) (offsets : Offsets) (graphs : List FnFlow) (f : ℕ) → offsets ≡ all_offsets size graphs → items_in (slice_get offsets f) ≡ offsets_among size 0 (nodes_of (slice_get graphs f))
list-there size offsets graphs f e = ap (λ (o : Offsets). items_in (slice_get o f)) e ∙ among-there size graphs f

-- ---- A copy is its nodes and the copies in it

-- a list of what each node gives, where each gives one
pub each-single : {X : Type 0} (g : ℕ → Node → X) (n : ℕ) (xs : List Node) (k : ℕ) (x : Node) → slice_get xs k ≡ Some x → slice_get (each_from (λ i y. g i y ∷ []) n xs) k ≡ Some (g (n + k) x)
each-single g n [] k x s = absurd (none-some x s)
each-single g n (y ∷ ys) zero x s =
    let o : n ≡ n + 0 = omega arith in
    ap (λ (z : Node). Some (g n z)) (same_Some y x s) ∙ ap (λ (i : ℕ). Some (g i x)) o
each-single g n (y ∷ ys) (suc k) x s =
    let o : (n + 1) + k ≡ n + suc k = omega arith in
    each-single g (n + 1) ys k x s ∙ ap (λ (i : ℕ). Some (g i x)) o

module _ (p : Flows) (offsets : Offsets) (size : ℕ → ℕ) (m : Measure) where
  abbrev pub own-weight : ℕ × Node → ℕ
  own-weight l = m l.0 1

  abbrev pub stretch : Copied → ℕ
  stretch c = m c.base (size c.function)

  node-run : IsAdditive m → (c : Copied) (x : Node) (n pos : ℕ) → (number_of offsets c (node n)).0 ≡ pos → pos + nodes_at size x ≤ 65536
      → m pos (nodes_at size x) ≡ weigh own-weight (lays_of p offsets c n x) + weigh stretch (calls_of offsets c n x)
  node-run adds c Plain n pos here few = let one : m (number_of offsets c (node n)).0 1 ≡ m pos 1 = ap (λ (i : ℕ). m i 1) here in omega (arith, one)
  node-run adds c (Error kind at) n pos here few = let one : m (number_of offsets c (node n)).0 1 ≡ m pos 1 = ap (λ (i : ℕ). m i 1) here in omega (arith, one)
  node-run adds c End n pos here few = let one : m (number_of offsets c (node n)).0 1 ≡ m pos 1 = ap (λ (i : ℕ). m i 1) here in omega (arith, one)
  node-run adds c (Call callee next) n pos here few =
      let one : m (number_of offsets c (node n)).0 1 ≡ m pos 1 = ap (λ (i : ℕ). m i 1) here in
      let turned : size callee + 1 ≡ 1 + size callee = omega arith in
      let split : m pos (size callee + 1) ≡ m pos 1 + m (pos + 1) (size callee) = ap (m pos) turned ∙ adds.joined pos 1 (size callee) in
      let base : min ((number_of offsets c (node n)).0 + 1) 4294967295 ≡ pos + 1 = omega (arith, here, few) in
      let behind : m (min ((number_of offsets c (node n)).0 + 1) 4294967295) (size callee) ≡ m (pos + 1) (size callee) = ap (λ (i : ℕ). m i (size callee)) base in
      omega (arith, one, split, behind)

  run : IsAdditive m → (c : Copied) (xs : List Node) (n pos : ℕ) → ((k : ℕ) → k < length xs → (number_of offsets c (node (n + k))).0 ≡ pos + nodes_among size (take k xs)) → pos + nodes_among size xs ≤ 65536
      → m pos (nodes_among size xs) ≡ weigh own-weight (each_from (lays_of p offsets c) n xs) + weigh stretch (each_from (calls_of offsets c) n xs)
  run adds c [] n pos numbers few = adds.none pos
  run adds c (x ∷ xs) n pos numbers few =
      let start : n + 0 ≡ n = omega arith in
      let first : (number_of offsets c (node (n + 0))).0 ≡ pos + 0 = numbers 0 (omega arith) in
      let moved : (number_of offsets c (node (n + 0))).0 ≡ (number_of offsets c (node n)).0 = ap (λ (i : ℕ). (number_of offsets c (node i)).0) start in
      let here : (number_of offsets c (node n)).0 ≡ pos = omega (arith, first, moved) in
      let one : m pos (nodes_at size x) ≡ weigh own-weight (lays_of p offsets c n x) + weigh stretch (calls_of offsets c n x) = node-run adds c x n pos here (omega (arith, few)) in
      let rest : m (pos + nodes_at size x) (nodes_among size xs) ≡ weigh own-weight (each_from (lays_of p offsets c) (n + 1) xs) + weigh stretch (each_from (calls_of offsets c) (n + 1) xs) =
      run adds c xs (n + 1) (pos + nodes_at size x) (λ k lt.
      let next : (number_of offsets c (node (n + suc k))).0 ≡ pos + (nodes_at size x + nodes_among size (take k xs)) = numbers (suc k) (omega (arith, lt)) in
      let same : (n + 1) + k ≡ n + suc k = omega arith in
      let alike : (number_of offsets c (node ((n + 1) + k))).0 ≡ (number_of offsets c (node (n + suc k))).0 = ap (λ (i : ℕ). (number_of offsets c (node i)).0) same in
      omega (arith, next, alike)) (omega (arith, few)) in
      let split : m pos (nodes_at size x + nodes_among size xs) ≡ m pos (nodes_at size x) + m (pos + nodes_at size x) (nodes_among size xs) = adds.joined pos (nodes_at size x) (nodes_among size xs) in
      let lays : weigh own-weight (lays_of p offsets c n x ++ each_from (lays_of p offsets c) (n + 1) xs) ≡ weigh own-weight (lays_of p offsets c n x) + weigh own-weight (each_from (lays_of p offsets c) (n + 1) xs) =
      weigh-append own-weight (lays_of p offsets c n x) (each_from (lays_of p offsets c) (n + 1) xs) in
      let calls : weigh stretch (calls_of offsets c n x ++ each_from (calls_of offsets c) (n + 1) xs) ≡ weigh stretch (calls_of offsets c n x) + weigh stretch (each_from (calls_of offsets c) (n + 1) xs) =
      weigh-append stretch (calls_of offsets c n x) (each_from (calls_of offsets c) (n + 1) xs) in
      omega (arith, one, rest, split, lays, calls)

  -- ---- Copies of which the first so many are followed: those weigh their nodes, the others their stretches

  abbrev pub spread : ℕ → List Copied → ℕ
  spread zero cs = weigh stretch cs
  spread (suc n) [] = 0
  spread (suc n) (c ∷ cs) = weigh own-weight (copy_lays p offsets c) + spread n cs

  pub spread-more : (n : ℕ) (cs : List Copied) (c : Copied) (more : List Copied) → slice_get cs n ≡ Some c → stretch c ≡ weigh own-weight (copy_lays p offsets c) + weigh stretch more → spread (suc n) (cs ++ more) ≡ spread n cs
  spread-more zero [] c more s e = absurd (none-some c s)
  spread-more zero (d ∷ cs) c more s e =
      let both : weigh stretch (cs ++ more) ≡ weigh stretch cs + weigh stretch more = weigh-append stretch cs more in
      let known : stretch d ≡ weigh own-weight (copy_lays p offsets d) + weigh stretch more = subst (λ (b : Copied). stretch b ≡ weigh own-weight (copy_lays p offsets b) + weigh stretch more) (sym (same_Some d c s)) e in
      omega (arith, both, known)
  spread-more (suc n) [] c more s e = absurd (none-some c s)
  spread-more (suc n) (d ∷ cs) c more s e = let rest : spread (suc n) (cs ++ more) ≡ spread n cs = spread-more n cs c more s e in omega (arith, rest)

  pub spread-past : (n : ℕ) (cs : List Copied) → slice_get cs n ≡ None → spread (suc n) cs ≡ spread n cs
  spread-past zero [] s = refl
  spread-past zero (c ∷ cs) s = absurd (none-some c (sym s))
  spread-past (suc n) [] s = refl
  spread-past (suc n) (c ∷ cs) s = let rest : spread (suc n) cs ≡ spread n cs = spread-past n cs s in omega (arith, rest)

  pub spread-all : (n : ℕ) (cs : List Copied) → length cs ≤ n → spread n cs ≡ weigh own-weight (all_lays p offsets cs)
  spread-all zero [] le = refl
  spread-all zero (c ∷ cs) le = absurd (omega (arith, le))
  spread-all (suc n) [] le = refl
  spread-all (suc n) (c ∷ cs) le =
      let rest : spread n cs ≡ weigh own-weight (all_lays p offsets cs) = spread-all n cs (omega (arith, le)) in
      let both : weigh own-weight (copy_lays p offsets c ++ all_lays p offsets cs) ≡ weigh own-weight (copy_lays p offsets c) + weigh own-weight (all_lays p offsets cs) = weigh-append own-weight (copy_lays p offsets c) (all_lays p offsets cs) in
      omega (arith, rest, both)

  -- no fewer than there are copies, where none weighs nothing
  pub spread-least : (n : ℕ) (cs : List Copied) → ((c : Copied) → Among cs c → (1 ≤ weigh own-weight (copy_lays p offsets c)) × (1 ≤ stretch c)) → length cs ≤ spread n cs
  spread-least n [] some = omega arith
  spread-least zero (c ∷ cs) some =
      let first : 1 ≤ stretch c = (some c (0, refl)).1 in
      let rest : length cs ≤ weigh stretch cs = spread-least zero cs (λ d at. some d (suc at.0, at.1)) in
      omega (arith, first, rest)
  spread-least (suc n) (c ∷ cs) some =
      let first : 1 ≤ weigh own-weight (copy_lays p offsets c) = (some c (0, refl)).0 in
      let rest : length cs ≤ spread n cs = spread-least n cs (λ d at. some d (suc at.0, at.1)) in
      omega (arith, first, rest)

module _ (p : Flows) (offsets : Offsets) (total : ℕ) (flows : AreFlows p) (out : IsLaidOut p offsets total) where
  -- a copy lies within the nodes that there are, and its function is there
  pub record IsPlaced (c : Copied) : Type 0 where
    pub within : c.base + out.size c.function ≤ total
    pub there : c.function < length p.graphs

  pub own-size : (c : Copied) → IsPlaced c → out.size c.function ≡ nodes_among out.size (nodes_in p c.function)
  own-size c h = let most : c.base + out.size c.function ≤ total = h.within in let few : total ≤ 65536 = out.few in out.exact c.function (omega (arith, most, few))

  -- the number of a node
  pub number-is : (c : Copied) (v : ℕ) → IsPlaced c → v < length (nodes_in p c.function) → (number_of offsets c (node v)).0 ≡ c.base + nodes_among out.size (take v (nodes_in p c.function))
  number-is c v h lt =
      let list : offset_in (slice_get offsets c.function) v ≡ min (0 + nodes_among out.size (take v (nodes_in p c.function))) 4294967295 =
      ap (λ (ns : List ℕ). or_zero (slice_get ns v)) (list-there out.size offsets p.graphs c.function out.lists) ∙ offset-there out.size 0 (nodes_in p c.function) v lt in
      let size : out.size c.function ≡ nodes_among out.size (nodes_in p c.function) = own-size c h in
      let part : nodes_among out.size (take v (nodes_in p c.function)) ≤ nodes_among out.size (nodes_in p c.function) = part-of out.size (nodes_in p c.function) v in
      let most : c.base + out.size c.function ≤ total = h.within in
      let few : total ≤ 65536 = out.few in
      omega (arith, list, size, part, most, few)

  -- a copy's stretch is its nodes and the stretches of the copies in it
  pub unfolds : (m : Measure) → IsAdditive m → (c : Copied) → IsPlaced c → stretch p offsets out.size m c ≡ weigh (own-weight p offsets out.size m) (copy_lays p offsets c) + weigh (stretch p offsets out.size m) (calls_in p offsets c)
  unfolds m adds c h =
      let size : out.size c.function ≡ nodes_among out.size (nodes_in p c.function) = own-size c h in
      let most : c.base + out.size c.function ≤ total = h.within in
      let few : total ≤ 65536 = out.few in
      ap (m c.base) size
      ∙ run p offsets out.size m adds c (nodes_in p c.function) 0 c.base (λ k lt. let o : k ≡ 0 + k = omega arith in
      subst (λ (i : ℕ). (number_of offsets c (node i)).0 ≡ c.base + nodes_among out.size (take k (nodes_in p c.function))) o (number-is c k h lt)) (omega (arith, size, most, few))

  -- ---- Copies that are placed

  pub function-of : (k : ℕ) → k < length p.graphs → (f : FnFlow) × (slice_get p.graphs k ≡ Some f) × IsFnFlow (length p.graphs) p.terms f
  function-of k lt = let (f, s) = get-there p.graphs k lt in (f, s, all-there (IsFnFlow (length p.graphs) p.terms) p.graphs k f flows.each s)

  -- a call of a copy's function fits
  pub call-fits : (c : Copied) → IsPlaced c → (v callee : ℕ) (next : NodeId) → slice_get (nodes_in p c.function) v ≡ Some (Call callee next)
      → (callee < length p.graphs) × IsNodeOf (nodes_in p c.function) next × GoesOn (nodes_in p c.function) (edges_in p c.function) next
  call-fits c h v callee next s =
      let (f, is, fits) = function-of c.function h.there in
      let own : slice_get f.nodes v ≡ Some (Call callee next) = subst (λ (o : Option FnFlow). slice_get (nodes_of o) v ≡ Some (Call callee next)) is s in
      subst (λ (o : Option FnFlow). (callee < length p.graphs) × IsNodeOf (nodes_of o) next × GoesOn (nodes_of o) (edges_of o) next) (sym is)
      (all-there (CallFits (length p.graphs) f) f.nodes v (Call callee next) fits.calls own)

  child-placed : (c : Copied) → IsPlaced c → (v callee : ℕ) (next : NodeId) → slice_get (nodes_in p c.function) v ≡ Some (Call callee next) → IsPlaced (called offsets c v callee next)
  child-placed c h v callee next s =
      let is : (number_of offsets c (node v)).0 ≡ c.base + nodes_among out.size (take v (nodes_in p c.function)) = number-is c v h (slice_get_within (nodes_in p c.function) v (Call callee next) s) in
      let part : nodes_among out.size (take v (nodes_in p c.function)) + (out.size callee + 1) ≤ nodes_among out.size (nodes_in p c.function) = up-to out.size (nodes_in p c.function) v (Call callee next) s in
      let size : out.size c.function ≡ nodes_among out.size (nodes_in p c.function) = own-size c h in
      let most : c.base + out.size c.function ≤ total = h.within in
      let few : total ≤ 65536 = out.few in
      record { within = omega (arith, is, part, size, most, few); there = (call-fits c h v callee next s).0 }

  -- it is the copy for a call in one of these
  pub record IsCalled (cs : List Copied) (c : Copied) : Type 0 where
    pub caller : Copied
    pub place : ℕ
    pub next : NodeId
    pub among : Among cs caller
    pub placed : IsPlaced caller
    pub call : slice_get (nodes_in p caller.function) place ≡ Some (Call c.function next)
    pub back : c.back ≡ Some (number_of offsets caller next)

  abbrev pub HasOrigin : List Copied → Copied → Type 0
  HasOrigin cs c = (c ≡ main_copy p) ⊎ IsCalled cs c

  more-origin : (cs more : List Copied) (c : Copied) → HasOrigin cs c → HasOrigin (cs ++ more) c
  more-origin cs more c (inl e) = inl e
  more-origin cs more c (inr o) = inr (record { caller = o.caller; place = o.place; next = o.next; among = among-front cs more o.caller o.among; placed = o.placed; call = o.call; back = o.back })

  called-of : (cs more : List Copied) (b : Copied) → IsPlaced b → Among cs b → (k : ℕ) (x : Node) (c : Copied) → slice_get (nodes_in p b.function) k ≡ Some x → Among (calls_of offsets b k x) c → IsPlaced c × HasOrigin (cs ++ more) c
  called-of cs more b h at k Plain c s a = absurd (none-some c a.1)
  called-of cs more b h at k (Error kind place) c s a = absurd (none-some c a.1)
  called-of cs more b h at k End c s a = absurd (none-some c a.1)
  called-of cs more b h at k (Call callee next) c s (suc j, a) = absurd (none-some c a)
  called-of cs more b h at k (Call callee next) c s (zero, a) =
      let same : called offsets b k callee next ≡ c = same_Some (called offsets b k callee next) c a in
      subst (λ (d : Copied). IsPlaced d × HasOrigin (cs ++ more) d) same (
        child-placed b h k callee next s,
        inr (record { caller = b; place = k; next = next; among = among-front cs more b at; placed = h; call = s; back = refl }),
      )

  main-placed : IsPlaced (main_copy p)
  main-placed = let whole : out.size p.main ≡ total = out.main in record { within = omega (arith, whole); there = flows.main }

  step-placed : (cs : List Copied) (n : ℕ) (o : Option Copied) → slice_get cs n ≡ o → ((c : Copied) → Among cs c → IsPlaced c × HasOrigin cs c) → (c : Copied) → Among (cs ++ calls_in_any p offsets o) c → IsPlaced c × HasOrigin (cs ++ calls_in_any p offsets o) c
  step-placed cs n None is old c a = elim (among-either cs [] c a) [
    | inl b ↦ ((old c b).0, more-origin cs [] c (old c b).1)
    | inr b ↦ absurd (none-some c b.1)
  ]
  step-placed cs n (Some b) is old c a = elim (among-either cs (calls_in p offsets b) c a) [
    | inl d ↦ ((old c d).0, more-origin cs (calls_in p offsets b) c (old c d).1)
    | inr d ↦
        let (k, x, s, g) = from-each (calls_of offsets b) 0 (nodes_in p b.function) c d in
        let o : 0 + k ≡ k = omega arith in
        called-of cs (calls_in p offsets b) b (old b (n, is)).0 (n, is) k x c s (subst (λ (i : ℕ). Among (calls_of offsets b i x) c) o g)
  ]

  -- each copy is placed, and is that of main or for a call in a copy
  pub placed : (n : ℕ) (c : Copied) → Among (copies_after p offsets n) c → IsPlaced c × HasOrigin (copies_after p offsets n) c
  placed zero c (zero, s) = subst (λ (d : Copied). IsPlaced d × HasOrigin (main_copy p ∷ []) d) (same_Some (main_copy p) c s) (main-placed, inl refl)
  placed zero c (suc k, s) = absurd (none-some c s)
  placed (suc n) c a = step-placed (copies_after p offsets n) n (slice_get (copies_after p offsets n) n) refl (λ d b. placed n d b) c a

  -- ---- All copies

  step-kept : (m : Measure) → IsAdditive m → (n : ℕ) (cs : List Copied) (o : Option Copied) → slice_get cs n ≡ o → ((c : Copied) → Among cs c → IsPlaced c) → spread p offsets out.size m (suc n) (cs ++ calls_in_any p offsets o) ≡ spread p offsets out.size m n cs
  step-kept m adds n cs None is h = ap (spread p offsets out.size m (suc n)) (append-nil cs) ∙ spread-past p offsets out.size m n cs is
  step-kept m adds n cs (Some c) is h = spread-more p offsets out.size m n cs c (calls_in p offsets c) is (unfolds m adds c (h c (n, is)))

  spread-kept : (m : Measure) → IsAdditive m → (n : ℕ) → spread p offsets out.size m n (copies_after p offsets n) ≡ m 0 total
  spread-kept m adds zero =
      let whole : m 0 (out.size p.main) ≡ m 0 total = ap (m 0) out.main in
      omega (arith, whole)
  spread-kept m adds (suc n) =
      step-kept m adds n (copies_after p offsets n) (slice_get (copies_after p offsets n) n) refl (λ c at. (placed n c at).0) ∙ spread-kept m adds n

  -- a copy has a node
  has-node : (c : Copied) → IsPlaced c → 0 < length (nodes_in p c.function)
  has-node c h =
      let (f, is, fits) = function-of c.function h.there in
      let entry : (f.entry).0 < length f.nodes = fits.entry in
      subst (λ (o : Option FnFlow). 0 < length (nodes_of o)) (sym is) (omega (arith, entry))

  weighs : (c : Copied) → IsPlaced c → (1 ≤ weigh (own-weight p offsets out.size count) (copy_lays p offsets c)) × (1 ≤ stretch p offsets out.size count c)
  weighs c h =
      let (x, s) = get-there (nodes_in p c.function) 0 (has-node c h) in
      let part : nodes_among out.size (take 0 (nodes_in p c.function)) + nodes_at out.size x ≤ nodes_among out.size (nodes_in p c.function) = up-to out.size (nodes_in p c.function) 0 x s in
      let some : 1 ≤ nodes_at out.size x = one-node out.size x in
      let size : out.size c.function ≡ nodes_among out.size (nodes_in p c.function) = own-size c h in
      (one-there (own-weight p offsets out.size count) (copy_lays p offsets c) 0 (laid p offsets c (0 + 0) x) (each-single (laid p offsets c) 0 (nodes_in p c.function) 0 x s), omega (arith, part, some, size))

  -- there are no more copies than nodes
  pub fewer : (n : ℕ) → length (copies_after p offsets n) ≤ total
  fewer n =
      let least : length (copies_after p offsets n) ≤ spread p offsets out.size count n (copies_after p offsets n) = spread-least p offsets out.size count n (copies_after p offsets n) (λ c at. weighs c (placed n c at).0) in
      let all : spread p offsets out.size count n (copies_after p offsets n) ≡ total = spread-kept count count-adds n in
      omega (arith, least, all)

  -- the nodes of all copies weigh what the stretch of main does
  pub all-weigh : (m : Measure) → IsAdditive m → weigh (λ (l : ℕ × Node). m l.0 1) (all_lays p offsets (copies_after p offsets total)) ≡ m 0 total
  all-weigh m adds = sym (spread-all p offsets out.size m total (copies_after p offsets total) (fewer total)) ∙ spread-kept m adds total

  -- a node's number is below the number of nodes
  pub number-below : (c : Copied) (v : ℕ) → IsPlaced c → v < length (nodes_in p c.function) → (number_of offsets c (node v)).0 < total
  number-below c v h lt =
      let (x, s) = get-there (nodes_in p c.function) v lt in
      let is : (number_of offsets c (node v)).0 ≡ c.base + nodes_among out.size (take v (nodes_in p c.function)) = number-is c v h lt in
      let part : nodes_among out.size (take v (nodes_in p c.function)) + nodes_at out.size x ≤ nodes_among out.size (nodes_in p c.function) = up-to out.size (nodes_in p c.function) v x s in
      let some : 1 ≤ nodes_at out.size x = one-node out.size x in
      let size : out.size c.function ≡ nodes_among out.size (nodes_in p c.function) = own-size c h in
      let most : c.base + out.size c.function ≤ total = h.within in
      omega (arith, is, part, some, size, most)
