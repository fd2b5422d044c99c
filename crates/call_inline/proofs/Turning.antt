-- Loops, turn by turn.
use Rattle.std.proofs.Common.{◌≡◌, ℕ, ◌+◌, ◌<◌, ◌≤◌, length, Result, Ok, Err, IfOk, List, [], ◌∷◌, ◌++◌, Some, None, map, drop, get_or, arith, ap, sym, ◌∙◌, subst, slice_get, inl, inr, append_assoc, append-nil, min, refl, slice_set, suc, zero}
use Rattle.std.proofs.lemmas.Bool.{cases_eq}
use Rattle.std.proofs.lemmas.List.{drop_more}
use Rattle.std.proofs.lemmas.Option.{slice_get_within, slice_get_past, get_or_from_slice_get}
use Rattle.c_graph.specs.declared.graph.Node.{Node}
use Rattle.c_graph.specs.declared.graph.Edge.{Edge}
use Rattle.std.proofs.Common.{Global, Vec}
use Rattle.c_graph.specs.Functions.{FnFlow, Flows}
use Rattle.call_inline.specs.declared.numbers.Copied.{Copied}
use Rattle.call_inline.specs.Inlining.{Among}
use Rattle.call_inline.specs.Copying.{Offsets, each_from, calls_in, calls_in_any, copies_after, copy_edges, all_edges, all_lays, all_offsets, copy_lays, lists_of, main_copy, moved, offsets_among, written}
use Rattle.call_inline.specs.Sizes.{nodes_at}
use Rattle.call_inline.proofs.Lists.{among-front, among-back, get-front, get-there, some_or_none}

-- what was emitted and what is left to emit
pub turn : {X : Type 0} → (old new e r whole : List X) → new ≡ old ++ e → old ++ (e ++ r) ≡ whole → new ++ r ≡ whole
turn old new e r whole is h = ap (λ z. z ++ r) is ∙ append_assoc old e r ∙ h

pub each_turn : {X : Type 0} → (f : ℕ → Node → List X) (nodes : List Node) (k : ℕ) (d : Node) (old new whole : List X)
    → k < length nodes → new ≡ old ++ f k (get_or nodes k d)
    → old ++ each_from f k (drop k nodes) ≡ whole → new ++ each_from f (k + 1) (drop (k + 1) nodes) ≡ whole
each_turn f nodes k d old new whole lt is h =
    turn old new (f k (get_or nodes k d)) (each_from f (k + 1) (drop (k + 1) nodes)) whole is
    (ap (λ z. old ++ each_from f k z) (sym (drop_more nodes k d lt)) ∙ h)

pub moved_turn : (offsets : Offsets) (c : Copied) (own : List Edge) (k : ℕ) (d e : Edge) (old new whole : List Edge)
    → k < length own → new ≡ old ++ e ∷ [] → e ≡ moved offsets c (get_or own k d)
    → old ++ map (moved offsets c) (drop k own) ≡ whole → new ++ map (moved offsets c) (drop (k + 1) own) ≡ whole
moved_turn offsets c own k d e old new whole lt is m h =
    turn old new (e ∷ []) (map (moved offsets c) (drop (k + 1) own)) whole is
    (ap (λ (z : Edge). old ++ (z ∷ map (moved offsets c) (drop (k + 1) own))) m ∙ ap (λ z. old ++ map (moved offsets c) z) (sym (drop_more own k d lt)) ∙ h)

pub copies_turn : (p : Flows) (offsets : Offsets) (copies : List Copied) (k : ℕ) (d : Copied) (old new whole : List Edge)
    → k < length copies → new ≡ old ++ copy_edges p offsets (get_or copies k d)
    → old ++ all_edges p offsets (drop k copies) ≡ whole → new ++ all_edges p offsets (drop (k + 1) copies) ≡ whole
copies_turn p offsets copies k d old new whole lt is h =
    turn old new (copy_edges p offsets (get_or copies k d)) (all_edges p offsets (drop (k + 1) copies)) whole is
    (ap (λ z. old ++ all_edges p offsets z) (sym (drop_more copies k d lt)) ∙ h)

-- nodes that were written, and those that are left to write
written-append : (nodes : List Node) (xs ys : List (ℕ × Node)) → written nodes (xs ++ ys) ≡ written (written nodes xs) ys
written-append nodes [] ys = refl
written-append nodes (x ∷ xs) ys = written-append (slice_set nodes x.0 x.1) xs ys

pub written_turn : (p : Flows) (offsets : Offsets) (copies : List Copied) (k : ℕ) (d : Copied) (old new whole : List Node)
    → k < length copies → new ≡ written old (copy_lays p offsets (get_or copies k d))
    → written old (all_lays p offsets (drop k copies)) ≡ whole → written new (all_lays p offsets (drop (k + 1) copies)) ≡ whole
written_turn p offsets copies k d old new whole lt is h =
    ap (λ (ns : List Node). written ns (all_lays p offsets (drop (k + 1) copies))) is
    ∙ sym (written-append old (copy_lays p offsets (get_or copies k d)) (all_lays p offsets (drop (k + 1) copies)))
    ∙ ap (λ (cs : List Copied). written old (all_lays p offsets cs)) (sym (drop_more copies k d lt)) ∙ h

-- offsets that were found, and those that are left to find
offsets-same : (size : ℕ → ℕ) (vs : List Node) (a b : ℕ) → min a 4294967295 ≡ min b 4294967295 → offsets_among size a vs ≡ offsets_among size b vs
offsets-same size [] a b e = refl
offsets-same size (v ∷ vs) a b e =
    ap (λ (x : ℕ). x ∷ offsets_among size (a + nodes_at size v) vs) e
    ∙ ap (λ (xs : List ℕ). min b 4294967295 ∷ xs) (offsets-same size vs (a + nodes_at size v) (b + nodes_at size v) (omega (arith, e)))

pub offsets_turn : (size : ℕ → ℕ) (nodes : List Node) (k : ℕ) (d : Node) (old new whole : List ℕ) (a b w n : ℕ)
    → k < length nodes → w ≡ min a 4294967295 → new ≡ old ++ w ∷ [] → n ≡ min (nodes_at size (get_or nodes k d)) 18446744073709551615 → b ≡ min (a + n) 18446744073709551615
    → old ++ offsets_among size a (drop k nodes) ≡ whole → new ++ offsets_among size b (drop (k + 1) nodes) ≡ whole
offsets_turn size nodes k d old new whole a b w n lt hw is hn hb h =
    let x : Node = get_or nodes k d in
    let rest : List Node = drop (k + 1) nodes in
    turn old new (w ∷ []) (offsets_among size b rest) whole is
    (ap (λ (z : ℕ). old ++ (z ∷ offsets_among size b rest)) hw
    ∙ ap (λ (zs : List ℕ). old ++ (min a 4294967295 ∷ zs)) (offsets-same size rest b (a + nodes_at size x) (omega (arith, hn, hb)))
    ∙ ap (λ (vs : List Node). old ++ offsets_among size a vs) (sym (drop_more nodes k d lt)) ∙ h)

lists-append : (offsets : List (Vec ℕ Global)) (o : Vec ℕ Global) → lists_of (offsets ++ o ∷ []) ≡ lists_of offsets ++ o.items ∷ []
lists-append [] o = refl
lists-append (x ∷ xs) o = ap (λ (ls : List (List ℕ)). x.items ∷ ls) (lists-append xs o)

pub lists-get : (offsets : List (Vec ℕ Global)) (k : ℕ) (o : Vec ℕ Global) → k < length offsets → o ≡ get_or offsets k o → slice_get (lists_of offsets) k ≡ Some o.items
lists-get [] k o lt e = absurd (omega (arith, lt))
lists-get (x ∷ xs) zero o lt e = sym (ap (λ (y : Vec ℕ Global). Some y.items) e)
lists-get (x ∷ xs) (suc k) o lt e = lists-get xs k o (omega (arith, lt)) e

pub lists-end : (offsets : List (Vec ℕ Global)) (k : ℕ) → length offsets ≤ k → slice_get (lists_of offsets) k ≡ None
lists-end [] k le = refl
lists-end (x ∷ xs) zero le = absurd (omega (arith, le))
lists-end (x ∷ xs) (suc k) le = lists-end xs k (omega (arith, le))

pub lists_turn : (size : ℕ → ℕ) (graphs : List FnFlow) (k : ℕ) (g : FnFlow) (old new : List (Vec ℕ Global)) (o : Vec ℕ Global) (whole : List (List ℕ))
    → k < length graphs → g ≡ get_or graphs k g → new ≡ old ++ o ∷ [] → o.items ≡ offsets_among size 0 g.nodes
    → lists_of old ++ all_offsets size (drop k graphs) ≡ whole → lists_of new ++ all_offsets size (drop (k + 1) graphs) ≡ whole
lists_turn size graphs k g old new o whole lt hg is ho h =
    let rest : List FnFlow = drop (k + 1) graphs in
    turn (lists_of old) (lists_of new) (o.items ∷ []) (all_offsets size rest) whole (ap lists_of is ∙ lists-append old o)
    (ap (λ (z : List ℕ). lists_of old ++ (z ∷ all_offsets size rest)) ho
    ∙ ap (λ (f : FnFlow). lists_of old ++ (offsets_among size 0 f.nodes ∷ all_offsets size rest)) hg
    ∙ ap (λ (fs : List FnFlow). lists_of old ++ all_offsets size fs) (sym (drop_more graphs k g lt)) ∙ h)

-- each call in one of the first n copies has its copy
abbrev pub AreFollowed : Flows → Offsets → ℕ → List Copied → Type 0
AreFollowed p offsets n copies = (k : ℕ) (c d : Copied) → k < n → slice_get copies k ≡ Some c → Among (calls_in p offsets c) d → Among copies d

-- the first copy stays
first_turn : (old new more : List Copied) (m : Copied) → new ≡ old ++ more → slice_get old 0 ≡ Some m → slice_get new 0 ≡ Some m
first_turn old new more m is s =
    subst (λ z. slice_get z 0 ≡ Some m) (sym is) (get-front old more 0 (slice_get_within old 0 m s) ∙ s)

-- one more copy is followed
follow_turn : (p : Flows) (offsets : Offsets) (n : ℕ) (old new : List Copied) → new ≡ old ++ calls_in_any p offsets (slice_get old n)
    → AreFollowed p offsets n old → AreFollowed p offsets (n + 1) new
follow_turn p offsets n old new is h k c d lt s a = elim (some_or_none (slice_get old n)) [
  | inl none ↦
      let same : new ≡ old = is ∙ ap (λ o. old ++ calls_in_any p offsets o) none ∙ append-nil old in
      let s2 : slice_get old k ≡ Some c = subst (λ z. slice_get z k ≡ Some c) same s in
      elim (cases_eq k n) [
        | inl e ↦ absurd (let z : None ≡ Some c = sym none ∙ subst (λ i. slice_get old i ≡ Some c) e s2 in cc)
        | inr ne ↦ subst (λ z. Among z d) (sym same) (h k c d (omega (arith, lt, ne)) s2 a)
      ]
  | inr x ↦
      let grown : new ≡ old ++ calls_in p offsets x.0 = is ∙ ap (λ o. old ++ calls_in_any p offsets o) x.1 in
      let there : n < length old = slice_get_within old n x.0 x.1 in
      let s2 : slice_get old k ≡ Some c = sym (get-front old (calls_in p offsets x.0) k (omega (arith, lt, there))) ∙ subst (λ z. slice_get z k ≡ Some c) grown s in
      elim (cases_eq k n) [
        | inl e ↦
            let both : Some x.0 ≡ Some c = sym x.1 ∙ subst (λ i. slice_get old i ≡ Some c) e s2 in
            let q : x.0 ≡ c = cc in
            subst (λ z. Among z d) (sym grown) (among-back old (calls_in p offsets x.0) d (subst (λ y. Among (calls_in p offsets y) d) (sym q) a))
        | inr ne ↦ subst (λ z. Among z d) (sym grown) (among-front old (calls_in p offsets x.0) d (h k c d (omega (arith, lt, ne)) s2 a))
      ]
]

pub first : (p : Flows) (offsets : Offsets) (n : ℕ) → slice_get (copies_after p offsets n) 0 ≡ Some (main_copy p)
first p offsets zero = refl
first p offsets (suc n) = first_turn (copies_after p offsets n) (copies_after p offsets (suc n)) (calls_in_any p offsets (slice_get (copies_after p offsets n) n)) (main_copy p) refl (first p offsets n)

pub followed : (p : Flows) (offsets : Offsets) (n : ℕ) → AreFollowed p offsets n (copies_after p offsets n)
followed p offsets zero = λ k c d lt. absurd (omega (arith, lt))
followed p offsets (suc n) = λ k c d lt.
    let next : suc n ≡ n + 1 = omega arith in
    follow_turn p offsets n (copies_after p offsets n) (copies_after p offsets (suc n)) refl (followed p offsets n) k c d (omega (arith, lt, next))

-- what one copy adds, where it is there and where it is not
pub none_added : (p : Flows) (offsets : Offsets) (copies : List Copied) (n : ℕ) → length copies ≤ n → copies ≡ copies ++ calls_in_any p offsets (slice_get copies n)
none_added p offsets copies n le = sym (ap (λ o. copies ++ calls_in_any p offsets o) (slice_get_past copies n le) ∙ append-nil copies)

pub some_added : (p : Flows) (offsets : Offsets) (copies : List Copied) (n : ℕ) (x : Copied) → n < length copies → x ≡ get_or copies n x
    → calls_in p offsets x ≡ calls_in_any p offsets (slice_get copies n)
some_added p offsets copies n x lt is =
    let y = get-there copies n lt in
    ap (calls_in p offsets) (is ∙ get_or_from_slice_get copies n y.0 x y.1) ∙ ap (calls_in_any p offsets) (sym y.1)

-- an answer that is so tells what follows
pub weaken : {A : Type 0} → {E : Type 0} → (r : Result A E) (P Q : A → Type 0) → ((x : A) → P x → Q x) → IfOk r P → IfOk r Q
weaken (Ok x) P Q f h = f x h
weaken (Err e) P Q f h = tt
