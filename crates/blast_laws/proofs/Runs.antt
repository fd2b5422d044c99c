-- Lists of calls are exact.
use Rattle.std.proofs.Common.{◌≡◌, ℕ, ◌+◌, ◌*◌, ◌/◌, ◌%◌, ◌^◌, ◌≤◌, ◌<◌, ◌==◌, length, List, [], ◌∷◌, ◌++◌, map, arith, ap, sym, ◌∙◌, refl, suc, zero, Bool, true, false, ◌&&◌, cond, subst, ◌⊎◌, inl, inr, append_assoc, Option, slice_index}
use Rattle.std.proofs.Math.Nat.{pow-succ'}
use Rattle.std.proofs.lemmas.Bool.{eqb-true, eq-eqb, ne_eqb, false≢true}
use Rattle.prop.specs.declared.Lit.{Lit}
use Rattle.prop.specs.Logic.{all_hold, LitsBelow, lit_value}
use Rattle.bit_gates.specs.declared.netlist.Def.{Def}
use Rattle.bit_gates.specs.Net.{net_clauses, Meets, Grounded, Agree, extended, changed, def_value, bit, number}
use Rattle.bit_gates.proofs.Nets.{all_hold-append, meets_from_hold, hold_from_meets, extended-agree, extended-meets, def-agree}
use Rattle.bit_gates.proofs.AddLaws.{number-lt}
use Rattle.bit_words.proofs.WordPuts.{map-length}
use Rattle.bit_gates.proofs.Exacts.{grounded_ok, ok_below, below_ok}
use Rattle.bit_gates.proofs.Within.{LitsOk}
use Rattle.bv_term.specs.declared.term.Term.{Term}
use Rattle.bv_term.specs.Values.{IsStore}
use Rattle.bit_blast.specs.Done.{Known, lits_of}
use Rattle.bit_blast.specs.Held.{Held, fresh_lits, fresh_cells, above_all, sum_of, renew_of}
use Rattle.bit_blast.proofs.Over.{fresh-widths}
use Rattle.blast_laws.specs.Calls.{Call, Blast, Fresh, Rebind, Renew, StoreAt, table_of, made_by, terms_after, May, AllMay, held_after, clauses_by, IsFresh, IsOpen, spelled_store, store_by, Told, CellsBelow, IsStart}
use Rattle.blast_laws.specs.Laws.{CallsExact, NewStarts, RenewStarts, StoresSpelled, TruthsRead}
use Rattle.bit_blast.proofs.Cones.{DoneFit}
use Rattle.blast_laws.proofs.Rising.{Means}
use Rattle.blast_laws.proofs.Owes.{Below, low-below, fits-zero, AllOk}
use Rattle.blast_laws.proofs.Keeping.{OneOk, Keeps, Handed, Steps, call-steps, OneHolds, Says, call-says, none-fits, means-none}

both-true : (a b : Bool) → (a && b) ≡ true → (a ≡ true) × (b ≡ true)
both-true true b e = (refl, e)
both-true false b e = absurd (false≢true e)

meets-agree : (n : ℕ) (ds : List Def) (v w : ℕ → Bool) → Grounded n ds → Agree (n + length ds) v w → Meets v n ds → Meets w n ds
meets-agree n [] v w g a m = tt
meets-agree n (d ∷ ds) v w g a m =
    let s : suc n + length ds ≡ n + suc (length ds) = omega arith in
    let here : Agree n v w = λ k lt. a k (omega (arith, lt)) in
    (a n (omega arith) ∙ (m.0 ∙ sym (def-agree n v w d here g.0)), meets-agree (suc n) ds v w g.1 (λ k lt. a k (omega (arith, lt, s))) m.1)

extended-beyond : (n : ℕ) (ds : List Def) (v : ℕ → Bool) (k : ℕ) → n + length ds ≤ k → extended n ds v k ≡ v k
extended-beyond n [] v k le = refl
extended-beyond n (d ∷ ds) v k le =
    extended-beyond (suc n) ds (changed v n (def_value v d)) k (omega (arith, le))
    ∙ ap (λ (t : Bool). cond t (def_value v d) (v k)) (ne_eqb n k (λ e. omega (arith, e, le)))

handed-below : (ws : List ℕ) (us : List Term) (h : Held) (c : Call) → May ws us h c → Handed Below h.next c
handed-below ws us h (Blast ts t) m = tt
handed-below ws us h (Fresh w) m = tt
handed-below ws us h (Rebind c to) m = ok_below h.next to m.2
handed-below ws us h Renew m = tt
handed-below ws us h (StoreAt f n i x) m = (ok_below h.next i m.2, ok_below h.next x m.3)

pub steps-below : (ws : List ℕ) (us : List Term) (h : Held) (c : Call) → Keeps Below ws us h → May ws us h c
    → Steps Below ws (terms_after c us) h.next (made_by ws c h).defs (made_by ws c h).held
steps-below ws us h c k m = call-steps Below 0 fits-zero low-below ws us h c (omega arith) k m (handed-below ws us h c m)

-- what a fresh literal's variable is
fresh-late : (ws : List ℕ) (h : Held) (cs : List Call) (k : ℕ) → IsFresh ws h cs k → h.next ≤ k
fresh-late ws h [] k i = absurd i
fresh-late ws h (Blast ts t ∷ cs) k i = let g = fresh-late ws (made_by ws (Blast ts t) h).held cs k i in omega (arith, g)
fresh-late ws h (Fresh w ∷ cs) k (inl i) = i.0
fresh-late ws h (Fresh w ∷ cs) k (inr i) = let g = fresh-late ws (made_by ws (Fresh w) h).held cs k i in omega (arith, g)
fresh-late ws h (Rebind c to ∷ cs) k i = fresh-late ws (made_by ws (Rebind c to) h).held cs k i
fresh-late ws h (Renew ∷ cs) k i = fresh-late ws (made_by ws Renew h).held cs k i
fresh-late ws h (StoreAt f m i x ∷ cs) k q = let g = fresh-late ws (made_by ws (StoreAt f m i x) h).held cs k q in omega (arith, g)

fresh-part : (ws : List ℕ) (h : Held) (c : Call) (cs : List Call) (k : ℕ) → IsFresh ws h (c ∷ cs) k
    → ((h.next + length (made_by ws c h).defs ≤ k) × (k < (made_by ws c h).held.next)) ⊎ IsFresh ws (made_by ws c h).held cs k
fresh-part ws h (Blast ts t) cs k i = inr i
fresh-part ws h (Fresh w) cs k (inl i) = inl (omega (arith, i.0), i.1)
fresh-part ws h (Fresh w) cs k (inr i) = inr i
fresh-part ws h (Rebind c to) cs k i = inr i
fresh-part ws h Renew cs k i = inr i
fresh-part ws h (StoreAt f m i x) cs k q = inr q

extend : (ws : List ℕ) (us : List Term) (h : Held) (cs : List Call) → Keeps Below ws us h → AllMay ws us h cs → (v : ℕ → Bool)
    → (w : ℕ → Bool) × ((k : ℕ) → IsOpen ws h cs k → w k ≡ v k) × (all_hold w (clauses_by ws h cs) ≡ true)
extend ws us h [] k a v = (v, λ k o. refl, refl)
extend ws us h (c ∷ cs) k a v =
    let m = made_by ws c h in
    let st = steps-below ws us h c k a.0 in
    let g : Grounded h.next m.defs = grounded_ok h.next m.defs st.net in
    let v1 = extended h.next m.defs v in
    let (w, open_same, holds) = extend ws (terms_after c us) m.held cs st.keeps a.1 v1 in
    let ag : Agree (h.next + length m.defs) v1 w = λ j lt. open_same j (inl (omega (arith, lt, st.rises))) in
    let mw : Meets w h.next m.defs = meets-agree h.next m.defs v1 w g ag (extended-meets h.next m.defs v g) in
    let one : all_hold w (net_clauses h.next m.defs) ≡ true = hold_from_meets w h.next m.defs mw in (
      w,
      λ j o. by j w open_same st.rises o,
      all_hold-append w (net_clauses h.next m.defs) (clauses_by ws m.held cs) ∙ (ap (λ (t : Bool). t && all_hold w (clauses_by ws m.held cs)) one ∙ holds),
    )
  where
    by : (j : ℕ) (w : ℕ → Bool)
        → ((k : ℕ) → IsOpen ws (made_by ws c h).held cs k → w k ≡ extended h.next (made_by ws c h).defs v k)
        → h.next + length (made_by ws c h).defs ≤ (made_by ws c h).held.next
        → IsOpen ws h (c ∷ cs) j → w j ≡ v j
    by j w same up (inl lt) = same j (inl (omega (arith, lt, up))) ∙ extended-agree h.next (made_by ws c h).defs v j lt
    by j w same up (inr i) = elim (fresh-part ws h c cs j i) [
      | inl q ↦ same j (inl q.1) ∙ extended-beyond h.next (made_by ws c h).defs v j q.0
      | inr q ↦ same j (inr q) ∙ extended-beyond h.next (made_by ws c h).defs v j (let late = fresh-late ws (made_by ws c h).held cs j q in omega (arith, late, up))
    ]

read : (v : ℕ → Bool) (ws : List ℕ) (us : List Term) (h : Held) (cs : List Call) (s : List ℕ) → Keeps Below ws us h → AllMay ws us h cs → Says v ws us h s
    → all_hold v (clauses_by ws h cs) ≡ true → Told v ws h s cs
read v ws us h [] s k a y x = y.store
read v ws us h (c ∷ cs) s k a y x =
    let m = made_by ws c h in
    let st = steps-below ws us h c k a.0 in
    let p = both-true (all_hold v (net_clauses h.next m.defs)) (all_hold v (clauses_by ws m.held cs))
    (sym (all_hold-append v (net_clauses h.next m.defs) (clauses_by ws m.held cs)) ∙ x) in
    let r = call-says v ws us h c s k a.0 y (meets_from_hold v h.next m.defs p.0) in
    (y.store, r.1, read v ws (terms_after c us) m.held cs (store_by v c s) st.keeps a.1 r.0 p.1)

cells-ok : (n : ℕ) (cs : List (List Lit)) → CellsBelow n cs → AllOk Below n cs
cells-ok n [] h = tt
cells-ok n (c ∷ cs) h = (ok_below n c h.0, cells-ok n cs h.1)

ok-cells : (n : ℕ) (cs : List (List Lit)) → AllOk Below n cs → CellsBelow n cs
ok-cells n [] h = tt
ok-cells n (c ∷ cs) h = (below_ok n c h.0, ok-cells n cs h.1)

pub start-keeps : (ws : List ℕ) (h : Held) → IsStart ws h → Keeps Below ws [] h
start-keeps ws h s = record {
  widths = s.widths;
  cells = cells-ok h.next h.cells s.below;
  one = subst (λ (o : Option Lit). OneOk Below h.next o) (sym s.one) tt;
  lits = λ j. subst (λ (ds : List Known). LitsOk Below h.next (lits_of ds j)) (sym s.done) tt;
  fit = subst (λ (ds : List Known). DoneFit (table_of ws []) ds) (sym s.done) (none-fits (table_of ws []));
}

start-says : (v : ℕ → Bool) (ws : List ℕ) (h : Held) → IsStart ws h → Says v ws [] h (spelled_store v h.cells)
start-says v ws h s = record {
  store = refl;
  one = subst (λ (o : Option Lit). OneHolds v o) (sym s.one) tt;
  done = subst (λ (ds : List Known). Means v (table_of ws []) h.cells ds) (sym s.done) (means-none v (table_of ws []) h.cells);
}

spelled-fits : (v : ℕ → Bool) (cells : List (List Lit)) (ws : List ℕ) → map length cells ≡ ws → IsStore ws (spelled_store v cells) × (length (spelled_store v cells) ≡ length ws)
spelled-fits v cells ws e = (
  λ c lt. subst (λ (t : List ℕ). slice_index (spelled_store v cells) c < 2 ^ slice_index t c) e (at cells c (omega (arith, lt, many))),
  map-length (number v) cells ∙ sym many,
)
  where
    many : length ws ≡ length cells
    many = sym (ap length e) ∙ map-length length cells

    at : (cells : List (List Lit)) (c : ℕ) → c < length cells → slice_index (spelled_store v cells) c < 2 ^ slice_index (map length cells) c
    at [] c lt = absurd (omega (arith, lt))
    at (x ∷ xs) zero lt = number-lt v x
    at (x ∷ xs) (suc c) lt = at xs c (omega (arith, lt))

pub calls_exact : CallsExact
calls_exact ws h cs s a = record {
  extends = λ v. extend ws [] h cs (start-keeps ws h s) a v;
  reads = λ v. spelled-fits v h.cells ws s.widths;
  told = λ v x. read v ws [] h cs (spelled_store v h.cells) (start-keeps ws h s) a (start-says v ws h s) x;
}

-- the first cells
fresh-below : (n w m : ℕ) → n + w ≤ m → LitsBelow m (fresh_lits n w)
fresh-below n zero m le = tt
fresh-below n (suc w) m le = (omega (arith, le), fresh-below (suc n) w m (omega (arith, le)))

first-below : (n m : ℕ) (ws : List ℕ) → n + sum_of ws ≤ m → CellsBelow m (fresh_cells n ws)
first-below n m [] le = tt
first-below n m (w ∷ ws) le = (fresh-below n w m (omega (arith, le)), first-below (n + w) m ws (omega (arith, le)))

pub new_starts : NewStarts
new_starts old ws sizes = record {
  sizes = sizes;
  widths = fresh-widths (above_all 0 old) ws;
  below = first-below (above_all 0 old) (above_all 0 old + sum_of ws) ws (omega arith);
  one = refl;
  done = refl;
}

-- terms to which the done ones belong, after calls
abbrev terms-left : List Call → List Term → List Term
terms-left [] us = us
terms-left (c ∷ cs) us = terms-left cs (terms_after c us)

keeps-after : (ws : List ℕ) (us : List Term) (h : Held) (cs ds : List Call) → Keeps Below ws us h → AllMay ws us h (cs ++ ds)
    → Keeps Below ws (terms-left cs us) (held_after ws h cs) × AllMay ws (terms-left cs us) (held_after ws h cs) ds
keeps-after ws us h [] ds k a = (k, a)
keeps-after ws us h (c ∷ cs) ds k a = keeps-after ws (terms_after c us) (made_by ws c h).held cs ds (steps-below ws us h c k a.0).keeps a.1

clauses-join : (ws : List ℕ) (h : Held) (cs ds : List Call) → clauses_by ws h (cs ++ ds) ≡ clauses_by ws h cs ++ clauses_by ws (held_after ws h cs) ds
clauses-join ws h [] ds = refl
clauses-join ws h (c ∷ cs) ds =
    let m = made_by ws c h in
    ap (λ (t : List (List Lit)). net_clauses h.next m.defs ++ t) (clauses-join ws m.held cs ds)
    ∙ sym (append_assoc (net_clauses h.next m.defs) (clauses_by ws m.held cs) (clauses_by ws (held_after ws m.held cs) ds))

pub renew_starts : RenewStarts
renew_starts ws h before after s a =
    let r = keeps-after ws [] h before (Renew ∷ after) (start-keeps ws h s) a in
    let g = held_after ws h before in
    let st : IsStart ws (renew_of g) = record {
      sizes = s.sizes;
      widths = r.0.widths;
      below = ok-cells g.next g.cells r.0.cells;
      one = refl;
      done = refl;
    } in
    (st, calls_exact ws (renew_of g) after st r.1.1, clauses-join ws h before (Renew ∷ after))

-- any store is spelled by some values of the first cells
abbrev pub set-bits : (ℕ → Bool) → ℕ → ℕ → ℕ → (ℕ → Bool)
set-bits v n zero x = v
set-bits v n (suc w) x = changed (set-bits v (suc n) w (x / 2)) n (x % 2 == 1)

pub set-other : (v : ℕ → Bool) (n w x k : ℕ) → (k < n) ⊎ (n + w ≤ k) → set-bits v n w x k ≡ v k
set-other v n zero x k o = refl
set-other v n (suc w) x k o =
    ap (λ (t : Bool). cond t (x % 2 == 1) (set-bits v (suc n) w (x / 2) k)) (ne_eqb n k (λ e. apart e o)) ∙ set-other v (suc n) w (x / 2) k (further o)
  where
    apart : n ≡ k → (k < n) ⊎ (n + suc w ≤ k) → ⊥
    apart e (inl lt) = omega (arith, e, lt)
    apart e (inr le) = omega (arith, e, le)

    further : (k < n) ⊎ (n + suc w ≤ k) → (k < suc n) ⊎ (suc n + w ≤ k)
    further (inl lt) = inl (omega (arith, lt))
    further (inr le) = inr (omega (arith, le))

pub number-same : (v w : ℕ → Bool) (n k : ℕ) → ((j : ℕ) → n ≤ j → j < n + k → w j ≡ v j) → number w (fresh_lits n k) ≡ number v (fresh_lits n k)
number-same v w n zero h = refl
number-same v w n (suc k) h =
    let b : bit (w n) ≡ bit (v n) = ap bit (h n (omega arith) (omega arith)) in
    let i = number-same v w (suc n) k (λ j le lt. h j (omega (arith, le)) (omega (arith, lt))) in
    omega (arith, b, i)

pub set-number : (v : ℕ → Bool) (n w x : ℕ) → x < 2 ^ w → number (set-bits v n w x) (fresh_lits n w) ≡ x
set-number v n zero x lt = omega (arith, lt)
set-number v n (suc w) x lt =
    let e : 2 ^ suc w ≡ 2 * 2 ^ w = pow-succ' 2 w in
    let q : x / 2 < 2 ^ w = omega (arith, e, lt) in
    let u = set-bits v (suc n) w (x / 2) in
    let i = set-number v (suc n) w (x / 2) q in
    let s = number-same u (set-bits v n (suc w) x) (suc n) w (λ j le less. ap (λ (t : Bool). cond t (x % 2 == 1) (u j)) (ne_eqb n j (λ g. omega (arith, g, le)))) in
    let h : set-bits v n (suc w) x n ≡ (x % 2 == 1) = ap (λ (t : Bool). cond t (x % 2 == 1) (u n)) (eq-eqb n n refl) in
    let b : bit (set-bits v n (suc w) x n) ≡ x % 2 = ap bit h ∙ low (x % 2 == 1) refl in
    omega (arith, i, s, b)
  where
    low : (t : Bool) → (x % 2 == 1) ≡ t → bit t ≡ x % 2
    low true e = sym (eqb-true (x % 2) 1 e)
    low false e = let ne : x % 2 ≡ 1 → ⊥ = λ g. false≢true (sym e ∙ eq-eqb (x % 2) 1 g) in omega (arith, ne)

spell : (ws store : List ℕ) (n : ℕ) (v : ℕ → Bool) → IsStore ws store → length store ≡ length ws
    → (w : ℕ → Bool) × (map (number w) (fresh_cells n ws) ≡ store) × ((k : ℕ) → k < n → w k ≡ v k) × ((k : ℕ) → n + sum_of ws ≤ k → w k ≡ v k)
spell [] [] n v s e = (v, refl, λ k lt. refl, λ k le. refl)
spell [] (x ∷ store) n v s e = absurd (omega (arith, e))
spell (a ∷ ws) [] n v s e = absurd (omega (arith, e))
spell (a ∷ ws) (x ∷ store) n v s e =
    let u = set-bits v n a x in
    let (w, is, low, high) = spell ws store (n + a) u (λ c lt. s (suc c) (omega (arith, lt))) (omega (arith, e)) in
    let first : number w (fresh_lits n a) ≡ x = number-same u w n a (λ j le lt. low j lt) ∙ set-number v n a x (s 0 (omega arith)) in (
      w,
      ap (λ (t : ℕ). t ∷ map (number w) (fresh_cells (n + a) ws)) first ∙ ap (λ (t : List ℕ). x ∷ t) is,
      λ k lt. low k (omega (arith, lt)) ∙ set-other v n a x k (inl lt),
      λ k le. high k (omega (arith, le)) ∙ set-other v n a x k (inr (omega (arith, le))),
    )

pub stores_spelled : StoresSpelled
stores_spelled old ws store s e v =
    let (w, is, low, high) = spell ws store (above_all 0 old) v s e in
    (w, is, low, high)

pub truths_read : TruthsRead
truths_read v table store t l e = (
  λ h. let b : bit (lit_value v l) ≡ 1 = ap bit h in omega (arith, e, b),
  λ h. by (lit_value v l) refl (let b : bit (lit_value v l) ≡ 1 = omega (arith, e, h) in b),
)
  where
    by : (b : Bool) → lit_value v l ≡ b → bit (lit_value v l) ≡ 1 → lit_value v l ≡ true
    by true q g = q
    by false q g = absurd (let z : bit (lit_value v l) ≡ 0 = ap bit q in omega (arith, g, z))
