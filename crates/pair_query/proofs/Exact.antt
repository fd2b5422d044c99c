-- What the clauses of a pair say.
use Rattle.std.proofs.Common.{◌≡◌, ℕ, ◌+◌, Bool, true, false, not, List, [], ◌∷◌, ◌++◌, length, refl, sym, ap, ◌∙◌, subst, map, Some, ◌↔◌, inl, inr, ◌&&◌, ◌||◌, append_assoc}
use Rattle.std.proofs.lemmas.Bool.{false≢true, cases_Bool}
use Rattle.std.proofs.lemmas.List.{append-nil}
use Rattle.std.proofs.lemmas.List.Elements.{All-head, All-tail, All-nil, All-cons, All-append}
use Rattle.prop.specs.declared.Lit.{Lit}
use Rattle.prop.specs.Logic.{all_hold, clause_holds, lit_value, negated}
use Rattle.bit_gates.specs.Net.{net_clauses, number}
use Rattle.bit_gates.proofs.Nets.{all_hold-append, value-negated}
use Rattle.bv_term.specs.declared.term.Term.{Term}
use Rattle.bv_term.specs.declared.term.TermId.{TermId}
use Rattle.bv_term.specs.WellFormed.{Table, IsTable}
use Rattle.bv_term.specs.Values.{Holds}
use Rattle.c_graph.specs.Shape.{HasWidth}
use Rattle.bit_blast.specs.Held.{Held, begun, blast_of, new_of, IsOver}
use Rattle.bit_blast.proofs.Cones.{blast-over}
use Rattle.blast_laws.specs.Calls.{Call, Blast, AllMay, IsStart, Told, clauses_by}
use Rattle.blast_laws.specs.Laws.{IsExact}
use Rattle.blast_laws.proofs.Runs.{calls_exact, new_starts, stores_spelled, truths_read}
use Rattle.blast_laws.proofs.Spelling.{single, start_over, store_agrees}
use Rattle.pair_query.specs.Pairs.{Row, blasted_each, closing, units}
use Rattle.pair_query.specs.Laws.{AllHold, AreBits, AreRefuted, IsStoreOf, PairExact, PairRead, pair_of, store_read}

-- all literals are true
abbrev all_true : (ℕ → Bool) → List Lit → Bool
all_true v [] = true
all_true v (l ∷ ls) = lit_value v l && all_true v ls

and_both : (a b : Bool) → a && b ≡ true → (a ≡ true) × (b ≡ true)
and_both true true e = (refl, refl)
and_both true false e = absurd cc
and_both false b e = absurd cc

and_of : (a b : Bool) → a ≡ true → b ≡ true → a && b ≡ true
and_of a b ea eb = rw (ea, eb) refl

units_hold : (v : ℕ → Bool) (ls : List Lit) → all_hold v (units ls) ≡ all_true v ls
units_hold v [] = refl
units_hold v (l ∷ ls) = first (lit_value v l) (all_hold v (units ls)) (all_true v ls) (units_hold v ls)
  where
    first : (a b c : Bool) → b ≡ c → (a || false) && b ≡ a && c
    first true b c e = e
    first false b c e = refl

some_fails : (v : ℕ → Bool) (ls : List Lit) → clause_holds v (map negated ls) ≡ not (all_true v ls)
some_fails v [] = refl
some_fails v (l ∷ ls) =
    first (lit_value v l) (lit_value v (negated l)) (clause_holds v (map negated ls)) (all_true v ls) (value-negated v l) (some_fails v ls)
  where
    first : (a n b c : Bool) → n ≡ not a → b ≡ not c → n || b ≡ not (a && c)
    first true n b c e f = rw e f
    first false n b c e f = rw e refl

module _ (table : Table) (is : IsTable table) where
  abbrev start : Held
  start = new_of [] table.cells

  starts : IsStart table.cells start
  starts = new_starts [] table.cells is.cells

  abbrev calls_of : List TermId → List Call
  calls_of [] = []
  calls_of (t ∷ ts) = Blast table.terms t.0 ∷ calls_of ts

  clauses_calls : (ts : List TermId) (h : Held) → clauses_by table.cells h (calls_of ts) ≡ (blasted_each table ts h).clauses
  clauses_calls [] h = refl
  clauses_calls (t ∷ ts) h =
      ap (λ (cs : List (List Lit)). net_clauses h.next (blast_of table t.0 h).defs ++ cs) (clauses_calls ts (blast_of table t.0 h).held)

  may_all : (ts : List TermId) (h : Held) (us more : List Term) → table.terms ≡ us ++ more → AreBits table ts → AllMay table.cells us h (calls_of ts)
  may_all [] h us more e w = tt
  may_all (t ∷ ts) h us more e w =
      let P : TermId → Type 0 = λ t. HasWidth table t 1 in
      ((is, (more, e), (All-head P t ts w).0), may_all ts (blast_of table t.0 h).held table.terms [] (sym (append-nil table.terms)) (All-tail P t ts w))

  clauses_append : (ts us : List TermId) (h : Held)
      → (blasted_each table (ts ++ us) h).clauses ≡ (blasted_each table ts h).clauses ++ (blasted_each table us (blasted_each table ts h).held).clauses
  clauses_append [] us h = refl
  clauses_append (t ∷ ts) us h =
      let m = blast_of table t.0 h in
      let n = net_clauses h.next m.defs in
      ap (λ (cs : List (List Lit)). n ++ cs) (clauses_append ts us m.held)
      ∙ sym (append_assoc n (blasted_each table ts m.held).clauses (blasted_each table us (blasted_each table ts m.held).held).clauses)

  -- a term of one bit has one literal
  record One (t : TermId) (h : Held) : Type 0 where
    lit : Lit
    outs : (blast_of table t.0 h).outs ≡ lit ∷ []
    over : IsOver table (blast_of table t.0 h).held

  one_of : (t : TermId) (h : Held) → IsOver table h → HasWidth table t 1 → One t h
  one_of t h o wide =
      let b = begun h.next h.one in
      let m = blast_of table t.0 h in
      let over = blast-over table b.lit h.cells (h.next + length b.defs) h.next h.one (Some b.lit) h.done m.held.done t.0 is o wide.0 refl m.held.next in
      let long : length m.outs ≡ 1 = (over.0.done t.0 over.1).1 ∙ wide.1 in
      let x = single m.outs long in
      record { lit = x.0; outs = x.1; over = over.0 }

  -- each literal is true exactly where its term holds
  abbrev Each : (ℕ → Bool) → List ℕ → List TermId → List Lit → Type 0
  Each v s [] [] = Unit {0}
  Each v s [] (l ∷ ls) = ⊥
  Each v s (t ∷ ts) [] = ⊥
  Each v s (t ∷ ts) (l ∷ ls) = ((lit_value v l ≡ true) ↔ (Holds table s t)) × Each v s ts ls

  told_each : (ts : List TermId) (h : Held) (s : List ℕ) (v : ℕ → Bool) → IsOver table h → AreBits table ts → Told v table.cells h s (calls_of ts)
      → Each v s ts (blasted_each table ts h).lits
  told_each [] h s v o w told = tt
  told_each (t ∷ ts) h s v o w told =
      let P : TermId → Type 0 = λ t. HasWidth table t 1 in
      let m = blast_of table t.0 h in
      let one = one_of t h o (All-head P t ts w) in
      let rest = told_each ts m.held s v one.over (All-tail P t ts w) told.2 in
      subst (λ (ls : List Lit). Each v s (t ∷ ts) (ls ++ (blasted_each table ts m.held).lits)) (sym one.outs)
      (truths_read v table s t one.lit (ap (number v) (sym one.outs) ∙ told.1), rest)

  told_both : (ts us : List TermId) (h : Held) (s : List ℕ) (v : ℕ → Bool) → IsOver table h → AreBits table ts → AreBits table us
      → Told v table.cells h s (calls_of (ts ++ us))
      → Each v s ts (blasted_each table ts h).lits × Each v s us (blasted_each table us (blasted_each table ts h).held).lits
  told_both [] us h s v o w x told = (tt, told_each us h s v o x told)
  told_both (t ∷ ts) us h s v o w x told =
      let P : TermId → Type 0 = λ t. HasWidth table t 1 in
      let m = blast_of table t.0 h in
      let one = one_of t h o (All-head P t ts w) in
      let rest = told_both ts us m.held s v one.over (All-tail P t ts w) x told.2 in (
        subst (λ (ls : List Lit). Each v s (t ∷ ts) (ls ++ (blasted_each table ts m.held).lits)) (sym one.outs)
            (truths_read v table s t one.lit (ap (number v) (sym one.outs) ∙ told.1), rest.0),
        rest.1,
      )

  each_true : (v : ℕ → Bool) (s : List ℕ) (ts : List TermId) (ls : List Lit) → Each v s ts ls → (all_true v ls ≡ true) ↔ (AllHold table s ts)
  each_true v s [] [] e = ((λ h. All-nil (Holds table s)), (λ h. refl))
  each_true v s [] (l ∷ ls) e = absurd e
  each_true v s (t ∷ ts) [] e = absurd e
  each_true v s (t ∷ ts) (l ∷ ls) e =
      let r = each_true v s ts ls e.1 in (
        (λ h. let b = and_both (lit_value v l) (all_true v ls) h in All-cons (Holds table s) t ts (e.0.0 b.0) (r.0 b.1)),
        (λ h. and_of (lit_value v l) (all_true v ls) (e.0.1 (All-head (Holds table s) t ts h)) (r.1 (All-tail (Holds table s) t ts h))),
      )

  module _ (left right : List TermId) (lefts : AreBits table left) (rights : AreBits table right) where
    abbrev a : Row
    a = blasted_each table left start

    abbrev b : Row
    b = blasted_each table right a.held

    abbrev calls : List Call
    calls = calls_of (left ++ right)

    exact : IsExact table.cells start calls
    exact =
        calls_exact table.cells start calls starts
        (may_all (left ++ right) start [] table.terms refl (All-append (λ (t : TermId). HasWidth table t 1) left right lefts rights))

    emitted : clauses_by table.cells start calls ≡ a.clauses ++ b.clauses
    emitted = clauses_calls (left ++ right) start ∙ clauses_append left right start

    -- the four parts of the clauses
    parts : (v : ℕ → Bool) → all_hold v (pair_of table left right)
        ≡ ((all_hold v a.clauses && all_true v a.lits) && all_hold v b.clauses) && all_hold v (closing b.lits b.held)
    parts v =
        all_hold-append v ((a.clauses ++ units a.lits) ++ b.clauses) (closing b.lits b.held)
        ∙ ap (λ (x : Bool). x && all_hold v (closing b.lits b.held))
        (all_hold-append v (a.clauses ++ units a.lits) b.clauses
        ∙ ap (λ (x : Bool). x && all_hold v b.clauses) (all_hold-append v a.clauses (units a.lits) ∙ ap (λ (x : Bool). all_hold v a.clauses && x) (units_hold v a.lits)))

    said : (v : ℕ → Bool) → all_hold v a.clauses ≡ true → all_hold v b.clauses ≡ true
        → Each v (store_read table v) left a.lits × Each v (store_read table v) right b.lits
    said v ha hb =
        told_both left right start (store_read table v) v (start_over table start starts) lefts rights
        (exact.told v (ap (all_hold v) emitted ∙ (all_hold-append v a.clauses b.clauses ∙ and_of (all_hold v a.clauses) (all_hold v b.clauses) ha hb)))

    -- a closing clause holds exactly where some literal is false
    closes : (v : ℕ → Bool) (ls : List Lit) (h : Held) → all_hold v (closing ls h) ≡ true → all_true v ls ≡ true → ⊥
    closes v [] h held t =
        let l : Lit = record { var = h.next; positive = true } in
        clash (lit_value v l) (lit_value v (negated l)) (value-negated v l) held
      where
        clash : (x y : Bool) → y ≡ not x → ((x || false) && ((y || false) && true)) ≡ true → ⊥
        clash true true e k = false≢true (sym e)
        clash true false e k = false≢true k
        clash false y e k = false≢true k
    closes v (l ∷ ls) h held t =
        let e : (not (all_true v (l ∷ ls)) && true) ≡ true = ap (λ (x : Bool). x && true) (sym (some_fails v (l ∷ ls))) ∙ held in
        false≢true (ap (λ (x : Bool). not x && true) (sym t) ∙ e)

    pub read : (v : ℕ → Bool) → all_hold v (pair_of table left right) ≡ true
        → IsStoreOf table (store_read table v) × AllHold table (store_read table v) left × (AllHold table (store_read table v) right → ⊥)
    read v all =
        let h = sym (parts v) ∙ all in
        let (abc, d) = and_both ((all_hold v a.clauses && all_true v a.lits) && all_hold v b.clauses) (all_hold v (closing b.lits b.held)) h in
        let (ab, c) = and_both (all_hold v a.clauses && all_true v a.lits) (all_hold v b.clauses) abc in
        let (x, y) = and_both (all_hold v a.clauses) (all_true v a.lits) ab in
        let (l, r) = said v x c in
        let (s, n) = exact.reads v in (
          record { fits = s; whole = n },
          (each_true v (store_read table v) left a.lits l).0 y,
          (λ met. closes v b.lits b.held d ((each_true v (store_read table v) right b.lits r).1 met)),
        )

    -- a store that meets the first label meets the second, where no assignment satisfies the clauses
    pub implied : AreRefuted (pair_of table left right) → (store : List ℕ) → IsStoreOf table store → AllHold table store left → AllHold table store right
    implied refuted store whole met =
        let (v, is_store, low, high) = stores_spelled [] table.cells store whole.fits whole.whole (λ k. false) in
        let (w, agree, held) = exact.extends v in
        let same : store_read table w ≡ store = store_agrees v w start.next start.cells starts.below (λ k lt. agree k (inl lt)) ∙ is_store in
        let both : all_hold w a.clauses && all_hold w b.clauses ≡ true = sym (all_hold-append w a.clauses b.clauses) ∙ (ap (all_hold w) (sym emitted) ∙ held) in
        let (x, y) = and_both (all_hold w a.clauses) (all_hold w b.clauses) both in
        let (l, r) = said w x y in
        let on : all_true w a.lits ≡ true = (each_true w (store_read table w) left a.lits l).1 (subst (λ (s : List ℕ). AllHold table s left) (sym same) met) in
        elim (cases_Bool (all_true w b.lits)) [
          | inl yes' ↦ subst (λ (s : List ℕ). AllHold table s right) same ((each_true w (store_read table w) right b.lits r).0 yes')
          | inr no' ↦
              absurd (refuted w (parts w ∙ and_of ((all_hold w a.clauses && all_true w a.lits) && all_hold w b.clauses) (all_hold w (closing b.lits b.held))
              (and_of (all_hold w a.clauses && all_true w a.lits) (all_hold w b.clauses) (and_of (all_hold w a.clauses) (all_true w a.lits) x on) y)
              (lacks w b.lits b.held no')))
        ]
      where
        lacks : (w : ℕ → Bool) (ls : List Lit) (h : Held) → all_true w ls ≡ false → all_hold w (closing ls h) ≡ true
        lacks w [] h e = absurd (false≢true (sym e))
        lacks w (l ∷ ls) h e = ap (λ (x : Bool). x && true) (some_fails w (l ∷ ls) ∙ ap not e)

pub pair_exact : PairExact
pair_exact table left right is lefts rights = (
  implied table is left right lefts rights,
  (λ implies v all. let r = read table is left right lefts rights v all in r.2 (implies (store_read table v) r.0 r.1)),
)

pub pair_read : PairRead
pair_read table left right v is lefts rights all = read table is left right lefts rights v all
