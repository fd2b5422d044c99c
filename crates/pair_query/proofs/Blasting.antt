-- Terms blasted one after another, and literals pushed one after another.
use Rattle.std.specs.Prelude.{IfErr, MatchResult}
use Rattle.std.proofs.Common.{◌≡◌, ℕ, ◌+◌, ◌≤◌, ◌<◌, Result, Ok, Err, map, subst, length, List, [], ◌∷◌, ◌++◌, drop, get_or, arith, ap, sym, ◌∙◌, refl, suc, zero, append_assoc}
use Rattle.std.proofs.lemmas.List.{drop_more, append-nil}
use Rattle.prop.specs.declared.Lit.{Lit}
use Rattle.prop.specs.declared.BlastFail.{BlastFail}
use Rattle.prop.specs.declared.BlastFail.TheVariants.{Memory}
use Rattle.prop.specs.Logic.{count, negated, OnFail}
use Rattle.bit_gates.specs.Cut.{Cut}
use Rattle.bit_gates.specs.Net.{net_clauses}
use Rattle.bit_gates.proofs.Refusals.{first_cut, memory_whole, pushed_cut}
use Rattle.bv_term.specs.declared.term.TermId.{TermId}
use Rattle.bv_term.specs.WellFormed.{Table}
use Rattle.bit_blast.specs.Held.{Held, blast_of, fresh_of}
use Rattle.pair_query.specs.Pairs.{Row, blasted_each, closing, units}
use Rattle.pair_query.proofs.Underway.{Underway, underway_cut, underway_end, underway_start, underway_turn}

-- what is left to be blasted from the term number i on, and what is there already, make the whole
pub record Rest (table : Table) (first h : Held) (ts : List TermId) (i : ℕ) (old now : List (List Lit)) (got : List Lit) : Type 0 where
  pub adds : Underway old (blasted_each table ts first).clauses now (blasted_each table (drop i ts) h).clauses
  pub gives : (blasted_each table ts first).lits ≡ got ++ (blasted_each table (drop i ts) h).lits
  pub holds : (blasted_each table ts first).held ≡ (blasted_each table (drop i ts) h).held

pub rest_start : (table : Table) (h : Held) (ts : List TermId) (now : List (List Lit)) → Rest table h h ts 0 now now []
rest_start table h ts now = record { adds = underway_start now (blasted_each table ts h).clauses; gives = refl; holds = refl }

-- the term number i comes first in what is left
next-is : (table : Table) (h : Held) (ts : List TermId) (i : ℕ) (t d : TermId) → i < length ts → t ≡ get_or ts i d
    → blasted_each table (drop i ts) h ≡ blasted_each table (t ∷ drop (i + 1) ts) h
next-is table h ts i t d lt et =
    ap (λ (xs : List TermId). blasted_each table xs h) (drop_more ts i d lt ∙ ap (λ (x : TermId). x ∷ drop (i + 1) ts) (sym et))

pub rest_turn : (table : Table) (first h h2 : Held) (ts : List TermId) (i : ℕ) (old now new : List (List Lit)) (lits more : List Lit) (t d : TermId) (l : Lit)
    → i < length ts → t ≡ get_or ts i d → new ≡ now ++ net_clauses h.next (blast_of table t.0 h).defs → l ∷ [] ≡ (blast_of table t.0 h).outs
    → h2 ≡ (blast_of table t.0 h).held → more ≡ lits ++ l ∷ []
    → Rest table first h ts i old now lits → Rest table first h2 ts (i + 1) old new more
rest_turn table first h h2 ts i old now new lits more t d l lt et ec eo eh em r =
    let m = blast_of table t.0 h in
    let n = next-is table h ts i t d lt et in
    let s = blasted_each table (drop (i + 1) ts) m.held in
    let s2 = blasted_each table (drop (i + 1) ts) h2 in
    let q : s ≡ s2 = ap (λ (x : Held). blasted_each table (drop (i + 1) ts) x) (sym eh) in
    record {
      adds = underway_turn old (blasted_each table ts first).clauses now new (blasted_each table (drop i ts) h).clauses (net_clauses h.next m.defs) s2.clauses
          (ap (λ (x : Row). x.clauses) n ∙ ap (λ (x : Row). net_clauses h.next m.defs ++ x.clauses) q) ec r.adds;
      gives = r.gives ∙ (ap (λ (x : Row). lits ++ x.lits) n ∙ (ap (λ (x : List Lit). lits ++ (x ++ s.lits)) (sym eo)
          ∙ (sym (append_assoc lits (l ∷ []) s.lits) ∙ (ap (λ (x : List Lit). x ++ s.lits) (sym em) ∙ ap (λ (x : Row). more ++ x.lits) q))));
      holds = r.holds ∙ (ap (λ (x : Row). x.held) n ∙ ap (λ (x : Row). x.held) q);
    }

-- the term number i is cut off, or memory runs out behind it
pub rest_cut : (table : Table) (first h : Held) (ts : List TermId) (i : ℕ) (old now new : List (List Lit)) (got : List Lit) (t d : TermId) (e : BlastFail)
    → i < length ts → t ≡ get_or ts i d → Cut e now (net_clauses h.next (blast_of table t.0 h).defs) new
    → Rest table first h ts i old now got → Cut e old (blasted_each table ts first).clauses new
rest_cut table first h ts i old now new got t d e lt et cut r =
    let m = blast_of table t.0 h in
    underway_cut e old (blasted_each table ts first).clauses now new (blasted_each table (drop i ts) h).clauses (net_clauses h.next m.defs)
    (blasted_each table (drop (i + 1) ts) m.held).clauses (ap (λ (x : Row). x.clauses) (next-is table h ts i t d lt et)) cut r.adds

pub rest_memory : (table : Table) (first h : Held) (ts : List TermId) (i : ℕ) (old now new : List (List Lit)) (got : List Lit) (t d : TermId)
    → i < length ts → t ≡ get_or ts i d → new ≡ now ++ net_clauses h.next (blast_of table t.0 h).defs
    → Rest table first h ts i old now got → Cut Memory old (blasted_each table ts first).clauses new
rest_memory table first h ts i old now new got t d lt et ec r =
    let m = blast_of table t.0 h in
    rest_cut table first h ts i old now new got t d Memory lt et (memory_whole Memory now (net_clauses h.next m.defs) new refl ec) r

past-end : {A : Type 0} (xs : List A) (i : ℕ) → length xs ≤ i → drop i xs ≡ []
past-end [] zero le = refl
past-end [] (suc i) le = refl
past-end (x ∷ xs) zero le = absurd (omega (arith, le))
past-end (x ∷ xs) (suc i) le = past-end xs i (omega (arith, le))

pub rest_end : (table : Table) (first h : Held) (ts : List TermId) (i : ℕ) (old now : List (List Lit)) (lits : List Lit)
    → length ts ≤ i → Rest table first h ts i old now lits
    → (now ≡ old ++ (blasted_each table ts first).clauses) × (lits ≡ (blasted_each table ts first).lits) × (h ≡ (blasted_each table ts first).held)
rest_end table first h ts i old now lits le r =
    let n : blasted_each table (drop i ts) h ≡ blasted_each table [] h = ap (λ (xs : List TermId). blasted_each table xs h) (past-end ts i le) in (
      underway_end old (blasted_each table ts first).clauses now (blasted_each table (drop i ts) h).clauses (ap (λ (x : Row). x.clauses) n) r.adds,
      sym (r.gives ∙ (ap (λ (x : Row). lits ++ x.lits) n ∙ append-nil lits)),
      sym (r.holds ∙ ap (λ (x : Row). x.held) n),
    )

-- the cells keep their literals
pub cells_stay : (table : Table) (ts : List TermId) (h : Held) → (blasted_each table ts h).held.cells ≡ h.cells
cells_stay table [] h = refl
cells_stay table (t ∷ ts) h = cells_stay table ts (blast_of table t.0 h).held

-- one clause more
unit-is : (ls : List Lit) (i : ℕ) (l d : Lit) → i < length ls → l ≡ get_or ls i d → units (drop i ls) ≡ ((l ∷ []) ∷ []) ++ units (drop (i + 1) ls)
unit-is ls i l d lt el = ap units (drop_more ls i d lt ∙ ap (λ (x : Lit). x ∷ drop (i + 1) ls) (sym el))

pub unit_turn : (ls : List Lit) (i : ℕ) (old now new : List (List Lit)) (l d : Lit) → i < length ls → l ≡ get_or ls i d
    → Underway old (units ls) now (units (drop i ls)) → new ≡ now ++ (l ∷ []) ∷ [] → Underway old (units ls) new (units (drop (i + 1) ls))
unit_turn ls i old now new l d lt el u e =
    underway_turn old (units ls) now new (units (drop i ls)) ((l ∷ []) ∷ []) (units (drop (i + 1) ls)) (unit-is ls i l d lt el) e u

-- the clause that comes next is refused
pub unit_cut : (ls : List Lit) (i : ℕ) (old now new : List (List Lit)) (l d : Lit) (e : BlastFail) → i < length ls → l ≡ get_or ls i d
    → Underway old (units ls) now (units (drop i ls)) → OnFail e (67108864 < count now + length (l ∷ [])) (count now + length (l ∷ [])) → new ≡ now
    → Cut e old (units ls) new
unit_cut ls i old now new l d e lt el u fail same =
    underway_cut e old (units ls) now new (units (drop i ls)) ((l ∷ []) ∷ []) (units (drop (i + 1) ls)) (unit-is ls i l d lt el)
    (pushed_cut e now [] now new (l ∷ []) (sym (append-nil now)) fail same) u

pub unit_end : (ls : List Lit) (i : ℕ) (old now : List (List Lit)) → length ls ≤ i → Underway old (units ls) now (units (drop i ls)) → now ≡ old ++ units ls
unit_end ls i old now le u = underway_end old (units ls) now (units (drop i ls)) (ap units (past-end ls i le)) u

-- one of the literals is false, where there is one, and where there is none
pub closing_some : (ls : List Lit) (h : Held) (fails : List Lit) → 0 < length ls → fails ≡ map negated ls → closing ls h ≡ [] ++ fails ∷ []
closing_some [] h fails some is = absurd (omega (arith, some))
closing_some (l ∷ ls) h fails some is = ap (λ (c : List Lit). c ∷ []) (sym is)

pub closing_none : (ls : List Lit) (h : Held) (never fails : List Lit) → length ls ≡ 0 → never ≡ (fresh_of 1 h).outs → fails ≡ map negated never
    → closing ls h ≡ (never ∷ []) ++ fails ∷ []
closing_none [] h never fails none is complements =
    ap (λ (c : List Lit). c ∷ map negated c ∷ []) (sym is) ∙ ap (λ (c : List Lit). never ∷ c ∷ []) (sym complements)
closing_none (l ∷ ls) h never fails none is complements = absurd (omega (arith, none))

-- a clause that is refused behind others
pub pushed_off : {A : Type 0} (r : Result A BlastFail) (Ok_says : A → Type 0) (old a cur new whole : List (List Lit)) (c : List Lit) → cur ≡ old ++ a → whole ≡ a ++ c ∷ []
    → MatchResult r Ok_says (λ e. OnFail e (67108864 < count cur + length c) (count cur + length c) × (new ≡ cur)) → IfErr r (λ e. Cut e old whole new)
pushed_off (Ok x) says old a cur new whole c is all h = tt
pushed_off (Err e) says old a cur new whole c is all h =
    subst (λ (x : List (List Lit)). Cut e old x new) (sym all) (pushed_cut e old a cur new c is h.0 h.1)

-- the first of two clauses is refused
pub first_off : (e : BlastFail) (old new whole : List (List Lit)) (one two : List Lit) → whole ≡ (one ∷ []) ++ two ∷ []
    → OnFail e (67108864 < count old + length one) (count old + length one) → new ≡ old → Cut e old whole new
first_off e old new whole one two all fail same =
    subst (λ (x : List (List Lit)). Cut e old x new) (sym all)
    (first_cut e old (one ∷ []) (two ∷ []) new (pushed_cut e old [] old new one (sym (append-nil old)) fail same))
