-- An operation's clauses, from those of its parts.
use Rattle.std.proofs.Common.{◌≡◌, ℕ, ◌+◌, ◌<◌, length, List, [], ◌∷◌, ◌++◌, ap, ◌∙◌, subst, append_assoc}
use Rattle.prop.specs.declared.Lit.{Lit}
use Rattle.prop.specs.declared.BlastFail.{BlastFail}
use Rattle.prop.specs.Logic.{count, OnFail}
use Rattle.bit_gates.specs.Cut.{Cut}
use Rattle.bit_gates.specs.Net.{net_clauses}
use Rattle.bit_gates.proofs.Cuts.{cut_more}
use Rattle.bv_term.specs.WellFormed.{Table}
use Rattle.bit_blast.specs.Held.{Held, Made, blast_of, store_of}
use Rattle.path_formula.specs.Added.{assumed, stored_at}
use Rattle.bit_gates.proofs.Refusals.{first_cut, last_cut, pushed_cut}

pub assumed_whole : (table : Table) (t : ℕ) (h : Held) (old cur new : List (List Lit)) (l : Lit)
    → cur ≡ old ++ net_clauses h.next (blast_of table t h).defs → l ∷ [] ≡ (blast_of table t h).outs → new ≡ cur ++ (l ∷ []) ∷ []
    → new ≡ old ++ (assumed table t h).clauses
assumed_whole table t h old cur new l ec el en =
    let a = net_clauses h.next (blast_of table t h).defs in
    en ∙ (ap (λ (x : List (List Lit)). x ++ (l ∷ []) ∷ []) ec ∙ (append_assoc old a ((l ∷ []) ∷ []) ∙ ap (λ (x : List Lit). old ++ (a ++ x ∷ [])) el))

pub stored_whole : (table : Table) (first n i t : ℕ) (h h1 h2 h3 : Held) (old c1 c2 c3 : List (List Lit)) (xs ys : List Lit)
    → c1 ≡ old ++ net_clauses h.next (blast_of table i h).defs → xs ≡ (blast_of table i h).outs → h1 ≡ (blast_of table i h).held
    → c2 ≡ c1 ++ net_clauses h1.next (blast_of table t h1).defs → ys ≡ (blast_of table t h1).outs → h2 ≡ (blast_of table t h1).held
    → c3 ≡ c2 ++ net_clauses h2.next (store_of first n xs ys h2).defs → h3 ≡ (store_of first n xs ys h2).held
    → (c3 ≡ old ++ (stored_at table first n i t h).clauses) × (h3 ≡ (stored_at table first n i t h).held)
stored_whole table first n i t h h1 h2 h3 old c1 c2 c3 xs ys e1 ex g1 e2 ey g2 e3 g3 =
    let a = blast_of table i h in
    let b = blast_of table t a.held in
    let s = store_of first n a.outs b.outs b.held in
    let eb : blast_of table t h1 ≡ b = ap (λ (x : Held). blast_of table t x) g1 in
    let eh : h2 ≡ b.held = g2 ∙ ap (λ (m : Made). m.held) eb in
    let eo : ys ≡ b.outs = ey ∙ ap (λ (m : Made). m.outs) eb in
    let es : store_of first n xs ys h2 ≡ s
    = ap (λ (x : List Lit). store_of first n x ys h2) ex ∙ (ap (λ (x : List Lit). store_of first n a.outs x h2) eo ∙ ap (λ (x : Held). store_of first n a.outs b.outs x) eh) in
    let A = net_clauses h.next a.defs in
    let B = net_clauses a.held.next b.defs in
    let S = net_clauses b.held.next s.defs in
    let nb : net_clauses h1.next (blast_of table t h1).defs ≡ B
    = ap (λ (x : Held). net_clauses x.next (blast_of table t h1).defs) g1 ∙ ap (λ (m : Made). net_clauses a.held.next m.defs) eb in
    let ns : net_clauses h2.next (store_of first n xs ys h2).defs ≡ S
    = ap (λ (x : Held). net_clauses x.next (store_of first n xs ys h2).defs) eh ∙ ap (λ (m : Made). net_clauses b.held.next m.defs) es in
    let q2 : c2 ≡ (old ++ A) ++ B = e2 ∙ (ap (λ (x : List (List Lit)). x ++ net_clauses h1.next (blast_of table t h1).defs) e1 ∙ ap (λ (x : List (List Lit)). (old ++ A) ++ x) nb) in
    let q3 : c3 ≡ ((old ++ A) ++ B) ++ S
    = e3 ∙ (ap (λ (x : List (List Lit)). x ++ net_clauses h2.next (store_of first n xs ys h2).defs) q2 ∙ ap (λ (x : List (List Lit)). ((old ++ A) ++ B) ++ x) ns) in
    let z : ((old ++ A) ++ B) ++ S ≡ old ++ (A ++ (B ++ S))
    = append_assoc (old ++ A) B S ∙ append_assoc old A (B ++ S) in
    (q3 ∙ z, g3 ∙ ap (λ (m : Made). m.held) es)

-- a part of a store that is refused refuses the whole
pub stored_first : (table : Table) (first n i t : ℕ) (h : Held) (old c1 : List (List Lit)) (e : BlastFail)
    → Cut e old (net_clauses h.next (blast_of table i h).defs) c1 → Cut e old (stored_at table first n i t h).clauses c1
stored_first table first n i t h old c1 e c = first_cut e old (net_clauses h.next (blast_of table i h).defs) _ c1 c

pub stored_second : (table : Table) (first n i t : ℕ) (h h1 : Held) (old c1 c2 : List (List Lit)) (e : BlastFail)
    → c1 ≡ old ++ net_clauses h.next (blast_of table i h).defs → h1 ≡ (blast_of table i h).held
    → Cut e c1 (net_clauses h1.next (blast_of table t h1).defs) c2 → Cut e old (stored_at table first n i t h).clauses c2
stored_second table first n i t h h1 old c1 c2 e e1 g1 c =
    let a = blast_of table i h in
    let b = blast_of table t a.held in
    let s = store_of first n a.outs b.outs b.held in
    cut_more e old (net_clauses h.next a.defs) (net_clauses a.held.next b.defs) (net_clauses b.held.next s.defs) c1 c2 e1
    (subst (λ (x : Held). Cut e c1 (net_clauses x.next (blast_of table t x).defs) c2) g1 c)

pub stored_third : (table : Table) (first n i t : ℕ) (h h1 h2 : Held) (old c1 c2 c3 : List (List Lit)) (xs ys : List Lit) (e : BlastFail)
    → c1 ≡ old ++ net_clauses h.next (blast_of table i h).defs → xs ≡ (blast_of table i h).outs → h1 ≡ (blast_of table i h).held
    → c2 ≡ c1 ++ net_clauses h1.next (blast_of table t h1).defs → ys ≡ (blast_of table t h1).outs → h2 ≡ (blast_of table t h1).held
    → Cut e c2 (net_clauses h2.next (store_of first n xs ys h2).defs) c3 → Cut e old (stored_at table first n i t h).clauses c3
stored_third table first n i t h h1 h2 old c1 c2 c3 xs ys e e1 ex g1 e2 ey g2 c =
    let a = blast_of table i h in
    let b = blast_of table t a.held in
    let s = store_of first n a.outs b.outs b.held in
    let eb : blast_of table t h1 ≡ b = ap (λ (x : Held). blast_of table t x) g1 in
    let eh : h2 ≡ b.held = g2 ∙ ap (λ (m : Made). m.held) eb in
    let eo : ys ≡ b.outs = ey ∙ ap (λ (m : Made). m.outs) eb in
    let d1 : Cut e c2 (net_clauses b.held.next (store_of first n xs ys b.held).defs) c3
    = subst (λ (x : Held). Cut e c2 (net_clauses x.next (store_of first n xs ys x).defs) c3) eh c in
    let d2 : Cut e c2 (net_clauses b.held.next (store_of first n a.outs ys b.held).defs) c3
    = subst (λ (x : List Lit). Cut e c2 (net_clauses b.held.next (store_of first n x ys b.held).defs) c3) ex d1 in
    let d3 : Cut e c2 (net_clauses b.held.next s.defs) c3
    = subst (λ (x : List Lit). Cut e c2 (net_clauses b.held.next (store_of first n a.outs x b.held).defs) c3) eo d2 in
    let A = net_clauses h.next a.defs in
    let B = net_clauses a.held.next b.defs in
    let nb : net_clauses h1.next (blast_of table t h1).defs ≡ B
    = ap (λ (x : Held). net_clauses x.next (blast_of table t h1).defs) g1 ∙ ap (λ (m : Made). net_clauses a.held.next m.defs) eb in
    last_cut e old A (B ++ net_clauses b.held.next s.defs) c1 c3 e1
    (last_cut e c1 B (net_clauses b.held.next s.defs) c2 c3 (e2 ∙ ap (λ (x : List (List Lit)). c1 ++ x) nb) d3)

-- the literal's clause is refused
pub assumed_cut : (table : Table) (t : ℕ) (h : Held) (old cur new : List (List Lit)) (l : Lit) (e : BlastFail)
    → cur ≡ old ++ net_clauses h.next (blast_of table t h).defs → l ∷ [] ≡ (blast_of table t h).outs
    → OnFail e (67108864 < count cur + length (l ∷ [])) (count cur + length (l ∷ [])) → new ≡ cur → Cut e old (assumed table t h).clauses new
assumed_cut table t h old cur new l e ec el f same =
    let a = net_clauses h.next (blast_of table t h).defs in
    subst (λ (x : List Lit). Cut e old (a ++ x ∷ []) new) el (pushed_cut e old a cur new (l ∷ []) ec f same)
