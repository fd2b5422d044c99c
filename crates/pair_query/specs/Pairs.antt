-- The clauses of a pair of labels.
use Rattle.std.specs.Prelude.{List, [], ◌∷◌, ◌++◌, map}
use Rattle.prop.specs.declared.Lit.{Lit}
use Rattle.prop.specs.Logic.{negated}
use Rattle.bit_gates.specs.Net.{net_clauses}
use Rattle.bv_term.specs.declared.term.TermId.{TermId}
use Rattle.bv_term.specs.WellFormed.{Table}
use Rattle.bit_blast.specs.Held.{Held, blast_of, fresh_of}

-- clauses that are added, literals, and what is held then
pub record Row : Type 0 where
  pub clauses : List (List Lit)
  pub lits : List Lit
  pub held : Held

-- terms of one bit, one after another, with the literal of each
abbrev pub blasted_each : Table → List TermId → Held → Row
blasted_each table [] h = record { clauses = []; lits = []; held = h }
blasted_each table (t ∷ ts) h =
    let m = blast_of table t.0 h in
    let r = blasted_each table ts m.held in
    record { clauses = net_clauses h.next m.defs ++ r.clauses; lits = m.outs ++ r.lits; held = r.held }

-- each literal is true
abbrev pub units : List Lit → List (List Lit)
units [] = []
units (l ∷ ls) = (l ∷ []) ∷ units ls

-- one of the literals is false; where there is none, a literal and its complement are true
abbrev pub closing : List Lit → Held → List (List Lit)
closing [] h = (fresh_of 1 h).outs ∷ map negated (fresh_of 1 h).outs ∷ []
closing (l ∷ ls) h = map negated (l ∷ ls) ∷ []

-- each conjunct of the first label holds, and one of the second fails
abbrev pub pair_says : Table → List TermId → List TermId → Held → List (List Lit)
pair_says table left right h =
    let a = blasted_each table left h in
    let b = blasted_each table right a.held in
    ((a.clauses ++ units a.lits) ++ b.clauses) ++ closing b.lits b.held
