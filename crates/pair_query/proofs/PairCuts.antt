-- A refused part of the clauses of a pair refuses the whole.
use Rattle.std.proofs.Common.{◌≡◌, Result, Ok, Err, List, [], ◌++◌, append_assoc, ap, ◌∙◌, subst}
use Rattle.std.specs.Prelude.{IfErr}
use Rattle.prop.specs.declared.Lit.{Lit}
use Rattle.prop.specs.declared.BlastFail.{BlastFail}
use Rattle.bit_gates.specs.Cut.{Cut}
use Rattle.bit_gates.proofs.Refusals.{first_cut, last_cut}
use Rattle.bv_term.specs.declared.term.TermId.{TermId}
use Rattle.bv_term.specs.WellFormed.{Table}
use Rattle.bit_blast.specs.Held.{Held, new_of}
use Rattle.pair_query.specs.Pairs.{Row, blasted_each, closing, pair_says, units}

module _ (table : Table) (left right : List TermId) (h : Held) where
  abbrev a : Row
  a = blasted_each table left h

  abbrev b : Row
  b = blasted_each table right a.held

  pub label_off : (e : BlastFail) (old new : List (List Lit)) → Cut e old a.clauses new → Cut e old (pair_says table left right h) new
  label_off e old new cut =
      first_cut e old ((a.clauses ++ units a.lits) ++ b.clauses) (closing b.lits b.held) new
      (first_cut e old (a.clauses ++ units a.lits) b.clauses new (first_cut e old a.clauses (units a.lits) new cut))

  pub units_off : (e : BlastFail) (old one new : List (List Lit)) (lits : List Lit) → one ≡ old ++ a.clauses → lits ≡ a.lits → Cut e one (units lits) new
      → Cut e old (pair_says table left right h) new
  units_off e old one new lits is are cut =
      first_cut e old ((a.clauses ++ units a.lits) ++ b.clauses) (closing b.lits b.held) new
      (first_cut e old (a.clauses ++ units a.lits) b.clauses new
      (last_cut e old a.clauses (units a.lits) one new is (subst (λ (x : List Lit). Cut e one (units x) new) are cut)))

  -- both parts of the first label are added
  label_there : (old one two : List (List Lit)) (lits : List Lit) → one ≡ old ++ a.clauses → lits ≡ a.lits → two ≡ one ++ units lits
      → two ≡ old ++ (a.clauses ++ units a.lits)
  label_there old one two lits is are more =
      more ∙ (ap (λ (x : List Lit). one ++ units x) are ∙ (ap (λ (x : List (List Lit)). x ++ units a.lits) is ∙ append_assoc old a.clauses (units a.lits)))

  pub others_off : (e : BlastFail) (old one two new : List (List Lit)) (lits : List Lit) (held : Held) → one ≡ old ++ a.clauses → lits ≡ a.lits → two ≡ one ++ units lits
      → held ≡ a.held → Cut e two (blasted_each table right held).clauses new → Cut e old (pair_says table left right h) new
  others_off e old one two new lits held is are more same cut =
      first_cut e old ((a.clauses ++ units a.lits) ++ b.clauses) (closing b.lits b.held) new
      (last_cut e old (a.clauses ++ units a.lits) b.clauses two new (label_there old one two lits is are more)
      (subst (λ (x : Held). Cut e two (blasted_each table right x).clauses new) same cut))

  pub closing_off : {A : Type 0} (r : Result A BlastFail) (old one two three new : List (List Lit)) (lits others : List Lit) (held after : Held)
      → one ≡ old ++ a.clauses → lits ≡ a.lits → two ≡ one ++ units lits → held ≡ a.held
      → three ≡ two ++ (blasted_each table right held).clauses → others ≡ (blasted_each table right held).lits → after ≡ (blasted_each table right held).held
      → IfErr r (λ e. Cut e three (closing others after) new) → IfErr r (λ e. Cut e old (pair_says table left right h) new)
  closing_off (Ok x) old one two three new lits others held after is are more same next are_others same_after cut = tt
  closing_off (Err e) old one two three new lits others held after is are more same next are_others same_after cut =
      let row : blasted_each table right held ≡ b = ap (λ (x : Held). blasted_each table right x) same in
      let there = label_there old one two lits is are more in
      last_cut e old ((a.clauses ++ units a.lits) ++ b.clauses) (closing b.lits b.held) three new
      (next ∙ (ap (λ (x : Row). two ++ x.clauses) row ∙ (ap (λ (x : List (List Lit)). x ++ b.clauses) there ∙ append_assoc old (a.clauses ++ units a.lits) b.clauses)))
      (subst (λ (x : Held). Cut e three (closing b.lits x) new) (same_after ∙ ap (λ (x : Row). x.held) row)
      (subst (λ (x : List Lit). Cut e three (closing x after) new) (are_others ∙ ap (λ (x : Row). x.lits) row) cut))

-- nothing was there before
pub begun_off : (e : BlastFail) (table : Table) (left right : List TermId) (before old new : List (List Lit)) (h : Held) → before ≡ [] → old ≡ [] → h ≡ new_of before table.cells
    → Cut e old (pair_says table left right h) new → Cut e [] (pair_says table left right (new_of [] table.cells)) new
begun_off e table left right before old new h first none is cut =
    subst (λ (x : List (List Lit)). Cut e [] (pair_says table left right (new_of x table.cells)) new) first
    (subst (λ (x : List (List Lit)). Cut e x (pair_says table left right (new_of before table.cells)) new) none
    (subst (λ (x : Held). Cut e old (pair_says table left right x) new) is cut))
