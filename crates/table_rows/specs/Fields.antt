-- What is taken of a text by a mark.
use Rattle.std.specs.Prelude.{ℕ, ◌≡◌, ◌++◌, List, Option, None, MatchOption, IsSomeAnd}
use Rattle.std.specs.Borrow.{Bor}

-- The first part of a text was taken, and this is left: that part, the mark and what is left are the text. Where the mark is not in it all was
-- taken, and nothing is left.
abbrev pub IsTaken : List ℕ → Option (Bor (List ℕ)) → Option (Bor (List ℕ)) → Option (Bor (List ℕ)) → Type 0
IsTaken mark text first left = MatchOption text ((first ≡ None) × (left ≡ None)) (λ t. IsSomeAnd first (λ f. MatchOption left (f.now ≡ t.now) (λ l. t.now ≡ f.now ++ (mark ++ l.now))))

-- What was taken is so.
abbrev pub IsTakenSo : (Option (Bor (List ℕ)) → Type 0) → List ℕ → Option (Bor (List ℕ)) → Option (Bor (List ℕ)) → Type 0
IsTakenSo P mark text left = (first : Option (Bor (List ℕ))) × IsTaken mark text first left × P first
