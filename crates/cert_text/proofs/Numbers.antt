-- What is true of the numbers that were looked at one after another.
use Rattle.std.proofs.Common.{ℕ, ◌≤◌, List, length, take, All, sym}
use Rattle.std.proofs.lemmas.List.{take_all}
use Rattle.std.proofs.lemmas.List.Elements.{All-same}

pub all_taken : {X : Type 0} (P : X → Type 0) (xs : List X) (i : ℕ) → length xs ≤ i → All P (take i xs) → All P xs
all_taken P xs i all h = All-same P xs (take i xs) (sym (take_all i xs all)) h
