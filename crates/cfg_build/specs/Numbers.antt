-- The numbers of nodes in the graphs of functions, and the function whose code has a place.
use Rattle.std.specs.Prelude.{ℕ, ◌+◌, ◌-◌, ◌==◌, ◌≡◌, ◌<◌, ◌⊎◌, List, [], ◌∷◌, ◌++◌, take, drop, replicate}
use Rattle.slot_code.specs.declared.flat.Instruction.{Instruction}
use Rattle.slot_code.specs.Values.{Link}
use Rattle.cfg_build.specs.Sizes.{nodes_at, nodes_of, one_if}

-- the number of each of these places' nodes, one behind the other
abbrev pub numbers_from : ℕ → List Instruction → List ℕ
numbers_from n [] = []
numbers_from n (x ∷ xs) = n ∷ numbers_from (n + nodes_at x) xs

-- the code from a place up to another one
abbrev pub code_between : List Instruction → (entry end : ℕ) → List Instruction
code_between code entry end = take (end - entry) (drop entry code)

-- the number of a function's first place: in the graph of `main` node 0 stands before all places
abbrev pub first_number : (main function : ℕ) → ℕ
first_number main function = one_if (function == main)

-- the number behind those of a function's places
abbrev pub last_number : List Instruction → (first entry end : ℕ) → ℕ
last_number code first entry end = first + nodes_of (code_between code entry end)

-- Of links, the newest first, whose code goes up to an end: the number of each place, 0 where no function's code stands.
abbrev pub numbers_to : List Instruction → (main end : ℕ) → List Link → List ℕ
numbers_to code main end [] = replicate end 0
numbers_to code main end (l ∷ ls) = numbers_to code main l.entry ls ++ numbers_from (first_number main l.function) (code_between code l.entry end)

-- the function whose code has each place, 0 where none has
abbrev pub owners_to : (end : ℕ) → List Link → List ℕ
owners_to end [] = replicate end 0
owners_to end (l ∷ ls) = owners_to l.entry ls ++ replicate (end - l.entry) l.function

-- one of these links is the function's
abbrev pub HasLink : List Link → ℕ → Type 0
HasLink [] function = ⊥
HasLink (l ∷ ls) function = (l.function ≡ function) ⊎ HasLink ls function

-- each of the first so many functions has a link
abbrev pub AllLinked : List Link → ℕ → Type 0
AllLinked links functions = (function : ℕ) → function < functions → HasLink links function
