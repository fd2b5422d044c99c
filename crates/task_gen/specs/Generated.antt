-- The source that a seed makes.
use Rattle.std.specs.Prelude.{ℕ, zero, suc, ◌+◌, ◌*◌, ◌%◌, ◌^◌, List, [], ◌∷◌, ◌++◌, ◌&&◌, ◌==◌, if◌then◌else◌, codes}
use Rattle.std.specs.Fmt.{decimal}

-- ---- Numbers

-- each number makes the next one
abbrev pub next_number : ℕ → ℕ
next_number s = (1664525 * s + 1013904223) % 2 ^ 32

-- number 0 is the seed
abbrev pub number_at : ℕ → ℕ → ℕ
number_at seed zero = seed
number_at seed (suc i) = next_number (number_at seed i)

abbrev pub blocks_of : ℕ → ℕ
blocks_of seed = 32 + seed % 32

-- ---- Lines

-- the first block of an odd seed compares by `>=`, each other one by `>`
abbrev pub sign_of : ℕ → ℕ → List ℕ
sign_of seed i = if (i == 0) && (seed % 2 == 1) then codes ">=" else codes ">"

-- the variable of a block draws a number and masks it with a constant
abbrev pub draw_text : ℕ → ℕ → List ℕ
draw_text i c = codes "  unsigned int x" ++ (decimal i ++ (codes " = __VERIFIER_nondet_uint() & " ++ (decimal c ++ (codes "u;" ++ 10 ∷ []))))

-- and is compared with it
abbrev pub test_text : ℕ → ℕ → List ℕ → List ℕ
test_text i c sign = codes "  if (x" ++ (decimal i ++ (codes " " ++ (sign ++ (codes " " ++ (decimal c ++ (codes "u) reach_error();" ++ 10 ∷ []))))))

abbrev pub block_text : ℕ → ℕ → List ℕ → List ℕ
block_text i c sign = draw_text i c ++ test_text i c sign

-- the first n blocks, block i with number i + 1 as its constant
abbrev pub blocks_text : ℕ → ℕ → List ℕ
blocks_text seed zero = []
blocks_text seed (suc n) = blocks_text seed n ++ block_text n (number_at seed (suc n)) (sign_of seed n)

abbrev pub head : List ℕ
head = codes "extern unsigned int __VERIFIER_nondet_uint(void);" ++ 10 ∷ (codes "void reach_error() {}" ++ 10 ∷ (codes "int main() {" ++ 10 ∷ []))

abbrev pub generated : ℕ → List ℕ
generated seed = head ++ (blocks_text seed (blocks_of seed) ++ (codes "}" ++ 10 ∷ []))
