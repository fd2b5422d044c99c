-- All loops of main are listed.
use Rattle.std.proofs.Common.{◌≡◌, ◌⊎◌, inl, inr, ℕ, zero, suc, ◌+◌, ◌-◌, ◌<◌, ◌≤◌, true, List, [], ◌∷◌, ◌++◌, length, Option, Some, slice_get, refl, sym, ap, ◌∙◌, subst, arith, length-append}
use Rattle.std.proofs.lemmas.Option.{slice_get_within}
use Rattle.c_typed.specs.Tree.{Function}
use Rattle.c_typed.specs.Parts.{tree_of}
use Rattle.c_typed.specs.Run.{main_number}
use Rattle.call_order.specs.Order.{bit, times}
use Rattle.slot_code.specs.declared.flat.Instruction.{Instruction}
use Rattle.slot_code.specs.Programs.{code_of, function_code}
use Rattle.slot_code.specs.Slots.{slots_in}
use Rattle.cfg_build.specs.Follows.{Plan}
use Rattle.cfg_build.specs.Graphs.{program_code}
use Rattle.cfg_build.specs.Looped.{loops_in, main_loops, loops_at, function_loops}
use Rattle.cfg_build.specs.Numbers.{numbers_to}
use Rattle.cfg_build.specs.Ranges.{main_or, no_range, no_ranges, ranges_to}
use Rattle.cfg_build.specs.Built.{plan_in}
use Rattle.loop_listing_laws.specs.Listing.{LoopsListed, offsets}
use Rattle.loop_listing_laws.proofs.Counting.{times-here}
use Rattle.loop_listing_laws.proofs.Nearing.{Near}
use Rattle.loop_listing_laws.proofs.Seeking.{LiesAt, AllNear, found}
use Rattle.loop_listing_laws.proofs.Programs.{Stands, function-stands, program-near, program-stands, lies-at}
use Rattle.loop_listing_laws.proofs.Graphs.{listed-there, named}

many-none : (n : ℕ) → length (no_ranges n) ≡ n
many-none zero = refl
many-none (suc n) = let e = length-append (no_ranges n) (no_range n ∷ []) in let h = many-none n in omega (arith, e, h)

all-near : (code : List Instruction) (xs : List ℕ) → ((x : ℕ) → 1 ≤ times x xs → Near x code) → AllNear code xs
all-near code [] h = tt
all-near code (x ∷ xs) h = (h x (let e = times-here x xs in omega (arith, e)), all-near code xs (λ y k. h y (omega (arith, k))))

pub listed : LoopsListed
listed t order m f is there small has once =
    let functions : List Function = (tree_of t).functions in
    let code : List Instruction = program_code t order in
    let room : m < length (no_ranges (length functions)) = (let e = many-none (length functions) in let lt = slice_get_within functions m f there in omega (arith, e, lt)) in
    let s = program-stands (tree_of t) m f there (no_ranges (length functions)) order room has in
    let fc : List Instruction = function_code (tree_of t) s.links s.slot (length s.before) f in
    let main : ℕ = main_or (main_number (tree_of t).functions) in
    let rs = ranges_to (length code) (slots_in code) (code_of (tree_of t) order).links (no_ranges (length functions)) in
    let p : Plan = plan_in code (numbers_to code main (length code) (code_of (tree_of t) order).links) rs main s.range in
    let lies : LiesAt code s.range.entry fc = lies-at code s.before fc s.behind s.range.entry s.whole s.entry in
    let near : AllNear code (loops_in f.body) = all-near code (loops_in f.body) (λ x k. program-near (tree_of t) m f there x order has k (once x k)) in
    let all : offsets (loops_at p (loops_in f.body)) ≡ loops_in f.body =
    found p fc s.range.entry (s.range.end - s.range.entry) (loops_in f.body) lies (let e = s.end in omega (arith, e)) (function-stands (tree_of t) s.links s.slot (length s.before) f) near in
    let own : main_loops functions main ≡ loops_in f.body = ap (main_loops functions) (named t order m is small) ∙ ap function_loops there in
    listed-there t order m is small s.range s.there s.function ∙ ap (λ (xs : List ℕ). offsets (loops_at p xs)) own ∙ all
