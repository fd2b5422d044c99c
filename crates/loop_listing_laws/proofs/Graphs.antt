-- Which loops the graph of a program lists: those that are found in the code of main.
use Rattle.std.proofs.Common.{◌≡◌, ◌⊎◌, inl, inr, ℕ, zero, suc, ◌==◌, ◌+◌, ◌<◌, ◌≤◌, nat_lt, Bool, true, false, if◌then◌else◌, List, [], ◌∷◌, ◌++◌, length, map, Option, None, Some, slice_get, refl, sym, ap, ◌∙◌, subst, arith, length-append}
use Rattle.std.proofs.lemmas.Bool.{cases_eq, eq-eqb, lt-ltb}
use Rattle.std.proofs.lemmas.Option.{slice_get_within, same_Some, none-some}
use Rattle.c_typed.specs.Tree.{Function}
use Rattle.c_typed.specs.Parts.{Parts, tree_of}
use Rattle.c_typed.specs.Run.{main_number}
use Rattle.c_terms.specs.declared.words.Words.{Words}
use Rattle.c_graph.specs.declared.graph.LoopAt.{LoopAt}
use Rattle.c_graph.specs.Functions.{FnFlow, Flows}
use Rattle.slot_code.specs.declared.flat.Instruction.{Instruction}
use Rattle.slot_code.specs.Programs.{code_of}
use Rattle.slot_code.specs.Slots.{slots_in}
use Rattle.code_moves.specs.Setting.{Setting, site_of}
use Rattle.cfg_build.specs.Follows.{Plan}
use Rattle.cfg_build.specs.Graphs.{program_code, program_setting}
use Rattle.cfg_build.specs.Looped as looped
use Rattle.cfg_build.specs.Made as made
use Rattle.cfg_build.specs.Numbers.{numbers_to, owners_to}
use Rattle.cfg_build.specs.Ranges as ranges
use Rattle.cfg_build.specs.Built.{Graphed, plan_in, with_graph, first_graphs, first_words, built}
use Rattle.call_inline.specs.Copying.{Offsets, loop_in, main_copy}
use Rattle.call_inline.specs.Inlining.{loops_of}
use Rattle.call_inline.specs.Inlined.{own_offsets, inlined}
use Rattle.call_inline.proofs.Lists.{get-there}
use Rattle.loop_listing_laws.specs.Listing.{offsets}

abbrev of_type : (A : Type 0) → A → Type 0
of_type A x = A

abbrev Range : Type 0
Range = of_type _ (ranges.no_range 0)

get-last : {X : Type 0} (xs : List X) (y : X) → slice_get (xs ++ y ∷ []) (length xs) ≡ Some y
get-last [] y = refl
get-last (x ∷ xs) y = get-last xs y

get-before : {X : Type 0} (xs ys : List X) (k : ℕ) → k < length xs → slice_get (xs ++ ys) k ≡ slice_get xs k
get-before [] ys k lt = absurd (omega (arith, lt))
get-before (x ∷ xs) ys zero lt = refl
get-before (x ∷ xs) ys (suc k) lt = get-before xs ys k (omega (arith, lt))

module _ (code : List Instruction) (numbers owners : List ℕ) (rs : List Range) (functions : List Function) (main : ℕ) (g : Setting) (w : Words) where
  abbrev upto : ℕ → Graphed
  upto n = first_graphs code numbers owners rs functions main g w n

  -- the graph of a function, with some terms
  abbrev Own : Range → FnFlow → Type 0
  Own range graph = (words : Words) × (graph ≡ (made.graph_of (plan_in code numbers rs main range) owners (site_of g) (made.opened g) functions main words).1)

  many-more : (r : Graphed) (range : Range) → length (with_graph code numbers owners rs functions main g r (Some range)).graphs ≡ suc (length r.graphs)
  many-more r range = let e = length-append r.graphs ((made.graph_of (plan_in code numbers rs main range) owners (site_of g) (made.opened g) functions main r.words).1 ∷ []) in omega (arith, e)

  many : (n : ℕ) → n ≤ length rs → length (upto n).graphs ≡ n
  many zero le = refl
  many (suc n) le =
      let (range, there) = get-there rs n (omega (arith, le)) in
      let before = many n (omega (arith, le)) in
      let own = many-more (upto n) range in
      ap (λ (o : Option Range). length (with_graph code numbers owners rs functions main g (upto n) o).graphs) there ∙ own ∙ ap suc before

  graph-there : (n k : ℕ) (range : Range) → k < n → n ≤ length rs → slice_get rs k ≡ Some range → (graph : FnFlow) × (slice_get (upto n).graphs k ≡ Some graph) × Own range graph
  graph-there zero k range lt le there = absurd (omega (arith, lt))
  graph-there (suc n) k range lt le there = elim (cases_eq k n) [
    | inl e ↦
        let before = many n (omega (arith, le)) in
        let graph : FnFlow = (made.graph_of (plan_in code numbers rs main range) owners (site_of g) (made.opened g) functions main (upto n).words).1 in
        let here : slice_get rs n ≡ Some range = ap (slice_get rs) (sym e) ∙ there in
        (graph, ap (λ (o : Option Range). slice_get (with_graph code numbers owners rs functions main g (upto n) o).graphs k) here ∙ ap (slice_get ((upto n).graphs ++ graph ∷ [])) (e ∙ sym before) ∙ get-last (upto n).graphs graph, ((upto n).words, refl))
    | inr ne ↦
        let before = many n (omega (arith, le)) in
        let (last, at_last) = get-there rs n (omega (arith, le)) in
        let (graph, is, own) = graph-there n k range (omega (arith, lt, ne)) (omega (arith, le)) there in
        (graph, ap (λ (o : Option Range). slice_get (with_graph code numbers owners rs functions main g (upto n) o).graphs k) at_last ∙ get-before (upto n).graphs _ k (omega (arith, lt, ne, before)) ∙ is, own)
  ]

  own-loops : (range : Range) (graph : FnFlow) → range.function ≡ main → Own range graph → graph.loops ≡ looped.loops_at (plan_in code numbers rs main range) (looped.main_loops functions main)
  own-loops range graph e (words, is) =
      let p : Plan = plan_in code numbers rs main range in
      ap (λ (x : FnFlow). x.loops) is
      ∙ ap (λ (b : Bool). (if b then made.main_graph p owners (site_of g) (made.opened g) functions main words else made.own_graph p owners (site_of g) words).1.loops) (eq-eqb range.function main e)

-- their offsets are those of main
same-offsets : (os : Offsets) (p : Flows) (ls : List LoopAt) → offsets (map (loop_in os (main_copy p)) ls) ≡ offsets ls
same-offsets os p [] = refl
same-offsets os p (l ∷ ls) = ap (λ (xs : List ℕ). l.at ∷ xs) (same-offsets os p ls)

module _ (t : Parts) (order : List ℕ) (m : ℕ) (is : main_number (tree_of t).functions ≡ Some m) (small : m < 4294967296) where
  abbrev code : List Instruction
  code = program_code t order

  abbrev main : ℕ
  main = ranges.main_or (main_number (tree_of t).functions)

  abbrev numbers : List ℕ
  numbers = numbers_to code main (length code) (code_of (tree_of t) order).links

  abbrev all_ranges : List Range
  all_ranges = ranges.ranges_to (length code) (slots_in code) (code_of (tree_of t) order).links (ranges.no_ranges (length (tree_of t).functions))

  pub named : main ≡ m
  named = ap ranges.main_or is ∙ ap (λ (b : Bool). if b then m else 0) (lt-ltb m 4294967296 small)

  -- the loops of the whole graph are those that are found in main's range
  pub listed-there : (range : Range) → slice_get all_ranges m ≡ Some range → range.function ≡ m
      → offsets (inlined (built t order)).loops ≡ offsets (looped.loops_at (plan_in code numbers all_ranges main range) (looped.main_loops (tree_of t).functions main))
  listed-there range there own =
      let here : slice_get all_ranges main ≡ Some range = ap (slice_get all_ranges) named ∙ there in
      let lt : main < length all_ranges = slice_get_within all_ranges main range here in
      let owners : List ℕ = owners_to (length code) (code_of (tree_of t) order).links in
      let (graph, at_main, from) = graph-there code numbers owners all_ranges (tree_of t).functions main (program_setting t order) (first_words (program_setting t order)) (length all_ranges) main range lt (omega arith) here in
      same-offsets (own_offsets (built t order)) (built t order) (loops_of (slice_get (built t order).graphs (built t order).main))
      ∙ ap (λ (o : Option FnFlow). offsets (loops_of o)) at_main
      ∙ ap offsets (own-loops code numbers owners all_ranges (tree_of t).functions main (program_setting t order) (first_words (program_setting t order)) range graph (own ∙ sym named) from)
