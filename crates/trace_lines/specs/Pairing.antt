-- Flat code has no offsets for draws, conditions, assignments and cases. The sites of a body stand in the order of these
-- instructions: each gets its site, where a function has as many of each, in one order.
use Rattle.std.specs.Prelude.{ℕ, ◌-◌, Bool, true, false, nat_eq, if◌then◌else◌, List, [], ◌∷◌, ◌++◌, length, take, drop, replicate, Option, None, Some, slice_get}
use Rattle.c_typed.specs.Tree.{Function}
use Rattle.c_tree.specs.Tree.{named, Body, Item, tFunction, Items, no_items, items_and}
use Rattle.slot_code.specs.declared.flat.Instruction.{Instruction}
use Rattle.slot_code.specs.declared.flat.Instruction.TheVariants as i
use Rattle.slot_code.specs.Values.{Link}
use Rattle.slot_values.specs.declared.scene.Link as rust
use Rattle.trace_sites.specs.declared.site.Site.{Site}
use Rattle.trace_sites.specs.declared.site.Part.{Part}
use Rattle.trace_sites.specs.declared.site.Part.TheVariants as part
use Rattle.trace_sites.specs.Statements.{body_behind}
use Rattle.trace_lines.specs.declared.pairing.Fit.{Fit}
use Rattle.trace_lines.specs.declared.pairing.Fit.TheVariants.{Without, With, Nothing}

-- what an instruction does at a site
abbrev pub part_of : Instruction → Option Part
part_of (i.Draw slot kind) = Some part.Draw
part_of (i.SkipZero slot skip) = Some part.Decision
part_of (i.Store slot object) = Some part.Assignment
part_of (i.SkipEqual slot value skip) = Some part.Case
part_of _ = None

abbrev pub is_same : Part → Part → Bool
is_same part.Draw part.Draw = true
is_same part.Decision part.Decision = true
is_same part.Assignment part.Assignment = true
is_same part.Case part.Case = true
is_same _ _ = false

-- a site of this part
abbrev pub of_part : Part → Option Site → Option Site
of_part p None = None
of_part p (Some site) = if is_same site.part p then Some site else None

-- ---- The sites of some code

abbrev pub Sites : Type 0
Sites = List (Option Site)

abbrev pub with_site : Option Site → Option Sites → Option Sites
with_site site None = None
with_site site (Some sites) = Some (site ∷ sites)

-- what comes of an instruction by the next site: it wants none, it gets that one, or none fits
abbrev pub fit_of_site : Option Site → Fit
fit_of_site None = Nothing
fit_of_site (Some site) = With site

abbrev pub fit_of : Option Part → Option Site → Fit
fit_of None site = Without
fit_of (Some p) site = fit_of_site (of_part p site)

abbrev pub fit_next : Fit → List Site → (List Site → Option Sites) → Option Sites
fit_next Without found go = with_site None (go found)
fit_next (With site) found go = with_site (Some site) (go (drop 1 found))
fit_next Nothing found go = None

-- each instruction that wants a site gets the next one, and none is left
abbrev pub fitted : List Instruction → List Site → Option Sites
fitted [] [] = Some []
fitted [] (site ∷ found) = None
fitted (x ∷ xs) found = fit_next (fit_of (part_of x) (slice_get found 0)) found (fitted xs)

-- no instruction gets a site where they don't fit
abbrev pub sites_or_none : List Instruction → Option Sites → Sites
sites_or_none code None = replicate (length code) None
sites_or_none code (Some sites) = sites

-- ---- The sites of a program's code

abbrev pub body_in : Item → ℕ → Option Body
body_in (tFunction words (named name place) parameters marks body) at = if nat_eq place at then Some body else None
body_in _ at = None

abbrev pub or_body : Option Body → Option Body → Option Body
or_body None other = other
or_body (Some body) other = Some body

-- the body of the function whose name has this offset
abbrev pub body_at : Items → ℕ → Option Body
body_at no_items at = None
body_at (items_and items item) at = or_body (body_in item at) (body_at items at)

abbrev pub body_of : Items → Option Function → Option Body
body_of items None = None
body_of items (Some f) = body_at items f.at

abbrev pub sites_of : Option Body → List Site
sites_of None = []
sites_of (Some body) = body_behind [] body

-- the code of a function, which ends before this place
abbrev pub own_code : List Instruction → Link → ℕ → List Instruction
own_code code l end = take (end - l.entry) (drop l.entry code)

abbrev pub function_sites : Items → List Function → List Instruction → Link → ℕ → Sites
function_sites items functions code l end =
    sites_or_none (own_code code l end) (fitted (own_code code l end) (sites_of (body_of items (slice_get functions l.function))))

-- those of all code up to a place: the newest function ends there
abbrev pub sites_up_to : Items → List Function → List Instruction → List Link → ℕ → Sites
sites_up_to items functions code [] end = []
sites_up_to items functions code (l ∷ ls) end = sites_up_to items functions code ls l.entry ++ function_sites items functions code l end

abbrev pub paired : Items → List Function → List Instruction → List Link → Sites
paired items functions code links = sites_up_to items functions code links (length code)

-- where the code of a function begins, or where all code ends
abbrev pub entry_of : Option rust.Link → ℕ → ℕ
entry_of None end = end
entry_of (Some l) end = l.entry

abbrev pub entry_at : List rust.Link → ℕ → ℕ → ℕ
entry_at links number end = entry_of (slice_get links number) end
