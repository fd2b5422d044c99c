-- Links of functions whose code stands, without where they lie in memory, and by the number of their function.
use Rattle.std.specs.Prelude.{◌≡◌, ℕ, List, [], ◌∷◌, Option, None, option_map, slice_index_or}
use Rattle.slot_code.specs.Values as c
use Rattle.slot_values.specs.declared.scene.Link.{Link}

abbrev pub link_of : Link → c.Link
link_of l = record { function = l.function; entry = l.entry; slot = l.slot }

abbrev pub links_behind : List c.Link → List Link → List c.Link
links_behind ls [] = ls
links_behind ls (x ∷ xs) = links_behind (link_of x ∷ ls) xs

-- the last one is the newest
abbrev pub links_of : List Link → List c.Link
links_of xs = links_behind [] xs

-- at each number stands the newest link of its function
abbrev pub IsIndexed : List (Option Link) → List Link → Type 0
IsIndexed newest all = (f : ℕ) → option_map link_of (slice_index_or newest f None) ≡ c.link_of f (links_of all)
