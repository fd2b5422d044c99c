-- Declarations that lead back along their bucket, and along all before them.
use Rattle.std.specs.Prelude.{◌≡◌, ℕ, zero, suc, ◌+◌, ◌<◌, ◌≤◌, true, List, [], Option, None, Some, length, map, find, slice_get, get_or, ◌⊎◌}
use Rattle.std.specs.Option.{option_map}
use Rattle.c_meaning.specs.Scope.{begin_of, is_tag}
use Rattle.type_scopes.specs.declared.entries.Entity.{Entity}
use Rattle.type_scopes.specs.declared.entries.Entity.TheVariants as en
use Rattle.type_scopes.specs.declared.entries.Entry.{Entry}
use Rattle.type_scopes.specs.declared.links.Span.{Span}
use Rattle.type_scopes.specs.declared.links.Link.{Link}
use Rattle.type_scopes.specs.declared.linked.Row.{Row}
use Rattle.type_scopes.specs.Buckets.{bucket}
use Rattle.type_scopes.specs.Reaching.{Within, Reaches}
use Rattle.type_scopes.specs.Seen.{scope_of, what_of, entry_of}
use Rattle.type_scopes.specs.Found.{some_entry}
use Rattle.type_scopes.specs.Walking.{last_of, is_in_file}

abbrev pub entries_of : List Row → List Entry
entries_of rows = map (λ r. r.entry) rows

-- from which token to which one it is seen, and where its scope begins
abbrev pub name_span : Entry → Span
name_span e = record { from = e.from; to = last_of (scope_of e.scope); low = 0; high = begin_of (scope_of e.scope) }

abbrev pub lowest : Entity → ℕ
lowest (en.Object number) = number
lowest _ = 4294967295

abbrev pub highest : Entity → ℕ
highest (en.Object number) = number
highest _ = 0

-- where its name stands, and the number of its object; what is none leaves the range as it is
abbrev pub order_span : Entry → Span
order_span e = record { from = e.at; to = e.at; low = lowest e.entity; high = highest e.entity }

-- a way back over declarations: the bucket of each, its span and its link
pub record Chain : Type 0 where
  pub bucket : Row → ℕ
  pub span : Row → Span
  pub link : Row → Link

abbrev pub by_name : Chain
by_name = record { bucket = λ r. bucket (is_tag (what_of r.entry.what)) r.entry.name.now; span = λ r. name_span r.entry; link = λ r. r.name }

-- all are in one bucket
abbrev pub by_order : Chain
by_order = record { bucket = λ r. 0; span = λ r. order_span r.entry; link = λ r. r.order }

module _ (c : Chain) (b : ℕ) (xs : List Row) where
  -- so many have one of the bucket last, or there are none
  abbrev pub Leads : ℕ → Type 0
  Leads left = (j : ℕ) → left ≡ suc j → (x : Row) × (slice_get xs j ≡ Some x) × (c.bucket x ≡ b)

  -- none from one place up to another is of the bucket
  abbrev pub Free : ℕ → ℕ → Type 0
  Free low high = (j : ℕ) → (x : Row) → low ≤ j → j < high → slice_get xs j ≡ Some x → c.bucket x ≡ b → ⊥

  -- the span holds all of the bucket from one place up to another
  abbrev pub Covered : ℕ → ℕ → Span → Type 0
  Covered low high s = (j : ℕ) → (x : Row) → low ≤ j → j < high → slice_get xs j ≡ Some x → c.bucket x ≡ b → Within (c.span x) s

pub record IsLink (c : Chain) (xs : List Row) (k : ℕ) (x : Row) : Type 0 where
  pub few : (c.link x).older ≤ k
  pub further : (c.link x).jump ≤ (c.link x).older
  pub older : Leads c (c.bucket x) xs (c.link x).older
  pub jump : Leads c (c.bucket x) xs (c.link x).jump
  pub free : Free c (c.bucket x) xs (c.link x).older k
  pub covers : Covered c (c.bucket x) xs (c.link x).jump (k + 1) (c.link x).span

abbrev pub IsLinked : Chain → List Row → Type 0
IsLinked c xs = (k : ℕ) → (x : Row) → slice_get xs k ≡ Some x → IsLink c xs k x

-- one that is declared in the file, but for tags, knows the first of its name there
abbrev pub IsFirst : List Row → Row → Type 0
IsFirst xs x =
    is_in_file x.entry.name.now (entry_of x.entry) ≡ true → some_entry (slice_get (entries_of xs) x.first) ≡ find (is_in_file x.entry.name.now) (map entry_of (entries_of xs))

pub record IsKept (xs : List Row) (newest : List ℕ) : Type 0 where
  pub names : IsLinked by_name xs
  pub orders : IsLinked by_order xs
  pub heads : (b : ℕ) → b < 65521 → Leads by_name b xs (get_or newest b 0) × Free by_name b xs (get_or newest b 0) (length xs)
  pub firsts : (k : ℕ) → (x : Row) → slice_get xs k ≡ Some x → IsFirst xs x
  pub sized : (newest ≡ []) ⊎ (length newest ≡ 65521)

-- ---- A declaration more

-- the link of the last of so many
abbrev pub link_before : Chain → List Row → ℕ → Option Link
link_before c xs zero = None
link_before c xs (suc k) = option_map c.link (slice_get xs k)

abbrev pub link_behind : Chain → List Row → Option Link → Option Link
link_behind c xs None = None
link_behind c xs (Some l) = link_before c xs l.jump

pub record LinksTo (c : Chain) (xs : List Row) (before : ℕ) (span : Span) (l : Link) : Type 0 where
  pub older : l.older ≡ before
  pub reach : Reaches before (link_before c xs before) (link_behind c xs (link_before c xs before)) span l
