-- What stands where in a certificate, and how it is spelled.
use Rattle.std.specs.Prelude.{ℕ, List, [], ◌∷◌, ◌++◌, Bool, true, false, codes}
use Rattle.cert_text.specs.declared.place.Fixed.{Fixed}
use Rattle.cert_text.specs.declared.place.Fixed.TheVariants.{Head, BeforeModel, RestIlp32, RestLp64, BeforeTerms, BeforeNodes, BeforeLogs, BeforeChains, Close}
use Rattle.cert_text.specs.declared.place.Slot.{Slot}
use Rattle.cert_text.specs.declared.place.Slot.TheVariants.{Text, High, Low, Kind, Layout, Terms, Letter, Gap, First, Second, Third, Value, Nodes, Formula, Logs, Chains, Start, Pivot, Clause, Done}
use Rattle.cert_text.specs.declared.place.Want.{Want}
use Rattle.cert_text.specs.declared.place.Want.TheVariants.{Text as WText, Byte, Number, Wide}

abbrev pub fixed_bytes : Fixed → List ℕ
fixed_bytes Head = codes "lac 1" ++ 10 ∷ codes "source "
fixed_bytes BeforeModel = 10 ∷ codes "model "
fixed_bytes RestIlp32 = codes "lp32" ++ 10 ∷ codes "layout "
fixed_bytes RestLp64 = codes "p64" ++ 10 ∷ codes "layout "
fixed_bytes BeforeTerms = codes "terms "
fixed_bytes BeforeNodes = codes "map "
fixed_bytes BeforeLogs = codes "logs "
fixed_bytes BeforeChains = codes "log "
fixed_bytes Close = codes "end" ++ 10 ∷ []

-- what stands behind these words
abbrev pub next_slot : Fixed → Slot
next_slot Head = High 0
next_slot BeforeModel = Kind
next_slot RestIlp32 = Layout
next_slot RestLp64 = Layout
next_slot BeforeTerms = Terms
next_slot BeforeNodes = Nodes
next_slot BeforeLogs = Logs
next_slot BeforeChains = Chains
next_slot Close = Done

abbrev pub want_of : Slot → Want
want_of (Text t) = WText t
want_of (High at) = Byte
want_of (Low at high) = Byte
want_of Kind = Byte
want_of Layout = Number
want_of Terms = Number
want_of Letter = Byte
want_of (Gap f) = Byte
want_of (First f) = Number
want_of (Second f a) = Number
want_of (Third f a b) = Number
want_of (Value w) = Wide w
want_of Nodes = Number
want_of Formula = Number
want_of Logs = Number
want_of Chains = Number
want_of Start = Number
want_of Pivot = Number
want_of (Clause p) = Number
want_of Done = Byte

abbrev pub is_done_at : Slot → Bool
is_done_at Done = true
is_done_at _ = false
