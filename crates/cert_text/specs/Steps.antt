-- What a byte makes of a place.
use Rattle.std.specs.Prelude.{ℕ, ◌+◌, ◌-◌, ◌*◌, ◌%◌, Bool, true, false, ◌==◌, nat_le, if◌then◌else◌, Option, Some, None}
use Rattle.lv_base.specs.declared.kind.Model.TheVariants.{Ilp32, Lp64}
use Rattle.bv_term.specs.declared.term.Term.{Term}
use Rattle.bv_term.specs.declared.term.Term.TheVariants.{Constant}
use Rattle.cert_text.specs.declared.letters.Form.{Form}
use Rattle.cert_text.specs.declared.letters.Operands.{Operands}
use Rattle.cert_text.specs.declared.letters.Operands.TheVariants.{Wide as OWide, One, Two, Three}
use Rattle.cert_text.specs.declared.place.Fixed.TheVariants.{BeforeModel, RestIlp32, RestLp64, BeforeTerms, BeforeNodes, BeforeLogs, BeforeChains, Close}
use Rattle.cert_text.specs.declared.place.Slot.{Slot}
use Rattle.cert_text.specs.declared.place.Slot.TheVariants.{Text, High, Low, Kind, Layout, Terms, Letter, Gap, First, Second, Third, Value, Nodes, Formula, Logs, Chains, Start, Pivot, Clause}
use Rattle.cert_text.specs.declared.place.Place.{Place}
use Rattle.cert_text.specs.declared.place.Want.{Want}
use Rattle.cert_text.specs.declared.place.Want.TheVariants.{Text as WText, Byte as WByte, Number as WNumber, Wide as WWide}
use Rattle.cert_text.specs.declared.place.Part.{Part}
use Rattle.cert_text.specs.declared.place.Part.TheVariants.{Fresh, Matched, Digits, WideDigits}
use Rattle.cert_text.specs.declared.field.More.{More}
use Rattle.cert_text.specs.declared.field.More.TheVariants.{Refused as MRefused, Part as MPart, Text as MText, Number as MNumber, Wide as MWide}
use Rattle.cert_text.specs.declared.steps.Act.{Act}
use Rattle.cert_text.specs.declared.steps.Act.TheVariants.{Nothing, Byte, Said, Numbered, Adds, Maps, Begins, Pairs}
use Rattle.cert_text.specs.declared.steps.Next.{Next}
use Rattle.cert_text.specs.declared.steps.Next.TheVariants.{Refused, Part as NPart, Moves}
use Rattle.cert_text.specs.Letters.{form_of, operands_of, term_of}
use Rattle.cert_text.specs.Places.{fixed_bytes, next_slot, want_of}
use Rattle.cert_text.specs.Fields.{hex_value, text_more, number_more, wide_more}

abbrev pub place_of : Slot → ℕ → ℕ → Place
place_of slot left chains = record { slot = slot; left = left; chains = chains }

abbrev pub moves : Slot → ℕ → ℕ → Act → Bool → Bool → Next
moves slot left chains act chain_ends log_ends = Moves (record { to = place_of slot left chains; act = act; chain_ends = chain_ends; log_ends = log_ends })

abbrev pub go : Slot → ℕ → Act → Next
go slot left act = moves slot left 0 act false false

-- on behind a line's end, or a blank
abbrev pub line : ℕ → Next → Next
line byte next = if byte == 10 then next else Refused

abbrev pub blank : ℕ → Next → Next
blank byte next = if byte == 32 then next else Refused

-- behind a count, and behind one of those that are left
abbrev pub count : ℕ → Slot → Slot → Next
count number none some = if number == 0 then go none 0 Nothing else go some number Nothing

abbrev pub less : ℕ → Slot → Slot → Act → Next
less left none some act = if nat_le left 1 then go none 0 act else go some (left - 1) act

abbrev pub add : ℕ → Term → Next
add left term = less left (Text BeforeNodes) Letter (Adds term)

-- behind a log's last line, and behind a chain's line
abbrev pub log_end : ℕ → Act → Bool → Next
log_end left act chain_ends =
    if nat_le left 1 then moves (Text Close) 0 0 act chain_ends true else
    moves (Text BeforeChains) (left - 1) 0 act chain_ends true

abbrev pub chain_end : ℕ → ℕ → Act → Next
chain_end left chains act =
    if nat_le chains 1 then log_end left act true else
    moves Start left (chains - 1) act true false

-- behind a clause of a chain: a pair more, or the chain's end
abbrev pub clause_read : ℕ → ℕ → Act → ℕ → Next
clause_read left chains act byte =
    if byte == 32 then moves Pivot left chains act false false else line byte (chain_end left chains act)

abbrev pub chains_read : ℕ → ℕ → Next
chains_read left number =
    if number == 0 then log_end left Nothing false else moves Start left number Nothing false false

-- behind a number that ends its line
abbrev pub line_read_at : Slot → Place → ℕ → Next
line_read_at Layout place number = go (Text BeforeTerms) 0 (Numbered number)
line_read_at Terms place number = count number (Text BeforeNodes) Letter
line_read_at Nodes place number = count number (Text BeforeLogs) Formula
line_read_at Formula place number = less place.left (Text BeforeLogs) Formula (Maps number)
line_read_at Logs place number = count number (Text Close) (Text BeforeChains)
line_read_at Chains place number = chains_read place.left number
line_read_at (Third f a b) place number = add place.left (term_of f a b number)
line_read_at _ place number = Refused

abbrev pub line_read : Place → ℕ → Next
line_read place number = line_read_at place.slot place number

abbrev pub first_by : Operands → ℕ → Form → ℕ → ℕ → Next
first_by One left f number byte = line byte (add left (term_of f number 0 0))
first_by OWide left f number byte = blank byte (go (Value number) left Nothing)
first_by Two left f number byte = blank byte (go (Second f number) left Nothing)
first_by Three left f number byte = blank byte (go (Second f number) left Nothing)

-- behind the first number of a term
abbrev pub first_read : ℕ → Form → ℕ → ℕ → Next
first_read left f number byte = first_by (operands_of f) left f number byte

abbrev pub second_by : Operands → ℕ → Form → ℕ → ℕ → ℕ → Next
second_by Three left f a number byte = blank byte (go (Third f a number) left Nothing)
second_by One left f a number byte = line byte (add left (term_of f a number 0))
second_by OWide left f a number byte = line byte (add left (term_of f a number 0))
second_by Two left f a number byte = line byte (add left (term_of f a number 0))

-- behind the second
abbrev pub second_read : ℕ → Form → ℕ → ℕ → ℕ → Next
second_read left f a number byte = second_by (operands_of f) left f a number byte

-- behind a number
abbrev pub number_read_at : Slot → Place → ℕ → ℕ → Next
number_read_at (First f) place number byte = first_read place.left f number byte
number_read_at (Second f a) place number byte = second_read place.left f a number byte
number_read_at Start place number byte = clause_read place.left place.chains (Begins number) byte
number_read_at Pivot place number byte = blank byte (moves (Clause number) place.left place.chains Nothing false false)
number_read_at (Clause pivot) place number byte = clause_read place.left place.chains (Pairs pivot number) byte
number_read_at _ place number byte = line byte (line_read place number)

abbrev pub number_read : Place → ℕ → ℕ → Next
number_read place number byte = number_read_at place.slot place number byte

-- behind the low digit of a byte of the hash
abbrev pub low_read : ℕ → ℕ → ℕ → Next
low_read at high digit =
    if nat_le 31 at then go (Text BeforeModel) 0 (Byte at ((high + digit) % 256)) else
    go (High (at + 1)) 0 (Byte at ((high + digit) % 256))

abbrev pub hash_read : Slot → ℕ → Next
hash_read (High at) digit = go (Low at (digit * 16)) 0 Nothing
hash_read (Low at high) digit = low_read at high digit
hash_read _ digit = Refused

abbrev pub digit_by : Slot → Option ℕ → Next
digit_by slot None = Refused
digit_by slot (Some d) = hash_read slot d

abbrev pub digit_read : Slot → ℕ → Next
digit_read slot byte = digit_by slot (hex_value byte)

abbrev pub letter_by : ℕ → Option Form → Next
letter_by left None = Refused
letter_by left (Some f) = go (Gap f) left Nothing

abbrev pub letter_read : ℕ → ℕ → Next
letter_read left byte = letter_by left (form_of byte)

-- behind the first letter of the data model
abbrev pub model_read : ℕ → Next
model_read byte =
    if byte == 105 then go (Text RestIlp32) 0 (Said Ilp32) else
    if byte == 108 then go (Text RestLp64) 0 (Said Lp64) else
    Refused

-- a byte that is a field of its own
abbrev pub byte_read_at : Slot → Place → ℕ → Next
byte_read_at (High at) place byte = digit_read (High at) byte
byte_read_at (Low at high) place byte = digit_read (Low at high) byte
byte_read_at Kind place byte = model_read byte
byte_read_at Letter place byte = letter_read place.left byte
byte_read_at (Gap f) place byte = blank byte (go (First f) place.left Nothing)
byte_read_at _ place byte = Refused

abbrev pub byte_read : Place → ℕ → Next
byte_read place byte = byte_read_at place.slot place byte

-- behind words
abbrev pub text_read_at : Slot → Place → Next
text_read_at (Text t) place = go (next_slot t) place.left Nothing
text_read_at _ place = Refused

abbrev pub text_read : Place → Next
text_read place = text_read_at place.slot place

abbrev pub moved_by : Place → ℕ → ℕ → More → Next
moved_by place width byte MRefused = Refused
moved_by place width byte (MPart part) = NPart part
moved_by place width byte MText = text_read place
moved_by place width byte (MNumber number) = number_read place number byte
moved_by place width byte (MWide value) = line byte (add place.left (Constant width value))

-- how much of some words was read
abbrev pub matched_of : Part → ℕ
matched_of Fresh = 0
matched_of (Matched at) = at
matched_of (Digits value) = 0
matched_of (WideDigits value) = 0

abbrev pub by_want : Want → Place → Part → ℕ → Next
by_want (WText t) place part byte = moved_by place 0 byte (text_more (fixed_bytes t) (matched_of part) byte)
by_want WByte place part byte = byte_read place byte
by_want WNumber place part byte = moved_by place 0 byte (number_more part byte)
by_want (WWide width) place part byte = moved_by place width byte (wide_more part byte)

-- one byte
abbrev pub step_of : Place → Part → ℕ → Next
step_of place part byte = by_want (want_of place.slot) place part byte
