-- What was read of a certificate up to each place, and what is known there of what was said.
use Rattle.std.proofs.Common.{◌≡◌, ℕ, ◌+◌, ◌*◌, ◌/◌, ◌<◌, ◌≤◌, List, [], ◌∷◌, ◌++◌, length, take}
use Rattle.std.specs.Prelude.{codes, ◌⊎◌}
use Rattle.lv_base.specs.declared.kind.Model.TheVariants.{Ilp32, Lp64}
use Rattle.stored_text.specs.RunText.{number_text}
use Rattle.cert_text.specs.declared.letters.Operands.TheVariants.{Two, Three}
use Rattle.cert_text.specs.declared.place.Fixed.{Fixed}
use Rattle.cert_text.specs.declared.place.Fixed.TheVariants.{Head, BeforeModel, RestIlp32, RestLp64, BeforeTerms, BeforeNodes, BeforeLogs, BeforeChains, Close}
use Rattle.cert_text.specs.declared.place.Slot.{Slot}
use Rattle.cert_text.specs.declared.place.Slot.TheVariants.{Text, High, Low, Kind, Layout, Terms, Letter, Gap, First, Second, Third, Value, Nodes, Formula, Logs, Chains, Start, Pivot, Clause, Done}
use Rattle.cert_text.specs.declared.place.Part.{Part}
use Rattle.cert_text.specs.declared.place.Part.TheVariants.{Fresh, Matched, Digits, WideDigits}
use Rattle.cert_text.specs.CertText.{hex_digit, hex_text, model_text, number_line, terms_text, formulas_text, logs_text, chains_text}
use Rattle.cert_text.specs.Letters.{letter_of, operands_of}
use Rattle.cert_text.specs.declared.place.Want.{Want}
use Rattle.cert_text.specs.declared.place.Want.TheVariants.{Text as WText, Byte, Number, Wide}
use Rattle.cert_text.specs.Places.{fixed_bytes, want_of}
use Rattle.cert_text.specs.Steps.{matched_of}
use Rattle.cert_text.specs.Drafts.{Said}
use Rattle.cert_text.specs.Ranges.{IsShort, IsByte, TermFits}
use Rattle.certificate_laws.specs.Fits.{AllFit, ChainFits, LogFits}

-- ---- The text before a field

abbrev pub hash_front : List ℕ → List ℕ
hash_front bytes = fixed_bytes Head ++ hex_text bytes

abbrev pub model_front : Said → List ℕ
model_front s = hash_front s.hash ++ fixed_bytes BeforeModel

abbrev pub layout_front : Said → List ℕ
layout_front s = model_front s ++ (model_text s.model ++ (10 ∷ codes "layout "))

abbrev pub head_front : Said → List ℕ
head_front s = layout_front s ++ number_line s.layout

abbrev pub terms_front : Said → List ℕ
terms_front s = head_front s ++ codes "terms "

-- so many terms are left
abbrev pub term_front : Said → ℕ → List ℕ
term_front s left = terms_front s ++ (number_line (length s.terms + left) ++ terms_text s.terms)

abbrev pub nodes_front : Said → List ℕ
nodes_front s = term_front s 0 ++ codes "map "

abbrev pub node_front : Said → ℕ → List ℕ
node_front s left = nodes_front s ++ (number_line (length s.formulas + left) ++ formulas_text s.formulas)

abbrev pub logs_front : Said → List ℕ
logs_front s = node_front s 0 ++ codes "logs "

abbrev pub log_front : Said → ℕ → List ℕ
log_front s left = logs_front s ++ (number_line (length s.logs + left) ++ logs_text s.logs)

abbrev pub chains_front : Said → ℕ → List ℕ
chains_front s left = log_front s left ++ codes "log "

abbrev pub chain_front : Said → ℕ → ℕ → List ℕ
chain_front s left chains = chains_front s left ++ (number_line (length s.log + chains) ++ chains_text s.log)

-- pairs of a chain that is not whole
abbrev pub pairs_open : List (ℕ × ℕ) → List ℕ
pairs_open [] = []
pairs_open (p ∷ ps) = 32 ∷ (number_text p.0 ++ 32 ∷ (number_text p.1 ++ pairs_open ps))

abbrev pub pair_front : Said → ℕ → ℕ → List ℕ
pair_front s left chains = chain_front s left chains ++ (number_text s.chain.first ++ pairs_open s.chain.pairs)

abbrev pub text_base : Said → Fixed → ℕ → List ℕ
text_base s Head left = []
text_base s BeforeModel left = hash_front s.hash
text_base s RestIlp32 left = model_front s ++ codes "i"
text_base s RestLp64 left = model_front s ++ codes "l"
text_base s BeforeTerms left = head_front s
text_base s BeforeNodes left = term_front s 0
text_base s BeforeLogs left = node_front s 0
text_base s BeforeChains left = log_front s left
text_base s Close left = log_front s 0

abbrev pub base : Said → Slot → ℕ → ℕ → List ℕ
base s (Text t) left chains = text_base s t left
base s (High at) left chains = hash_front (take at s.hash)
base s (Low at high) left chains = hash_front (take at s.hash) ++ hex_digit (high / 16) ∷ []
base s Kind left chains = model_front s
base s Layout left chains = layout_front s
base s Terms left chains = terms_front s
base s Letter left chains = term_front s left
base s (Gap f) left chains = term_front s left ++ letter_of f ∷ []
base s (First f) left chains = term_front s left ++ letter_of f ∷ 32 ∷ []
base s (Second f a) left chains = term_front s left ++ letter_of f ∷ 32 ∷ (number_text a ++ 32 ∷ [])
base s (Third f a b) left chains = term_front s left ++ letter_of f ∷ 32 ∷ (number_text a ++ 32 ∷ (number_text b ++ 32 ∷ []))
base s (Value w) left chains = term_front s left ++ 99 ∷ 32 ∷ (number_text w ++ 32 ∷ [])
base s Nodes left chains = nodes_front s
base s Formula left chains = node_front s left
base s Logs left chains = logs_front s
base s Chains left chains = chains_front s left
base s Start left chains = chain_front s left chains
base s Pivot left chains = pair_front s left chains ++ 32 ∷ []
base s (Clause p) left chains = pair_front s left chains ++ 32 ∷ (number_text p ++ 32 ∷ [])
base s Done left chains = log_front s 0 ++ fixed_bytes Close

-- ---- The part of a field that was read

abbrev pub digits_read : Part → List ℕ
digits_read Fresh = []
digits_read (Matched at) = []
digits_read (Digits value) = number_text value
digits_read (WideDigits value) = number_text value

abbrev pub field_text : Slot → Part → List ℕ
field_text (Text t) part = take (matched_of part) (fixed_bytes t)
field_text (High at) part = []
field_text (Low at high) part = []
field_text Kind part = []
field_text Letter part = []
field_text (Gap f) part = []
field_text Done part = []
field_text _ part = digits_read part

abbrev pub NumberFits : Part → Type 0
NumberFits Fresh = Unit {0}
NumberFits (Matched at) = ⊥
NumberFits (Digits value) = IsShort value
NumberFits (WideDigits value) = ⊥

abbrev pub WideFits : Part → Type 0
WideFits Fresh = Unit {0}
WideFits (Matched at) = ⊥
WideFits (Digits value) = ⊥
WideFits (WideDigits value) = value ≤ 340282366920938463463374607431768211455

-- a part that is read where this is wanted
abbrev pub PartFits : Want → Part → Type 0
PartFits (WText t) part = matched_of part < length (fixed_bytes t)
PartFits Byte part = Unit {0}
PartFits Number part = NumberFits part
PartFits (Wide w) part = WideFits part

-- ---- What is known

abbrev pub Hashed : Said → Type 0
Hashed s = (length s.hash ≡ 32) × AllFit IsByte s.hash

abbrev pub NoLogs : Said → Type 0
NoLogs s = (s.logs ≡ []) × (s.log ≡ [])

abbrev pub NoNodes : Said → Type 0
NoNodes s = (s.formulas ≡ []) × NoLogs s

abbrev pub NoTerms : Said → Type 0
NoTerms s = (s.terms ≡ []) × NoNodes s

abbrev pub Headed : Said → Type 0
Headed s = Hashed s × IsShort s.layout

abbrev pub TermsFit : Said → ℕ → Type 0
TermsFit s left = Headed s × AllFit TermFits s.terms × IsShort (length s.terms + left)

abbrev pub NodesFit : Said → ℕ → Type 0
NodesFit s left = TermsFit s 0 × AllFit IsShort s.formulas × IsShort (length s.formulas + left)

abbrev pub LogsFit : Said → ℕ → Type 0
LogsFit s left = NodesFit s 0 × AllFit LogFits s.logs × IsShort (length s.logs + left)

-- within a log
abbrev pub InLog : Said → ℕ → ℕ → Type 0
InLog s left chains = LogsFit s left × (1 ≤ left) × AllFit ChainFits s.log × IsShort (length s.log + chains) × (1 ≤ chains)

-- at a term
abbrev pub AtTerm : Said → ℕ → Type 0
AtTerm s left = NoNodes s × TermsFit s left × (1 ≤ left)

abbrev pub TextKnown : Said → Fixed → ℕ → Type 0
TextKnown s Head left = NoTerms s × (length s.hash ≡ 32)
TextKnown s BeforeModel left = NoTerms s × Hashed s
TextKnown s RestIlp32 left = NoTerms s × Hashed s × (s.model ≡ Ilp32)
TextKnown s RestLp64 left = NoTerms s × Hashed s × (s.model ≡ Lp64)
TextKnown s BeforeTerms left = NoTerms s × Headed s
TextKnown s BeforeNodes left = NoNodes s × TermsFit s 0
TextKnown s BeforeLogs left = NoLogs s × NodesFit s 0
TextKnown s BeforeChains left = (s.log ≡ []) × LogsFit s left × (1 ≤ left)
TextKnown s Close left = LogsFit s 0

abbrev pub Known : Said → Slot → ℕ → ℕ → Type 0
Known s (Text t) left chains = TextKnown s t left
Known s (High at) left chains = NoTerms s × (length s.hash ≡ 32) × (at ≤ 31) × AllFit IsByte (take at s.hash)
Known s (Low at high) left chains = NoTerms s × (length s.hash ≡ 32) × (at ≤ 31) × AllFit IsByte (take at s.hash) × ((d : ℕ) × (d < 16) × (high ≡ d * 16))
Known s Kind left chains = NoTerms s × Hashed s
Known s Layout left chains = NoTerms s × Hashed s
Known s Terms left chains = NoTerms s × Headed s
Known s Letter left chains = AtTerm s left
Known s (Gap f) left chains = AtTerm s left
Known s (First f) left chains = AtTerm s left
Known s (Second f a) left chains = AtTerm s left × IsShort a × ((operands_of f ≡ Two) ⊎ (operands_of f ≡ Three))
Known s (Third f a b) left chains = AtTerm s left × IsShort a × IsShort b × (operands_of f ≡ Three)
Known s (Value w) left chains = AtTerm s left × IsShort w
Known s Nodes left chains = NoNodes s × TermsFit s 0
Known s Formula left chains = NoLogs s × NodesFit s left × (1 ≤ left)
Known s Logs left chains = NoLogs s × NodesFit s 0
Known s Chains left chains = (s.log ≡ []) × LogsFit s left × (1 ≤ left)
Known s Start left chains = InLog s left chains
Known s Pivot left chains = InLog s left chains × ChainFits s.chain
Known s (Clause p) left chains = InLog s left chains × ChainFits s.chain × IsShort p
Known s Done left chains = LogsFit s 0

-- these bytes were read up to here
pub record Stands (s : Said) (slot : Slot) (left chains : ℕ) (part : Part) (f : List ℕ) : Type 0 where
  pub read : f ≡ base s slot left chains ++ field_text slot part
  pub fits : PartFits (want_of slot) part
  pub known : Known s slot left chains
