-- Certificates whose numbers are those of their fields: of 32 bits, and of 128 for the value of a constant.
use Rattle.std.specs.Prelude.{ℕ, ◌≡◌, ◌<◌, ◌≤◌, length, All}
use Rattle.bv_term.specs.declared.term.Term.{Term}
use Rattle.bv_term.specs.declared.term.Term.TheVariants.{Constant, Cell, Element, Add, Subtract, Multiply, Divide, Remainder, And, Or, Xor, Not, ShiftLeft, ShiftRight, ShiftSigned, Equal, Less, LessSigned, Select, ZeroExtend, SignExtend, Truncate, Bit}
use Rattle.resolution_log.specs.declared.Chain.{Chain}
use Rattle.cert_text.specs.Content.{Content}

-- a number of 32 bits
abbrev pub IsShort : ℕ → Type 0
IsShort n = n ≤ 4294967295

abbrev pub IsByte : ℕ → Type 0
IsByte b = b < 256

-- numbers of 32 bits, but for a constant's value, which has 128
abbrev pub TermFits : Term → Type 0
TermFits (Constant w v) = IsShort w × (v ≤ 340282366920938463463374607431768211455)
TermFits (Cell i) = IsShort i
TermFits (Element b n i) = IsShort b × IsShort n × IsShort i.0
TermFits (Add i j) = IsShort i.0 × IsShort j.0
TermFits (Subtract i j) = IsShort i.0 × IsShort j.0
TermFits (Multiply i j) = IsShort i.0 × IsShort j.0
TermFits (Divide i j) = IsShort i.0 × IsShort j.0
TermFits (Remainder i j) = IsShort i.0 × IsShort j.0
TermFits (And i j) = IsShort i.0 × IsShort j.0
TermFits (Or i j) = IsShort i.0 × IsShort j.0
TermFits (Xor i j) = IsShort i.0 × IsShort j.0
TermFits (Not i) = IsShort i.0
TermFits (ShiftLeft i j) = IsShort i.0 × IsShort j.0
TermFits (ShiftRight i j) = IsShort i.0 × IsShort j.0
TermFits (ShiftSigned i j) = IsShort i.0 × IsShort j.0
TermFits (Equal i j) = IsShort i.0 × IsShort j.0
TermFits (Less i j) = IsShort i.0 × IsShort j.0
TermFits (LessSigned i j) = IsShort i.0 × IsShort j.0
TermFits (Select i j k) = IsShort i.0 × IsShort j.0 × IsShort k.0
TermFits (ZeroExtend w i) = IsShort w × IsShort i.0
TermFits (SignExtend w i) = IsShort w × IsShort i.0
TermFits (Truncate w i) = IsShort w × IsShort i.0
TermFits (Bit w i) = IsShort w × IsShort i.0

abbrev pub PairFits : ℕ × ℕ → Type 0
PairFits p = IsShort p.0 × IsShort p.1

-- a chain's numbers
abbrev pub ChainInRange : Chain → Type 0
ChainInRange c = IsShort c.first × All PairFits c.pairs

-- all numbers of a certificate
pub record InRange (c : Content) : Type 0 where
  pub size : length c.hash ≡ 32
  pub bytes : All IsByte c.hash
  pub layout : IsShort c.layout
  pub terms : All TermFits c.terms
  pub formulas : All IsShort c.formulas
  pub logs : All (All ChainInRange) c.logs
