-- What a byte of a pair makes of a place.
use Rattle.std.specs.Prelude.{ℕ, ◌≡◌, false}
use Rattle.cert_text.specs.declared.place.Place.{Place}
use Rattle.cert_text.specs.declared.place.Part.{Part}
use Rattle.cert_text.specs.declared.place.Part.TheVariants.{Digits as PDigits}
use Rattle.cert_text.specs.declared.place.Slot.TheVariants.{Pivot as SPivot, Clause as SClause}
use Rattle.cert_text.specs.declared.field.More.TheVariants.{Part as MPart, Number as MNumber}
use Rattle.cert_text.specs.declared.steps.Act.TheVariants.{Nothing, Pairs}
use Rattle.cert_text.specs.declared.steps.Next.TheVariants.{Part as NPart}
use Rattle.cert_text.specs.declared.pairs.Quick.{Quick}
use Rattle.cert_text.specs.declared.pairs.Quick.TheVariants.{Digits, Pivot, Pair, Other}
use Rattle.cert_text.specs.declared.pairs.Told.{Told}
use Rattle.cert_text.specs.declared.pairs.Told.TheVariants.{Digits as TDigits, Number as TNumber, Other as TOther}
use Rattle.cert_text.specs.Fields.{number_more}
use Rattle.cert_text.specs.Steps.{moves, step_of}

-- a digit more of a number, or the blank behind it
abbrev pub IsTold : Part → ℕ → Told → Type 0
IsTold part byte (TDigits value) = number_more part byte ≡ MPart (PDigits value)
IsTold part byte (TNumber value) = (byte ≡ 32) × (number_more part byte ≡ MNumber value)
IsTold part byte TOther = byte ≡ byte

-- a digit of a number, the pivot of a pair, or a pair that another one follows
abbrev pub IsQuick : Place → Part → ℕ → Quick → Type 0
IsQuick place part byte (Digits value) = step_of place part byte ≡ NPart (PDigits value)
IsQuick place part byte (Pivot pivot) = step_of place part byte ≡ moves (SClause pivot) place.left place.chains Nothing false false
IsQuick place part byte (Pair pivot clause) = step_of place part byte ≡ moves SPivot place.left place.chains (Pairs pivot clause) false false
IsQuick place part byte Other = byte ≡ byte
