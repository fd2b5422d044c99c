-- The parser's whole state, without where it lies in memory.
use Rattle.std.specs.Prelude.{◌≡◌, ℕ, Option, None, Some, Result, Ok, Err, Box, Bool, true, false}
use Rattle.std.proofs.Common.{Global}
use Rattle.lv_base.specs.declared.fail.SourceFail.{SourceFail}
use Rattle.lv_base.specs.declared.fail.SourceFail.TheVariants as source
use Rattle.lv_base.specs.declared.fault.SourceFault.TheVariants as fault
use Rattle.c_tree.specs.View.{raw_of, items_of}
use Rattle.c_tree.specs.declared.tree.Unit.{Unit as Tree}
use Rattle.c_tree.specs.Tree as t
use Rattle.parse_stack.specs.declared.fail.StepFail.{StepFail}
use Rattle.parse_stack.specs.declared.fail.StepFail.TheVariants as fail
use Rattle.parse_machine.specs.Contexts as m
use Rattle.parse_machine.specs.Machine as ma
use Rattle.parse_values.specs.declared.modes.Mode.{Mode}
use Rattle.c_parser.specs.declared.externs.Extern.{Extern}
use Rattle.c_parser.specs.declared.externs.Phase.{Phase}
use Rattle.c_parser.specs.declared.externs.Phase.TheVariants as ph
use Rattle.c_parser.specs.declared.externs.State.{State}
use Rattle.c_parser.specs.declared.externs.Role.{Role}
use Rattle.c_parser.specs.declared.externs.Role.TheVariants as ro
use Rattle.parse_values.specs.ModeView.{mode, Fails}

abbrev pub role_of : Role → ma.Role
role_of ro.Listed = ma.listedRole
role_of ro.Semicolon = ma.semicolonRole
role_of ro.Stop = ma.stopRole
role_of ro.Other = ma.otherRole

abbrev pub extern_of : Extern → ma.Extern
extern_of x = record { extension = x.extension; at = x.at; raw = raw_of x.tokens.items }

abbrev pub option_extern : Option Extern → Option ma.Extern
option_extern None = None
option_extern (Some x) = Some (extern_of x)

abbrev pub option_mode : Option (Box Mode Global) → Option m.Mode
option_mode None = None
option_mode (Some x) = Some (mode x.value)

abbrev pub phase_of : Phase → ma.Phase
phase_of (ph.Plain x) = ma.Plain (mode x)
phase_of (ph.Both x o high) = ma.Both (extern_of x) (option_mode o) high
phase_of ph.Above = ma.Above
phase_of (ph.Skipping x) = ma.Skipping (extern_of x)

abbrev pub state_of : State → ma.State
state_of s = record { items = items_of s.items.items; names = s.names; phase = phase_of s.phase }

abbrev pub GivesState : Result State StepFail → Option ma.State → Type 0
GivesState (Ok s) o = o ≡ Some (state_of s)
GivesState (Err e) o = Fails e o

-- only for want of memory is there none
abbrev pub GivesExtern : Result Extern StepFail → ma.Extern → Type 0
GivesExtern (Ok x) y = extern_of x ≡ y
GivesExtern (Err fail.Memory) y = Unit {0}
GivesExtern (Err fail.Refused) y = ⊥

abbrev pub is_file_around : m.Around → Bool
is_file_around (m.aroundPlace m.placeFile) = true
is_file_around _ = false

abbrev pub extension_of : t.Words → Option ℕ
extension_of (t.words_and t.no_words (t.wExtension x)) = Some x
extension_of _ = None

-- What the parser answered is the machine's answer, unless memory ran out.
abbrev pub FailsWith : SourceFail → ma.Result → Type 0
FailsWith (source.Fault fault.Syntax at) r = r ≡ ma.Syntax at
FailsWith (source.Fault fault.Unsupported at) r = r ≡ ma.Unsupported at
FailsWith (source.Fault _ at) r = ⊥
FailsWith (source.Over n count) r = (r ≡ ma.TooHigh) × (n ≡ 3) × (count ≡ 201)
FailsWith source.Memory r = Unit {0}

abbrev pub Answers : Result Tree SourceFail → ma.Result → Type 0
Answers (Ok u) r = r ≡ ma.Tree (items_of u.items.items)
Answers (Err e) r = FailsWith e r

-- one token more, or the answer
abbrev pub StopsWith : SourceFail → ma.Course → Type 0
StopsWith (source.Fault fault.Syntax at) c = c ≡ ma.Over (ma.Syntax at)
StopsWith (source.Fault fault.Unsupported at) c = c ≡ ma.Over (ma.Unsupported at)
StopsWith (source.Fault _ at) c = ⊥
StopsWith (source.Over n count) c = (c ≡ ma.Over ma.TooHigh) × (n ≡ 3) × (count ≡ 201)
StopsWith source.Memory c = Unit {0}

abbrev pub Advances : Result State SourceFail → ma.Course → Type 0
Advances (Ok s) c = c ≡ ma.Going (state_of s)
Advances (Err e) c = StopsWith e c
