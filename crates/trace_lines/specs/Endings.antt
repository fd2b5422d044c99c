-- The lines of what ends a run.
use Rattle.std.specs.Prelude.{ℕ, List, [], ◌++◌, codes, Option, None, Some, slice_get, slice_index_or, ℤ, pos}
use Rattle.lv_base.specs.declared.fault.ErrorKind.{ErrorKind}
use Rattle.lv_base.specs.Names.{error_name}
use Rattle.slot_code.specs.declared.flat.Instruction.{Instruction}
use Rattle.slot_code.specs.declared.flat.Instruction.TheVariants as i
use Rattle.slot_code.specs.declared.reply.Ending.{Ending}
use Rattle.slot_code.specs.declared.reply.Ending.TheVariants as ending
use Rattle.run_events.specs.declared.operands.Operands.{Operands}
use Rattle.run_events.specs.declared.trail.Trail.{Trail}
use Rattle.trace_sites.specs.declared.site.Site.{Site}
use Rattle.trace_texts.specs.Names.{kind_text}
use Rattle.trace_texts.specs.Failures as failures
use Rattle.trace_lines.specs.Excerpts.{mark}
use Rattle.trace_lines.specs.Scenes.{Stage, site_at, front, name_at, object_name, offset_of, function_name}

-- ---- An error

abbrev pub element_failed : Stage → ℕ → ℤ → ℕ → List ℕ
element_failed s object index count = failures.no_element (object_name (slice_get s.objects object)) index count

abbrev pub value_absent : Stage → ℕ → List ℕ
value_absent s slot = failures.absent (function_name s slot)

abbrev pub kind_name : ErrorKind → List ℕ
kind_name kind = error_name kind

-- what failed at an instruction, with its operands
abbrev pub failed_of : Stage → Operands → ErrorKind → Instruction → List ℕ
failed_of s o kind (i.Binary slot op k at) = failures.operated o.first op o.second
failed_of s o kind (i.Update slot op k l at object) = failures.operated o.second op o.third
failed_of s o kind (i.Negate slot k at) = failures.negated o.first
failed_of s o kind (i.Change slot before by k at object) = failures.changed by o.second
failed_of s o kind (i.Element slot at object count) = element_failed s object o.first count
failed_of s o kind (i.Locate slot at object count) = element_failed s object o.first count
failed_of s o kind (i.Take slot at source needed) = value_absent s source
failed_of s o kind (i.Fail other at) = name_at s at
failed_of s o kind _ = kind_name kind

abbrev pub failed_by : Stage → Operands → ErrorKind → Option Instruction → List ℕ
failed_by s o kind None = kind_name kind
failed_by s o kind (Some x) = failed_of s o kind x

abbrev pub failed : Stage → Trail → ErrorKind → List ℕ
failed s t kind = failed_by s t.operands kind (slice_get s.instructions t.place)

-- ---- Wants

abbrev pub site_start : Option Site → Option ℕ
site_start None = None
site_start (Some site) = Some site.from

-- where an instruction stands that asks for a value or a turn
abbrev pub asked_of : Stage → ℕ → Instruction → Option ℕ
asked_of s place (i.Draw slot kind) = site_start (site_at s place)
asked_of s place (i.Fill object kind count) = offset_of (slice_get s.objects object)
asked_of s place (i.Turn at goal) = Some at
asked_of s place (i.Call at goal slot) = Some at
asked_of s place _ = None

abbrev pub asked_by : Stage → ℕ → Option Instruction → Option ℕ
asked_by s place None = None
asked_by s place (Some x) = asked_of s place x

abbrev pub asked_at : Stage → ℕ → Option ℕ
asked_at s place = asked_by s place (slice_get s.instructions place)

abbrev pub mark_for : List ℕ → Option ℕ → List ℕ
mark_for source None = []
mark_for source (Some at) = mark source at

abbrev pub ask_at : Stage → Option ℕ → List ℕ → List ℕ
ask_at s at what = failures.wanting (front s at) what ++ mark_for s.source at

-- what a run asks for at its last instruction
abbrev pub ask : Stage → ℕ → List ℕ → List ℕ
ask s place what = ask_at s (asked_at s place) what

-- the kind that an instruction draws
abbrev pub drawn_of : Instruction → List ℕ
drawn_of (i.Draw slot kind) = kind_text kind
drawn_of (i.Fill object kind count) = kind_text kind
drawn_of _ = codes "value"

abbrev pub drawn_by : Option Instruction → List ℕ
drawn_by None = codes "value"
drawn_by (Some x) = drawn_of x

-- ---- All endings but the program's end have lines

abbrev pub error_text : Stage → Trail → ErrorKind → ℕ → List ℕ
error_text s t kind at = failures.broken (front s (Some at)) kind (failed s t kind) ++ mark s.source at

abbrev pub unfit_text : Stage → ℕ → ℤ → List ℕ
unfit_text s place value = ask s place (failures.unfit value (drawn_by (slice_get s.instructions place)))

abbrev pub ending_text : Stage → Ending → Trail → List ℤ → List ℕ
ending_text s ending.Ended t values = []
ending_text s (ending.Error kind at taken) t values = error_text s t kind at
ending_text s ending.NoInput t values = ask s t.place (codes "asks for one more value")
ending_text s (ending.BadInput number) t values = unfit_text s t.place (slice_index_or values number (pos 0))
ending_text s ending.Spent t values = ask s t.place (codes "asks for one more turn")
