-- The folders and sinks in memory, by what they hold.
use Rattle.std.specs.Prelude.{ℕ, List, ◌+◌, ◌||◌, not, Bool, length, nat_lt, ◌≤◌}
use Rattle.lv_outside.specs.Mem.{Files, has_name, is_listed}
use Rattle.lv_outside.specs.declared.mem_folder.MemFolder.{MemFolder}
use Rattle.lv_outside.specs.declared.mem_sink.MemSink.{MemSink}
use Rattle.lv_outside.specs.declared.no_fault_folder.NoFaultFolder.{NoFaultFolder}
use Rattle.lv_outside.specs.declared.no_fault_sink.NoFaultSink.{NoFaultSink}

abbrev pub folder_files : MemFolder → Files
folder_files f = f.files.items

-- the numbers of the calls that fail, and how many calls there were
abbrev pub folder_fails : MemFolder → List ℕ
folder_fails f = f.fails.items

abbrev pub folder_calls : MemFolder → ℕ
folder_calls f = f.calls

-- the next call fails because its number is listed
abbrev pub fails_next : MemFolder → Bool
fails_next f = is_listed f.fails.items f.calls

-- a read fails because of its number, or because there is no file of this name
abbrev pub fails_read : MemFolder → List ℕ → Bool
fails_read f name = fails_next f || not (has_name f.files.items name)

abbrev pub no_fault_files : NoFaultFolder → Files
no_fault_files f = f.files.items

abbrev pub sink_text : MemSink → List ℕ
sink_text s = s.text.items

abbrev pub sink_room : MemSink → ℕ
sink_room s = s.room

abbrev pub sink_fails : MemSink → List ℕ
sink_fails s = s.fails.items

abbrev pub sink_calls : MemSink → ℕ
sink_calls s = s.calls

-- a put fails because of its number, or because its bytes would pass the room
abbrev pub fails_put : MemSink → List ℕ → Bool
fails_put s bytes = is_listed s.fails.items s.calls || nat_lt s.room (length s.text.items + length bytes)

abbrev pub no_fault_text : NoFaultSink → List ℕ
no_fault_text s = s.text.items

abbrev pub no_fault_room : NoFaultSink → ℕ
no_fault_room s = s.room

-- all that was put fitted into the room
abbrev pub IsWhole : NoFaultSink → Type 0
IsWhole s = s.given ≤ s.room
