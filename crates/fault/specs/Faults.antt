-- The number and the place of each fault. Assumes nothing.
use Rattle.std.specs.Prelude.{ℕ, ◌+◌}
use Rattle.routing.specs.Refusals.{told_by}
use Rattle.routing.specs.declared.refusal.Refusal.{Refusal}
use Rattle.routing.specs.declared.refusal.Layer.TheVariants.{File, Writer}
use Rattle.routing.specs.declared.widths.WidthsFault.{WidthsFault}
use Rattle.routing.specs.declared.widths.WidthsFault.TheVariants as v
use Rattle.fault.specs.declared.reading.FileFault.{FileFault}
use Rattle.fault.specs.declared.reading.FileFault.TheVariants as f
use Rattle.fault.specs.declared.writing.WriteFault.{WriteFault}
use Rattle.fault.specs.declared.writing.WriteFault.TheVariants as w
use Rattle.fault.specs.declared.writing.RewriteFault.{RewriteFault}
use Rattle.fault.specs.declared.writing.RewriteFault.TheVariants as r

abbrev pub file_reason : FileFault → ℕ × ℕ
file_reason (f.Short length) = (1, length)
file_reason (f.Fixed byte) = (2, byte)
file_reason f.Fields = (3, 1)
file_reason f.Kind = (4, 2)
file_reason f.Rules = (5, 4)
file_reason (f.Offset byte) = (6, byte)
file_reason (f.Length length) = (7, length)
file_reason (f.Width byte) = (8, byte)
file_reason (f.Ends byte) = (9, byte)

abbrev pub write_reason : WriteFault → ℕ × ℕ
write_reason w.Fields = (3, 1)
write_reason w.Kind = (4, 2)
write_reason w.Rules = (5, 4)
write_reason (w.Width field) = (8, field)
write_reason (w.Ends field) = (9, field)
write_reason (w.Room needed) = (16, needed)
write_reason (w.Count done) = (17, done)

-- a fault of the widths of a file, told by its byte
abbrev pub file_of : WidthsFault → FileFault
file_of v.Fields = f.Fields
file_of (v.Width field) = f.Width (15 + field)

-- a fault of the widths, as the writer tells it
abbrev pub write_of : WidthsFault → WriteFault
write_of v.Fields = w.Fields
write_of (v.Width field) = w.Width field

-- what each fault of writing a file again tells
abbrev pub rewrite_told : RewriteFault → Refusal
rewrite_told (r.Read fault) = told_by File (file_reason fault)
rewrite_told (r.Write fault) = told_by Writer (write_reason fault)
