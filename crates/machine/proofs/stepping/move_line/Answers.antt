-- `move_line`: with no frame held nothing is done; else the line is moved by its width, in bytes that read as the file.
use Rattle.machine.proofs.Tests.{line_stays}
use Rattle.machine.proofs.stepping.move_line.Goals as goal

pub returns-then-clock-lt1 : goal.returns-then-clock-lt1
returns-then-clock-lt1 c = line_stays _ _ _ _ _ _ c.if-clock-lt1.true
