-- `opening::header_of` meets its contract: a file of fewer than eight bytes is read with zeros behind it, which have no part in the field.
use mathlib.Core.Path.{◌≡◌, ap, ◌∙◌}
use Rattle.bits.specs.declared.reader.Field.{Field}
use Rattle.bits.proofs.Fields.{field-zeros}
use Rattle.tables.proofs.opening.header_of.Goals as goal

value_of : {x y : Field} → x ≡ y → x.value ≡ y.value
value_of e = ap (λ (x : Field). x.value) e

pub returns-then-file-lt8 : goal.returns-then-file-lt8
returns-then-file-lt8 c = value_of c.next_field.ensures ∙ field-zeros c.with_zeros-longer.ensures 0 40
