-- `lines::four_bytes` meets its contract: for each of the 16 numbers it is computed.
use Prim.Native.Nat.{ℕ, ◌*◌, ◌-◌, ◌/◌, ◌<◌}
use mathlib.Core.Path.{◌≡◌, refl, sym, ap, ◌∙◌}
use mathlib.Core.List.{List}
use lib.Bits.{bit_and}
use lib.ListN.{get_or}
use Rattle.laws.specs.Tabulate.{tabulate}
use Rattle.laws.proofs.Tabulates.{get_or-tabulate}
use Rattle.bits.specs.Bits.{digit}
use Rattle.tables.specs.inner.Lines.{bytes_of}
use Rattle.tables.proofs.lines.four_bytes.Goals as goal

-- the copies with all but one digit of each taken away, and the bytes that they make
abbrev copies : ℕ → ℕ
copies n = bit_and (n * 0x0804_0201 / 8) 0x0101_0101

abbrev made : ℕ → ℕ
made n = bytes_of 4 (λ j. digit n (3 - j))

all_made : tabulate 16 copies ≡ tabulate 16 made
unfolding tabulate bytes_of digit
all_made = refl

copies-made : (n : ℕ) → n < 16 → copies n ≡ made n
copies-made n l =
    sym (get_or-tabulate 16 copies n 0 l) ∙ ap (λ (xs : List ℕ). get_or xs n 0) all_made ∙ get_or-tabulate 16 made n 0 l

pub returns : goal.returns
returns c = copies-made c.args.nibble c.requires
