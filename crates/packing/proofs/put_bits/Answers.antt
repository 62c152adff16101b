-- `put_bits` meets its contract: each turn puts the next 32 bits as one field, and the bits that are left are one field too.
use Rattle.std.proofs.Common.{◌≡◌, ◌+◌, ◌-◌, length, refl, arith}
use Rattle.packing.proofs.Parts.{putting-none, putting-open, putting-put}
use Rattle.packing.proofs.Numbers.{part-long, number-part, putting-number}
use Rattle.packing.proofs.put_bits.Goals as goal

pub loop-i-init : goal.loop-i-init
loop-i-init c = (omega arith, putting-none _ _ c.requires.fact.0)

pub loop-i-preserved : goal.loop-i-preserved
loop-i-preserved c =
    let l = c.loop-i in
    let number = number-part c.args.values.now l.i 32 (l.i + 32 - l.i) c.loop-i-test.true (omega arith) c.number_of.ensures.0 in
    (c.loop-i-test.true, putting-number 32 l.invariant.1 c.requires.values_len_bound.1 c.loop-i-test.true number c.write-window.ensures)

pub returns : goal.returns
returns c =
    let l = c.loop-i in
    let values = c.args.values.now in
    let rest = length values - l.i in
    let all : l.i + rest ≡ length values = omega (arith, l.invariant.0) in
    let number = number-part values l.i rest rest (omega (arith, all)) refl c.number_of-2.ensures.0 in
    let put = rw (part-long values l.i rest (omega (arith, all))) at c.write.ensures in
    let P = rw all at (putting-number rest l.invariant.1 c.requires.values_len_bound.1 (omega (arith, all)) number put) in
    (putting-open (omega arith) P, putting-put (omega arith) P)
