-- `parse::HexDigits::bytes` meets its contract. The loop stores one byte after the other.
-- Assumes nothing.
use native.Mathlib.Omega.{arith}
use Prim.Native.Nat.{◌≤◌}
use Rattle.parse.proofs.Reading.{pair_digit, pair_byte, bodied_none, bodied_more, bodied_all}
use Rattle.parse.proofs.HexDigits.bytes.Goals as goal

pub loop-i-init : goal.loop-i-init
loop-i-init c = search bodied_none

pub byte_of-requires-clause-high : goal.byte_of-requires-clause-high
byte_of-requires-clause-high c =
    pair_digit _ _ _ c.requires.long c.as_chunks.ensures.front _ _ c.loop-i-test.true (omega arith) c.args.self.good

pub byte_of-requires-clause-low : goal.byte_of-requires-clause-low
byte_of-requires-clause-low c =
    pair_digit _ _ _ c.requires.long c.as_chunks.ensures.front _ _ c.loop-i-test.true (omega arith) c.args.self.good

pub loop-i-preserved : goal.loop-i-preserved
loop-i-preserved c =
    let byte = pair_byte _ _ _ c.requires.long c.as_chunks.ensures.front _ _ c.loop-i-test.true c.byte_of.ensures in
    bodied_more _ _ c.requires.long _ _ _ c.loop-i.invariant c.loop-i-test.true c.requires.most byte

pub returns : goal.returns
returns c =
    let end : c.args.m ≤ c.loop-i.i = omega arith in
    bodied_all _ _ c.requires.long _ _ c.loop-i.invariant end
