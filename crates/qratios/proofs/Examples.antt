-- The definitions compute: roundings at a tie.
-- Assumes nothing.
use Rattle.std.proofs.Common.{◌≡◌, refl}
use Rattle.qratios.specs.Single.{single}

-- halfway between two numbers: the even significand is the lower one
tie_down : single 16_777_217 1 ≡ record { sig = 8_388_608; times = 1; over = 0 }
unfolding single
tie_down = refl

-- and here the upper one
tie_up : single 16_777_219 1 ≡ record { sig = 8_388_610; times = 1; over = 0 }
unfolding single
tie_up = refl

-- halfway to 2 ^ 25 the significand carries
tie_carried : single 33_554_431 1 ≡ record { sig = 8_388_608; times = 2; over = 0 }
unfolding single
tie_carried = refl
