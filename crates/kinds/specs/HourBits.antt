-- The hours of a kind as the bits of a number: bit h is 1 where h is one of them. Assumes nothing.
use Rattle.std.specs.Prelude.{ℕ, ◌+◌, ◌-◌, ◌^◌}
use Rattle.rules.specs.Kinds.{Kind, kR, kD, kH, kU, kE, kV}

-- 0 to 24; 0; 1 to 24; 0; 0 to 22; 0, 6, 12 and 18
abbrev pub hour_bits : Kind → ℕ
hour_bits kR = 2 ^ 25 - 1
hour_bits kD = 2 ^ 0
hour_bits kH = 2 ^ 25 - 2
hour_bits kU = 2 ^ 0
hour_bits kE = 2 ^ 23 - 1
hour_bits kV = 2 ^ 0 + 2 ^ 6 + 2 ^ 12 + 2 ^ 18
