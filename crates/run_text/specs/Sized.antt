-- Labels whose numbers their fields hold.
use Rattle.std.specs.Prelude.{ℕ, ◌<◌, ◌≤◌, ◌^◌, FitsSigned, List, length}
use Rattle.std.specs.Int.{w64}
use Rattle.tap_base.specs.Lists.{Each}
use Rattle.abstract_run.specs.declared.label.Label.{Label}
use Rattle.abstract_run.specs.declared.label.Label.TheVariants as label

-- a number of at most 32 bits
abbrev pub IsShortNumber : ℕ → Type 0
IsShortNumber i = i < 2 ^ 32

abbrev pub AreBytes : List ℕ → Type 0
AreBytes bytes = Each (λ b. b < 256) bytes

-- how many bytes a datagram has at most
abbrev pub most_bytes : ℕ
most_bytes = 2048

-- the bytes of a datagram
abbrev pub AreDatagram : List ℕ → Type 0
AreDatagram bytes = (length bytes ≤ most_bytes) × AreBytes bytes

-- Each number of a label is one that its field holds, each process is one of so many, and what is damaged or forged is
-- no longer than a datagram can be. A choice is a number from -2 ^ 63 up to 2 ^ 63 - 1.
abbrev pub IsSized : ℕ → Label → Type 0
IsSized n (label.Tick p c) = (p < n) × (c < 2 ^ 64)
IsSized n (label.Reject q p i) = (q < n) × (p < n) × IsShortNumber i
IsSized n (label.Act p a choices) = (p < n) × IsShortNumber a × Each (FitsSigned w64) choices
IsSized n (label.Idle p) = p < n
IsSized n (label.Flood p) = p < n
IsSized n (label.Arrive q p) = (q < n) × (p < n)
IsSized n (label.Lose q p i) = (q < n) × (p < n) × IsShortNumber i
IsSized n (label.Copy q p i) = (q < n) × (p < n) × IsShortNumber i
IsSized n (label.Move q p i j) = (q < n) × (p < n) × IsShortNumber i × IsShortNumber j
IsSized n (label.Damage q p i bytes) = (q < n) × (p < n) × IsShortNumber i × AreDatagram bytes
IsSized n (label.Forge q p bytes) = (q < n) × (p < n) × AreDatagram bytes
IsSized n (label.Cut p i) = (p < n) × IsShortNumber i
IsSized n (label.Stop p receivers) = (p < n) × Each (λ q. q < n) receivers
IsSized n (label.Down p) = p < n
IsSized n label.Void = Unit {0}
