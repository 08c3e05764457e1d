-- The control bytes of E1381 that analyzers send: those that stand in a frame, and ENQ and EOT, which begin and end a transfer. [E5, F1]
-- Assumes nothing.
use Rattle.std.specs.Prelude.{ℕ}

abbrev pub stx : ℕ
stx = 0x02

abbrev pub etx : ℕ
etx = 0x03

abbrev pub eot : ℕ
eot = 0x04

abbrev pub enq : ℕ
enq = 0x05

abbrev pub lf : ℕ
lf = 0x0a

abbrev pub cr : ℕ
cr = 0x0d

abbrev pub etb : ℕ
etb = 0x17
