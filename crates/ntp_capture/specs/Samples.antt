-- Samples on which the laws of the definitions are worked out.
use Rattle.std.specs.Prelude.{ℕ, true, false, List, [], ◌∷◌, ◌++◌, replicate, codes}
use Rattle.ntp_capture.specs.declared.exchanges.Exchange.{Exchange}
use Rattle.ntp_capture.specs.declared.pieces.Record.{Record}

-- eight bytes, of which the last is this
abbrev pub mark : ℕ → List ℕ
mark n = replicate 7 0 ++ n ∷ []

-- 1700000000.5 s since 1970, and the fraction behind it
abbrev pub half : List ℕ
half = 232 ∷ 254 ∷ 111 ∷ 128 ∷ 128 ∷ 0 ∷ 0 ∷ 0 ∷ []

abbrev pub behind_half : List ℕ
behind_half = 232 ∷ 254 ∷ 111 ∷ 128 ∷ 128 ∷ 0 ∷ 0 ∷ 5 ∷ []

-- the last fraction of the second before 1970
abbrev pub early : List ℕ
early = 131 ∷ 170 ∷ 126 ∷ 127 ∷ 255 ∷ 255 ∷ 255 ∷ 255 ∷ []

-- a packet with these two first bytes and these three times
abbrev pub packet : ℕ → ℕ → List ℕ → List ℕ → List ℕ → List ℕ
packet first stratum origin receive transmit = first ∷ stratum ∷ replicate 22 0 ++ origin ++ receive ++ transmit

-- a request that left at a count with this mark, and a reply to it that came at a count
abbrev pub asked : ℕ → ℕ → Record
asked count n = record { count = count; sent = true; packet = packet 35 0 (mark 0) (mark 0) (mark n) }

abbrev pub answered : ℕ → ℕ → Record
answered count n = record { count = count; sent = false; packet = packet 36 1 (mark n) half half }

abbrev pub exchange : ℕ → ℕ → Exchange
exchange ta tf = record { ta = ta; tb = (1700000000, 500000000); te = (1700000000, 500000000); tf = tf; stratum = 1; leap = 0 }

-- the head for a counter of 10^9 Hz
abbrev pub head : List ℕ
head = codes "RADCAP01" ++ 0 ∷ 0 ∷ 0 ∷ 0 ∷ 59 ∷ 154 ∷ 202 ∷ 0 ∷ []

-- a record of a packet at count 5
abbrev pub with_packet : ℕ → List ℕ → List ℕ
with_packet direction bytes = mark 5 ++ direction ∷ 0 ∷ 48 ∷ bytes

-- a capture of two records, the first with a byte behind its packet
abbrev pub first_packet : List ℕ
first_packet = packet 35 0 (mark 1) (mark 2) (mark 3)

abbrev pub second_packet : List ℕ
second_packet = packet 36 1 (mark 3) half half

abbrev pub capture : List ℕ
capture = head ++ (mark 5 ++ 0 ∷ 0 ∷ 49 ∷ first_packet ++ 77 ∷ []) ++ with_packet 1 second_packet
