-- Samples on which the lines and the answers are worked out.
use Rattle.std.specs.Prelude.{List, [], ◌∷◌}
use Rattle.ntp_capture.specs.Samples.{asked, answered}
use Rattle.ntp_capture.specs.declared.exchanges.Exchange.{Exchange}
use Rattle.ntp_capture.specs.declared.pieces.Piece.{Piece}
use Rattle.ntp_capture.specs.declared.pieces.Piece.TheVariants as piece

-- an exchange of which no two parts are alike
abbrev pub exchange : Exchange
exchange = record { ta = 10; tb = (20, 30000); te = (21, 31000000); tf = 40; stratum = 5; leap = 3 }

-- the units of a capture in which the second reply takes no request
abbrev pub pieces : List Piece
pieces = piece.Freq 2000000 ∷ piece.Record (asked 1 7) ∷ piece.Record (answered 3 7) ∷ piece.Record (answered 4 7) ∷ piece.Record (asked 5 8)
    ∷ piece.Record (answered 6 8) ∷ []
