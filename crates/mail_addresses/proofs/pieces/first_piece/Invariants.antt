use Rattle.std.proofs.Common.{List, length}
use Rattle.mail_addresses.specs.Lexical.{Lexeme}
use Rattle.mail_addresses.proofs.PieceReading.{IsPieceFront}
use Rattle.mail_addresses.proofs.pieces.first_piece.Given as goal

-- the tokens so far are the front of the first piece
abbrev pub invariant-loop-token : goal.invariant-loop-token
invariant-loop-token l = (piece : List Lexeme) × IsPieceFront l.value piece l.place l.rest

abbrev pub decreases-loop-token : goal.decreases-loop-token
decreases-loop-token l = length l.rest
