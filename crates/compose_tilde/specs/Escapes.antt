-- The escapes: the letter of each, what it stands for, and what may stand after the letter.
use Rattle.std.specs.Prelude.{ℕ, ◌==◌, List, [], ◌∷◌, Option}
use Rattle.std.specs.List.{find, flat_map}
use Rattle.std.specs.Option.{option_map}
use Rattle.message_show.specs.declared.text.How.TheVariants.{Kept, All}
use Rattle.compose_tilde.specs.declared.machine.Names.TheVariants.{To, Cc, Bcc}
use Rattle.compose_tilde.specs.declared.escape.Escape.{Escape}
use Rattle.compose_tilde.specs.declared.escape.Escape.TheVariants.{End, Shell, Command, Letters, Sign, LongSign, Value, Add, Subject, Header, Dead, Edit, Visual, Read, Forward, Quote, Print, Quit, Exit, Write, Pipe}
use Rattle.compose_tilde.specs.declared.escape.Row.{Row}
use Rattle.compose_tilde.specs.declared.escape.Behind.{Behind}
use Rattle.compose_tilde.specs.declared.escape.Behind.TheVariants as behind

abbrev pub row : ℕ → Escape → Row
row letter escape = record { letter = letter; escape = escape }

-- the escapes, in the order of their letters' bytes
unfoldable pub escapes : List Row
escapes =
    row 33 Shell  -- !
    ∷ row 46 End  -- .
    ∷ row 58 Command  -- :
    ∷ row 60 Read  -- <
    ∷ row 63 Letters  -- ?
    ∷ row 65 LongSign  -- A
    ∷ row 70 (Forward All)  -- F
    ∷ row 77 (Quote All)  -- M
    ∷ row 95 Command  -- _
    ∷ row 97 Sign  -- a
    ∷ row 98 (Add Bcc)  -- b
    ∷ row 99 (Add Cc)  -- c
    ∷ row 100 Dead  -- d
    ∷ row 101 Edit  -- e
    ∷ row 102 (Forward Kept)  -- f
    ∷ row 104 Header  -- h
    ∷ row 105 Value  -- i
    ∷ row 109 (Quote Kept)  -- m
    ∷ row 112 Print  -- p
    ∷ row 113 Quit  -- q
    ∷ row 114 Read  -- r
    ∷ row 115 Subject  -- s
    ∷ row 116 (Add To)  -- t
    ∷ row 118 Visual  -- v
    ∷ row 119 Write  -- w
    ∷ row 120 Exit  -- x
    ∷ row 124 Pipe  -- |
    ∷ []

-- the escape of a letter, if it stands for one
abbrev pub escape_of : ℕ → Option Escape
escape_of letter = option_map (λ r. r.escape) (find (λ r. r.letter == letter) escapes)

-- the letters of all escapes, each on a line
abbrev pub letter_lines : List ℕ
letter_lines = flat_map (λ r. r.letter ∷ 10 ∷ []) escapes

-- what may stand after the letter of an escape
abbrev pub takes : Escape → Behind
takes Shell = behind.Argument
takes Command = behind.Argument
takes Value = behind.Argument
takes Write = behind.Argument
takes Pipe = behind.Argument
takes (Add names) = behind.Words
takes Subject = behind.Anything
takes Read = behind.Source
takes (Forward how) = behind.List
takes (Quote how) = behind.List
takes other = behind.Nothing
