-- What the program's reading of a line stands for.
use Rattle.compose_tilde.specs.declared.reading.Written as code
use Rattle.compose_tilde.specs.declared.reading.Written.TheVariants.{Plain, Alone, Escaped}
use Rattle.compose_tilde.specs.Reading.{Written, plain, alone, escaped}

-- the line that was read
abbrev pub written_of : code.Written → Written
written_of (Plain bytes) = plain bytes.now
written_of Alone = alone
written_of (Escaped letter rest) = escaped letter rest.now
