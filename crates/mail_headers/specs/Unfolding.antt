-- The bytes of an unfolded value, where they stand.
use Rattle.std.specs.Prelude.{ℕ, List}
use Rattle.mail_headers.specs.declared.unfold.ValuePlace.{ValuePlace}
use Rattle.mail_headers.specs.declared.unfold.ValuePlace.TheVariants.{Part, Joined}

abbrev pub bytes_at : ValuePlace → List ℕ
bytes_at (Part part) = part.now
bytes_at (Joined text) = text
