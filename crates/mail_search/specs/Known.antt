-- What the code knows of the keys while it matches a message.
use Rattle.std.specs.Prelude.{◌≡◌, ℕ, Bool, List, map, Option, Some, None}
use Rattle.mail_search.specs.declared.criterion.Facts.{Facts}
use Rattle.mail_search.specs.declared.matching.Held.{Held}
use Rattle.mail_search.specs.declared.matching.Held.TheVariants.{Known, Open}
use Rattle.mail_search.specs.Keys.{Key}
use Rattle.mail_search.specs.Meaning.{passes, key_holds}

-- whether a key holds that is known, or is to be asked of a test
abbrev pub known : List ℕ → Facts → Held → Bool
known text facts (Known b) = b
known text facts (Open t) = passes text facts t.now

-- the same, and an answer if there is no key
abbrev pub known_or : List ℕ → Facts → Bool → Option Held → Bool
known_or text facts otherwise None = otherwise
known_or text facts otherwise (Some h) = known text facts h

-- whether each of these keys holds
abbrev pub IsKnown : List ℕ → Facts → List Held → List Key → Type 0
IsKnown text facts held keys = map (known text facts) held ≡ map (key_holds text facts) keys
